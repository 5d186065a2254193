use Rattle.machine.specs.Ends.{answered, live, settle}
use mathlib.Core.Path.{ap}
use Rattle.model.specs.Records.{record_of}
use Rattle.model.specs.NewCore.{does_word, does}
use Rattle.new_core.proofs.Records.{read_as, no_kind, held_alone}
use Rattle.new_core.proofs.Translation.obey.Goals as goal

pub returns-in-1 : goal.returns-in-1
unfolding does record_of does_word
returns-in-1 c = rw (read_as _ _ _ _ _ c.requires.0 c.read_number-kind.ensures c.read_number-first.ensures, c.in-1.is, ← c.read_instruction.ensures) c.do_word.ensures

pub returns-in-2 : goal.returns-in-2
unfolding does record_of answered settle
returns-in-2 c = rw (read_as _ _ _ _ _ c.requires.0 c.read_number-kind.ensures c.read_number-first.ensures, c.in-2.is) (ap live (c.link.ensures _))

pub returns-in-3 : goal.returns-in-3
unfolding does record_of
returns-in-3 c = rw (read_as _ _ _ _ _ c.requires.0 c.read_number-kind.ensures c.read_number-first.ensures, c.in-3.is, held_alone _ _ _ _ _ c.read_jmpl.ensures, ← c.read_number.ensures) (c.hold.ensures _)

pub returns-in-4 : goal.returns-in-4
unfolding does record_of
returns-in-4 c = rw (read_as _ _ _ _ _ c.requires.0 c.read_number-kind.ensures c.read_number-first.ensures, c.in-4.is, ← c.read_number-in-4.ensures) (c.choose.ensures _ _)

pub returns-in-5 : goal.returns-in-5
unfolding does record_of answered settle
returns-in-5 c = rw (read_as _ _ _ _ _ c.requires.0 c.read_number-kind.ensures c.read_number-first.ensures, c.in-5.is) (ap live (c.go_to.ensures _ _))

pub returns-in-6 : goal.returns-in-6
unfolding does record_of
returns-in-6 c = rw (read_as _ _ _ _ _ c.requires.0 c.read_number-kind.ensures c.read_number-first.ensures, c.in-6.is) (c.go_held.ensures _ _)

pub returns-in-7 : goal.returns-in-7
unfolding does record_of answered settle
returns-in-7 c = rw (read_as _ _ _ _ _ c.requires.0 c.read_number-kind.ensures c.read_number-first.ensures, c.in-7.is, ← c.read_number-in-7.ensures, ← c.stop_as.ensures)

pub returns-in_default : goal.returns-in_default
unfolding does answered settle
returns-in_default c = rw (read_as _ _ _ _ _ c.requires.0 c.read_number-kind.ensures c.read_number-first.ensures, no_kind _ _ _ c.in_default.in_default-own.rest, c.bad.ensures)
