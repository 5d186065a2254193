use Rattle.model.specs.Records.{numbers_in}
use Rattle.model.specs.Translation.{first_bad}
use lib.ListN.{drop, length}
use mathlib.Core.Path.{◌≡◌}
use Rattle.translator.proofs.check_entries.Given as goal

abbrev pub invariant-loop-j : goal.invariant-loop-j
invariant-loop-j l = first_bad l.image.base (length l.image.bytes.now) l.j (drop l.j (numbers_in l.entries))
    ≡ first_bad l.image.base (length l.image.bytes.now) 0 (numbers_in l.entries)
