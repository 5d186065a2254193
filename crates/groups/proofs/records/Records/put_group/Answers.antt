use Rattle.model.specs.Records.{numbered}
use Rattle.groups.specs.Layout.{recorded}
use Rattle.groups.proofs.Grouping.{row_outside, row_held, row_pair}
use Rattle.groups.proofs.Putting.{puts_one, room_one}
use mathlib.Core.Path.{refl}
use Rattle.groups.proofs.records.Records.put_group.Goals as goal

pub push-requires : goal.push-requires
push-requires c = room_one c.args.self.now (row_outside _ _ _ _ c.address-p.ensures c.word.ensures c.in_default.is) c.requires.1

pub returns-in_default : goal.returns-in_default
unfolding numbered recorded
returns-in_default c = puts_one _ (row_outside _ _ _ _ c.address-p.ensures c.word.ensures c.in_default.is) refl c.push.ensures

pub put_held-requires : goal.put_held-requires
put_held-requires c = rw (← row_held _ _ _ _ c.address-p.ensures c.word.ensures c.in-Some.is c.read_flow-flow.ensures c.is_held.ensures c.if-is_held.true) c.requires.1

pub returns-then-is_held : goal.returns-then-is_held
returns-then-is_held c = rw (row_held _ _ _ _ c.address-p.ensures c.word.ensures c.in-Some.is c.read_flow-flow.ensures c.is_held.ensures c.if-is_held.true) (c.put_held.ensures _)

pub put_word-requires : goal.put_word-requires
put_word-requires c = rw (← row_pair _ _ _ _ c.address-p.ensures c.word.ensures c.in-Some.is c.read_flow-flow.ensures c.is_held.ensures c.next.ensures c.if-is_held.false) c.requires.1

pub returns-else-is_held : goal.returns-else-is_held
returns-else-is_held c = rw (row_pair _ _ _ _ c.address-p.ensures c.word.ensures c.in-Some.is c.read_flow-flow.ensures c.is_held.ensures c.next.ensures c.if-is_held.false) c.put_word.ensures
