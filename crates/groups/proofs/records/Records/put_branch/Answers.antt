use Rattle.model.specs.Records.{numbered}
use Rattle.groups.specs.Layout.{recorded}
use Rattle.groups.proofs.Grouping.{never_group, always_group, annulled_group, depends_group}
use Rattle.groups.proofs.Putting.{puts_one, puts_two, room_one, room_first, room_second}
use native.Mathlib.Omega.{arith}
use Rattle.groups.proofs.records.Records.put_branch.Goals as goal

pub push-requires : goal.push-requires
push-requires c = room_one c.args.self.now (never_group _ _ _ _ c.in-0.is) c.requires

pub returns-in-0 : goal.returns-in-0
unfolding numbered recorded
returns-in-0 c = puts_one _ (never_group _ _ _ _ c.in-0.is) (rw (c.of_plain.ensures, c.untaken.ensures)) c.push.ensures

pub push-requires-in-8 : goal.push-requires-in-8
push-requires-in-8 c = room_one c.args.self.now (annulled_group _ _ _ _ c.in-8.is c.if-annul.true) c.requires

pub returns-in-8 : goal.returns-in-8
unfolding numbered recorded
returns-in-8 c = puts_one _ (annulled_group _ _ _ _ c.in-8.is c.if-annul.true) (rw c.of_plain-in-8.ensures) c.push-in-8.ensures

pub push-requires-in-8-2 : goal.push-requires-in-8-2
push-requires-in-8-2 c = room_one c.args.self.now (always_group _ _ _ _ c.in-8.is c.if-annul.false) c.requires

pub returns-in-8-2 : goal.returns-in-8-2
unfolding numbered recorded
returns-in-8-2 c = puts_one _ (always_group _ _ _ _ c.in-8.is c.if-annul.false) (rw c.of.ensures) c.push-in-8-2.ensures

pub push-requires-in_default : goal.push-requires-in_default
push-requires-in_default c = room_first c.args.self.now (depends_group _ _ _ _ (λ e. omega arith) (λ e. omega arith)) c.requires

pub push-requires-in_default-2 : goal.push-requires-in_default-2
push-requires-in_default-2 c = room_second c.args.self.now (depends_group _ _ _ _ (λ e. omega arith) (λ e. omega arith)) c.requires c.push-in_default.ensures

pub returns-in_default : goal.returns-in_default
unfolding numbered recorded
returns-in_default c = puts_two _ (depends_group _ _ _ _ (λ e. omega arith) (λ e. omega arith)) (rw c.of-taken.ensures)
    (rw (c.of_plain-other.ensures, c.untaken-in_default.ensures)) c.push-in_default.ensures c.push-in_default-2.ensures
