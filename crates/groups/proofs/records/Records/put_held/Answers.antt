use Rattle.model.specs.Records.{numbered}
use Rattle.groups.specs.Layout.{recorded}
use Rattle.groups.proofs.Grouping.{faults_held, traps_held, others_held}
use Rattle.groups.proofs.Putting.{puts_one, puts_two, room_one, room_first, room_second}
use mathlib.Core.Path.{refl}
use Rattle.groups.proofs.records.Records.put_held.Goals as goal

pub push-requires : goal.push-requires
push-requires c = room_one c.args.self.now (faults_held _ _ c.in-Faults.is) c.requires

pub push-requires-in-Traps : goal.push-requires-in-Traps
push-requires-in-Traps c = room_one c.args.self.now (traps_held _ _ c.in-Traps.is) c.requires

pub push-requires-in_default : goal.push-requires-in_default
push-requires-in_default c = room_first c.args.self.now (others_held _ _ _ c.in_default.not-Faults c.in_default.not-Traps) c.requires

pub push-requires-in_default-2 : goal.push-requires-in_default-2
push-requires-in_default-2 c = room_second c.args.self.now (others_held _ _ _ c.in_default.not-Faults c.in_default.not-Traps) c.requires c.push-in_default.ensures

pub returns-in-Faults : goal.returns-in-Faults
unfolding numbered recorded
returns-in-Faults c = λ first. puts_one first (faults_held _ _ c.in-Faults.is) refl c.push.ensures

pub returns-in-Traps : goal.returns-in-Traps
unfolding numbered recorded
returns-in-Traps c = λ first. puts_one first (traps_held _ _ c.in-Traps.is) refl c.push-in-Traps.ensures

pub returns-in_default : goal.returns-in_default
unfolding numbered recorded
returns-in_default c = λ first. puts_two first (others_held _ _ _ c.in_default.not-Faults c.in_default.not-Traps) refl refl c.push-in_default.ensures c.push-in_default-2.ensures
