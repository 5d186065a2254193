use Rattle.model.specs.Records.{numbered}
use Rattle.groups.specs.Layout.{recorded}
use Rattle.groups.proofs.Grouping.{faults_group, continues_group, traps_group, calls_group, branches_group, jumps_group}
use Rattle.groups.proofs.Putting.{puts_one, puts_two, room_one, room_first, room_second}
use mathlib.Core.Path.{refl}
use Rattle.groups.proofs.records.Records.put_word.Goals as goal

pub push-requires : goal.push-requires
push-requires c = room_one c.args.self.now (faults_group _ _ _ c.in-Faults.is) c.requires

pub returns-in-Faults : goal.returns-in-Faults
unfolding numbered recorded
returns-in-Faults c = puts_one _ (faults_group _ _ _ c.in-Faults.is) refl c.push.ensures

pub push-requires-in-Continues : goal.push-requires-in-Continues
push-requires-in-Continues c = room_first c.args.self.now (continues_group _ _ _ c.in-Continues.is) c.requires

pub push-requires-in-Continues-2 : goal.push-requires-in-Continues-2
push-requires-in-Continues-2 c = room_second c.args.self.now (continues_group _ _ _ c.in-Continues.is) c.requires c.push-in-Continues.ensures

pub returns-in-Continues : goal.returns-in-Continues
unfolding numbered recorded
returns-in-Continues c = puts_two _ (continues_group _ _ _ c.in-Continues.is) refl (rw c.of_plain.ensures) c.push-in-Continues.ensures c.push-in-Continues-2.ensures

pub push-requires-in-Traps : goal.push-requires-in-Traps
push-requires-in-Traps c = room_one c.args.self.now (traps_group _ _ _ c.in-Traps.is) c.requires

pub returns-in-Traps : goal.returns-in-Traps
unfolding numbered recorded
returns-in-Traps c = puts_one _ (traps_group _ _ _ c.in-Traps.is) refl c.push-in-Traps.ensures

pub push-requires-in-Calls : goal.push-requires-in-Calls
push-requires-in-Calls c = room_first c.args.self.now (calls_group _ _ _ c.in-Calls.is) c.requires

pub push-requires-in-Calls-2 : goal.push-requires-in-Calls-2
push-requires-in-Calls-2 c = room_second c.args.self.now (calls_group _ _ _ c.in-Calls.is) c.requires c.push-in-Calls.ensures

pub returns-in-Calls : goal.returns-in-Calls
unfolding numbered recorded
returns-in-Calls c = puts_two _ (calls_group _ _ _ c.in-Calls.is) refl (rw (c.of.ensures, c.target.ensures)) c.push-in-Calls.ensures c.push-in-Calls-2.ensures

pub put_branch-requires : goal.put_branch-requires
put_branch-requires c = rw (c.target-in-Branches.ensures, ← branches_group c.args.word c.args.p.0 c.args.n.0 c.in-Branches.is) c.requires

pub returns-in-Branches : goal.returns-in-Branches
returns-in-Branches c = rw (branches_group c.args.word c.args.p.0 c.args.n.0 c.in-Branches.is, ← c.target-in-Branches.ensures) c.put_branch.ensures

pub push-requires-in-Jumps : goal.push-requires-in-Jumps
push-requires-in-Jumps c = room_first c.args.self.now (jumps_group _ _ _ c.in-Jumps.is) c.requires

pub push-requires-in-Jumps-2 : goal.push-requires-in-Jumps-2
push-requires-in-Jumps-2 c = room_second c.args.self.now (jumps_group _ _ _ c.in-Jumps.is) c.requires c.push-in-Jumps.ensures

pub returns-in-Jumps : goal.returns-in-Jumps
unfolding numbered recorded
returns-in-Jumps c = puts_two _ (jumps_group _ _ _ c.in-Jumps.is) refl (rw c.of-in-Jumps.ensures) c.push-in-Jumps.ensures c.push-in-Jumps-2.ensures
