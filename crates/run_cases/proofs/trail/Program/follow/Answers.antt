use mathlib.Core.Path.{ap}
use mathlib.Core.Bool.{not}
use Rattle.run_cases.proofs.Trails.{follow_on, follow_no, follow_end}
use Rattle.run_cases.proofs.trail.Program.follow.Goals as goal

pub returns-then-not-pass : goal.returns-then-not-pass
returns-then-not-pass c = follow_no _ _ _ _ _ _ _ _ _ c.part-entry.ensures c.loop-k-test.true c.pass.ensures (ap not c.if-not-pass.true) c.loop-k.invariant

pub loop-k-preserved : goal.loop-k-preserved
loop-k-preserved c = follow_on _ _ _ _ _ _ _ _ _ c.part-entry.ensures c.loop-k-test.true c.pass.ensures (ap not c.if-not-pass.false) c.loop-k.invariant

pub returns : goal.returns
returns c = follow_end _ _ _ _ _ _ _ _ c.loop-k.auto.k-end c.loop-k-test.false c.loop-k.invariant
