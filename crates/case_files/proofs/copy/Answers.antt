use Rattle.case_files.proofs.Areas.{copied_done}
use native.Mathlib.Omega.{arith}
use Rattle.case_files.proofs.copy.Goals as goal

pub returns : goal.returns
returns c = rw c.copy_from_slice.ensures.after (copied_done c.min-n.result _ c.args.from.now c.args.to.now c.min-n.ensures (omega arith) (omega arith) (omega arith))
