use Rattle.windows.proofs.Ring.{in_zeroed}
use Rattle.model.specs.Run.{zeroed}
use Rattle.model.specs.StateBytes.{machine_in, old_in}
use Rattle.pijorrel_old.proofs.decode.Goals as goal

pub returns : goal.returns
unfolding old_in machine_in zeroed
returns c = λ a. rw (c.end_in.ensures, c.read_number-3.ensures, c.read_number-2.ensures, c.read_number.ensures, c.flags_in.ensures, c.file_in.ensures, in_zeroed)
