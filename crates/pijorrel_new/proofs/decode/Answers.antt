use Rattle.windows.proofs.Ring.{in_zeroed}
use Rattle.model.specs.Run.{zeroed}
use Rattle.model.specs.StateBytes.{machine_in, new_in}
use Rattle.pijorrel_new.proofs.decode.Goals as goal

pub returns : goal.returns
unfolding new_in machine_in zeroed
returns c = λ a. rw (c.end_in.ensures, c.read_number-2.ensures, c.read_number.ensures, c.flags_in.ensures, c.file_in.ensures, in_zeroed)
