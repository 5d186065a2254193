use Rattle.std.proofs.Common.{refl, ◌∙◌, arith}
use Rattle.std.proofs.lemmas.Slice.{put_mid-paste}
use Rattle.numbers.proofs.Number.{pasted}
use Rattle.numbers.specs.Number.{put_number}
use Rattle.numbers.proofs.write_number.Goals as goal

pub returns : goal.returns
unfolding put_number
returns c =
    put_mid-paste _ _ _ _ _ 4 (c.copy_from_slice.ensures.after ∙ c.to_be_bytes.ensures) (omega arith) refl ∙ pasted _ _ _ _ _ _ c.requires
