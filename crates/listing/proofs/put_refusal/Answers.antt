use Rattle.listing.proofs.Writing.{put_more}
use Rattle.listing.specs.Listing.{refusal_text}
use native.Mathlib.Omega.{arith}
use Rattle.listing.proofs.put_refusal.Goals as goal

pub returns : goal.returns
unfolding refusal_text
returns c = put_more (omega arith) c.put_bytes.ensures c.put_line.ensures
