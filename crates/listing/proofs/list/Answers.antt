use Rattle.listing.proofs.Listing.{listing_long, listing_short, listed_as}
use Rattle.translator.proofs.Handed.{counted_fits}
use native.Mathlib.Omega.{arith}
use Rattle.listing.proofs.list.Goals as goal

pub returns-then-bytes-gt-LONGEST : goal.returns-then-bytes-gt-LONGEST
returns-then-bytes-gt-LONGEST c = let e = c.new-text.ensures in
    listed_as (listing_long _ c.if-bytes-gt-LONGEST.true) (rw (e.bytes, e.empty) at c.put_refusal.ensures.written)

pub put_answer-requires : goal.put_answer-requires
put_answer-requires c = let f = counted_fits _ _ _ _ _ c.translate-answer.ensures in
    let e = c.new-text.ensures in (omega (arith, f.0), omega (arith, f.1), omega arith, omega arith, rw (e.bytes, e.empty) (omega arith))

pub returns : goal.returns
returns c = let e = c.new-text.ensures in
    listed_as (listing_short _ c.if-bytes-gt-LONGEST.false c.translate-answer.ensures) (rw (e.bytes, e.empty) at c.put_answer.ensures.written)
