use Rattle.listing.proofs.Writing.{put_within, put_more}
use Rattle.listing.specs.Listing.{tables}
use native.Mathlib.Omega.{arith}
use Rattle.listing.proofs.put_tables.Goals as goal

pub returns : goal.returns
unfolding tables
returns c = let w = put_more (omega arith) (put_more (omega arith) (put_more (omega arith) c.put_bytes.ensures c.put_places.ensures) c.put_bytes-2.ensures) c.put_records.ensures in
    put_within (omega (arith, w.written.fits)) w
