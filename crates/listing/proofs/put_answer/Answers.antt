use Rattle.listing.proofs.Writing.{put_within}
use Rattle.translator.specs.Handing.{places_counted, records_counted}
use Rattle.listing.specs.Listing.{answer_text}
use native.Mathlib.Omega.{arith}
use Rattle.listing.proofs.put_answer.Goals as goal

pub put_tables-requires : goal.put_tables-requires
unfolding places_counted records_counted
put_tables-requires c = let e = c.in-Ok.is in
    let p = rw e at c.requires.0 in
    let q = rw e at c.requires.1 in
    (p, q, omega (arith, p, q, c.requires.2, c.requires.3, c.requires.4))

pub returns-in-Ok : goal.returns-in-Ok
unfolding answer_text places_counted records_counted
returns-in-Ok c = let e = c.in-Ok.is in
    let p = rw e at c.requires.0 in
    let q = rw e at c.requires.1 in
    let w = c.put_tables.ensures in
    rw e (put_within (omega (arith, w.written.fits, p, q, c.requires.2, c.requires.3)) w)

pub returns-in-Err : goal.returns-in-Err
unfolding answer_text
returns-in-Err c = rw (c.in-Err.is, ← c.numbers-number.ensures, ← c.from.ensures) (put_within (omega (arith, c.put_refusal.ensures.written.fits)) c.put_refusal.ensures)
