use Rattle.listing.proofs.Lines.{place_turn, no_place_lines}
use Rattle.listing.proofs.Writing.{goes_on, written_end}
use Rattle.listing.specs.Listing.{place_lines}
use lib.ListN.{length}
use native.Mathlib.Omega.{arith}
use mathlib.Core.Path.{◌∙◌}
use Prim.Native.Nat.{◌+◌, ◌-◌, ◌≤◌}
use Rattle.listing.proofs.put_places.Goals as goal

pub loop-i-preserved : goal.loop-i-preserved
loop-i-preserved c = let b = c.loop-i in
    let w = c.put_line.ensures.written in
    let o : b.text.len ≤ length b.text.out.now = omega arith in
    let z = place_turn c.args.places.now c.args.count b.i c.loop-i-test.true c.number-p.ensures c.number-n.ensures c.number-kind.ensures c.number-first.ensures in
    let turn = goes_on (place_lines c.args.places.now (c.args.count - (b.i + 1)) (b.i + 1)) _ _ o w (rw z at b.invariant.3) (rw z at b.invariant.4) in
    (c.put_line.ensures.same_reference ∙ b.invariant.0, w.kept ∙ b.invariant.1, omega (arith, w.end, w.fits), turn.0, turn.1)

pub returns : goal.returns
returns c = let b = c.loop-i in
    let z = no_place_lines c.args.places.now c.args.count b.i c.loop-i-test.false in
    record { same_reference = b.invariant.0; written = written_end _ (rw z at b.invariant.3) (rw z at b.invariant.4) (omega arith) b.invariant.1 }
