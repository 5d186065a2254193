use Rattle.listing.specs.Text.{inserted}
use Rattle.listing.specs.Listing.{place_lines}
use lib.ListN.{length}
use mathlib.Core.Path.{◌≡◌}
use Prim.Native.Nat.{◌+◌, ◌*◌, ◌-◌, ◌≤◌}
use Rattle.listing.proofs.put_places.Given as goal

abbrev pub invariant-loop-i : goal.invariant-loop-i
invariant-loop-i l = (l.text.out.ghost_name ≡ l.initial.text.out.ghost_name) × (length l.text.out.now ≡ length l.initial.text.out.now) × (l.text.len ≤ l.initial.text.len + 105 * l.i)
    × (inserted l.text.out.now l.text.len (place_lines l.places (l.count - l.i) l.i) ≡ inserted l.initial.text.out.now l.initial.text.len (place_lines l.places l.count 0))
    × (l.text.len + length (place_lines l.places (l.count - l.i) l.i) ≡ l.initial.text.len + length (place_lines l.places l.count 0))
