use Rattle.model.specs.Records.{in_full}
use Rattle.places.specs.Table.{SameRow, places_in}
use Rattle.groups.proofs.Laying.{Laying}
use lib.ListN.{length}
use mathlib.Core.Path.{◌≡◌}
use Prim.Native.Nat.{ℕ, ◌*◌, ◌≤◌}
use Rattle.groups.proofs.layout.lay_out.Given as goal

abbrev pub invariant-loop-i : goal.invariant-loop-i
invariant-loop-i l = record {
  size : length l.places ≡ length l.initial.places;
  same : (j : ℕ) → SameRow l.places l.initial.places j;
  small : l.n ≤ 2 * l.i;
  laying : Laying (in_full l.image.bytes.now l.image.base) l.places (places_in l.initial.places l.count) l.i l.n;
}
