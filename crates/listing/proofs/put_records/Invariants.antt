use Rattle.listing.specs.Text.{inserted}
use Rattle.listing.specs.Listing.{record_lines}
use lib.ListN.{length}
use mathlib.Core.Path.{◌≡◌}
use Prim.Native.Nat.{◌+◌, ◌*◌, ◌-◌, ◌≤◌}
use Rattle.listing.proofs.put_records.Given as goal

abbrev pub invariant-loop-i : goal.invariant-loop-i
invariant-loop-i l = (l.text.out.ghost_name ≡ l.initial.text.out.ghost_name) × (length l.text.out.now ≡ length l.initial.text.out.now) × (l.text.len ≤ l.initial.text.len + 63 * l.i)
    × (inserted l.text.out.now l.text.len (record_lines l.records (l.count - l.i) l.i) ≡ inserted l.initial.text.out.now l.initial.text.len (record_lines l.records l.count 0))
    × (l.text.len + length (record_lines l.records (l.count - l.i) l.i) ≡ l.initial.text.len + length (record_lines l.records l.count 0))
