use Rattle.listing.specs.Text.{line_of, inserted}
use lib.ListN.{length, drop}
use mathlib.Core.Path.{◌≡◌}
use Prim.Native.Nat.{◌+◌, ◌*◌, ◌≤◌}
use Rattle.listing.proofs.text.Text.put_line.Given as goal

abbrev pub invariant-loop-j : goal.invariant-loop-j
invariant-loop-j l = (l.self.out.ghost_name ≡ l.initial.self.out.ghost_name) × (length l.self.out.now ≡ length l.initial.self.out.now) × (l.self.len ≤ l.initial.self.len + 21 * l.j)
    × (inserted l.self.out.now l.self.len (line_of (drop l.j l.numbers)) ≡ inserted l.initial.self.out.now l.initial.self.len (line_of l.numbers))
    × (l.self.len + length (line_of (drop l.j l.numbers)) ≡ l.initial.self.len + length (line_of l.numbers))
