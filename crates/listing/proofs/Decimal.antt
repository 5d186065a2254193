-- Laws of decimal digits.
use Rattle.numbers.specs.Choice.{pick}
use borrow.Author.Tests.{lt-ltb, le-ltb, ltb-false}
use lib.Dec.{ltb}
use native.Mathlib.Omega.{arith}
use mathlib.Core.List.{[], ◌∷◌, ◌++◌}
use mathlib.Core.Bool.{Bool, true, false}
use mathlib.Core.Path.{◌≡◌, refl, sym}
use Prim.Native.Nat.{ℕ, zero, suc, ◌+◌, ◌/◌, ◌%◌, ◌^◌, ◌≤◌, ◌<◌}
use Rattle.listing.specs.Text.{decimal_by, decimal}
use Rattle.std.specs.Fmt as Printed
use Rattle.std.proofs.lemmas.Fmt.{decimal_by_steps}

-- more turns than digits change nothing
enough : (n m v : ℕ) → v < n → v < m → decimal_by n v ≡ decimal_by m v
unfolding decimal_by
enough zero m v h k = absurd (omega arith)
enough (suc n) zero v h k = absurd (omega arith)
enough (suc n) (suc m) v h k = go (λ l. enough n m (v / 10) (omega arith) (omega arith)) (ltb v 10) refl
  where
    go : (10 ≤ v → decimal_by n (v / 10) ≡ decimal_by m (v / 10)) → (b : Bool) → ltb v 10 ≡ b
        → pick b ((48 + v) ∷ []) (decimal_by n (v / 10) ++ ((48 + v % 10) ∷ [])) ≡ pick b ((48 + v) ∷ []) (decimal_by m (v / 10) ++ ((48 + v % 10) ∷ []))
    go r true e = refl
    go r false e = rw (r (ltb-false v 10 e))

pub decimal_one : (v : ℕ) → v < 10 → decimal v ≡ (48 + v) ∷ []
unfolding decimal decimal_by
decimal_one v h = rw (lt-ltb v 10 h)

pub decimal_more : (v : ℕ) → 10 ≤ v → decimal v ≡ decimal (v / 10) ++ ((48 + v % 10) ∷ [])
unfolding decimal decimal_by
decimal_more v h = rw (le-ltb v 10 h) (rw (enough v (suc (v / 10)) (v / 10) (omega arith) (omega arith)))

-- what std prints
pub decimal_as_printed : (v : ℕ) → v < 2 ^ 64 → Printed.decimal v ≡ decimal v
decimal_as_printed =
    decimal_by_steps (λ v l. l ≡ decimal v) (λ v h. sym (decimal_one v h)) (λ v l h e. rw e (sym (decimal_more v h)))
