-- Laws of ends: the numbers of an end, an end that is passed on, and what is made inside a larger state.
use Rattle.std.specs.Prelude.{Result, Ok, Err, IsErrAnd}
use Rattle.machine.specs.declared.End.{End}
use Rattle.machine.specs.declared.End.TheVariants.{TrapTaken, Outside, IllegalWord, Misaligned, Unfit, NoPlace, BadRecord, TooManySaves, TooManyRestores}
use Rattle.machine.specs.Ends.{ending_of, answered, ending_from, within, settle, Ending, Next, ending, go, halt, state}
use borrow.Author.Tests.{eqb-false, lt-leb}
use Rattle.numbers.specs.Choice.{pick}
use lib.Dec.{eqb, leb}
use native.Mathlib.Omega.{arith}
use mathlib.Core.Bool.{Bool, false, true}
use mathlib.Core.Path.{◌≡◌, refl}
use Prim.Native.Nat.{ℕ, ◌+◌, ◌≤◌}

past : (a n : ℕ) → a ≤ n → (n ≡ a → ⊥) → (n ≡ a + 1 → ⊥) → (n ≡ a + 2 → ⊥) → a + 3 ≤ n
past a n l p q r = omega arith

not_zero : (n : ℕ) → (n ≡ 0 → ⊥) → 1 ≤ n
not_zero n z = omega arith

-- a number that is none of 1 to 9 is no end
pub no_end : (n v : ℕ) → (n ≡ 1 → ⊥) → (n ≡ 2 → ⊥) → (n ≡ 3 → ⊥) → (n ≡ 4 → ⊥) → (n ≡ 5 → ⊥) → (n ≡ 6 → ⊥) → (n ≡ 7 → ⊥) → (n ≡ 8 → ⊥) → (n ≡ 9 → ⊥)
    → ending 0 0 ≡ ending_from n v
unfolding ending_from
no_end n v n1 n2 n3 n4 n5 n6 n7 n8 n9 = go (eqb n 0) refl
  where
    go : (b : Bool) → eqb n 0 ≡ b → ending 0 0 ≡ pick b (ending 0 0) (pick (leb n 9) (ending n v) (ending 0 0))
    go true p = refl
    go false p = rw (lt-leb n 9 (past 7 n (past 4 n (past 1 n (not_zero n (eqb-false n 0 p)) n1 n2 n3) n4 n5 n6) n7 n8 n9))

-- what settles in a part settles in the whole
pub settle_within : {A B : Type 0} (f : A → B) (a a' : A) (e : Ending) (n : Next A) → state a' e ≡ settle a n → state (f a') e ≡ settle (f a) (within f n)
unfolding settle within
settle_within f a a' e (go b) h = moved f a' b e (ending 0 0) h
  where
    moved : {A B : Type 0} (f : A → B) (a b : A) (e d : Ending) → state a e ≡ state b d → state (f a) e ≡ state (f b) d
    moved f a b e d h = cc
settle_within f a a' e (halt d) h = cc

-- an end is none of a run that is still going
pub not_going : (e : End) → ending_of e ≡ ending 0 0 → ⊥
unfolding ending_of
not_going (TrapTaken v) h = let z : ◌≡◌ {A = ℕ} 0 1 = cc in omega arith
not_going (Outside v) h = let z : ◌≡◌ {A = ℕ} 0 2 = cc in omega arith
not_going (IllegalWord v) h = let z : ◌≡◌ {A = ℕ} 0 3 = cc in omega arith
not_going (Misaligned v) h = let z : ◌≡◌ {A = ℕ} 0 4 = cc in omega arith
not_going (Unfit v) h = let z : ◌≡◌ {A = ℕ} 0 5 = cc in omega arith
not_going (NoPlace v) h = let z : ◌≡◌ {A = ℕ} 0 6 = cc in omega arith
not_going (BadRecord v) h = let z : ◌≡◌ {A = ℕ} 0 7 = cc in omega arith
not_going (TooManySaves v) h = let z : ◌≡◌ {A = ℕ} 0 8 = cc in omega arith
not_going (TooManyRestores v) h = let z : ◌≡◌ {A = ℕ} 0 9 = cc in omega arith

-- an end that a `?` passes on
pub passed_on : {A S : Type 0} (on : A → S) (s : S) (e : End) (r : Result A End) → IsErrAnd r (λ d. d ≡ e) → answered on s r ≡ state s (ending_of e)
unfolding answered
passed_on on s e (Ok a) h = absurd h
passed_on on s e (Err d) h = rw h

-- what goes on, or ends as a word may end a run: with any end but 6
abbrev pub RunEnd : Ending → Type 0
RunEnd (ending n v) = (1 ≤ n) × (n ≡ 6 → ⊥)

abbrev pub EndsWell : {S : Type 0} → Next S → Type 0
EndsWell (go s) = Unit {0}
EndsWell (halt e) = RunEnd e

pub within_ends : {A B : Type 0} (f : A → B) (n : Next A) → EndsWell n → EndsWell (within f n)
unfolding within
within_ends f (go a) h = tt
within_ends f (halt e) h = h
