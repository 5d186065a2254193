-- Laws of the search of the place table, row by row: the first row is the one sought, or it is passed over; where no row is left there is none.
use Rattle.std.proofs.Common.{◌≡◌, ℕ, zero, suc, ◌+◌, ◌*◌, ◌/◌, ◌<◌, false, ◌&&◌, eqb, List, ◌∷◌, ◌++◌, length, get_or, refl, arith, length-append}
use Rattle.std.proofs.Math.ListN.{get_or-append}
use Rattle.std.proofs.lemmas.List.{get_or-append-add}
use mathlib.Core.Option.{none, some}
use mathlib.Core.Bool.{and-false}
use borrow.Author.Tests.{eq-eqb, ne_eqb}
use Rattle.numbers.specs.Number.{number_at, up_to}
use Rattle.model.specs.Records.{row, row_at, rows_in}
use Rattle.model.specs.NewCore.{seek}

-- counted up from its first
up_front : {A : Type 0} (f g : ℕ → A) (n : ℕ) → ((i : ℕ) → f (suc i) ≡ g i) → up_to f (suc n) ≡ f 0 ∷ up_to g n
unfolding up_to
up_front f g zero h = refl
up_front f g (suc n) h = rw (up_front f g n h, h n)

module _ (x t : List ℕ) (l : length x ≡ 16) where
  in_front : (at : ℕ) → at + 3 < 16 → number_at (x ++ t) at ≡ number_at x at
  unfolding number_at
  in_front at h =
      rw (get_or-append x t 0 at (omega arith), get_or-append x t 0 (at + 1) (omega arith), get_or-append x t 0 (at + 2) (omega arith), get_or-append x t 0 (at + 3) (omega arith))

  behind : (m j : ℕ) → m ≡ 16 + j → number_at (x ++ t) m ≡ number_at t j
  unfolding number_at
  behind m j e = rw (at_back m j e, at_back (m + 1) (j + 1) (omega arith), at_back (m + 2) (j + 2) (omega arith), at_back (m + 3) (j + 3) (omega arith))
    where
      at_back : (m j : ℕ) → m ≡ 16 + j → get_or (x ++ t) m 0 ≡ get_or t j 0
      at_back m j e = let k : m ≡ length x + j = omega arith in rw k (get_or-append-add x t j 0)

  front_row : row_at (x ++ t) 0 ≡ row (number_at x 0) (number_at x 4) (number_at x 8) (number_at x 12)
  unfolding row_at
  front_row = rw (in_front 0 (omega arith), in_front 4 (omega arith), in_front 8 (omega arith), in_front 12 (omega arith))

  later_row : (i : ℕ) → row_at (x ++ t) (suc i) ≡ row_at t i
  unfolding row_at
  later_row i =
      rw (behind (16 * suc i) (16 * i) (omega arith), behind (16 * suc i + 4) (16 * i + 4) (omega arith), behind (16 * suc i + 8) (16 * i + 8) (omega arith), behind (16 * suc i + 12) (16 * i + 12) (omega arith))

  first_row : rows_in (x ++ t) ≡ row (number_at x 0) (number_at x 4) (number_at x 8) (number_at x 12) ∷ rows_in t
  unfolding rows_in
  first_row =
      let n : length (x ++ t) / 16 ≡ suc (length t / 16) = omega (arith, length-append x t) in
      rw (n, up_front (row_at (x ++ t)) (row_at t) (length t / 16) later_row, front_row)

-- no row is left
pub no_row : (t : List ℕ) (a : ℕ) → length t < 16 → seek (rows_in t) a ≡ none
unfolding rows_in seek up_to
no_row t a h = let n : length t / 16 ≡ 0 = omega arith in rw n

module _ (x t : List ℕ) (a : ℕ) (l : length x ≡ 16) where
  pub sought_here : number_at x 8 ≡ 0 → number_at x 0 ≡ a → seek (rows_in (x ++ t)) a ≡ some (number_at x 12)
  unfolding seek
  sought_here k p = rw (first_row x t l, k, p, eq-eqb a a refl)

  not_here : eqb (number_at x 8) 0 && eqb (number_at x 0) a ≡ false → seek (rows_in (x ++ t)) a ≡ seek (rows_in t) a
  unfolding seek
  not_here h = rw (first_row x t l, h)

  pub not_plain : (number_at x 8 ≡ 0 → ⊥) → seek (rows_in (x ++ t)) a ≡ seek (rows_in t) a
  not_plain n = not_here (rw (ne_eqb (number_at x 8) 0 n))

  pub elsewhere : (number_at x 0 ≡ a → ⊥) → seek (rows_in (x ++ t)) a ≡ seek (rows_in t) a
  elsewhere n = not_here (rw (ne_eqb (number_at x 0) a n, and-false (eqb (number_at x 8) 0)))
