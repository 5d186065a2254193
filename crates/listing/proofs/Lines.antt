-- Laws of lines: one number after another, one place or record after another.
use Rattle.numbers.specs.Number.{number_at}
use Rattle.listing.proofs.Writing.{written_more, goes_on}
use borrow.Author.Tests.{ltb-true, ltb-false}
use lib.Seq.{drop-cons}
use lib.ListN.{length, get_or, drop, drop_of_length-le}
use lib.Dec.{ltb}
use native.Mathlib.Numerals.{add-one}
use native.Mathlib.Omega.{arith}
use mathlib.Core.List.{List, [], ◌∷◌, ◌++◌, append_assoc}
use mathlib.Core.Bool.{Bool, true, false}
use mathlib.Core.Path.{◌≡◌, refl, sym}
use Prim.Native.Nat.{ℕ, suc, ◌+◌, ◌*◌, ◌-◌, ◌≤◌, ◌<◌}
use Rattle.listing.specs.Text.{decimal, separator, some_left, line_of, inserted, Written}
use Rattle.listing.specs.Listing.{place_lines, record_lines}

-- whether a number is left tells what follows the last one
some_left_lem : (l : List ℕ) (n : ℕ) → some_left (drop n l) ≡ ltb n (length l)
some_left_lem l n = go (ltb n (length l)) refl
  where
    go : (b : Bool) → ltb n (length l) ≡ b → some_left (drop n l) ≡ b
    go true e = rw (drop-cons l n 0 (ltb-true n (length l) e))
    go false e = rw (drop_of_length-le l {i = n} (ltb-false n (length l) e))

line_turn : (l : List ℕ) (j : ℕ) → j < length l
    → line_of (drop j l) ≡ (decimal (get_or l j 0) ++ (separator (ltb (j + 1) (length l)) ∷ [])) ++ line_of (drop (j + 1) l)
unfolding line_of
line_turn l j h =
    rw (drop-cons l j 0 h, add-one j, some_left_lem l (suc j))
    (sym (append_assoc (decimal (get_or l j 0)) (separator (ltb (suc j) (length l)) ∷ []) (line_of (drop (suc j) l))))

-- a number and what follows it are put
pub line_goes : {out out1 out2 : List ℕ} {k k1 k2 m x : ℕ} (l : List ℕ) (j : ℕ) {T : List ℕ} {N : ℕ} → j < length l → k ≤ length out
    → Written out k (decimal (get_or l j 0)) 20 out1 k1 → Written out1 k1 (x ∷ []) m out2 k2 → x ≡ separator (ltb (j + 1) (length l))
    → inserted out k (line_of (drop j l)) ≡ T → k + length (line_of (drop j l)) ≡ N
    → (inserted out2 k2 (line_of (drop (j + 1) l)) ≡ T) × (k2 + length (line_of (drop (j + 1) l)) ≡ N)
line_goes {out} {out1} {out2} {k} {k1} {k2} {m} {x} l j {T} {N} h o w s ex e n =
    let z = rw (line_turn l j h, ← ex) at e in
    let y = rw (line_turn l j h, ← ex) at n in
    goes_on (line_of (drop (j + 1) l)) T N o (written_more o w s) z y

pub line_end : (l : List ℕ) (j : ℕ) → length l ≤ j → line_of (drop j l) ≡ []
unfolding line_of
line_end l j h = rw (drop_of_length-le l {i = j} h)

-- a line for place i, or record i, and those after it
module _ (bytes : List ℕ) (count i : ℕ) (h : i < count) where
  left : count - i ≡ suc (count - (i + 1))
  left = omega arith

  pub place_turn : {a n k f : ℕ} → a ≡ number_at bytes (16 * i) → n ≡ number_at bytes (16 * i + 4) → k ≡ number_at bytes (16 * i + 8)
      → f ≡ number_at bytes (16 * i + 12)
      → place_lines bytes (count - i) i ≡ line_of (i ∷ a ∷ n ∷ k ∷ f ∷ []) ++ place_lines bytes (count - (i + 1)) (i + 1)
  unfolding place_lines
  place_turn ea en ek ef = rw (left, add-one i, ea, en, ek, ef)

  pub record_turn : {k a b : ℕ} → k ≡ number_at bytes (12 * i) → a ≡ number_at bytes (12 * i + 4) → b ≡ number_at bytes (12 * i + 8)
      → record_lines bytes (count - i) i ≡ line_of (k ∷ a ∷ b ∷ []) ++ record_lines bytes (count - (i + 1)) (i + 1)
  unfolding record_lines
  record_turn ek ea eb = rw (left, add-one i, ek, ea, eb)

module _ (bytes : List ℕ) (count i : ℕ) (h : count ≤ i) where
  none : count - i ≡ 0
  none = omega arith

  pub no_place_lines : place_lines bytes (count - i) i ≡ []
  unfolding place_lines
  no_place_lines = rw none

  pub no_record_lines : record_lines bytes (count - i) i ≡ []
  unfolding record_lines
  no_record_lines = rw none
