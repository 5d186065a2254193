-- Laws of the layout: how many records there are, the table's numbers, the first record of a place.
use native.Mathlib.Nat.{zero-add}
use Rattle.numbers.proofs.Lists.{get_up, drop_up, drop_all_up}
use Rattle.numbers.proofs.Areas.{number_put, numbers_same, number_before}
use Rattle.numbers.specs.Number.{number_at, put_number, up_to, numbers_of}
use Rattle.numbers.specs.Choice.{pick}
use Rattle.model.specs.declared.Place.{Place}
use Rattle.model.specs.Places.{kind_of, next_of, place_at, same_place}
use Rattle.places.proofs.Rows.{first_kept, length_places, places_same, place_same, shows_same, at_place}
use borrow.Author.Tests.{ltb-true, ltb-false}
use lib.ListN.{length, get_or, drop}
use lib.Dec.{ltb}
use native.Mathlib.Numerals.{add-one}
use native.Mathlib.Omega.{arith}
use mathlib.Core.List.{List, [], ◌∷◌, ◌++◌, append-nil, append_assoc}
use mathlib.Core.Bool.{Bool, true, false}
use mathlib.Core.Path.{◌≡◌, refl, sym, ap, ◌∙◌}
use Prim.Native.Nat.{ℕ, suc, ◌+◌, ◌*◌, ◌^◌, ◌≤◌, ◌<◌}
use Rattle.model.specs.Records.{Group, one, two, past, Grouping, first, rows_from, table_numbers}
use Rattle.model.proofs.Groups.{past_add, past_le}
use Rattle.places.specs.Table.{place_in, ShowsIn, SameRow, places_in, number_of}
use Rattle.groups.specs.Layout.{size, needed, first_in, Laid}

module _ (lay : Grouping) where
  pub needed_le : (ps : List Place) → needed lay ps ≤ 2 * length ps
  unfolding needed
  needed_le [] = omega arith
  needed_le (y ∷ ys) = omega (arith, past_le (lay y ys) (needed lay ys), needed_le ys)

  -- what is left after a place, with its group
  module _ {x : Place} {ps qs : List Place} {g : Group Place} (c : ps ≡ x ∷ qs) (e : g ≡ lay x qs) where
    pub needed_turn : (n all : ℕ) → n + needed lay ps ≡ all → past g n + needed lay qs ≡ all
    unfolding needed
    needed_turn n all h = past_add g n (needed lay qs) ∙ (rw (c, ← e) at h)

    pub rows_turn : (n : ℕ) → table_numbers (rows_from lay n ps)
        ≡ (place_at x ∷ next_of x ∷ kind_of x ∷ n ∷ []) ++ table_numbers (rows_from lay (past g n) qs)
    unfolding rows_from table_numbers
    rows_turn n = rw (c, e)

-- the places of a table from row i on
pub next_place : (l : List ℕ) (n i : ℕ) {x : Place} → x ≡ place_in l i → i < n → drop i (places_in l n) ≡ x ∷ drop (i + 1) (places_in l n)
unfolding places_in
next_place l n i e h = rw (add-one i, e) (drop_up (place_in l) n i h)

pub no_place : (l : List ℕ) (n i : ℕ) → n ≤ i → drop i (places_in l n) ≡ []
unfolding places_in
no_place l n i h = drop_all_up (place_in l) n i h

-- a first record put in row i: the places stay, and the row's numbers are whole
module _ (l : List ℕ) (i v : ℕ) where
  abbrev l+ : List ℕ
  l+ = put_number l (16 * i + 12) v

  row_put : ShowsIn l i → 16 * i + 16 ≤ length l → v < 2 ^ 32
      → numbers_of l+ (4 * (i + 1)) ≡ numbers_of l (4 * i) ++ (place_at (place_in l i) ∷ next_of (place_in l i) ∷ kind_of (place_in l i) ∷ v ∷ [])
  unfolding numbers_of up_to place_in
  row_put s h b =
      let c : 4 * (i + 1) ≡ suc (suc (suc (suc (4 * i)))) = omega arith in
      let k0 : 4 * (4 * i) ≡ 16 * i = omega arith in
      let k1 : 4 * suc (4 * i) ≡ 16 * i + 4 = omega arith in
      let k2 : 4 * suc (suc (4 * i)) ≡ 16 * i + 8 = omega arith in
      let k3 : 4 * suc (suc (suc (4 * i))) ≡ 16 * i + 12 = omega arith in
      let e : numbers_of l+ (4 * i) ≡ numbers_of l (4 * i) = numbers_same l+ l (4 * i) (λ m q. number_before l (16 * i + 12) v (4 * m) (omega arith)) in
      let r = first_kept l i v i in
      rw (c, k0, k1, k2, k3, r.0, r.1, r.2, number_put l (16 * i + 12) v (omega arith) b, e, at_place (number_at l (16 * i)) (number_at l (16 * i + 4)) (number_at l (16 * i + 8)), s.its_next, s.its_kind)
      (simp append_assoc)

-- how many records a group has
pub past_size : (g : Group Place) (n : ℕ) → past g n ≡ n + size g
unfolding past size
past_size (one r) n = omega arith
past_size (two r s) n = omega arith

pub size_le : (g : Group Place) → size g ≤ 2
unfolding size
size_le (one r) = omega arith
size_le (two r s) = omega arith

pub size_bound : (g : Group Place) {r : ℕ} → r ≡ size g → r ≤ 2
size_bound g e = rw e (size_le g)

pub row_trans : (l m o : List ℕ) (j : ℕ) → SameRow l m j → SameRow m o j → SameRow l o j
row_trans l m o j s t = (s.0 ∙ t.0, s.1 ∙ t.1, s.2 ∙ t.2)

-- a turn of the layout, and its end
abbrev pub Laying : Grouping → List ℕ → List Place → ℕ → ℕ → Type 0
Laying lay l ps i n =
    (n + needed lay (drop i ps) ≡ needed lay ps)
    × (numbers_of l (4 * i) ++ table_numbers (rows_from lay n (drop i ps)) ≡ table_numbers (rows_from lay 0 ps))

module _ (lay : Grouping) (l l0 : List ℕ) (count i n : ℕ) (same : (j : ℕ) → SameRow l l0 j) where
  pub lay_turn : {k : ℕ} → i < count → k ≡ size (lay (place_in l i) (drop (i + 1) (places_in l0 count))) → ShowsIn l0 i → 16 * i + 16 ≤ length l → n < 2 ^ 32
      → Laying lay l (places_in l0 count) i n
      → Laying lay (put_number l (16 * i + 12) n) (places_in l0 count) (i + 1) (n + k)
  lay_turn {k} h ek s room b y =
      let x = place_in l i in
      let g = lay x (drop (i + 1) (places_in l0 count)) in
      let c : drop i (places_in l0 count) ≡ x ∷ drop (i + 1) (places_in l0 count) = next_place l0 count i (place_same l l0 i (same i)) h in
      let m : n + k ≡ past g n = ap (λ (v : ℕ). n + v) ek ∙ sym (past_size g n) in
      rw (m, row_put l i n (shows_same l l0 i (same i) s) room b) (
        needed_turn lay c refl n (needed lay (places_in l0 count)) y.0,
        rw append_assoc (rw (rows_turn lay c refl n) at y.1),
      )

  pub lay_end : i ≤ count → count ≤ i → Laying lay l (places_in l0 count) i n → Laid lay (places_in l0 count) count l n
  unfolding needed rows_from table_numbers
  lay_end h k y =
      let e : i ≡ count = omega arith in
      let d : drop i (places_in l0 count) ≡ [] = no_place l0 count i k in
      record {
        all = omega (arith, rw d at y.0);
        kept = places_same l l0 count (λ j m. place_same l l0 j (same j));
        numbers = sym (append-nil (numbers_of l (4 * count))) ∙ (rw (d, e) at y.1);
      }

-- the first record of a place that is in the list stands in its row; of another it is the number of all records
module _ (lay : Grouping) (x : Place) where
  first_there : (n : ℕ) (ps : List Place) → number_of x ps < length ps
      → n + first lay ps x ≡ get_or (table_numbers (rows_from lay n ps)) (4 * number_of x ps + 3) 0
  unfolding first number_of rows_from table_numbers
  first_there n [] h = absurd (omega arith)
  first_there n (y ∷ ys) h = go (first_there (past (lay y ys) n) ys) (same_place y x) h
    where
      go : (number_of x ys < length ys
          → past (lay y ys) n + first lay ys x ≡ get_or (table_numbers (rows_from lay (past (lay y ys) n) ys)) (4 * number_of x ys + 3) 0)
          → (b : Bool) → pick b 0 (suc (number_of x ys)) < suc (length ys)
          → n + pick b 0 (past (lay y ys) (first lay ys x))
          ≡ get_or (place_at y ∷ next_of y ∷ kind_of y ∷ n ∷ table_numbers (rows_from lay (past (lay y ys) n) ys)) (4 * pick b 0 (suc (number_of x ys)) + 3) 0
      go r true k = omega arith
      go r false k =
          let e : 4 * suc (number_of x ys) + 3 ≡ suc (suc (suc (suc (4 * number_of x ys + 3)))) = omega arith in
          rw e (sym (past_add (lay y ys) n (first lay ys x)) ∙ r (omega arith))

  first_absent : (ps : List Place) → length ps ≤ number_of x ps → first lay ps x ≡ needed lay ps
  unfolding first number_of needed
  first_absent [] h = refl
  first_absent (y ∷ ys) h = go (first_absent ys) (same_place y x) h
    where
      go : (length ys ≤ number_of x ys → first lay ys x ≡ needed lay ys) → (b : Bool) → suc (length ys) ≤ pick b 0 (suc (number_of x ys))
          → pick b 0 (past (lay y ys) (first lay ys x)) ≡ past (lay y ys) (needed lay ys)
      go r true k = absurd (omega arith)
      go r false k = rw (r (omega arith))

number_of_lem : (l : List ℕ) (n i : ℕ) → i < n → get_or (numbers_of l n) i 0 ≡ number_at l (4 * i)
unfolding numbers_of
number_of_lem l n i h = get_up (λ i. number_at l (4 * i)) n i 0 h

pub first_laid : (lay : Grouping) (ps : List Place) (count : ℕ) (l : List ℕ) (r : ℕ) → Laid lay ps count l r → (x : Place)
    → first_in l count r x ≡ first lay ps x
unfolding first_in
first_laid lay ps count l r d x = rw d.kept (go (ltb (number_of x ps) count) refl)
  where
    size : length ps ≡ count
    size = ap length (sym d.kept) ∙ length_places l count

    go : (b : Bool) → ltb (number_of x ps) count ≡ b → pick b (number_at l (16 * number_of x ps + 12)) r ≡ first lay ps x
    go true e =
        let h : number_of x ps < count = ltb-true (number_of x ps) count e in
        let k : 16 * number_of x ps + 12 ≡ 4 * (4 * number_of x ps + 3) = omega arith in
        rw k (sym (number_of_lem l (4 * count) (4 * number_of x ps + 3) (omega arith)) ∙ rw d.numbers (sym (first_there lay x 0 ps (omega (arith, size))) ∙ zero-add (first lay ps x)))
    go false e = d.all ∙ sym (first_absent lay x ps (omega (arith, size, ltb-false (number_of x ps) count e)))
