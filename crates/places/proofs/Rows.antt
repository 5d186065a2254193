-- Laws of the place table: the numbers of a place, a row that was put, and the places of a table with a row more.
use Rattle.numbers.proofs.Lists.{length_up}
use Rattle.numbers.proofs.Number.{length_put}
use Rattle.numbers.proofs.Choice.{either}
use Rattle.numbers.proofs.Areas.{number_put, number_before, number_after}
use Rattle.numbers.specs.Number.{plus, number_at, put_number, up_to}
use Rattle.numbers.specs.Choice.{pick}
use Rattle.model.proofs.Members.{same_self, same_eq}
use Rattle.model.specs.declared.Place.TheVariants.{Pair, Held}
use Rattle.model.specs.declared.Place.{Place}
use Rattle.model.specs.Places.{kind_of, next_of, place_at, same_place}
use borrow.Author.Tests.{eqb-true, eqb-false, leb-true, leb-false}
use lib.ListN.{length}
use lib.Dec.{eqb, leb}
use native.Mathlib.Numerals.{add-one}
use native.Mathlib.Omega.{arith}
use mathlib.Core.List.{List, [], ◌∷◌, ◌++◌}
use mathlib.Core.Bool.{Bool, true, false}
use mathlib.Core.Path.{◌≡◌, refl, sym, ap, ◌∙◌}
use Prim.Native.Nat.{ℕ, zero, suc, ◌+◌, ◌*◌, ◌^◌, ◌≤◌, ◌<◌}
use Rattle.places.specs.Table.{place_of, Shows, Narrow, place_in, ShowsIn, SameRow, places_in, put_place, put_row}

pub length_row : (l : List ℕ) (i p n k : ℕ) → length (put_place l i p n k) ≡ length l
unfolding put_place
length_row l i p n k = simp length_put

pub length_places : (l : List ℕ) (n : ℕ) → length (places_in l n) ≡ n
unfolding places_in
length_places l n = length_up (place_in l) n

-- the places of a table depend on its rows alone
pub places_same : (l m : List ℕ) (n : ℕ) → ((i : ℕ) → i < n → place_in l i ≡ place_in m i) → places_in l n ≡ places_in m n
unfolding places_in up_to
places_same l m zero h = refl
places_same l m (suc n) h = rw (places_same l m n (λ i k. h i (omega arith)), h n (omega arith))

-- rows with the same place, and the same numbers for it
pub place_same : (l m : List ℕ) (i : ℕ) → SameRow l m i → place_in l i ≡ place_in m i
unfolding place_in
place_same l m i s = rw (s.0, s.1, s.2)

pub shows_same : (l m : List ℕ) (i : ℕ) → SameRow l m i → ShowsIn m i → ShowsIn l i
shows_same l m i s h = rw (s.0, s.1, s.2) h

-- the address of a place
pub at_place : (p n k : ℕ) → place_at (place_of p n k) ≡ p
unfolding place_of place_at
at_place p n k = either (λ (x : Place). place_at x ≡ p) (eqb k 2) (Held p) (Pair p n) refl refl

-- a place is told by its numbers
pub place_numbers : (x : Place) → place_of (place_at x) (next_of x) (kind_of x) ≡ x
unfolding place_of place_at next_of kind_of
place_numbers (Pair p n) = either (λ (k : ℕ). pick (eqb k 2) (Held p) (Pair p n) ≡ Pair p n) (eqb n (plus p 4)) 0 1 refl refl
place_numbers (Held p) = refl

pub shows_numbers : (x : Place) → Shows (place_at x) (next_of x) (kind_of x)
shows_numbers x = record { its_next = ap next_of (place_numbers x); its_kind = ap kind_of (place_numbers x) }

kind_le : (x : Place) → kind_of x ≤ 2
unfolding kind_of
kind_le (Pair p n) = either (λ (k : ℕ). k ≤ 2) (eqb n (plus p 4)) 0 1 (omega arith) (omega arith)
kind_le (Held p) = omega arith

-- places by their numbers: the same exactly if all three are
pub differ : (x y : Place) → (x ≡ y → ⊥) → same_place x y ≡ false
differ x y n = go (same_place x y) refl
  where
    go : (b : Bool) → same_place x y ≡ b → same_place x y ≡ false
    go true e = absurd (n (same_eq x y e))
    go false e = e

-- row i is a place exactly if its three numbers are the place's
module _ (l : List ℕ) (i : ℕ) (x : Place) (s : ShowsIn l i) where
  pub other_address : {a p : ℕ} → a ≡ number_at l (16 * i) → p ≡ place_at x → (a ≡ p → ⊥) → false ≡ same_place (place_in l i) x
  unfolding place_in
  other_address e f h =
      sym (differ (place_in l i) x (λ y. h (e ∙ sym (at_place (number_at l (16 * i)) (number_at l (16 * i + 4)) (number_at l (16 * i + 8))) ∙ ap place_at y ∙ sym f)))

  pub other_next : {b n : ℕ} → b ≡ number_at l (16 * i + 4) → n ≡ next_of x → eqb b n ≡ false → false ≡ same_place (place_in l i) x
  unfolding place_in
  other_next {b} {n} e f h = sym (differ (place_in l i) x (λ y. eqb-false b n h (e ∙ sym s.its_next ∙ ap next_of y ∙ sym f)))

  module _ {a p b n : ℕ} (ea : a ≡ number_at l (16 * i)) (ep : p ≡ place_at x) (h : a ≡ p) (eb : b ≡ number_at l (16 * i + 4)) (en : n ≡ next_of x)
      (g : eqb b n ≡ true) where
    pub by_kind : {c k : ℕ} → c ≡ number_at l (16 * i + 8) → k ≡ kind_of x → eqb c k ≡ same_place (place_in l i) x
    unfolding place_in
    by_kind {c} {k} ec ek = go (eqb c k) refl
      where
        go : (v : Bool) → eqb c k ≡ v → v ≡ same_place (place_in l i) x
        go true f = rw (← ea, ← eb, ← ec, eqb-true c k f, h, eqb-true b n g, ep, en, ek, place_numbers x) (sym (same_self x))
        go false f = sym (differ (place_in l i) x (λ y. eqb-false c k f (ec ∙ sym s.its_kind ∙ ap kind_of y ∙ sym ek)))

-- a first record put in row i: the places stay
pub first_kept : (l : List ℕ) (i v : ℕ) (j : ℕ) → SameRow (put_number l (16 * i + 12) v) l j
first_kept l i v j = go (leb j i) refl
  where
    go : (b : Bool) → leb j i ≡ b → SameRow (put_number l (16 * i + 12) v) l j
    go true e =
        let h : j ≤ i = leb-true j i e in (
          number_before l (16 * i + 12) v (16 * j) (omega arith),
          number_before l (16 * i + 12) v (16 * j + 4) (omega arith),
          number_before l (16 * i + 12) v (16 * j + 8) (omega arith),
        )
    go false e =
        let h : i < j = leb-false j i e in (
          number_after l (16 * i + 12) v (16 * j) (omega arith),
          number_after l (16 * i + 12) v (16 * j + 4) (omega arith),
          number_after l (16 * i + 12) v (16 * j + 8) (omega arith),
        )

-- a row that was put
module _ (l : List ℕ) (i p n k : ℕ) where
  abbrev t1 : List ℕ
  t1 = put_number l (16 * i) p

  abbrev t2 : List ℕ
  t2 = put_number t1 (16 * i + 4) n

  -- what stands before the row stays
  number_below : (m : ℕ) → m + 4 ≤ 16 * i → number_at (put_place l i p n k) m ≡ number_at l m
  unfolding put_place
  number_below m h =
      number_before t2 (16 * i + 8) k m (omega arith) ∙ number_before t1 (16 * i + 4) n m (omega arith)
      ∙ number_before l (16 * i) p m (omega arith)

  pub row_below : (j : ℕ) → j < i → SameRow (put_place l i p n k) l j
  row_below j h =
      (number_below (16 * j) (omega arith), number_below (16 * j + 4) (omega arith), number_below (16 * j + 8) (omega arith))

  pub place_below : (j : ℕ) → j < i → place_in (put_place l i p n k) j ≡ place_in l j
  place_below j h = place_same (put_place l i p n k) l j (row_below j h)

  module _ (h : 16 * i + 16 ≤ length l) (bp : p < 2 ^ 32) (bn : n < 2 ^ 32) (bk : k < 2 ^ 32) where
    put_address : number_at (put_place l i p n k) (16 * i) ≡ p
    unfolding put_place
    put_address =
        number_before t2 (16 * i + 8) k (16 * i) (omega arith) ∙ number_before t1 (16 * i + 4) n (16 * i) (omega arith)
        ∙ number_put l (16 * i) p (omega arith) bp

    put_next : number_at (put_place l i p n k) (16 * i + 4) ≡ n
    unfolding put_place
    put_next =
        number_before t2 (16 * i + 8) k (16 * i + 4) (omega arith) ∙ number_put t1 (16 * i + 4) n (simp length_put (omega arith)) bn

    put_kind : number_at (put_place l i p n k) (16 * i + 8) ≡ k
    unfolding put_place
    put_kind = number_put t2 (16 * i + 8) k (simp length_put (omega arith)) bk

    pub place_put : place_in (put_place l i p n k) i ≡ place_of p n k
    unfolding place_in
    place_put = rw (put_address, put_next, put_kind)

    pub shows_put : Shows p n k → ShowsIn (put_place l i p n k) i
    shows_put s = rw (put_address, put_next, put_kind) s

    -- a table with one place more
    pub places_put : places_in (put_place l i p n k) (i + 1) ≡ places_in l i ++ (place_of p n k ∷ [])
    unfolding places_in up_to
    places_put =
        let e : places_in (put_place l i p n k) i ≡ places_in l i = places_same (put_place l i p n k) l i place_below in
        rw (add-one i, place_put, e)

-- the same of a row that is a place
module _ (l : List ℕ) (i : ℕ) (x : Place) where
  abbrev its_place : Place
  its_place = place_of (place_at x) (next_of x) (kind_of x)

  pub length_placed : length (put_row l i x) ≡ length l
  unfolding put_row
  length_placed = length_row l i (place_at x) (next_of x) (kind_of x)

  pub row_below_placed : (j : ℕ) → j < i → SameRow (put_row l i x) l j
  unfolding put_row
  row_below_placed = row_below l i (place_at x) (next_of x) (kind_of x)

  pub place_below_placed : (j : ℕ) → j < i → place_in (put_row l i x) j ≡ place_in l j
  unfolding put_row
  place_below_placed = place_below l i (place_at x) (next_of x) (kind_of x)

  module _ (h : 16 * i + 16 ≤ length l) (b : Narrow x) where
    narrow_kind : kind_of x < 2 ^ 32
    narrow_kind = omega (arith, kind_le x)

    pub place_placed : place_in (put_row l i x) i ≡ x
    unfolding put_row
    place_placed = place_put l i (place_at x) (next_of x) (kind_of x) h b.address b.next narrow_kind ∙ place_numbers x

    pub shows_placed : ShowsIn (put_row l i x) i
    unfolding put_row
    shows_placed = shows_put l i (place_at x) (next_of x) (kind_of x) h b.address b.next narrow_kind (shows_numbers x)

    -- a table with one place more
    pub places_placed : places_in (put_row l i x) (i + 1) ≡ places_in l i ++ (x ∷ [])
    unfolding put_row
    places_placed =
        places_put l i (place_at x) (next_of x) (kind_of x) h b.address b.next narrow_kind ∙ rw (place_numbers x)
