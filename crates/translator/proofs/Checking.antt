-- Laws of the checks before the walk: the entries, and the refusals in their order.
use lib.Dec.{leb, ltb, eqb}
use Rattle.numbers.proofs.Lists.{length_up, drop_up, drop_all_up}
use Rattle.numbers.specs.Number.{number_at, numbers_of}
use borrow.Author.Tests.{ne_eqb, lt-ltb, le-ltb, leb-true, leb-false, ltb-false}
use lib.ListN.{length, drop}
use native.Mathlib.Numerals.{add-one}
use native.Mathlib.Omega.{arith}
use mathlib.Core.List.{List}
use mathlib.Core.Bool.{Bool, true, false, false≢true, not, ◌||◌}
use mathlib.Core.Path.{◌≡◌, refl, sym, ap, ◌∙◌}
use Prim.Native.Nat.{ℕ, suc, ◌+◌, ◌*◌, ◌/◌, ◌%◌, ◌≤◌, ◌<◌}
use Rattle.std.specs.Prelude.{Result, Ok, Err}
use Rattle.translator.specs.Handing.{image_checked, entries_checked}
use Rattle.numbers.specs.Choice.{pick}
use Rattle.model.specs.declared.Refusal.{Refusal}
use Rattle.model.specs.Translation.{Handed, bad_length, bad_count, bad_entry, first_bad, place_room, refusal, from_walk, translation}
use Rattle.model.specs.Walk.{Walked, places_of}
use Rattle.model.specs.Records.{numbers_in}
use Rattle.model.specs.declared.Refusal.TheVariants.{ImageLength, Base, Entry}

-- what does not fit lies outside
pub outside : (a b : ℕ) → ltb b a ≡ not (leb a b)
outside a b = go (leb a b) refl
  where
    go : (t : Bool) → leb a b ≡ t → ltb b a ≡ not t
    go true e = le-ltb b a (leb-true a b e)
    go false e = lt-ltb b a (leb-false a b e)

-- entry j is bad, or the check goes on; past the last none is
module _ (base size : ℕ) (l : List ℕ) (k j : ℕ) where
  pub bad_here : (v : ℕ) {b : Bool} → j < k → v ≡ number_at l (4 * j) → b ≡ bad_entry base size v → b ≡ true
      → suc j ≡ first_bad base size j (drop j (numbers_of l k))
  unfolding first_bad numbers_of
  bad_here v h e t y = rw (drop_up (λ i. number_at l (4 * i)) k j h, ← e, ← t, y)

  pub bad_later : (v : ℕ) {b : Bool} → j < k → v ≡ number_at l (4 * j) → b ≡ bad_entry base size v → b ≡ false
      → first_bad base size (j + 1) (drop (j + 1) (numbers_of l k)) ≡ first_bad base size j (drop j (numbers_of l k))
  unfolding first_bad numbers_of
  bad_later v h e t n = rw (add-one j, drop_up (λ i. number_at l (4 * i)) k j h, ← e, ← t, n)

  pub bad_nowhere : k ≤ j → 0 ≡ first_bad base size j (drop j (numbers_of l k))
  unfolding first_bad numbers_of
  bad_nowhere h = rw (drop_all_up (λ i. number_at l (4 * i)) k j h)

-- a count that is not bad
pub good_count : (k : ℕ) {b : Bool} → b ≡ bad_count k → b ≡ false → k ≤ 64
unfolding bad_count
good_count k e f = go (eqb k 0) (ltb 64 k) refl (sym e ∙ f)
  where
    go : (a b : Bool) → ltb 64 k ≡ b → a || b ≡ false → k ≤ 64
    go true b h n = absurd (false≢true (sym n))
    go false true h n = absurd (false≢true (sym n))
    go false false h n = ltb-false 64 k h

-- what is answered of the entries
module _ (base size : ℕ) (es : List ℕ) where
  pub entries_none : bad_count (length es) ≡ true → Err (Entry 0) ≡ entries_checked size base es
  unfolding entries_checked
  entries_none h = rw h

  module _ (h : bad_count (length es) ≡ false) where
    pub entries_bad : (j : ℕ) → suc j ≡ first_bad base size 0 es → Err (Entry (j + 1)) ≡ entries_checked size base es
    unfolding entries_checked
    entries_bad j e = rw (h, ← e, add-one j, ne_eqb (suc j) 0 (λ z. omega arith))

    pub entries_good : 0 ≡ first_bad base size 0 es → Ok tt ≡ entries_checked size base es
    unfolding entries_checked
    entries_good e = rw (h, ← e)

pub count_of : (entries : List ℕ) → length (numbers_in entries) ≡ length entries / 4
unfolding numbers_in numbers_of
count_of entries = length_up (λ i. number_at entries (4 * i)) (length entries / 4)

-- two tests, each with its refusal: what is refused, or what comes after them
abbrev Two : Bool → Bool → Refusal → Refusal → Result (Unit {0}) Refusal
Two b c x y = pick b (Err x) (pick c (Err y) (Ok tt))

two_no : (f : Refusal → Handed) (b c : Bool) (x y e : Refusal) (w : Handed) → Err e ≡ Two b c x y → f e ≡ pick b (f x) (pick c (f y) w)
two_no f true c x y e w k = let q : e ≡ x = cc in ap f q
two_no f false true x y e w k = let q : e ≡ y = cc in ap f q
two_no f false false x y e w k = absurd (cc)

two_ok : (f : Refusal → Handed) (b c : Bool) (x y : Refusal) {u : Unit {0}} (w : Handed) → Ok u ≡ Two b c x y → w ≡ pick b (f x) (pick c (f y) w)
two_ok f true c x y w k = absurd (cc)
two_ok f false true x y w k = absurd (cc)
two_ok f false false x y w k = refl

-- the refusals 1, 2 and 3, and the walk after them
module _ (image : List ℕ) (base : ℕ) (entries : List ℕ) (pl rl : ℕ) where
  abbrev es : List ℕ
  es = numbers_in entries

  abbrev answer : Handed
  answer = translation image base entries pl rl

  abbrev walked : Handed
  walked = from_walk image base pl rl (places_of image base (place_room pl) es)

  abbrev bad : ℕ
  bad = first_bad base (length image) 0 es

  abbrev after : Handed
  after = pick (bad_count (length es)) (refusal pl rl (Entry 0)) (pick (not (eqb bad 0)) (refusal pl rl (Entry bad)) walked)

  pub tr_image : (e : Refusal) → Err e ≡ image_checked (length image) base → refusal pl rl e ≡ answer
  unfolding translation image_checked
  tr_image e h =
      two_no (refusal pl rl) (bad_length (length image)) (not (eqb (base % 4) 0)) (ImageLength (length image)) (Base base) e after h

  module _ {u : Unit {0}} (h : Ok u ≡ image_checked (length image) base) where
    after_image : after ≡ answer
    unfolding translation image_checked
    after_image =
        two_ok (refusal pl rl) (bad_length (length image)) (not (eqb (base % 4) 0)) (ImageLength (length image)) (Base base) after h

    pub tr_entries : (e : Refusal) → Err e ≡ entries_checked (length image) base es → refusal pl rl e ≡ answer
    unfolding entries_checked
    tr_entries e k =
        two_no (refusal pl rl) (bad_count (length es)) (not (eqb bad 0)) (Entry 0) (Entry bad) e walked k ∙ after_image

    pub tr_walk : {v : Unit {0}} {room : ℕ} {w : Walked} → Ok v ≡ entries_checked (length image) base es → room ≡ place_room pl
        → w ≡ places_of image base room es → from_walk image base pl rl w ≡ answer
    unfolding entries_checked
    tr_walk k er ew =
        rw (ew, er) (two_ok (refusal pl rl) (bad_count (length es)) (not (eqb bad 0)) (Entry 0) (Entry bad) walked k ∙ after_image)
