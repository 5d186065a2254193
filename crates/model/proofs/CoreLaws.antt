-- What the cores hand to trails.
use Prim.Native.Nat.{ℕ, zero, suc, ◌<◌}
use native.Mathlib.Omega.{arith}
use mathlib.Core.Path.{◌≡◌, refl, sym, ap, ◌∙◌}
use mathlib.Core.Logic.{◌↔◌}
use mathlib.Core.Bool.{Bool, true, false, ◌&&◌, false≢true}
use mathlib.Core.List.{List, [], ◌∷◌}
use mathlib.Core.Option.{Option, none, some, none-ne-some, some-injective}
use lib.Dec.{eqb}
use lib.ListN.{get_elem?}
use borrow.Author.Tests.{eqb-true, eq-eqb}
use Rattle.numbers.specs.Choice.{pick}
use Rattle.numbers.proofs.Choice.{both}
use Rattle.model.specs.Records.{Row, row, rows_in, records_in}
use Rattle.model.specs.NewCore.{seek}
use Rattle.model.specs.Cores.{old_mark, naming, new_mark, new_by_held}
use Rattle.model.specs.CoreLaws.{Lowest, Naming, PlainOf, CoreLaws}
use Rattle.model.proofs.Trails.{none_some}
use Rattle.model.proofs.Six.{kind_6_goes, six_kind}

-- the first row for which a test holds, and what it has
module _ (test : Row → Bool) (value : Row → ℕ) (such : Row → Type 0) (holds : (x : Row) → test x ≡ true → such x) (tested : (x : Row) → such x → test x ≡ true) where
  abbrev first_of : List Row → Option ℕ
  first_of [] = none
  first_of (x ∷ xs) = pick (test x) (some (value x)) (first_of xs)

  pub lowest_of : (rows : List Row) (v : ℕ) → first_of rows ≡ some v → (x : Row) × ((value x ≡ v) × Lowest such rows x)
  lowest_of [] v e = none_some e
  lowest_of (x ∷ xs) v e = go (test x) refl (lowest_of xs v)
    where
      go : (b : Bool) → test x ≡ b → (first_of xs ≡ some v → (y : Row) × ((value y ≡ v) × Lowest such xs y)) → (y : Row) × ((value y ≡ v) × Lowest such (x ∷ xs) y)
      go true q ih =
          (x, (some-injective _ _ (rw q at e), record { number = 0; there = refl; is_such = holds x q; none_before = λ i y l g s. omega arith }))
      go false q ih =
          let r = ih (rw q at e) in
          let w = r.1.1 in
          (r.0, (r.1.0, record { number = suc w.number; there = w.there; is_such = w.is_such; none_before = before w }))
        where
          before : {y : Row} (w : Lowest such xs y) (i : ℕ) (z : Row) → i < suc w.number → get_elem? (x ∷ xs) i ≡ some z → ¬ such z
          before w zero z l g s = false≢true (sym q ∙ tested x (rw (some-injective _ _ g) s))
          before w (suc i) z l g s = w.none_before i z (omega arith) g s

  pub of_lowest : (rows : List Row) (x : Row) → Lowest such rows x → first_of rows ≡ some (value x)
  of_lowest rows x w = at w.number rows w.there w.none_before
    where
      at : (n : ℕ) (rows : List Row) → get_elem? rows n ≡ some x → ((i : ℕ) (y : Row) → i < n → get_elem? rows i ≡ some y → ¬ such y) → first_of rows ≡ some (value x)
      at n [] g f = absurd (none-ne-some _ g)
      at zero (y ∷ ys) g f = let e : y ≡ x = some-injective _ _ g in rw (e, tested x w.is_such)
      at (suc n) (y ∷ ys) g f = past (test y) refl (at n ys g (λ i z l q. f (suc i) z (omega arith) q))
        where
          past : (b : Bool) → test y ≡ b → first_of ys ≡ some (value x) → first_of (y ∷ ys) ≡ some (value x)
          past true q r = absurd (f 0 y (omega arith) refl (holds y q))
          past false q r = rw q r

-- ---------------------------------------------------------------- naming, and seeking
abbrev names_it : ℕ → Row → Bool
names_it r (row p n k f) = eqb f r

abbrev address_in : Row → ℕ
address_in (row p n k f) = p

abbrev is_plain : ℕ → Row → Bool
is_plain a (row p n k f) = eqb k 0 && eqb p a

abbrev first_in : Row → ℕ
first_in (row p n k f) = f

module _ (r : ℕ) where
  names_so : (x : Row) → names_it r x ≡ true → Naming r x
  names_so (row p n k f) e = eqb-true f r e

  so_names : (x : Row) → Naming r x → names_it r x ≡ true
  so_names (row p n k f) e = eq-eqb f r e

  abbrev first_naming : List Row → Option ℕ
  first_naming = first_of (names_it r) address_in (Naming r) names_so so_names

  naming_first : (rows : List Row) → naming rows r ≡ first_naming rows
  unfolding naming
  naming_first [] = refl
  naming_first (row p n k f ∷ rows) = rw (naming_first rows)

  named_row : (rows : List Row) (a : ℕ) → (x : Row) × ((address_in x ≡ a) × Lowest (Naming r) rows x)
      → (n : ℕ) × ((k : ℕ) × Lowest (Naming r) rows (row a n k r))
  named_row rows a (row p n k f, (e, w)) = let q : p ≡ a = e in (n, (k, rw (q, w.is_such) at w))

  pub naming_lowest : (rows : List Row) (a : ℕ) → (naming rows r ≡ some a) ↔ ((n : ℕ) × ((k : ℕ) × Lowest (Naming r) rows (row a n k r)))
  naming_lowest rows a = (
    λ e. named_row rows a (lowest_of (names_it r) address_in (Naming r) names_so so_names rows a (sym (naming_first rows) ∙ e)),
    λ w. naming_first rows ∙ of_lowest (names_it r) address_in (Naming r) names_so so_names rows (row a w.0 w.1.0 r) w.1.1,
  )

module _ (a : ℕ) where
  plain_so : (x : Row) → is_plain a x ≡ true → PlainOf a x
  plain_so (row p n k f) e = let t = both (eqb k 0) (eqb p a) e in (eqb-true k 0 t.0, eqb-true p a t.1)

  so_plain : (x : Row) → PlainOf a x → is_plain a x ≡ true
  so_plain (row p n k f) e = rw (eq-eqb k 0 e.0, eq-eqb p a e.1)

  abbrev first_plain : List Row → Option ℕ
  first_plain = first_of (is_plain a) first_in (PlainOf a) plain_so so_plain

  seek_first : (rows : List Row) → seek rows a ≡ first_plain rows
  unfolding seek
  seek_first [] = refl
  seek_first (row p n k f ∷ rows) = rw (seek_first rows)

  sought_row : (rows : List Row) (f : ℕ) → (x : Row) × ((first_in x ≡ f) × Lowest (PlainOf a) rows x) → (n : ℕ) × Lowest (PlainOf a) rows (row a n 0 f)
  sought_row rows f (row p n k g, (e, w)) = let q : g ≡ f = e in (n, rw (q, w.is_such.0, w.is_such.1) at w)

  pub seek_lowest : (rows : List Row) (f : ℕ) → (seek rows a ≡ some f) ↔ ((n : ℕ) × Lowest (PlainOf a) rows (row a n 0 f))
  seek_lowest rows f = (
    λ e. sought_row rows f (lowest_of (is_plain a) first_in (PlainOf a) plain_so so_plain rows f (sym (seek_first rows) ∙ e)),
    λ w. seek_first rows ∙ of_lowest (is_plain a) first_in (PlainOf a) plain_so so_plain rows (row a w.0 0 f) w.1,
  )

pub core_laws : CoreLaws
unfolding old_mark new_mark new_by_held
core_laws =
    record {
      old_entry = λ image base db m pc npc. refl;
      old_annulled = λ image base db m pc npc. refl;
      old_by_held = λ image base db s. refl;
      new_entry = λ records places base size db m r h a. naming_lowest r (rows_in places) a;
      new_by_held_lem = λ records places base size db m r h a. (
        six_kind records places base size db m r h a (get_elem? (records_in records) r),
        λ e. kind_6_goes records places base size db m r h e.0 ∙ ap some (sym e.1),
      );
      sought = λ rows a f. seek_lowest a rows f;
      old_machine_lem = λ image base db m pc npc annul. refl;
      new_machine_lem = λ records places base size db m r h. refl;
    }
