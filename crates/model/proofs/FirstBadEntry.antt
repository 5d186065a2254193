-- Refusal 3 names the first bad entry, and a bad count is 0.
use Prim.Native.Nat.{ℕ, zero, suc, ◌+◌, ◌/◌, ◌%◌, ◌<◌}
use native.Mathlib.Omega.{arith}
use mathlib.Core.Path.{◌≡◌, refl, sym, ap, ◌∙◌, subst}
use mathlib.Core.Bool.{Bool, true, false, not, false≢true}
use mathlib.Core.List.{List, [], ◌∷◌}
use lib.Dec.{eqb, leb}
use lib.ListN.{length, get_or}
use borrow.Author.Tests.{eq-eqb, ne_eqb}
use Rattle.std.specs.Prelude.{Err}
use Rattle.numbers.specs.Choice.{pick}
use Rattle.model.specs.declared.Refusal.TheVariants.{Entry, Forbidden, NoRoom, RecordsShort}
use Rattle.model.specs.Records.{numbers_in, in_full, records_of}
use Rattle.model.specs.Walk.{Walked, table, refused, endless, places_of}
use Rattle.model.specs.Translation.{Answer, Handed, answer_numbers, refusal_numbers, bad_count, bad_entry, first_bad, place_room, refusal, acceptance, from_walk, translation}
use Rattle.model.specs.FirstBadEntry.{First, NamesFirst, FirstBadEntry}

-- ---------------------------------------------------------------- the position is that of the first bad entry
module _ (base size : ℕ) where
  abbrev from : ℕ → List ℕ → ℕ
  from = first_bad base size

  -- the first of a list, from its head and its tail
  head_first : (e : ℕ) (es : List ℕ) → bad_entry base size e ≡ true → First base size (e ∷ es) 0
  head_first e es h = record { there = omega arith; bad = h; none_before = λ i l. absurd (omega arith) }

  tail_first : (e : ℕ) (es : List ℕ) (k : ℕ) → bad_entry base size e ≡ false → First base size es k → First base size (e ∷ es) (suc k)
  tail_first e es k h f = record { there = omega (arith, f.there); bad = f.bad; none_before = before }
    where
      before : (i : ℕ) → i < suc k → bad_entry base size (get_or (e ∷ es) i 0) ≡ false
      before zero l = h
      before (suc i) l = f.none_before i (omega arith)

  -- a position names the first bad entry
  named_first : (k : ℕ) (es : List ℕ) (p : ℕ) → from k es ≡ suc p → (i : ℕ) × ((p ≡ k + i) × First base size es i)
  unfolding first_bad
  named_first k [] p h = absurd (omega arith)
  named_first k (e ∷ es) p h = go (bad_entry base size e) refl h (named_first (suc k) es p)
    where
      go : (b : Bool) → bad_entry base size e ≡ b → pick b (suc k) (from (suc k) es) ≡ suc p
          → (from (suc k) es ≡ suc p → (i : ℕ) × ((p ≡ suc k + i) × First base size es i)) → (i : ℕ) × ((p ≡ k + i) × First base size (e ∷ es) i)
      go true q h r = (0, (omega arith, head_first e es q))
      go false q h r = let d = r h in (suc d.0, (omega (arith, d.1.0), tail_first e es d.0 q d.1.1))

  -- and the first bad entry has that position
  first_named : (k : ℕ) (es : List ℕ) (i : ℕ) → First base size es i → from k es ≡ suc (k + i)
  unfolding first_bad
  first_named k [] i f = absurd (omega (arith, f.there))
  first_named k (e ∷ es) zero f = rw f.bad (omega arith)
  first_named k (e ∷ es) (suc i) f =
      rw (f.none_before 0 (omega arith))
      (first_named (suc k) es i (record { there = omega (arith, f.there); bad = f.bad; none_before = λ j l. f.none_before (suc j) (omega arith) }) ∙ omega arith)

-- ---------------------------------------------------------------- and the answer's
abbrev number_of : Answer → ℕ
number_of a = get_or (answer_numbers a) 0 0

module _ (image : List ℕ) (base : ℕ) (entries : List ℕ) (pl rl : ℕ) where
  abbrev es : List ℕ
  es = numbers_in entries

  abbrev size : ℕ
  size = length image

  -- after the walk no answer is 3
  not_third : (w : Walked) → number_of (from_walk image base pl rl w).answer ≡ 3 → ⊥
  unfolding from_walk refusal acceptance answer_numbers refusal_numbers
  not_third (table ps) = go (leb (length (records_of (in_full image base) ps)) (rl / 12))
    where
      go : (b : Bool) → number_of (pick b (acceptance image base pl rl ps) (refusal pl rl (RecordsShort (length (records_of (in_full image base) ps))))).answer ≡ 3 → ⊥
      go true e = omega arith
      go false e = omega arith
  not_third (refused n a) = go (eqb n 4)
    where
      go : (b : Bool) → number_of (pick b (refusal pl rl (Forbidden a)) (refusal pl rl (NoRoom a))).answer ≡ 3 → ⊥
      go true e = omega arith
      go false e = omega arith
  not_third endless = λ e. omega arith

  -- the answer where 1 and 2 do not come first, by the count and the position
  abbrev walked : Handed
  walked = from_walk image base pl rl (places_of image base (place_room pl) es)

  abbrev answer : Bool → ℕ → Answer
  answer c p = (pick c (refusal pl rl (Entry 0)) (pick (not (eqb p 0)) (refusal pl rl (Entry p)) walked)).answer

  no_entry : {A : Type 0} (k : ℕ) → walked.answer ≡ Err (Entry k) → A
  unfolding answer_numbers refusal_numbers
  no_entry k e = absurd (not_third (places_of image base (place_room pl) es) (ap number_of e))

  names : (c : Bool) (p : ℕ) → bad_count (length es) ≡ c → first_bad base size 0 es ≡ p → NamesFirst base size es (answer c p)
  unfolding refusal
  names true p hc hp =
      record {
        count = (λ e. hc, λ e. refl);
        entry = λ k. (λ e. let z : ◌≡◌ {A = ℕ} 0 (suc k) = cc in absurd (omega arith), λ f. absurd (false≢true (sym f.0 ∙ hc)));
      }
  names false zero hc hp =
      record {
        count = (no_entry 0, λ e. absurd (false≢true (sym hc ∙ e)));
        entry = λ k. (no_entry (suc k), λ f. absurd (omega (arith, first_named base size 0 es k f.1)));
      }
  names false (suc p) hc hp =
      let d = named_first base size 0 es p hp in
      let f : First base size es p = subst (First base size es) (omega (arith, d.1.0)) d.1.1 in
      rw (answer, ne_eqb (suc p) 0 (λ z. omega (arith, z)))
      (record {
        count = (λ e. let z : ◌≡◌ {A = ℕ} (suc p) 0 = cc in absurd (omega arith), λ e. absurd (false≢true (sym hc ∙ e)));
        entry = λ k. (
          λ e. let z : p ≡ k = cc in (hc, subst (First base size es) z f),
          λ g. ap (λ n. Err (Entry n)) (omega (arith, hp, first_named base size 0 es k g.1)),
        );
      })

pub first_bad_entry : FirstBadEntry
unfolding FirstBadEntry translation
first_bad_entry image base entries pl rl hl hb =
    rw (hl, eq-eqb (base % 4) 0 hb) (names image base entries pl rl (bad_count (length (numbers_in entries))) (first_bad base (length image) 0 (numbers_in entries)) refl refl)
