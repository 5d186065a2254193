-- What acceptance says: the walk made the places, no entry is bad, what is counted lies in the buffers, and they begin with the bytes of table
-- and records.
use Prim.Native.Nat.{ℕ, suc, ◌*◌, ◌-◌, ◌/◌, ◌%◌, ◌^◌, ◌≤◌, ◌<◌}
use native.Mathlib.Omega.{arith}
use mathlib.Core.Path.{◌≡◌, refl, sym, ap, subst}
use mathlib.Core.Bool.{Bool, true, false, ◌&&◌, not, false≢true}
use mathlib.Core.List.{List, [], ◌∷◌}
use mathlib.Core.Option.{none, some}
use lib.Dec.{eqb, leb}
use lib.ListN.{length, take, replicate}
use lib.Seq.{take_at}
use borrow.Author.Tests.{eqb-true, leb-true, not-false}
use Rattle.std.specs.Prelude.{Ok, Err}
use Rattle.numbers.specs.Choice.{pick}
use Rattle.numbers.specs.Number.{Below, minus, plus, number_at, numbers_of, bytes_of}
use Rattle.numbers.proofs.Number.{length_bytes}
use Rattle.numbers.proofs.Bounds.{below_up, number_lt}
use Rattle.model.specs.declared.Place.{Place}
use Rattle.model.specs.declared.Refusal.{Refusal}
use Rattle.model.specs.declared.Refusal.TheVariants.{Forbidden, NoRoom, RecordsShort}
use Rattle.model.specs.OldCore.{in_image, word_in}
use Rattle.model.specs.Places.{plain, plains}
use Rattle.model.specs.Walk.{Walked, table, refused, endless, places_of}
use Rattle.model.specs.Records.{past, Grouping, in_full, rows_from, rows_of, records_of, table_numbers, records_numbers, numbers_in}
use Rattle.model.specs.Translation.{Answer, accepted, Handed, bad_length, bad_count, bad_entry, first_bad, place_room, filled, refusal, acceptance, from_walk, translation}
use Rattle.model.proofs.Members.{AllP}
use Rattle.model.proofs.Follows.{Aligned}
use Rattle.model.proofs.Packed.{length_table, length_records}
use Rattle.model.proofs.Walk.{places_fit}

-- ---------------------------------------------------------------- numbers of bytes have 32 bits
pub words_lt : (image : List ℕ) (base : ℕ) → Below 256 image → (p w : ℕ) → word_in image base p ≡ some w → w < 2 ^ 32
unfolding word_in
words_lt image base ib p w e = go (in_image base (length image) p) e
  where
    go : (b : Bool) → pick b (some (number_at image (minus p base))) none ≡ some w → w < 2 ^ 32
    go true q =
        let z : number_at image (minus p base) ≡ w = cc in
        subst (λ (x : ℕ). x < 2 ^ 32) z (number_lt image (minus p base) ib)
    go false q = let z : ◌≡◌ {A = ℕ} 0 1 = cc in absurd (omega arith)

pub numbers_lt : (bs : List ℕ) → Below 256 bs → Below (2 ^ 32) (numbers_in bs)
unfolding numbers_in numbers_of
numbers_lt bs a = below_up (2 ^ 32) (λ i. number_at bs (4 * i)) (length bs / 4) (λ i. number_lt bs (4 * i) a)

-- ---------------------------------------------------------------- good entries are aligned
good_aligned : (base size e : ℕ) → e < 2 ^ 32 → bad_entry base size e ≡ false → Aligned (plain e)
unfolding bad_entry plus
good_aligned base size e l h = let z : e % 4 ≡ 0 = eqb-true (e % 4) 0 (go (eqb (e % 4) 0) h) in omega arith
  where
    go : (b : Bool) → not (b && in_image base size e) ≡ false → b ≡ true
    go true q = refl
    go false q = absurd (false≢true (sym q))

pub entries_aligned : (base size k : ℕ) (es : List ℕ) → Below (2 ^ 32) es → first_bad base size k es ≡ 0 → AllP Aligned (plains es)
unfolding first_bad plains
entries_aligned base size k [] l h = tt
entries_aligned base size k (e ∷ es) l h = go (bad_entry base size e) refl h (entries_aligned base size (suc k) es l.1)
  where
    go : (b : Bool) → bad_entry base size e ≡ b → pick b (suc k) (first_bad base size (suc k) es) ≡ 0
        → (first_bad base size (suc k) es ≡ 0 → AllP Aligned (plains es)) → Aligned (plain e) × AllP Aligned (plains es)
    go true q i ih = absurd (omega arith)
    go false q i ih = (good_aligned base size e l.0 q, ih i)

pub length_rows : (lay : Grouping) (f : ℕ) (ps : List Place) → length (rows_from lay f ps) ≡ length ps
unfolding rows_from
length_rows lay f [] = refl
length_rows lay f (y ∷ ys) = ap suc (length_rows lay (past (lay y ys) f) ys)

-- ---------------------------------------------------------------- acceptance
abbrev places_of_answer : Answer → ℕ
places_of_answer (Ok c) = c.places
places_of_answer (Err e) = 0

abbrev records_of_answer : Answer → ℕ
records_of_answer (Ok c) = c.records
records_of_answer (Err e) = 0

module _ (image : List ℕ) (base : ℕ) (entryList : List ℕ) (placesLength recordsLength P R : ℕ) where
  abbrev Refused : Refusal → Handed
  Refused = refusal placesLength recordsLength

  pub record Took (h : Handed) : Type 0 where
    pub ps : List Place
    pub made : places_of image base (place_room placesLength) (numbers_in entryList) ≡ table ps
    pub good : first_bad base (length image) 0 (numbers_in entryList) ≡ 0
    pub place_count : length ps ≡ P
    pub record_count : length (records_of (in_full image base) ps) ≡ R
    pub place_room_lem : 16 * P ≤ placesLength
    pub record_room : 12 * R ≤ recordsLength
    pub table_bytes : take (16 * P) h.places ≡ bytes_of (table_numbers (rows_of (in_full image base) ps))
    pub record_bytes : take (12 * R) h.records ≡ bytes_of (records_numbers (records_of (in_full image base) ps))

  -- a refusal is no acceptance
  refused_no : {A : Type 0} (e : Refusal) → (Refused e).answer ≡ accepted P R → A
  unfolding refusal
  refused_no e q = absurd (cc)

  front : (ns : List ℕ) (size n : ℕ) → n ≡ 4 * length ns → take n (filled ns size) ≡ bytes_of ns
  unfolding filled
  front ns size n e = take_at (bytes_of ns) (replicate (size - length (bytes_of ns)) 0) n (omega (arith, length_bytes ns))

  accepts : (ps : List Place) → places_of image base (place_room placesLength) (numbers_in entryList) ≡ table ps
      → first_bad base (length image) 0 (numbers_in entryList) ≡ 0 → length (records_of (in_full image base) ps) ≤ recordsLength / 12
      → (acceptance image base placesLength recordsLength ps).answer ≡ accepted P R
      → Took (acceptance image base placesLength recordsLength ps)
  unfolding acceptance rows_of place_room
  accepts ps q g l e =
      let a : length ps ≡ P = ap places_of_answer e in
      let b : length (records_of (in_full image base) ps) ≡ R = ap records_of_answer e in
      record {
        ps = ps;
        made = q;
        good = g;
        place_count = a;
        record_count = b;
        place_room_lem = omega (arith, places_fit image base (place_room placesLength) (numbers_in entryList) ps q);
        record_room = omega arith;
        table_bytes = front (table_numbers (rows_from (in_full image base) 0 ps)) placesLength (16 * P)
            (omega (arith, length_table (rows_from (in_full image base) 0 ps), length_rows (in_full image base) 0 ps));
        record_bytes = front (records_numbers (records_of (in_full image base) ps)) recordsLength (12 * R) (omega (arith, length_records (records_of (in_full image base) ps)));
      }

  past_test : (b : Bool) (r : Refusal) (h : Handed) → (b ≡ false → h.answer ≡ accepted P R → Took h)
      → (pick b (Refused r) h).answer ≡ accepted P R → Took (pick b (Refused r) h)
  past_test true r h f e = refused_no r e
  past_test false r h f e = f refl e

  took_walk : first_bad base (length image) 0 (numbers_in entryList) ≡ 0 → (y : Walked)
      → places_of image base (place_room placesLength) (numbers_in entryList) ≡ y
      → (from_walk image base placesLength recordsLength y).answer ≡ accepted P R
      → Took (from_walk image base placesLength recordsLength y)
  unfolding from_walk
  took_walk g (refused n a) q e = past_test (eqb n 4) (Forbidden a) (Refused (NoRoom a)) (λ z. refused_no (NoRoom a)) e
  took_walk g endless q e = refused_no (NoRoom 0) e
  took_walk g (table ps) q e = go (leb (length (records_of (in_full image base) ps)) (recordsLength / 12)) refl e
    where
      taken : Handed
      taken = acceptance image base placesLength recordsLength ps

      short : Handed
      short = Refused (RecordsShort (length (records_of (in_full image base) ps)))

      go : (b : Bool) → leb (length (records_of (in_full image base) ps)) (recordsLength / 12) ≡ b → (pick b taken short).answer ≡ accepted P R
          → Took (pick b taken short)
      go true l i = accepts ps q g (leb-true _ _ l) i
      go false l i = refused_no (RecordsShort (length (records_of (in_full image base) ps))) i

  pub took : (translation image base entryList placesLength recordsLength).answer ≡ accepted P R
      → Took (translation image base entryList placesLength recordsLength)
  unfolding translation
  took e =
      let es = numbers_in entryList in
      let bad = first_bad base (length image) 0 es in
      past_test (bad_length (length image)) _ _
      (λ q1. past_test (not (eqb (base % 4) 0)) _ _
      (λ q2. past_test (bad_count (length es)) _ _
      (λ q3. past_test (not (eqb bad 0)) _ _
      (λ q4. took_walk (eqb-true bad 0 (not-false (eqb bad 0) q4)) (places_of image base (place_room placesLength) es) refl)))) e
