-- 01, What the translator hands back: from the bytes of image and entries, the base and the lengths of both buffers.
use Rattle.std.specs.Prelude.{ℕ, suc, ◌-◌, ◌/◌, ◌%◌, min, Bool, ◌&&◌, ◌||◌, not, List, [], ◌∷◌, ◌++◌, eqb, leb, ltb, length, replicate, Result, Ok, Err}
use Rattle.numbers.specs.Choice.{pick}
use Rattle.numbers.specs.Number.{bytes_of}
use Rattle.model.specs.declared.Place.{Place}
use Rattle.model.specs.declared.Counts.{Counts}
use Rattle.model.specs.declared.Refusal.{Refusal}
use Rattle.model.specs.declared.Refusal.TheVariants.{ImageLength, Base, Entry, Forbidden, NoRoom, RecordsShort}
use Rattle.model.specs.OldCore.{in_image}
use Rattle.model.specs.Walk.{Walked, table, refused, endless, places_of}
use Rattle.model.specs.Records.{numbers_in, in_full, rows_of, records_of, table_numbers, records_numbers}

abbrev pub Answer : Type 0
Answer = Result Counts Refusal

-- so many places and records
abbrev pub accepted : ℕ → ℕ → Answer
accepted places records = Ok (record { places = places; records = records })

-- 01's number for each refusal, and the value returned
unfoldable pub refusal_numbers : Refusal → List ℕ
refusal_numbers (ImageLength n) = 1 ∷ n ∷ []
refusal_numbers (Base a) = 2 ∷ a ∷ []
refusal_numbers (Entry k) = 3 ∷ k ∷ []
refusal_numbers (Forbidden a) = 4 ∷ a ∷ []
refusal_numbers (NoRoom a) = 5 ∷ a ∷ []
refusal_numbers (RecordsShort n) = 6 ∷ n ∷ []

-- 01's number for each answer, and the values returned
unfoldable pub answer_numbers : Answer → List ℕ
answer_numbers (Ok c) = 0 ∷ c.places ∷ c.records ∷ []
answer_numbers (Err e) = refusal_numbers e ++ 0 ∷ []

-- the answer and the bytes of both buffers
pub record Handed : Type 0 where
  pub answer : Answer
  pub places : List ℕ
  pub records : List ℕ

-- 1: "length 0, above 16,384, or no multiple of 4"
unfoldable pub bad_length : ℕ → Bool
bad_length n = eqb n 0 || ltb 16384 n || not (eqb (n % 4) 0)

-- 3: "0 or over 64 entries"
unfoldable pub bad_count : ℕ → Bool
bad_count n = eqb n 0 || ltb 64 n

-- 3: "an entry misaligned or outside the image"
unfoldable pub bad_entry : ℕ → ℕ → ℕ → Bool
bad_entry base size e = not (eqb (e % 4) 0 && in_image base size e)

-- 02, N8: "Refusal 3's position is to be that of the first entry, in list order, that is misaligned or outside the image"; 01: "counted
-- from 1". The entries here come after k others; 0 where none of them is bad
unfoldable pub first_bad : ℕ → ℕ → ℕ → List ℕ → ℕ
first_bad base size k [] = 0
first_bad base size k (e ∷ es) = pick (bad_entry base size e) (suc k) (first_bad base size (suc k) es)

-- 5: "a new place exceeds the table (four numbers each ..) or is the 8,193rd"
unfoldable pub place_room : ℕ → ℕ
place_room size = min (size / 16) 8192

-- "on acceptance all bytes past the last number used are 0"
unfoldable pub filled : List ℕ → ℕ → List ℕ
filled numbers size = bytes_of numbers ++ replicate (size - length (bytes_of numbers)) 0

-- "Every refusal fills both buffers with 0"
unfoldable pub refusal : ℕ → ℕ → Refusal → Handed
refusal placesLength recordsLength e = record { answer = Err e; places = replicate placesLength 0; records = replicate recordsLength 0 }

module _ (image : List ℕ) (base placesLength recordsLength : ℕ) where
  unfoldable pub acceptance : List Place → Handed
  acceptance ps =
      record {
        answer = accepted (length ps) (length (records_of (in_full image base) ps));
        places = filled (table_numbers (rows_of (in_full image base) ps)) placesLength;
        records = filled (records_numbers (records_of (in_full image base) ps)) recordsLength;
      }

  -- 4 or 5, as the walk says; 6: "the record buffer is short", with the records needed; endless never is (`places_end`)
  unfoldable pub from_walk : Walked → Handed
  from_walk (table ps) =
      pick (leb (length (records_of (in_full image base) ps)) (recordsLength / 12)) (acceptance ps)
      (refusal placesLength recordsLength (RecordsShort (length (records_of (in_full image base) ps))))
  from_walk (refused n a) = pick (eqb n 4) (refusal placesLength recordsLength (Forbidden a)) (refusal placesLength recordsLength (NoRoom a))
  from_walk endless = refusal placesLength recordsLength (NoRoom 0)

-- "Order: 1, 2, 3. In the walk .. the first event of 4 or 5 decides; 6 comes last." 02, N8: "a bad count still gives 0"
unfoldable pub translation : List ℕ → ℕ → List ℕ → ℕ → ℕ → Handed
translation image base entries placesLength recordsLength =
    let refuse = refusal placesLength recordsLength in
    let es = numbers_in entries in
    let bad = first_bad base (length image) 0 es in
    pick (bad_length (length image)) (refuse (ImageLength (length image)))
    (pick (not (eqb (base % 4) 0)) (refuse (Base base))
    (pick (bad_count (length es)) (refuse (Entry 0))
    (pick (not (eqb bad 0)) (refuse (Entry bad))
    (from_walk image base placesLength recordsLength (places_of image base (place_room placesLength) es)))))

-- what the loader's routine returns and leaves: the answer's number and values, and the bytes of both buffers
pub record Back : Type 0 where
  pub numbers : List ℕ
  pub places : List ℕ
  pub records : List ℕ

abbrev pub back : List ℕ → List ℕ → List ℕ → Back
back numbers places records = record { numbers = numbers; places = places; records = records }

abbrev pub returned : Handed → Back
returned h = back (answer_numbers h.answer) h.places h.records
