-- What the translator's routines leave, beside what model says that is handed back.
use Rattle.std.specs.Prelude.{ℕ, ◌*◌, ◌%◌, not, eqb, List, length, Result, Ok, Err}
use Rattle.numbers.specs.Choice.{pick}
use Rattle.model.specs.declared.Refusal.{Refusal}
use Rattle.model.specs.declared.Refusal.TheVariants.{ImageLength, Base, Entry}
use Rattle.numbers.specs.Number.{numbers_of}
use Rattle.model.specs.Translation.{Answer, Handed, filled, bad_length, bad_count, first_bad}

-- the refusals before the walk: 1 and 2, of an image's length and base, and then 3, of the entries
unfoldable pub image_checked : ℕ → ℕ → Result (Unit {0}) Refusal
image_checked size base = pick (bad_length size) (Err (ImageLength size)) (pick (not (eqb (base % 4) 0)) (Err (Base base)) (Ok tt))

unfoldable pub entries_checked : ℕ → ℕ → List ℕ → Result (Unit {0}) Refusal
entries_checked size base es =
    let bad = first_bad base size 0 es in
    pick (bad_count (length es)) (Err (Entry 0)) (pick (not (eqb bad 0)) (Err (Entry bad)) (Ok tt))

-- the places and records that an answer counts
unfoldable pub places_counted : Answer → ℕ
places_counted (Ok c) = c.places
places_counted (Err e) = 0

unfoldable pub records_counted : Answer → ℕ
records_counted (Ok c) = c.records
records_counted (Err e) = 0

abbrev pub handed : Answer → List ℕ → List ℕ → Handed
handed r places records = record { answer = r; places = places; records = records }

-- an answer, and both buffers as they are once cleared past the numbers that it counts
abbrev pub cleared : Answer → List ℕ → List ℕ → Handed
cleared r places records =
    handed r (filled (numbers_of places (4 * places_counted r)) (length places)) (filled (numbers_of records (3 * records_counted r)) (length records))
