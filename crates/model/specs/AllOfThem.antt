-- Demand 2 of the request: "The places and records of an accepted image are those that 01's rules make, and all of them", of the bytes that
-- `translation` hands back.
use Rattle.std.specs.Prelude.{ℕ, suc, ◌+◌, ◌*◌, ◌≡◌, List, length, take}
use Rattle.std.proofs.Math.Option.{some}
use Rattle.std.proofs.Math.ListN.{get_elem?}
use Rattle.numbers.specs.Number.{Below}
use Rattle.model.specs.declared.Place.{Place}
use Rattle.model.specs.Places.{place_at, next_of, kind_of, Makes}
use Rattle.model.specs.Records.{Rec, do_word, link, hold, go_if, go_to, go_held, stop, unknown, Group, one, two, group, Row, row, rows_in, records_in, numbers_in}
use Rattle.model.specs.Translation.{accepted, Handed, translation}

-- the row of a place with its first record f: "four numbers each: address, next, kind, first record"
abbrev pub row_of : Place → ℕ → Row
row_of x f = row (place_at x) (next_of x) (kind_of x) f

-- a table lists the places that are made: each row is such a place's, and each of them has a row, one alone
pub record Lists (made : Place → Type 0) (rows : List Row) : Type 0 where
  pub made_only : (i : ℕ) (r : Row) → get_elem? rows i ≡ some r → (x : Place) × (made x × ((f : ℕ) × (r ≡ row_of x f)))
  pub all_made : (x : Place) → made x → (i : ℕ) × ((f : ℕ) × (get_elem? rows i ≡ some (row_of x f)))
  pub once : (x : Place) (i j f g : ℕ) → get_elem? rows i ≡ some (row_of x f) → get_elem? rows j ≡ some (row_of x g) → i ≡ j

-- f is the first record of x, by its row
abbrev pub FirstRecord : List Row → Place → ℕ → Type 0
FirstRecord rows x f = (i : ℕ) × (get_elem? rows i ≡ some (row_of x f))

-- a record is that of its group, where what names a place goes to that place's first record
abbrev pub Renders : List Row → Rec Place → Rec ℕ → Type 0
Renders rows (do_word w) s = s ≡ do_word w
Renders rows (link p) s = s ≡ link p
Renders rows (hold w p) s = s ≡ hold w p
Renders rows (go_if c x) s = (f : ℕ) × (FirstRecord rows x f × (s ≡ go_if c f))
Renders rows (go_to x) s = (f : ℕ) × (FirstRecord rows x f × (s ≡ go_to f))
Renders rows go_held s = s ≡ go_held
Renders rows (stop e p) s = s ≡ stop e p
Renders rows unknown s = s ≡ unknown

abbrev pub StandsAt : List Row → List (Rec ℕ) → ℕ → Rec Place → Type 0
StandsAt rows records f r = (s : Rec ℕ) × ((get_elem? records f ≡ some s) × Renders rows r s)

abbrev pub GroupAt : List Row → List (Rec ℕ) → ℕ → Group Place → Type 0
GroupAt rows records f (one r) = StandsAt rows records f r
GroupAt rows records f (two r s) = StandsAt rows records f r × StandsAt rows records (suc f) s

-- how many records a group has
abbrev pub size_of : Group Place → ℕ
size_of (one r) = 1
size_of (two r s) = 2

-- "Groups follow place order": from record 0 on, each right behind the one before, up to the last record
pub record Grouped (group_of : Place → Group Place) (rows : List Row) (records : List (Rec ℕ)) : Type 0 where
  pub stands : (i f : ℕ) (x : Place) → get_elem? rows i ≡ some (row_of x f) → GroupAt rows records f (group_of x)
  pub begins : (f : ℕ) (x : Place) → get_elem? rows 0 ≡ some (row_of x f) → f ≡ 0
  pub follows : (i f g : ℕ) (x y : Place) → get_elem? rows i ≡ some (row_of x f) → get_elem? rows (suc i) ≡ some (row_of y g) → g ≡ f + size_of (group_of x)
  pub ends : (i f : ℕ) (x : Place) → get_elem? rows i ≡ some (row_of x f) → suc i ≡ length rows → length records ≡ f + size_of (group_of x)

-- just the places and records counted; what is handed back are bytes
pub record Translated (image : List ℕ) (base : ℕ) (entryList : List ℕ) (placeCount recordCount : ℕ) (places records : List ℕ) : Type 0 where
  pub place_count : length (rows_in places) ≡ placeCount
  pub record_count : length (records_in records) ≡ recordCount
  pub lists : Lists (Makes image base (numbers_in entryList)) (rows_in places)
  pub grouped : Grouped (group image base) (rows_in places) (records_in records)
  pub place_bytes : Below 256 places
  pub record_bytes : Below 256 records

unfoldable pub AllOfThem : Type 0
AllOfThem =
    (image : List ℕ) (base : ℕ) (entryList : List ℕ) (placesLength recordsLength placeCount recordCount : ℕ)
    → Below 256 image → Below 256 entryList
    → (handed : Handed) → handed ≡ translation image base entryList placesLength recordsLength
    → handed.answer ≡ accepted placeCount recordCount
    → Translated image base entryList placeCount recordCount (take (16 * placeCount) handed.places) (take (12 * recordCount) handed.records)
