-- 01, One listing in full: "an image of up to 1,024 bytes, base 0, entry 0, with 512 places and 1,024 records".
use Rattle.std.specs.Prelude.{Ok, Err, ℕ, zero, suc, ◌+◌, ◌*◌, ◌≤◌, ◌≡◌, List, [], ◌∷◌, ◌++◌, ltb, length}
use Rattle.numbers.specs.Choice.{pick}
use Rattle.numbers.specs.Number.{number_at}
use Rattle.model.specs.Translation.{Answer, Handed, refusal_numbers, translation}
use Rattle.listing.specs.Text.{line_of, inserted}

-- "Its output opens with this line of names: place number, source address, next, kind, first record."
-- place address next kind record
abbrev pub place_names : List ℕ
place_names =
    112 ∷ 108 ∷ 97 ∷ 99 ∷ 101 ∷ 32 ∷ 97 ∷ 100 ∷ 100 ∷ 114 ∷ 101 ∷ 115 ∷ 115 ∷ 32 ∷ 110 ∷ 101 ∷ 120 ∷ 116 ∷ 32 ∷ 107 ∷ 105 ∷ 110 ∷ 100 ∷ 32
    ∷ 114 ∷ 101 ∷ 99 ∷ 111 ∷ 114 ∷ 100 ∷ 10 ∷ []

-- "Records follow under theirs."
-- kind first second
abbrev pub record_names : List ℕ
record_names = 107 ∷ 105 ∷ 110 ∷ 100 ∷ 32 ∷ 102 ∷ 105 ∷ 114 ∷ 115 ∷ 116 ∷ 32 ∷ 115 ∷ 101 ∷ 99 ∷ 111 ∷ 110 ∷ 100 ∷ 10 ∷ []

-- refused detail
abbrev pub refusal_names : List ℕ
refusal_names = 114 ∷ 101 ∷ 102 ∷ 117 ∷ 115 ∷ 101 ∷ 100 ∷ 32 ∷ 100 ∷ 101 ∷ 116 ∷ 97 ∷ 105 ∷ 108 ∷ 10 ∷ []

-- a line for each of so many rows of a table, from row i on
unfoldable pub place_lines : List ℕ → ℕ → ℕ → List ℕ
place_lines bytes zero i = []
place_lines bytes (suc left) i =
    line_of
    (i ∷ number_at bytes (16 * i) ∷ number_at bytes (16 * i + 4) ∷ number_at bytes (16 * i + 8) ∷ number_at bytes (16 * i + 12) ∷ [])
    ++ place_lines bytes left (suc i)

-- a line for each of so many records, from record i on
unfoldable pub record_lines : List ℕ → ℕ → ℕ → List ℕ
record_lines bytes zero i = []
record_lines bytes (suc left) i =
    line_of (number_at bytes (12 * i) ∷ number_at bytes (12 * i + 4) ∷ number_at bytes (12 * i + 8) ∷ []) ++ record_lines bytes left (suc i)

unfoldable pub tables : List ℕ → ℕ → List ℕ → ℕ → List ℕ
tables places n records m = place_names ++ place_lines places n 0 ++ record_names ++ record_lines records m 0

-- "A refusal prints the line of names "refused detail", then a line with the two values."
unfoldable pub refusal_text : List ℕ → List ℕ
refusal_text values = refusal_names ++ line_of values

unfoldable pub answer_text : Answer → List ℕ → List ℕ → List ℕ
answer_text (Ok c) places records = tables places c.places records c.records
answer_text (Err e) places records = refusal_text (refusal_numbers e)

abbrev pub listed : Handed → List ℕ
listed h = answer_text h.answer h.places h.records

-- entry 0
abbrev pub entry_zero : List ℕ
entry_zero = 0 ∷ 0 ∷ 0 ∷ 0 ∷ []

-- "Longer input prints 1 1025 under those names."
unfoldable pub listing_of : List ℕ → List ℕ
listing_of bytes =
    pick (ltb 1024 (length bytes)) (refusal_text (1 ∷ 1025 ∷ [])) (listed (translation bytes 0 entry_zero 8192 12288))

-- the listing stands at the start of the buffer and has r bytes; the others are as they were
pub record Listed (bytes out out' : List ℕ) (r : ℕ) : Type 0 where
  pub text : out' ≡ inserted out 0 (listing_of bytes)
  pub count : r ≡ length (listing_of bytes)
  pub fits : r ≤ length out'
