-- 02, N8, The first bad entry: what refusal 3 says of an entry list, held to its words. `translation` works the position out; here stands
-- what it is, without a word of how.
use Rattle.std.specs.Prelude.{ℕ, suc, ◌%◌, ◌<◌, ◌≡◌, ◌↔◌, true, false, List, length, get_or, Err}
use Rattle.model.specs.declared.Refusal.TheVariants.{Entry}
use Rattle.model.specs.Records.{numbers_in}
use Rattle.model.specs.Translation.{Answer, bad_length, bad_count, bad_entry, translation}

-- "the first entry, in list order, that is misaligned or outside the image": k stand before it, and none of those is
pub record First (base size : ℕ) (es : List ℕ) (k : ℕ) : Type 0 where
  pub there : k < length es
  pub bad : bad_entry base size (get_or es k 0) ≡ true
  pub none_before : (i : ℕ) → i < k → bad_entry base size (get_or es i 0) ≡ false

-- an answer for a list of entries
pub record NamesFirst (base size : ℕ) (es : List ℕ) (answer : Answer) : Type 0 where
  -- "a bad count still gives 0"
  pub count : (answer ≡ Err (Entry 0)) ↔ (bad_count (length es) ≡ true)
  -- "Refusal 3's position is to be that of the first entry"; 01: "counted from 1"
  pub entry : (k : ℕ) → (answer ≡ Err (Entry (suc k))) ↔ ((bad_count (length es) ≡ false) × First base size es k)

-- where refusals 1 and 2 do not come first
unfoldable pub FirstBadEntry : Type 0
FirstBadEntry =
    (image : List ℕ) (base : ℕ) (entries : List ℕ) (placesLength recordsLength : ℕ) → bad_length (length image) ≡ false → base % 4 ≡ 0
    → NamesFirst base (length image) (numbers_in entries) (translation image base entries placesLength recordsLength).answer
