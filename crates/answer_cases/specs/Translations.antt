-- What a case of the translator finds: what its definition hands back, beside the answer, the places and the records that the file has.
use Rattle.std.specs.Prelude.{ℕ, ◌+◌, ◌*◌, min, Bool, ◌&&◌, List, eqb, get_or}
use Rattle.numbers.specs.Choice.{pick}
use Rattle.model.specs.Translation.{Back, returned, translation}
use Rattle.case_files.specs.declared.Found.{Found}
use Rattle.case_files.specs.Files.{number_in, part_of, padded_to, holding, one_entry}

-- how many places or records a case has: those that its answer counts, and none beside a refusal
abbrev pub counted_in : ℕ → ℕ → ℕ
counted_in answer count = pick (eqb answer 0) count 0

-- where the parts of a case start, and how many bytes its image (extent), its entries (size), its places (rows) and its records (bulk)
-- have
pub record Parts : Type 0 where
  pub image : ℕ
  pub extent : ℕ
  pub entries : ℕ
  pub size : ℕ
  pub places : ℕ
  pub rows : ℕ
  pub records : ℕ
  pub bulk : ℕ
  pub next : ℕ

-- nine numbers, an image, entries, places, records
unfoldable pub translation_parts : List ℕ → ℕ → Parts
translation_parts bytes at =
    let extent = number_in bytes (at + 4) in
    let size = number_in bytes (at + 12) in
    let rows = counted_in (number_in bytes (at + 24)) (number_in bytes (at + 28)) * 16 in
    let bulk = counted_in (number_in bytes (at + 24)) (number_in bytes (at + 32)) * 12 in
    let entries = at + 36 + padded_to extent in
    let places = entries + padded_to size in
    record {
      image = at + 36;
      extent = extent;
      entries = entries;
      size = size;
      places = places;
      rows = rows;
      records = places + rows;
      bulk = bulk;
      next = places + rows + bulk;
    }

-- whether an answer's three numbers are the known ones
unfoldable pub answered : List ℕ → ℕ → ℕ → ℕ → Bool
answered known number first second = eqb number (number_in known 0) && eqb first (number_in known 4) && eqb second (number_in known 8)

-- a verdict, and what both lent buffers then hold
pub record CheckedBoth : Type 0 where
  pub verdict : Found
  pub places : List ℕ
  pub records : List ℕ

abbrev pub checked_both : Found → List ℕ → List ℕ → CheckedBoth
checked_both verdict places records = record { verdict = verdict; places = places; records = records }

module _ (bytes : List ℕ) (at : ℕ) where
  -- what the translator is given: the case's image, its entries and its base, which is number 2
  abbrev pub image_of : List ℕ
  image_of = let p = translation_parts bytes at in part_of bytes p.image p.extent

  abbrev pub entries_of : List ℕ
  entries_of = let p = translation_parts bytes at in part_of bytes p.entries p.size

  abbrev pub base_of : ℕ
  base_of = number_in bytes (at + 8)

  -- whether what is handed back is as known: the tag is TRNS, the buffers have the case's lengths, and the answer and both buffers are the
  -- known ones
  unfoldable pub back_agrees : ℕ → ℕ → Back → Bool
  back_agrees placesLength recordsLength b =
      let p = translation_parts bytes at in
      let numbers = b.numbers in
      eqb (number_in bytes at) 0x54524E53 && eqb placesLength (number_in bytes (at + 16)) && eqb recordsLength (number_in bytes (at + 20))
      && answered (part_of bytes (at + 24) 12) (get_or numbers 0 0) (get_or numbers 1 0) (get_or numbers 2 0)
      && holding b.places (part_of bytes p.places p.rows) 0
      && holding b.records (part_of bytes p.records p.bulk) 0

  unfoldable pub back_found : ℕ → ℕ → Back → CheckedBoth
  back_found placesLength recordsLength b =
      checked_both (one_entry (translation_parts bytes at).next (back_agrees placesLength recordsLength b)) b.places b.records

  -- what a case finds in buffers of two lengths
  unfoldable pub translation_in : ℕ → ℕ → CheckedBoth
  translation_in placesLength recordsLength =
      back_found placesLength recordsLength (returned (translation image_of base_of entries_of placesLength recordsLength))

  -- in buffers of the case's lengths, or as long as there are here
  unfoldable pub translation_found : Found
  translation_found = (translation_in (min (number_in bytes (at + 16)) 131104) (min (number_in bytes (at + 20)) 196608)).verdict
