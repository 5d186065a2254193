-- What a case of the listing finds: the listing that its definition says, beside the text that the file has.
use Rattle.std.specs.Prelude.{ℕ, ◌+◌, ◌&&◌, List, eqb, length, replicate}
use Rattle.listing.specs.Text.{inserted}
use Rattle.listing.specs.Listing.{listing_of}
use Rattle.case_files.specs.declared.Found.{Found}
use Rattle.case_files.specs.Files.{number_in, part_of, padded_to, holding, one_entry}

-- in a buffer that held other bytes, and keeps them past the listing. The tag is LIST; then the lengths of the bytes listed and of the
-- text, the bytes, and the text
unfoldable pub listed_in : List ℕ → List ℕ → ℕ → Found
listed_in held bytes at =
    let extent = number_in bytes (at + 4) in
    let size = number_in bytes (at + 8) in
    let text = at + 12 + padded_to extent in
    let listing = listing_of (part_of bytes (at + 12) extent) in
    one_entry (text + padded_to size)
    (eqb (number_in bytes at) 0x4C495354 && eqb (length listing) size && holding (inserted held 0 listing) (part_of bytes text size) 0xA5)

-- in the buffer that a case is listed in
unfoldable pub listed_found : List ℕ → ℕ → Found
listed_found bytes at = listed_in (replicate 131072 0xA5) bytes at
