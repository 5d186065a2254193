-- What a case of the words finds: what the definitions of reader and writer say, beside the numbers that the file has.
use Rattle.std.specs.Prelude.{ℕ, ◌+◌, Bool, ◌&&◌, List, eqb, get_or, replicate}
use Rattle.numbers.specs.Choice.{pick}
use Rattle.pijorrel_words.specs.Forms.{writes, reads}
use Rattle.case_files.specs.declared.Found.{Found}
use Rattle.case_files.specs.Files.{number_in, part_of, copied, same_bytes, one_entry}

-- whether writing six numbers answers the known two
unfoldable pub answers_so : List ℕ → List ℕ → Bool
answers_so known six = eqb (get_or (writes six) 0 0) (number_in known 0) && eqb (get_or (writes six) 1 0) (number_in known 4)

-- a word: the tag, the word, the six numbers that it reads as, and what writing them answers
unfoldable pub read_found : List ℕ → ℕ → Found
read_found bytes at =
    let six = reads (number_in bytes (at + 4)) in
    one_entry (at + 40) (same_bytes six (part_of bytes (at + 8) 24) && answers_so (part_of bytes (at + 32) 8) six)

-- an instruction: the tag is INST; then six numbers, and what writing them answers
unfoldable pub written_found : List ℕ → ℕ → Found
written_found bytes at =
    let six = copied (replicate 24 0) (part_of bytes (at + 4) 24) in
    one_entry (at + 36) (eqb (number_in bytes at) 0x494E5354 && answers_so (part_of bytes (at + 28) 8) six)

-- the tag of a word is WORD
unfoldable pub word_found : List ℕ → ℕ → Found
word_found bytes at = pick (eqb (number_in bytes at) 0x574F5244) (read_found bytes at) (written_found bytes at)
