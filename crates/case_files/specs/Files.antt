-- Files of cases: the numbers and areas in them, and what is found of a case.
use Rattle.std.specs.Prelude.{ℕ, ◌+◌, ◌-◌, ◌*◌, ◌/◌, Bool, true, false, ◌&&◌, List, [], ◌∷◌, ◌++◌, eqb, leb, length, take, drop, replicate}
use Rattle.numbers.specs.Choice.{pick}
use Rattle.numbers.specs.Number.{number_at}
use Rattle.model.specs.StateBytes.{old_size}
use Rattle.case_files.specs.declared.Positions.{Positions}
use Rattle.case_files.specs.declared.Found.{Found}

-- the number at a position, or 0 where the bytes end before it does
unfoldable pub number_in : List ℕ → ℕ → ℕ
number_in bytes at = pick (leb (at + 4) (length bytes)) (number_at bytes at) 0

-- as many bytes from a position on as are asked for, or fewer where there are no more
abbrev pub part_of : List ℕ → ℕ → ℕ → List ℕ
part_of bytes start n = take n (drop start bytes)

-- the bytes that an area of n takes in a file: a multiple of four
abbrev pub padded_to : ℕ → ℕ
padded_to n = (n + 3) / 4 * 4

-- an area over which as many bytes are copied as both have
unfoldable pub copied : List ℕ → List ℕ → List ℕ
copied area from = take (length area) from ++ drop (length from) area

-- whether two areas have the same bytes
unfoldable pub same_bytes : List ℕ → List ℕ → Bool
same_bytes [] [] = true
same_bytes [] (y ∷ ys) = false
same_bytes (x ∷ xs) [] = false
same_bytes (x ∷ xs) (y ∷ ys) = eqb x y && same_bytes xs ys

-- whether an area starts with known bytes and has one byte alone past them
unfoldable pub holding : List ℕ → List ℕ → ℕ → Bool
holding area known past = same_bytes area (known ++ replicate (length area - length known) past)

abbrev pub found : ℕ → ℕ → Bool → Found
found next entries agrees = record { next = next; entries = entries; agrees = agrees }

-- the verdict on a case of one entry
unfoldable pub one_entry : ℕ → Bool → Found
one_entry next agrees = found next (pick agrees 1 0) agrees

-- a verdict, and what the lent area then holds
pub record Checked : Type 0 where
  pub verdict : Found
  pub area : List ℕ

abbrev pub checked : Found → List ℕ → Checked
checked verdict area = record { verdict = verdict; area = area }

-- a case of the old core, or a trail: six numbers, a state, an image, data, so many bytes of answers, data
unfoldable pub old_parts : List ℕ → ℕ → ℕ → Positions
old_parts bytes at answers =
    let extent = number_in bytes (at + 4) in
    let size = number_in bytes (at + 16) in
    let before = at + 24 + old_size + padded_to extent in
    let known = before + padded_to size in
    record {
      image = at + 24 + old_size;
      extent = extent;
      before = before;
      size = size;
      known = known;
      after = known + answers;
      next = known + answers + padded_to size;
    }
