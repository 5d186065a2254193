-- What a case of either core finds: the run that its definition says, beside the state and the data that the file has.
use Rattle.std.specs.Prelude.{ℕ, ◌+◌, ◌%◌, Bool, ◌&&◌, List, eqb, replicate}
use Rattle.machine.specs.Ends.{Ending, ending}
use Rattle.model.specs.StateBytes.{old_size, new_size, After, old_runs, new_runs}
use Rattle.case_files.specs.Files.{number_in, part_of, padded_to, copied, same_bytes, one_entry, Checked, checked, old_parts}

-- whether a run ended in a known state, whose end stands at a position with the number beside it
unfoldable pub ended_in : List ℕ → ℕ → Ending → List ℕ → Bool
ended_in known at (ending end number) state =
    same_bytes state known && eqb end (number_in known at) && eqb number (number_in known (at + 4))

-- the verdict on a run: the tag is right, the state and the area are the known ones
unfoldable pub ran_found : ℕ → ℕ → ℕ → List ℕ → ℕ → List ℕ → After → Checked
ran_found next tag right known at after a =
    checked (one_entry next (eqb tag right && ended_in known at a.ended a.state && same_bytes a.area after)) a.area

-- the tag is OLDC; the numbers after it are the lengths and the bases, and number 5 the count of words
unfoldable pub old_found : List ℕ → ℕ → List ℕ → Checked
old_found bytes at area =
    let p = old_parts bytes at old_size in
    ran_found p.next (number_in bytes at) 0x4F4C4443 (part_of bytes p.known old_size) 144 (part_of bytes p.after p.size)
    (old_runs (part_of bytes p.image p.extent) (number_in bytes (at + 8)) (number_in bytes (at + 12)) (number_in bytes (at + 20) % 65536)
    (copied (replicate old_size 0) (part_of bytes (at + 24) old_size)) (copied area (part_of bytes p.before p.size)))

-- where the parts of a case start, and how many bytes its place table (rows), its records (extent) and its data (size) have
pub record Parts : Type 0 where
  pub places : ℕ
  pub rows : ℕ
  pub records : ℕ
  pub extent : ℕ
  pub before : ℕ
  pub size : ℕ
  pub known : ℕ
  pub after : ℕ
  pub next : ℕ

-- a case of the new core: eight numbers, a state, a place table, records, data, a state, data
unfoldable pub new_parts : List ℕ → ℕ → Parts
new_parts bytes at =
    let rows = number_in bytes (at + 4) in
    let extent = number_in bytes (at + 8) in
    let size = number_in bytes (at + 24) in
    let records = at + 32 + new_size + padded_to rows in
    let before = records + padded_to extent in
    let known = before + padded_to size in
    record {
      places = at + 32 + new_size;
      rows = rows;
      records = records;
      extent = extent;
      before = before;
      size = size;
      known = known;
      after = known + new_size;
      next = known + new_size + padded_to size;
    }

-- the tag is NEWC; the base, the image's length, the data base and the count of records are numbers 3, 4, 5 and 7
unfoldable pub new_found : List ℕ → ℕ → List ℕ → Checked
new_found bytes at area =
    let p = new_parts bytes at in
    ran_found p.next (number_in bytes at) 0x4E455743 (part_of bytes p.known new_size) 140 (part_of bytes p.after p.size)
    (new_runs (part_of bytes p.records p.extent) (part_of bytes p.places p.rows) (number_in bytes (at + 12))
    (number_in bytes (at + 16)) (number_in bytes (at + 20)) (number_in bytes (at + 28) % 65536)
    (copied (replicate new_size 0) (part_of bytes (at + 32) new_size)) (copied area (part_of bytes p.before p.size)))
