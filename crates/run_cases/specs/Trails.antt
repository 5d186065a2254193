-- What a trail finds: how many of its entries the old core's definition agrees with.
use Rattle.std.specs.Prelude.{ℕ, zero, suc, ◌+◌, ◌*◌, Bool, ◌&&◌, List, eqb, replicate}
use Rattle.numbers.specs.Choice.{pick}
use Rattle.model.specs.StateBytes.{old_behind, old_size, After, old_runs}
use Rattle.case_files.specs.Files.{number_in, part_of, copied, same_bytes, found, Checked, checked, old_parts}

-- whether a state that has not ended is the one that an entry recorded: its address, then its registers and flags, and Y
unfoldable pub stands_at : List ℕ → List ℕ → Bool
stands_at state entry =
    eqb (number_in state 144) 0 && eqb (number_in state 132) (number_in entry 0) && eqb (number_in state old_behind) (number_in entry 136)
    && same_bytes (part_of state 0 132) (part_of entry 4 132)

-- whether an entry agrees, and what the state and the area hold once its word is passed
pub record Passed : Type 0 where
  pub agrees : Bool
  pub state : List ℕ
  pub area : List ℕ

abbrev pub passed : Bool → List ℕ → List ℕ → Passed
passed agrees state area = record { agrees = agrees; state = state; area = area }

-- how far a trail agrees, and what its state and its area then hold
pub record Trailed : Type 0 where
  pub entries : ℕ
  pub state : List ℕ
  pub area : List ℕ

abbrev pub trailed : ℕ → List ℕ → List ℕ → Trailed
trailed entries state area = record { entries = entries; state = state; area = area }

module _ (image : List ℕ) (base db : ℕ) where
  -- the state that an entry shows: an annulled word before it has no entry
  unfoldable pub shown : List ℕ → List ℕ → After
  shown state area = old_runs image base db (pick (eqb (number_in state 140) 0) 0 1) state area

  -- that state beside the entry, and the entry's word passed
  unfoldable pub passing : List ℕ → List ℕ → List ℕ → Passed
  passing entry state area =
      let a = shown state area in
      let b = old_runs image base db 1 a.state a.area in
      passed (stands_at a.state entry) b.state b.area

  -- from entry k on, with so many left: how many agree before the first that does not
  unfoldable pub followed : List ℕ → ℕ → ℕ → List ℕ → List ℕ → Trailed
  followed entries zero k state area = trailed k state area
  followed entries (suc left) k state area =
      let a = passing (part_of entries (k * 140) 140) state area in
      let more = followed entries left (suc k) a.state a.area in
      pick a.agrees more (trailed k a.state a.area)

-- the verdict on a trail: the tag is TRAL, so many entries agree, and the area is the known one
unfoldable pub trail_verdict : ℕ → ℕ → ℕ → List ℕ → Trailed → Checked
trail_verdict next tag count after t =
    checked (found next t.entries (eqb tag 0x5452414C && eqb t.entries count && same_bytes t.area after)) t.area

-- the bases are numbers 2 and 3, the count of entries, of 140 bytes each, is number 5
unfoldable pub trail_found : List ℕ → ℕ → List ℕ → Checked
trail_found bytes at area =
    let count = number_in bytes (at + 20) in
    let p = old_parts bytes at (count * 140) in
    trail_verdict p.next (number_in bytes at) count (part_of bytes p.after p.size)
    (followed (part_of bytes p.image p.extent) (number_in bytes (at + 8)) (number_in bytes (at + 12))
    (part_of bytes p.known (count * 140)) count 0 (copied (replicate old_size 0) (part_of bytes (at + 24) old_size))
    (copied area (part_of bytes p.before p.size)))
