-- Demand 3 as a loader sees it: trails read off the bytes that the exported functions leave, each call being a run of count 1 on the
-- state and data bytes that the last one left. A call that ends leaves bytes too, which no further entry shows: `OldRunsAdd` and
-- `NewRunsAdd` (StateBytes) cover them, since by them the call's bytes are those of one run of as many steps from the first bytes, and of
-- such a run the contracts say every byte.
use Rattle.std.specs.Prelude.{ℕ, zero, suc, ◌*◌, ◌%◌, ◌≤◌, ◌≡◌, List, [], ◌∷◌, eqb, length, take}
use Rattle.std.proofs.Math.Option.{Option, none, some}
use Rattle.std.proofs.Math.ListN.{get_elem?}
use Rattle.numbers.specs.Choice.{pick}
use Rattle.numbers.specs.Number.{Below, number_at}
use Rattle.machine.specs.Ends.{Ending, ending, Next, go, halt, State, state, live}
use Rattle.effects.specs.Effect.{Machine, machine}
use Rattle.model.specs.Run.{run, data_of}
use Rattle.model.specs.OldCore.{in_image}
use Rattle.model.specs.Records.{rows_in, records_in}
use Rattle.model.specs.Translation.{back, returned, translation}
use Rattle.model.specs.Trails.{Core, shown_at}
use Rattle.model.specs.Cores.{old_over, naming, goes_by, new_over, Start, old_begin, new_begin, trail_of}
use Rattle.model.specs.Demand3.{Placed, Holds}
use Rattle.model.specs.StateBytes.{After, file_in, old_behind, new_behind, old_begins, old_runs, new_begins, new_runs}

-- what a loader holds of a core: the bytes of its state, and its data area
pub record Bytes : Type 0 where
  pub state : List ℕ
  pub area : List ℕ

abbrev pub bytes : List ℕ → List ℕ → Bytes
bytes s a = record { state = s; area = a }

-- a call: on with the bytes that it left, or the end that it answered
unfoldable pub answered : Ending → Bytes → Next Bytes
answered (ending zero v) b = go b
answered (ending (suc n) v) b = halt (ending (suc n) v)

unfoldable pub called : After → Next Bytes
called x = answered x.ended (bytes x.state x.area)

-- the machine that bytes hold: registers are numbers 0 to 31 of the state, flags number 32, Y and windows what is from its byte `behind` on, and the
-- data
unfoldable pub bytes_machine : ℕ → Bytes → Machine
bytes_machine behind b = machine (file_in behind b.state) (number_at b.state 128) (data_of b.area)

-- the old core: PC is number 33 and annul number 35
unfoldable pub old_bytes_mark : Bytes → Option ℕ
old_bytes_mark b = pick (eqb (number_at b.state 140) 0) (some (number_at b.state 132)) none

abbrev pub old_calls : List ℕ → ℕ → ℕ → Core Bytes
old_calls image base db =
    record { next = λ b. called (old_runs image base db 1 b.state b.area); mark = old_bytes_mark; machine_of = bytes_machine old_behind; by_held = λ b. none }

-- the new core: the record number is number 33, the held address number 34
unfoldable pub new_bytes_mark : List ℕ → Bytes → Option ℕ
new_bytes_mark places b = naming (rows_in places) (number_at b.state 132)

unfoldable pub new_bytes_by_held : List ℕ → Bytes → Option ℕ
new_bytes_by_held records b = goes_by (get_elem? (records_in records) (number_at b.state 132)) (number_at b.state 136)

abbrev pub new_calls : List ℕ → List ℕ → ℕ → ℕ → ℕ → Core Bytes
new_calls records places base size db =
    record {
      next = λ b. called (new_runs records places base size db 1 b.state b.area);
      mark = new_bytes_mark places;
      machine_of = bytes_machine new_behind;
      by_held = new_bytes_by_held records;
    }

-- begun at an address: begin keeps registers, Y and flags; the data area is lent to the runs alone
abbrev pub old_started : ℕ → Bytes → State Bytes
old_started a b = live (bytes (old_begins a b.state) b.area)

abbrev pub new_started : List ℕ → ℕ → ℕ → ℕ → Bytes → State Bytes
new_started places base size a b =
    let x = new_begins places base size a b.state in
    state (bytes x.state b.area) x.ended

-- the start that bytes are
abbrev pub start_of : ℕ → ℕ → Bytes → Start
start_of behind a b = record { address = a; registers = file_in behind b.state; flags = number_at b.state 128 % 16; area = b.area }

-- a core of calls beside the core d whose steps they are: the trail read off the bytes is d's own, and each entry shows the registers, flags and data
-- that stand in the bytes, as they stand
pub record ReadOff {S : Type 0} (behind k : ℕ) (c : Core Bytes) (x : State Bytes) (d : Core S) (y : State S) : Type 0 where
  pub same_trail : trail_of c k x ≡ trail_of d k y
  pub as_it_stands : (count : ℕ) (b : Bytes) → run c.next count x ≡ live b → shown_at c b ≡ bytes_machine behind b

-- the begins and runs are those that the contracts of `pijorrel_old_begin`, `pijorrel_old_run`, `pijorrel_new_begin`, `pijorrel_new_run` cite
unfoldable pub Interface : Type 0
Interface =
    -- what the contract of `pijorrel_translate` says of an accepted call: number 0, place count, record count, and both buffers
    (image : List ℕ) (base : ℕ) (entryList : List ℕ) (placesLength recordsLength placeCount recordCount : ℕ) (table list : List ℕ)
    → Below 256 image → Below 256 entryList
    → back (0 ∷ placeCount ∷ recordCount ∷ []) table list ≡ returned (translation image base entryList placesLength recordsLength)
    -- for each core any bytes of a state and any data, and an address with a plain place
    → (b b' : Bytes) → Below 256 b.state → Below 256 b.area → Below 256 b'.state → Below 256 b'.area
    → (a a' : ℕ) → Placed image base entryList a → Placed image base entryList a'
    → (db k : ℕ) → 1 ≤ k
    -- just the places and records counted
    → (places records : List ℕ) → places ≡ take (16 * placeCount) table → records ≡ take (12 * recordCount) list
    → Holds (Placed image base entryList) (in_image base (length image)) k (start_of old_behind a b) (start_of new_behind a' b')
    (old_calls image base db) (old_started a b)
    (new_calls records places base (length image) db) (new_started places base (length image) a' b')
    × ReadOff old_behind k (old_calls image base db) (old_started a b) (old_over image base db) (old_begin (start_of old_behind a b))
    × ReadOff new_behind k (new_calls records places base (length image) db) (new_started places base (length image) a' b')
    (new_over records places base (length image) db) (new_begin places base (length image) (start_of new_behind a' b'))
