-- States as bytes, numbers big-endian: how a loader in C holds them.
use Rattle.std.specs.Prelude.{ℕ, ◌+◌, ◌-◌, ◌*◌, ◌%◌, Bool, not, eqb, List, [], ◌∷◌, ◌++◌, ◌≡◌, take, drop}
use Rattle.numbers.specs.Number.{Below, number_at, numbers_of, bytes_of}
use Rattle.words.specs.Conditions.{bit_of}
use Rattle.machine.specs.Ends.{Ending, ending, ending_from, State, state}
use Rattle.machine.specs.Registers.{file_size, register_of}
use Rattle.windows.specs.Windows.{laid, come_in}
use Rattle.effects.specs.Effect.{Machine, machine}
use Rattle.model.specs.OldCore.{Old, old, old_machine, old_next, old_begun}
use Rattle.model.specs.NewCore.{New, new, new_machine, new_next, new_begun}
use Rattle.model.specs.Run.{run, zeroed, data_of, beyond}

-- numbers 0 to 31 are the registers. 02, N4: "The state and each trail entry gain Y"; N11: "Trail entries show the nesting and every window": what the
-- file has behind the registers stands at the end of a state, from a byte that is each core's own
unfoldable pub file_in : ℕ → List ℕ → List ℕ
file_in behind bytes = numbers_of bytes 32 ++ numbers_of (drop behind bytes) (file_size - 32)

abbrev pub old_behind : ℕ
old_behind = 152

abbrev pub new_behind : ℕ
new_behind = 148

-- the bytes of a whole state
abbrev pub old_size : ℕ
old_size = old_behind + 4 * (file_size - 32)

abbrev pub new_size : ℕ
new_size = new_behind + 4 * (file_size - 32)

-- number 32 is the flags, of which the low four bits count; the file as it counts
unfoldable pub machine_in : ℕ → List ℕ → List ℕ → Machine
machine_in behind bytes area = machine (come_in (zeroed (file_in behind bytes))) (number_at bytes 128 % 16) area

-- a machine's numbers, as they are shown, those that a core has beside them between its flags and what the file has behind the registers
abbrev pub state_numbers : Machine → List ℕ → List ℕ
state_numbers m between = take 32 (laid m.registers) ++ (m.flags ∷ (between ++ drop 32 (laid m.registers)))

-- any annul but 0 is set
unfoldable pub is_set : ℕ → Bool
is_set x = not (eqb x 0)

-- the old core: PC, nPC, annul, end and the number beside it follow
unfoldable pub old_in : List ℕ → List ℕ → State Old
old_in bytes area =
    state (old (machine_in old_behind bytes area) (number_at bytes 132) (number_at bytes 136) (is_set (number_at bytes 140)))
    (ending_from (number_at bytes 144) (number_at bytes 148))

-- the bytes of a state: what is in them but the data
unfoldable pub old_bytes : State Old → List ℕ
old_bytes (state (old m pc npc annul) (ending n v)) = bytes_of (state_numbers m (pc ∷ npc ∷ bit_of annul ∷ n ∷ v ∷ []))

-- the new core: record number, held address, end and the number beside it follow
unfoldable pub new_in : List ℕ → List ℕ → State New
new_in bytes area =
    state (new (machine_in new_behind bytes area) (number_at bytes 132) (number_at bytes 136)) (ending_from (number_at bytes 140) (number_at bytes 144))

unfoldable pub new_bytes : State New → List ℕ
new_bytes (state (new m r h) (ending n v)) = bytes_of (state_numbers m (r ∷ h ∷ n ∷ v ∷ []))

-- what a call answers, and leaves in the state and in the lent area
pub record After : Type 0 where
  pub ended : Ending
  pub state : List ℕ
  pub area : List ℕ

abbrev pub after : ℕ → ℕ → List ℕ → List ℕ → After
after n v bytes area = record { ended = ending n v; state = bytes; area = area }

-- of a state that a run left, over an area whose bytes past the data are `rest`
unfoldable pub old_after : State Old → List ℕ → After
old_after (state (old m pc npc annul) e) rest =
    record { ended = e; state = old_bytes (state (old m pc npc annul) e); area = m.area ++ rest }

unfoldable pub new_after : State New → List ℕ → After
new_after (state (new m r h) e) rest = record { ended = e; state = new_bytes (state (new m r h) e); area = m.area ++ rest }

-- what the exported functions leave: of a begin, and of a run of a given count over a lent area
unfoldable pub old_begins : ℕ → List ℕ → List ℕ
old_begins pc bytes = old_bytes (old_begun pc (machine_in old_behind bytes []))

unfoldable pub old_runs : List ℕ → ℕ → ℕ → ℕ → List ℕ → List ℕ → After
old_runs image base db count bytes area = old_after (run (old_next image base db) count (old_in bytes (data_of area))) (beyond area)

unfoldable pub new_begins : List ℕ → ℕ → ℕ → ℕ → List ℕ → After
new_begins places base size a bytes = new_after (new_begun places base size a (machine_in new_behind bytes [])) []

unfoldable pub new_runs : List ℕ → List ℕ → ℕ → ℕ → ℕ → ℕ → List ℕ → List ℕ → After
new_runs records places base size db count bytes area =
    new_after (run (new_next records places base size db) count (new_in bytes (data_of area))) (beyond area)

-- 01, Records: "Each step gets the state and data that the last one left": on bytes, a run of m and then one of n leave what one of m + n does
unfoldable pub OldRunsAdd : Type 0
OldRunsAdd =
    (image : List ℕ) (base db m n : ℕ) (bytes area : List ℕ) → Below 256 bytes → Below 256 area
    → let once = old_runs image base db m bytes area in
    old_runs image base db n once.state once.area ≡ old_runs image base db (m + n) bytes area

-- over any records and table, and so over those that `translation` hands back, which are bytes (`all_of_them`)
unfoldable pub NewRunsAdd : Type 0
NewRunsAdd =
    (records places : List ℕ) (base size db m n : ℕ) (bytes area : List ℕ) → Below 256 records → Below 256 places → Below 256 bytes → Below 256 area
    → let once = new_runs records places base size db m bytes area in
    new_runs records places base size db n once.state once.area ≡ new_runs records places base size db (m + n) bytes area

-- 01, The old core: "Register 0 reads and shows as 0.", of both cores: whatever the bytes, it is 0 in every state that a run comes to
abbrev pub ReadsZero : {S : Type 0} → (S → Machine) → State S → Type 0
ReadsZero machine_of (state s e) = register_of (machine_of s).registers 0 ≡ 0

unfoldable pub RegisterZero : Type 0
RegisterZero =
    (bytes area : List ℕ) → Below 256 bytes → Below 256 area → (count : ℕ)
    → ((image : List ℕ) (base db : ℕ) → ReadsZero old_machine (run (old_next image base db) count (old_in bytes (data_of area))))
    × ((records places : List ℕ) (base size db : ℕ) → Below 256 records → Below 256 places
    → ReadsZero new_machine (run (new_next records places base size db) count (new_in bytes (data_of area))))
