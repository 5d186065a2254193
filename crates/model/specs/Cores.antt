-- Both cores with what 01 feeds each and nothing else, their starts, and the marks of their trails.
use Rattle.std.specs.Prelude.{ℕ, zero, suc, ◌+◌, ◌*◌, true, false, List, [], ◌∷◌, eqb}
use Rattle.std.proofs.Math.Option.{Option, none, some}
use Rattle.std.proofs.Math.ListN.{get_elem?}
use Rattle.numbers.specs.Choice.{pick}
use Rattle.machine.specs.Ends.{ending, State, state}
use Rattle.windows.specs.Windows.{come_in}
use Rattle.effects.specs.Effect.{Machine, machine}
use Rattle.model.specs.Run.{data_of}
use Rattle.model.specs.OldCore.{Old, old, old_machine, old_next, old_begun}
use Rattle.model.specs.Records.{Rec, do_word, link, hold, go_if, go_to, go_held, stop, unknown, Row, row, rows_in, records_in}
use Rattle.model.specs.NewCore.{New, new, new_machine, new_next, new_begun}
use Rattle.model.specs.Trails.{whole_file, Core, shown_at, Trail, landing, trail}

-- "The old core's trail has an entry before each step in which annul is clear and the run has not ended, addresses outside the image included."
unfoldable pub old_mark : Old → Option ℕ
old_mark (old m pc npc true) = none
old_mark (old m pc npc false) = some pc

-- "The old core is fed image, base, data base, its own state and the data area, and nothing of a translation."
abbrev pub old_over : List ℕ → ℕ → ℕ → Core Old
old_over image base db = record { next = old_next image base db; mark = old_mark; machine_of = old_machine; by_held = λ s. none }

-- "An entry also stands before each group's first record; its address is its place's, in a malformed table that of the lowest-numbered
-- place naming that record"
unfoldable pub naming : List Row → ℕ → Option ℕ
naming [] r = none
naming (row p n k f ∷ rs) r = pick (eqb f r) (some p) (naming rs r)

unfoldable pub new_mark : List ℕ → New → Option ℕ
new_mark places (new m r h) = naming (rows_in places) r

-- "6 go by the held address", h: no other record does
unfoldable pub goes_by : Option (Rec ℕ) → ℕ → Option ℕ
goes_by none h = none
goes_by (some (do_word w)) h = none
goes_by (some (link p)) h = none
goes_by (some (hold w p)) h = none
goes_by (some (go_if c r)) h = none
goes_by (some (go_to r)) h = none
goes_by (some go_held) h = some h
goes_by (some (stop e p)) h = none
goes_by (some unknown) h = none

unfoldable pub new_by_held : List ℕ → New → Option ℕ
new_by_held records (new m r h) = goes_by (get_elem? (records_in records) r) h

-- "The new core is given records, place table, base and image length", as bytes, and the data base.
abbrev pub new_over : List ℕ → List ℕ → ℕ → ℕ → ℕ → Core New
new_over records places base size db =
    record { next = new_next records places base size db; mark = new_mark places; machine_of = new_machine; by_held = new_by_held records }

-- where a run begins, and with "any registers, flags and data". 02, N4: "demand 3 takes any Y"; N11: "demand 3 takes any windows and any nesting from
-- 0 to 6, and a nesting handed in above 6 counts as 6"; they stand behind the registers
pub record Start : Type 0 where
  pub address : ℕ
  pub registers : List ℕ
  pub flags : ℕ
  pub area : List ℕ

-- the machine that a run begins with: register 0 is 0, the file as it counts, and of the area there are 65,536 bytes
unfoldable pub begun_with : Machine → Machine
begun_with m = machine (come_in (whole_file m.registers)) m.flags (data_of m.area)

abbrev pub start_machine : Start → Machine
start_machine x = begun_with (machine x.registers x.flags x.area)

abbrev pub old_begin : Start → State Old
old_begin x = old_begun x.address (start_machine x)

abbrev pub new_begin : List ℕ → ℕ → ℕ → Start → State New
new_begin places base size x = new_begun places base size x.address (start_machine x)

-- so many steps are enough for k entries and what closes them, since one or two lead from each to the next
abbrev pub steps_for : ℕ → ℕ
steps_for k = 2 * k + 1

-- the trail of a core begun so, cut at k entries
abbrev pub trail_of : {S : Type 0} → Core S → ℕ → State S → Trail
trail_of c k x = trail c (steps_for k) k 0 x

-- the new core's trail, of a run of a given count, where it was begun at a: "(with none, as kind 6 would)", the one entry at a, and its end
unfoldable pub new_trail_at : Core New → ℕ → ℕ → ℕ → State New → Trail
new_trail_at c count k a (state s (ending zero v)) = trail c count k 0 (state s (ending zero v))
new_trail_at c count k a (state s (ending (suc n) v)) = landing k 0 a (shown_at c s) (ending (suc n) v)
