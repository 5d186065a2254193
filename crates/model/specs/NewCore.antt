-- 01, Records of the new core: what each kind does, and what follows it.
use Rattle.std.specs.Prelude.{ℕ, ◌%◌, Bool, true, false, ◌&&◌, ◌||◌, List, [], ◌∷◌, eqb, leb}
use Rattle.std.proofs.Math.Option.{Option, none, some}
use Rattle.std.proofs.Math.ListN.{get_elem?}
use Rattle.numbers.specs.Choice.{pick}
use Rattle.numbers.specs.Number.{plus}
use Rattle.words.specs.Reader.{instruction_of}
use Rattle.words.specs.Conditions.{holds_of}
use Rattle.machine.specs.Ends.{Ending, ending, Next, go, halt, within, State, state, live}
use Rattle.machine.specs.Registers.{put_register, address_of}
use Rattle.effects.specs.Effect.{Machine, with_registers, effect_of}
use Rattle.model.specs.OldCore.{in_image, Transfer, illegal, straight, trap, call, bicc, jmpl, transfer_of}
use Rattle.model.specs.Places.{may_be_held}
use Rattle.model.specs.Records.{Rec, do_word, link, hold, go_if, go_to, go_held, stop, unknown, Row, row, rows_in, records_in}

-- registers, Y, flags and data; "A source address and a record number are two counters": the record number, the held address
pub data New : Type 0 where
  new : Machine → ℕ → ℕ → New

abbrev pub new_machine : New → Machine
new_machine (new m r h) = m

-- "After 1, 2, 3 and a 4 whose condition fails comes the next record": its number has 32 bits
unfoldable pub following : ℕ → ℕ → Machine → New
following r h m = new m (plus r 1) h

-- kind 1: "7 .. with an unfit word (kind 1: illegal, call, jmpl or any Bicc but 0 without annul ..)", with the record number.
-- 02, N4: "The new core does these words as kind 1": products, rdy and wry are straight
unfoldable pub fit : Transfer → Bool
fit illegal = false
fit straight = true
fit trap = true
fit (call disp) = false
fit (bicc cond annul disp) = may_be_held (bicc cond annul disp)
fit (jmpl rd rs1 x) = false

unfoldable pub does_word : ℕ → ℕ → Machine → ℕ → ℕ → Next New
does_word db word m r h =
    pick (fit (transfer_of (instruction_of word))) (within (following r h) (effect_of db (instruction_of word) m)) (halt (ending 7 r))

-- kind 3: "hold the jmpl word in first, second being its source address"; "kind 3: anything but jmpl" is unfit
unfoldable pub holds : Transfer → ℕ → Machine → ℕ → Next New
holds illegal p m r = halt (ending 7 r)
holds straight p m r = halt (ending 7 r)
holds trap p m r = halt (ending 7 r)
holds (call disp) p m r = halt (ending 7 r)
holds (bicc cond annul disp) p m r = halt (ending 7 r)
holds (jmpl rd rs1 x) p m r =
    let t = address_of m.registers rs1 x in
    pick (eqb (t % 4) 0) (go (following r t (with_registers m (put_register m.registers rd p)))) (halt (ending 4 t))

-- kind 4: "if condition first holds, go to record second"; "a condition above 15" is bad
unfoldable pub chooses : ℕ → ℕ → Machine → ℕ → ℕ → Next New
chooses cond to m r h =
    pick (leb cond 15) (go (pick (holds_of cond m.flags) (new m to h) (following r h m))) (halt (ending 7 r))

-- "Kind 6 seeks the lowest-numbered plain place of the held address": its first record. Rows are read as four raw numbers.
unfoldable pub seek : List Row → ℕ → Option ℕ
seek [] a = none
seek (row p n k f ∷ rs) a = pick (eqb k 0 && eqb p a) (some f) (seek rs a)

-- "with none, the trail gains an entry at that address and ends 2 outside the image, 6 inside"
unfoldable pub lost : Bool → ℕ → Ending
lost true a = ending 6 a
lost false a = ending 2 a

unfoldable pub goes : Option ℕ → Bool → Machine → ℕ → Next New
goes (some f) inside m h = go (new m f h)
goes none inside m h = halt (lost inside h)

-- kind 7: "end as first says, at address second"; "a kind 7 whose first is not 2 or 3" is bad
unfoldable pub stops : ℕ → ℕ → ℕ → Next New
stops e p r = pick (eqb e 2 || eqb e 3) (halt (ending e p)) (halt (ending 7 r))

-- "7 a record past the last, of unknown kind, .. with the record number"
module _ (rows : List Row) (base size db : ℕ) where
  unfoldable pub does : Option (Rec ℕ) → Machine → ℕ → ℕ → Next New
  does none m r h = halt (ending 7 r)
  does (some (do_word word)) m r h = does_word db word m r h
  does (some (link p)) m r h = go (following r h (with_registers m (put_register m.registers 15 p)))
  does (some (hold word p)) m r h = holds (transfer_of (instruction_of word)) p m r
  does (some (go_if cond to)) m r h = chooses cond to m r h
  does (some (go_to to)) m r h = go (new m to h)
  does (some go_held) m r h = goes (seek rows h) (in_image base size h) m h
  does (some (stop e p)) m r h = stops e p r
  does (some unknown) m r h = halt (ending 7 r)

-- "The new core is given records, place table, base and image length", as bytes, and the data base.
unfoldable pub new_next : List ℕ → List ℕ → ℕ → ℕ → ℕ → New → Next New
new_next records places base size db (new m r h) = does (rows_in places) base size db (get_elem? (records_in records) r) m r h

-- "Begun at an address, neither ended, it starts at the first record of that address's lowest-numbered plain place
-- (with none, as kind 6 would)"; "its held address starts as 0"
unfoldable pub begun_at : Option ℕ → Bool → ℕ → Machine → State New
begun_at (some f) inside a m = live (new m f 0)
begun_at none inside a m = state (new m 0 0) (lost inside a)

unfoldable pub new_begun : List ℕ → ℕ → ℕ → ℕ → Machine → State New
new_begun places base size a m = begun_at (seek (rows_in places) a) (in_image base size a) a m
