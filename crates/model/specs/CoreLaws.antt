-- What `old_over` and `new_over` hand to trails, told of each state: where an entry stands, and what it has to show. Of the cores over bytes `Interface` says
-- that their trails are these cores'.
use Rattle.std.specs.Prelude.{ℕ, ◌<◌, ◌≡◌, ◌↔◌, Bool, true, false, List}
use Rattle.std.proofs.Math.Option.{none, some}
use Rattle.std.proofs.Math.ListN.{get_elem?}
use Rattle.effects.specs.Effect.{Machine}
use Rattle.model.specs.OldCore.{Old, old}
use Rattle.model.specs.Records.{go_held, Row, row, rows_in, records_in}
use Rattle.model.specs.NewCore.{new, seek}
use Rattle.model.specs.Cores.{old_over, new_over}

-- x is the lowest-numbered of the rows that are such
pub record Lowest (such : Row → Type 0) (rows : List Row) (x : Row) : Type 0 where
  pub number : ℕ
  pub there : get_elem? rows number ≡ some x
  pub is_such : such x
  pub none_before : (i : ℕ) (y : Row) → i < number → get_elem? rows i ≡ some y → ¬ such y

-- a place whose first record is r; a plain place of the address a
abbrev pub Naming : ℕ → Row → Type 0
Naming r (row p n k f) = f ≡ r

abbrev pub PlainOf : ℕ → Row → Type 0
PlainOf a (row p n k f) = (k ≡ 0) × (p ≡ a)

pub record CoreLaws : Type 0 where
  -- "The old core's trail has an entry before each step in which annul is clear and the run has not ended, addresses outside the image included.", at
  -- PC; it goes by no held address
  pub old_entry : (image : List ℕ) (base db : ℕ) (m : Machine) (pc npc : ℕ) → (old_over image base db).mark (old m pc npc false) ≡ some pc
  pub old_annulled : (image : List ℕ) (base db : ℕ) (m : Machine) (pc npc : ℕ) → (old_over image base db).mark (old m pc npc true) ≡ none
  pub old_by_held : (image : List ℕ) (base db : ℕ) (s : Old) → (old_over image base db).by_held s ≡ none
  -- "An entry also stands before each group's first record; its address is its place's, in a malformed table that of the lowest-numbered place naming
  -- that record"
  pub new_entry : (records places : List ℕ) (base size db : ℕ) (m : Machine) (r h a : ℕ)
      → ((new_over records places base size db).mark (new m r h) ≡ some a) ↔ ((n : ℕ) × ((k : ℕ) × Lowest (Naming r) (rows_in places) (row a n k r)))
  -- "6 go by the held address": no other record does
  pub new_by_held_lem : (records places : List ℕ) (base size db : ℕ) (m : Machine) (r h a : ℕ)
      → ((new_over records places base size db).by_held (new m r h) ≡ some a) ↔ ((get_elem? (records_in records) r ≡ some go_held) × (a ≡ h))
  -- "Kind 6 seeks the lowest-numbered plain place of the held address", and so does a begin: its first record
  pub sought : (rows : List Row) (a f : ℕ) → (seek rows a ≡ some f) ↔ ((n : ℕ) × Lowest (PlainOf a) rows (row a n 0 f))
  -- an entry has all registers, Y, windows, flags and data of its state to show
  pub old_machine_lem : (image : List ℕ) (base db : ℕ) (m : Machine) (pc npc : ℕ) (annul : Bool) → (old_over image base db).machine_of (old m pc npc annul) ≡ m
  pub new_machine_lem : (records places : List ℕ) (base size db : ℕ) (m : Machine) (r h : ℕ) → (new_over records places base size db).machine_of (new m r h) ≡ m
