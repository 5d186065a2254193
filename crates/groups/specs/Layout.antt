-- Where the groups stand: a record of the code, the first record of a place as the table has it, and records that were put.
use Rattle.std.specs.Prelude.{ℕ, ◌+◌, ◌*◌, ◌≤◌, ◌≡◌, List, [], ◌∷◌, ◌++◌, ltb, length}
use Rattle.numbers.specs.Choice.{pick}
use Rattle.numbers.specs.Number.{number_at, numbers_of}
use Rattle.model.specs.declared.Place.{Place}
use Rattle.model.specs.Records.{Rec, do_word, link, hold, go_if, go_to, go_held, stop, Group, one, two, past, put, Grouping, rows_from, table_numbers, records_numbers}
use Rattle.places.specs.Table.{places_in, number_of}
use Rattle.groups.specs.declared.records.Record.{Record}
use Rattle.groups.specs.declared.records.Record.TheVariants.{DoWord, Link, Hold, GoIf, GoTo, GoHeld, Outside, Illegal}
use Rattle.groups.specs.declared.records.Firsts.{Firsts}
use Rattle.groups.specs.declared.records.Records.{Records}

-- a record of the code as the definitions have it
unfoldable pub recorded : Record → Rec ℕ
recorded (DoWord w) = do_word w
recorded (Link p) = link p.0
recorded (Hold w p) = hold w p.0
recorded (GoIf c r) = go_if c r.0
recorded (GoTo r) = go_to r.0
recorded GoHeld = go_held
recorded (Outside p) = stop 2 p.0
recorded (Illegal p) = stop 3 p.0

-- the records of a group
unfoldable pub size : Group Place → ℕ
size (one r) = 1
size (two r s) = 2

-- the records that the groups of a list of places have, by a layout
unfoldable pub needed : Grouping → List Place → ℕ
needed lay [] = 0
needed lay (y ∷ ys) = past (lay y ys) (needed lay ys)

-- the first record of a place, as the first rows of a table have it, and `all` where it is not among them
unfoldable pub first_in : List ℕ → ℕ → ℕ → Place → ℕ
first_in bytes count all x =
    pick (ltb (number_of x (places_in bytes count)) count) (number_at bytes (16 * number_of x (places_in bytes count) + 12)) all

-- the same, by the table and the number of all records together
abbrev pub first_of : Firsts → Place → ℕ
first_of f = first_in f.rows.places.now f.rows.count f.past.0

-- a table with its first records set: the places as they were, all numbers, and the records in all
pub record Laid (lay : Grouping) (ps : List Place) (count : ℕ) (bytes : List ℕ) (r : ℕ) : Type 0 where
  pub all : r ≡ needed lay ps
  pub kept : places_in bytes count ≡ ps
  pub numbers : numbers_of bytes (4 * count) ≡ table_numbers (rows_from lay 0 ps)

-- records put behind those that were there, in bytes that are still the lender's
pub record Pushed (o : Records) (xs : List (Rec ℕ)) (n : Records) : Type 0 where
  pub reaches : n.count ≡ o.count + length xs
  pub numbers : numbers_of n.bytes.now (3 * n.count) ≡ numbers_of o.bytes.now (3 * o.count) ++ records_numbers xs
  pub size : length n.bytes.now ≡ length o.bytes.now
  pub lent : n.bytes.ghost_name ≡ o.bytes.ghost_name

-- the records of a group put there, by the first record of each place
abbrev pub Puts : (Place → ℕ) → Group Place → Records → Records → Type 0
Puts f g o n = Pushed o (put f g []) n

-- there is room for a group
abbrev pub HasRoom : Group Place → Records → Type 0
HasRoom g o = 12 * past g o.count ≤ length o.bytes.now
