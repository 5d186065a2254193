-- 01, Records of the new core: groups, first records, go-to numbers; table and records as numbers.
use Rattle.std.specs.Prelude.{ℕ, suc, ◌+◌, ◌*◌, ◌/◌, Bool, true, false, List, [], ◌∷◌, length}
use Rattle.std.proofs.Math.Option.{Option, none, some}
use Rattle.numbers.specs.Choice.{pick, find}
use Rattle.numbers.specs.Number.{plus, number_at, numbers_of, up_to}
use Rattle.words.specs.Reader.{instruction_of}
use Rattle.model.specs.declared.Place.{Place}
use Rattle.model.specs.declared.Place.TheVariants.{Pair, Held}
use Rattle.model.specs.OldCore.{word_in, Transfer, illegal, straight, trap, call, bicc, jmpl, transfer_of, target}
use Rattle.model.specs.Places.{plain, place_at, next_of, kind_of, same_place, Which, never, always, depends, which_of}

-- "A record is three 32-bit numbers"; G is what a go-to names: a place, or a record's number.
-- "Kinds: 1 do the word; 2 register 15 := first; 3 hold the jmpl word in first, second being its source address;
-- 4 if condition first holds, go to record second; 5 go to record first; 6 go by the held address;
-- 7 end as first says, at address second." Any other kind is unknown.
pub data Rec (G : Type 0) : Type 0 where
  do_word : ℕ → Rec G
  link : ℕ → Rec G
  hold : ℕ → ℕ → Rec G
  go_if : ℕ → G → Rec G
  go_to : G → Rec G
  go_held : Rec G
  stop : ℕ → ℕ → Rec G
  unknown : Rec G

pub data Group (G : Type 0) : Type 0 where
  one : Rec G → Group G
  two : Rec G → Rec G → Group G

-- "Bicc 0 and 8: one 5. Other Bicc: 4, 5." "A 4 carries the word's condition and goes to (n, t), the 5 after it to the other
-- follower (without annul, the same place when t is n + 4); any other 5 goes to the first follower named."
unfoldable pub bicc_group : Which → ℕ → Bool → ℕ → ℕ → Group Place
bicc_group never cond false t n = one (go_to (plain n))
bicc_group never cond true t n = one (go_to (plain (plus n 4)))
bicc_group always cond false t n = one (go_to (Pair n t))
bicc_group always cond true t n = one (go_to (plain t))
bicc_group depends cond false t n = two (go_if cond (Pair n t)) (go_to (plain n))
bicc_group depends cond true t n = two (go_if cond (Pair n t)) (go_to (plain (plus n 4)))

-- of a plain or slot place (p, n): "Outside or illegal: one 7 (end 2 or 3, address p). Ticc 8: one 1. .. Call: 2 (p), 5. Jmpl: 3, 5.
-- The rest: 1, 5. The first that fits applies."
unfoldable pub group_of : Transfer → ℕ → ℕ → ℕ → Group Place
group_of illegal word p n = one (stop 3 p)
group_of trap word p n = one (do_word word)
group_of straight word p n = two (do_word word) (go_to (plain n))
group_of (call disp) word p n = two (link p) (go_to (Pair n (target p disp)))
group_of (bicc cond annul disp) word p n = bicc_group (which_of cond) cond annul (target p disp) n
group_of (jmpl rd rs1 x) word p n = two (hold word p) (go_to (Held n))

-- of a held place: "Held: 1, 6", after "Outside or illegal" and "Ticc 8"
unfoldable pub held_group_of : Transfer → ℕ → ℕ → Group Place
held_group_of illegal word p = one (stop 3 p)
held_group_of trap word p = one (do_word word)
held_group_of straight word p = two (do_word word) go_held
held_group_of (call disp) word p = two (do_word word) go_held
held_group_of (bicc cond annul disp) word p = two (do_word word) go_held
held_group_of (jmpl rd rs1 x) word p = two (do_word word) go_held

unfoldable pub group_at : Option ℕ → ℕ → ℕ → Group Place
group_at none p n = one (stop 2 p)
group_at (some word) p n = group_of (transfer_of (instruction_of word)) word p n

unfoldable pub held_group_at : Option ℕ → ℕ → Group Place
held_group_at none p = one (stop 2 p)
held_group_at (some word) p = held_group_of (transfer_of (instruction_of word)) word p

unfoldable pub group : List ℕ → ℕ → Place → Group Place
group image base (Pair p n) = group_at (word_in image base p) p n
group image base (Held p) = held_group_at (word_in image base p) p

-- n and the records of a group
unfoldable pub past : {G : Type 0} → Group G → ℕ → ℕ
past (one r) n = suc n
past (two r s) n = suc (suc n)

-- a record whose go-to names a place, with that place's first record for it
unfoldable pub numbered : (Place → ℕ) → Rec Place → Rec ℕ
numbered first (do_word w) = do_word w
numbered first (link p) = link p
numbered first (hold w p) = hold w p
numbered first (go_if c x) = go_if c (first x)
numbered first (go_to x) = go_to (first x)
numbered first go_held = go_held
numbered first (stop e p) = stop e p
numbered first unknown = unknown

unfoldable pub put : (Place → ℕ) → Group Place → List (Rec ℕ) → List (Rec ℕ)
put first (one r) rest = numbered first r ∷ rest
put first (two r s) rest = numbered first r ∷ numbered first s ∷ rest

-- a row of the place table: address, next, kind, first record
pub data Row : Type 0 where
  row : ℕ → ℕ → ℕ → ℕ → Row

-- a layout: the group of a place, which may depend on the places after it
abbrev pub Grouping : Type 0
Grouping = Place → List Place → Group Place

-- 01's own layout: every group in full
abbrev pub in_full : List ℕ → ℕ → Grouping
in_full image base y ys = group image base y

-- "Groups follow place order."
module _ (lay : Grouping) where
  -- the first record of a place of the list, by the groups before it
  unfoldable pub first : List Place → Place → ℕ
  first [] x = 0
  first (y ∷ ys) x = pick (same_place y x) 0 (past (lay y ys) (first ys x))

  unfoldable pub rows_from : ℕ → List Place → List Row
  rows_from n [] = []
  rows_from n (y ∷ ys) = row (place_at y) (next_of y) (kind_of y) n ∷ rows_from (past (lay y ys) n) ys

  unfoldable pub records_from : (Place → ℕ) → List Place → List (Rec ℕ)
  records_from f [] = []
  records_from f (y ∷ ys) = put f (lay y ys) (records_from f ys)

  unfoldable pub rows_of : List Place → List Row
  rows_of ps = rows_from 0 ps

  unfoldable pub records_of : List Place → List (Rec ℕ)
  records_of ps = records_from (first ps) ps

-- the numbers of a table, and of records: "A number not named is 0."
unfoldable pub table_numbers : List Row → List ℕ
table_numbers [] = []
table_numbers (row p n k f ∷ rs) = p ∷ n ∷ k ∷ f ∷ table_numbers rs

unfoldable pub record_numbers : Rec ℕ → List ℕ → List ℕ
record_numbers (do_word w) rest = 1 ∷ w ∷ 0 ∷ rest
record_numbers (link p) rest = 2 ∷ p ∷ 0 ∷ rest
record_numbers (hold w p) rest = 3 ∷ w ∷ p ∷ rest
record_numbers (go_if c r) rest = 4 ∷ c ∷ r ∷ rest
record_numbers (go_to r) rest = 5 ∷ r ∷ 0 ∷ rest
record_numbers go_held rest = 6 ∷ 0 ∷ 0 ∷ rest
record_numbers (stop e p) rest = 7 ∷ e ∷ p ∷ rest
record_numbers unknown rest = 0 ∷ 0 ∷ 0 ∷ rest

unfoldable pub records_numbers : List (Rec ℕ) → List ℕ
records_numbers [] = []
records_numbers (r ∷ rs) = record_numbers r (records_numbers rs)

-- "four bytes a number, big-endian. A tail too short for a whole entry, address, place or record is not counted as one."
unfoldable pub numbers_in : List ℕ → List ℕ
numbers_in bytes = numbers_of bytes (length bytes / 4)

unfoldable pub row_at : List ℕ → ℕ → Row
row_at bytes i = row (number_at bytes (16 * i)) (number_at bytes (16 * i + 4)) (number_at bytes (16 * i + 8)) (number_at bytes (16 * i + 12))

unfoldable pub rows_in : List ℕ → List Row
rows_in bytes = up_to (row_at bytes) (length bytes / 16)

-- the record of three numbers
unfoldable pub record_of : ℕ → ℕ → ℕ → Rec ℕ
record_of kind x y =
    find
    ((1, do_word x) ∷ (2, link x) ∷ (3, hold x y) ∷ (4, go_if x y) ∷ (5, go_to x) ∷ (6, go_held) ∷ (7, stop x y) ∷ [])
    unknown
    kind

unfoldable pub record_at : List ℕ → ℕ → Rec ℕ
record_at bytes r = record_of (number_at bytes (12 * r)) (number_at bytes (12 * r + 4)) (number_at bytes (12 * r + 8))

unfoldable pub records_in : List ℕ → List (Rec ℕ)
records_in bytes = up_to (record_at bytes) (length bytes / 12)
