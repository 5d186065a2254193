-- What the translator packs, the new core reads back.
use Prim.Native.Nat.{ℕ, zero, suc, ◌+◌, ◌*◌, ◌/◌, ◌^◌, ◌≤◌, ◌<◌}
use native.Mathlib.Omega.{arith}
use mathlib.Core.Path.{◌≡◌, refl}
use mathlib.Core.Bool.{Bool, true, false}
use mathlib.Core.List.{List, [], ◌∷◌}
use mathlib.Core.Option.{Option, none, some}
use lib.Dec.{eqb, leb}
use lib.ListN.{length, get_or}
use borrow.Author.Tests.{leb-true}
use Rattle.numbers.proofs.Choice.{either}
use Rattle.numbers.specs.Number.{Below, plus, bytes_of}
use Rattle.numbers.proofs.Number.{length_bytes, number_packed}
use Rattle.numbers.proofs.Lists.{up_list}
use Rattle.words.specs.Reader.{instruction_of}
use Rattle.model.specs.declared.Place.{Place}
use Rattle.model.specs.declared.Place.TheVariants.{Pair, Held}
use Rattle.model.specs.OldCore.{word_in, Transfer, illegal, straight, trap, call, bicc, jmpl, transfer_of, target}
use Rattle.model.specs.Places.{plain, place_at, next_of, kind_of, Which, never, always, depends, which_of}
use Rattle.model.specs.Records.{Rec, do_word, link, hold, go_if, go_to, go_held, stop, unknown, Group, one, two, bicc_group, group_of, held_group_of, group_at, held_group_at, group, past, numbered, put, Row, row, in_full, first, rows_from, records_from, rows_of, records_of, table_numbers, record_numbers, records_numbers, row_at, rows_in, record_of, record_at, records_in}
use Rattle.model.proofs.Members.{AllP}
use Rattle.model.proofs.Follows.{Aligned}
use Rattle.model.proofs.Transfers.{small_condition}
use Rattle.model.proofs.Groups.{past_le, first_le}

-- ---------------------------------------------------------------- rows
pub length_table : (rs : List Row) → length (table_numbers rs) ≡ 4 * length rs
unfolding table_numbers
length_table [] = refl
length_table (row p n k f ∷ rs) = omega (arith, length_table rs)

abbrev no_row : Row
no_row = row 0 0 0 0

abbrev row_from : List ℕ → ℕ → Row
row_from ns i = row (get_or ns (4 * i) 0) (get_or ns (4 * i + 1) 0) (get_or ns (4 * i + 2) 0) (get_or ns (4 * i + 3) 0)

row_from_lem : (rs : List Row) (i : ℕ) → i < length rs → row_from (table_numbers rs) i ≡ get_or rs i no_row
unfolding table_numbers
row_from_lem [] i h = absurd (omega arith)
row_from_lem (row p n k f ∷ rs) zero h = refl
row_from_lem (row p n k f ∷ rs) (suc i) h =
    let a : 4 * suc i ≡ suc (suc (suc (suc (4 * i)))) = omega arith in
    let b : 4 * suc i + 1 ≡ suc (suc (suc (suc (4 * i + 1)))) = omega arith in
    let c : 4 * suc i + 2 ≡ suc (suc (suc (suc (4 * i + 2)))) = omega arith in
    let d : 4 * suc i + 3 ≡ suc (suc (suc (suc (4 * i + 3)))) = omega arith in
    rw (b, c, d, a) (row_from_lem rs i (omega arith))

row_packed : (rs : List Row) (i : ℕ) → Below (2 ^ 32) (table_numbers rs) → i < length rs → row_at (bytes_of (table_numbers rs)) i ≡ get_or rs i no_row
unfolding row_at
row_packed rs i a h =
    let ns = table_numbers rs in
    let l : length ns ≡ 4 * length rs = length_table rs in
    rw (
      number_packed ns (4 * i) (16 * i) a (omega arith) (omega arith),
      number_packed ns (4 * i + 1) (16 * i + 4) a (omega arith) (omega arith),
      number_packed ns (4 * i + 2) (16 * i + 8) a (omega arith) (omega arith),
      number_packed ns (4 * i + 3) (16 * i + 12) a (omega arith) (omega arith),
    )
    (row_from_lem rs i h)

pub rows_packed : (rs : List Row) → Below (2 ^ 32) (table_numbers rs) → rows_in (bytes_of (table_numbers rs)) ≡ rs
unfolding rows_in
rows_packed rs a =
    let k : length (bytes_of (table_numbers rs)) / 16 ≡ length rs = omega (arith, length_bytes (table_numbers rs), length_table rs) in
    rw k (up_list no_row (row_at (bytes_of (table_numbers rs))) rs (λ i h. row_packed rs i a h))

-- ---------------------------------------------------------------- records
length_record : (r : Rec ℕ) (rest : List ℕ) → length (record_numbers r rest) ≡ 3 + length rest
unfolding record_numbers
length_record (do_word w) rest = omega arith
length_record (link p) rest = omega arith
length_record (hold w p) rest = omega arith
length_record (go_if c g) rest = omega arith
length_record (go_to g) rest = omega arith
length_record go_held rest = omega arith
length_record (stop e p) rest = omega arith
length_record unknown rest = omega arith

pub length_records : (rs : List (Rec ℕ)) → length (records_numbers rs) ≡ 3 * length rs
unfolding records_numbers
length_records [] = refl
length_records (r ∷ rs) = omega (arith, length_record r (records_numbers rs), length_records rs)

abbrev record_from : List ℕ → ℕ → Rec ℕ
record_from ns i = record_of (get_or ns (3 * i) 0) (get_or ns (3 * i + 1) 0) (get_or ns (3 * i + 2) 0)

record_here : (r : Rec ℕ) (rest : List ℕ) → record_from (record_numbers r rest) 0 ≡ r
unfolding record_numbers record_of
record_here (do_word w) rest = refl
record_here (link p) rest = refl
record_here (hold w p) rest = refl
record_here (go_if c g) rest = refl
record_here (go_to g) rest = refl
record_here go_held rest = refl
record_here (stop e p) rest = refl
record_here unknown rest = refl

-- a record's numbers are three
three_past : (r : Rec ℕ) (rest : List ℕ) (k : ℕ) → get_or (record_numbers r rest) (suc (suc (suc k))) 0 ≡ get_or rest k 0
unfolding record_numbers
three_past (do_word w) rest k = refl
three_past (link p) rest k = refl
three_past (hold w p) rest k = refl
three_past (go_if c g) rest k = refl
three_past (go_to g) rest k = refl
three_past go_held rest k = refl
three_past (stop e p) rest k = refl
three_past unknown rest k = refl

record_from_lem : (rs : List (Rec ℕ)) (i : ℕ) → i < length rs → record_from (records_numbers rs) i ≡ get_or rs i unknown
unfolding records_numbers
record_from_lem [] i h = absurd (omega arith)
record_from_lem (r ∷ rs) zero h = record_here r (records_numbers rs)
record_from_lem (r ∷ rs) (suc i) h =
    let a : 3 * suc i ≡ suc (suc (suc (3 * i))) = omega arith in
    let b : 3 * suc i + 1 ≡ suc (suc (suc (3 * i + 1))) = omega arith in
    let c : 3 * suc i + 2 ≡ suc (suc (suc (3 * i + 2))) = omega arith in
    let rest = records_numbers rs in
    rw (b, c, a, three_past r rest (3 * i), three_past r rest (3 * i + 1), three_past r rest (3 * i + 2)) (record_from_lem rs i (omega arith))

record_packed : (rs : List (Rec ℕ)) (i : ℕ) → Below (2 ^ 32) (records_numbers rs) → i < length rs → record_at (bytes_of (records_numbers rs)) i ≡ get_or rs i unknown
unfolding record_at
record_packed rs i a h =
    let ns = records_numbers rs in
    let l : length ns ≡ 3 * length rs = length_records rs in
    rw (
      number_packed ns (3 * i) (12 * i) a (omega arith) (omega arith),
      number_packed ns (3 * i + 1) (12 * i + 4) a (omega arith) (omega arith),
      number_packed ns (3 * i + 2) (12 * i + 8) a (omega arith) (omega arith),
    )
    (record_from_lem rs i h)

pub records_packed : (rs : List (Rec ℕ)) → Below (2 ^ 32) (records_numbers rs) → records_in (bytes_of (records_numbers rs)) ≡ rs
unfolding records_in
records_packed rs a =
    let k : length (bytes_of (records_numbers rs)) / 12 ≡ length rs = omega (arith, length_bytes (records_numbers rs), length_records rs) in
    rw k (up_list unknown (record_at (bytes_of (records_numbers rs))) rs (λ i h. record_packed rs i a h))

-- ---------------------------------------------------------------- the numbers of a translation are of 32 bits
-- what a record may carry
abbrev RecLt : Rec ℕ → Type 0
RecLt (do_word w) = w < 2 ^ 32
RecLt (link p) = p < 2 ^ 32
RecLt (hold w p) = (w < 2 ^ 32) × (p < 2 ^ 32)
RecLt (go_if c g) = (c < 2 ^ 32) × (g < 2 ^ 32)
RecLt (go_to g) = g < 2 ^ 32
RecLt go_held = Unit {0}
RecLt (stop e p) = (e < 2 ^ 32) × (p < 2 ^ 32)
RecLt unknown = Unit {0}

record_lt : (r : Rec ℕ) (rest : List ℕ) → RecLt r → Below (2 ^ 32) rest → Below (2 ^ 32) (record_numbers r rest)
unfolding record_numbers
record_lt (do_word w) rest h l = (omega arith, (h, (omega arith, l)))
record_lt (link p) rest h l = (omega arith, (h, (omega arith, l)))
record_lt (hold w p) rest h l = (omega arith, (h.0, (h.1, l)))
record_lt (go_if c g) rest h l = (omega arith, (h.0, (h.1, l)))
record_lt (go_to g) rest h l = (omega arith, (h, (omega arith, l)))
record_lt go_held rest h l = (omega arith, (omega arith, (omega arith, l)))
record_lt (stop e p) rest h l = (omega arith, (h.0, (h.1, l)))
record_lt unknown rest h l = (omega arith, (omega arith, (omega arith, l)))

kind_lt : (y : Place) → kind_of y < 2 ^ 32
unfolding kind_of
kind_lt (Pair p n) = either (λ k. k < 2 ^ 32) (eqb n (plus p 4)) 0 1 (omega arith) (omega arith)
kind_lt (Held p) = omega arith

at_lt : (y : Place) → Aligned y → (place_at y < 2 ^ 32) × (next_of y < 2 ^ 32)
unfolding place_at next_of
at_lt (Pair p n) a = omega arith
at_lt (Held p) a = omega arith

module _ (image : List ℕ) (base : ℕ) (words : (p w : ℕ) → word_in image base p ≡ some w → w < 2 ^ 32) where
  rows_lt : (f : ℕ) (ps : List Place) → AllP Aligned ps → f + 2 * length ps < 2 ^ 32 → Below (2 ^ 32) (table_numbers (rows_from (in_full image base) f ps))
  unfolding table_numbers rows_from
  rows_lt f [] a h = tt
  rows_lt f (y ∷ ys) a h =
      let r = at_lt y a.0 in
      (r.0, (r.1, (kind_lt y, (omega arith, rows_lt (past (group image base y) f) ys a.1 (omega (arith, past_le (group image base y) f))))))

  module _ (φ : Place → ℕ) (low : (z : Place) → φ z < 2 ^ 32) where
    abbrev GroupLt : Group Place → Type 0
    GroupLt (one r) = RecLt (numbered φ r)
    GroupLt (two r s) = RecLt (numbered φ r) × RecLt (numbered φ s)

    bicc_lt : (k : Which) (c : ℕ) (annul : Bool) (t n : ℕ) → leb c 15 ≡ true → GroupLt (bicc_group k c annul t n)
    unfolding bicc_group numbered
    bicc_lt never c false t n h = low (plain n)
    bicc_lt never c true t n h = low (plain (plus n 4))
    bicc_lt always c false t n h = low (Pair n t)
    bicc_lt always c true t n h = low (plain t)
    bicc_lt depends c false t n h = ((omega (arith, leb-true c 15 h), low (Pair n t)), low (plain n))
    bicc_lt depends c true t n h = ((omega (arith, leb-true c 15 h), low (Pair n t)), low (plain (plus n 4)))

    group_of_lt : (t : Transfer) (w p n : ℕ) → transfer_of (instruction_of w) ≡ t → w < 2 ^ 32 → p < 2 ^ 32 → GroupLt (group_of t w p n)
    unfolding group_of numbered
    group_of_lt illegal w p n q h i = (omega arith, i)
    group_of_lt straight w p n q h i = (h, low (plain n))
    group_of_lt trap w p n q h i = h
    group_of_lt (call disp) w p n q h i = (i, low (Pair n (target p disp)))
    group_of_lt (bicc c a d) w p n q h i = bicc_lt (which_of c) c a (target p d) n (small_condition w c a d q)
    group_of_lt (jmpl rd rs1 x) w p n q h i = ((h, i), low (Held n))

    held_of_lt : (t : Transfer) (w p : ℕ) → w < 2 ^ 32 → p < 2 ^ 32 → GroupLt (held_group_of t w p)
    unfolding held_group_of numbered
    held_of_lt illegal w p h i = (omega arith, i)
    held_of_lt straight w p h i = (h, tt)
    held_of_lt trap w p h i = h
    held_of_lt (call disp) w p h i = (h, tt)
    held_of_lt (bicc c a d) w p h i = (h, tt)
    held_of_lt (jmpl rd rs1 x) w p h i = (h, tt)

    group_at_lt : (o : Option ℕ) (p n : ℕ) → word_in image base p ≡ o → p < 2 ^ 32 → GroupLt (group_at o p n)
    unfolding group_at numbered
    group_at_lt none p n e i = (omega arith, i)
    group_at_lt (some w) p n e i = group_of_lt (transfer_of (instruction_of w)) w p n refl (words p w e) i

    held_at_lt : (o : Option ℕ) (p : ℕ) → word_in image base p ≡ o → p < 2 ^ 32 → GroupLt (held_group_at o p)
    unfolding held_group_at numbered
    held_at_lt none p e i = (omega arith, i)
    held_at_lt (some w) p e i = held_of_lt (transfer_of (instruction_of w)) w p (words p w e) i

    group_lt : (y : Place) → Aligned y → GroupLt (group image base y)
    unfolding group
    group_lt (Pair p n) a = group_at_lt (word_in image base p) p n refl a.2
    group_lt (Held p) a = held_at_lt (word_in image base p) p refl a.1

    put_lt : (g : Group Place) (rest : List (Rec ℕ)) → GroupLt g → Below (2 ^ 32) (records_numbers rest) → Below (2 ^ 32) (records_numbers (put φ g rest))
    unfolding put records_numbers
    put_lt (one r) rest h l = record_lt (numbered φ r) (records_numbers rest) h l
    put_lt (two r s) rest h l =
        record_lt (numbered φ r) (record_numbers (numbered φ s) (records_numbers rest)) h.0 (record_lt (numbered φ s) (records_numbers rest) h.1 l)

    records_lt : (ps : List Place) → AllP Aligned ps → Below (2 ^ 32) (records_numbers (records_from (in_full image base) φ ps))
    unfolding records_from records_numbers
    records_lt [] a = tt
    records_lt (y ∷ ys) a = put_lt (group image base y) (records_from (in_full image base) φ ys) (group_lt y a.0) (records_lt ys a.1)

  pub table_back : (ps : List Place) → AllP Aligned ps → length ps ≤ 8192 → rows_in (bytes_of (table_numbers (rows_of (in_full image base) ps))) ≡ rows_of (in_full image base) ps
  unfolding rows_of
  table_back ps a h = rows_packed (rows_from (in_full image base) 0 ps) (rows_lt 0 ps a (omega arith))

  pub records_back : (ps : List Place) → AllP Aligned ps → length ps ≤ 8192
      → records_in (bytes_of (records_numbers (records_of (in_full image base) ps))) ≡ records_of (in_full image base) ps
  unfolding records_of
  records_back ps a h =
      records_packed (records_from (in_full image base) (first (in_full image base) ps) ps)
      (records_lt (first (in_full image base) ps) (λ z. omega (arith, first_le (in_full image base) ps z)) ps a)
