-- The places and records that are handed back are those that the rules make, and all of them.
use Prim.Native.Nat.{ℕ, zero, suc, ◌+◌, ◌*◌}
use native.Mathlib.Omega.{arith}
use native.Mathlib.Nat.{zero-add}
use mathlib.Core.Path.{◌≡◌, refl, sym, ap, ◌∙◌, subst}
use mathlib.Core.Bool.{Bool, true, false, false≢true}
use mathlib.Core.List.{List, [], ◌∷◌}
use mathlib.Core.Option.{Option, none, some, none-ne-some, some-injective}
use lib.Dec.{eqb}
use lib.ListN.{get_elem?, length, take}
use Rattle.numbers.specs.Choice.{pick}
use Rattle.numbers.specs.Number.{plus}
use Rattle.words.specs.Reader.{instruction_of}
use Rattle.model.specs.declared.Place.{Place}
use Rattle.model.specs.declared.Place.TheVariants.{Pair, Held}
use Rattle.model.specs.OldCore.{word_in, Transfer, illegal, straight, trap, call, bicc, jmpl, transfer_of, target}
use Rattle.model.specs.Places.{place_at, next_of, kind_of, same_place, member, Which, never, always, depends, which_of, bicc_names, names, names_at, unimp_behind, followers, Makes}
use Rattle.model.specs.Walk.{table}
use Rattle.model.specs.Records.{Rec, do_word, link, hold, go_if, go_to, go_held, stop, unknown, Group, one, two, bicc_group, group_of, held_group_of, group_at, held_group_at, group, past, numbered, Row, Grouping, in_full, first, rows_from, records_from, rows_of, records_of, numbers_in}
use Rattle.model.specs.Translation.{Handed, place_room}
use Rattle.model.specs.AllOfThem.{row_of, Lists, FirstRecord, Renders, GroupAt, size_of, Grouped, AllOfThem}
use Rattle.model.proofs.Members.{same_self, same_eq, AllIn, get_mem, mem_get, NoTwice, no_twice_at}
use Rattle.model.proofs.Follows.{Closed}
use Rattle.model.proofs.Groups.{Stands, put_length, past_add, stands}
use Rattle.model.proofs.Walk.{member_made, made_member, places_once}
use Rattle.model.proofs.Accepted.{took, length_rows}
use Rattle.model.proofs.Demand3.{laid}

-- ---------------------------------------------------------------- a row tells its place, and its first record
first_told : (x y : Place) (f g : ℕ) → row_of x f ≡ row_of y g → f ≡ g
first_told x y f g e = cc

-- a pair's kind is not that of a held place
not_2 : {A : Type 0} (b : Bool) → ◌≡◌ {A = ℕ} (pick b 0 1) 2 → A
not_2 true k = absurd (omega arith)
not_2 false k = absurd (omega arith)

place_told : (x y : Place) (f g : ℕ) → row_of x f ≡ row_of y g → x ≡ y
unfolding place_at next_of kind_of
place_told (Pair p n) (Pair q o) f g e = let u : p ≡ q = cc in let v : n ≡ o = cc in cc
place_told (Pair p n) (Held q) f g e = let k : ◌≡◌ {A = ℕ} (pick (eqb n (plus p 4)) 0 1) 2 = cc in not_2 (eqb n (plus p 4)) k
place_told (Held p) (Pair q o) f g e = let k : ◌≡◌ {A = ℕ} (pick (eqb o (plus q 4)) 0 1) 2 = cc in not_2 (eqb o (plus q 4)) k
place_told (Held p) (Held q) f g e = let u : p ≡ q = cc in cc

-- ---------------------------------------------------------------- rows by their number
not_same : (y : Place) (ys : List Place) (x : Place) → member ys y ≡ false → member ys x ≡ true → same_place y x ≡ false
not_same y ys x n m = go (same_place y x) refl
  where
    go : (b : Bool) → same_place y x ≡ b → b ≡ false
    go true e = absurd (false≢true (sym n ∙ subst (λ (z : Place). member ys z ≡ true) (sym (same_eq y x e)) m))
    go false e = refl

module _ (lay : Grouping) where
  row_at : (ps : List Place) (f i : ℕ) (r : Row) → get_elem? (rows_from lay f ps) i ≡ some r
      → (x : Place) × ((g : ℕ) × ((get_elem? ps i ≡ some x) × (r ≡ row_of x g)))
  unfolding rows_from
  row_at [] f i r e = absurd (none-ne-some _ e)
  row_at (y ∷ ys) f zero r e = let z : row_of y f ≡ r = cc in (y, (f, (refl, sym z)))
  row_at (y ∷ ys) f (suc i) r e = row_at ys (past (lay y ys) f) i r e

  -- the row of x has its first record, since x is not in the list twice
  at_row : (ps : List Place) → NoTwice ps → (f i : ℕ) (x : Place) → get_elem? ps i ≡ some x
      → get_elem? (rows_from lay f ps) i ≡ some (row_of x (f + first lay ps x))
  unfolding rows_from first
  at_row [] n f i x e = absurd (none-ne-some _ e)
  at_row (y ∷ ys) n f zero x e =
      let z : y ≡ x = cc in
      subst (λ (v : Place). some (row_of y f) ≡ some (row_of v (f + pick (same_place y v) 0 (past (lay y ys) (first lay ys v))))) z
      (rw (same_self y) (ap (λ k. some (row_of y k)) (omega arith)))
  at_row (y ∷ ys) n f (suc i) x e =
      let g = lay y ys in
      rw (not_same y ys x n.0 (get_mem ys i x e), ← past_add g f (first lay ys x)) (at_row ys n.1 (past g f) i x e)

  -- a row of x is that of the number that x has in the list
  is_row : (ps : List Place) → NoTwice ps → (f i g : ℕ) (x : Place) → get_elem? (rows_from lay f ps) i ≡ some (row_of x g)
      → (get_elem? ps i ≡ some x) × (g ≡ f + first lay ps x)
  is_row ps n f i g x e =
      let r = row_at ps f i (row_of x g) e in
      let y = r.0 in
      let z : x ≡ y = place_told x y g r.1.0 r.1.1.1 in
      let there : get_elem? ps i ≡ some x = r.1.1.0 ∙ ap some (sym z) in
      (there, first_told x x g (f + first lay ps x) (some-injective _ _ (sym e ∙ at_row ps n f i x there)))

-- ---------------------------------------------------------------- what a group goes to is in the list, which is closed
abbrev GoesIn : List Place → Rec Place → Type 0
GoesIn ps (do_word w) = Unit {0}
GoesIn ps (link p) = Unit {0}
GoesIn ps (hold w p) = Unit {0}
GoesIn ps (go_if c x) = member ps x ≡ true
GoesIn ps (go_to x) = member ps x ≡ true
GoesIn ps go_held = Unit {0}
GoesIn ps (stop e p) = Unit {0}
GoesIn ps unknown = Unit {0}

abbrev AllGoIn : List Place → Group Place → Type 0
AllGoIn ps (one r) = GoesIn ps r
AllGoIn ps (two r s) = GoesIn ps r × GoesIn ps s

bicc_goes : (ps : List Place) (k : Which) (cond : ℕ) (annul : Bool) (t n : ℕ) → AllIn ps (bicc_names k annul t n) → AllGoIn ps (bicc_group k cond annul t n)
unfolding bicc_names bicc_group
bicc_goes ps never cond false t n a = a.0
bicc_goes ps never cond true t n a = a.0
bicc_goes ps always cond false t n a = a.0
bicc_goes ps always cond true t n a = a.0
bicc_goes ps depends cond false t n a = (a.1.0, a.0)
bicc_goes ps depends cond true t n a = (a.1.0, a.0)

word_goes : (ps : List Place) (t : Transfer) (unimp : Bool) (word p n : ℕ) → AllIn ps (names t unimp p n) → AllGoIn ps (group_of t word p n)
unfolding names group_of
word_goes ps illegal unimp word p n a = tt
word_goes ps straight unimp word p n a = (tt, a.0)
word_goes ps trap unimp word p n a = tt
word_goes ps (call disp) unimp word p n a = (tt, a.0)
word_goes ps (bicc cond annul disp) unimp word p n a = bicc_goes ps (which_of cond) cond annul (target p disp) n a
word_goes ps (jmpl rd rs1 x) unimp word p n a = (tt, a.0)

held_goes : (ps : List Place) (t : Transfer) (word p : ℕ) → AllGoIn ps (held_group_of t word p)
unfolding held_group_of
held_goes ps illegal word p = tt
held_goes ps straight word p = (tt, tt)
held_goes ps trap word p = tt
held_goes ps (call disp) word p = (tt, tt)
held_goes ps (bicc cond annul disp) word p = (tt, tt)
held_goes ps (jmpl rd rs1 x) word p = (tt, tt)

group_goes : (image : List ℕ) (base : ℕ) (ps : List Place) (x : Place) → AllIn ps (followers image base x) → AllGoIn ps (group image base x)
unfolding group followers names_at group_at held_group_at
group_goes image base ps (Pair p n) a = at (word_in image base p) a
  where
    at : (o : Option ℕ) → AllIn ps (names_at o (unimp_behind image base p) p n) → AllGoIn ps (group_at o p n)
    at none b = tt
    at (some word) b = word_goes ps (transfer_of (instruction_of word)) (unimp_behind image base p) word p n b
group_goes image base ps (Held p) a = at (word_in image base p)
  where
    at : (o : Option ℕ) → AllGoIn ps (held_group_at o p)
    at none = tt
    at (some word) = held_goes ps (transfer_of (instruction_of word)) word p

past_size : (g : Group Place) (f : ℕ) → past g f ≡ f + size_of g
unfolding past
past_size (one r) f = omega arith
past_size (two r s) f = omega arith

-- ---------------------------------------------------------------- of a closed list with no place twice, its table and its records
module _ (image : List ℕ) (base : ℕ) (ps : List Place) (C : Closed image base ps) (n : NoTwice ps) where
  abbrev lay : Grouping
  lay = in_full image base

  abbrev φ : Place → ℕ
  φ = first lay ps

  abbrev rows : List Row
  rows = rows_from lay 0 ps

  abbrev records : List (Rec ℕ)
  records = records_from lay φ ps

  listed : (made : Place → Type 0) → ((x : Place) → member ps x ≡ true → made x) → ((x : Place) → made x → member ps x ≡ true) → Lists made rows
  listed made of to =
      record {
        made_only = λ i r e. let t = row_at lay ps 0 i r e in (t.0, (of t.0 (get_mem ps i t.0 t.1.1.0), (t.1.0, t.1.1.1)));
        all_made = λ x m. let t = mem_get ps x (to x m) in (t.0, (0 + φ x, at_row lay ps n 0 t.0 x t.1));
        once = λ x i j f g e h. no_twice_at ps n x i j (is_row lay ps n 0 i f x e).0 (is_row lay ps n 0 j g x h).0;
      }

  has_first : (x : Place) → member ps x ≡ true → FirstRecord rows x (φ x)
  has_first x h = let t = mem_get ps x h in (t.0, rw zero-add at (at_row lay ps n 0 t.0 x t.1))

  renders : (r : Rec Place) → GoesIn ps r → Renders rows r (numbered φ r)
  unfolding numbered
  renders (do_word w) g = refl
  renders (link p) g = refl
  renders (hold w p) g = refl
  renders (go_if c x) g = (φ x, (has_first x g, refl))
  renders (go_to x) g = (φ x, (has_first x g, refl))
  renders go_held g = refl
  renders (stop e p) g = refl
  renders unknown g = refl

  group_at_lem : (g : Group Place) (f : ℕ) → AllGoIn ps g → Stands φ records f g → GroupAt rows records f g
  group_at_lem (one r) f a s = (numbered φ r, (s, renders r a))
  group_at_lem (two r t) f a s = ((numbered φ r, (s.0, renders r a.0)), (numbered φ t, (s.1, renders t a.1)))

  stands_at_lem : (i f : ℕ) (x : Place) → get_elem? rows i ≡ some (row_of x f) → GroupAt rows records f (group image base x)
  stands_at_lem i f x e =
      let r = is_row lay ps n 0 i f x e in
      let m = get_mem ps i x r.0 in
      let q : f ≡ φ x = rw zero-add at r.1 in
      rw q (group_at_lem (group image base x) (φ x) (group_goes image base ps x (C.closed x m)) (stands lay φ ps x m))

  begins_at : (qs : List Place) (f : ℕ) (x : Place) → get_elem? (rows_from lay 0 qs) 0 ≡ some (row_of x f) → f ≡ 0
  unfolding rows_from
  begins_at [] f x e = absurd (none-ne-some _ e)
  begins_at (y ∷ ys) f x e = sym (first_told y x 0 f (some-injective _ _ e))

  follows_at : (qs : List Place) (k i f g : ℕ) (x y : Place) → get_elem? (rows_from lay k qs) i ≡ some (row_of x f)
      → get_elem? (rows_from lay k qs) (suc i) ≡ some (row_of y g) → g ≡ past (group image base x) f
  unfolding rows_from
  follows_at [] k i f g x y d e = absurd (none-ne-some _ d)
  follows_at (z ∷ []) k zero f g x y d e = absurd (none-ne-some _ e)
  follows_at (z ∷ w ∷ ws) k zero f g x y d e =
      let a : row_of z k ≡ row_of x f = some-injective _ _ d in
      rw (← (place_told z x k f a), ← (first_told z x k f a)) (sym (first_told w y (past (group image base z) k) g (some-injective _ _ e)))
  follows_at (z ∷ zs) k (suc i) f g x y d e = follows_at zs (past (group image base z) k) i f g x y d e

  ends_at : (qs : List Place) (k i f : ℕ) (x : Place) → get_elem? (rows_from lay k qs) i ≡ some (row_of x f) → suc i ≡ length qs
      → k + length (records_from lay φ qs) ≡ past (group image base x) f
  unfolding rows_from records_from
  ends_at [] k i f x d e = absurd (none-ne-some _ d)
  ends_at (z ∷ []) k zero f x d e =
      let a : row_of z k ≡ row_of x f = some-injective _ _ d in
      let g = group image base z in
      rw (← (place_told z x k f a), ← (first_told z x k f a), put_length φ g [], ← past_add g k 0) (omega arith)
  ends_at (z ∷ w ∷ ws) k zero f x d e = absurd (omega arith)
  ends_at (z ∷ zs) k (suc i) f x d e =
      let g = group image base z in
      rw (put_length φ g (records_from lay φ zs), ← past_add g k (length (records_from lay φ zs))) (ends_at zs (past g k) i f x d (omega arith))

  in_groups : Grouped (group image base) rows records
  in_groups =
      record {
        stands = stands_at_lem;
        begins = begins_at ps;
        follows = λ i f g x y d e. follows_at ps 0 i f g x y d e ∙ past_size (group image base x) f;
        ends = λ i f x d e. let z : suc i ≡ length ps = e ∙ length_rows lay 0 ps in (rw zero-add at (ends_at ps 0 i f x d z)) ∙ past_size (group image base x) f;
      }

pub all_of_them : AllOfThem
unfolding AllOfThem rows_of records_of
all_of_them image base entryList placesLength recordsLength placeCount recordCount ib eb handed eh answered =
    let es = numbers_in entryList in
    let cap = place_room placesLength in
    let places = take (16 * placeCount) handed.places in
    let records = take (12 * recordCount) handed.records in
    let L = laid image base entryList placesLength recordsLength placeCount recordCount ib eb handed eh answered places records refl refl in
    let tk = took image base entryList placesLength recordsLength placeCount recordCount (ap (λ (z : Handed). z.answer) (sym eh) ∙ answered) in
    let ps = L.ps in
    let once = places_once image base cap es ps L.made in
    let same : ps ≡ tk.ps = let z : table ps ≡ table tk.ps = sym L.made ∙ tk.made in cc in
    record {
      place_count = rw L.table_read (length_rows (in_full image base) 0 ps ∙ rw same tk.place_count);
      record_count = rw (L.records_read, same) tk.record_count;
      lists = rw L.table_read (listed image base ps L.closed once (Makes image base es) (member_made image base cap es ps L.made)
          (made_member image base cap es ps L.made L.closed));
      grouped = rw (L.table_read, L.records_read) (in_groups image base ps L.closed once);
      place_bytes = L.places_bytes;
      record_bytes = L.records_bytes;
    }
