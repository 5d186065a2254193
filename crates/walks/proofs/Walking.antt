-- Laws of the walk, and of the code's answers read with a table.
use Rattle.std.specs.Prelude.{Option, Some, None, Result, Ok, Err}
use Rattle.numbers.proofs.Lists.{at_up, past_up, drop_up, drop_all_up}
use Rattle.numbers.specs.Number.{number_at, up_to, numbers_of}
use Rattle.numbers.specs.Choice.{pick}
use Rattle.words.specs.Reader.{instruction_of}
use Rattle.words.specs.Flow.{flow_of}
use Rattle.words.specs.declared.Instruction.{Instruction}
use Rattle.words.specs.declared.Flow.{Flow}
use Rattle.model.specs.OldCore.{word_in, word_of, transfer_of}
use Rattle.model.specs.declared.Place.{Place}
use Rattle.model.specs.declared.Place.TheVariants.{Pair, Held}
use Rattle.model.specs.Places.{plain, place_at, member, names, names_at, unimp_behind, followers, may_be_held, may_be_held_at, allowed, plains}
use Rattle.model.specs.Walk.{Walked, table, refused, endless, grow, grown, tested, handle, walk, places_of}
use Rattle.places.proofs.Lending.{kept_self, kept_trans, length_listed}
use Rattle.places.proofs.Flows.{by_flow, fetched_none, fetched_some}
use Rattle.places.specs.declared.table.Table.{Table}
use Rattle.places.specs.Table.{place_of, place_in, places_in}
use Rattle.places.specs.Control.{transferred}
use Rattle.places.specs.Lent.{listed, Kept}
use borrow.Author.Tests.{lt-ltb, le-ltb}
use lib.ListN.{length, drop}
use lib.Dec.{eqb, ltb}
use native.Mathlib.Numerals.{add-one}
use native.Mathlib.Omega.{arith}
use mathlib.Core.Option.{some}
use mathlib.Core.List.{List, [], ◌∷◌, ◌++◌}
use mathlib.Core.Bool.{Bool, true, false}
use mathlib.Core.Path.{◌≡◌, refl, sym, ap, ◌∙◌}
use Prim.Native.Nat.{ℕ, suc, ◌+◌, ◌*◌, ◌-◌, ◌≤◌, ◌<◌}
use Rattle.walks.specs.declared.worklist.Refused.{Refused}
use Rattle.walks.specs.declared.worklist.Refused.TheVariants.{Forbidden, NoRoom}
use Rattle.walks.specs.Walk.{seen, handled, Known, Grown}

-- adding a place: present, no room, new
module _ (t : Table) (x : Place) where
  pub add_present : member (listed t) x ≡ true → Grown t (x ∷ []) (Ok tt) t
  unfolding seen grow
  add_present h = record { reads = rw h; kept = kept_self t }

  pub add_full : member (listed t) x ≡ false → t.room ≤ t.index.now.count → Grown t (x ∷ []) (Err (NoRoom (place_at x))) t
  unfolding seen grow
  add_full h m = record { reads = rw (h, length_listed t, le-ltb t.index.now.count t.room m); kept = kept_self t }

  pub add_new : {u : Table} → member (listed t) x ≡ false → t.index.now.count < t.room → listed u ≡ listed t ++ (x ∷ []) → Kept t u
      → Grown t (x ∷ []) (Ok tt) u
  unfolding seen grow
  add_new h m e k = record { reads = rw (h, length_listed t, lt-ltb t.index.now.count t.room m, e); kept = k }

-- the same of an equal walk
pub known_by : {w v : Walked} {t u : Table} {r : Result (Unit {0}) Refused} → v ≡ w → Known v t r u → Known w t r u
known_by e x = record { reads = x.reads ∙ e; kept = x.kept }

ended : (k : List Place → Walked) (e : Refused) (ps : List Place) → seen (Err e) ps ≡ grown k (seen (Err e) ps)
unfolding seen grown
ended k (Forbidden a) ps = refl
ended k (NoRoom a) ps = refl

-- going on from an answer that is known, and an answer that ends the walk
module _ (k : List Place → Walked) {w : Walked} {t u : Table} where
  pub known_on : {a : Unit {0}} {v : Table} {r : Result (Unit {0}) Refused} → Known w t (Ok a) u → Known (k (listed u)) u r v → Known (grown k w) t r v
  unfolding seen grown
  known_on x y = record { reads = y.reads ∙ rw (← x.reads); kept = kept_trans x.kept y.kept }

  pub known_end : (e : Refused) → Known w t (Err e) u → Known (grown k w) t (Err e) u
  known_end e x = record { reads = ended k e (listed u) ∙ ap (grown k) x.reads; kept = x.kept }

-- `grow` over a list is one `grow` after another
pub grow_append : (cap : ℕ) (ps xs ys : List Place) → grown (λ qs. grow cap qs ys) (grow cap ps xs) ≡ grow cap ps (xs ++ ys)
unfolding grow grown
grow_append cap ps [] ys = refl
grow_append cap ps (x ∷ xs) ys =
    go (member ps x) (ltb (length ps) cap) (grow_append cap ps xs ys) (grow_append cap (ps ++ (x ∷ [])) xs ys)
  where
    go : (b t : Bool) → grown (λ qs. grow cap qs ys) (grow cap ps xs) ≡ grow cap ps (xs ++ ys)
        → grown (λ qs. grow cap qs ys) (grow cap (ps ++ (x ∷ [])) xs) ≡ grow cap (ps ++ (x ∷ [])) (xs ++ ys)
        → grown (λ qs. grow cap qs ys) (pick b (grow cap ps xs) (pick t (grow cap (ps ++ (x ∷ [])) xs) (refused 5 (place_at x))))
        ≡ pick b (grow cap ps (xs ++ ys)) (pick t (grow cap (ps ++ (x ∷ [])) (xs ++ ys)) (refused 5 (place_at x)))
    go true t known added = known
    go false true known added = added
    go false false known added = refl

-- places that were added after others, and none after a refusal
pub grown_on : {t u v : Table} (xs ys : List Place) {a : Unit {0}} {r : Result (Unit {0}) Refused} → Grown t xs (Ok a) u → Grown u ys r v
    → Grown t (xs ++ ys) r v
grown_on {t} {u} xs ys x y =
    known_by (grow_append t.room (listed t) xs ys) (known_on (λ qs. grow t.room qs ys) x (known_by (ap (λ c. grow c (listed u) ys) x.kept.room) y))

pub grown_end : {t u : Table} (xs ys : List Place) (e : Refused) → Grown t xs (Err e) u → Grown t (xs ++ ys) (Err e) u
grown_end {t} xs ys e x = known_by (grow_append t.room (listed t) xs ys) (known_end (λ qs. grow t.room qs ys) e x)

pub grown_none : (t : Table) → Grown t [] (Ok tt) t
unfolding seen grow
grown_none t = record { reads = refl; kept = kept_self t }

-- a place handled, with nothing after it, and then the rest
module _ (image : List ℕ) (base : ℕ) where
  grown_table : (w : Walked) → grown table w ≡ w
  unfolding grown
  grown_table (table ps) = refl
  grown_table (refused n a) = refl
  grown_table endless = refl

  tested_grown : (rest : List Place → Walked) (cap : ℕ) (ps : List Place) (x : Place) (b : Bool)
      → grown rest (tested image base table cap ps x b) ≡ tested image base rest cap ps x b
  unfolding tested grown
  tested_grown rest cap ps x false = refl
  tested_grown rest cap ps x true = rw (grown_table (grow cap ps (followers image base x)))

-- what the flow of a word says of a place that has it
names_flow : (i : Instruction) (unimp : Bool) (p n : ℕ) → names (transferred (flow_of i)) unimp p n ≡ names (transfer_of i) unimp p n
unfolding names
names_flow i unimp p n = by_flow (λ t. names t unimp p n) (λ rd rs1 x. refl) i

held_flow : (i : Instruction) → may_be_held (transferred (flow_of i)) ≡ may_be_held (transfer_of i)
unfolding may_be_held
held_flow i = by_flow may_be_held (λ rd rs1 x. refl) i

-- a place handled, by its numbers and its word
module _ (image : List ℕ) (base : ℕ) (t : Table) (p n k : ℕ) {f : Option ℕ} (e : word_of f ≡ word_in image base p) where
  pub handled_outside : f ≡ None → Known (handled image base t.room (listed t) (place_of p n k)) t (Ok tt) t
  unfolding handled place_of allowed followers names_at may_be_held_at tested seen grow grown
  handled_outside h = record { reads = go (eqb k 2); kept = kept_self t }
    where
      go : (b : Bool) → table (listed t) ≡ tested image base table t.room (listed t) (pick b (Held p) (Pair p n)) (allowed image base (pick b (Held p) (Pair p n)))
      go true = rw (fetched_none image base p e h)
      go false = rw (fetched_none image base p e h)

  module _ {word : ℕ} {v : Flow} (h : f ≡ Some word) (i : v ≡ flow_of (instruction_of word)) where
    here : word_in image base p ≡ some word
    here = fetched_some image base p e h

    module _ {held : Bool} (a : held ≡ eqb k 2) (b : held ≡ true) where
      pub handled_held : may_be_held (transferred v) ≡ true → Known (handled image base t.room (listed t) (place_of p n k)) t (Ok tt) t
      unfolding handled place_of allowed followers may_be_held_at tested seen grow grown
      handled_held m = record { reads = rw (← a, b, here, ← held_flow (instruction_of word), ← i, m); kept = kept_self t }

      pub handled_forbidden : may_be_held (transferred v) ≡ false → Known (handled image base t.room (listed t) (place_of p n k)) t (Err (Forbidden p)) t
      unfolding handled place_of allowed followers may_be_held_at tested seen place_at
      handled_forbidden m = record { reads = rw (← a, b, here, ← held_flow (instruction_of word), ← i, m); kept = kept_self t }

    pub handled_pair : {held : Bool} {r : Result (Unit {0}) Refused} {u : Table} → held ≡ eqb k 2 → held ≡ false
        → Grown t (names (transferred v) (unimp_behind image base p) p n) r u → Known (handled image base t.room (listed t) (place_of p n k)) t r u
    unfolding handled place_of allowed followers names_at tested
    handled_pair a b =
        let unimp = unimp_behind image base p in
        known_by (rw (← a, b, here, i, names_flow (instruction_of word) unimp p n)
        (sym (grown_table image base (grow t.room (listed t) (names (transfer_of (instruction_of word)) unimp p n)))))

-- one turn of the walk, and its end
module _ (image : List ℕ) (base cap i : ℕ) (t : Table) where
  pub walk_turn : i < t.index.now.count → t.index.now.count ≤ cap
      → grown (walk image base (suc cap - (i + 1)) cap (i + 1)) (handled image base cap (listed t) (place_in t.places.now i))
      ≡ walk image base (suc cap - i) cap i (listed t)
  unfolding walk handle handled places_in listed
  walk_turn h k =
      let e : suc cap - i ≡ suc (suc cap - (i + 1)) = omega arith in
      let l = t.places.now in
      let n = t.index.now.count in
      rw (e, at_up (place_in l) n i h, add-one i)
      (tested_grown image base (walk image base (suc cap - suc i) cap (suc i)) cap (places_in l n) (place_in l i) (allowed image base (place_in l i)))

  pub walk_end : t.index.now.count ≤ i → i ≤ cap → table (listed t) ≡ walk image base (suc cap - i) cap i (listed t)
  unfolding walk handle places_in listed
  walk_end h k =
      let e : suc cap - i ≡ suc (cap - i) = omega arith in
      rw (e, past_up (place_in t.places.now) t.index.now.count i h)

-- entry j becomes a place
pub start_turn : (l : List ℕ) (k j v cap : ℕ) (ps : List Place) → j < k → v ≡ number_at l (4 * j)
    → grown (λ qs. grow cap qs (plains (drop (j + 1) (numbers_of l k)))) (grow cap ps (plain v ∷ [])) ≡ grow cap ps (plains (drop j (numbers_of l k)))
unfolding plains numbers_of
start_turn l k j v cap ps h e =
    rw (add-one j, drop_up (λ i. number_at l (4 * i)) k j h, ← e)
    (grow_append cap ps (plain v ∷ []) (plains (drop (suc j) (numbers_of l k))))

pub start_end : (l : List ℕ) (k j cap : ℕ) (ps : List Place) → k ≤ j → table ps ≡ grow cap ps (plains (drop j (numbers_of l k)))
unfolding plains numbers_of grow
start_end l k j cap ps h = rw (drop_all_up (λ i. number_at l (4 * i)) k j h)

-- what holds of a table that was kept so far
module _ {s t : Table} (kept : Kept s t) where
  known_from : {u : Table} {w : Walked} {r : Result (Unit {0}) Refused} → Known w t r u → Known w s r u
  known_from x = record { reads = x.reads; kept = kept_trans kept x.kept }

  -- after place i
  module _ (image : List ℕ) (base i : ℕ) (h : i < t.index.now.count) {w : Walked}
      (rest : walk image base (suc s.room - i) s.room i (listed t) ≡ w) where
    abbrev on : List Place → Walked
    on = walk image base (suc s.room - (i + 1)) s.room (i + 1)

    turned : grown on (handled image base t.room (listed t) (place_in t.places.now i)) ≡ w
    turned =
        ap (λ c. grown on (handled image base c (listed t) (place_in t.places.now i))) kept.room
        ∙ walk_turn image base s.room i t h (omega (arith, t.ready.within, kept.room)) ∙ rest

    pub walk_on : {u : Table} {a : Unit {0}} → Known (handled image base t.room (listed t) (place_in t.places.now i)) t (Ok a) u → on (listed u) ≡ w
    unfolding seen grown
    walk_on x = ap (grown on) x.reads ∙ turned

    pub walk_off : {u : Table} (e : Refused) → Known (handled image base t.room (listed t) (place_in t.places.now i)) t (Err e) u → Known w s (Err e) u
    walk_off e x = known_from (known_by turned (known_end on e x))

  -- after entry j
  module _ (l : List ℕ) (k j v : ℕ) (h : j < k) (ev : v ≡ number_at l (4 * j)) {w : Walked}
      (rest : grow s.room (listed t) (plains (drop j (numbers_of l k))) ≡ w) where
    abbrev more : List Place → Walked
    more = λ qs. grow s.room qs (plains (drop (j + 1) (numbers_of l k)))

    added : grown more (grow t.room (listed t) (plain v ∷ [])) ≡ w
    added = ap (λ c. grown more (grow c (listed t) (plain v ∷ []))) kept.room ∙ start_turn l k j v s.room (listed t) h ev ∙ rest

    pub start_on : {u : Table} {a : Unit {0}} → Grown t (plain v ∷ []) (Ok a) u → more (listed u) ≡ w
    unfolding seen grown
    start_on x = ap (grown more) x.reads ∙ added

    pub start_off : {u : Table} (e : Refused) → Grown t (plain v ∷ []) (Err e) u → Known w s (Err e) u
    start_off e x = known_from (known_by added (known_end more e x))

-- a table that lists no place
pub listed_none : (t : Table) → t.index.now.count ≡ 0 → listed t ≡ []
unfolding listed places_in up_to
listed_none t e = rw e

-- the places of a program: entries, then the walk
module _ (image : List ℕ) (base : ℕ) (es : List ℕ) {t : Table} (none : t.index.now.count ≡ 0) {u : Table} where
  pub places_off : (e : Refused) → Grown t (plains es) (Err e) u → Known (places_of image base t.room es) t (Err e) u
  unfolding places_of
  places_off e x =
      known_by (ap (λ ps. grown (walk image base (suc t.room) t.room 0) (grow t.room ps (plains es))) (listed_none t none))
      (known_end (walk image base (suc t.room) t.room 0) e x)

  pub places_on : {a : Unit {0}} {v : Table} {r : Result (Unit {0}) Refused} → Grown t (plains es) (Ok a) u
      → Known (walk image base (suc u.room) u.room 0 (listed u)) u r v → Known (places_of image base t.room es) t r v
  unfolding places_of
  places_on x y =
      known_by (ap (λ ps. grown (walk image base (suc t.room) t.room 0) (grow t.room ps (plains es))) (listed_none t none))
      (known_on (walk image base (suc t.room) t.room 0) x (known_by (ap (λ c. walk image base (suc c) c 0 (listed u)) x.kept.room) y))
