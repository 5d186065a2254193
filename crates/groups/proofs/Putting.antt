-- Laws of the records' numbers, and of their turns.
use Rattle.numbers.proofs.Number.{length_put}
use Rattle.numbers.proofs.Areas.{numbers_put}
use Rattle.numbers.specs.Number.{put_number, numbers_of}
use Rattle.model.specs.declared.Place.{Place}
use Rattle.groups.proofs.Laying.{next_place, no_place, needed_turn}
use Rattle.groups.specs.Layout.{needed, Pushed, Puts, HasRoom}
use lib.ListN.{length, drop}
use Rattle.std.proofs.lemmas.List.{length-append}
use Rattle.groups.specs.declared.records.Records.{Records}
use native.Mathlib.Omega.{arith}
use mathlib.Core.List.{List, [], ◌∷◌, ◌++◌, append-nil, append_assoc}
use mathlib.Core.Path.{◌≡◌, refl, sym, ap, ◌∙◌, fun_ext}
use Prim.Native.Nat.{ℕ, suc, ◌+◌, ◌*◌, ◌^◌, ◌≤◌, ◌<◌}
use Rattle.model.proofs.Groups.{put_length}
use Rattle.model.specs.Records.{Rec, do_word, link, hold, go_if, go_to, go_held, stop, unknown, Group, one, two, past, Grouping, numbered, put, records_from, record_numbers, records_numbers}
use Rattle.places.specs.Table.{place_in, places_in}

-- three numbers put in a row
pub record_put : (l : List ℕ) (at a b c : ℕ) → 12 * at + 12 ≤ length l → a < 2 ^ 32 → b < 2 ^ 32 → c < 2 ^ 32
    → numbers_of (put_number (put_number (put_number l (12 * at) a) (12 * at + 4) b) (12 * at + 8) c) (3 * at + 3)
    ≡ numbers_of l (3 * at) ++ (a ∷ b ∷ c ∷ [])
record_put l at a b c h ha hb hc =
    let n = 3 * at in
    let l1 = put_number l (4 * n) a in
    let l2 = put_number l1 (4 * (n + 1)) b in
    let k0 : 12 * at ≡ 4 * n = omega arith in
    let k1 : 12 * at + 4 ≡ 4 * (n + 1) = omega arith in
    let k2 : 12 * at + 8 ≡ 4 * (n + 1 + 1) = omega arith in
    let k3 : 3 * at + 3 ≡ n + 1 + 1 + 1 = omega arith in
    rw (
      k1,
      k2,
      k0,
      k3,
      numbers_put l2 (n + 1 + 1) c (simp length_put (omega arith)) hc,
      numbers_put l1 (n + 1) b (simp length_put (omega arith)) hb,
      numbers_put l n a (omega arith) ha,
    )
    (simp append_assoc)

-- the numbers of a record, before those of others
record_append : (r : Rec ℕ) (l : List ℕ) → record_numbers r l ≡ record_numbers r [] ++ l
unfolding record_numbers
record_append (do_word w) l = refl
record_append (link p) l = refl
record_append (hold w p) l = refl
record_append (go_if c r) l = refl
record_append (go_to r) l = refl
record_append go_held l = refl
record_append (stop e p) l = refl
record_append unknown l = refl

records_append : (rs ss : List (Rec ℕ)) → records_numbers (rs ++ ss) ≡ records_numbers rs ++ records_numbers ss
unfolding records_numbers
records_append [] ss = refl
records_append (r ∷ rs) ss =
    record_append r (records_numbers (rs ++ ss))
    ∙ rw (records_append rs ss, record_append r (records_numbers rs)) (sym (append_assoc (record_numbers r []) (records_numbers rs) (records_numbers ss)))

put_append : (f : Place → ℕ) (g : Group Place) (rest : List (Rec ℕ))
    → records_numbers (put f g rest) ≡ records_numbers (put f g []) ++ records_numbers rest
unfolding put records_numbers
put_append f (one r) rest = record_append (numbered f r) (records_numbers rest)
put_append f (two r s) rest =
    record_append (numbered f r) (record_numbers (numbered f s) (records_numbers rest))
    ∙ rw (record_append (numbered f s) (records_numbers rest), record_append (numbered f r) (record_numbers (numbered f s) [])) (simp append_assoc)

-- records put behind others
pub pushed_on : {l m n : Records} (xs ys : List (Rec ℕ)) → Pushed l xs m → Pushed m ys n → Pushed l (xs ++ ys) n
pushed_on {l} {m} {n} xs ys x y =
    record {
      reaches = omega (arith, x.reaches, y.reaches, length-append xs ys);
      numbers = y.numbers ∙ rw (x.numbers, append_assoc (numbers_of l.bytes.now (3 * l.count)) (records_numbers xs) (records_numbers ys), records_append xs ys);
      size = y.size ∙ x.size;
      lent = y.lent ∙ x.lent;
    }

-- a group put, of one record or of two
module _ (f : Place → ℕ) {g : Group Place} {l m : Records} where
  pub puts_one : {x : Rec Place} {u : Rec ℕ} → g ≡ one x → numbered f x ≡ u → Pushed l (u ∷ []) m → Puts f g l m
  unfolding put
  puts_one e d h = rw (e, d) h

  pub puts_two : {n : Records} {x y : Rec Place} {u v : Rec ℕ} → g ≡ two x y → numbered f x ≡ u → numbered f y ≡ v → Pushed l (u ∷ []) m
      → Pushed m (v ∷ []) n → Puts f g l n
  unfolding put
  puts_two {u = u} {v = v} e d c h i = rw (e, d, c) (pushed_on (u ∷ []) (v ∷ []) h i)

-- the room that a group takes
module _ (l : Records) {g : Group Place} where
  pub room_one : {x : Rec Place} → g ≡ one x → HasRoom g l → 12 * l.count + 12 ≤ length l.bytes.now
  unfolding past
  room_one e h = let k : 12 * suc l.count ≤ length l.bytes.now = rw e at h in omega (arith, k)

  module _ {x y : Rec Place} (e : g ≡ two x y) (h : HasRoom g l) where
    room_both : 12 * suc (suc l.count) ≤ length l.bytes.now
    unfolding past
    room_both = rw e at h

    pub room_first : 12 * l.count + 12 ≤ length l.bytes.now
    room_first = omega (arith, room_both)

    pub room_second : {m : Records} {u : Rec ℕ} → Pushed l (u ∷ []) m → 12 * m.count + 12 ≤ length m.bytes.now
    room_second p = omega (arith, room_both, p.reaches, p.size)

-- a turn over the places, and its end
module _ (lay : Grouping) (places : List ℕ) (count i : ℕ) (f : Place → ℕ) (l : Records) where
  abbrev left : ℕ → List Place
  left j = drop j (places_in places count)

  -- how far a group reaches
  pub past_put : {m : Records} (g : Group Place) → Puts f g l m → m.count ≡ past g l.count
  unfolding past put
  past_put (one r) h = omega (arith, h.reaches)
  past_put (two r s) h = omega (arith, h.reaches)

  pub put_turn : {all : ℕ} {R : List ℕ} (m : Records) → i < count
      → l.count + needed lay (left i) ≡ all
      → numbers_of l.bytes.now (3 * l.count) ++ records_numbers (records_from lay f (left i)) ≡ R
      → Puts f (lay (place_in places i) (left (i + 1))) l m
      → (m.count + needed lay (left (i + 1)) ≡ all)
      × (numbers_of m.bytes.now (3 * m.count) ++ records_numbers (records_from lay f (left (i + 1))) ≡ R)
  unfolding records_from
  put_turn {all} {R} m h ea er y =
      let g = lay (place_in places i) (left (i + 1)) in
      let c = next_place places count i refl h in
      let t : records_numbers (records_from lay f (left i)) ≡ records_numbers (put f g []) ++ records_numbers (records_from lay f (left (i + 1))) =
      rw c (put_append f g (records_from lay f (left (i + 1)))) in
      (rw (past_put g y) (needed_turn lay c refl l.count all ea), rw (y.numbers, append_assoc) (rw t at er))

  pub put_end : {all : ℕ} → count ≤ i → l.count + needed lay (left i) ≡ all
      → numbers_of l.bytes.now (3 * l.count) ++ records_numbers (records_from lay f (left i)) ≡ records_numbers (records_from lay f (places_in places count))
      → numbers_of l.bytes.now (3 * all) ≡ records_numbers (records_from lay f (places_in places count))
  unfolding records_from records_numbers needed
  put_end {all} k ea er =
      let d : left i ≡ [] = no_place places count i k in
      let e : all ≡ l.count = omega (arith, rw d at ea) in
      rw e (sym (append-nil (numbers_of l.bytes.now (3 * l.count))) ∙ (rw d at er))

-- the records depend on the first record of each place, and are as many as are needed
module _ (lay : Grouping) where
  pub records_same : {f h : Place → ℕ} (ps : List Place) → ((x : Place) → f x ≡ h x) → records_from lay f ps ≡ records_from lay h ps
  records_same ps e = ap (λ (k : Place → ℕ). records_from lay k ps) (fun_ext e)

  pub records_length : (f : Place → ℕ) (ps : List Place) → length (records_from lay f ps) ≡ needed lay ps
  unfolding records_from needed
  records_length f [] = refl
  records_length f (y ∷ ys) = put_length f (lay y ys) (records_from lay f ys) ∙ rw (records_length f ys)
