-- Where the layout puts the group of each place: nothing is asked of the list but that the place is in it.
use Prim.Native.Nat.{ℕ, suc, ◌+◌, ◌*◌, ◌≤◌, ◌<◌}
use native.Mathlib.Omega.{arith}
use mathlib.Core.Path.{◌≡◌, refl, ap, subst}
use mathlib.Core.Bool.{Bool, true, false, ◌&&◌, and-false}
use mathlib.Core.List.{List, [], ◌∷◌}
use mathlib.Core.Option.{none, some}
use lib.Dec.{eqb}
use lib.ListN.{get_elem?, length}
use borrow.Author.Tests.{eqb-true, eq-eqb, ne_eqb}
use Rattle.numbers.specs.Choice.{pick}
use Rattle.numbers.specs.Number.{plus}
use Rattle.model.specs.declared.Place.{Place}
use Rattle.model.specs.declared.Place.TheVariants.{Pair, Held}
use Rattle.model.specs.Places.{plain, place_at, kind_of, same_place, member}
use Rattle.model.specs.Records.{Rec, Group, one, two, Grouping, past, numbered, put, first, rows_from, records_from}
use Rattle.model.specs.NewCore.{seek}
use Rattle.model.specs.Cores.{naming}
use Rattle.model.proofs.Members.{same_eq, mem_cases, not_mem, no_member}

-- a group at record f of a list
abbrev pub Stands : (Place → ℕ) → List (Rec ℕ) → ℕ → Group Place → Type 0
Stands φ rs f (one r) = get_elem? rs f ≡ some (numbered φ r)
Stands φ rs f (two r s) = (get_elem? rs f ≡ some (numbered φ r)) × (get_elem? rs (suc f) ≡ some (numbered φ s))

-- ---------------------------------------------------------------- groups
stands_here : (φ : Place → ℕ) (g : Group Place) (rest : List (Rec ℕ)) → Stands φ (put φ g rest) 0 g
unfolding put
stands_here φ (one r) rest = refl
stands_here φ (two r s) rest = (refl, refl)

stands_on : (φ : Place → ℕ) (g x : Group Place) (rest : List (Rec ℕ)) (f : ℕ) → Stands φ rest f x → Stands φ (put φ g rest) (past g f) x
unfolding put past
stands_on φ (one r) (one a) rest f h = h
stands_on φ (one r) (two a b) rest f h = h
stands_on φ (two r s) (one a) rest f h = h
stands_on φ (two r s) (two a b) rest f h = h

pub put_length : (φ : Place → ℕ) (g : Group Place) (rest : List (Rec ℕ)) → length (put φ g rest) ≡ past g (length rest)
unfolding put past
put_length φ (one r) rest = refl
put_length φ (two r s) rest = refl

beyond : (g : Group Place) (f : ℕ) → f < past g f
unfolding past
beyond (one r) f = omega arith
beyond (two r s) f = omega arith

pub past_add : (g : Group Place) (f n : ℕ) → past g f + n ≡ f + past g n
unfolding past
past_add (one r) f n = omega arith
past_add (two r s) f n = omega arith

pub past_le : (g : Group Place) (n : ℕ) → past g n ≤ n + 2
unfolding past
past_le (one r) n = omega arith
past_le (two r s) n = omega arith

-- ---------------------------------------------------------------- rows
-- a row is found by its address exactly where its place is the plain one there
kind_test : (v : Bool) → eqb (pick v 0 1) 0 && true ≡ true && v
kind_test true = refl
kind_test false = refl

row_test : (y : Place) (a : ℕ) → eqb (kind_of y) 0 && eqb (place_at y) a ≡ same_place y (plain a)
unfolding kind_of place_at same_place
row_test (Pair p n) a = go (eqb p a) (eqb n (plus p 4)) refl refl
  where
    go : (u v : Bool) → eqb p a ≡ u → eqb n (plus p 4) ≡ v → eqb (pick v 0 1) 0 && eqb p a ≡ eqb p a && eqb n (plus a 4)
    go true v i j = let e : p ≡ a = eqb-true p a i in rw (i, ← e, j) (kind_test v)
    go false v i j = rw i (and-false (eqb (pick v 0 1) 0))
row_test (Held p) a = refl

-- the places after x in a list
unfoldable pub behind : List Place → Place → List Place
behind [] x = []
behind (y ∷ ys) x = pick (same_place y x) ys (behind ys x)

module _ (lay : Grouping) where
  -- the records of a place stand at its first record
  pub stands : (φ : Place → ℕ) (ps : List Place) (x : Place) → member ps x ≡ true
      → Stands φ (records_from lay φ ps) (first lay ps x) (lay x (behind ps x))
  unfolding records_from first behind
  stands φ [] x h = no_member x h
  stands φ (y ∷ ys) x h =
      mem_cases y ys x h
      (λ e. rw e (subst (λ (z : Place). Stands φ (put φ (lay y ys) (records_from lay φ ys)) 0 (lay z ys)) (same_eq y x e)
      (stands_here φ (lay y ys) (records_from lay φ ys))))
      (λ e i. rw e (stands_on φ (lay y ys) (lay x (behind ys x)) (records_from lay φ ys) (first lay ys x) (stands φ ys x i)))

  -- -------------------------------------------------------------- the rows name each first record, and no second
  below : (ps : List Place) (f r : ℕ) → r < f → naming (rows_from lay f ps) r ≡ none
  unfolding rows_from naming
  below [] f r h = refl
  below (y ∷ ys) f r h =
      rw (ne_eqb f r (λ e. omega arith)) (below ys (past (lay y ys) f) r (omega (arith, beyond (lay y ys) f)))

  pub named : (ps : List Place) (f : ℕ) (x : Place) → member ps x ≡ true
      → naming (rows_from lay f ps) (f + first lay ps x) ≡ some (place_at x)
  unfolding rows_from naming first
  named [] f x h = no_member x h
  named (y ∷ ys) f x h =
      mem_cases y ys x h (λ e. rw (e, eq-eqb f (f + 0) (omega arith)) (ap (λ (z : Place). some (place_at z)) (same_eq y x e)))
      (λ e i. let g = lay y ys in let n = first lay ys x in
      rw (e, ne_eqb f (f + past g n) (λ q. omega (arith, beyond g n)), ← past_add g f n) (named ys (past g f) x i))

  -- no row names the second record of a group that starts at record f + n, the rows being counted from f
  abbrev pub Second : ℕ → ℕ → Group Place → List Place → Type 0
  Second f n (one r) ps = Unit {0}
  Second f n (two r s) ps = naming (rows_from lay f ps) (suc (f + n)) ≡ none

  second_here : (g : Group Place) (y : Place) (ys : List Place) (f : ℕ) → lay y ys ≡ g → Second f 0 g (y ∷ ys)
  unfolding rows_from naming past
  second_here (one r) y ys f e = tt
  second_here (two r s) y ys f e = rw (ne_eqb f (suc (f + 0)) (λ q. omega arith), e) (below ys (suc (suc f)) (suc (f + 0)) (omega arith))

  second_on : (g : Group Place) (y : Place) (ys : List Place) (f n : ℕ) → Second (past (lay y ys) f) n g ys
      → Second f (past (lay y ys) n) g (y ∷ ys)
  unfolding rows_from naming
  second_on (one r) y ys f n h = tt
  second_on (two r s) y ys f n h =
      rw (ne_eqb f (suc (f + past (lay y ys) n)) (λ q. omega arith), ← past_add (lay y ys) f n) h

  pub unnamed : (ps : List Place) (f : ℕ) (x : Place) → member ps x ≡ true → Second f (first lay ps x) (lay x (behind ps x)) ps
  unfolding first behind
  unnamed [] f x h = no_member x h
  unnamed (y ∷ ys) f x h =
      mem_cases y ys x h
      (λ e. rw e (subst (λ (z : Place). Second f 0 (lay z ys) (y ∷ ys)) (same_eq y x e) (second_here (lay y ys) y ys f refl)))
      (λ e i. rw e (second_on (lay x (behind ys x)) y ys f (first lay ys x) (unnamed ys (past (lay y ys) f) x i)))

  -- -------------------------------------------------------------- kind 6 finds the plain place where there is one
  pub sought : (ps : List Place) (f a : ℕ) → member ps (plain a) ≡ true → seek (rows_from lay f ps) a ≡ some (f + first lay ps (plain a))
  unfolding rows_from seek first
  sought [] f a h = no_member (plain a) h
  sought (y ∷ ys) f a h =
      mem_cases y ys (plain a) h (λ e. rw (row_test y a, e) (ap some (omega arith)))
      (λ e i. rw (row_test y a, e, ← past_add (lay y ys) f (first lay ys (plain a))) (sought ys (past (lay y ys) f) a i))

  pub not_sought : (ps : List Place) (f a : ℕ) → member ps (plain a) ≡ false → seek (rows_from lay f ps) a ≡ none
  unfolding rows_from seek
  not_sought [] f a h = refl
  not_sought (y ∷ ys) f a h =
      let t = not_mem y ys (plain a) h in
      rw (row_test y a, t.0) (not_sought ys (past (lay y ys) f) a t.1)

  -- -------------------------------------------------------------- how far the records reach
  pub first_le : (ps : List Place) (x : Place) → first lay ps x ≤ 2 * length ps
  unfolding first
  first_le [] x = omega arith
  first_le (y ∷ ys) x = go (same_place y x) (first_le ys x)
    where
      go : (b : Bool) → first lay ys x ≤ 2 * length ys → pick b 0 (past (lay y ys) (first lay ys x)) ≤ 2 * suc (length ys)
      go true h = omega arith
      go false h = omega (arith, past_le (lay y ys) (first lay ys x))
