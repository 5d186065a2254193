-- Lists of places: the same place, membership, what holds of every place, no place twice.
use Prim.Native.Nat.{ℕ, zero, suc}
use mathlib.Core.Path.{◌≡◌, refl, sym, ap, ◌∙◌, subst}
use mathlib.Core.Bool.{Bool, true, false, ◌&&◌, false≢true}
use mathlib.Core.List.{List, [], ◌∷◌, ◌++◌}
use mathlib.Core.Option.{some}
use native.Mathlib.Omega.{arith}
use lib.Dec.{eqb}
use lib.ListN.{get_elem?}
use borrow.Author.Tests.{eqb-true, eq-eqb}
use Rattle.numbers.specs.Choice.{pick}
use Rattle.model.specs.declared.Place.{Place}
use Rattle.model.specs.declared.Place.TheVariants.{Pair, Held}
use Rattle.model.specs.Places.{same_place, member}

-- ---------------------------------------------------------------- the same place
pub same_self : (x : Place) → same_place x x ≡ true
unfolding same_place
same_self (Pair p n) = rw (eq-eqb p p refl, eq-eqb n n refl)
same_self (Held p) = eq-eqb p p refl

pub same_eq : (x y : Place) → same_place x y ≡ true → x ≡ y
unfolding same_place
same_eq (Pair p n) (Pair q o) e = go (eqb p q) (eqb n o) refl refl e
  where
    go : (a b : Bool) → eqb p q ≡ a → eqb n o ≡ b → a && b ≡ true → Pair p n ≡ Pair q o
    go true true i j k = let u : p ≡ q = eqb-true p q i in let v : n ≡ o = eqb-true n o j in cc
    go true false i j k = absurd (false≢true k)
    go false b i j k = absurd (false≢true k)
same_eq (Pair p n) (Held q) e = absurd (false≢true e)
same_eq (Held p) (Pair q o) e = absurd (false≢true e)
same_eq (Held p) (Held q) e = let u : p ≡ q = eqb-true p q e in cc

-- ---------------------------------------------------------------- membership
pub mem_here : (y : Place) (ys : List Place) → member (y ∷ ys) y ≡ true
unfolding member
mem_here y ys = rw (same_self y)

pub mem_there : (y : Place) (ys : List Place) (x : Place) → member ys x ≡ true → member (y ∷ ys) x ≡ true
unfolding member
mem_there y ys x h = go (same_place y x)
  where
    go : (b : Bool) → pick b true (member ys x) ≡ true
    go true = refl
    go false = h

-- in a list, a place is the first of it or in the rest
pub mem_cases : {P : Type 0} (y : Place) (ys : List Place) (x : Place) → member (y ∷ ys) x ≡ true → (same_place y x ≡ true → P) → (same_place y x ≡ false → member ys x ≡ true → P) → P
unfolding member
mem_cases {P = P} y ys x h here there = go (same_place y x) refl h
  where
    go : (b : Bool) → same_place y x ≡ b → pick b true (member ys x) ≡ true → P
    go true e i = here e
    go false e i = there e i

pub not_mem : (y : Place) (ys : List Place) (x : Place) → member (y ∷ ys) x ≡ false → (same_place y x ≡ false) × (member ys x ≡ false)
unfolding member
not_mem y ys x h = go (same_place y x) refl h
  where
    go : (b : Bool) → same_place y x ≡ b → pick b true (member ys x) ≡ false → (same_place y x ≡ false) × (member ys x ≡ false)
    go true e i = absurd (false≢true (sym i))
    go false e i = (e, i)

pub no_member : {A : Type 0} (x : Place) → member [] x ≡ true → A
unfolding member
no_member x h = absurd (false≢true h)

pub mem_left : (ps qs : List Place) (x : Place) → member ps x ≡ true → member (ps ++ qs) x ≡ true
mem_left [] qs x h = no_member x h
mem_left (y ∷ ys) qs x h =
    mem_cases y ys x h (λ e. subst (λ (z : Place). member (y ∷ ys ++ qs) z ≡ true) (same_eq y x e) (mem_here y (ys ++ qs)))
    (λ e i. mem_there y (ys ++ qs) x (mem_left ys qs x i))

pub mem_last : (ps : List Place) (x : Place) → member (ps ++ (x ∷ [])) x ≡ true
mem_last [] x = mem_here x []
mem_last (y ∷ ys) x = mem_there y (ys ++ (x ∷ [])) x (mem_last ys x)

-- every place of a list is in another
abbrev pub AllIn : List Place → List Place → Type 0
AllIn ps [] = Unit {0}
AllIn ps (x ∷ xs) = (member ps x ≡ true) × AllIn ps xs

pub all_in_left : (ps qs fs : List Place) → AllIn ps fs → AllIn (ps ++ qs) fs
all_in_left ps qs [] h = tt
all_in_left ps qs (x ∷ xs) h = (mem_left ps qs x h.0, all_in_left ps qs xs h.1)

pub in_all : (ps fs : List Place) → AllIn ps fs → (x : Place) → member fs x ≡ true → member ps x ≡ true
in_all ps [] a x h = no_member x h
in_all ps (y ∷ ys) a x h =
    mem_cases y ys x h (λ e. subst (λ (z : Place). member ps z ≡ true) (same_eq y x e) a.0) (λ e i. in_all ps ys a.1 x i)

-- ---------------------------------------------------------------- what holds of every place
abbrev pub AllP : (Place → Type 0) → List Place → Type 0
AllP P [] = Unit {0}
AllP P (x ∷ xs) = P x × AllP P xs

pub all_append : (P : Place → Type 0) (xs ys : List Place) → AllP P xs → AllP P ys → AllP P (xs ++ ys)
all_append P [] ys a b = b
all_append P (x ∷ xs) ys a b = (a.0, all_append P xs ys a.1 b)

pub all_at : (P : Place → Type 0) (xs : List Place) → AllP P xs → (x : Place) → member xs x ≡ true → P x
all_at P [] a x h = no_member x h
all_at P (y ∷ ys) a x h = mem_cases y ys x h (λ e. subst P (same_eq y x e) a.0) (λ e i. all_at P ys a.1 x i)

pub all_from : (P : Place → Type 0) (xs : List Place) → ((x : Place) → member xs x ≡ true → P x) → AllP P xs
all_from P [] h = tt
all_from P (y ∷ ys) h = (h y (mem_here y ys), all_from P ys (λ x i. h x (mem_there y ys x i)))

pub all_map : (P Q : Place → Type 0) → ((x : Place) → P x → Q x) → (xs : List Place) → AllP P xs → AllP Q xs
all_map P Q f [] a = tt
all_map P Q f (x ∷ xs) a = (f x a.0, all_map P Q f xs a.1)

pub all_get : (P : Place → Type 0) (xs : List Place) (i : ℕ) (x : Place) → AllP P xs → get_elem? xs i ≡ some x → P x
all_get P [] i x a e = let z : ◌≡◌ {A = ℕ} 0 1 = cc in absurd (omega arith)
all_get P (y ∷ ys) zero x a e = let z : y ≡ x = cc in subst P z a.0
all_get P (y ∷ ys) (suc i) x a e = all_get P ys i x a.1 e

pub get_mem : (xs : List Place) (i : ℕ) (x : Place) → get_elem? xs i ≡ some x → member xs x ≡ true
get_mem xs i x e = all_get (λ y. member xs y ≡ true) xs i x (all_from (λ y. member xs y ≡ true) xs (λ y h. h)) e

pub mem_get : (xs : List Place) (x : Place) → member xs x ≡ true → (i : ℕ) × (get_elem? xs i ≡ some x)
mem_get [] x h = no_member x h
mem_get (y ∷ ys) x h = mem_cases y ys x h (λ e. (0, ap some (same_eq y x e))) (λ e i. let r = mem_get ys x i in (suc r.0, r.1))

-- ---------------------------------------------------------------- no place twice
abbrev pub NoTwice : List Place → Type 0
NoTwice [] = Unit {0}
NoTwice (x ∷ xs) = (member xs x ≡ false) × NoTwice xs

other_way : (x y : Place) → same_place x y ≡ false → same_place y x ≡ false
other_way x y e = go (same_place y x) refl
  where
    go : (b : Bool) → same_place y x ≡ b → b ≡ false
    go true i = absurd (false≢true (sym e ∙ subst (λ (z : Place). same_place z y ≡ true) (same_eq y x i) (same_self y)))
    go false i = refl

not_last : (ys : List Place) (x y : Place) → member ys y ≡ false → same_place x y ≡ false → member (ys ++ (x ∷ [])) y ≡ false
unfolding member
not_last [] x y h e = rw e
not_last (z ∷ zs) x y h e = let t = not_mem z zs y h in rw t.0 (not_last zs x y t.1 e)

-- one that was not in the list is added behind it
pub no_twice_last : (ps : List Place) (x : Place) → NoTwice ps → member ps x ≡ false → NoTwice (ps ++ (x ∷ []))
unfolding member
no_twice_last [] x n h = (refl, tt)
no_twice_last (y ∷ ys) x n h =
    let t = not_mem y ys x h in
    (not_last ys x y n.0 (other_way y x t.0), no_twice_last ys x n.1 t.1)

pub no_twice_at : (ps : List Place) → NoTwice ps → (x : Place) (i j : ℕ) → get_elem? ps i ≡ some x → get_elem? ps j ≡ some x → i ≡ j
no_twice_at [] n x i j e f = let z : ◌≡◌ {A = ℕ} 0 1 = cc in absurd (omega arith)
no_twice_at (y ∷ ys) n x zero zero e f = refl
no_twice_at (y ∷ ys) n x zero (suc j) e f = let z : y ≡ x = cc in absurd (false≢true (sym n.0 ∙ rw z (get_mem ys j x f)))
no_twice_at (y ∷ ys) n x (suc i) zero e f = let z : y ≡ x = cc in absurd (false≢true (sym n.0 ∙ rw z (get_mem ys i x e)))
no_twice_at (y ∷ ys) n x (suc i) (suc j) e f = ap suc (no_twice_at ys n.1 x i j e f)
