-- Laws of choice by a test and by a key.
use Rattle.std.proofs.Common.{◌≡◌, ℕ, Bool, true, false, ◌&&◌, eqb, List, [], ◌∷◌, ◌++◌, sym, refl, append-nil, ne_eqb, eqb-true}
use mathlib.Core.Bool.{false≢true}
use Rattle.numbers.specs.Choice.{pick, find}

-- one of two by a test, from what the test says
pub by_test : {A : Type 0} (t : Bool) (r a b : A) → (t ≡ true → r ≡ a) → (t ≡ false → r ≡ b) → r ≡ pick t a b
by_test true r a b f g = f refl
by_test false r a b f g = g refl

-- of two tests that pass, each does
pub both : (a b : Bool) → a && b ≡ true → (a ≡ true) × (b ≡ true)
both true b e = (refl, e)
both false b e = absurd (false≢true e)

-- tests that pass together are one
pub same_test : (s t : Bool) → (s ≡ true → t ≡ true) → (t ≡ true → s ≡ true) → s ≡ t
same_test true t f g = sym (f refl)
same_test false true f g = g refl
same_test false false f g = refl

-- what holds of both values holds of the one that is picked
pub either : {A : Type 0} (P : A → Type 0) (t : Bool) (a b : A) → P a → P b → P (pick t a b)
either P true a b p q = p
either P false a b p q = q

-- what a match on k knows in its last arm: U, and that k is no row's key
abbrev pub Misses : {A : Type 0} → Type 0 → List (ℕ × A) → ℕ → Type 0
Misses U [] k = U
Misses U (row ∷ rows) k = Misses (U × (k ≡ row.0 → ⊥)) rows k

missed : {A : Type 0} (U : Type 0) (rows more : List (ℕ × A)) (d : A) (k : ℕ) → Misses U rows k → U × (find (rows ++ more) d k ≡ find more d k)
missed U [] more d k m = (m, refl)
missed U (row ∷ rows) more d k m =
    let t = missed (U × (k ≡ row.0 → ⊥)) rows more d k m in
    (t.0.0, rw (ne_eqb k row.0 t.0.1) t.1)

-- the rows behind them are left
pub find_behind : {A : Type 0} (rows more : List (ℕ × A)) (d : A) (k : ℕ) → Misses (Unit {0}) rows k → find (rows ++ more) d k ≡ find more d k
find_behind rows more d k m = (missed (Unit {0}) rows more d k m).1

pub find_none : {A : Type 0} (rows : List (ℕ × A)) (d : A) (k : ℕ) → Misses (Unit {0}) rows k → find rows d k ≡ d
find_none rows d k m = rw (append-nil rows) at (find_behind rows [] d k m)

-- a test that passes for every row's key and value, and for the other value, passes for the key and what is found
abbrev pub every : {A : Type 0} → (ℕ → A → Bool) → List (ℕ × A) → Bool
every test [] = true
every test (row ∷ rows) = pick (test row.0 row.1) (every test rows) false

pub found_passes : {A : Type 0} (test : ℕ → A → Bool) (rows : List (ℕ × A)) (d : A) (k : ℕ) → every test rows ≡ true → test k d ≡ true
    → test k (find rows d k) ≡ true
found_passes test [] d k h p = p
found_passes test (row ∷ rows) d k h p =
    let t = split (test row.0 row.1) (every test rows) h in
    go (eqb k row.0) refl t.0 (found_passes test rows d k t.1 p)
  where
    split : (a b : Bool) → pick a b false ≡ true → (a ≡ true) × (b ≡ true)
    split true b e = (refl, e)
    split false b e = absurd (false≢true e)

    go : (b : Bool) → eqb k row.0 ≡ b → test row.0 row.1 ≡ true → test k (find rows d k) ≡ true → test k (pick b row.1 (find rows d k)) ≡ true
    go true e here rest = rw (eqb-true k row.0 e) here
    go false e here rest = rest

-- the same of what is a type and no test
abbrev pub Every : {A : Type 0} → (ℕ → A → Type 0) → List (ℕ × A) → Type 0
Every P [] = Unit {0}
Every P (row ∷ rows) = P row.0 row.1 × Every P rows

pub found_all : {A : Type 0} (P : ℕ → A → Type 0) (rows : List (ℕ × A)) (d : A) (k : ℕ) → Every P rows → P k d → P k (find rows d k)
found_all P [] d k h p = p
found_all P (row ∷ rows) d k h p = go (eqb k row.0) refl h.0 (found_all P rows d k h.1 p)
  where
    go : (b : Bool) → eqb k row.0 ≡ b → P row.0 row.1 → P k (find rows d k) → P k (pick b row.1 (find rows d k))
    go true e here rest = rw (eqb-true k row.0 e) here
    go false e here rest = rest
