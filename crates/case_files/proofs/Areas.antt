-- Laws of areas of bytes: one copied over another, and one that holds known bytes and one byte alone past them.
use lib.Seq.{length-take-le, take_all, take-length, drop-length}
use lib.ListN.{length, take, drop, replicate, length-replicate, drop_of_length-le}
use lib.Dec.{leb, eqb}
use borrow.Author.Tests.{leb-true, leb-false}
use native.Mathlib.Numerals.{unary_clauses}
use native.Mathlib.Nat.{sub-zero, min-eq_left, min-eq_right}
use native.Mathlib.Omega.{arith}
use mathlib.Core.Bool.{Bool, true, false, ◌&&◌, and_assoc}
use mathlib.Core.List.{List, [], ◌∷◌, ◌++◌}
use mathlib.Core.Path.{◌≡◌, refl, sym, ap, ◌∙◌}
use Rattle.case_files.specs.Files.{copied, same_bytes, holding}
use Rattle.std.specs.Cmp.Lexicographic.{pointwise}
use Rattle.std.specs.List.{list_all}
use Prim.Native.Nat.{ℕ, zero, suc, ◌≤◌, min}

-- `same_bytes` is what `==` tests
same_pointwise : (a b : List ℕ) → pointwise eqb a b ≡ same_bytes a b
unfolding same_bytes
same_pointwise [] [] = refl
same_pointwise [] (y ∷ ys) = refl
same_pointwise (x ∷ xs) [] = refl
same_pointwise (x ∷ xs) (y ∷ ys) = ap (λ b. eqb x y && b) (same_pointwise xs ys)

pub is_same : (r : Bool) (a b : List ℕ) → r ≡ pointwise eqb a b → r ≡ same_bytes a b
is_same r a b h = h ∙ same_pointwise a b

-- the start of an area of one byte alone, as long as is asked for and there is
pub filled_start : (x n m : ℕ) → n ≤ m → take n (replicate m x) ≡ replicate n x
filled_start x zero m h = refl
filled_start x (suc n) zero h = absurd (omega arith)
filled_start x (suc n) (suc m) h = ap (λ (l : List ℕ). x ∷ l) (filled_start x n m (omega arith))

pub start_length : (k size x : ℕ) {n : ℕ} {l : List ℕ} → l ≡ replicate size x → n ≡ min k size → n ≡ length (take n l)
start_length k size x {n} {l} e h =
    let s : length l ≡ size = ap length e ∙ length-replicate size x in
    sym (length-take-le n l (omega (arith, h)))

-- as many as both have are copied
copied_by : (i : ℕ) (s l : List ℕ) (t : Bool) → leb (length l) (length s) ≡ t → i ≤ length s → i ≤ length l → min (length l) (length s) ≤ i
    → take i s ++ drop i l ≡ take (length l) s ++ drop (length s) l
copied_by i s l true e h k m =
    let n : length l ≤ length s = leb-true (length l) (length s) e in
    let o : length l ≤ i = rw (← min-eq_left n) m in
    let j : i ≡ length l = omega arith in
    rw (j, drop-length l, drop_of_length-le l {i = length s} n)
copied_by i s l false e h k m =
    let n : length s ≤ length l = omega (arith, leb-false (length l) (length s) e) in
    let o : length s ≤ i = rw (← min-eq_right n) m in
    let j : i ≡ length s = omega arith in
    rw (j, take-length s, take_all (length l) s n)

pub copied_done : (i m : ℕ) (s l : List ℕ) → m ≡ min (length l) (length s) → i ≤ length s → i ≤ length l → m ≤ i
    → take i s ++ drop i l ≡ copied l s
unfolding copied
copied_done i m s l e h k n = copied_by i s l (leb (length l) (length s)) refl h k (rw (← e) n)

-- an area of one byte alone
all_past : (area : List ℕ) (p : ℕ) → list_all (λ x. eqb x p) area ≡ same_bytes area (replicate (length area) p)
unfolding same_bytes
all_past [] p = refl
all_past (x ∷ xs) p = ap (λ b. eqb x p && b) (all_past xs p)

-- an area that starts with known bytes, and the rest
pub starts_held : (known area : List ℕ) (p : ℕ)
    → (pointwise eqb (take (length known) area) known && list_all (λ x. eqb x p) (drop (length known) area)) ≡ holding area known p
unfolding holding same_bytes
starts_held [] area p = rw sub-zero (all_past area p)
starts_held (k ∷ ks) [] p = refl
starts_held (k ∷ ks) (x ∷ xs) p =
    let e : (pointwise eqb (take (length ks) xs) ks && list_all (λ x. eqb x p) (drop (length ks) xs)) ≡ holding xs ks p = starts_held ks xs p in
    simp (unary_clauses, and_assoc) (ap (λ b. eqb x k && b) e)

pub held_rest : (known area rest : List ℕ) (p : ℕ) → pointwise eqb (take (length known) area) known ≡ true → rest ≡ drop (length known) area
    → list_all (λ x. eqb x p) rest ≡ holding area known p
held_rest known area rest p h r = rw r (rw h at (starts_held known area p))

pub held_other : (known area : List ℕ) (p : ℕ) → pointwise eqb (take (length known) area) known ≡ false → false ≡ holding area known p
held_other known area p h = rw h at (starts_held known area p)
