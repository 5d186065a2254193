-- The law that ties the table of conditions to V8's formulas.
use Prim.Native.Nat.{ℕ, zero, suc, ◌+◌, ◌*◌, ◌<◌, ◌/◌, ◌%◌}
use native.Mathlib.Nat.{zero-div}
use mathlib.Core.Path.{◌≡◌, refl, sym, ap, ◌∙◌}
use mathlib.Core.Bool.{Bool, true, false, not}
use mathlib.Core.List.{List, [], ◌∷◌}
use lib.Dec.{T, eqb}
use native.Mathlib.Omega.{arith}
use lib.ListN.{get_or}
use Rattle.std.specs.Int.{from_bool}
use Rattle.words.specs.Conditions.{rows, bit_at, holds_of, bit_of, nzvc_of, Formula, never, formulas}

-- one test over both tables
abbrev both : Bool → Bool → Bool
both true b = b
both false b = false

left : (a b : Bool) → T (both a b) → T a
left true b t = tt
left false b t = t

right : (a b : Bool) → T (both a b) → T b
right true b t = t
right false b t = absurd t

abbrev each : (Bool → Bool) → Bool
each p = both (p true) (p false)

at : (p : Bool → Bool) → T (each p) → (b : Bool) → T (p b)
at p t true = left (p true) (p false) t
at p t false = right (p true) (p false) t

abbrev same : Bool → Bool → Bool
same true b = b
same false b = not b

same_eq : (a b : Bool) → T (same a b) → a ≡ b
same_eq true true t = refl
same_eq true false t = absurd t
same_eq false true t = absurd t
same_eq false false t = refl

abbrev row_right : ℕ → Formula → Bool
row_right row f = each (λ n. each (λ z. each (λ v. each (λ c. same (bit_at row (nzvc_of n z v c % 16)) (f n z v c)))))

abbrev all_right : List ℕ → List Formula → Bool
all_right [] [] = true
all_right [] (f ∷ fs) = false
all_right (row ∷ rs) [] = false
all_right (row ∷ rs) (f ∷ fs) = both (row_right row f) (all_right rs fs)

row_at : (row : ℕ) (f : Formula) → T (row_right row f) → (n z v c : Bool) → bit_at row (nzvc_of n z v c % 16) ≡ f n z v c
row_at row f t n z v c =
    same_eq (bit_at row (nzvc_of n z v c % 16)) (f n z v c)
    (at (λ c. same (bit_at row (nzvc_of n z v c % 16)) (f n z v c))
    (at (λ v. each (λ c. same (bit_at row (nzvc_of n z v c % 16)) (f n z v c)))
    (at (λ z. each (λ v. each (λ c. same (bit_at row (nzvc_of n z v c % 16)) (f n z v c))))
    (at (λ n. each (λ z. each (λ v. each (λ c. same (bit_at row (nzvc_of n z v c % 16)) (f n z v c))))) t n)
    z)
    v)
    c)

pub zero_row : (n : ℕ) → bit_at 0 n ≡ false
unfolding bit_at
zero_row n = rw zero-div

at_row : (rs : List ℕ) (fs : List Formula) → T (all_right rs fs) → (k : ℕ) (n z v c : Bool) → bit_at (get_or rs k 0) (nzvc_of n z v c % 16) ≡ get_or fs k never n z v c
at_row [] [] t k n z v c = zero_row (nzvc_of n z v c % 16)
at_row [] (f ∷ fs) t k n z v c = absurd t
at_row (row ∷ rs) [] t k n z v c = absurd t
at_row (row ∷ rs) (f ∷ fs) t zero n z v c = row_at row f (left (row_right row f) (all_right rs fs) t) n z v c
at_row (row ∷ rs) (f ∷ fs) t (suc k) n z v c = at_row rs fs (right (row_right row f) (all_right rs fs) t) k n z v c

-- the whole table is V8's: a condition holds of N, Z, V and C exactly where its formula says so
pub conditions_right : (cond : ℕ) (n z v c : Bool) → holds_of cond (nzvc_of n z v c) ≡ get_or formulas cond never n z v c
unfolding holds_of rows bit_at nzvc_of bit_of
conditions_right cond n z v c = at_row rows formulas tt cond n z v c

-- the same of any flags number, by its four low bits
abbrev flag : ℕ → ℕ → Bool
flag nzvc weight = eqb (nzvc / weight % 2) 1

bit_back : (y : ℕ) → y < 2 → bit_of (eqb y 1) ≡ y
unfolding bit_of
bit_back zero h = refl
bit_back (suc zero) h = refl
bit_back (suc (suc y)) h = absurd (omega arith)

halves : (x : ℕ) → x % 16 ≡ x / 2 / 2 / 2 % 2 * 8 + x / 2 / 2 % 2 * 4 + x / 2 % 2 * 2 + x / 1 % 2
halves x = omega arith

below_16 : (s n : ℕ) → s ≡ n % 16 → s % 16 ≡ n % 16
below_16 s n e = omega arith

quarter : (x : ℕ) → x / 4 ≡ x / 2 / 2
quarter x = omega arith

eighth : (x : ℕ) → x / 8 ≡ x / 2 / 2 / 2
eighth x = omega arith

nzvc_back : (x : ℕ) → nzvc_of (flag x 8) (flag x 4) (flag x 2) (flag x 1) % 16 ≡ x % 16
unfolding nzvc_of
nzvc_back x =
    let n = bit_back (x / 8 % 2) (omega arith) in
    let z = bit_back (x / 4 % 2) (omega arith) in
    let v = bit_back (x / 2 % 2) (omega arith) in
    let c = bit_back (x / 1 % 2) (omega arith) in
    rw (n, z, v, c, quarter x, eighth x) (below_16 _ x (sym (halves x)))

low_four : (cond nzvc : ℕ) → holds_of cond nzvc ≡ holds_of cond (nzvc_of (flag nzvc 8) (flag nzvc 4) (flag nzvc 2) (flag nzvc 1))
unfolding holds_of
low_four cond nzvc = ap (bit_at (get_or rows cond 0)) (sym (nzvc_back nzvc))

pub conditions_all : (cond nzvc : ℕ) → holds_of cond nzvc ≡ get_or formulas cond never (flag nzvc 8) (flag nzvc 4) (flag nzvc 2) (flag nzvc 1)
conditions_all cond nzvc = low_four cond nzvc ∙ conditions_right cond (flag nzvc 8) (flag nzvc 4) (flag nzvc 2) (flag nzvc 1)

pub bit_lt : (b : Bool) → bit_of b < 2
unfolding bit_of
bit_lt true = omega arith
bit_lt false = omega arith

-- a flag as the library makes a number of it
pub one_bit : (b : Bool) (n : ℕ) → n ≡ from_bool b → bit_of b ≡ n
unfolding bit_of
one_bit true n e = sym e
one_bit false n e = sym e
