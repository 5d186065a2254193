-- V and C of sums and differences say what `FlagsExact` states.
use Rattle.numbers.specs.Choice.{pick}
use Rattle.numbers.specs.Number.{plus, minus}
use Rattle.numbers.proofs.Choice.{same_test}
use Rattle.words.specs.Conditions.{bit_at, bit_of, nzvc_of}
use Rattle.arithmetic.specs.Arithmetic.{top, signed_of, unsigned_of, sum_overflow, sum_carry, difference_overflow, difference_carry, sum_of, difference_of, outcome_of}
use Rattle.arithmetic.specs.FlagsExact.{fits_signed, fits_unsigned, below_zero, Sets, FlagsExact}
use Rattle.words.proofs.Conditions.{bit_lt}
use borrow.Author.Tests.{not-true, leb-true, leb-false, ltb-true, ltb-false, le-leb, lt-leb, lt-ltb, le-ltb, eq-eqb, ne_eqb}
use lib.Dec.{leb, ltb, eqb}
use lib.IntN.{ℤ, pos, negsuc, neg_ℤ, ◌+ℤ◌, ◌-ℤ◌, +ℤ_assoc, +ℤ_comm, +ℤ_idr, neg_ℤ-+ℤ, neg_ℤ-neg_ℤ}
use lib.Signed.{lt_z, le_z}
use native.Mathlib.Nat.{add-zero}
use native.Mathlib.Omega.{arith}
use mathlib.Core.Bool.{Bool, true, false, not, ◌&&◌, cond}
use mathlib.Core.Path.{◌≡◌, refl, sym, ap, ◌∙◌}
use Prim.Native.Nat.{ℕ, zero, suc, ◌+◌, ◌-◌, ◌^◌, ◌≤◌, ◌<◌}

-- ---------------------------------------------------------------- the exact results, as differences of two numbers
-- x less y
abbrev less : ℕ → ℕ → ℤ
less x y = pos x -ℤ pos y

plus_less : (a m b n : ℕ) → less a m +ℤ less b n ≡ less (a + b) (m + n)
plus_less a m b n =
    let x = pos a in
    let y = neg_ℤ (pos m) in
    let z = pos b in
    let w = neg_ℤ (pos n) in
    +ℤ_assoc x y (z +ℤ w) ∙ ap (λ i. x +ℤ i) (+ℤ_comm y (z +ℤ w) ∙ +ℤ_assoc z w y ∙ ap (λ i. z +ℤ i) (+ℤ_comm w y ∙ sym (neg_ℤ-+ℤ (pos m) (pos n))))
    ∙ sym (+ℤ_assoc x z (neg_ℤ (pos (m + n))))

minus_less : (a m b n : ℕ) → less a m -ℤ less b n ≡ less (a + n) (m + b)
minus_less a m b n =
    ap (λ i. less a m +ℤ i) (neg_ℤ-+ℤ (pos b) (neg_ℤ (pos n)) ∙ ap (λ i. neg_ℤ (pos b) +ℤ i) (neg_ℤ-neg_ℤ (pos n)) ∙ +ℤ_comm (neg_ℤ (pos b)) (pos n))
    ∙ plus_less a m n b

plain : (x : ℕ) → pos x ≡ less x 0
plain x = sym (+ℤ_idr (pos x))

-- and a carry more or less
plus_carry : (x y k : ℕ) → less x y +ℤ pos k ≡ less (x + k) y
plus_carry x y k = ap (λ z. less x y +ℤ z) (plain k) ∙ plus_less x y k 0 ∙ ap (less (x + k)) (add-zero y)

minus_carry : (x y k : ℕ) → less x y -ℤ pos k ≡ less x (y + k)
minus_carry x y k = ap (λ z. less x y -ℤ z) (plain k) ∙ minus_less x y k 0 ∙ ap (λ n. less n (y + k)) (add-zero x)

-- tests of such a difference are tests of its numbers
less_below : (h x y : ℕ) → lt_z (less x y) (pos h) ≡ ltb x (y + h)
less_below h x zero = same_test (ltb (x + 0) h) (ltb x (0 + h)) (λ e. omega (arith, ltb-true, lt-ltb)) (λ e. omega (arith, ltb-true, lt-ltb))
less_below h x (suc y) = by (ltb x (suc y)) refl
  where
    by : (t : Bool) → ltb x (suc y) ≡ t → lt_z (cond t (negsuc (suc y - suc x)) (pos (x - suc y))) (pos h) ≡ ltb x (suc y + h)
    by true e = sym (lt-ltb x (suc y + h) (omega (arith, ltb-true)))
    by false e =
        same_test (ltb (x - suc y) h) (ltb x (suc y + h)) (λ p. omega (arith, ltb-false, ltb-true, lt-ltb)) (λ p. omega (arith, ltb-false, ltb-true, lt-ltb))

less_from : (h x y : ℕ) → le_z (negsuc h) (less x y) ≡ leb y (x + suc h)
less_from h x zero = sym (le-leb 0 (x + suc h) (omega arith))
less_from h x (suc y) = by (ltb x (suc y)) refl
  where
    by : (t : Bool) → ltb x (suc y) ≡ t → le_z (negsuc h) (cond t (negsuc (suc y - suc x)) (pos (x - suc y))) ≡ leb (suc y) (x + suc h)
    by true e =
        same_test (leb (suc y - suc x) h) (leb (suc y) (x + suc h)) (λ p. omega (arith, ltb-true, leb-true, le-leb)) (λ p. omega (arith, ltb-true, leb-true, le-leb))
    by false e = sym (le-leb (suc y) (x + suc h) (omega (arith, ltb-false)))

-- ---------------------------------------------------------------- the top bits
-- what bit 31 says of a number, and what it weighs there: the signed number is so much less
abbrev Half : Bool → ℕ → Type 0
Half true x = 2 ^ 31 ≤ x
Half false x = x < 2 ^ 31

abbrev weight : Bool → ℕ
weight true = 2 ^ 32
weight false = 0

half : (x : ℕ) → Half (top x) x
unfolding top
half x = by (leb (2 ^ 31) x) refl
  where
    by : (t : Bool) → leb (2 ^ 31) x ≡ t → Half t x
    by true e = leb-true (2 ^ 31) x e
    by false e = leb-false (2 ^ 31) x e

signed_less : (x : ℕ) → signed_of x ≡ less x (weight (top x))
signed_less x = by (top x)
  where
    by : (t : Bool) → pick t (pos x -ℤ pos (2 ^ 32)) (pos x) ≡ less x (weight t)
    by true = refl
    by false = plain x

signed_sum : (a b k : ℕ) → signed_of a +ℤ signed_of b +ℤ pos k ≡ less (a + b + k) (weight (top a) + weight (top b))
signed_sum a b k =
    let m = weight (top a) in
    let n = weight (top b) in
    rw (signed_less a, signed_less b, plus_less a m b n) (plus_carry (a + b) (m + n) k)

signed_difference : (a b k : ℕ) → signed_of a -ℤ signed_of b -ℤ pos k ≡ less (a + weight (top b)) (weight (top a) + b + k)
signed_difference a b k =
    let m = weight (top a) in
    let n = weight (top b) in
    rw (signed_less a, signed_less b, minus_less a m b n) (minus_carry (a + n) (m + b) k)

-- ---------------------------------------------------------------- fitting 32 bits
less_fits : (x y : ℕ) → fits_signed (less x y) ≡ (leb y (x + 2 ^ 31) && ltb x (y + 2 ^ 31))
less_fits x y = rw (less_from (2 ^ 31 - 1) x y, less_below (2 ^ 31) x y)

inside : (x y : ℕ) → y ≤ x + 2 ^ 31 → x < y + 2 ^ 31 → not (fits_signed (less x y)) ≡ false
inside x y p q = ap not (less_fits x y) ∙ rw (le-leb y (x + 2 ^ 31) p, lt-ltb x (y + 2 ^ 31) q)

above : (x y : ℕ) → y + 2 ^ 31 ≤ x → not (fits_signed (less x y)) ≡ true
above x y p = ap not (less_fits x y) ∙ rw (le-leb y (x + 2 ^ 31) (omega arith), le-ltb x (y + 2 ^ 31) p)

beneath : (x y : ℕ) → x + 2 ^ 31 < y → not (fits_signed (less x y)) ≡ true
beneath x y p = ap not (less_fits x y) ∙ rw (lt-leb y (x + 2 ^ 31) p)

carried : (x : ℕ) → not (fits_unsigned (pos x)) ≡ leb (2 ^ 32) x
carried x =
    rw (le-leb 0 x (omega arith))
    (same_test (not (ltb x (2 ^ 32))) (leb (2 ^ 32) x) (λ e. le-leb (2 ^ 32) x (ltb-false x (2 ^ 32) (not-true _ e))) (λ e. ap not (le-ltb x (2 ^ 32) (leb-true (2 ^ 32) x e))))

borrowed : (x y : ℕ) → below_zero (less x y) ≡ ltb x y
borrowed x y = less_below 0 x y ∙ ap (ltb x) (add-zero y)

-- ---------------------------------------------------------------- V8's lines
-- a carry, both operands and the result, by their top bits
abbrev Tops : Bool → Bool → Bool → ℕ → ℕ → ℕ → ℕ → Type 0
Tops s t u k a b r = (k < 2) × (a < 2 ^ 32) × (b < 2 ^ 32) × Half s a × Half t b × Half u r

sum_overflows : (s t u : Bool) (k a b : ℕ) → Tops s t u k a b (plus (plus a b) k) → not (fits_signed (less (a + b + k) (weight s + weight t))) ≡ sum_overflow s t u
unfolding plus
sum_overflows true true true k a b h = inside (a + b + k) (2 ^ 32 + 2 ^ 32) (omega arith) (omega arith)
sum_overflows true true false k a b h = beneath (a + b + k) (2 ^ 32 + 2 ^ 32) (omega arith)
sum_overflows true false u k a b h = inside (a + b + k) (2 ^ 32 + 0) (omega arith) (omega arith)
sum_overflows false true u k a b h = inside (a + b + k) (0 + 2 ^ 32) (omega arith) (omega arith)
sum_overflows false false true k a b h = above (a + b + k) (0 + 0) (omega arith)
sum_overflows false false false k a b h = inside (a + b + k) (0 + 0) (omega arith) (omega arith)

sum_carries : (s t u : Bool) (k a b : ℕ) → Tops s t u k a b (plus (plus a b) k) → leb (2 ^ 32) (a + b + k) ≡ sum_carry s t u
unfolding plus
sum_carries true true u k a b h = omega (arith, le-leb)
sum_carries true false true k a b h = omega (arith, lt-leb)
sum_carries true false false k a b h = omega (arith, le-leb)
sum_carries false true true k a b h = omega (arith, lt-leb)
sum_carries false true false k a b h = omega (arith, le-leb)
sum_carries false false true k a b h = omega (arith, lt-leb)
sum_carries false false false k a b h = omega (arith, lt-leb)

difference_overflows : (s t u : Bool) (k a b : ℕ) → Tops s t u k a b (minus (minus a b) k) → not (fits_signed (less (a + weight t) (weight s + b + k))) ≡ difference_overflow s t u
unfolding minus
difference_overflows true true u k a b h = inside (a + 2 ^ 32) (2 ^ 32 + b + k) (omega arith) (omega arith)
difference_overflows true false true k a b h = inside (a + 0) (2 ^ 32 + b + k) (omega arith) (omega arith)
difference_overflows true false false k a b h = beneath (a + 0) (2 ^ 32 + b + k) (omega arith)
difference_overflows false true true k a b h = above (a + 2 ^ 32) (0 + b + k) (omega arith)
difference_overflows false true false k a b h = inside (a + 2 ^ 32) (0 + b + k) (omega arith) (omega arith)
difference_overflows false false u k a b h = inside (a + 0) (0 + b + k) (omega arith) (omega arith)

difference_carries : (s t u : Bool) (k a b : ℕ) → Tops s t u k a b (minus (minus a b) k) → ltb a (b + k) ≡ difference_carry s t u
unfolding minus
difference_carries true true true k a b h = omega (arith, lt-ltb)
difference_carries true true false k a b h = omega (arith, le-ltb)
difference_carries true false true k a b h = omega (arith, le-ltb)
difference_carries true false false k a b h = omega (arith, le-ltb)
difference_carries false true u k a b h = omega (arith, lt-ltb)
difference_carries false false true k a b h = omega (arith, lt-ltb)
difference_carries false false false k a b h = omega (arith, le-ltb)

-- ---------------------------------------------------------------- V and C in the flags
flag_v : (n z v c : Bool) → bit_at (nzvc_of n z v c) 1 ≡ v
unfolding bit_at nzvc_of bit_of
flag_v n z true c = omega (arith, eq-eqb, bit_lt n, bit_lt z, bit_lt c)
flag_v n z false c = omega (arith, ne_eqb, bit_lt n, bit_lt z, bit_lt c)

flag_c : (n z v c : Bool) → bit_at (nzvc_of n z v c) 0 ≡ c
unfolding bit_at nzvc_of bit_of
flag_c n z v true = omega (arith, eq-eqb, bit_lt n, bit_lt z, bit_lt v)
flag_c n z v false = omega (arith, ne_eqb, bit_lt n, bit_lt z, bit_lt v)

-- z and w are the exact results, however they are written: add and sub name no carry
sum_exact : (k a b : ℕ) → k < 2 → a < 2 ^ 32 → b < 2 ^ 32 → {z w : ℤ} → z ≡ signed_of a +ℤ signed_of b +ℤ pos k → w ≡ unsigned_of a +ℤ unsigned_of b +ℤ pos k
    → Sets (sum_of a b k) (not (fits_signed z)) (not (fits_unsigned w))
unfolding sum_of
sum_exact k a b i j l e f =
    let r = plus (plus a b) k in
    let h : Tops (top a) (top b) (top r) k a b r = (i, j, l, half a, half b, half r) in
    let v = ap (λ y. not (fits_signed y)) (e ∙ signed_sum a b k) ∙ sum_overflows (top a) (top b) (top r) k a b h in
    let c = ap (λ y. not (fits_unsigned y)) f ∙ carried (a + b + k) ∙ sum_carries (top a) (top b) (top r) k a b h in
    (flag_v (top r) (eqb r 0) _ _ ∙ sym v, flag_c (top r) (eqb r 0) _ _ ∙ sym c)

difference_exact : (k a b : ℕ) → k < 2 → a < 2 ^ 32 → b < 2 ^ 32 → {z w : ℤ} → z ≡ signed_of a -ℤ signed_of b -ℤ pos k → w ≡ unsigned_of a -ℤ unsigned_of b -ℤ pos k
    → Sets (difference_of a b k) (not (fits_signed z)) (below_zero w)
unfolding difference_of
difference_exact k a b i j l e f =
    let r = minus (minus a b) k in
    let h : Tops (top a) (top b) (top r) k a b r = (i, j, l, half a, half b, half r) in
    let v = ap (λ y. not (fits_signed y)) (e ∙ signed_difference a b k) ∙ difference_overflows (top a) (top b) (top r) k a b h in
    let c = ap below_zero (f ∙ minus_carry a b k) ∙ borrowed a (b + k) ∙ difference_carries (top a) (top b) (top r) k a b h in
    (flag_v (top r) (eqb r 0) _ _ ∙ sym v, flag_c (top r) (eqb r 0) _ _ ∙ sym c)

pub flags_exact : FlagsExact
unfolding outcome_of
flags_exact k a b i j l =
    record {
      add = sum_exact 0 a b (omega arith) j l (sym (+ℤ_idr (signed_of a +ℤ signed_of b))) (sym (+ℤ_idr (unsigned_of a +ℤ unsigned_of b)));
      addx = sum_exact k a b i j l refl refl;
      sub = difference_exact 0 a b (omega arith) j l (sym (+ℤ_idr (signed_of a -ℤ signed_of b))) (sym (+ℤ_idr (unsigned_of a -ℤ unsigned_of b)));
      subx = difference_exact k a b i j l refl refl;
    }
