-- Laws of products: 64 bits hold them, and what the signs of the factors take off the high word.
use Prim.Native.Nat.{ℕ, zero, suc, ◌+◌, ◌-◌, ◌*◌, ◌/◌, ◌%◌, ◌^◌, ◌<◌, ◌≤◌}
use native.Mathlib.Omega.{arith}
use native.Mathlib.Nat.{mul-add, add-mul, mul-le-mul, mod-add-mod}
use lib.IntN.{ℤ, pos, negsuc, neg_ℤ, ◌+ℤ◌, ◌-ℤ◌, ◌*ℤ◌}
use borrow.Author.Tests.{lt-ltb}
use mathlib.Core.Path.{◌≡◌, refl, sym, ap, ◌∙◌}
use mathlib.Core.Bool.{Bool, true, false, ◌&&◌}
use Rattle.numbers.specs.Choice.{pick}
use Rattle.numbers.specs.Number.{minus}
use Rattle.arithmetic.specs.Arithmetic.{top, exact_product, modulo64}

pub product_lt : (a b : ℕ) → a < 2 ^ 32 → b < 2 ^ 32 → a * b < 2 ^ 64
product_lt a b h i =
    let l : a * b ≤ (2 ^ 32 - 1) * (2 ^ 32 - 1) = mul-le-mul {n₁ = a} {m₁ = b} {n₂ = 2 ^ 32 - 1} {m₂ = 2 ^ 32 - 1} (omega arith) (omega arith) in
    omega (arith, l)

pub modulo_lt : (z : ℤ) → modulo64 z < 2 ^ 64
unfolding modulo64
modulo_lt (pos n) = omega arith
modulo_lt (negsuc n) = omega arith

-- what a factor lacks of the weight w, times the other
lack_left : (w a b : ℕ) → a ≤ w → (w - a) * b + a * b ≡ w * b
lack_left w a b h = sym (add-mul (w - a) a b) ∙ ap (λ n. n * b) (omega arith)

lack_right : (w a b : ℕ) → b ≤ w → a * (w - b) + a * b ≡ a * w
lack_right w a b h = sym (mul-add a (w - b) b) ∙ ap (λ n. a * n) (omega arith)

-- a factor as an integer, and integers below 0
abbrev factor : Bool → ℕ → ℤ
factor s a = pick s (pos a -ℤ pos (2 ^ 32)) (pos a)

pub below_zero_lem : (n k x : ℕ) → k + suc n ≡ x → negsuc n ≡ pos k +ℤ neg_ℤ (pos x)
below_zero_lem n k zero e = absurd (omega arith)
below_zero_lem n k (suc x) e = rw (lt-ltb k (suc x) (omega arith)) (ap negsuc (omega arith))

negative : (a : ℕ) → a < 2 ^ 32 → factor true a ≡ neg_ℤ (pos (2 ^ 32 - a))
negative a h =
    let e : 2 ^ 32 - a ≡ suc (2 ^ 32 - suc a) = omega arith in
    rw e (sym (below_zero_lem (2 ^ 32 - suc a) a (2 ^ 32) (omega arith)))

minus_times : (m n : ℕ) → 0 < m → neg_ℤ (pos m) *ℤ pos n ≡ neg_ℤ (pos (m * n))
minus_times zero n h = absurd (omega arith)
minus_times (suc m) n h = refl

times_minus : (m n : ℕ) → 0 < n → pos m *ℤ neg_ℤ (pos n) ≡ neg_ℤ (pos (m * n))
times_minus m zero h = absurd (omega arith)
times_minus m (suc n) h = refl

minus_minus : (m n : ℕ) → 0 < m → 0 < n → neg_ℤ (pos m) *ℤ neg_ℤ (pos n) ≡ pos (m * n)
minus_minus zero n h i = absurd (omega arith)
minus_minus (suc m) zero h i = absurd (omega arith)
minus_minus (suc m) (suc n) h i = refl

modulo_minus : (n : ℕ) → n ≤ 2 ^ 64 → modulo64 (neg_ℤ (pos n)) ≡ (2 ^ 64 - n) % 2 ^ 64
unfolding modulo64
modulo_minus zero h = refl
modulo_minus (suc n) h = omega arith

-- the product of the numbers, less each factor whose partner is below 0, in units of 2^32
taken_off : (s t : Bool) (a b : ℕ) → a < 2 ^ 32 → b < 2 ^ 32
    → modulo64 (factor s a *ℤ factor t b) ≡ (a * b + (2 ^ 64 - 2 ^ 32 * pick s b 0) + (2 ^ 64 - 2 ^ 32 * pick t a 0)) % 2 ^ 64
unfolding modulo64
taken_off true true a b h i =
    let l = lack_left (2 ^ 32) a (2 ^ 32 - b) (omega arith) in
    let r = lack_right (2 ^ 32) a b (omega arith) in
    rw (negative a h, negative b i, minus_minus (2 ^ 32 - a) (2 ^ 32 - b) (omega arith) (omega arith)) (omega (arith, l, r))
taken_off true false a b h i =
    let l = lack_left (2 ^ 32) a b (omega arith) in
    rw (negative a h, minus_times (2 ^ 32 - a) b (omega arith), modulo_minus ((2 ^ 32 - a) * b) (omega (arith, l))) (omega (arith, l))
taken_off false true a b h i =
    let r = lack_right (2 ^ 32) a b (omega arith) in
    rw (negative b i, times_minus a (2 ^ 32 - b) (omega arith), modulo_minus (a * (2 ^ 32 - b)) (omega (arith, r))) (omega (arith, r))
taken_off false false a b h i = omega arith

signs : (sign : Bool) (a b : ℕ) → exact_product sign a b ≡ factor (sign && top a) a *ℤ factor (sign && top b) b
signs true a b = refl
signs false a b = refl

-- its two words, from the product of the numbers
low_word : (p x y : ℕ) → x < 2 ^ 32 → y < 2 ^ 32 → (p + (2 ^ 64 - 2 ^ 32 * x) + (2 ^ 64 - 2 ^ 32 * y)) % 2 ^ 64 % 2 ^ 32 ≡ p % 2 ^ 32
low_word p x y h i = omega arith

in_words : (p x y : ℕ) → x < 2 ^ 32 → y < 2 ^ 32
    → p + (2 ^ 64 - 2 ^ 32 * x) + (2 ^ 64 - 2 ^ 32 * y) ≡ 2 ^ 32 * (p / 2 ^ 32 + (2 ^ 32 - x) + (2 ^ 32 - y)) + p % 2 ^ 32
in_words p x y h i = omega arith

upper_word : (k l : ℕ) → l < 2 ^ 32 → (2 ^ 32 * k + l) % 2 ^ 64 / 2 ^ 32 ≡ k % 2 ^ 32
upper_word k l h = omega arith

once : (q x : ℕ) → x < 2 ^ 32 → minus q x ≡ (q + (2 ^ 32 - x)) % 2 ^ 32
unfolding minus
once q x h = omega arith

minus_twice : (q x y : ℕ) → x < 2 ^ 32 → y < 2 ^ 32 → minus (minus q x) y ≡ (q + (2 ^ 32 - x) + (2 ^ 32 - y)) % 2 ^ 32
minus_twice q x y h i = rw (once q x h, once ((q + (2 ^ 32 - x)) % 2 ^ 32) y i) (mod-add-mod (q + (2 ^ 32 - x)) (2 ^ 32) (2 ^ 32 - y))

high_word : (p x y : ℕ) → x < 2 ^ 32 → y < 2 ^ 32
    → (p + (2 ^ 64 - 2 ^ 32 * x) + (2 ^ 64 - 2 ^ 32 * y)) % 2 ^ 64 / 2 ^ 32 ≡ minus (minus (p / 2 ^ 32) x) y
high_word p x y h i =
    rw (in_words p x y h i, upper_word (p / 2 ^ 32 + (2 ^ 32 - x) + (2 ^ 32 - y)) (p % 2 ^ 32) (omega arith))
    (sym (minus_twice (p / 2 ^ 32) x y h i))

off_lt : (s : Bool) (b : ℕ) → b < 2 ^ 32 → pick s b 0 < 2 ^ 32
off_lt true b h = h
off_lt false b h = omega arith

module _ (sign : Bool) (a b : ℕ) (h : a < 2 ^ 32) (i : b < 2 ^ 32) where
  product_of_lem : modulo64 (exact_product sign a b)
      ≡ (a * b + (2 ^ 64 - 2 ^ 32 * pick (sign && top a) b 0) + (2 ^ 64 - 2 ^ 32 * pick (sign && top b) a 0)) % 2 ^ 64
  product_of_lem = rw (signs sign a b) (taken_off (sign && top a) (sign && top b) a b h i)

  pub low_of : a * b % 2 ^ 32 ≡ modulo64 (exact_product sign a b) % 2 ^ 32
  low_of = rw product_of_lem (sym (low_word (a * b) _ _ (off_lt (sign && top a) b i) (off_lt (sign && top b) a h)))

  pub high_of : minus (minus (a * b / 2 ^ 32) (pick (sign && top a) b 0)) (pick (sign && top b) a 0) ≡ modulo64 (exact_product sign a b) / 2 ^ 32
  high_of = rw product_of_lem (sym (high_word (a * b) _ _ (off_lt (sign && top a) b i) (off_lt (sign && top b) a h)))
