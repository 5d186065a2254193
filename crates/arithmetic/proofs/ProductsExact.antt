-- Y, rd and the flags hold what `ProductsExact` states.
use Prim.Native.Nat.{ℕ, suc, ◌+◌, ◌-◌, ◌*◌, ◌/◌, ◌%◌, ◌^◌, ◌<◌}
use native.Mathlib.Omega.{arith}
use mathlib.Core.Path.{◌≡◌, refl, ap, ◌∙◌}
use mathlib.Core.Bool.{Bool, true, false}
use mathlib.Core.List.{List}
use lib.Dec.{eqb, leb}
use lib.ListN.{length, get_or, length-set}
use lib.Seq.{get_or-set_same, get_or-set_other}
use lib.IntN.{ℤ, pos, negsuc, ◌+ℤ◌, ◌*ℤ◌}
use borrow.Author.Tests.{leb-true, leb-false}
use Rattle.numbers.specs.Choice.{pick}
use Rattle.words.specs.Conditions.{bit_of, nzvc_of}
use Rattle.machine.specs.Registers.{file_size, register_of, put_register, y_of, put_y, value_of}
use Rattle.machine.proofs.Zero.{put_zero}
use Rattle.machine.proofs.Writes.{put_own, put_far}
use Rattle.arithmetic.specs.Arithmetic.{top, exact_product, modulo64, product_of, outcome_of, written, arithmetic_of}
use Rattle.arithmetic.specs.ProductsExact.{Exact, ProductsExact}
use Rattle.arithmetic.proofs.Products.{modulo_lt, below_zero_lem}

-- an integer is what is left of it modulo 2^64, and so many times 2^64
abbrev times64 : ℤ → ℤ
times64 (pos n) = pos (n / 2 ^ 64)
times64 (negsuc n) = negsuc (n / 2 ^ 64)

congruent : (z : ℤ) → z ≡ pos (modulo64 z) +ℤ times64 z *ℤ pos (2 ^ 64)
unfolding modulo64
congruent (pos n) = ap pos (omega arith)
congruent (negsuc n) = below_zero_lem n (2 ^ 64 - 1 - n % 2 ^ 64) (suc (n / 2 ^ 64) * 2 ^ 64) (omega arith)

-- what is written to Y and to a register stands there, and nothing else is changed
module _ (rs : List ℕ) (rd high low : ℕ) (l : length rs ≡ file_size) where
  abbrev made : List ℕ
  made = put_register (put_y rs high) rd low

  y_made : y_of made ≡ high
  unfolding y_of put_y
  y_made = put_far (put_y rs high) rd low 32 (omega arith) (omega arith) ∙ get_or-set_same rs 32 high 0 (omega arith)

  register_made : (rd % 32 ≡ 0 → ⊥) → register_of made rd ≡ low
  unfolding register_of put_y
  register_made n = put_own (put_y rs high) rd low (length-set rs 32 high ∙ l) n

  zero_made : register_of made 0 ≡ 0
  unfolding register_of
  zero_made = put_zero (put_y rs high) rd low

  others_made : (i : ℕ) → (i ≡ 0 → ⊥) → (i ≡ rd % 32 → ⊥) → (i ≡ 32 → ⊥) → get_or made i 0 ≡ get_or rs i 0
  unfolding put_y
  others_made i n m y = put_far (put_y rs high) rd low i n m ∙ get_or-set_other rs 32 i high 0 y

-- N and Z of a word, V and C clear
word_flags : (low : ℕ) → low < 2 ^ 32 → nzvc_of (top low) (eqb low 0) false false ≡ 8 * (low / 2 ^ 31) + pick (eqb low 0) 4 0
unfolding top nzvc_of bit_of
word_flags low l = go (leb (2 ^ 31) low) (eqb low 0) refl
  where
    go : (n z : Bool) → leb (2 ^ 31) low ≡ n → bit_of n * 8 + bit_of z * 4 + 0 * 2 + 0 ≡ 8 * (low / 2 ^ 31) + pick z 4 0
    go true true e = omega (arith, leb-true (2 ^ 31) low e)
    go true false e = omega (arith, leb-true (2 ^ 31) low e)
    go false true e = omega (arith, leb-false (2 ^ 31) low e)
    go false false e = omega (arith, leb-false (2 ^ 31) low e)

exact : (sign : Bool) (a b f : ℕ) (rs : List ℕ) (cc : Bool) (rd : ℕ) → length rs ≡ file_size
    → Exact (exact_product sign a b) f rs cc rd (written f rs cc rd (product_of sign a b))
unfolding product_of
exact sign a b f rs cc rd l =
    let z = exact_product sign a b in
    let p = modulo64 z in
    let bound = modulo_lt z in
    let y = y_made rs rd (p / 2 ^ 32) (p % 2 ^ 32) l in
    let w : p / 2 ^ 32 * 2 ^ 32 + p % 2 ^ 32 ≡ p = omega arith in
    record {
      low = p % 2 ^ 32;
      in_words = record { high_bits = rw y (omega arith); low_bits = omega arith; times = times64 z; equal = rw (y, w) (congruent z) };
      to_rd = register_made rs rd (p / 2 ^ 32) (p % 2 ^ 32) l;
      register_0 = zero_made rs rd (p / 2 ^ 32) (p % 2 ^ 32) l;
      others = others_made rs rd (p / 2 ^ 32) (p % 2 ^ 32) l;
      sets = λ e. rw e (word_flags (p % 2 ^ 32) (omega arith));
      keeps = λ e. rw e;
    }

pub products_exact : ProductsExact
unfolding arithmetic_of outcome_of
products_exact f rs cc rd rs1 x l =
    record { umul = exact false (register_of rs rs1) (value_of rs x) f rs cc rd l; smul = exact true (register_of rs rs1) (value_of rs x) f rs cc rd l }
