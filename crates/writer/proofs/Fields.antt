-- Laws of fields: what the writer puts behind the bits so far.
use Prim.Native.Nat.{ℕ, ◌+◌, ◌-◌, ◌*◌, ◌/◌, ◌%◌, ◌^◌, ◌<◌, ◌≤◌}
use mathlib.Core.Path.{◌≡◌, refl}
use mathlib.Core.Bool.{Bool, true, false}
use native.Mathlib.Nat.{mod-add-mod, mod-eq_of_lt, mod-lt, div-eq_of_lt, div-lt_iff_lt-mul}
use native.Mathlib.Omega.{arith}
use lib.Dec.{ltb}
use lib.Pow.{pow_pos}
use borrow.Author.Tests.{lt-ltb, le-ltb, le-leb, lt-leb, ltb-true, ltb-false}
use Rattle.numbers.specs.Number.{plus}
use Rattle.words.specs.declared.Operation.{Operation}
use Rattle.words.specs.declared.Operation.TheVariants.{Add, And, Or, Xor, Sub, Andn, Orn, Xnor, Addx, Subx, Umul, Smul}
use Rattle.std.proofs.Common.{Ok}
use Rattle.words.specs.Writer.{refusal, plain, with_sign, behind, arithmetic_op3}

below_power : (v n : ℕ) → v / 2 ^ n ≡ 0 → v < 2 ^ n
below_power v n e =
    let h : v / 2 ^ n < 1 = omega arith in
    let g : v < 1 * 2 ^ n = (div-lt_iff_lt-mul (pow_pos n)).0 h in
    omega arith

not_below : (v n : ℕ) → (v / 2 ^ n ≡ 0 → ⊥) → 2 ^ n ≤ v
not_below v n e = go (ltb v (2 ^ n)) refl
  where
    go : (b : Bool) → ltb v (2 ^ n) ≡ b → 2 ^ n ≤ v
    go true t = absurd (e (div-eq_of_lt (ltb-true v (2 ^ n) t)))
    go false t = ltb-false v (2 ^ n) t

-- a plain number
pub put_fits : (word n v r : ℕ) → v / 2 ^ n ≡ 0 → r ≡ plus (word * 2 ^ n % 2 ^ 32) v → Ok r ≡ behind (Ok word) (plain n v)
unfolding plus
put_fits word n v r h e = rw (lt-ltb v (2 ^ n) (below_power v n h), e, mod-add-mod (word * 2 ^ n) (2 ^ 32) v)

pub put_unfit : (word n v : ℕ) → (v / 2 ^ n ≡ 0 → ⊥) → refusal n ≡ behind (Ok word) (plain n v)
put_unfit word n v h = rw (le-ltb v (2 ^ n) (not_below v n h))

-- a signed number, over the weight h of the sign bit
module _ (word n h v : ℕ) (p : h ≡ 2 ^ (n - 1)) (q : h + h ≡ 2 ^ n) (l : h + h ≤ 2147483648) where
  pub put_low : v < h → behind (Ok word) (plain n (v % (h + h))) ≡ behind (Ok word) (with_sign n v)
  put_low b =
      let m : v % (h + h) ≡ v = mod-eq_of_lt (omega arith) in
      rw (← p, ← q, lt-ltb v h b, m, lt-ltb v (h + h) (omega arith))

  pub put_high_lem : h ≤ v → 4294967295 - h < v → v < 4294967296 → behind (Ok word) (plain n (v % (h + h))) ≡ behind (Ok word) (with_sign n v)
  put_high_lem a b c =
      let z : 0 < h = omega arith in
      let m : v % (h + h) < h + h = mod-lt v (omega arith) in
      rw (← p, ← q, le-ltb v h a, le-leb (4294967296 - h) v (omega arith), lt-ltb v 4294967296 c, lt-ltb (v % (h + h)) (h + h) m)

  pub put_none : h ≤ v → v ≤ 4294967295 - h → refusal n ≡ behind (Ok word) (with_sign n v)
  put_none a b = rw (← p, le-ltb v h a, lt-leb (4294967296 - h) v (omega arith))

-- the flag form of an operation
pub flag_form : (o : Operation) → arithmetic_op3 o false + 16 ≡ arithmetic_op3 o true
unfolding arithmetic_op3
flag_form Add = refl
flag_form And = refl
flag_form Or = refl
flag_form Xor = refl
flag_form Sub = refl
flag_form Andn = refl
flag_form Orn = refl
flag_form Xnor = refl
flag_form Addx = refl
flag_form Subx = refl
flag_form Umul = refl
flag_form Smul = refl
