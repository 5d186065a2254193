-- Fields joined to a word: the word holds each of them, and a word that holds them is what they join to.
use Prim.Native.Nat.{ℕ, ◌+◌, ◌-◌, ◌*◌, ◌/◌, ◌%◌, ◌^◌, ◌<◌, ◌≤◌}
use mathlib.Core.Path.{◌≡◌, refl, sym, ap, ◌∙◌}
use mathlib.Core.Bool.{Bool, true, false, false≢true, ◌&&◌, ◌||◌}
use mathlib.Core.List.{List, [], ◌∷◌}
use native.Mathlib.Nat.{mod-eq_of_lt, mod-lt, div-eq_of_lt, div-one, div-le_self, div-add-mod', mul-add-div_right, mul-add-mod_self_right, add-mul-mod_self_right, mul-le-mul_right, pow-le-pow_right, add_comm}
use native.Mathlib.Omega.{arith}
use lib.Dec.{ltb, leb}
use lib.Pow.{pow_pos, pow-add, shr-shr}
use borrow.Author.Tests.{lt-ltb, le-ltb, le-leb, ltb-true, ltb-false, leb-true}
use Rattle.std.proofs.Common.{Ok, Err}
use Rattle.numbers.specs.Choice.{pick}
use Rattle.numbers.specs.Number.{plus, signed}
use Rattle.words.specs.Reader.{bits}
use Rattle.words.specs.declared.Unfit.{Unfit}
use Rattle.words.specs.Writer.{Field, refusal, plain, with_sign, joined}

abbrev pub total : List Field → ℕ
total [] = 0
total (f ∷ fs) = f.width + total fs

-- a field whose number fits and stands in the word, from a lowest bit
pub record Has (word low : ℕ) (f : Field) : Type 0 where
  pub fitting : f.fits ≡ true
  pub here : bits word low f.width ≡ f.value

abbrev pub Holds : ℕ → List Field → Type 0
Holds word [] = Unit {0}
Holds word (f ∷ fs) = Has word (total fs) f × Holds word fs

-- what fits has no more bits than its field
abbrev pub Sound : Field → Type 0
Sound f = f.fits ≡ true → f.value < 2 ^ f.width

abbrev pub Sounds : List Field → Type 0
Sounds [] = Unit {0}
Sounds (f ∷ fs) = Sound f × Sounds fs

pub plain_sound : (n v : ℕ) → Sound (plain n v)
plain_sound n v e = ltb-true v (2 ^ n) e

pub sign_sound : (n v : ℕ) → Sound (with_sign n v)
sign_sound n v e = mod-lt v (pow_pos n)

-- n bits behind a number of k bits
record Pushed (a k n v : ℕ) : Type 0 where
  pub exact : plus (a * 2 ^ n) v ≡ a * 2 ^ n + v
  pub small : a * 2 ^ n + v < 2 ^ (k + n)
  pub above : (a * 2 ^ n + v) / 2 ^ n ≡ a
  pub below : (a * 2 ^ n + v) % 2 ^ n ≡ v

push : (a k n v : ℕ) → a < 2 ^ k → v < 2 ^ n → k + n ≤ 32 → Pushed a k n v
unfolding plus
push a k n v p q l =
    let m : (a + 1) * 2 ^ n ≤ 2 ^ k * 2 ^ n = mul-le-mul_right (2 ^ n) (omega arith) in
    let s : a * 2 ^ n + v < 2 ^ (k + n) = rw (pow-add 2 k n) (omega arith) in
    let t : 2 ^ (k + n) ≤ 2 ^ 32 = pow-le-pow_right (omega arith) l in
    record {
      exact = mod-eq_of_lt (omega arith);
      small = s;
      above = mul-add-div_right (pow_pos n) a v ∙ rw (div-eq_of_lt q) (omega arith);
      below = mul-add-mod_self_right a (2 ^ n) v ∙ mod-eq_of_lt q;
    }

-- a refusal goes through
pub refused : (e : Unfit) (fs : List Field) → joined (Err e) fs ≡ Err e
refused e [] = refl
refused e (f ∷ fs) = refused e fs

-- the word that fields join to holds them, above them what they were put behind
pub joined_holds : (fs : List Field) (a k w : ℕ) → Sounds fs → a < 2 ^ k → k + total fs ≤ 32 → joined (Ok a) fs ≡ Ok w
    → (w / 2 ^ total fs ≡ a) × Holds w fs
unfolding bits
joined_holds [] a k w s p l e = let h : a ≡ w = cc in (div-one w ∙ sym h, tt)
joined_holds (f ∷ fs) a k w s p l e = go f.fits refl e (λ b j q r d. joined_holds fs b j w s.1 q r d)
  where
    go : (t : Bool) → f.fits ≡ t → joined (pick t (Ok (plus (a * 2 ^ f.width) f.value)) (refusal f.width)) fs ≡ Ok w
        → ((b j : ℕ) → b < 2 ^ j → j + total fs ≤ 32 → joined (Ok b) fs ≡ Ok w → (w / 2 ^ total fs ≡ b) × Holds w fs)
        → (w / 2 ^ (f.width + total fs) ≡ a) × (Has w (total fs) f × Holds w fs)
    go false t e rest = let z : refusal f.width ≡ Ok w = sym (refused _ fs) ∙ e in absurd (let o : ◌≡◌ {A = ℕ} 0 1 = cc in omega arith)
    go true t e rest =
        let n : ℕ = f.width in
        let v : ℕ = f.value in
        let b : Pushed a k n v = push a k n v p (s.0 t) (omega arith) in
        let r : (w / 2 ^ total fs ≡ a * 2 ^ n + v) × Holds w fs = rest (a * 2 ^ n + v) (k + n) b.small (omega arith) (rw b.exact at e) in
        let c : n + total fs ≡ total fs + n = add_comm n (total fs) in (
          rw (c, ← shr-shr w (total fs) n, r.0) b.above,
          (record { fitting = t; here = rw r.0 b.below }, r.1),
        )

-- a word that holds fields is what they join to behind what stands above them
back : (w p n : ℕ) → w < 2 ^ 32 → plus (w / 2 ^ (n + p) * 2 ^ n) (bits w p n) ≡ w / 2 ^ p
unfolding plus bits
back w p n h =
    let c : n + p ≡ p + n = add_comm n p in
    let d : w / 2 ^ p < 2 ^ 32 = let l = div-le_self w (2 ^ p) in omega arith in
    rw (c, ← shr-shr w p n, div-add-mod' (w / 2 ^ p) (2 ^ n)) (mod-eq_of_lt d)

pub joined_back : (fs : List Field) (w : ℕ) → w < 2 ^ 32 → Holds w fs → joined (Ok (w / 2 ^ total fs)) fs ≡ Ok w
joined_back [] w h s = ap Ok (div-one w)
joined_back (f ∷ fs) w h s =
    rw (s.0.fitting, ← s.0.here, back w (total fs) f.width h) (joined_back fs w h s.1)

-- a signed field, over the weight g of its sign bit
module _ (n g m : ℕ) (p : 2 ^ (n - 1) ≡ g) (q : 2 ^ n ≡ g + g) (r : 2 ^ 32 ≡ (m + 1) * (g + g)) (l : g ≤ 1073741824) where
  cut : (k : ℕ) → k < g + g → (k + m * (g + g)) % (g + g) ≡ k
  cut k b = add-mul-mod_self_right k m (g + g) ∙ mod-eq_of_lt b

  -- what is read from such a field fits it again
  pub read_fits : (k : ℕ) → k < 2 ^ n → ((with_sign n (signed n k)).fits ≡ true) × (signed n k % 2 ^ n ≡ k)
  unfolding signed
  read_fits k b = rw (p, q) (go (ltb k g) refl)
    where
      go : (t : Bool) → ltb k g ≡ t → ((ltb (pick t k (k + (4294967296 - (g + g)))) g || (leb (4294967296 - g) (pick t k (k + (4294967296 - (g + g)))) && ltb (pick t k (k + (4294967296 - (g + g)))) 4294967296)) ≡ true) × (pick t k (k + (4294967296 - (g + g))) % (g + g) ≡ k)
      go true t = (rw t, mod-eq_of_lt (let x : k < g = ltb-true k g t in omega arith))
      go false t =
          let x : g ≤ k = ltb-false k g t in
          let b' : k < g + g = rw q at b in
          let c : 4294967296 - (g + g) ≡ m * (g + g) = omega arith in (
            rw (le-ltb (k + (4294967296 - (g + g))) g (omega arith), le-leb (4294967296 - g) (k + (4294967296 - (g + g))) (omega arith), lt-ltb (k + (4294967296 - (g + g))) 4294967296 (omega arith)),
            rw c (cut k b'),
          )

  -- what fits such a field is read back
  pub fits_read : (v : ℕ) → (with_sign n v).fits ≡ true → signed n (v % 2 ^ n) ≡ v
  unfolding signed
  fits_read v e = rw (p, q) (go (ltb v g) (leb (4294967296 - g) v) (ltb v 4294967296) refl refl refl (rw (p) at e))
    where
      go : (a b c : Bool) → ltb v g ≡ a → leb (4294967296 - g) v ≡ b → ltb v 4294967296 ≡ c → (ltb v g || (leb (4294967296 - g) v && ltb v 4294967296)) ≡ true
          → pick (ltb (v % (g + g)) g) (v % (g + g)) (v % (g + g) + (4294967296 - (g + g))) ≡ v
      go true b c x y z e =
          let h : v < g = ltb-true v g x in
          let d : v % (g + g) ≡ v = mod-eq_of_lt (omega arith) in
          rw (d, x)
      go false true true x y z e =
          let h : 4294967296 - g ≤ v = leb-true (4294967296 - g) v y in
          let i : v < 4294967296 = ltb-true v 4294967296 z in
          let u : ℕ = v - (4294967296 - (g + g)) in
          let w : v ≡ u + m * (g + g) = omega arith in
          let d : v % (g + g) ≡ u = ap (λ (t : ℕ). t % (g + g)) w ∙ cut u (omega arith) in
          rw (d, le-ltb u g (omega arith)) (omega arith)
      go false true false x y z e = absurd (false≢true (rw (x, y, z) at e))
      go false false c x y z e = absurd (false≢true (rw (x, y) at e))
