-- Laws of numbers modulo 2^32, of signs, and of numbers in lists of bytes.
use Rattle.std.proofs.Common.{◌≡◌, ℕ, zero, suc, ◌+◌, ◌-◌, ◌*◌, ◌/◌, ◌%◌, ◌^◌, ◌<◌, ◌≤◌, ltb, List, [], ◌∷◌, ◌++◌, length, get_or, take, drop, set, sym, refl, ap, ◌∙◌, append_assoc, add-zero, mod-eq_of_lt, add-one, arith, length-append, length-set, drop-cons, drop-drop, take-suc-set, take_at, drop_at, shr-shr, ltb-false, ltb-true}
use native.Mathlib.Nat.{mod-eq-sub-mod}
use Rattle.std.proofs.lemmas.Nat.{one_shl}
use Rattle.std.proofs.Math.Nat.{two-pow-succ}
use Rattle.std.proofs.Math.Pow.{pow_mono}
use lib.Seq.{paste, paste-zero, paste-suc, drop-nil}
use lib.ListN.{get_or-append}
use Rattle.numbers.specs.Choice.{pick}
use Rattle.numbers.specs.Number.{Below, minus, put_number, number_at, numbers_of, bytes_of, up_to}
use Rattle.numbers.proofs.Choice.{by_test}
use Rattle.numbers.proofs.Bounds.{below_get}
use Rattle.numbers.proofs.Lists.{length_up, up_list}

pub length_put : (l : List ℕ) (at v : ℕ) → length (put_number l at v) ≡ length l
unfolding put_number
length_put l at v = simp length-set

-- four bytes pasted are four bytes set, one after the other
pub pasted : (l : List ℕ) (at a b c d : ℕ) → at + 4 ≤ length l
    → paste l at (a ∷ b ∷ c ∷ d ∷ []) 4 ≡ set (set (set (set l at a) (at + 1) b) (at + 2) c) (at + 3) d
pasted l at a b c d h =
    let bs : List ℕ = a ∷ b ∷ c ∷ d ∷ [] in
    let more : (j : ℕ) → j < 4 → set (paste l at bs j) (at + j) (get_or bs j 0) ≡ paste l at bs (suc j) =
    λ j k. paste-suc l at bs j 0 (omega arith) k in
    let z : at + 0 ≡ at = omega arith in
    let first : set l at a ≡ paste l at bs 1 = ap (λ (t : List ℕ). set t at a) (paste-zero l at bs) ∙ ap (λ (n : ℕ). set (paste l at bs 0) n a) (sym z) ∙ more 0 (omega arith) in
    sym (rw (first, more 1 (omega arith), more 2 (omega arith), more 3 (omega arith)))

-- a sign extended by a sum and a difference, over the weight of the sign bit
pub extend_by_sum : (h v : ℕ) → v < h + h → h + h ≤ 2 ^ 32 → minus ((v + h) % (h + h)) h ≡ pick (ltb v h) v (v + (2 ^ 32 - (h + h)))
unfolding minus
extend_by_sum h v b l =
    by_test (ltb v h) (((v + h) % (h + h) + 2 ^ 32 - h) % 2 ^ 32) v (v + (2 ^ 32 - (h + h)))
    (λ t. let p : v < h = ltb-true v h t in let e : (v + h) % (h + h) ≡ v + h = mod-eq_of_lt (omega arith) in rw e (omega arith))
    (λ t. let p : h ≤ v = ltb-false v h t in
    let e : (v + h) % (h + h) ≡ v - h = mod-eq-sub-mod (omega arith) ∙ mod-eq_of_lt (omega arith) ∙ omega arith in
    let f : (v - h + 2 ^ 32 - h) % 2 ^ 32 ≡ v - h + 2 ^ 32 - h = mod-eq_of_lt (omega arith) in
    rw (e, f) (omega arith))

-- the weight of a sign bit, as it is shifted
pub sign_weight : (bits : ℕ) → 0 < bits → bits < 32
    → (1 * 2 ^ (bits - 1) % 2 ^ 32 ≡ 2 ^ (bits - 1)) × (2 ^ (bits - 1) + 2 ^ (bits - 1) ≡ 2 ^ bits) × (2 ^ bits ≤ 2 ^ 31)
sign_weight zero h l = absurd (omega arith)
sign_weight (suc n) h l =
    let e : suc n - 1 ≡ n = omega arith in
    rw e (one_shl n 32 (omega arith), sym (two-pow-succ n), pow_mono {i = suc n} {j = 31} (omega arith))

-- the bytes of a list of numbers, and one of them
pub length_bytes : (vs : List ℕ) → length (bytes_of vs) ≡ 4 * length vs
unfolding bytes_of
length_bytes [] = refl
length_bytes (v ∷ vs) = rw (length_bytes vs) (omega arith)

bytes_from : (vs : List ℕ) (i k : ℕ) → get_or (bytes_of vs) (4 * i + k) 0 ≡ get_or (bytes_of (drop i vs)) k 0
unfolding bytes_of
bytes_from [] i k = rw (drop-nil i)
bytes_from (v ∷ vs) zero k = let e : 4 * 0 + k ≡ k = omega arith in rw e
bytes_from (v ∷ vs) (suc i) k =
    let e : 4 * suc i + k ≡ suc (suc (suc (suc (4 * i + k)))) = omega arith in
    rw e (bytes_from vs i k)

-- the four bytes of the number at i stand at 4 i, and at 1, 2 and 3 further
pub record BytesAt (vs : List ℕ) (i v : ℕ) : Type 0 where
  pub byte_0 : get_or (bytes_of vs) (4 * i) 0 ≡ v / 2 ^ 24 % 256
  pub byte_1 : get_or (bytes_of vs) (4 * i + 1) 0 ≡ v / 2 ^ 16 % 256
  pub byte_2 : get_or (bytes_of vs) (4 * i + 2) 0 ≡ v / 2 ^ 8 % 256
  pub byte_3 : get_or (bytes_of vs) (4 * i + 3) 0 ≡ v % 256

bytes_at : (vs : List ℕ) (i : ℕ) → i < length vs → BytesAt vs i (get_or vs i 0)
unfolding bytes_of
bytes_at vs i h =
    let e : drop i vs ≡ get_or vs i 0 ∷ drop (suc i) vs = drop-cons vs i 0 h in
    record {
      byte_0 = ap (λ (n : ℕ). get_or (bytes_of vs) n 0) (sym (add-zero (4 * i))) ∙ bytes_from vs i 0 ∙ rw e;
      byte_1 = bytes_from vs i 1 ∙ rw e;
      byte_2 = bytes_from vs i 2 ∙ rw e;
      byte_3 = bytes_from vs i 3 ∙ rw e;
    }

-- a number of 32 bits comes back from its four bytes, one byte after the other
next_byte : (u c : ℕ) → u / 256 ≡ c → c * 256 + u % 256 ≡ u
next_byte u c e = omega arith

join : (v a b c d x y z : ℕ) → a ≡ d → d * 256 + b ≡ x → x * 256 + c ≡ y → y * 256 + z ≡ v → a * 2 ^ 24 + b * 2 ^ 16 + c * 2 ^ 8 + z ≡ v
join v a b c d x y z p q r s = omega arith

number_back : (v : ℕ) → v < 2 ^ 32 → v / 2 ^ 24 % 256 * 2 ^ 24 + v / 2 ^ 16 % 256 * 2 ^ 16 + v / 2 ^ 8 % 256 * 2 ^ 8 + v % 256 ≡ v
number_back v h =
    join v (v / 2 ^ 24 % 256) (v / 2 ^ 16 % 256) (v / 2 ^ 8 % 256) (v / 2 ^ 24) (v / 2 ^ 16) (v / 2 ^ 8) (v % 256)
    (omega arith) (next_byte (v / 2 ^ 16) (v / 2 ^ 24) (shr-shr v 16 8)) (next_byte (v / 2 ^ 8) (v / 2 ^ 16) (shr-shr v 8 8))
    (next_byte v (v / 2 ^ 8) refl)

-- what is packed is read back
pub number_packed : (vs : List ℕ) (i at : ℕ) → Below (2 ^ 32) vs → i < length vs → at ≡ 4 * i → number_at (bytes_of vs) at ≡ get_or vs i 0
unfolding number_at
number_packed vs i at a h e =
    let b = bytes_at vs i h in
    rw (e, b.byte_0, b.byte_1, b.byte_2, b.byte_3) (number_back (get_or vs i 0) (below_get (2 ^ 32) vs i (omega arith) a))

-- a list of bytes with one more number of a list put into it
pub put_more : (l : List ℕ) (at : ℕ) (vs : List ℕ) (i : ℕ) → at + 4 * length vs ≤ length l → i < length vs
    → put_number (paste l at (bytes_of vs) (4 * i)) (at + 4 * i) (get_or vs i 0) ≡ paste l at (bytes_of vs) (4 * (i + 1))
unfolding put_number
put_more l at vs i h k =
    let b = bytes_of vs in
    let n : length b ≡ 4 * length vs = length_bytes vs in
    let d : BytesAt vs i (get_or vs i 0) = bytes_at vs i k in
    let more : (j : ℕ) → 4 * i ≤ j → j < 4 * i + 4 → set (paste l at b j) (at + j) (get_or b j 0) ≡ paste l at b (suc j) =
    λ j p q. paste-suc l at b j 0 (omega arith) (omega arith) in
    let e0 : at + 4 * i + 1 ≡ at + (4 * i + 1) = omega arith in
    let e1 : at + 4 * i + 2 ≡ at + (4 * i + 2) = omega arith in
    let e2 : at + 4 * i + 3 ≡ at + (4 * i + 3) = omega arith in
    let s0 : suc (4 * i) ≡ 4 * i + 1 = omega arith in
    let s1 : suc (4 * i + 1) ≡ 4 * i + 2 = omega arith in
    let s2 : suc (4 * i + 2) ≡ 4 * i + 3 = omega arith in
    let s3 : suc (4 * i + 3) ≡ 4 * (i + 1) = omega arith in
    rw (
      ← d.byte_0,
      ← d.byte_1,
      ← d.byte_2,
      ← d.byte_3,
      e0,
      e1,
      e2,
      more (4 * i) (omega arith) (omega arith),
      s0,
      more (4 * i + 1) (omega arith) (omega arith),
      s1,
      more (4 * i + 2) (omega arith) (omega arith),
      s2,
      more (4 * i + 3) (omega arith) (omega arith),
      s3,
    )

-- one more number is read
pub read_more : (bytes list : List ℕ) (i : ℕ) → i < length list → take i list ≡ numbers_of bytes i
    → take (i + 1) (set list i (number_at bytes (4 * i))) ≡ numbers_of bytes (i + 1)
unfolding numbers_of up_to
read_more bytes list i h e = rw (add-one i, take-suc-set list i (number_at bytes (4 * i)) h, e)

pub bytes_append : (vs ws : List ℕ) → bytes_of (vs ++ ws) ≡ bytes_of vs ++ bytes_of ws
unfolding bytes_of
bytes_append [] ws = refl
bytes_append (v ∷ vs) ws = rw (bytes_append vs ws)

-- lists of numbers written one behind the other: ws comes behind vs, and of what was there the rest stays
pub fill_next : (s s' vs ws t : List ℕ) (n : ℕ) → n ≡ 4 * length vs → s ≡ bytes_of vs ++ t
    → s' ≡ take n s ++ bytes_of ws ++ drop (n + 4 * length ws) s → s' ≡ bytes_of (vs ++ ws) ++ drop (4 * length ws) t
fill_next s s' vs ws t n e p q =
    let b : length (bytes_of vs) ≡ n = length_bytes vs ∙ sym e in
    q
    ∙ rw (
      p,
      take_at (bytes_of vs) t n b,
      ← drop-drop (4 * length ws) n (bytes_of vs ++ t),
      drop_at (bytes_of vs) t n b,
      bytes_append vs ws,
      append_assoc (bytes_of vs) (bytes_of ws) (drop (4 * length ws) t),
    )

-- the bytes past a number are those of the numbers past it
pub drop_bytes : (k : ℕ) (vs : List ℕ) → drop (4 * k) (bytes_of vs) ≡ bytes_of (drop k vs)
unfolding bytes_of
drop_bytes zero vs = refl
drop_bytes (suc k) [] = drop-nil (4 * suc k)
drop_bytes (suc k) (v ∷ vs) =
    let e : 4 * suc k ≡ suc (suc (suc (suc (4 * k)))) = omega arith in
    rw e (drop_bytes k vs)

-- the first numbers come back from the bytes
pub numbers_front : (vs ws : List ℕ) → Below (2 ^ 32) (vs ++ ws) → numbers_of (bytes_of (vs ++ ws)) (length vs) ≡ vs
unfolding numbers_of
numbers_front vs ws b =
    up_list 0 (λ i. number_at (bytes_of (vs ++ ws)) (4 * i)) vs
    (λ i h. number_packed (vs ++ ws) i (4 * i) b (omega (arith, length-append vs ws)) refl ∙ get_or-append vs ws 0 i h)

pub length_numbers : (bytes : List ℕ) (n : ℕ) → length (numbers_of bytes n) ≡ n
unfolding numbers_of
length_numbers bytes n = length_up (λ i. number_at bytes (4 * i)) n
