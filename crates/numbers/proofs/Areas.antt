-- Laws of numbers that are put into a list of bytes, and of the numbers that such a list holds.
use Rattle.std.proofs.Common.{◌≡◌, ℕ, zero, suc, ◌+◌, ◌*◌, ◌/◌, ◌%◌, ◌^◌, ◌<◌, ◌≤◌, List, [], ◌∷◌, ◌++◌, length, get_or, take, drop, set, refl, ap, ◌∙◌, add-one, arith, length-set, drop-cons, get_or-set_other, get_or-set_same, take-add}
use Rattle.numbers.specs.Number.{number_at, put_number, numbers_of, bytes_of, up_to}
use Rattle.numbers.proofs.Number.{bytes_append}

-- the bytes of a list after four stores in a row
module _ (l : List ℕ) (at a b c d : ℕ) where
  abbrev s1 : List ℕ
  s1 = set l at a

  abbrev s2 : List ℕ
  s2 = set s1 (at + 1) b

  abbrev s3 : List ℕ
  s3 = set s2 (at + 2) c

  four : List ℕ
  four = set s3 (at + 3) d

  four_other : (j : ℕ) → (j ≡ at → ⊥) → (j ≡ at + 1 → ⊥) → (j ≡ at + 2 → ⊥) → (j ≡ at + 3 → ⊥) → get_or four j 0 ≡ get_or l j 0
  unfolding four
  four_other j n0 n1 n2 n3 =
      get_or-set_other s3 (at + 3) j d 0 n3 ∙ get_or-set_other s2 (at + 2) j c 0 n2 ∙ get_or-set_other s1 (at + 1) j b 0 n1 ∙ get_or-set_other l at j a 0 n0

  module _ (h : at + 4 ≤ length l) where
    four_0 : get_or four at 0 ≡ a
    unfolding four
    four_0 =
        get_or-set_other s3 (at + 3) at d 0 (omega arith) ∙ get_or-set_other s2 (at + 2) at c 0 (omega arith)
        ∙ get_or-set_other s1 (at + 1) at b 0 (omega arith) ∙ get_or-set_same l at a 0 (omega arith)

    four_1 : get_or four (at + 1) 0 ≡ b
    unfolding four
    four_1 =
        get_or-set_other s3 (at + 3) (at + 1) d 0 (omega arith) ∙ get_or-set_other s2 (at + 2) (at + 1) c 0 (omega arith)
        ∙ get_or-set_same s1 (at + 1) b 0 (simp length-set (omega arith))

    four_2 : get_or four (at + 2) 0 ≡ c
    unfolding four
    four_2 =
        get_or-set_other s3 (at + 3) (at + 2) d 0 (omega arith) ∙ get_or-set_same s2 (at + 2) c 0 (simp length-set (omega arith))

    four_3 : get_or four (at + 3) 0 ≡ d
    unfolding four
    four_3 = get_or-set_same s3 (at + 3) d 0 (simp length-set (omega arith))

-- a number that was put is read back
pub number_put : (l : List ℕ) (at v : ℕ) → at + 4 ≤ length l → v < 2 ^ 32 → number_at (put_number l at v) at ≡ v
unfolding number_at put_number four
number_put l at v h k =
    let a = v / 2 ^ 24 % 256 in
    let b = v / 2 ^ 16 % 256 in
    let c = v / 2 ^ 8 % 256 in
    let d = v % 256 in
    let e : v / 2 ^ 24 % 256 ≡ v / 2 ^ 24 = omega arith in
    rw (four_0 l at a b c d h, four_1 l at a b c d h, four_2 l at a b c d h, four_3 l at a b c d h, e) (omega arith)

-- a number that ends before it, or starts after it, is as it was
module _ (l : List ℕ) (at v j : ℕ) where
  abbrev other : (i : ℕ) → (i ≡ at → ⊥) → (i ≡ at + 1 → ⊥) → (i ≡ at + 2 → ⊥) → (i ≡ at + 3 → ⊥)
      → get_or (four l at (v / 2 ^ 24 % 256) (v / 2 ^ 16 % 256) (v / 2 ^ 8 % 256) (v % 256)) i 0 ≡ get_or l i 0
  other = four_other l at (v / 2 ^ 24 % 256) (v / 2 ^ 16 % 256) (v / 2 ^ 8 % 256) (v % 256)

  pub number_before : j + 4 ≤ at → number_at (put_number l at v) j ≡ number_at l j
  unfolding number_at put_number four
  number_before h =
      rw (
        other j (omega arith) (omega arith) (omega arith) (omega arith),
        other (j + 1) (omega arith) (omega arith) (omega arith) (omega arith),
        other (j + 2) (omega arith) (omega arith) (omega arith) (omega arith),
        other (j + 3) (omega arith) (omega arith) (omega arith) (omega arith),
      )

  pub number_after : at + 4 ≤ j → number_at (put_number l at v) j ≡ number_at l j
  unfolding number_at put_number four
  number_after h =
      rw (
        other j (omega arith) (omega arith) (omega arith) (omega arith),
        other (j + 1) (omega arith) (omega arith) (omega arith) (omega arith),
        other (j + 2) (omega arith) (omega arith) (omega arith) (omega arith),
        other (j + 3) (omega arith) (omega arith) (omega arith) (omega arith),
      )

-- the first numbers of an area depend on these alone
pub numbers_same : (l m : List ℕ) (n : ℕ) → ((i : ℕ) → i < n → number_at l (4 * i) ≡ number_at m (4 * i)) → numbers_of l n ≡ numbers_of m n
unfolding numbers_of up_to
numbers_same l m zero h = refl
numbers_same l m (suc n) h = rw (numbers_same l m n (λ i k. h i (omega arith)), h n (omega arith))

-- one more number is put
pub numbers_put : (l : List ℕ) (n v : ℕ) → 4 * n + 4 ≤ length l → v < 2 ^ 32
    → numbers_of (put_number l (4 * n) v) (n + 1) ≡ numbers_of l n ++ (v ∷ [])
unfolding numbers_of up_to
numbers_put l n v h k =
    let e : numbers_of (put_number l (4 * n) v) n ≡ numbers_of l n =
    numbers_same (put_number l (4 * n) v) l n (λ i m. number_before l (4 * n) v (4 * i) (omega arith)) in
    rw (add-one n, number_put l (4 * n) v h k, e)

-- the bytes of an area's first numbers are its first bytes
digits : (a b c d : ℕ) → a < 256 → b < 256 → c < 256 → d < 256
    → bytes_of ((a * 2 ^ 24 + b * 2 ^ 16 + c * 2 ^ 8 + d) ∷ []) ≡ a ∷ b ∷ c ∷ d ∷ []
unfolding bytes_of
digits a b c d ha hb hc hd =
    let v = a * 2 ^ 24 + b * 2 ^ 16 + c * 2 ^ 8 + d in
    let e0 : v / 2 ^ 24 % 256 ≡ a = omega arith in
    let e1 : v / 2 ^ 16 % 256 ≡ b = omega arith in
    let e2 : v / 2 ^ 8 % 256 ≡ c = omega arith in
    let e3 : v % 256 ≡ d = omega arith in
    rw (e0, e1, e2, e3)

four_of : (l : List ℕ) (k : ℕ) → k + 4 ≤ length l
    → take 4 (drop k l) ≡ get_or l k 0 ∷ get_or l (k + 1) 0 ∷ get_or l (k + 2) 0 ∷ get_or l (k + 3) 0 ∷ []
four_of l k h =
    let e1 : k + 1 ≡ suc k = omega arith in
    let e2 : k + 2 ≡ suc (suc k) = omega arith in
    let e3 : k + 3 ≡ suc (suc (suc k)) = omega arith in
    rw (
      e1,
      e2,
      e3,
      drop-cons l k 0 (omega arith),
      drop-cons l (suc k) 0 (omega arith),
      drop-cons l (suc (suc k)) 0 (omega arith),
      drop-cons l (suc (suc (suc k))) 0 (omega arith),
    )

pub bytes_of_numbers : (l : List ℕ) (n : ℕ) → 4 * n ≤ length l → ((i : ℕ) → get_or l i 0 < 256) → bytes_of (numbers_of l n) ≡ take (4 * n) l
unfolding numbers_of up_to bytes_of number_at
bytes_of_numbers l zero h b = refl
bytes_of_numbers l (suc n) h b =
    let k = 4 * n in
    let e : 4 * suc n ≡ k + 4 = omega arith in
    rw (
      e,
      take-add k 4 l,
      bytes_append (numbers_of l n) (number_at l k ∷ []),
      bytes_of_numbers l n (omega arith) b,
      four_of l k (omega arith),
    )
    (ap (λ (t : List ℕ). take k l ++ t) (digits (get_or l k 0) (get_or l (k + 1) 0) (get_or l (k + 2) 0) (get_or l (k + 3) 0) (b k) (b (k + 1)) (b (k + 2)) (b (k + 3))))
