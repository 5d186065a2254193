-- Lists of numbers below a bound, and the bounds of numbers in lists of bytes.
use Rattle.std.proofs.Common.{ℕ, zero, suc, ◌+◌, ◌-◌, ◌/◌, ◌%◌, ◌^◌, ◌<◌, ◌≤◌, ltb, List, [], ◌∷◌, ◌++◌, get_or, take, drop, set, arith}
use Rattle.numbers.specs.Number.{Below, plus, minus, signed, number_at, put_number, up_to, bytes_of}
use Rattle.numbers.proofs.Choice.{either}

pub below_get : (n : ℕ) (l : List ℕ) (i : ℕ) → 0 < n → Below n l → get_or l i 0 < n
below_get n [] i z b = z
below_get n (v ∷ vs) zero z b = b.0
below_get n (v ∷ vs) (suc i) z b = below_get n vs i z b.1

pub below_append : (n : ℕ) (l m : List ℕ) → Below n l → Below n m → Below n (l ++ m)
below_append n [] m a b = b
below_append n (v ∷ vs) m a b = (a.0, below_append n vs m a.1 b)

pub below_set : (n : ℕ) (l : List ℕ) (i v : ℕ) → v < n → Below n l → Below n (set l i v)
below_set n [] i v h b = tt
below_set n (x ∷ xs) zero v h b = (h, b.1)
below_set n (x ∷ xs) (suc i) v h b = (b.0, below_set n xs i v h b.1)

pub below_take : (n k : ℕ) (l : List ℕ) → Below n l → Below n (take k l)
below_take n zero l b = tt
below_take n (suc k) [] b = tt
below_take n (suc k) (x ∷ xs) b = (b.0, below_take n k xs b.1)

pub below_drop : (n k : ℕ) (l : List ℕ) → Below n l → Below n (drop k l)
below_drop n zero l b = b
below_drop n (suc k) [] b = tt
below_drop n (suc k) (x ∷ xs) b = below_drop n k xs b.1

pub below_up : (n : ℕ) (f : ℕ → ℕ) (k : ℕ) → ((i : ℕ) → f i < n) → Below n (up_to f k)
unfolding up_to
below_up n f zero h = tt
below_up n f (suc k) h = below_append n (up_to f k) (f k ∷ []) (below_up n f k h) (h k, tt)

pub below_bytes : (vs : List ℕ) → Below 256 (bytes_of vs)
unfolding bytes_of
below_bytes [] = tt
below_bytes (v ∷ vs) = (omega arith, (omega arith, (omega arith, (omega arith, below_bytes vs))))

pub number_lt : (bs : List ℕ) (at : ℕ) → Below 256 bs → number_at bs at < 2 ^ 32
unfolding number_at
number_lt bs at b =
    omega (
      arith,
      below_get 256 bs at (omega arith) b,
      below_get 256 bs (at + 1) (omega arith) b,
      below_get 256 bs (at + 2) (omega arith) b,
      below_get 256 bs (at + 3) (omega arith) b,
    )

pub put_below : (l : List ℕ) (at v : ℕ) → Below 256 l → Below 256 (put_number l at v)
unfolding put_number
put_below l at v b =
    let l0 = set l at (v / 2 ^ 24 % 256) in
    let l1 = set l0 (at + 1) (v / 2 ^ 16 % 256) in
    let l2 = set l1 (at + 2) (v / 2 ^ 8 % 256) in
    let b0 = below_set 256 l at (v / 2 ^ 24 % 256) (omega arith) b in
    let b1 = below_set 256 l0 (at + 1) (v / 2 ^ 16 % 256) (omega arith) b0 in
    let b2 = below_set 256 l1 (at + 2) (v / 2 ^ 8 % 256) (omega arith) b1 in
    below_set 256 l2 (at + 3) (v % 256) (omega arith) b2

pub plus_lt : (a b : ℕ) → plus a b < 2 ^ 32
unfolding plus
plus_lt a b = omega arith

pub minus_lt : (a b : ℕ) → minus a b < 2 ^ 32
unfolding minus
minus_lt a b = omega arith

-- a number of so many bits, at most 32, its sign extended
pub extended_lt : (bits v : ℕ) → v < 2 ^ bits → 2 ^ bits ≤ 2 ^ 32 → signed bits v < 2 ^ 32
unfolding signed
extended_lt bits v h l =
    either (λ (x : ℕ). x < 2 ^ 32) (ltb v (2 ^ (bits - 1))) v (v + (2 ^ 32 - 2 ^ bits)) (omega arith) (omega arith)
