-- A state's bytes, read into a file and written from one.
use Prim.Native.Nat.{ℕ, ◌+◌, ◌-◌, ◌*◌}
use native.Mathlib.Omega.{arith}
use mathlib.Core.Path.{◌≡◌, refl, ◌∙◌}
use mathlib.Core.List.{List, [], ◌++◌, append-nil, append_assoc}
use lib.ListN.{length, take, drop, length-append, length-drop, drop_of_length-le}
use lib.Seq.{take_all, take_at, drop_at}
use Rattle.numbers.specs.Number.{numbers_of, bytes_of}
use Rattle.numbers.proofs.Number.{fill_next, length_numbers}
use Rattle.machine.specs.Registers.{file_size}
use Rattle.model.specs.StateBytes.{file_in}

-- the registers are read over the first part of a file, and what is behind them over the rest, t, of it
module _ (bytes t p : List ℕ) (at : ℕ) (h : length t ≡ file_size - 32) (e : p ≡ numbers_of bytes 32) where
  front_length : length p ≡ 32
  front_length = rw e (length_numbers bytes 32)

  pub behind_count : length (p ++ t) - 32 ≡ file_size - 32
  behind_count = omega (arith, length-append p t, front_length)

  counted : (q : List ℕ) → q ≡ numbers_of (take (length bytes - at) (drop at bytes)) (length (take (file_size - 32) (drop 32 (p ++ t))))
      → take 32 (p ++ t) ++ (q ++ drop (file_size - 32) (drop 32 (p ++ t))) ≡ file_in at bytes
  unfolding file_in
  counted q g =
      let d : drop 32 (p ++ t) ≡ t = drop_at p t 32 front_length in
      let z : drop (file_size - 32) t ≡ [] = drop_of_length-le t {i = file_size - 32} (omega arith) in
      let all : take (length bytes - at) (drop at bytes) ≡ drop at bytes = take_all (length bytes - at) (drop at bytes) (omega (arith, length-drop at bytes)) in
      let n : length (take (file_size - 32) (drop 32 (p ++ t))) ≡ file_size - 32 = rw (d, take_all (file_size - 32) t (omega arith)) h in
      let k : q ≡ numbers_of (drop at bytes) (file_size - 32) = rw (n, all) at g in
      rw (take_at p t 32 front_length, d, z, append-nil q, k, e)

  pub file_read : (n : ℕ) → n ≡ file_size - 32 → (q : List ℕ) → q ≡ numbers_of (take (length bytes - at) (drop at bytes)) (length (take n (drop 32 (p ++ t))))
      → take 32 (p ++ t) ++ (q ++ drop n (drop 32 (p ++ t))) ≡ file_in at bytes
  file_read n f q g = rw f (counted q (rw f at g))

-- three lists of numbers, one behind the other, fill the bytes
pub fill_state : (s s1 s2 s3 front between behind : List ℕ) (n : ℕ) → length front ≡ 32 → n ≡ 128 + 4 * length between → length s ≡ n + 4 * length behind
    → s1 ≡ take 0 s ++ bytes_of front ++ drop (0 + 4 * length front) s
    → s2 ≡ take 128 s1 ++ bytes_of between ++ drop (128 + 4 * length between) s1
    → s3 ≡ take n s2 ++ bytes_of behind ++ drop (n + 4 * length behind) s2
    → s3 ≡ bytes_of (front ++ (between ++ behind))
unfolding bytes_of
fill_state s s1 s2 s3 front between behind n f e l p q r =
    let a : s1 ≡ bytes_of front ++ drop (4 * length front) s = fill_next s s1 [] front s 0 refl refl p in
    let b : s2 ≡ bytes_of (front ++ between) ++ drop (4 * length between) (drop (4 * length front) s) =
    fill_next s1 s2 front between (drop (4 * length front) s) 128 (omega arith) a q in
    let m : n ≡ 4 * length (front ++ between) = omega (arith, length-append front between) in
    let c : s3 ≡ bytes_of ((front ++ between) ++ behind) ++ drop (4 * length behind) (drop (4 * length between) (drop (4 * length front) s)) =
    fill_next s2 s3 (front ++ between) behind (drop (4 * length between) (drop (4 * length front) s)) n m b r in
    let z : drop (4 * length behind) (drop (4 * length between) (drop (4 * length front) s)) ≡ [] =
    drop_of_length-le (drop (4 * length between) (drop (4 * length front) s)) {i = 4 * length behind}
    (omega (arith, length-drop (4 * length between) (drop (4 * length front) s), length-drop (4 * length front) s)) in
    c ∙ rw (z, append-nil (bytes_of ((front ++ between) ++ behind)), append_assoc front between behind)
