-- A sound state comes back from its bytes, and any bytes are a sound state's.
use Prim.Native.Nat.{ℕ, suc, ◌+◌, ◌-◌, ◌*◌, ◌%◌, ◌^◌, ◌≤◌, ◌<◌}
use native.Mathlib.Omega.{arith}
use native.Mathlib.Nat.{mod-eq_of_lt}
use mathlib.Core.Path.{◌≡◌, refl, ap, ◌∙◌}
use mathlib.Core.Bool.{Bool, true, false}
use mathlib.Core.List.{List, [], ◌∷◌, ◌++◌, append-nil, append_assoc}
use lib.Dec.{leb}
use lib.ListN.{length, get_or, take, drop, set, length-set, length-append, length-drop, take-append-drop, get_or-append, drop_of_length-le}
use lib.Seq.{take_all, take_at, drop_at, length-take-le}
use borrow.Author.Tests.{leb-true, leb-false, ne_eqb, le-leb}
use Rattle.numbers.specs.Number.{Below, number_at, numbers_of, bytes_of, up_to}
use Rattle.numbers.proofs.Number.{number_packed, length_numbers, drop_bytes, numbers_front}
use Rattle.numbers.proofs.Bounds.{below_append, below_set, below_take, below_drop, below_up, number_lt}
use Rattle.words.specs.Conditions.{bit_of}
use Rattle.machine.specs.Ends.{ending, ending_from}
use Rattle.machine.specs.Registers.{file_size}
use Rattle.windows.specs.Windows.{laid}
use Rattle.effects.specs.Effect.{Machine, machine}
use Rattle.effects.proofs.Bounds.{Sound, SoundEnd, held}
use Rattle.windows.proofs.Ring.{laid_low, laid_length, laid_below, shown_in, in_below, held_in}
use Rattle.machine.proofs.Zero.{Zero, set_zero}
use Rattle.model.specs.Run.{zeroed, data_of, beyond}
use Rattle.model.specs.StateBytes.{is_set, file_in, machine_in, state_numbers}

-- ---------------------------------------------------------------- the data of a lent area
-- a part as long as the data, with what lies beyond it, has that data and that rest
pub data_back : (l a : List ℕ) → length a ≡ length (data_of l) → (data_of (a ++ beyond l) ≡ a) × (beyond (a ++ beyond l) ≡ beyond l)
data_back l a e = go (leb (length l) 65536) refl
  where
    go : (t : Bool) → leb (length l) 65536 ≡ t → (data_of (a ++ beyond l) ≡ a) × (beyond (a ++ beyond l) ≡ beyond l)
    go true t =
        let p : length l ≤ 65536 = leb-true (length l) 65536 t in
        let z : drop 65536 l ≡ [] = drop_of_length-le l {i = 65536} p in
        let k : length a ≤ 65536 = rw (e, take_all 65536 l p) p in
        (rw (z, append-nil a) (take_all 65536 a k), rw (z, append-nil a) (drop_of_length-le a {i = 65536} k))
    go false t =
        let p : 65536 < length l = leb-false (length l) 65536 t in
        let k : length a ≡ 65536 = e ∙ length-take-le 65536 l (omega arith) in
        (take_at a (drop 65536 l) 65536 k, drop_at a (drop 65536 l) 65536 k)

-- ---------------------------------------------------------------- the numbers of a state
get_past : (p q : List ℕ) (j : ℕ) → get_or (p ++ q) (length p + j) 0 ≡ get_or q j 0
get_past [] q j = ap (λ (n : ℕ). get_or q n 0) (omega arith)
get_past (x ∷ p) q j = let e : suc (length p) + j ≡ suc (length p + j) = omega arith in rw e (get_past p q j)

pub set_same : (l : List ℕ) → Zero l → set l 0 0 ≡ l
set_same [] z = refl
set_same (x ∷ l) z = rw z

-- the file of a state's bytes has all its numbers
pub length_file : (behind : ℕ) (bytes : List ℕ) → length (file_in behind bytes) ≡ file_size
unfolding file_in
length_file behind bytes =
    length-append (numbers_of bytes 32) (numbers_of (drop behind bytes) (file_size - 32))
    ∙ rw (length_numbers bytes 32, length_numbers (drop behind bytes) (file_size - 32))

module _ (n : ℕ) (m : Machine) (between : List ℕ) (s : Sound n m) (b : Below (2 ^ 32) between) where
  -- registers, flags, what a core has between, and the rest of the file
  abbrev ns : List ℕ
  ns = state_numbers m between

  abbrev front : List ℕ
  front = take 32 (laid m.registers)

  abbrev behind : List ℕ
  behind = drop 32 (laid m.registers)

  front_length : length front ≡ 32
  front_length = length-take-le 32 (laid m.registers) (omega (arith, laid_length m.registers, s.whole))

  behind_length : length behind ≡ file_size - 32
  behind_length = length-drop 32 (laid m.registers) ∙ omega (arith, laid_length m.registers, s.whole)

  behind_below : Below (2 ^ 32) behind
  behind_below = below_drop (2 ^ 32) 32 (laid m.registers) (laid_below m.registers s.registers)

  all_below : Below (2 ^ 32) ns
  all_below =
      below_append (2 ^ 32) front (m.flags ∷ (between ++ behind)) (below_take (2 ^ 32) 32 (laid m.registers) (laid_below m.registers s.registers))
      (omega (arith, s.flags), below_append (2 ^ 32) between behind b behind_below)

  all_length : length ns ≡ 33 + length between + length behind
  all_length = omega (arith, length-append front (m.flags ∷ (between ++ behind)), length-append between behind, front_length)

  -- number 32 + j of the state
  number_back : (j at : ℕ) → j < 1 + length between + length behind → at ≡ 128 + 4 * j
      → number_at (bytes_of ns) at ≡ get_or (m.flags ∷ (between ++ behind)) j 0
  number_back j at h e =
      let k : 32 + j ≡ length front + j = omega (arith, front_length) in
      number_packed ns (32 + j) at all_below (omega (arith, all_length)) (omega arith) ∙ ap (λ (i : ℕ). get_or ns i 0) k
      ∙ get_past front (m.flags ∷ (between ++ behind)) j

  flags_back : number_at (bytes_of ns) 128 ≡ m.flags
  flags_back = number_back 0 128 (omega arith) (omega arith)

  pub tail_back : (j at : ℕ) → j < length between → at ≡ 132 + 4 * j → number_at (bytes_of ns) at ≡ get_or between j 0
  tail_back j at h e = number_back (suc j) at (omega arith) (omega arith) ∙ get_or-append between behind 0 j h

  -- the file comes back from where the numbers between end
  behind_bytes : (at : ℕ) → at ≡ 132 + 4 * length between → drop at (bytes_of ns) ≡ bytes_of behind
  behind_bytes at e =
      let f : at ≡ 4 * (33 + length between) = omega arith in
      let l : length (front ++ (m.flags ∷ between)) ≡ 33 + length between = omega (arith, length-append front (m.flags ∷ between), front_length) in
      rw (f, drop_bytes (33 + length between) ns, ← append_assoc front (m.flags ∷ between) behind, drop_at (front ++ (m.flags ∷ between)) behind (33 + length between) l)

  file_back : (at : ℕ) → at ≡ 132 + 4 * length between → file_in at (bytes_of ns) ≡ laid m.registers
  unfolding file_in
  file_back at e =
      let f : numbers_of (bytes_of ns) 32 ≡ front = rw front_length at (numbers_front front (m.flags ∷ (between ++ behind)) all_below) in
      let g : numbers_of (bytes_of behind) (file_size - 32) ≡ behind =
      rw (append-nil behind, behind_length) at (numbers_front behind [] (rw (append-nil behind) behind_below)) in
      rw (f, behind_bytes at e, g, take-append-drop 32 (laid m.registers))

  pub machine_back : (at : ℕ) → at ≡ 132 + 4 * length between → machine_in at (bytes_of ns) m.area ≡ m
  unfolding machine_in zeroed
  machine_back at e =
      let f : m.flags % 16 ≡ m.flags = mod-eq_of_lt s.flags in
      let z : get_or (laid m.registers) 0 0 ≡ 0 = laid_low m.registers 0 (omega arith) ∙ s.zero in
      rw (file_back at e, set_same (laid m.registers) z, shown_in m.registers (held n m s), flags_back, f)

  pub shown_back : (at : ℕ) → at ≡ 132 + 4 * length between → machine (file_in at (bytes_of ns)) (number_at (bytes_of ns) 128) m.area ≡ machine (laid m.registers) m.flags m.area
  shown_back at e = rw (file_back at e, flags_back)

-- ---------------------------------------------------------------- annul and the end
pub annul_back : (b : Bool) → is_set (bit_of b) ≡ b
unfolding is_set bit_of
annul_back true = refl
annul_back false = refl

pub end_back : (k v : ℕ) → SoundEnd (ending (suc k) v) → ending_from (suc k) v ≡ ending (suc k) v
unfolding ending_from
end_back k v s = rw (ne_eqb (suc k) 0 (λ e. omega arith), le-leb (suc k) 9 s.1)

-- ---------------------------------------------------------------- any bytes are a sound state's
file_below : (at : ℕ) (bytes : List ℕ) → Below 256 bytes → Below (2 ^ 32) (file_in at bytes)
unfolding file_in numbers_of
file_below at bytes b =
    below_append (2 ^ 32) (up_to (λ i. number_at bytes (4 * i)) 32) (up_to (λ i. number_at (drop at bytes) (4 * i)) (file_size - 32))
    (below_up (2 ^ 32) (λ i. number_at bytes (4 * i)) 32 (λ i. number_lt bytes (4 * i) b))
    (below_up (2 ^ 32) (λ i. number_at (drop at bytes) (4 * i)) (file_size - 32) (λ i. number_lt (drop at bytes) (4 * i) (below_drop 256 at bytes b)))

pub machine_sound : (at : ℕ) (bytes area : List ℕ) → Below 256 bytes → Below 256 area → Sound (length (data_of area)) (machine_in at bytes (data_of area))
unfolding machine_in zeroed
machine_sound at bytes area b d =
    let rs = file_in at bytes in
    let h = held_in (set rs 0 0) (length-set rs 0 0 ∙ length_file at bytes) (set_zero rs) in
    record {
      whole = h.whole;
      registers = in_below (set rs 0 0) (below_set (2 ^ 32) rs 0 0 (omega arith) (file_below at bytes b));
      zero = h.zero;
      clear = h.clear;
      nesting = h.nesting;
      flags = omega arith;
      area = below_take 256 65536 area d;
      sized = refl;
    }
