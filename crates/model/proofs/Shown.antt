-- What an entry shows of a machine: register 0 as 0, registers 1 to 31, Y, the nesting, every window, the flags, the data; and what a run begins
-- with.
use Prim.Native.Nat.{ℕ, zero, suc, ◌+◌, ◌-◌, ◌≤◌, ◌<◌}
use native.Mathlib.Omega.{arith}
use native.Mathlib.Numerals.{add-one}
use mathlib.Core.Path.{◌≡◌, refl, sym, ap, ◌∙◌}
use mathlib.Core.List.{List, [], ◌∷◌}
use lib.ListN.{length, get_or, set}
use lib.Seq.{take_all, take-take, ext_get_or}
use Rattle.numbers.specs.Number.{up_to}
use Rattle.numbers.proofs.Lists.{length_up, get_up, up_list}
use Rattle.machine.specs.Registers.{file_size}
use Rattle.windows.specs.Windows.{nesting_of, laid, Held, come_in}
use Rattle.effects.specs.Effect.{Machine, machine}
use Rattle.effects.proofs.Bounds.{Sound}
use Rattle.windows.proofs.Ring.{laid_low, laid_free, laid_own, laid_length, laid_nesting, covered, free, Covered, covers, shown_in, held_in}
use Rattle.model.specs.Run.{zeroed, data_of}
use Rattle.model.specs.Trails.{whole_file, shown_of}
use Rattle.model.specs.Cores.{begun_with}
use Rattle.model.specs.StateBytes.{file_in}
use Rattle.model.proofs.RoundTrip.{set_same, length_file}

-- registers as shown: register 0 as 0, the others by their index
zeroed_shown : (l : List ℕ) → length l ≡ file_size → whole_file l ≡ set l 0 0
zeroed_shown [] e = let z : ◌≡◌ {A = ℕ} 0 1 = cc in absurd (omega arith)
zeroed_shown (x ∷ l) e =
    let k : length l ≡ file_size - 1 = omega arith in
    let same : up_to (λ i. get_or (x ∷ l) (i + 1) 0) (length l) ≡ l = up_list 0 (λ i. get_or (x ∷ l) (i + 1) 0) l (λ i h. rw (add-one i)) in
    ap {B = List ℕ} (λ r. 0 ∷ r) (rw k at same)

whole_same : (l : List ℕ) → length l ≡ file_size → get_or l 0 0 ≡ 0 → whole_file l ≡ l
whole_same l e z = zeroed_shown l e ∙ set_same l z

pub shown_sound : (n : ℕ) (m : Machine) → Sound n m → n ≤ 65536 → shown_of m ≡ machine (laid m.registers) m.flags m.area
unfolding shown_of
shown_sound n m s l = rw (whole_same m.registers s.whole s.zero, take_all 65536 m.area (omega (arith, s.sized)))

-- laid down once more, a file is the same
laid_again : (rs : List ℕ) → length rs ≡ file_size → laid (laid rs) ≡ laid rs
laid_again rs l = ext_get_or 0 (laid (laid rs)) (laid rs) (laid_length (laid rs)) (λ i h. same i (covers (nesting_of rs) i))
  where
    same : (i : ℕ) → Covered (nesting_of rs) i → get_or (laid (laid rs)) i 0 ≡ get_or (laid rs) i 0
    same i (covered k h e) =
        rw e (rw (laid_nesting rs) at (laid_own (laid rs) (laid_length rs ∙ l) k h) ∙ laid_low rs (8 + k) (omega arith) ∙ sym (laid_own rs l k h))
    same i (free f) = laid_free (laid rs) i (λ k h e. f k h (rw (laid_nesting rs) at e))

-- what is shown shows itself
pub shown_again : (n : ℕ) (m : Machine) → Sound n m → n ≤ 65536 → shown_of (shown_of m) ≡ shown_of m
unfolding shown_of
shown_again n m s l =
    let rs : List ℕ = m.registers in
    rw (
      whole_same rs s.whole s.zero,
      whole_same (laid rs) (laid_length rs ∙ s.whole) (laid_low rs 0 (omega arith) ∙ s.zero),
      laid_again rs s.whole,
      take-take 65536 65536 m.area (omega arith),
    )

pub start_begun : (at : ℕ) (bs : List ℕ) (f : ℕ) (l : List ℕ) → begun_with (machine (file_in at bs) f l) ≡ machine (come_in (zeroed (file_in at bs))) f (data_of l)
unfolding begun_with zeroed
start_begun at bs f l = rw (zeroed_shown (file_in at bs) (length_file at bs))

-- a run begins with a file as runs have it, and what is shown of that begins it again
pub whole_length : (rs : List ℕ) → length (whole_file rs) ≡ file_size
whole_length rs = ap suc (length_up (λ i. get_or rs (i + 1) 0) (file_size - 1))

pub begun_held : (rs : List ℕ) → Held (come_in (whole_file rs))
begun_held rs = held_in (whole_file rs) (whole_length rs) refl

pub begun_shows : (m : Machine) → shown_of (begun_with m) ≡ machine (laid (come_in (whole_file m.registers))) m.flags (data_of m.area)
unfolding shown_of begun_with
begun_shows m =
    let h = begun_held m.registers in
    rw (whole_same (come_in (whole_file m.registers)) h.whole h.zero, take-take 65536 65536 m.area (omega arith))

pub begun_again : (m : Machine) → begun_with (shown_of (begun_with m)) ≡ begun_with m
unfolding begun_with
begun_again m =
    let rs : List ℕ = come_in (whole_file m.registers) in
    let h = begun_held m.registers in
    rw (
      begun_shows m,
      whole_same (laid rs) (laid_length rs ∙ h.whole) (laid_low rs 0 (omega arith) ∙ h.zero),
      shown_in rs h,
      take-take 65536 65536 m.area (omega arith),
    )

-- the others are shown as they are
pub get_other : (rs : List ℕ) (i : ℕ) → 1 ≤ i → i < file_size → get_or (whole_file rs) i 0 ≡ get_or rs i 0
get_other rs zero l h = absurd (omega arith)
get_other rs (suc j) l h = get_up (λ i. get_or rs (i + 1) 0) (file_size - 1) j 0 (omega arith) ∙ ap (λ (z : ℕ). get_or rs z 0) (add-one j)
