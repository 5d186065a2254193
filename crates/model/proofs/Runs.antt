-- Laws of runs: a run continued from here is the run from the start.
use Rattle.machine.specs.declared.End.TheVariants.{TrapTaken, Outside, IllegalWord, Misaligned, Unfit, NoPlace, BadRecord, TooManySaves, TooManyRestores}
use Rattle.machine.specs.declared.End.{End}
use borrow.Author.Tests.{leb-true, leb-false}
use lib.Seq.{take_all, take_at, drop_at, length-take-le}
use lib.ListN.{length, take, drop, drop_of_length-le}
use lib.Dec.{leb}
use mathlib.Core.List.{List, [], ◌++◌, append-nil}
use mathlib.Core.Bool.{Bool, true, false}
use Prim.Native.Nat.{ℕ, zero, suc, ◌+◌, ◌-◌, ◌<◌, ◌≤◌, min}
use mathlib.Core.Path.{◌≡◌, ap, ◌∙◌, refl}
use native.Mathlib.Omega.{arith}
use Rattle.machine.specs.Ends.{Next, State, state, live, settle, ending_of}
use Rattle.model.specs.Run.{step, run, data_of, beyond, lent}

-- n − i steps are left of n; one of them is done
pub run_on : {S : Type 0} (next : S → Next S) (n i : ℕ) (x y z : State S) → i < n → run next (n - i) x ≡ z → y ≡ step next x
    → run next (n - (i + 1)) y ≡ z
unfolding run
run_on next n i x y z l h e =
    let k : n - i ≡ suc (n - (i + 1)) = omega arith in
    rw e (rw k at h)

-- none is left
pub run_done : {S : Type 0} (next : S → Next S) (n i : ℕ) (x z : State S) → n ≤ i → run next (n - i) x ≡ z → x ≡ z
unfolding run
run_done next n i x z l h = let k : n - i ≡ 0 = omega arith in rw k at h

-- a run over the data of a lent area, told of the whole area: the data is the first n bytes, d what the run left of them
pub lent_back : {S : Type 0} (next : S → Next S) (count : ℕ) (at-data at-end : List ℕ → State S) (l d : List ℕ) (n : ℕ)
    → n ≡ min (length l) 65536 → length d ≡ length (take n l) → at-end d ≡ run next count (at-data (take n l))
    → lent (at-end (data_of (d ++ drop n l))) (beyond (d ++ drop n l)) ≡ lent (run next count (at-data (data_of l))) (beyond l)
lent_back next count at-data at-end l d n e k h = go (leb (length l) 65536) refl
  where
    go : (t : Bool) → leb (length l) 65536 ≡ t
        → lent (at-end (data_of (d ++ drop n l))) (beyond (d ++ drop n l)) ≡ lent (run next count (at-data (data_of l))) (beyond l)
    go true t =
        let p : length l ≤ 65536 = leb-true (length l) 65536 t in
        let q : n ≡ length l = omega arith in
        let w : take n l ≡ l = take_all n l (omega arith) in
        let z : drop n l ≡ [] = drop_of_length-le l {i = n} (omega arith) in
        let m : length d ≡ length l = k ∙ ap length w in
        let f : at-end d ≡ run next count (at-data l) = h ∙ ap (λ (x : List ℕ). run next count (at-data x)) w in
        rw (z, append-nil d, take_all 65536 d (omega arith), take_all 65536 l p, drop_of_length-le d {i = 65536} (omega arith), drop_of_length-le l {i = 65536} p, f)
    go false t =
        let p : 65536 < length l = leb-false (length l) 65536 t in
        let q : n ≡ 65536 = omega arith in
        let m : length d ≡ 65536 = k ∙ ap (λ (x : ℕ). length (take x l)) q ∙ length-take-le 65536 l (omega arith) in
        let f : at-end d ≡ run next count (at-data (take 65536 l)) = h ∙ ap (λ (x : ℕ). run next count (at-data (take x l))) q in
        rw (q, take_at d (drop 65536 l) 65536 m, drop_at d (drop 65536 l) 65536 m, f)

-- a step on an ended state changes nothing
pub ended_stays : {S : Type 0} (next : S → Next S) (s : S) (e : End) → state s (ending_of e) ≡ step next (state s (ending_of e))
unfolding step ending_of
ended_stays next s (TrapTaken v) = refl
ended_stays next s (Outside v) = refl
ended_stays next s (IllegalWord v) = refl
ended_stays next s (Misaligned v) = refl
ended_stays next s (Unfit v) = refl
ended_stays next s (NoPlace v) = refl
ended_stays next s (BadRecord v) = refl
ended_stays next s (TooManySaves v) = refl
ended_stays next s (TooManyRestores v) = refl

-- and so the rest of its run
pub run_ended : {S : Type 0} (next : S → Next S) (n : ℕ) (s : S) (e : End) (z : State S) → run next n (state s (ending_of e)) ≡ z → state s (ending_of e) ≡ z
unfolding run
run_ended next zero s e z k = k
run_ended next (suc n) s e z k = run_ended next n s e z (rw (← ended_stays next s e) at k)

-- a step on a state that goes on
pub step_going : {S : Type 0} (next : S → Next S) (s : S) → settle s (next s) ≡ step next (live s)
unfolding step
step_going next s = refl
