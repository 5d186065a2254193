-- 01, Ends of a run.
use Rattle.std.specs.Prelude.{ℕ, eqb, leb, Option, Some, None, Result, Ok, Err}
use Rattle.numbers.specs.Choice.{pick}
use Rattle.machine.specs.declared.End.{End}
use Rattle.machine.specs.declared.End.TheVariants.{TrapTaken, Outside, IllegalWord, Misaligned, Unfit, NoPlace, BadRecord, TooManySaves, TooManyRestores}

-- the number of an end, and the number beside it
pub data Ending : Type 0 where
  ending : ℕ → ℕ → Ending

-- 01's number and value for each case: "1 Ticc taken .. 2 outside the image ..
-- 3 illegal .. 4 misaligned and 5 data access that does not fit .. 6 no place .. 7 a record .." 02, N11: "Two ends are added after 7: 8, too many
-- saves; 9, too many restores, each with the nesting."
unfoldable pub ending_of : End → Ending
ending_of (TrapTaken v) = ending 1 v
ending_of (Outside p) = ending 2 p.0
ending_of (IllegalWord p) = ending 3 p.0
ending_of (Misaligned v) = ending 4 v
ending_of (Unfit v) = ending 5 v
ending_of (NoPlace p) = ending 6 p.0
ending_of (BadRecord r) = ending 7 r.0
ending_of (TooManySaves w) = ending 8 w
ending_of (TooManyRestores w) = ending 9 w

-- how a run stands: where it has no end, "0 still going", and "the number beside it is 0"
unfoldable pub standing_of : Option End → Ending
standing_of None = ending 0 0
standing_of (Some e) = ending_of e

-- of two numbers in a state that no core may have written, an end but 1 to 9 counts as still going
unfoldable pub ending_from : ℕ → ℕ → Ending
ending_from n v = pick (eqb n 0) (ending 0 0) (pick (leb n 9) (ending n v) (ending 0 0))

-- what a word or a step does: the run goes on with what it made, or it ends
pub data Next (S : Type 0) : Type 0 where
  go : S → Next S
  halt : Ending → Next S

-- the same, of a larger thing that holds what was made
unfoldable pub within : {A B : Type 0} → (A → B) → Next A → Next B
within f (go a) = go (f a)
within f (halt e) = halt e

-- a state with how the run ended
pub data State (S : Type 0) : Type 0 where
  state : S → Ending → State S

abbrev pub live : {S : Type 0} → S → State S
live s = state s (ending 0 0)

abbrev pub left : {S : Type 0} → S → Option End → State S
left s e = state s (standing_of e)

-- what an answer says: with the value handed over the run goes on, in the state `on` of it, or it ends in the state s
unfoldable pub answered : {A S : Type 0} → (A → S) → S → Result A End → State S
answered on s (Ok a) = live (on a)
answered on s (Err e) = state s (ending_of e)

-- the same of an answer that hands nothing over
abbrev pub done : {S : Type 0} → S → Result (Unit {0}) End → State S
done s r = answered (λ u. s) s r

-- "Ends 1 to 7 change no register, flag, counter, held address or data." 02, N4, of Y: "no end changes it"; N11, of 8 and 9: "ends the run and
-- changes nothing"
unfoldable pub settle : {S : Type 0} → S → Next S → State S
settle s (go t) = live t
settle s (halt e) = state s e
