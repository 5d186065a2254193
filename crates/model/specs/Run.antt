-- Steps and runs of either core. `next` says what a step does to a state that has not ended.
use Rattle.std.specs.Prelude.{ℕ, zero, suc, List, take, drop, set}
use Rattle.machine.specs.Ends.{ending, Next, State, state, settle}

-- 01, The old core: "A step of either core on an ended state changes nothing."
unfoldable pub step : {S : Type 0} → (S → Next S) → State S → State S
step next (state s (ending zero v)) = settle s (next s)
step next (state s (ending (suc n) v)) = state s (ending (suc n) v)

-- 01, Records: "a run of a given count does that many of these steps, or fewer where it ends"
unfoldable pub run : {S : Type 0} → (S → Next S) → ℕ → State S → State S
run next zero x = x
run next (suc n) x = run next n (step next x)

-- 01, The old core: "Register 0 reads and shows as 0."
unfoldable pub zeroed : List ℕ → List ℕ
zeroed rs = set rs 0 0

-- 01, The old core: "Data is one lent area of 0 to 65,536 bytes ..; bytes past that are no part of it."
abbrev pub data_of : List ℕ → List ℕ
data_of area = take 65536 area

abbrev pub beyond : List ℕ → List ℕ
beyond area = drop 65536 area

-- a state over a lent area, with the bytes that are no part of the data
pub record Lent (S : Type 0) : Type 0 where
  pub core : State S
  pub rest : List ℕ

abbrev pub lent : {S : Type 0} → State S → List ℕ → Lent S
lent x rest = record { core = x; rest = rest }
