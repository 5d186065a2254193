-- A run that has ended, or that is still going.
use Rattle.std.specs.Prelude.{Option, Some, None}
use Rattle.std.specs.Option.{is_some}
use mathlib.Core.Bool.{true, false}
use mathlib.Core.Path.{◌≡◌, refl}
use Prim.Native.Nat.{ℕ}
use Rattle.machine.specs.declared.End.{End}
use Rattle.machine.specs.Ends.{Next, live, left, standing_of}
use Rattle.model.specs.Run.{run}
use Rattle.model.proofs.Runs.{run_ended}

pub still_going : {S : Type 0} (s : S) (e : Option End) → is_some e ≡ false → left s e ≡ live s
unfolding standing_of
still_going s None h = refl
still_going s (Some e) h = absurd cc

-- the rest of the run changes nothing
pub is_over : {S : Type 0} (next : S → Next S) (n : ℕ) (s : S) (e : Option End) → is_some e ≡ true → left s e ≡ run next n (left s e)
unfolding standing_of
is_over next n s None h = absurd cc
is_over next n s (Some e) h = run_ended next n s e _ refl
