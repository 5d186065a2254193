-- A step of the new core over any records and places has one of twelve outcomes: what holds of each holds of every step.
use Prim.Native.Nat.{ℕ, ◌%◌, ◌≤◌}
use native.Mathlib.Omega.{arith}
use mathlib.Core.Path.{◌≡◌, refl}
use mathlib.Core.Bool.{Bool, true, false, ◌||◌}
use mathlib.Core.List.{List}
use mathlib.Core.Option.{Option, none, some}
use lib.Dec.{eqb, leb}
use borrow.Author.Tests.{eqb-true}
use Rattle.numbers.specs.Choice.{pick}
use Rattle.numbers.proofs.Choice.{either}
use Rattle.words.specs.declared.Operand.{Operand}
use Rattle.words.specs.Conditions.{holds_of}
use Rattle.words.specs.Reader.{instruction_of}
use Rattle.machine.specs.Ends.{ending, Next, go, halt, within}
use Rattle.machine.specs.Registers.{address_of}
use Rattle.effects.specs.Effect.{Machine, effect_of}
use Rattle.model.specs.OldCore.{in_image, Transfer, illegal, straight, trap, call, bicc, jmpl, transfer_of}
use Rattle.model.specs.Records.{Rec, do_word, link, hold, go_if, go_to, go_held, stop, unknown, Row}
use Rattle.model.specs.NewCore.{New, new, following, fit, does_word, holds, chooses, seek, lost, goes, stops, does}
use Rattle.model.proofs.Middle.{linked}

module _ (rows : List Row) (base size db : ℕ) (m : Machine) (r h : ℕ) where
  -- what a step does whose record at hand is the first index
  pub data Outcome : Option (Rec ℕ) → Next New → Type 0 where
    -- an end 7
    bad : {o : Option (Rec ℕ)} → Outcome o (halt (ending 7 r))
    -- kind 1: the word's effect, which may end the run
    works : (w : ℕ) → Outcome (some (do_word w)) (within (following r h) (effect_of db (instruction_of w) m))
    -- kind 2
    links : (p : ℕ) → Outcome (some (link p)) (go (following r h (linked m 15 p)))
    -- kind 3: by an address, or misaligned
    keeps : (w p rd rs1 : ℕ) (x : Operand) → Outcome (some (hold w p)) (go (following r (address_of m.registers rs1 x) (linked m rd p)))
    misaligned : (w p rs1 : ℕ) (x : Operand) → Outcome (some (hold w p)) (halt (ending 4 (address_of m.registers rs1 x)))
    -- kind 4: its condition holds, or fails
    taken : (cond to : ℕ) → Outcome (some (go_if cond to)) (go (new m to h))
    untaken : (cond to : ℕ) → Outcome (some (go_if cond to)) (go (following r h m))
    -- kind 5
    moves : (to : ℕ) → Outcome (some (go_to to)) (go (new m to h))
    -- kind 6: found, or not, outside the image or inside
    found : (f : ℕ) → seek rows h ≡ some f → Outcome (some go_held) (go (new m f h))
    outside : Outcome (some go_held) (halt (ending 2 h))
    unplaced : seek rows h ≡ none → in_image base size h ≡ true → Outcome (some go_held) (halt (ending 6 h))
    -- kind 7
    stopped : (e p : ℕ) → (2 ≤ e) × (e ≤ 3) → Outcome (some (stop e p)) (halt (ending e p))

  outcome_hold : (t : Transfer) (w p : ℕ) → Outcome (some (hold w p)) (holds t p m r)
  unfolding holds
  outcome_hold illegal w p = bad
  outcome_hold straight w p = bad
  outcome_hold trap w p = bad
  outcome_hold (call disp) w p = bad
  outcome_hold (bicc cond annul disp) w p = bad
  outcome_hold (jmpl rd rs1 x) w p =
      either (Outcome (some (hold w p))) (eqb (address_of m.registers rs1 x % 4) 0) _ _ (keeps w p rd rs1 x) (misaligned w p rs1 x)

  outcome_choose : (cond to : ℕ) → Outcome (some (go_if cond to)) (chooses cond to m r h)
  unfolding chooses
  outcome_choose cond to =
      either (Outcome (some (go_if cond to))) (leb cond 15) _ _
      (either (λ (s : New). Outcome (some (go_if cond to)) (go s)) (holds_of cond m.flags) _ _ (taken cond to) (untaken cond to)) bad

  outcome_seek : (o : Option ℕ) (b : Bool) → seek rows h ≡ o → in_image base size h ≡ b → Outcome (some go_held) (goes o b m h)
  unfolding goes lost
  outcome_seek (some f) b q i = found f q
  outcome_seek none true q i = unplaced q i
  outcome_seek none false q i = outside

  outcome_stop : (e p : ℕ) (a b : Bool) → eqb e 2 ≡ a → eqb e 3 ≡ b → Outcome (some (stop e p)) (pick (a || b) (halt (ending e p)) (halt (ending 7 r)))
  outcome_stop e p true b i j = stopped e p (omega (arith, eqb-true e 2 i))
  outcome_stop e p false true i j = stopped e p (omega (arith, eqb-true e 3 j))
  outcome_stop e p false false i j = bad

  pub outcome : (o : Option (Rec ℕ)) → Outcome o (does rows base size db o m r h)
  unfolding does does_word stops
  outcome none = bad
  outcome (some (do_word w)) = either (Outcome (some (do_word w))) (fit (transfer_of (instruction_of w))) _ _ (works w) bad
  outcome (some (link p)) = links p
  outcome (some (hold w p)) = outcome_hold (transfer_of (instruction_of w)) w p
  outcome (some (go_if cond to)) = outcome_choose cond to
  outcome (some (go_to to)) = moves to
  outcome (some go_held) = outcome_seek (seek rows h) (in_image base size h) refl refl
  outcome (some (stop e p)) = outcome_stop e p (eqb e 2) (eqb e 3) refl refl
  outcome (some unknown) = bad
