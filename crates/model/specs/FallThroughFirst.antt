-- 02, N6, The fall-through first: the numbers that a conditional branch's followers take, held to its words.
use Rattle.std.specs.Prelude.{ℕ, suc, ◌<◌, ◌≡◌, Bool, false, List, [], ◌∷◌, ◌++◌, length}
use Rattle.std.proofs.Math.Option.{some}
use Rattle.numbers.specs.Choice.{pick}
use Rattle.numbers.specs.Number.{plus}
use Rattle.words.specs.Reader.{instruction_of}
use Rattle.words.specs.declared.Instruction.TheVariants.{Bicc}
use Rattle.model.specs.declared.Place.{Place}
use Rattle.model.specs.declared.Place.TheVariants.{Pair}
use Rattle.model.specs.OldCore.{word_in, target}
use Rattle.model.specs.Places.{plain, same_place, member, followers}
use Rattle.model.specs.Walk.{table, grow}

-- two places, neither in a table yet, and room for both
pub record TwoNew (cap : ℕ) (ps : List Place) (x y : Place) : Type 0 where
  pub first_new : member ps x ≡ false
  pub second_new : member ps y ≡ false
  pub apart : same_place x y ≡ false
  pub room : suc (length ps) < cap

-- "Where a conditional branch finds two new followers together, .. the fall-through shall have" the smaller number: it takes the next one, and
-- the place taken, (n, t), the one after that
unfoldable pub FallThroughFirst : Type 0
FallThroughFirst =
    (image : List ℕ) (base p n word cond : ℕ) (annul : Bool) (disp : ℕ) → word_in image base p ≡ some word → instruction_of word ≡ Bicc cond annul disp
    → (cond ≡ 0 → ⊥) → (cond ≡ 8 → ⊥)
    → let fallThrough = plain (pick annul (plus n 4) n) in
    let taken = Pair n (target p disp) in
    (cap : ℕ) (ps : List Place) → TwoNew cap ps fallThrough taken
    → grow cap ps (followers image base (Pair p n)) ≡ table (ps ++ (fallThrough ∷ taken ∷ []))
