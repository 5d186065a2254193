-- 02, N1, Library calls that return records: the place that "the callee returns" to, held to its words.
use Rattle.std.specs.Prelude.{ℕ, ◌+◌, ◌*◌, ◌^◌, ◌<◌, ◌≡◌, List, [], ◌∷◌}
use Rattle.std.proofs.Math.Option.{some}
use Rattle.numbers.specs.Number.{Below, plus}
use Rattle.words.specs.Reader.{instruction_of}
use Rattle.words.specs.declared.Operand.{Operand}
use Rattle.words.specs.declared.Instruction.{Instruction}
use Rattle.words.specs.declared.Instruction.TheVariants.{Call, Jmpl}
use Rattle.model.specs.declared.Place.{Place}
use Rattle.model.specs.declared.Place.TheVariants.{Pair, Held}
use Rattle.model.specs.OldCore.{word_in}
use Rattle.model.specs.Places.{plain, place_at, followers, Makes}

-- "a call, or a jmpl with rd not 0"
pub data Links : Instruction → Type 0 where
  by_call : (disp : ℕ) → Links (Call disp)
  by_jmpl : (rd rs1 : ℕ) (x : Operand) → (rd ≡ 0 → ⊥) → Links (Jmpl rd rs1 x)

-- "bits 31, 30 and 24 to 22 all 0", which leaves a word bits 29 to 25 and 21 to 0
pub record Unimp (word : ℕ) : Type 0 where
  pub high : ℕ
  pub low : ℕ
  pub high_bits : high < 2 ^ 5
  pub low_bits : low < 2 ^ 22
  pub equal : word ≡ high * 2 ^ 25 + low

-- "the word at p + 8 is in the image with" these bits
abbrev pub UnimpBehind : List ℕ → ℕ → ℕ → Type 0
UnimpBehind image base p = (word : ℕ) × ((word_in image base (plus p 8) ≡ some word) × Unimp word)

-- the place (p, n) names its delay slot, then plain p + 8, "right after" it these, and no other
pub record Names (image : List ℕ) (base p n : ℕ) (rest : List Place) : Type 0 where
  pub slot : Place
  pub in_slot : place_at slot ≡ n
  pub named : followers image base (Pair p n) ≡ slot ∷ plain (plus p 8) ∷ rest

-- "the place at p names plain p + 12 right after plain p + 8", whatever its next, and where no unimp stands it does not. Where it does, plain p + 12
-- is made; so it is in the table (`all_of_them`), and no trail closes with 6 there (`six` in `Demand3`).
pub record ReturnsPast (image : List ℕ) (base p n : ℕ) : Type 0 where
  pub past : UnimpBehind image base p → Names image base p n (plain (plus p 12) ∷ [])
  pub not_past : ¬ UnimpBehind image base p → Names image base p n []
  pub made : (entries : List ℕ) → Makes image base entries (Pair p n) → UnimpBehind image base p → Makes image base entries (plain (plus p 12))

-- "Where a call, or a jmpl with rd not 0, stands at p"; a jmpl with rd 0 names its delay slot alone
unfoldable pub RecordCalls : Type 0
RecordCalls =
    (image : List ℕ) (base p n word : ℕ) → Below 256 image → word_in image base p ≡ some word
    → (Links (instruction_of word) → ReturnsPast image base p n)
    × ((rs1 : ℕ) (x : Operand) → instruction_of word ≡ Jmpl 0 rs1 x → followers image base (Pair p n) ≡ Held n ∷ [])
