-- 02, N2: "Every instruction not refused reads back from its word, and every known word is written again bit for bit." So each known word has
-- one instruction, and each instruction that is not refused one word.
use Rattle.std.specs.Prelude.{ℕ, ◌^◌, ◌<◌, ◌≡◌, Ok}
use Rattle.words.specs.declared.Instruction.{Instruction}
use Rattle.words.specs.declared.Instruction.TheVariants.{Illegal}
use Rattle.words.specs.Reader.{instruction_of}
use Rattle.words.specs.Writer.{written_of}

abbrev pub ReadsBack : Type 0
ReadsBack = (i : Instruction) (word : ℕ) → written_of i ≡ Ok word → instruction_of word ≡ i

abbrev pub WritesAgain : Type 0
WritesAgain = (word : ℕ) → word < 2 ^ 32 → (instruction_of word ≡ Illegal → ⊥) → written_of (instruction_of word) ≡ Ok word
