-- 02, N2, on the bytes of both calls: "Every instruction not refused reads back from its word, and every known word is written again bit for bit."
use Rattle.std.specs.Prelude.{ℕ, ◌^◌, ◌<◌, ◌≡◌, Bool, not, ◌&&◌, ◌||◌, List, [], ◌∷◌, eqb, leb}
use Rattle.numbers.specs.Choice.{pick}
use Rattle.numbers.specs.Number.{Below, number_at, bytes_of}
use Rattle.words.specs.Conditions.{bit_of}
use Rattle.pijorrel_words.specs.Forms.{writes, reads}

-- annul and the mark of a constant: any number but 0 counts as 1
unfoldable pub counted : ℕ → ℕ
counted n = bit_of (not (eqb n 0))

-- rs1 and a second operand stand in formats 2 and 3, whose forms are 128 and above, but for rdy
unfoldable pub has_operand : ℕ → Bool
has_operand form = leb 128 form && not (eqb form 168)

-- Six numbers in normal form: a number that the form does not have is 0. Annul is Bicc's; all but call and wry have rd or a condition; all but
-- rdy have a constant, a second register or a displacement.
unfoldable pub normal_of : ℕ → ℕ → ℕ → ℕ → ℕ → ℕ → List ℕ
normal_of form annul rd rs1 mark v =
    form
    ∷ pick (eqb form 2) (counted annul) 0
    ∷ pick (eqb form 64 || eqb form 176) 0 rd
    ∷ pick (has_operand form) rs1 0
    ∷ pick (has_operand form) (counted mark) 0
    ∷ pick (eqb form 168) 0 v
    ∷ []

unfoldable pub normal : List ℕ → List ℕ
normal s = bytes_of (normal_of (number_at s 0) (number_at s 4) (number_at s 8) (number_at s 12) (number_at s 16) (number_at s 20))

-- what was written is read in normal form
abbrev pub ReadsBack : Type 0
ReadsBack = (s : List ℕ) (word : ℕ) → Below 256 s → writes s ≡ 0 ∷ word ∷ [] → reads word ≡ normal s

-- a word whose form is not 0 when read is written again
abbrev pub WritesAgain : Type 0
WritesAgain = (word : ℕ) → word < 2 ^ 32 → (number_at (reads word) 0 ≡ 0 → ⊥) → writes (reads word) ≡ 0 ∷ word ∷ []
