-- Text as lists of bytes, in ASCII: decimal numbers, lines of numbers, and text put into a buffer.
use Rattle.std.specs.Prelude.{ℕ, zero, suc, ◌+◌, ◌/◌, ◌%◌, ◌≤◌, ◌≡◌, Bool, true, false, List, [], ◌∷◌, ◌++◌, ltb, length, take, drop}
use Rattle.numbers.specs.Choice.{pick}
use Rattle.listing.specs.declared.text.Text.{Text}

-- the decimal digits of a number, the most significant first; n bounds how many there are
unfoldable pub decimal_by : ℕ → ℕ → List ℕ
decimal_by zero v = []
decimal_by (suc n) v =
    let more = decimal_by n (v / 10) ++ ((48 + v % 10) ∷ []) in
    pick (ltb v 10) ((48 + v) ∷ []) more

unfoldable pub decimal : ℕ → List ℕ
decimal v = decimal_by (suc v) v

-- a space before another number, the line's end after the last
unfoldable pub separator : Bool → ℕ
separator true = 32
separator false = 10

abbrev pub some_left : List ℕ → Bool
some_left [] = false
some_left (v ∷ vs) = true

unfoldable pub line_of : List ℕ → List ℕ
line_of [] = []
line_of (v ∷ vs) = decimal v ++ (separator (some_left vs) ∷ line_of vs)

-- a buffer with a text at a position
unfoldable pub inserted : List ℕ → ℕ → List ℕ → List ℕ
inserted out at text = take at out ++ text ++ drop (at + length text) out

-- a text was put at a position, of at most so many bytes, in a buffer that keeps its length, and r is the position past it
pub record Written (out : List ℕ) (at : ℕ) (text : List ℕ) (most : ℕ) (out' : List ℕ) (r : ℕ) : Type 0 where
  pub bytes : out' ≡ inserted out at text
  pub end : r ≡ at + length text
  pub fits : length text ≤ most
  pub kept : length out' ≡ length out

-- a text was put behind what a buffer holds, of at most so many bytes
pub record Put (before : Text) (text : List ℕ) (most : ℕ) (after : Text) : Type 0 where
  pub same_reference : after.out.ghost_name ≡ before.out.ghost_name
  pub written : Written before.out.now before.len text most after.out.now after.len
