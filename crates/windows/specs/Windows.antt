-- 02, N11: "Add V8's windows: eight, of which seven can be in use, so nesting 0 to 6, first 0. .. Ins and outs overlap as V8 draws them."
--
--     window w                   window w + 1, after a save     window w + 2, after another
--     24 to 31  ins
--     16 to 23  locals
--     8 to 15   outs    =======  24 to 31  ins
--                                16 to 23  locals
--                                8 to 15   outs    ===========  24 to 31  ins
--                                                               16 to 23  locals
--                                                               8 to 15   outs
--     0 to 7    globals =======  0 to 7    globals ===========  0 to 7    globals
--
-- The windows lie in a ring of 128 numbers behind Y and the nesting, and the outs of window 7 are the ins of window 0:
--
--     34      42         50      58              146     154        162
--     | ins 0 | locals 0 | ins 1 | locals 1 | .. | ins 7 | locals 7 |
use Rattle.std.specs.Prelude.{ℕ, zero, suc, ◌+◌, ◌-◌, ◌*◌, ◌/◌, ◌%◌, ◌<◌, ◌≤◌, min, ◌≡◌, List, ltb, length, get_or, set}
use Rattle.numbers.specs.Choice.{pick}
use Rattle.words.specs.declared.WindowOperation.{WindowOperation}
use Rattle.words.specs.declared.WindowOperation.TheVariants.{Save, Restore}
use Rattle.machine.specs.Ends.{ending, Next, go, halt}
use Rattle.machine.specs.Registers.{file_size, put_register}

unfoldable pub nesting_of : List ℕ → ℕ
nesting_of rs = get_or rs 33 0

-- the one place of register r of window w: a global's own, or, in the ring, with the ins of w, its locals or the ins of the next window
unfoldable pub place_of : ℕ → ℕ → ℕ
place_of w r = pick (ltb r 8) r (34 + (16 * w + 8 * (3 - r / 8) + r % 8) % 128)

-- a file with so many numbers written, each at its position
unfoldable pub put_each : (ℕ → ℕ) → (ℕ → ℕ) → ℕ → List ℕ → List ℕ
put_each at v zero rs = rs
put_each at v (suc k) rs = set (put_each at v k rs) (at k) (v k)

-- where register 8 + k of window w stands
abbrev pub ring_place : ℕ → ℕ → ℕ
ring_place w k = place_of w (8 + k)

-- The current window lies in registers 8 to 31, and its 24 places are 0 meanwhile. What is shown has it at its places too.
unfoldable pub laid : List ℕ → List ℕ
laid rs = put_each (ring_place (nesting_of rs)) (λ k. get_or rs (8 + k) 0) 24 rs

-- a window's numbers as registers 8 to 31
unfoldable pub taken : ℕ → List ℕ → List ℕ
taken w rs = put_each (λ k. 8 + k) (λ k. get_or rs (ring_place w k) 0) 24 rs

-- a window's places as 0, whatever they were
unfoldable pub cleared : ℕ → List ℕ → List ℕ
cleared w rs = put_each (ring_place w) (λ k. 0) 24 rs

abbrev pub Clear : List ℕ → Type 0
Clear rs = (k : ℕ) → k < 24 → get_or rs (ring_place (nesting_of rs) k) 0 ≡ 0

-- a file as every state of a run has it
pub record Held (rs : List ℕ) : Type 0 where
  pub whole : length rs ≡ file_size
  pub zero : get_or rs 0 0 ≡ 0
  pub clear : Clear rs
  pub nesting : nesting_of rs ≤ 6

-- what comes in: "a nesting handed in above 6 counts as 6", and what repeats the current window is not looked at
unfoldable pub nested : List ℕ → List ℕ
nested rs = set rs 33 (min (nesting_of rs) 6)

unfoldable pub come_in : List ℕ → List ℕ
come_in rs = cleared (min (nesting_of rs) 6) (nested rs)

-- another window becomes the current one
unfoldable pub turned : ℕ → List ℕ → List ℕ
turned v rs = set (cleared v (taken v (laid rs))) 33 v

-- "Save and restore add like add, reading in the old window and writing rd in the new. A save at 6 or a restore at 0 ends the run and changes
-- nothing. .. 8, too many saves; 9, too many restores, each with the nesting." The sum t was read before
unfoldable pub window_of : WindowOperation → ℕ → ℕ → List ℕ → Next (List ℕ)
window_of Save rd t rs = pick (ltb (nesting_of rs) 6) (go (put_register (turned (nesting_of rs + 1) rs) rd t)) (halt (ending 8 (nesting_of rs)))
window_of Restore rd t rs = pick (ltb 0 (nesting_of rs)) (go (put_register (turned (nesting_of rs - 1) rs) rd t)) (halt (ending 9 (nesting_of rs)))
