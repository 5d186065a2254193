-- A run keeps its state sound: 32-bit registers and counters, four flags, bytes of data, an end that is one of 01's.
use Prim.Native.Nat.{ℕ, zero, suc, ◌+◌, ◌*◌, ◌%◌, ◌/◌, ◌^◌, ◌<◌}
use native.Mathlib.Omega.{arith}
use mathlib.Core.Path.{◌≡◌, refl}
use mathlib.Core.Bool.{Bool, true, false, ◌&&◌}
use mathlib.Core.List.{List, [], ◌∷◌, ◌++◌}
use mathlib.Core.Option.{Option, none, some}
use lib.Dec.{eqb, leb}
use lib.ListN.{length, get_elem?}
use borrow.Author.Tests.{leb-true, leb-false}
use Rattle.numbers.proofs.Lists.{at_up, past_up}
use Rattle.numbers.specs.Number.{Below, number_at, up_to}
use Rattle.numbers.proofs.Choice.{either}
use Rattle.numbers.proofs.Bounds.{number_lt, plus_lt}
use Rattle.words.specs.Conditions.{holds_of}
use Rattle.words.specs.Reader.{instruction_of}
use Rattle.words.specs.declared.Instruction.{Instruction}
use Rattle.machine.specs.Ends.{ending, Next, go, halt, within, State, state, settle}
use Rattle.machine.specs.Registers.{address_of}
use Rattle.effects.specs.Effect.{Machine, effect_of}
use Rattle.effects.proofs.Bounds.{Sound, SoundEnd, Leaves, leaves_within, put_sound, address_lt, fits_in, word_fits, effects_sound}
use Rattle.model.specs.Run.{step, run}
use Rattle.model.specs.OldCore.{Old, old, word_in, Transfer, illegal, straight, trap, call, bicc, jmpl, transfer_of, target, follows, branches, jumps, executes, fetches, old_next}
use Rattle.model.specs.Records.{Rec, do_word, link, hold, go_if, go_to, go_held, stop, unknown, Row, row, row_at, rows_in, record_of, record_at, records_in}
use Rattle.model.specs.NewCore.{New, new, following, seek, new_next}
use Rattle.model.proofs.Middle.{linked}
use Rattle.model.proofs.NewStep.{Outcome, bad, works, links, keeps, misaligned, taken, untaken, moves, found, outside, unplaced, stopped, outcome}

-- ---------------------------------------------------------------- states of any core
-- 0 has 0 beside it
abbrev pub SoundState : {S : Type 0} → (S → Type 0) → State S → Type 0
SoundState P (state s (ending zero v)) = P s × (v ≡ 0)
SoundState P (state s (ending (suc k) v)) = P s × SoundEnd (ending (suc k) v)

module _ {S : Type 0} (P : S → Type 0) (next : S → Next S) (leaves : (s : S) → P s → Leaves P (next s)) where
  settle_sound : (s : S) (x : Next S) → P s → Leaves P x → SoundState P (settle s x)
  unfolding settle
  settle_sound s (go t) p l = (l, refl)
  settle_sound s (halt (ending zero v)) p l = absurd (omega arith)
  settle_sound s (halt (ending (suc k) v)) p l = (p, l)

  pub step_sound : (x : State S) → SoundState P x → SoundState P (step next x)
  unfolding step
  step_sound (state s (ending zero v)) h = settle_sound s (next s) h.0 (leaves s h.0)
  step_sound (state s (ending (suc k) v)) h = h

  pub run_sound : (n : ℕ) (x : State S) → SoundState P x → SoundState P (run next n x)
  unfolding run
  run_sound zero x h = h
  run_sound (suc n) x h = run_sound n (step next x) (step_sound x h)

-- ---------------------------------------------------------------- the old core
abbrev pub SoundOld : ℕ → Old → Type 0
SoundOld n (old m pc npc annul) = Sound n m × (pc < 2 ^ 32) × (npc < 2 ^ 32)

module _ (n : ℕ) (image : List ℕ) (base db : ℕ) (m : Machine) (pc npc : ℕ) (s : Sound n m) (lp : pc < 2 ^ 32) (ln : npc < 2 ^ 32) where
  follows_sound : (k : Machine) → Sound n k → SoundOld n (follows npc k)
  unfolding follows
  follows_sound k h = (h, ln, plus_lt npc 4)

  branches_sound : (b always annul : Bool) (t : ℕ) → t < 2 ^ 32 → SoundOld n (branches b always annul m npc t)
  unfolding branches
  branches_sound true always annul t l = (s, ln, l)
  branches_sound false always annul t l = (s, ln, plus_lt npc 4)

  target_lt : (p disp : ℕ) → target p disp < 2 ^ 32
  unfolding target
  target_lt p disp = plus_lt p (4 * disp)

  effect_leaves : (i : Instruction) → fits_in i ≡ true → Leaves (SoundOld n) (within (follows npc) (effect_of db i m))
  effect_leaves i f = leaves_within (Sound n) (SoundOld n) (follows npc) follows_sound (effect_of db i m) (effects_sound n db i m f s)

  jumps_leaves : (t rd : ℕ) → t < 2 ^ 32 → Leaves (SoundOld n) (jumps t rd m pc npc)
  unfolding jumps
  jumps_leaves t rd l =
      either (Leaves (SoundOld n)) (eqb (t % 4) 0) (go (old (linked m rd pc) npc t false)) (halt (ending 4 t)) (put_sound n m rd pc s lp, ln, l) (omega arith)

  executes_leaves : (t : Transfer) (i : Instruction) → fits_in i ≡ true → Leaves (SoundOld n) (executes db t i m pc npc)
  unfolding executes
  executes_leaves illegal i f = omega arith
  executes_leaves straight i f = effect_leaves i f
  executes_leaves trap i f = effect_leaves i f
  executes_leaves (call disp) i f = (put_sound n m 15 pc s lp, ln, target_lt pc disp)
  executes_leaves (bicc cond annul disp) i f =
      branches_sound (holds_of cond m.flags) (eqb cond 8) annul (target pc disp) (target_lt pc disp)
  executes_leaves (jmpl rd rs1 x) i f = jumps_leaves (address_of m.registers rs1 x) rd (address_lt m.registers rs1 x)

  fetches_leaves : (o : Option ℕ) → Leaves (SoundOld n) (fetches db o m pc npc)
  unfolding fetches
  fetches_leaves none = omega arith
  fetches_leaves (some word) = executes_leaves (transfer_of (instruction_of word)) (instruction_of word) (word_fits word)

pub old_leaves : (n : ℕ) (image : List ℕ) (base db : ℕ) (s : Old) → SoundOld n s → Leaves (SoundOld n) (old_next image base db s)
unfolding old_next
old_leaves n image base db (old m pc npc true) h = follows_sound n image base db m pc npc h.0 h.1 h.2 m h.0
old_leaves n image base db (old m pc npc false) h =
    either (Leaves (SoundOld n)) (eqb (pc % 4) 0) (fetches db (word_in image base pc) m pc npc) (halt (ending 4 pc))
    (fetches_leaves n image base db m pc npc h.0 h.1 h.2 (word_in image base pc)) (omega arith)

-- ---------------------------------------------------------------- records and rows of bytes
abbrev RecordLt : Rec ℕ → Type 0
RecordLt (do_word w) = Unit {0}
RecordLt (link p) = p < 2 ^ 32
RecordLt (hold w p) = p < 2 ^ 32
RecordLt (go_if c r) = r < 2 ^ 32
RecordLt (go_to r) = r < 2 ^ 32
RecordLt go_held = Unit {0}
RecordLt (stop e p) = p < 2 ^ 32
RecordLt unknown = Unit {0}

record_of_lt : (k x y : ℕ) → x < 2 ^ 32 → y < 2 ^ 32 → RecordLt (record_of k x y)
unfolding record_of
record_of_lt k x y l h =
    either RecordLt (eqb k 1) (do_word x) _ tt
    (either RecordLt (eqb k 2) (link x) _ l
    (either RecordLt (eqb k 3) (hold x y) _ h
    (either RecordLt (eqb k 4) (go_if x y) _ h
    (either RecordLt (eqb k 5) (go_to x) _ l
    (either RecordLt (eqb k 6) go_held _ tt
    (either RecordLt (eqb k 7) (stop x y) unknown h tt))))))

abbrev AtLt : Option (Rec ℕ) → Type 0
AtLt none = Unit {0}
AtLt (some r) = RecordLt r

-- what is found in a list that is counted up is one of its elements, or nothing
found_up : {A : Type 0} (P : Option A → Type 0) (f : ℕ → A) (n i : ℕ) → P none → ((j : ℕ) → P (some (f j))) → P (get_elem? (up_to f n) i)
found_up P f n i h k = go (leb n i) refl
  where
    go : (b : Bool) → leb n i ≡ b → P (get_elem? (up_to f n) i)
    go true e = rw (past_up f n i (leb-true n i e)) h
    go false e = rw (at_up f n i (leb-false n i e)) (k i)

record_lt : (records : List ℕ) (r : ℕ) → Below 256 records → AtLt (get_elem? (records_in records) r)
unfolding records_in record_at
record_lt records r b =
    found_up AtLt (record_at records) (length records / 12) r tt
    (λ j. record_of_lt (number_at records (12 * j)) (number_at records (12 * j + 4)) (number_at records (12 * j + 8)) (number_lt records (12 * j + 4) b)
    (number_lt records (12 * j + 8) b))

-- the first record of a row that is sought
abbrev FoundLt : Option ℕ → Type 0
FoundLt none = Unit {0}
FoundLt (some f) = f < 2 ^ 32

abbrev RowsLt : List Row → Type 0
RowsLt [] = Unit {0}
RowsLt (row p n k f ∷ rs) = (f < 2 ^ 32) × RowsLt rs

rows_append : (rs qs : List Row) → RowsLt rs → RowsLt qs → RowsLt (rs ++ qs)
rows_append [] qs a b = b
rows_append (row p n k f ∷ rs) qs a b = (a.0, rows_append rs qs a.1 b)

rows_up : (places : List ℕ) (n : ℕ) → Below 256 places → RowsLt (up_to (row_at places) n)
unfolding up_to row_at
rows_up places zero b = tt
rows_up places (suc n) b = rows_append (up_to (row_at places) n) (row_at places n ∷ []) (rows_up places n b) (number_lt places (16 * n + 12) b, tt)

seek_lt : (rs : List Row) (a : ℕ) → RowsLt rs → FoundLt (seek rs a)
unfolding seek
seek_lt [] a h = tt
seek_lt (row p n k f ∷ rs) a h = either FoundLt (eqb k 0 && eqb p a) (some f) (seek rs a) h.0 (seek_lt rs a h.1)

pub found_lt : (places : List ℕ) (a : ℕ) → Below 256 places → FoundLt (seek (rows_in places) a)
unfolding rows_in
found_lt places a b = seek_lt (up_to (row_at places) (length places / 16)) a (rows_up places (length places / 16) b)

-- ---------------------------------------------------------------- the new core
abbrev pub SoundNew : ℕ → New → Type 0
SoundNew n (new m r h) = Sound n m × (r < 2 ^ 32) × (h < 2 ^ 32)

module _ (n : ℕ) (records places : List ℕ) (base size db : ℕ) (m : Machine) (r h : ℕ) (s : Sound n m) (lr : r < 2 ^ 32) (lh : h < 2 ^ 32) where
  abbrev Good : Next New → Type 0
  Good = Leaves (SoundNew n)

  following_sound : (k : Machine) (t : ℕ) → Sound n k → t < 2 ^ 32 → SoundNew n (following r t k)
  unfolding following
  following_sound k t g l = (g, plus_lt r 1, l)

  outcome_leaves : {o : Option (Rec ℕ)} {x : Next New} → Below 256 places → AtLt o → Outcome (rows_in places) base size db m r h o x → Good x
  outcome_leaves b l bad = omega arith
  outcome_leaves b l (works w) =
      leaves_within (Sound n) (SoundNew n) (following r h) (λ k g. following_sound k h g lh) (effect_of db (instruction_of w) m)
      (effects_sound n db (instruction_of w) m (word_fits w) s)
  outcome_leaves b l (links p) = following_sound (linked m 15 p) h (put_sound n m 15 p s l) lh
  outcome_leaves b l (keeps w p rd rs1 x) =
      following_sound (linked m rd p) (address_of m.registers rs1 x) (put_sound n m rd p s l) (address_lt m.registers rs1 x)
  outcome_leaves b l (misaligned w p rs1 x) = omega (arith, address_lt m.registers rs1 x)
  outcome_leaves b l (taken cond to) = (s, l, lh)
  outcome_leaves b l (untaken cond to) = following_sound m h s lh
  outcome_leaves b l (moves to) = (s, l, lh)
  outcome_leaves b l (found f q) = (s, rw q at (found_lt places h b), lh)
  outcome_leaves b l outside = omega arith
  outcome_leaves b l (unplaced q i) = omega arith
  outcome_leaves b l (stopped e p k) = omega arith

pub new_leaves : (n : ℕ) (records places : List ℕ) (base size db : ℕ) → Below 256 records → Below 256 places → (s : New) → SoundNew n s
    → Leaves (SoundNew n) (new_next records places base size db s)
unfolding new_next
new_leaves n records places base size db br bp (new m r h) g =
    outcome_leaves n records places base size db m r h g.0 g.1 g.2 bp (record_lt records r br)
    (outcome (rows_in places) base size db m r h (get_elem? (records_in records) r))
