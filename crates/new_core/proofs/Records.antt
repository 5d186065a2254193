-- Laws of a record: the words that it may do, the jmpl that it may hold, the record at hand.
use Rattle.numbers.proofs.Choice.{either, Misses, find_none}
use Rattle.numbers.proofs.Lists.{at_up, past_up}
use Rattle.numbers.specs.Number.{number_at}
use Rattle.words.specs.declared.Instruction.TheVariants.{Illegal, Call, Sethi, Bicc, Arithmetic, Jmpl, Ticc, Load, Store, Shift, Rdy, Wry, Window}
use Rattle.words.specs.declared.Instruction.{Instruction}
use Rattle.words.specs.Reader.{instruction_of, as_jmpl}
use Rattle.machine.specs.Ends.{ending, halt}
use Rattle.effects.specs.Effect.{Machine}
use Rattle.model.specs.Records.{record_at, records_in, record_of, Rec, do_word, link, hold, go_if, go_to, go_held, stop, unknown}
use Rattle.model.specs.Places.{which_of, idle_bicc, Which, always, depends}
use Rattle.model.specs.OldCore.{transfer_of, Transfer, straight, trap}
use Rattle.model.specs.NewCore.{fit, holds}
use denote.Enum.Declared.{tag_of}
use types.Run.{OneOf, miss}
use borrow.Author.Tests.{ne_eqb}
use lib.ListN.{length, get_elem?}
use lib.Dec.{eqb}
use mathlib.Core.Option.{none, some}
use mathlib.Core.List.{List, [], ◌∷◌}
use mathlib.Core.Bool.{Bool, true, false}
use mathlib.Core.Path.{◌≡◌, refl}
use Prim.Native.Nat.{ℕ, ◌+◌, ◌*◌, ◌/◌, ◌≤◌, ◌<◌}
use Rattle.words.specs.contracts.Instruction.{the_type as instruction}

-- the numbers are those of the variants, in the order of the enum
abbrev others : List ℕ
others = 2 ∷ 4 ∷ 6 ∷ 7 ∷ 8 ∷ 9 ∷ 10 ∷ 11 ∷ 12 ∷ []

pub fits : (i : Instruction) → OneOf others (tag_of instruction i) → fit (transfer_of i) ≡ true
unfolding fit transfer_of
fits Illegal k = absurd (miss others 0 tt k)
fits (Call disp) k = absurd (miss others 1 tt k)
fits (Bicc cond annul disp) k = absurd (miss others 3 tt k)
fits (Jmpl rd rs1 x) k = absurd (miss others 5 tt k)
fits (Sethi rd imm) k = refl
fits (Arithmetic o cc rd rs1 x) k = refl
fits (Ticc cond rs1 x) k = either (λ (t : Transfer). fit t ≡ true) (eqb cond 8) trap straight refl refl
fits (Load o rd rs1 x) k = refl
fits (Store w rd rs1 x) k = refl
fits (Shift o rd rs1 x) k = refl
fits (Rdy rd) k = refl
fits (Wry s) k = refl
fits (Window o rd rs1 x) k = refl

abbrev no_jmpl : List ℕ
no_jmpl = 0 ∷ 1 ∷ 2 ∷ 3 ∷ 4 ∷ 6 ∷ 7 ∷ 8 ∷ 9 ∷ 10 ∷ 11 ∷ 12 ∷ []

pub not_held : (i : Instruction) (p : ℕ) (m : Machine) (r : ℕ) → OneOf no_jmpl (tag_of instruction i) → holds (transfer_of i) p m r ≡ halt (ending 7 r)
unfolding holds transfer_of
not_held Illegal p m r k = refl
not_held (Call disp) p m r k = refl
not_held (Bicc cond annul disp) p m r k = refl
not_held (Jmpl rd rs1 x) p m r k = absurd (miss no_jmpl 5 tt k)
not_held (Sethi rd imm) p m r k = refl
not_held (Arithmetic o cc rd rs1 x) p m r k = refl
not_held (Ticc cond rs1 x) p m r k = either (λ (t : Transfer). holds t p m r ≡ halt (ending 7 r)) (eqb cond 8) trap straight refl refl
not_held (Load o rd rs1 x) p m r k = refl
not_held (Store w rd rs1 x) p m r k = refl
not_held (Shift o rd rs1 x) p m r k = refl
not_held (Rdy rd) p m r k = refl
not_held (Wry s) p m r k = refl
not_held (Window o rd rs1 x) p m r k = refl

-- a word read for a jmpl alone is held as the word itself
pub held_alone : (word : ℕ) (i : Instruction) (p : ℕ) (m : Machine) (r : ℕ) → i ≡ as_jmpl (instruction_of word)
    → holds (transfer_of (instruction_of word)) p m r ≡ holds (transfer_of i) p m r
unfolding holds transfer_of as_jmpl
held_alone word i p m r e = rw e (alone (instruction_of word))
  where
    alone : (i : Instruction) → holds (transfer_of i) p m r ≡ holds (transfer_of (as_jmpl i)) p m r
    alone Illegal = refl
    alone (Call disp) = refl
    alone (Sethi rd imm) = refl
    alone (Bicc cond annul disp) = refl
    alone (Arithmetic o cc rd rs1 x) = refl
    alone (Jmpl rd rs1 x) = refl
    alone (Ticc cond rs1 x) = either (λ (t : Transfer). holds t p m r ≡ halt (ending 7 r)) (eqb cond 8) trap straight refl refl
    alone (Load o rd rs1 x) = refl
    alone (Store w rd rs1 x) = refl
    alone (Shift o rd rs1 x) = refl
    alone (Rdy rd) = refl
    alone (Wry s) = refl
    alone (Window o rd rs1 x) = refl

-- a Bicc that a record may do: condition 0, no annul
pub never_taken : (cond : ℕ) (annul : Bool) → annul ≡ false → cond ≡ 0 → idle_bicc (which_of cond) annul ≡ true
unfolding idle_bicc which_of
never_taken cond annul h e = rw (h, e)

pub may_be_taken : (cond : ℕ) (annul : Bool) → (cond ≡ 0 → ⊥) → idle_bicc (which_of cond) annul ≡ false
unfolding idle_bicc which_of
may_be_taken cond annul n = rw (ne_eqb cond 0 n) (either (λ (w : Which). idle_bicc w annul ≡ false) (eqb cond 8) always depends refl refl)

-- the record at hand
pub at_hand : (records : List ℕ) (r : ℕ) → r < length records / 12 → get_elem? (records_in records) r ≡ some (record_at records r)
unfolding records_in
at_hand records r h = at_up (record_at records) (length records / 12) r h

pub past_last : (records : List ℕ) (r : ℕ) → length records / 12 ≤ r → get_elem? (records_in records) r ≡ none
unfolding records_in
past_last records r h = past_up (record_at records) (length records / 12) r h

-- the record that starts at a position, from its first two numbers
pub read_as : (records : List ℕ) (at r kind x : ℕ) → at ≡ 12 * r → kind ≡ number_at records at → x ≡ number_at records (at + 4)
    → record_at records r ≡ record_of kind x (number_at records (at + 8))
unfolding record_at
read_as records at r kind x e k h = rw (k, h, e)

abbrev kinds : ℕ → ℕ → List (ℕ × Rec ℕ)
kinds x y = (1, do_word x) ∷ (2, link x) ∷ (3, hold x y) ∷ (4, go_if x y) ∷ (5, go_to x) ∷ (6, go_held) ∷ (7, stop x y) ∷ []

pub no_kind : (kind x y : ℕ) → Misses (Unit {0}) (kinds x y) kind → record_of kind x y ≡ unknown
unfolding record_of
no_kind kind x y m = find_none (kinds x y) unknown kind m
