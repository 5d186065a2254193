-- Laws of what a word does to control.
use Rattle.numbers.proofs.Choice.{either}
use Rattle.numbers.specs.Choice.{pick}
use Rattle.model.specs.Places.{unimp_in, which_of, idle_bicc, Which, never, always, depends}
use Rattle.model.specs.OldCore.{word_in, word_of, transfer_of, Transfer, straight, trap, jmpl}
use lib.Dec.{eqb}
use mathlib.Core.List.{List}
use mathlib.Core.Option.{none, some}
use mathlib.Core.Bool.{Bool, true, false}
use mathlib.Core.Path.{◌≡◌, refl, sym}
use Prim.Native.Nat.{ℕ}
use Rattle.words.specs.declared.Operand.{Operand}
use Rattle.words.specs.declared.Operand.TheVariants.{Constant}
use Rattle.words.specs.declared.Instruction.TheVariants.{Illegal, Call, Sethi, Bicc, Arithmetic, Jmpl, Ticc, Load, Store, Shift, Rdy, Wry, Window}
use Rattle.words.specs.declared.Instruction.{Instruction}
use Rattle.words.specs.declared.Flow.TheVariants.{Traps, Continues}
use Rattle.words.specs.Flow.{flow_of}
use Rattle.std.specs.Prelude.{Option, Some, None, MatchOption}
use Rattle.words.specs.Reader.{is_unimp}
use Rattle.places.specs.Control.{transferred}

-- what does not look at a jmpl's operands can be had from the flow alone
pub by_flow : {A : Type 0} (f : Transfer → A) → ((rd rs1 : ℕ) (x : Operand) → f (jmpl rd rs1 x) ≡ f (jmpl rd 0 (Constant 0)))
    → (i : Instruction) → f (transferred (flow_of i)) ≡ f (transfer_of i)
unfolding transferred flow_of transfer_of
by_flow f h Illegal = refl
by_flow f h (Call disp) = refl
by_flow f h (Sethi rd imm) = refl
by_flow f h (Bicc cond annul disp) = refl
by_flow f h (Arithmetic o cc rd rs1 x) = refl
by_flow f h (Jmpl rd rs1 x) = sym (h rd rs1 x)
by_flow f h (Ticc cond rs1 x) = go (eqb cond 8)
  where
    go : (b : Bool) → f (transferred (pick b Traps Continues)) ≡ f (pick b trap straight)
    go true = refl
    go false = refl
by_flow f h (Load o rd rs1 x) = refl
by_flow f h (Store w rd rs1 x) = refl
by_flow f h (Shift o rd rs1 x) = refl
by_flow f h (Rdy rd) = refl
by_flow f h (Wry s) = refl
by_flow f h (Window o rd rs1 x) = refl

-- a branch that may be held: condition 0, no annul
pub idle : (cond : ℕ) (annul : Bool) → annul ≡ false → eqb cond 0 ≡ idle_bicc (which_of cond) annul
unfolding which_of idle_bicc
idle cond annul h = rw h (by_cond (eqb cond 0))
  where
    by_cond : (b : Bool) → b ≡ idle_bicc (pick b never (pick (eqb cond 8) always depends)) false
    by_cond true = refl
    by_cond false = sym (either (λ (w : Which). idle_bicc w false ≡ false) (eqb cond 8) always depends refl refl)

-- what is asked of the word of an address, and false where there is none
pub unimp_fetched : (image : List ℕ) (base p : ℕ) (f : Option ℕ) {r : Bool} → word_of f ≡ word_in image base p
    → MatchOption f (r ≡ false) (λ w. r ≡ is_unimp w) → r ≡ unimp_in (word_in image base p)
unfolding word_of unimp_in
unimp_fetched image base p f {r} e h = rw (← e) (go f h)
  where
    go : (o : Option ℕ) → MatchOption o (r ≡ false) (λ w. r ≡ is_unimp w) → r ≡ unimp_in (word_of o)
    go (Some w) k = k
    go None k = k

-- the word of an address, as it was fetched
module _ (image : List ℕ) (base p : ℕ) {f : Option ℕ} (e : word_of f ≡ word_in image base p) where
  pub fetched_none : f ≡ None → word_in image base p ≡ none
  unfolding word_of
  fetched_none h = sym (rw h at e)

  pub fetched_some : {word : ℕ} → f ≡ Some word → word_in image base p ≡ some word
  unfolding word_of
  fetched_some h = sym (rw h at e)
  -- what is asked of it, and false where there is none
