-- Laws of a step: the words that do not transfer control, and the test of annul.
use lib.Dec.{eqb}
use borrow.Author.Tests.{ne_eqb}
use Rattle.numbers.specs.Number.{plus}
use Rattle.numbers.specs.Choice.{pick}
use Rattle.words.specs.declared.Instruction.TheVariants.{Illegal, Call, Sethi, Bicc, Arithmetic, Jmpl, Ticc, Load, Store, Shift, Rdy, Wry, Window}
use Rattle.words.specs.declared.Instruction.{Instruction}
use Rattle.words.specs.Conditions.{bit_of}
use Rattle.machine.specs.Ends.{within, live, settle, ending, halt}
use Rattle.effects.specs.Effect.{effect_of, Machine}
use Rattle.model.specs.OldCore.{transfer_of, follows, executes, old, branches, word_in, fetches, old_next, straight, trap}
use Rattle.model.specs.StateBytes.{is_set}
use Rattle.model.proofs.RoundTrip.{annul_back}
use denote.Enum.Declared.{tag_of}
use types.Run.{OneOf, miss}
use mathlib.Core.List.{List, [], ◌∷◌}
use mathlib.Core.Bool.{Bool, true, false, ◌&&◌}
use mathlib.Core.Path.{◌≡◌, refl}
use Prim.Native.Nat.{ℕ, ◌%◌}
use Rattle.words.specs.contracts.Instruction.{the_type as instruction}

-- the numbers are those of the variants, in the order of the enum
abbrev others : List ℕ
others = 2 ∷ 4 ∷ 6 ∷ 7 ∷ 8 ∷ 9 ∷ 10 ∷ 11 ∷ 12 ∷ []

pub no_transfer : (db : ℕ) (i : Instruction) (m : Machine) (pc npc : ℕ) → OneOf others (tag_of instruction i)
    → executes db (transfer_of i) i m pc npc ≡ within (follows npc) (effect_of db i m)
unfolding executes transfer_of
no_transfer db Illegal m pc npc k = absurd (miss others 0 tt k)
no_transfer db (Call disp) m pc npc k = absurd (miss others 1 tt k)
no_transfer db (Bicc cond annul disp) m pc npc k = absurd (miss others 3 tt k)
no_transfer db (Jmpl rd rs1 x) m pc npc k = absurd (miss others 5 tt k)
no_transfer db (Sethi rd imm) m pc npc k = refl
no_transfer db (Arithmetic o cc rd rs1 x) m pc npc k = refl
no_transfer db (Ticc cond rs1 x) m pc npc k = either_way (eqb cond 8)
  where
    either_way : (b : Bool) → executes db (pick b trap straight) (Ticc cond rs1 x) m pc npc ≡ within (follows npc) (effect_of db (Ticc cond rs1 x) m)
    either_way true = refl
    either_way false = refl
no_transfer db (Load o rd rs1 x) m pc npc k = refl
no_transfer db (Store w rd rs1 x) m pc npc k = refl
no_transfer db (Shift o rd rs1 x) m pc npc k = refl
no_transfer db (Rdy rd) m pc npc k = refl
no_transfer db (Wry s) m pc npc k = refl
no_transfer db (Window o rd rs1 x) m pc npc k = refl

-- annul, as a number and as a test
pub is_set_lem : (x : ℕ) → (x ≡ 0 → ⊥) → is_set x ≡ true
unfolding is_set
is_set_lem x n = rw (ne_eqb x 0 n)

pub is_clear : (x : ℕ) → x ≡ 0 → is_set x ≡ false
unfolding is_set
is_clear x e = rw e

-- a branch: its condition holds, fails
module _ (m : Machine) (npc t : ℕ) (annul holds always : Bool) where
  pub branch_taken : (k : ℕ) (b : Bool) → holds ≡ true → b ≡ annul && always → k ≡ bit_of b
      → old m npc t (is_set k) ≡ branches holds always annul m npc t
  unfolding branches
  branch_taken k b h e n = rw (h, n, annul_back b, e)

  pub branch_fails : (k n : ℕ) → holds ≡ false → k ≡ bit_of annul → n ≡ plus npc 4 → old m npc n (is_set k) ≡ branches holds always annul m npc t
  unfolding branches
  branch_fails k n h b e = rw (h, b, annul_back annul, e)

-- by annul: the word is passed unread, or it is fetched
module _ (image : List ℕ) (base db : ℕ) (m : Machine) (pc npc : ℕ) (annul : Bool) where
  pub annulled : annul ≡ true → live (follows npc m) ≡ settle (old m pc npc annul) (old_next image base db (old m pc npc annul))
  unfolding old_next settle
  annulled h = rw h

  pub not_annulled : annul ≡ false
      → old_next image base db (old m pc npc annul) ≡ pick (eqb (pc % 4) 0) (fetches db (word_in image base pc) m pc npc) (halt (ending 4 pc))
  unfolding old_next
  not_annulled h = rw h
