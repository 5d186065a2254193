-- The old core does what the place does: one step from entry to entry, or two where a word is annulled.
use Prim.Native.Nat.{ℕ, ◌%◌}
use mathlib.Core.Path.{◌≡◌, refl, ap, ◌∙◌}
use mathlib.Core.Bool.{Bool, true, false, false≢true}
use mathlib.Core.List.{List}
use mathlib.Core.Option.{Option, none, some}
use native.Mathlib.Omega.{arith}
use lib.Dec.{eqb}
use Rattle.numbers.specs.Choice.{pick}
use Rattle.numbers.proofs.Choice.{either}
use Rattle.numbers.specs.Number.{plus}
use Rattle.words.specs.Conditions.{holds_of}
use Rattle.words.specs.Reader.{instruction_of}
use Rattle.words.specs.declared.Instruction.{Instruction}
use Rattle.machine.specs.Ends.{ending, Next, go, halt, within}
use Rattle.machine.specs.Registers.{address_of}
use Rattle.effects.specs.Effect.{Machine, effect_of}
use Rattle.machine.proofs.Ends.{EndsWell}
use Rattle.effects.proofs.Effects.{effects_end}
use Rattle.model.specs.declared.Place.{Place}
use Rattle.model.specs.declared.Place.TheVariants.{Pair, Held}
use Rattle.model.specs.OldCore.{Old, old, old_machine, word_in, Transfer, illegal, straight, trap, call, bicc, jmpl, transfer_of, target, follows, branches, jumps, executes, fetches, old_next}
use Rattle.model.specs.Places.{plain, place_at, Which, never, always, depends, which_of, idle_bicc, may_be_held, may_be_held_at, allowed}
use Rattle.model.specs.Trails.{shown_of}
use Rattle.model.specs.Cores.{old_mark, old_over}
use Rattle.model.proofs.Transfers.{holds_never, holds_always, trap_halts}
use Rattle.model.proofs.Hop.{Left, onward, ends, leaves, left, Hop, once, twice, Over}
use Rattle.model.proofs.Follows.{Aligned, Closed, left_by, Follower}
use Rattle.model.proofs.Middle.{Out, by, Reads, reads, linked, out_of, jump_out, branch_out, bicc_out, held_out, do_out, do_held, out_at, held_at, out}

-- opens what the old core does to control
old_open : Unit {0}
unfolding old_next fetches executes branches jumps follows within old_mark
old_open = tt

abbrev pub to_old : Place → ℕ → Machine → Old
to_old (Pair p n) h m = old m p n false
to_old (Held p) h m = old m p h false

module _ (image : List ℕ) (base db : ℕ) where
  abbrev O : Old → Left Old → Type 0
  O = Hop (old_over image base db)

  -- it goes on at every held address
  abbrev old_out : Out → Left Old
  old_out = left_by image base db to_old (λ a. true)

  abbrev N : Old → Next Old
  N = old_next image base db

  module _ (s : Old) (p n h : ℕ) (m : Machine) where
    -- what is known of the step from s, as what it left
    step_left : (x : Next Old) → N s ≡ x → left (old_over image base db) s ≡ leaves none (shown_of (old_machine s)) x
    step_left x e = ap (leaves none (shown_of (old_machine s))) e

    -- the word at n is annulled: the next entry stands one step later
    then_passed : (t : ℕ) → N s ≡ go (old m n t true) → O s (onward (old m t (plus t 4) false))
    unfolding old_open
    then_passed t e = twice (old m n t true) (step_left (go (old m n t true)) e) refl refl

    old_effect : (x : Next Machine) → N s ≡ within (follows n) x → O s (old_out (out_of x n h))
    unfolding old_open
    old_effect (go m') e = once (step_left (go (old m' n (plus n 4) false)) e)
    old_effect (halt z) e = once (step_left (halt z) e)

    old_jump : (b : Bool) (t : ℕ) (m' : Machine) → N s ≡ pick b (go (old m' n t false)) (halt (ending 4 t)) → O s (old_out (jump_out b t m' n))
    old_jump true t m' e = once (step_left (go (old m' n t false)) e)
    old_jump false t m' e = once (step_left (halt (ending 4 t)) e)

    old_branch : (b annul : Bool) (t : ℕ) → N s ≡ go (branches b false annul m n t) → O s (old_out (branch_out b annul t n h m))
    unfolding old_open
    old_branch true false t e = once (step_left (go (old m n t false)) e)
    old_branch true true t e = once (step_left (go (old m n t false)) e)
    old_branch false false t e = once (step_left (go (old m n (plus n 4) false)) e)
    old_branch false true t e = then_passed (plus n 4) e

    old_bicc : (k : Which) (cond : ℕ) (annul : Bool) (t : ℕ) → Reads k cond → N s ≡ go (branches (holds_of cond m.flags) (eqb cond 8) annul m n t)
        → O s (old_out (bicc_out k cond annul t n h m))
    unfolding old_open
    old_bicc never cond false t q e = once (step_left (go (old m n (plus n 4) false)) (e ∙ rw (q, holds_never m.flags)))
    old_bicc never cond true t q e = then_passed (plus n 4) (e ∙ rw (q, holds_never m.flags))
    old_bicc always cond false t q e = once (step_left (go (old m n t false)) (e ∙ rw (q, holds_always m.flags)))
    old_bicc always cond true t q e = then_passed t (e ∙ rw (q, holds_always m.flags))
    old_bicc depends cond annul t q e = old_branch (holds_of cond m.flags) annul t (e ∙ rw q)

    old_do : (t : Transfer) (i : Instruction) → transfer_of i ≡ t → N s ≡ executes db t i m p n → O s (old_out (do_out image base db t i p n h m))
    unfolding old_open
    old_do illegal i q e = once (step_left (halt (ending 3 p)) e)
    old_do straight i q e = old_effect (effect_of db i m) e
    old_do trap i q e = once (step_left (halt _) (e ∙ rw (trap_halts db i m q)))
    old_do (call disp) i q e = once (step_left (go (old (linked m 15 p) n (target p disp) false)) e)
    old_do (bicc cond annul disp) i q e = old_bicc (which_of cond) cond annul (target p disp) (reads cond) e
    old_do (jmpl rd rs1 x) i q e =
        old_jump (eqb (address_of m.registers rs1 x % 4) 0) (address_of m.registers rs1 x) (linked m rd p) e

    old_at : (o : Option ℕ) → N s ≡ fetches db o m p n → O s (old_out (out_at image base db o p n h m))
    unfolding old_open
    old_at none e = once (step_left (halt (ending 2 p)) e)
    old_at (some word) e = old_do (transfer_of (instruction_of word)) (instruction_of word) refl e

    old_held_effect : (x : Next Machine) → N s ≡ within (follows h) x → O s (old_out (held_out x h))
    unfolding old_open
    old_held_effect (go m') e = once (step_left (go (old m' h (plus h 4) false)) e)
    old_held_effect (halt z) e = once (step_left (halt z) e)

    old_idle : (k : Which) (cond : ℕ) (annul : Bool) (t : ℕ) → Reads k cond → idle_bicc k annul ≡ true
        → N s ≡ go (branches (holds_of cond m.flags) (eqb cond 8) annul m h t) → O s (old_out (by h m))
    unfolding old_open idle_bicc
    old_idle never cond false t q ok e = once (step_left (go (old m h (plus h 4) false)) (e ∙ rw (q, holds_never m.flags)))
    old_idle never cond true t q ok e = absurd (false≢true ok)
    old_idle always cond annul t q ok e = absurd (false≢true ok)
    old_idle depends cond annul t q ok e = absurd (false≢true ok)

    old_held_do : (t : Transfer) (i : Instruction) → transfer_of i ≡ t → may_be_held t ≡ true → N s ≡ executes db t i m p h
        → O s (old_out (do_held image base db t i p h m))
    unfolding old_open may_be_held
    old_held_do illegal i q ok e = once (step_left (halt (ending 3 p)) e)
    old_held_do straight i q ok e = old_held_effect (effect_of db i m) e
    old_held_do trap i q ok e = once (step_left (halt _) (e ∙ rw (trap_halts db i m q)))
    old_held_do (call disp) i q ok e = absurd (false≢true ok)
    old_held_do (bicc cond annul disp) i q ok e = old_idle (which_of cond) cond annul (target p disp) (reads cond) ok e
    old_held_do (jmpl rd rs1 x) i q ok e = absurd (false≢true ok)

    old_held_at : (o : Option ℕ) → may_be_held_at o ≡ true → N s ≡ fetches db o m p h → O s (old_out (held_at image base db o p h m))
    unfolding old_open may_be_held_at
    old_held_at none ok e = once (step_left (halt (ending 2 p)) e)
    old_held_at (some word) ok e = old_held_do (transfer_of (instruction_of word)) (instruction_of word) refl ok e

  pub old_hop : (pl : Place) (h : ℕ) (m : Machine) → Aligned pl → allowed image base pl ≡ true
      → Hop (old_over image base db) (to_old pl h m) (old_out (out image base db pl h m))
  unfolding old_open allowed
  old_hop (Pair p n) h m al ok = old_at (old m p n false) p n h m (word_in image base p) (rw al.0)
  old_hop (Held p) h m al ok = old_held_at (old m p h false) p h h m (word_in image base p) ok (rw al.0)

  pub old_mark_lem : (pl : Place) (h : ℕ) (m : Machine) → (old_over image base db).mark (to_old pl h m) ≡ some (place_at pl)
  unfolding old_open place_at
  old_mark_lem (Pair p n) h m = refl
  old_mark_lem (Held p) h m = refl

  pub old_has : (pl : Place) (h : ℕ) (m : Machine) → (old_over image base db).machine_of (to_old pl h m) ≡ m
  old_has (Pair p n) h m = refl
  old_has (Held p) h m = refl

  -- -------------------------------------------------------------- the old core ends only with an end above 0
  abbrev OverOld : Next Old → Type 0
  OverOld = Over (old_over image base db)

  over_effect : (n : ℕ) (x : Next Machine) → EndsWell x → OverOld (within (follows n) x)
  unfolding within
  over_effect n (go m) e = tt
  over_effect n (halt (ending z v)) e = e.0

  over_do : (t : Transfer) (i : Instruction) (m : Machine) (p n : ℕ) → OverOld (executes db t i m p n)
  unfolding executes jumps
  over_do illegal i m p n = omega arith
  over_do straight i m p n = over_effect n (effect_of db i m) (effects_end db i m)
  over_do trap i m p n = over_effect n (effect_of db i m) (effects_end db i m)
  over_do (call disp) i m p n = tt
  over_do (bicc cond annul disp) i m p n = tt
  over_do (jmpl rd rs1 x) i m p n =
      either OverOld (eqb (address_of m.registers rs1 x % 4) 0) (go (old (linked m rd p) n (address_of m.registers rs1 x) false))
      (halt (ending 4 (address_of m.registers rs1 x))) tt (omega arith)

  over_at : (o : Option ℕ) (m : Machine) (p n : ℕ) → OverOld (fetches db o m p n)
  unfolding fetches
  over_at none m p n = omega arith
  over_at (some word) m p n = over_do (transfer_of (instruction_of word)) (instruction_of word) m p n

  pub old_over_lem : (s : Old) → Over (old_over image base db) ((old_over image base db).next s)
  unfolding old_next
  old_over_lem (old m p n true) = tt
  old_over_lem (old m p n false) =
      either OverOld (eqb (p % 4) 0) (fetches db (word_in image base p) m p n) (halt (ending 4 p)) (over_at (word_in image base p) m p n) (omega arith)

  -- -------------------------------------------------------------- so it follows the places of any closed list, and goes on at every address
  pub old_ends : (a : ℕ) (m : Machine) → a % 4 ≡ 0 → word_in image base a ≡ none → Hop (old_over image base db) (to_old (plain a) a m) (ends (ending 2 a))
  unfolding old_open
  old_ends a m al e = old_at (old m a (plus a 4) false) a (plus a 4) a m none (rw (al, e))

  pub old_mark_plain : (a h : ℕ) (m : Machine) → (old_over image base db).mark (to_old (plain a) h m) ≡ some a
  unfolding old_mark
  old_mark_plain a h m = refl

  abbrev pub old_follower : (ps : List Place) → Closed image base ps → Follower image base db (old_over image base db)
  old_follower ps C =
      record {
        ps = ps;
        to = to_old;
        goes = λ a. true;
        closed = C;
        over = old_over_lem;
        has = old_has;
        marks = λ pl h m i. old_mark_lem pl h m;
        hops = λ pl h m i. old_hop pl h m (C.aligned_at pl i) (C.ok pl i);
        marks_on = λ a m q. old_mark_plain a a m;
        ends_on = λ a m q. old_ends a m;
      }
