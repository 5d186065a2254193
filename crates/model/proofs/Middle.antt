-- What a place does, from its entry to the next: the machine between the two cores, which knows neither annul nor records.
use Prim.Native.Nat.{ℕ, ◌%◌}
use mathlib.Core.Path.{◌≡◌, refl}
use mathlib.Core.Bool.{Bool, true, false, false≢true}
use mathlib.Core.List.{List, [], ◌∷◌}
use mathlib.Core.Option.{Option, none, some}
use native.Mathlib.Omega.{arith}
use lib.Dec.{eqb}
use borrow.Author.Tests.{eqb-true}
use Rattle.numbers.specs.Choice.{pick}
use Rattle.numbers.specs.Number.{plus}
use Rattle.words.specs.Conditions.{holds_of}
use Rattle.words.specs.Reader.{instruction_of}
use Rattle.words.specs.declared.Instruction.{Instruction}
use Rattle.machine.specs.Ends.{Ending, ending, Next, go, halt}
use Rattle.machine.specs.Registers.{put_register, address_of}
use Rattle.effects.specs.Effect.{Machine, with_registers, effect_of}
use Rattle.machine.proofs.Ends.{RunEnd, EndsWell}
use Rattle.effects.proofs.Effects.{effects_end}
use Rattle.model.specs.declared.Place.{Place}
use Rattle.model.specs.declared.Place.TheVariants.{Pair, Held}
use Rattle.model.specs.OldCore.{word_in, Transfer, illegal, straight, trap, call, bicc, jmpl, transfer_of, target}
use Rattle.model.specs.Places.{plain, member, Which, never, always, depends, which_of, bicc_names, names, names_at, followers, may_be_held, may_be_held_at, allowed}
use Rattle.model.proofs.Transfers.{trap_end, trap_halts}
use Rattle.model.proofs.Members.{AllIn}

-- on to a place, with a held address; over; or by the held address
pub data Out : Type 0 where
  on : Place → ℕ → Machine → Out
  over : Ending → Out
  by : ℕ → Machine → Out

-- what `which_of` found of a condition
abbrev pub Reads : Which → ℕ → Type 0
Reads never c = c ≡ 0
Reads always c = c ≡ 8
Reads depends c = eqb c 8 ≡ false

pub reads : (c : ℕ) → Reads (which_of c) c
unfolding which_of
reads c = go (eqb c 0) (eqb c 8) refl refl
  where
    go : (a b : Bool) → eqb c 0 ≡ a → eqb c 8 ≡ b → Reads (pick a never (pick b always depends)) c
    go true b i j = eqb-true c 0 i
    go false true i j = eqb-true c 8 j
    go false false i j = j

-- a jump's registers: its own address in rd
abbrev pub linked : Machine → ℕ → ℕ → Machine
linked m rd p = with_registers m (put_register m.registers rd p)

abbrev pub out_of : Next Machine → ℕ → ℕ → Out
out_of (go m) n h = on (plain n) h m
out_of (halt e) n h = over e

-- whether the address is aligned
abbrev pub jump_out : Bool → ℕ → Machine → ℕ → Out
jump_out true t m n = on (Held n) t m
jump_out false t m n = over (ending 4 t)

-- whether the condition holds, whether the annul bit is set
abbrev pub branch_out : Bool → Bool → ℕ → ℕ → ℕ → Machine → Out
branch_out true annul t n h m = on (Pair n t) h m
branch_out false false t n h m = on (plain n) h m
branch_out false true t n h m = on (plain (plus n 4)) h m

abbrev pub bicc_out : Which → ℕ → Bool → ℕ → ℕ → ℕ → Machine → Out
bicc_out never cond false t n h m = on (plain n) h m
bicc_out never cond true t n h m = on (plain (plus n 4)) h m
bicc_out always cond false t n h m = on (Pair n t) h m
bicc_out always cond true t n h m = on (plain t) h m
bicc_out depends cond annul t n h m = branch_out (holds_of cond m.flags) annul t n h m

abbrev pub held_out : Next Machine → ℕ → Out
held_out (go m) h = by h m
held_out (halt e) h = over e

module _ (image : List ℕ) (base db : ℕ) where
  abbrev pub do_out : Transfer → Instruction → ℕ → ℕ → ℕ → Machine → Out
  do_out illegal i p n h m = over (ending 3 p)
  do_out straight i p n h m = out_of (effect_of db i m) n h
  do_out trap i p n h m = over (trap_end i m)
  do_out (call disp) i p n h m = on (Pair n (target p disp)) h (linked m 15 p)
  do_out (bicc cond annul disp) i p n h m = bicc_out (which_of cond) cond annul (target p disp) n h m
  do_out (jmpl rd rs1 x) i p n h m =
      jump_out (eqb (address_of m.registers rs1 x % 4) 0) (address_of m.registers rs1 x) (linked m rd p) n

  -- of a held place: a call, a jmpl or a Bicc but the idle one does not stand there
  abbrev pub do_held : Transfer → Instruction → ℕ → ℕ → Machine → Out
  do_held illegal i p h m = over (ending 3 p)
  do_held straight i p h m = held_out (effect_of db i m) h
  do_held trap i p h m = over (trap_end i m)
  do_held (call disp) i p h m = over (ending 0 0)
  do_held (bicc cond annul disp) i p h m = by h m
  do_held (jmpl rd rs1 x) i p h m = over (ending 0 0)

  abbrev pub out_at : Option ℕ → ℕ → ℕ → ℕ → Machine → Out
  out_at none p n h m = over (ending 2 p)
  out_at (some word) p n h m = do_out (transfer_of (instruction_of word)) (instruction_of word) p n h m

  abbrev pub held_at : Option ℕ → ℕ → ℕ → Machine → Out
  held_at none p h m = over (ending 2 p)
  held_at (some word) p h m = do_held (transfer_of (instruction_of word)) (instruction_of word) p h m

  abbrev pub out : Place → ℕ → Machine → Out
  out (Pair p n) h m = out_at (word_in image base p) p n h m
  out (Held p) h m = held_at (word_in image base p) p h m

  -- -------------------------------------------------------------- where a place leads stays in a closed list
  abbrev pub OutOk : List Place → Out → Type 0
  OutOk ps (on pl h m) = (member ps pl ≡ true) × (h % 4 ≡ 0)
  OutOk ps (over e) = RunEnd e
  OutOk ps (by a m) = a % 4 ≡ 0

  module _ (ps : List Place) (p n h : ℕ) (m : Machine) (ah : h % 4 ≡ 0) where
    ok_effect : (x : Next Machine) → EndsWell x → AllIn ps (plain n ∷ []) → OutOk ps (out_of x n h)
    ok_effect (go m') e i = (i.0, ah)
    ok_effect (halt z) e i = e

    ok_jump : (b : Bool) (t : ℕ) (m' : Machine) → eqb (t % 4) 0 ≡ b → member ps (Held n) ≡ true → OutOk ps (jump_out b t m' n)
    ok_jump true t m' e i = (i, eqb-true (t % 4) 0 e)
    ok_jump false t m' e i = omega arith

    -- wherever among the names the place stands
    ok_branch : (b annul : Bool) (t : ℕ) → AllIn ps (bicc_names depends annul t n) → OutOk ps (branch_out b annul t n h m)
    unfolding bicc_names
    ok_branch true false t i = search i
    ok_branch true true t i = search i
    ok_branch false false t i = search i
    ok_branch false true t i = search i

    ok_bicc : (k : Which) (cond : ℕ) (annul : Bool) (t : ℕ) → AllIn ps (bicc_names k annul t n) → OutOk ps (bicc_out k cond annul t n h m)
    unfolding bicc_names
    ok_bicc never cond false t i = (i.0, ah)
    ok_bicc never cond true t i = (i.0, ah)
    ok_bicc always cond false t i = (i.0, ah)
    ok_bicc always cond true t i = (i.0, ah)
    ok_bicc depends cond annul t i = ok_branch (holds_of cond m.flags) annul t i

    -- a trap's end is its effect's
    ok_trap : (i : Instruction) → transfer_of i ≡ trap → RunEnd (trap_end i m)
    ok_trap i q = rw (trap_halts db i m q) at (effects_end db i m)

    ok_do : (t : Transfer) (unimp : Bool) (i : Instruction) → transfer_of i ≡ t → AllIn ps (names t unimp p n) → OutOk ps (do_out t i p n h m)
    unfolding names
    ok_do illegal unimp i q a = omega arith
    ok_do straight unimp i q a = ok_effect (effect_of db i m) (effects_end db i m) a
    ok_do trap unimp i q a = ok_trap i q
    ok_do (call disp) unimp i q a = search a
    ok_do (bicc cond annul disp) unimp i q a = ok_bicc (which_of cond) cond annul (target p disp) a
    ok_do (jmpl rd rs1 x) unimp i q a =
        ok_jump (eqb (address_of m.registers rs1 x % 4) 0) (address_of m.registers rs1 x) (linked m rd p) refl (search a)

    ok_at : (o : Option ℕ) (unimp : Bool) → AllIn ps (names_at o unimp p n) → OutOk ps (out_at o p n h m)
    unfolding names_at
    ok_at none unimp a = omega arith
    ok_at (some word) unimp a = ok_do (transfer_of (instruction_of word)) unimp (instruction_of word) refl a

    ok_held_effect : (x : Next Machine) → EndsWell x → OutOk ps (held_out x h)
    ok_held_effect (go m') e = ah
    ok_held_effect (halt z) e = e

    ok_held_do : (t : Transfer) (i : Instruction) → transfer_of i ≡ t → may_be_held t ≡ true → OutOk ps (do_held t i p h m)
    unfolding may_be_held
    ok_held_do illegal i q ok = omega arith
    ok_held_do straight i q ok = ok_held_effect (effect_of db i m) (effects_end db i m)
    ok_held_do trap i q ok = ok_trap i q
    ok_held_do (call disp) i q ok = absurd (false≢true ok)
    ok_held_do (bicc cond annul disp) i q ok = ah
    ok_held_do (jmpl rd rs1 x) i q ok = absurd (false≢true ok)

    ok_held_at : (o : Option ℕ) → may_be_held_at o ≡ true → OutOk ps (held_at o p h m)
    unfolding may_be_held_at
    ok_held_at none ok = omega arith
    ok_held_at (some word) ok = ok_held_do (transfer_of (instruction_of word)) (instruction_of word) refl ok

  pub out_ok : (ps : List Place) (pl : Place) (h : ℕ) (m : Machine) → h % 4 ≡ 0 → allowed image base pl ≡ true → AllIn ps (followers image base pl)
      → OutOk ps (out pl h m)
  unfolding allowed followers
  out_ok ps (Pair p n) h m ah ok i = ok_at ps p n h m ah (word_in image base p) _ i
  out_ok ps (Held p) h m ah ok i = ok_held_at ps p p h m ah (word_in image base p) ok
