-- The new core does what the place does, where it is given the table and records of a closed list: one record from entry to entry, or two.
use Prim.Native.Nat.{ℕ, suc, ◌%◌, ◌^◌, ◌≤◌, ◌<◌}
use native.Mathlib.Nat.{zero-add}
use native.Mathlib.Omega.{arith}
use mathlib.Core.Path.{◌≡◌, refl, ap, ◌∙◌, subst}
use mathlib.Core.Bool.{Bool, true, false, false≢true}
use mathlib.Core.List.{List}
use mathlib.Core.Option.{Option, none, some}
use lib.Dec.{eqb, leb}
use lib.ListN.{get_elem?, length}
use Rattle.numbers.specs.Choice.{pick}
use Rattle.numbers.specs.Number.{plus}
use Rattle.words.specs.Conditions.{holds_of}
use Rattle.words.specs.Reader.{instruction_of}
use Rattle.machine.specs.Ends.{Ending, ending, Next, go, halt, within}
use Rattle.machine.specs.Registers.{address_of}
use Rattle.effects.specs.Effect.{Machine, effect_of}
use Rattle.model.specs.declared.Place.{Place}
use Rattle.model.specs.declared.Place.TheVariants.{Pair, Held}
use Rattle.model.specs.OldCore.{in_image, word_in, Transfer, illegal, straight, trap, call, bicc, jmpl, transfer_of, target}
use Rattle.model.specs.Places.{plain, place_at, member, Which, never, always, depends, which_of, idle_bicc, may_be_held, may_be_held_at, allowed}
use Rattle.model.specs.Records.{Rec, do_word, link, hold, go_if, go_to, go_held, stop, Group, one, two, bicc_group, group_of, held_group_of, group_at, held_group_at, group, numbered, in_full, first, rows_of, records_of, rows_in, records_in}
use Rattle.model.specs.NewCore.{New, new, following, fit, does_word, holds, chooses, seek, lost, goes, stops, does, new_next}
use Rattle.model.specs.Trails.{shown_of, Core}
use Rattle.model.specs.Cores.{naming, new_mark, goes_by, new_by_held, new_over}
use Rattle.words.specs.declared.Operand.{Operand}
use Rattle.model.proofs.Transfers.{trap_end, trap_halts, idle_does, small_condition}
use Rattle.model.proofs.Hop.{Left, onward, ends, lands, leaves, left, Hop, once, twice}
use Rattle.model.proofs.Middle.{Out, on, over, by, Reads, reads, linked, out_of, jump_out, branch_out, bicc_out, held_out, do_out, do_held, out_at, held_at, out}
use Rattle.model.proofs.Follows.{Closed, left_by, Follower}
use Rattle.model.proofs.Six.{new_over_lem}
use Rattle.model.proofs.Groups.{Stands, stands, Second, unnamed, named, sought, not_sought, first_le}

-- opens what the records of a group do
new_open : Unit {0}
unfolding does does_word fit holds chooses stops following within numbered goes_by
new_open = tt

module _ (image : List ℕ) (base db : ℕ) (ps : List Place) (records places : List ℕ) where
  abbrev pub new_core : Core New
  new_core = new_over records places base (length image) db

  abbrev φ : Place → ℕ
  φ = first (in_full image base) ps

  -- what the record y does
  abbrev D : Rec ℕ → Machine → ℕ → ℕ → Next New
  D y m f h = does (rows_in places) base (length image) db (some y) m f h

  abbrev pub to_new : Place → ℕ → Machine → New
  to_new pl h m = new m (φ pl) h

  abbrev pub new_out : Out → Left New
  new_out (on pl h m) = onward (to_new pl h m)
  new_out (over e) = ends e
  new_out (by a m) = leaves (some a) (shown_of m) (goes (seek (rows_in places) a) (in_image base (length image) a) m a)

  -- a group at record f, its second record named by no row
  abbrev Here : ℕ → Group Place → Type 0
  Here f (one r) = get_elem? (records_in records) f ≡ some (numbered φ r)
  Here f (two r s) =
      (get_elem? (records_in records) f ≡ some (numbered φ r)) × (get_elem? (records_in records) (suc f) ≡ some (numbered φ s))
      × (naming (rows_in places) (suc f) ≡ none)

  -- the record at hand tells what is left
  at_hand : (y : Rec ℕ) (m : Machine) (f h : ℕ) → get_elem? (records_in records) f ≡ some y
      → left new_core (new m f h) ≡ leaves (goes_by (some y) h) (shown_of m) (D y m f h)
  unfolding new_by_held new_next
  at_hand y m f h e = rw e

  module _ (f p n h : ℕ) (m : Machine) (low : suc f < 2 ^ 32) where
    wraps : plus f 1 ≡ suc f
    unfolding plus
    wraps = omega arith

    -- a record that ends the run, or goes where another place's group stands
    first_ends : (r : Rec Place) (e : Ending) → get_elem? (records_in records) f ≡ some (numbered φ r) → goes_by (some (numbered φ r)) h ≡ none
        → D (numbered φ r) m f h ≡ halt e → Hop new_core (new m f h) (ends e)
    first_ends r e s g d = once (at_hand (numbered φ r) m f h s ∙ rw (g, d))

    first_goes : (r : Rec Place) (t : New) → get_elem? (records_in records) f ≡ some (numbered φ r) → D (numbered φ r) m f h ≡ go t
        → Hop new_core (new m f h) (onward t)
    first_goes r t s d = once (at_hand (numbered φ r) m f h s ∙ rw d)

    -- the first record went on to the second
    then_second : (r s : Rec Place) (m' : Machine) (h' : ℕ) → Here f (two r s) → D (numbered φ r) m f h ≡ go (new m' (plus f 1) h')
        → Hop new_core (new m f h) (leaves (goes_by (some (numbered φ s)) h') (shown_of m') (D (numbered φ s) m' (suc f) h'))
    unfolding new_mark
    then_second r s m' h' k d =
        twice (new m' (suc f) h') (at_hand (numbered φ r) m f h k.0 ∙ rw (d, wraps)) k.2 (at_hand (numbered φ s) m' (suc f) h' k.1)

    new_effect : (w : ℕ) (x : Next Machine) → transfer_of (instruction_of w) ≡ straight → effect_of db (instruction_of w) m ≡ x
        → Here f (two (do_word w) (go_to (plain n))) → Hop new_core (new m f h) (new_out (out_of x n h))
    unfolding new_open
    new_effect w (go m') q e s = then_second (do_word w) (go_to (plain n)) m' h s (rw (q, e))
    new_effect w (halt z) q e s = first_ends (do_word w) z s.0 refl (rw (q, e))

    new_jump : (w rd rs1 : ℕ) (x : Operand) (b : Bool) → transfer_of (instruction_of w) ≡ jmpl rd rs1 x → eqb (address_of m.registers rs1 x % 4) 0 ≡ b
        → Here f (two (hold w p) (go_to (Held n))) → Hop new_core (new m f h) (new_out (jump_out b (address_of m.registers rs1 x) (linked m rd p) n))
    unfolding new_open
    new_jump w rd rs1 x true q e s = then_second (hold w p) (go_to (Held n)) (linked m rd p) (address_of m.registers rs1 x) s (rw (q, e))
    new_jump w rd rs1 x false q e s = first_ends (hold w p) (ending 4 (address_of m.registers rs1 x)) s.0 refl (rw (q, e))

    new_branch : (cond : ℕ) (b annul : Bool) (t : ℕ) → leb cond 15 ≡ true → holds_of cond m.flags ≡ b → Here f (bicc_group depends cond annul t n)
        → Hop new_core (new m f h) (new_out (branch_out b annul t n h m))
    unfolding new_open bicc_group
    new_branch cond true false t k e s = first_goes (go_if cond (Pair n t)) (to_new (Pair n t) h m) s.0 (rw (k, e))
    new_branch cond true true t k e s = first_goes (go_if cond (Pair n t)) (to_new (Pair n t) h m) s.0 (rw (k, e))
    new_branch cond false false t k e s = then_second (go_if cond (Pair n t)) (go_to (plain n)) m h s (rw (k, e))
    new_branch cond false true t k e s = then_second (go_if cond (Pair n t)) (go_to (plain (plus n 4))) m h s (rw (k, e))

    new_bicc : (k : Which) (cond : ℕ) (annul : Bool) (t : ℕ) → leb cond 15 ≡ true → Here f (bicc_group k cond annul t n)
        → Hop new_core (new m f h) (new_out (bicc_out k cond annul t n h m))
    unfolding new_open bicc_group
    new_bicc never cond false t l s = first_goes (go_to (plain n)) (to_new (plain n) h m) s refl
    new_bicc never cond true t l s = first_goes (go_to (plain (plus n 4))) (to_new (plain (plus n 4)) h m) s refl
    new_bicc always cond false t l s = first_goes (go_to (Pair n t)) (to_new (Pair n t) h m) s refl
    new_bicc always cond true t l s = first_goes (go_to (plain t)) (to_new (plain t) h m) s refl
    new_bicc depends cond annul t l s = new_branch cond (holds_of cond m.flags) annul t l refl s

    -- a Ticc 8 ends the run
    new_trap : (w : ℕ) → transfer_of (instruction_of w) ≡ trap → Here f (one (do_word w)) → Hop new_core (new m f h) (ends (trap_end (instruction_of w) m))
    unfolding new_open
    new_trap w q s = first_ends (do_word w) (trap_end (instruction_of w) m) s refl (rw (q, trap_halts db (instruction_of w) m q))

    new_do : (t : Transfer) (w : ℕ) → transfer_of (instruction_of w) ≡ t → Here f (group_of t w p n)
        → Hop new_core (new m f h) (new_out (do_out image base db t (instruction_of w) p n h m))
    unfolding new_open group_of
    new_do illegal w q s = first_ends (stop 3 p) (ending 3 p) s refl refl
    new_do straight w q s = new_effect w (effect_of db (instruction_of w) m) q refl s
    new_do trap w q s = new_trap w q s
    new_do (call disp) w q s = then_second (link p) (go_to (Pair n (target p disp))) (linked m 15 p) h s refl
    new_do (bicc cond annul disp) w q s = new_bicc (which_of cond) cond annul (target p disp) (small_condition w cond annul disp q) s
    new_do (jmpl rd rs1 x) w q s = new_jump w rd rs1 x (eqb (address_of m.registers rs1 x % 4) 0) q refl s

    new_at : (o : Option ℕ) → Here f (group_at o p n) → Hop new_core (new m f h) (new_out (out_at image base db o p n h m))
    unfolding new_open group_at
    new_at none s = first_ends (stop 2 p) (ending 2 p) s refl refl
    new_at (some w) s = new_do (transfer_of (instruction_of w)) w refl s

    -- -------------------------------------------------------------- a held place
    new_held_effect : (w : ℕ) (x : Next Machine) → transfer_of (instruction_of w) ≡ straight → effect_of db (instruction_of w) m ≡ x
        → Here f (two (do_word w) go_held) → Hop new_core (new m f h) (new_out (held_out x h))
    unfolding new_open
    new_held_effect w (go m') q e s = then_second (do_word w) go_held m' h s (rw (q, e))
    new_held_effect w (halt z) q e s = first_ends (do_word w) z s.0 refl (rw (q, e))

    new_idle : (k : Which) (w cond : ℕ) (annul : Bool) (disp : ℕ) → Reads k cond → which_of cond ≡ k → idle_bicc k annul ≡ true
        → transfer_of (instruction_of w) ≡ bicc cond annul disp → Here f (two (do_word w) go_held) → Hop new_core (new m f h) (new_out (by h m))
    unfolding new_open idle_bicc may_be_held
    new_idle never w cond false disp z y ok q s =
        then_second (do_word w) go_held m h s
        (rw (q, y, idle_does db (instruction_of w) m disp (q ∙ ap (λ (x : ℕ). bicc x false disp) z)))
    new_idle never w cond true disp z y ok q s = absurd (false≢true ok)
    new_idle always w cond annul disp z y ok q s = absurd (false≢true ok)
    new_idle depends w cond annul disp z y ok q s = absurd (false≢true ok)

    new_held_do : (t : Transfer) (w : ℕ) → transfer_of (instruction_of w) ≡ t → may_be_held t ≡ true → Here f (held_group_of t w p)
        → Hop new_core (new m f h) (new_out (do_held image base db t (instruction_of w) p h m))
    unfolding new_open held_group_of may_be_held
    new_held_do illegal w q ok s = first_ends (stop 3 p) (ending 3 p) s refl refl
    new_held_do straight w q ok s = new_held_effect w (effect_of db (instruction_of w) m) q refl s
    new_held_do trap w q ok s = new_trap w q s
    new_held_do (call disp) w q ok s = absurd (false≢true ok)
    new_held_do (bicc cond annul disp) w q ok s = new_idle (which_of cond) w cond annul disp (reads cond) refl ok q s
    new_held_do (jmpl rd rs1 x) w q ok s = absurd (false≢true ok)

    new_held_at : (o : Option ℕ) → may_be_held_at o ≡ true → Here f (held_group_at o p) → Hop new_core (new m f h) (new_out (held_at image base db o p h m))
    unfolding new_open held_group_at may_be_held_at
    new_held_at none ok s = first_ends (stop 2 p) (ending 2 p) s refl refl
    new_held_at (some w) ok s = new_held_do (transfer_of (instruction_of w)) w refl ok s

  -- ---------------------------------------------------------------- of the table and the records that the places make
  module _ (er : rows_in places ≡ rows_of (in_full image base) ps) (ec : records_in records ≡ records_of (in_full image base) ps) where
    joined : (g : Group Place) (f : ℕ) → Stands φ (records_of (in_full image base) ps) f g → Second (in_full image base) 0 f g ps → Here f g
    unfolding rows_of
    joined (one r) f a b = rw ec a
    joined (two r s) f a b = (rw ec a.0, rw ec a.1, rw er (rw zero-add at b))

    here : (x : Place) → member ps x ≡ true → Here (φ x) (group image base x)
    unfolding records_of
    here x h = joined (group image base x) (φ x) (stands (in_full image base) φ ps x h) (unnamed (in_full image base) ps 0 x h)

    pub new_hop : (pl : Place) (h : ℕ) (m : Machine) → suc (φ pl) < 2 ^ 32 → member ps pl ≡ true → allowed image base pl ≡ true
        → Hop new_core (to_new pl h m) (new_out (out image base db pl h m))
    unfolding group allowed
    new_hop (Pair p n) h m low i ok = new_at (φ (Pair p n)) p n h m low (word_in image base p) (here (Pair p n) i)
    new_hop (Held p) h m low i ok = new_held_at (φ (Held p)) p p h m low (word_in image base p) ok (here (Held p) i)

    pub new_mark_lem : (pl : Place) (h : ℕ) (m : Machine) → member ps pl ≡ true → new_core.mark (to_new pl h m) ≡ some (place_at pl)
    unfolding new_mark rows_of
    new_mark_lem pl h m i = rw er (rw zero-add at (named (in_full image base) ps 0 pl i))

-- ------------------------------------------------------------------ so it follows the places of the list, and goes on where that has a plain place
module _ (image : List ℕ) (base db : ℕ) (ps : List Place) (records places : List ℕ) (er : rows_in places ≡ rows_of (in_full image base) ps)
    (ec : records_in records ≡ records_of (in_full image base) ps) (C : Closed image base ps) (few : length ps ≤ 8192) where
  abbrev pub listed : ℕ → Bool
  listed a = member ps (plain a)

  abbrev pub to : Place → ℕ → Machine → New
  to = to_new image base db ps records places

  new_left : (o : Out) → new_out image base db ps records places o ≡ left_by image base db to listed o
  unfolding goes rows_of
  new_left (on pl h m) = refl
  new_left (over e) = refl
  new_left (by a m) = split (member ps (plain a)) refl
    where
      split : (b : Bool) → member ps (plain a) ≡ b
          → new_out image base db ps records places (by a m)
          ≡ pick b (onward (to (plain a) a m)) (lands a (shown_of m) (lost (in_image base (length image) a) a))
      split true e = rw (er, sought (in_full image base) ps 0 a e, zero-add)
      split false e = rw (er, not_sought (in_full image base) ps 0 a e)

  hop : (pl : Place) (h : ℕ) (m : Machine) → member ps pl ≡ true
      → Hop (new_core image base db ps records places) (to pl h m) (new_out image base db ps records places (out image base db pl h m))
  hop pl h m i = new_hop image base db ps records places er ec pl h m (omega (arith, first_le (in_full image base) ps pl)) i (C.ok pl i)

  pub new_hops : (pl : Place) (h : ℕ) (m : Machine) → member ps pl ≡ true
      → Hop (new_core image base db ps records places) (to pl h m) (left_by image base db to listed (out image base db pl h m))
  new_hops pl h m i = subst (Hop (new_core image base db ps records places) (to pl h m)) (new_left (out image base db pl h m)) (hop pl h m i)

  pub new_has : (pl : Place) (h : ℕ) (m : Machine) → (new_core image base db ps records places).machine_of (to pl h m) ≡ m
  new_has pl h m = refl

  pub new_mark_plain : (a h : ℕ) (m : Machine) → listed a ≡ true → (new_core image base db ps records places).mark (to (plain a) h m) ≡ some a
  unfolding place_at
  new_mark_plain a h m q = new_mark_lem image base db ps records places er ec (plain a) h m q

  pub new_ends : (a : ℕ) (m : Machine) → listed a ≡ true → word_in image base a ≡ none → Hop (new_core image base db ps records places) (to (plain a) a m) (ends (ending 2 a))
  new_ends a m q e = rw e at (hop (plain a) a m q)

  abbrev pub new_follower : Follower image base db (new_core image base db ps records places)
  new_follower =
      record {
        ps = ps;
        to = to;
        goes = listed;
        closed = C;
        over = new_over_lem records places base (length image) db;
        has = new_has;
        marks = new_mark_lem image base db ps records places er ec;
        hops = new_hops;
        marks_on = λ a m q. new_mark_plain a a m q;
        ends_on = λ a m q al e. new_ends a m q e;
      }
