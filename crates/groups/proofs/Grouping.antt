-- Laws of groups: by a branch's condition, by a word's flow, by a place's numbers.
use Rattle.numbers.specs.Number.{plus, number_at}
use Rattle.numbers.specs.Choice.{pick}
use Rattle.words.specs.Reader.{instruction_of}
use Rattle.words.specs.Flow.{flow_of}
use Rattle.words.specs.declared.Instruction.{Instruction}
use Rattle.words.specs.declared.Flow.{Flow}
use Rattle.words.specs.declared.Flow.TheVariants.{Faults, Continues, Traps, Calls, Branches, Jumps}
use Rattle.model.specs.OldCore.{word_in, word_of, transfer_of, target}
use Rattle.model.specs.declared.Place.TheVariants.{Pair, Held}
use Rattle.model.specs.Places.{plain, which_of, never, depends}
use Rattle.model.specs.Records.{one, two, do_word, link, hold, go_held, go_if, go_to, stop, bicc_group, group_of, held_group_of, group_at, held_group_at, group}
use Rattle.std.specs.Prelude.{Option, Some, None}
use Rattle.places.specs.Control.{transferred}
use Rattle.places.specs.Table.{place_of, place_in}
use Rattle.model.proofs.Branches.{which_never, which_always, which_depends, by_annul}
use Rattle.places.proofs.Flows.{by_flow, fetched_none, fetched_some}
use Rattle.groups.specs.Layout.{size}
use lib.Dec.{eqb}
use mathlib.Core.List.{List}
use mathlib.Core.Bool.{Bool, true, false}
use mathlib.Core.Path.{◌≡◌, refl, sym}
use Prim.Native.Nat.{ℕ, ◌+◌, ◌*◌}

-- the group of a branch, by its condition
module _ (cond : ℕ) (annul : Bool) (t n : ℕ) where
  pub never_group : cond ≡ 0 → bicc_group (which_of cond) cond annul t n ≡ one (go_to (plain (pick annul (plus n 4) n)))
  unfolding bicc_group
  never_group e = rw (which_never e) (by_annul (λ b. bicc_group never cond b t n) (λ m. one (go_to (plain m))) n refl refl annul)

  pub always_group : cond ≡ 8 → annul ≡ false → bicc_group (which_of cond) cond annul t n ≡ one (go_to (Pair n t))
  unfolding bicc_group
  always_group e a = rw (which_always e, a)

  pub annulled_group : cond ≡ 8 → annul ≡ true → bicc_group (which_of cond) cond annul t n ≡ one (go_to (plain t))
  unfolding bicc_group
  annulled_group e a = rw (which_always e, a)

  pub depends_group : (cond ≡ 0 → ⊥) → (cond ≡ 8 → ⊥)
      → bicc_group (which_of cond) cond annul t n ≡ two (go_if cond (Pair n t)) (go_to (plain (pick annul (plus n 4) n)))
  unfolding bicc_group
  depends_group h k =
      rw (which_depends h k)
      (by_annul (λ b. bicc_group depends cond b t n) (λ m. two (go_if cond (Pair n t)) (go_to (plain m))) n refl refl annul)

-- the group of a word, by what its flow is
module _ (word p n : ℕ) {f : Flow} where
  pub faults_group : f ≡ Faults → group_of (transferred f) word p n ≡ one (stop 3 p)
  unfolding group_of transferred
  faults_group e = rw e

  pub continues_group : f ≡ Continues → group_of (transferred f) word p n ≡ two (do_word word) (go_to (plain n))
  unfolding group_of transferred
  continues_group e = rw e

  pub traps_group : f ≡ Traps → group_of (transferred f) word p n ≡ one (do_word word)
  unfolding group_of transferred
  traps_group e = rw e

  pub calls_group : {d : ℕ} → f ≡ Calls d → group_of (transferred f) word p n ≡ two (link p) (go_to (Pair n (target p d)))
  unfolding group_of transferred
  calls_group e = rw e

  pub branches_group : {cond d : ℕ} {annul : Bool} → f ≡ Branches cond annul d
      → group_of (transferred f) word p n ≡ bicc_group (which_of cond) cond annul (target p d) n
  unfolding group_of transferred
  branches_group e = rw e

  pub jumps_group : {rd : ℕ} → f ≡ Jumps rd → group_of (transferred f) word p n ≡ two (hold word p) (go_to (Held n))
  unfolding group_of transferred
  jumps_group e = rw e

-- the same where it is held
module _ (word p : ℕ) {f : Flow} where
  pub faults_held : f ≡ Faults → held_group_of (transferred f) word p ≡ one (stop 3 p)
  unfolding held_group_of transferred
  faults_held e = rw e

  pub traps_held : f ≡ Traps → held_group_of (transferred f) word p ≡ one (do_word word)
  unfolding held_group_of transferred
  traps_held e = rw e

pub others_held : (word p : ℕ) (f : Flow) → (f ≡ Faults → ⊥) → (f ≡ Traps → ⊥) → held_group_of (transferred f) word p ≡ two (do_word word) go_held
unfolding held_group_of transferred
others_held word p Faults h k = absurd (h refl)
others_held word p Continues h k = refl
others_held word p Traps h k = absurd (k refl)
others_held word p (Calls disp) h k = refl
others_held word p (Branches cond annul disp) h k = refl
others_held word p (Jumps rd) h k = refl

-- the group of a word, by its flow
group_flow : (i : Instruction) (word p n : ℕ) → group_of (transferred (flow_of i)) word p n ≡ group_of (transfer_of i) word p n
unfolding group_of
group_flow i word p n = by_flow (λ t. group_of t word p n) (λ rd rs1 x. refl) i

held_group_flow : (i : Instruction) (word p : ℕ) → held_group_of (transferred (flow_of i)) word p ≡ held_group_of (transfer_of i) word p
unfolding held_group_of
held_group_flow i word p = by_flow (λ t. held_group_of t word p) (λ rd rs1 x. refl) i

-- the group of a place, by its address, its word and whether it is held
module _ (image : List ℕ) (base p : ℕ) {f : Option ℕ} (e : word_of f ≡ word_in image base p) (held : Bool) (n : ℕ) where
  pub outside_group : f ≡ None → group image base (pick held (Held p) (Pair p n)) ≡ one (stop 2 p)
  unfolding group group_at held_group_at
  outside_group h = go held
    where
      go : (b : Bool) → group image base (pick b (Held p) (Pair p n)) ≡ one (stop 2 p)
      go true = rw (fetched_none image base p e h)
      go false = rw (fetched_none image base p e h)

  pub word_group : {word : ℕ} {v : Flow} → f ≡ Some word → v ≡ flow_of (instruction_of word)
      → group image base (pick held (Held p) (Pair p n)) ≡ pick held (held_group_of (transferred v) word p) (group_of (transferred v) word p n)
  unfolding group group_at held_group_at
  word_group {word} {v} h i = rw i (go held)
    where
      go : (b : Bool) → group image base (pick b (Held p) (Pair p n))
          ≡ pick b (held_group_of (transferred (flow_of (instruction_of word))) word p) (group_of (transferred (flow_of (instruction_of word))) word p n)
      go true = rw (fetched_some image base p e h) (sym (held_group_flow (instruction_of word) word p))
      go false = rw (fetched_some image base p e h) (sym (group_flow (instruction_of word) word p n))

-- the same of row i
module _ (image : List ℕ) (base : ℕ) (l : List ℕ) (i : ℕ) {p : ℕ} {f : Option ℕ} (a : p ≡ number_at l (16 * i)) (e : word_of f ≡ word_in image base p) where
  pub row_outside : f ≡ None → group image base (place_in l i) ≡ one (stop 2 p)
  unfolding place_in place_of
  row_outside h = rw (← a) (outside_group image base p e (eqb (number_at l (16 * i + 8)) 2) (number_at l (16 * i + 4)) h)

  module _ {word : ℕ} {v : Flow} {held : Bool} (h : f ≡ Some word) (u : v ≡ flow_of (instruction_of word)) (k : held ≡ eqb (number_at l (16 * i + 8)) 2) where
    pub row_held : held ≡ true → group image base (place_in l i) ≡ held_group_of (transferred v) word p
    unfolding place_in place_of
    row_held b = rw (← a, ← k, word_group image base p e held (number_at l (16 * i + 4)) h u, b)

    pub row_pair : {n : ℕ} → n ≡ number_at l (16 * i + 4) → held ≡ false → group image base (place_in l i) ≡ group_of (transferred v) word p n
    unfolding place_in place_of
    row_pair {n} c b = rw (← a, ← c, ← k, word_group image base p e held n h u, b)

pub row_size : (image : List ℕ) (base : ℕ) (l : List ℕ) (i : ℕ) {p : ℕ} {held : Bool} {r : ℕ} → p ≡ number_at l (16 * i)
    → held ≡ eqb (number_at l (16 * i + 8)) 2 → ((n : ℕ) → r ≡ size (group image base (pick held (Held p) (Pair p n))))
    → r ≡ size (group image base (place_in l i))
unfolding place_in place_of
row_size image base l i a k h = rw (← a, ← k) (h (number_at l (16 * i + 4)))
