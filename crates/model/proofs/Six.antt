-- The new core ends with no end but one above 0, and with 6 only by a kind 6 whose held address lies in the image and is not found; by such a one it
-- does.
use Prim.Native.Nat.{ℕ, ◌≤◌}
use native.Mathlib.Omega.{arith}
use mathlib.Core.Path.{◌≡◌, refl}
use mathlib.Core.Bool.{true}
use mathlib.Core.List.{List}
use mathlib.Core.Option.{Option, none, some}
use lib.ListN.{get_elem?}
use Rattle.words.specs.Reader.{instruction_of}
use Rattle.machine.specs.Ends.{ending, Next, go, halt, within}
use Rattle.effects.specs.Effect.{Machine, effect_of}
use Rattle.machine.proofs.Ends.{EndsWell}
use Rattle.effects.proofs.Effects.{effects_end}
use Rattle.model.specs.OldCore.{in_image}
use Rattle.model.specs.Records.{Rec, do_word, link, hold, go_if, go_to, go_held, stop, unknown, rows_in, records_in}
use Rattle.model.specs.NewCore.{New, new, following, seek, lost, goes, does, new_next}
use Rattle.model.specs.Trails.{shown_of}
use Rattle.model.specs.Cores.{goes_by, new_by_held, new_over}
use Rattle.model.proofs.NewStep.{Outcome, bad, works, links, keeps, misaligned, taken, untaken, moves, found, outside, unplaced, stopped, outcome}
use Rattle.model.proofs.Hop.{lands, left, Over}
use Rattle.model.proofs.Trails.{none_some}

module _ (records places : List ℕ) (base size db : ℕ) where
  -- the record at hand is a kind 6, and nothing is found at its address
  pub record Fell (r h v : ℕ) : Type 0 where
    pub kind_6 : get_elem? (records_in records) r ≡ some go_held
    pub missed : seek (rows_in places) h ≡ none
    pub address_in_image : in_image base size h ≡ true
    pub held_at : v ≡ h

  module _ (m : Machine) (r h : ℕ) where
    -- an end is above 0, and it is 6 only at such a record
    abbrev Closes : Next New → Type 0
    Closes (go s) = Unit {0}
    Closes (halt (ending n v)) = (1 ≤ n) × (n ≡ 6 → Fell r h v)

    effect_closes : (x : Next Machine) → EndsWell x → Closes (within (following r h) x)
    unfolding within
    effect_closes (go m') e = tt
    effect_closes (halt (ending n v)) e = (e.0, λ z. absurd (e.1 z))

    closes : {o : Option (Rec ℕ)} {x : Next New} → get_elem? (records_in records) r ≡ o → Outcome (rows_in places) base size db m r h o x → Closes x
    closes q bad = (omega arith, λ z. absurd (omega arith))
    closes q (works w) = effect_closes (effect_of db (instruction_of w) m) (effects_end db (instruction_of w) m)
    closes q (links p) = tt
    closes q (keeps w p rd rs1 x) = tt
    closes q (misaligned w p rs1 x) = (omega arith, λ z. absurd (omega arith))
    closes q (taken cond to) = tt
    closes q (untaken cond to) = tt
    closes q (moves to) = tt
    closes q (found f n) = tt
    closes q outside = (omega arith, λ z. absurd (omega arith))
    closes q (unplaced n i) = (omega arith, λ z. record { kind_6 = q; missed = n; address_in_image = i; held_at = refl })
    closes q (stopped e p l) = (omega arith, λ z. absurd (omega arith))

    step_closes : Closes (new_next records places base size db (new m r h))
    unfolding new_next
    step_closes = closes refl (outcome (rows_in places) base size db m r h (get_elem? (records_in records) r))

    pub six_fell : (v : ℕ) → new_next records places base size db (new m r h) ≡ halt (ending 6 v) → Fell r h v
    six_fell v e = (rw e at step_closes).1 refl

    pub kind_6_goes : get_elem? (records_in records) r ≡ some go_held → new_by_held records (new m r h) ≡ some h
    unfolding new_by_held goes_by
    kind_6_goes k = rw k

    pub six_kind : (v : ℕ) (o : Option (Rec ℕ)) → goes_by o h ≡ some v → (o ≡ some go_held) × (v ≡ h)
    unfolding goes_by
    six_kind v none e = none_some e
    six_kind v (some (do_word w)) e = none_some e
    six_kind v (some (link p)) e = none_some e
    six_kind v (some (hold w p)) e = none_some e
    six_kind v (some (go_if cond to)) e = none_some e
    six_kind v (some (go_to to)) e = none_some e
    six_kind v (some go_held) e = let z : v ≡ h = cc in (refl, z)
    six_kind v (some (stop c p)) e = none_some e
    six_kind v (some unknown) e = none_some e

    pub six_lands : (v : ℕ) → new_by_held records (new m r h) ≡ some v → seek (rows_in places) v ≡ none → in_image base size v ≡ true
        → left (new_over records places base size db) (new m r h) ≡ lands v (shown_of m) (ending 6 v)
    unfolding new_next new_by_held goes_by does goes lost
    six_lands v b n i =
        let k = six_kind v (get_elem? (records_in records) r) b in
        rw (k.0, ← k.1, n, i)

  over : (m : Machine) (r h : ℕ) (x : Next New) → Closes m r h x → Over (new_over records places base size db) x
  over m r h (go s) c = tt
  over m r h (halt (ending n v)) c = c.0

  pub new_over_lem : (s : New) → Over (new_over records places base size db) ((new_over records places base size db).next s)
  new_over_lem (new m r h) = over m r h (new_next records places base size db (new m r h)) (step_closes m r h)
