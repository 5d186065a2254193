-- 01, Places: how the place table is found, and the refusals that the walk may meet.
use Rattle.std.specs.Prelude.{ℕ, zero, suc, Bool, true, false, List, [], ◌∷◌, ◌++◌, ltb, length}
use Rattle.std.proofs.Math.Option.{Option, none, some}
use Rattle.std.proofs.Math.ListN.{get_elem?}
use Rattle.numbers.specs.Choice.{pick}
use Rattle.model.specs.declared.Place.{Place}
use Rattle.model.specs.Places.{place_at, member, followers, allowed, plains}

-- the places in number order, or a refusal's number and address; endless: the turns ran out, which never happens (`places_end`)
pub data Walked : Type 0 where
  table : List Place → Walked
  refused : ℕ → ℕ → Walked
  endless : Walked

-- "one not yet present takes the next number"; refusal 5, "a new place exceeds the table", whose room is cap
unfoldable pub grow : ℕ → List Place → List Place → Walked
grow cap ps [] = table ps
grow cap ps (x ∷ xs) =
    let known = grow cap ps xs in
    let added = grow cap (ps ++ (x ∷ [])) xs in
    pick (member ps x) known (pick (ltb (length ps) cap) added (refused 5 (place_at x)))

-- goes on with the places, if the walk has not ended
unfoldable pub grown : (List Place → Walked) → Walked → Walked
grown rest (table ps) = rest ps
grown rest (refused n a) = refused n a
grown rest endless = endless

module _ (image : List ℕ) (base : ℕ) where
  -- "4 is tested when a place is handled, before its followers"
  unfoldable pub tested : (List Place → Walked) → ℕ → List Place → Place → Bool → Walked
  tested rest cap ps x false = refused 4 (place_at x)
  tested rest cap ps x true = grown rest (grow cap ps (followers image base x))

  unfoldable pub handle : (List Place → Walked) → ℕ → List Place → Option Place → Walked
  handle rest cap ps none = table ps
  handle rest cap ps (some x) = tested rest cap ps x (allowed image base x)

  -- "Places are then handled in number order."
  unfoldable pub walk : ℕ → ℕ → ℕ → List Place → Walked
  walk zero cap i ps = endless
  walk (suc fuel) cap i ps = handle (walk fuel cap (suc i)) cap ps (get_elem? ps i)

  -- "Entries become plain places in list order, a repeat adding none."
  unfoldable pub places_of : ℕ → List ℕ → Walked
  places_of cap entries = grown (walk (suc cap) cap 0) (grow cap [] (plains entries))
