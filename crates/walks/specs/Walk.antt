-- What the code's walk answers, read with the table that it left.
use Rattle.std.specs.Prelude.{ℕ, ◌≡◌, List, Result, Ok, Err}
use Rattle.model.specs.declared.Place.{Place}
use Rattle.model.specs.Places.{allowed}
use Rattle.model.specs.Walk.{Walked, table, refused, grow, tested}
use Rattle.model.specs.declared.Refusal.{Refusal}
use Rattle.model.specs.declared.Refusal.TheVariants as Refusal·
use Rattle.walks.specs.declared.worklist.Refused.{Refused}
use Rattle.walks.specs.declared.worklist.Refused.TheVariants.{Forbidden, NoRoom}
use Rattle.places.specs.declared.table.Table.{Table}
use Rattle.places.specs.Lent.{listed, Kept}

-- an answer, with the places that it left
unfoldable pub seen : Result (Unit {0}) Refused → List Place → Walked
seen (Ok u) ps = table ps
seen (Err (Forbidden a)) ps = refused 4 a
seen (Err (NoRoom a)) ps = refused 5 a

-- the translator's refusal that it is
unfoldable pub refusal_of : Refused → Refusal
refusal_of (Forbidden a) = Refusal·.Forbidden a
refusal_of (NoRoom a) = Refusal·.NoRoom a

-- a place handled, with nothing after it
unfoldable pub handled : List ℕ → ℕ → ℕ → List Place → Place → Walked
handled image base cap ps x = tested image base table cap ps x (allowed image base x)

-- an answer reads as a walk of the definitions, and the table is still the one that was lent
pub record Known (w : Walked) (t : Table) (r : Result (Unit {0}) Refused) (u : Table) : Type 0 where
  pub reads : seen r (listed u) ≡ w
  pub kept : Kept t u

-- places were added, in a list's order, as far as there was room
abbrev pub Grown : Table → List Place → Result (Unit {0}) Refused → Table → Type 0
Grown t xs r u = Known (grow t.room (listed t) xs) t r u
