-- What a table's methods leave.
use Rattle.std.specs.Prelude.{◌≡◌, List, length}
use Rattle.model.specs.declared.Place.{Place}
use Rattle.places.specs.Table.{places_in}
use Rattle.places.specs.declared.table.Table.{Table}

-- the places of a table, in number order
unfoldable pub listed : Table → List Place
listed t = places_in t.places.now t.index.now.count

-- the bytes are still the caller's, and room is for as many places
pub record Kept (t u : Table) : Type 0 where
  pub bytes : u.places.ghost_name ≡ t.places.ghost_name
  pub size : length u.places.now ≡ length t.places.now
  pub room : u.room ≡ t.room
