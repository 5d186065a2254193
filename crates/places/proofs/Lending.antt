-- Laws of a table that is lent on.
use Rattle.places.proofs.Rows.{length_places}
use Rattle.places.specs.declared.table.Table.{Table}
use Rattle.places.specs.Lent.{listed, Kept}
use lib.ListN.{length}
use mathlib.Core.Path.{◌≡◌, refl, ◌∙◌}

pub kept_self : (t : Table) → Kept t t
kept_self t = record { bytes = refl; size = refl; room = refl }

pub kept_trans : {t u v : Table} → Kept t u → Kept u v → Kept t v
kept_trans x y = record { bytes = y.bytes ∙ x.bytes; size = y.size ∙ x.size; room = y.room ∙ x.room }

pub length_listed : (t : Table) → length (listed t) ≡ t.index.now.count
unfolding listed
length_listed t = length_places t.places.now t.index.now.count
