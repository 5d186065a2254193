use Rattle.groups.specs.Layout.{first_in}
use Rattle.places.proofs.Rows.{length_places}
use Rattle.places.proofs.Chains.{found_some, found_nothing}
use borrow.Author.Tests.{ltb-true}
use native.Mathlib.Omega.{arith}
use mathlib.Core.Path.{sym, ◌∙◌}
use Rattle.groups.proofs.records.Firsts.of.Goals as goal

pub first_record-requires : goal.first_record-requires
first_record-requires c = let f = found_some _ _ (sym c.in-Some.is ∙ c.find.ensures) in
    let n = length_places c.args.self.rows.places.now c.args.self.rows.count in
    omega (arith, f.0, ltb-true _ _ f.1, n)

pub returns-in-Some : goal.returns-in-Some
unfolding first_in
returns-in-Some c = let f = found_some _ _ (sym c.in-Some.is ∙ c.find.ensures) in
    let n = length_places c.args.self.rows.places.now c.args.self.rows.count in
    let g = rw n at f.1 in
    rw (g, ← f.0) c.first_record.ensures

pub returns-in-None : goal.returns-in-None
unfolding first_in
returns-in-None c = let f = found_nothing _ _ (sym c.in-None.is ∙ c.find.ensures) in
    let n = length_places c.args.self.rows.places.now c.args.self.rows.count in
    let g = rw n at f in
    rw g
