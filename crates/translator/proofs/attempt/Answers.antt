use Rattle.model.specs.Translation.{place_room}
use Rattle.places.proofs.Chains.{index_none}
use Rattle.std.proofs.lemmas.Result.{err_from_is_err_and}
use Rattle.translator.proofs.Checking.{tr_image, tr_entries, tr_walk}
use Rattle.translator.proofs.Handed.{refused_as, ends_refused}
use Rattle.walks.specs.Walk.{seen}
use borrow.Author.Rules.{rules}
use native.Mathlib.Omega.{arith}
use mathlib.Core.Path.{refl, sym, ◌∙◌}
use Rattle.translator.proofs.attempt.Goals as goal

pub returns-in_err-check_image : goal.returns-in_err-check_image
returns-in_err-check_image c = let p = err_from_is_err_and c.from_residual.result c.from_residual.ensures.1 in
    rw (p.1, p.2) (refused_as _ _ _ _ refl refl _ ∙ tr_image _ _ _ _ _ _ (sym c.in_err-check_image.was ∙ c.check_image.ensures))

pub returns-in_err-check_entries : goal.returns-in_err-check_entries
returns-in_err-check_entries c = let p = err_from_is_err_and c.from_residual-in_err-check_entries.result c.from_residual-in_err-check_entries.ensures.1 in
    rw (p.1, p.2) (refused_as _ _ _ _ refl refl _ ∙ tr_entries _ _ _ _ _ (sym c.in_ok-check_image.was ∙ c.check_image.ensures) _ (sym c.in_err-check_entries.was ∙ c.check_entries.ensures))

pub invariant_of-table : goal.invariant_of-table
unfolding place_room
invariant_of-table c = let r = c.place_room-room.ensures in
    let i = c.new-index.ensures in
    record { ready = rw (i.count, i.heads, i.links) (record { within = omega arith; fits = omega (arith, r); few = omega (arith, r); index = index_none _ }) }

pub returns-in_err-find_places : goal.returns-in_err-find_places
returns-in_err-find_places c = let p = err_from_is_err_and c.from_residual-in_err-find_places.result c.from_residual-in_err-find_places.ensures.1 in
    rw (p.1, p.2) (ends_refused _ _ _ _ (omega arith) refl _ _ _ _
    ∙ tr_walk _ _ _ _ _ (sym c.in_ok-check_image.was ∙ c.check_image.ensures) (sym c.in_ok-check_entries.was ∙ c.check_entries.ensures) c.place_room-room.ensures c.in_err-find_places.ensures.reads)

pub returns : goal.returns
unfolding seen
returns c =
    let f = rw c.find_places.ensures.kept.size at c.finish.ensures.handed in
    let h = f ∙ tr_walk _ _ _ _ _ (sym c.in_ok-check_image.was ∙ c.check_image.ensures) (sym c.in_ok-check_entries.was ∙ c.check_entries.ensures) c.place_room-room.ensures c.in_ok-find_places.ensures.reads in
    let n = c.finish.ensures.kept.bytes ∙ c.find_places.ensures.kept.bytes in
    search (rules, h, n)
