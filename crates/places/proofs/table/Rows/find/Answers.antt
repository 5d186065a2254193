use Rattle.places.proofs.Chains.{seeking_start, here_hit, here_next, here_less, seeking_end, found_at, found_none}
use Rattle.places.specs.Index.{link_of}
use native.Mathlib.Omega.{arith}
use mathlib.Core.Path.{refl, sym, ◌∙◌}
use Rattle.places.proofs.table.Rows.find.Goals as goal

pub loop-next-init : goal.loop-next-init
loop-next-init c = rw c.newest-next.ensures (seeking_start _ _ _ _ _ c.args.self.now.tabled.index _ refl)

pub is_place-requires : goal.is_place-requires
unfolding link_of
is_place-requires c =
    let s = rw c.in-Some.is at c.loop-next.invariant in
    let r = c.args.self.now.tabled in
    (omega (arith, s.0, r.fits), r.index.shows _ (omega (arith, s.0)))

pub returns-then-is_place : goal.returns-then-is_place
unfolding link_of
returns-then-is_place c = let s = rw c.in-Some.is at c.loop-next.invariant in
    found_at _ _ _ _ (omega (arith, s.0)) (here_hit _ _ _ _ _ c.args.self.now.tabled.index _ s (sym c.is_place.ensures ∙ c.if-is_place.true))

pub older-next-requires : goal.older-next-requires
unfolding link_of
older-next-requires c = let s = rw c.in-Some.is at c.loop-next.invariant in omega (arith, s.0, c.args.self.now.tabled.few)

pub loop-next-smaller : goal.loop-next-smaller
unfolding link_of
loop-next-smaller c = let s = rw c.in-Some.is at c.loop-next.invariant in
    rw (c.in-Some.is, c.older-next.ensures) (here_less _ _ _ _ _ c.args.self.now.tabled.index _ s)

pub loop-next-preserved : goal.loop-next-preserved
unfolding link_of
loop-next-preserved c = let s = rw c.in-Some.is at c.loop-next.invariant in
    rw c.older-next.ensures (here_next _ _ _ _ _ c.args.self.now.tabled.index _ s (sym c.is_place.ensures ∙ c.if-is_place.false))

pub returns : goal.returns
unfolding link_of
returns c = found_none _ _ _ (seeking_end _ _ _ 0 (rw c.in_default.is at c.loop-next.invariant) (omega arith))
