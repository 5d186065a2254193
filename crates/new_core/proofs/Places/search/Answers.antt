use Rattle.new_core.specs.Sought.{sought_of}
use native.Mathlib.Omega.{arith}
use mathlib.Core.Path.{sym, ◌∙◌}
use Rattle.new_core.proofs.Rows.{sought_here, not_plain, elsewhere, no_row}
use Rattle.new_core.proofs.Places.search.Goals as goal
use Rattle.new_core.proofs.Places.search.Goals.{else-read_number-a-via-then-read_number-a+else-read_number-eq0, else-read_number-a-via-else-read_number-a}

pub loop-row-init : goal.loop-row-init
loop-row-init c = let i = c.into_iter-row-iterator.ensures.into_iter_gives in
    (rw i c.chunks_exact-row-items.ensures.size, rw (i, c.chunks_exact-row-items.ensures.rest))

pub returns-then-read_number-eq0 : goal.returns-then-read_number-eq0
unfolding sought_of
returns-then-read_number-eq0 c = let s = c.in-Some.ensures.steps in
    let v = c.loop-row.invariant in
    let h = sought_here _ c.next.new.self.rest.now _ (s.1.1 ∙ v.0) (sym c.read_number-then-read_number-a.ensures ∙ c.if-read_number-eq0.true) (sym c.read_number.ensures ∙ c.if-read_number-a.true) in
    rw c.read_number-then-read_number-eq0.ensures (sym h ∙ (rw s.1.0 at v.1))

pub loop-row-preserved : goal.loop-row-preserved
loop-row-preserved c = let s = c.in-Some.ensures.steps in
    let v = c.loop-row.invariant in
    let z = s.0 ∙ v.0 in
    let l = s.1.1 ∙ v.0 in
    let r = rw s.1.0 at v.1 in
    elim c.else-read_number-a.branch [
      | else-read_number-a-via-then-read_number-a+else-read_number-eq0 w ↦ (z, sym (not_plain _ _ _ l (λ e. w.if-read_number-eq0.false (w.read_number-then-read_number-a.ensures ∙ e))) ∙ r)
      | else-read_number-a-via-else-read_number-a w ↦ (z, sym (elsewhere _ _ _ l (λ e. w.if-read_number-a.false (c.read_number.ensures ∙ e))) ∙ r)
    ]

pub returns : goal.returns
unfolding sought_of
returns c = let s = c.in-None.ensures.steps in
    let v = c.loop-row.invariant in
    sym (no_row _ _ (omega arith)) ∙ v.1
