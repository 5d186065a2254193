use Rattle.model.specs.Records.{numbers_in}
use Rattle.translator.proofs.Checking.{bad_here, bad_later, bad_nowhere, good_count, count_of, entries_none, entries_bad, entries_good}
use native.Mathlib.Omega.{arith}
use mathlib.Core.Path.{sym, ◌∙◌}
use Rattle.translator.proofs.check_entries.Goals as goal

pub returns-then-bad_count : goal.returns-then-bad_count
returns-then-bad_count c = entries_none _ _ _ (rw count_of (sym c.bad_count.ensures ∙ c.if-bad_count.true))

pub overflow_cast-result : goal.overflow_cast-result
overflow_cast-result c = omega (arith, good_count _ c.bad_count.ensures c.if-bad_count.false)

pub returns-then-bad_entry : goal.returns-then-bad_entry
unfolding numbers_in
returns-then-bad_entry c = entries_bad _ _ _ (rw count_of (sym c.bad_count.ensures ∙ c.if-bad_count.false)) _
    (bad_here _ _ _ _ _ _ c.loop-j-test.true c.read_number-e.ensures c.bad_entry.ensures c.if-bad_entry.true ∙ c.loop-j.invariant)

pub loop-j-preserved : goal.loop-j-preserved
unfolding numbers_in
loop-j-preserved c = bad_later _ _ _ _ _ _ c.loop-j-test.true c.read_number-e.ensures c.bad_entry.ensures c.if-bad_entry.false ∙ c.loop-j.invariant

pub returns : goal.returns
unfolding numbers_in
returns c = entries_good _ _ _ (rw count_of (sym c.bad_count.ensures ∙ c.if-bad_count.false)) (bad_nowhere _ _ _ _ _ c.loop-j-test.false ∙ c.loop-j.invariant)
