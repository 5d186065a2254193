use Rattle.std.proofs.Common.{ℕ, ◌%◌, sym, ap, ◌∙◌, le_refl}
use lib.ListN.{get_or-eq_default}
use Rattle.words.specs.Conditions.{holds_of, rows, bit_at}
use Rattle.words.proofs.Conditions.{zero_row}
use Rattle.words.proofs.holds.Goals as goal

pub returns-in-Some : goal.returns-in-Some
unfolding holds_of rows
returns-in-Some c = c.bit_at.ensures ∙ ap (λ (k : ℕ). bit_at k (c.args.nzvc % 16)) (c.in-Some.ensures.lookup.4 (le_refl _) 0)

pub returns-in-None : goal.returns-in-None
unfolding holds_of rows
returns-in-None c = sym (ap (λ (k : ℕ). bit_at k (c.args.nzvc % 16)) (get_or-eq_default rows 0 c.in-None.ensures.lookup.3) ∙ zero_row _)
