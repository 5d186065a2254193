use native.Mathlib.Omega.{arith}
use mathlib.Core.Path.{sym, ◌∙◌}
use borrow.Author.Tests.{eq-eqb, ne_eqb}
use Rattle.words.specs.Reader.{set_from}
use Rattle.words.proofs.Strict.{no_bit_high, constant_strays, register_set_strays}
use Rattle.flows.proofs.operand_strays.Goals as goal

pub returns-then-high8-eq0 : goal.returns-then-high8-eq0
unfolding set_from
returns-then-high8-eq0 c = no_bit_high _ _ (rw (← c.high8.ensures, eq-eqb _ _ c.if-high8-eq0.true))

pub returns-then-constant_bit : goal.returns-then-constant_bit
unfolding set_from
returns-then-constant_bit c =
    constant_strays _ _ _ (sym c.constant_bit.ensures ∙ c.if-constant_bit.true) (rw (← c.high8.ensures, ne_eqb _ _ c.if-high8-eq0.false))
    c.subtract.ensures (omega arith)

pub returns : goal.returns
unfolding set_from
returns c =
    register_set_strays _ _ (sym c.constant_bit.ensures ∙ c.if-constant_bit.false) (rw (← c.high8.ensures, ne_eqb _ _ c.if-high8-eq0.false))
