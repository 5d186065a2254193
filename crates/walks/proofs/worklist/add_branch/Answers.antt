use Rattle.model.proofs.Branches.{never_names, always_names, always_annuls, depends_names}
use Rattle.walks.proofs.Walking.{grown_on, grown_end}
use Rattle.std.proofs.lemmas.Result.{err_from_is_err_and}
use native.Mathlib.Omega.{arith}
use Rattle.walks.proofs.worklist.add_branch.Goals as goal

pub returns-in-0 : goal.returns-in-0
returns-in-0 c = rw (never_names c.args.cond c.args.annul c.args.t.0 c.args.n.0 c.in-0.is, ← c.untaken.ensures) c.add_plain.ensures

pub returns-in-8 : goal.returns-in-8
returns-in-8 c = rw (always_annuls c.args.cond c.args.annul c.args.t.0 c.args.n.0 c.in-8.is c.if-annul.true) c.add_plain-in-8.ensures

pub returns-in-8-2 : goal.returns-in-8-2
returns-in-8-2 c = rw (always_names c.args.cond c.args.annul c.args.t.0 c.args.n.0 c.in-8.is c.if-annul.false) c.add.ensures

pub returns-in_err-add_plain-in_default : goal.returns-in_err-add_plain-in_default
returns-in_err-add_plain-in_default c = let p = err_from_is_err_and c.from_residual.result c.from_residual.ensures.1 in
    rw (p.1, p.2, depends_names c.args.cond c.args.annul c.args.t.0 c.args.n.0 (λ e. omega arith) (λ e. omega arith), ← c.untaken-in_default.ensures) (grown_end _ _ _ c.in_err-add_plain-in_default.ensures)

pub returns-in_ok-add_plain-in_default : goal.returns-in_ok-add_plain-in_default
returns-in_ok-add_plain-in_default c = rw (depends_names c.args.cond c.args.annul c.args.t.0 c.args.n.0 (λ e. omega arith) (λ e. omega arith), ← c.untaken-in_default.ensures)
    (grown_on _ _ c.in_ok-add_plain-in_default.ensures c.add-in_default.ensures)
