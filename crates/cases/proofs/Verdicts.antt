-- Laws of verdicts: a run over as many zeros as a case's data has bytes.
use lib.ListN.{take, replicate}
use native.Mathlib.Omega.{arith}
use mathlib.Core.List.{List}
use mathlib.Core.Path.{◌≡◌, ap, ◌∙◌}
use Prim.Native.Nat.{ℕ, ◌+◌, min}
use Rattle.case_files.proofs.Areas.{filled_start}
use Rattle.cases.specs.declared.Core.{Core}
use Rattle.case_files.specs.declared.Found.{Found}
use Rattle.case_files.specs.Files.{number_in, Checked, checked}
use Rattle.cases.specs.Kinds.{size_at, ran_in, ran}

-- a run over the start of an area of zeros
ran_over : (core : Core) (bytes : List ℕ) (at most n size : ℕ) {zeros : List ℕ} → zeros ≡ replicate most 0 → n ≡ min size most
    → size ≡ number_in bytes (at + size_at core) → take n zeros ≡ replicate (min (number_in bytes (at + size_at core)) most) 0
ran_over core bytes at most n size z m s = rw z (filled_start 0 n most (omega (arith, m)) ∙ rw (m, s))

pub ran_by : (core : Core) (bytes : List ℕ) (at n size : ℕ) {zeros area : List ℕ} {f : Found} → zeros ≡ replicate 65552 0 → n ≡ min size 65552
    → size ≡ number_in bytes (at + size_at core) → checked f area ≡ ran_in core bytes at (take n zeros) → f ≡ ran core bytes at
unfolding ran
ran_by core bytes at n size z m s e =
    ap (λ (v : Checked). v.verdict) e ∙ ap (λ (l : List ℕ). (ran_in core bytes at l).verdict) (ran_over core bytes at 65552 n size z m s)
