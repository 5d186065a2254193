-- Laws of a core's cases.
use mathlib.Core.Bool.{Bool, ◌&&◌}
use mathlib.Core.List.{List}
use mathlib.Core.Path.{◌≡◌}
use lib.Dec.{eqb}
use Prim.Native.Nat.{ℕ}
use Rattle.model.specs.StateBytes.{After}
use Rattle.case_files.specs.declared.Found.{Found}
use Rattle.case_files.specs.Files.{same_bytes, one_entry, checked}
use Rattle.run_cases.specs.Runs.{ended_in, ran_found}

-- a run that is the definition's, compared part by part, has the definition's verdict
pub ran_found_lem : (next tag right : ℕ) (known : List ℕ) (at : ℕ) (after : List ℕ) {a b : After} {e s : Bool} {f : Found} → a ≡ b
    → e ≡ ended_in known at a.ended a.state → s ≡ same_bytes a.area after → f ≡ one_entry next (eqb tag right && e && s)
    → checked f a.area ≡ ran_found next tag right known at after b
unfolding ran_found
ran_found_lem next tag right known at after h i j k = rw (k, i, j, h)
