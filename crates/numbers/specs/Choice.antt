-- Choice by a test, and by a key in a list of rows.
use Rattle.std.specs.Prelude.{ℕ, Bool, true, false, List, [], ◌∷◌, ◌==◌}

-- one of two values, by a test
abbrev pub pick : {A : Type 0} → Bool → A → A → A
pick true a b = a
pick false a b = b

-- what stands in the first row whose key is k, and d where there is none
abbrev pub find : {A : Type 0} → List (ℕ × A) → A → ℕ → A
find [] d k = d
find (row ∷ rows) d k = pick (k == row.0) row.1 (find rows d k)
