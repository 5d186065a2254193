-- The place table's bytes as a list of places.
use Rattle.std.specs.Prelude.{ℕ, suc, ◌+◌, ◌*◌, ◌^◌, ◌<◌, List, [], ◌∷◌, ◌≡◌, eqb, ltb, length, Option, Some, None}
use Rattle.numbers.specs.Choice.{pick}
use Rattle.numbers.specs.Number.{number_at, put_number, up_to}
use Rattle.model.specs.declared.Place.{Place}
use Rattle.model.specs.declared.Place.TheVariants.{Pair, Held}
use Rattle.model.specs.Places.{place_at, next_of, kind_of, same_place}

-- the place with an address, a next and a kind: kind 2 is held
unfoldable pub place_of : ℕ → ℕ → ℕ → Place
place_of p n kind = pick (eqb kind 2) (Held p) (Pair p n)

-- next and kind are those that the place has, so that the three numbers tell it from any other
pub record Shows (p n kind : ℕ) : Type 0 where
  pub its_next : next_of (place_of p n kind) ≡ n
  pub its_kind : kind_of (place_of p n kind) ≡ kind

-- a place whose address and next are numbers of 32 bits, as each of the code's is
pub record Narrow (x : Place) : Type 0 where
  pub address : place_at x < 2 ^ 32
  pub next : next_of x < 2 ^ 32

-- of row i
unfoldable pub place_in : List ℕ → ℕ → Place
place_in bytes i = place_of (number_at bytes (16 * i)) (number_at bytes (16 * i + 4)) (number_at bytes (16 * i + 8))

abbrev pub ShowsIn : List ℕ → ℕ → Type 0
ShowsIn bytes i = Shows (number_at bytes (16 * i)) (number_at bytes (16 * i + 4)) (number_at bytes (16 * i + 8))

-- row i of two tables with the same place, and the same numbers for it
abbrev pub SameRow : List ℕ → List ℕ → ℕ → Type 0
SameRow l m i =
    (number_at l (16 * i) ≡ number_at m (16 * i)) × (number_at l (16 * i + 4) ≡ number_at m (16 * i + 4))
    × (number_at l (16 * i + 8) ≡ number_at m (16 * i + 8))

-- the first n places
unfoldable pub places_in : List ℕ → ℕ → List Place
places_in bytes n = up_to (place_in bytes) n

-- the table with three numbers in row i
unfoldable pub put_place : List ℕ → ℕ → ℕ → ℕ → ℕ → List ℕ
put_place bytes i p n kind = put_number (put_number (put_number bytes (16 * i) p) (16 * i + 4) n) (16 * i + 8) kind

-- the table with row i a place
unfoldable pub put_row : List ℕ → ℕ → Place → List ℕ
put_row bytes i x = put_place bytes i (place_at x) (next_of x) (kind_of x)

-- the lowest number of a place in a list, and the list's length where it is not there
unfoldable pub number_of : Place → List Place → ℕ
number_of x [] = 0
number_of x (y ∷ ys) = pick (same_place y x) 0 (suc (number_of x ys))

-- the same, where it is there
unfoldable pub found : Place → List Place → Option ℕ
found x ps = pick (ltb (number_of x ps) (length ps)) (Some (number_of x ps)) None
