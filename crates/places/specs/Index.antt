-- The index of the place table: places with one hash form a chain, from the newest to the oldest.
use Rattle.std.specs.Prelude.{ℕ, zero, suc, ◌+◌, ◌*◌, ◌/◌, ◌%◌, ◌≤◌, ◌<◌, false, List, ◌≡◌, length, get_or, eqb, Option, Some, None}
use Rattle.numbers.specs.Choice.{pick}
use Rattle.model.specs.declared.Place.{Place}
use Rattle.model.specs.Places.{place_at, next_of, same_place}
use Rattle.places.specs.Table.{place_in, ShowsIn}

unfoldable pub hash : Place → ℕ
hash x = (place_at x / 4 % 65536 + next_of x / 4 % 65536 * 37) % 8192

-- a place as its chain has it: one more than its number, and 0 for none
unfoldable pub link_of : Option ℕ → ℕ
link_of None = 0
link_of (Some i) = suc i

-- one more than the number of the last place with hash h among the first n; 0 where there is none
unfoldable pub last : List ℕ → ℕ → ℕ → ℕ
last bytes zero h = 0
last bytes (suc n) h = pick (eqb (hash (place_in bytes n)) h) (suc n) (last bytes n h)

-- heads leads to the last place of each hash, links from a place to the one before it with the same hash; each row is a place, and no two
-- are the same
pub record Indexed (bytes : List ℕ) (n : ℕ) (heads links : List ℕ) : Type 0 where
  pub head_room : length heads ≡ 8192
  pub link_room : length links ≡ 8192
  pub head : (h : ℕ) → h < 8192 → get_or heads h 0 ≡ last bytes n h
  pub link : (i : ℕ) → i < n → get_or links i 0 ≡ last bytes i (hash (place_in bytes i))
  pub shows : (i : ℕ) → i < n → ShowsIn bytes i
  pub apart : (i j : ℕ) → i < j → j < n → same_place (place_in bytes i) (place_in bytes j) ≡ false

-- n places that lie in the bytes and can all be numbered, with the index that fits them
pub record Tabled (bytes : List ℕ) (n : ℕ) (heads links : List ℕ) : Type 0 where
  pub fits : 16 * n ≤ length bytes
  pub few : n ≤ 8192
  pub index : Indexed bytes n heads links

-- the same of a table that has room for more
pub record Ready (room : ℕ) (bytes : List ℕ) (n : ℕ) (heads links : List ℕ) : Type 0 where
  pub within : n ≤ room
  pub fits : 16 * room ≤ length bytes
  pub few : room ≤ 8192
  pub index : Indexed bytes n heads links
