-- Demand 3 of the request. Above each part stand the words that it renders. Throughout, x and y are starts, s a core's state with how it
-- ended, a an address, h a held address, c a core (o the old one, n the new one), t and u trails (t old, u new), and k the cut.
use Rattle.std.specs.Prelude.{ℕ, suc, ◌+◌, ◌*◌, ◌≤◌, ◌<◌, min, ◌≡◌, ◌↔◌, Bool, true, List, length, take, get_or}
use Rattle.std.proofs.Math.Option.{some}
use Rattle.numbers.specs.Number.{Below}
use Rattle.machine.specs.Ends.{ending, State, state, live}
use Rattle.machine.specs.Registers.{file_size, y_of}
use Rattle.windows.specs.Windows.{nesting_of, place_of}
use Rattle.effects.specs.Effect.{machine}
use Rattle.model.specs.Run.{run}
use Rattle.model.specs.OldCore.{in_image}
use Rattle.model.specs.Places.{plain, Makes}
use Rattle.model.specs.Records.{numbers_in}
use Rattle.model.specs.Translation.{accepted, Handed, translation}
use Rattle.model.specs.Trails.{Core, Trail, at, trail, entries, closing, opening, last_at, later, gaps, OneOrTwo, Unspent, reached, stood, landed, Traced}
use Rattle.model.specs.Cores.{Start, old_over, new_over, old_begin, new_begin, steps_for, trail_of}

-- "any address with a plain place to begin at": 01, "where the rules under Places make one from image, base and entry list"
abbrev pub Placed : List ℕ → ℕ → List ℕ → ℕ → Type 0
Placed image base entryList a = Makes image base (numbers_in entryList) (plain a)

-- "An entry is the address about to be executed, all registers, flags and data bytes"; 02, N4: "The state and each trail entry gain Y"; N11: "Trail
-- entries show the nesting and every window": the first, after 0 steps, is the start itself. Of the windows, what the current one covers is its
-- registers, and the rest the start's
pub record Begins (x : Start) (t : Trail) : Type 0 where
  pub registers : List ℕ
  pub flags : ℕ
  pub area : List ℕ
  pub rest : Trail
  pub first : t ≡ at 0 x.address (machine registers flags area) rest
  pub whole : length registers ≡ file_size
  pub register_0 : get_or registers 0 0 ≡ 0
  pub others : (i : ℕ) → 1 ≤ i → i < 32 → get_or registers i 0 ≡ get_or x.registers i 0
  pub same_y : y_of registers ≡ y_of x.registers
  pub nesting : nesting_of registers ≡ min (nesting_of x.registers) 6
  pub current : (r : ℕ) → 8 ≤ r → r < 32 → get_or registers (place_of (nesting_of registers) r) 0 ≡ get_or registers r 0
  pub windows : (i : ℕ) → 34 ≤ i → i < file_size → ((r : ℕ) → 8 ≤ r → r < 32 → i ≡ place_of (nesting_of registers) r → ⊥)
      → get_or registers i 0 ≡ get_or x.registers i 0
  pub same_flags : flags ≡ x.flags
  pub same_area : area ≡ take 65536 x.area

-- 01: "A trail is made of its core's steps alone": each entry is that of the state so many steps after the last one's, and none is left out: however
-- many steps are done, they lead to as many entries as marks stood, and to one more where the run has landed, up to the cut. No count of steps from
-- the bound up makes another trail.
-- 01: "A trail cut at k entries closes with 0 where entry k + 1 would come; any other closes with its end and that end's number."
pub record Complete {S : Type 0} (c : Core S) (k : ℕ) (s : State S) : Type 0 where
  pub traced : Traced c s (later (trail_of c k s)) (entries (trail_of c k s))
  pub as_many : (steps : ℕ) → reached steps (later (trail_of c k s)) ≡ min (stood c steps s + landed c (run c.next steps s)) k
  pub unspent : Unspent (trail_of c k s)
  pub steady : (count : ℕ) → steps_for k ≤ count → trail c count k 0 s ≡ trail_of c k s
  pub full_cut : closing (trail_of c k s) ≡ ending 0 0 → length (entries (trail_of c k s)) ≡ k
  pub cut_where : (closing (trail_of c k s) ≡ ending 0 0) ↔ (length (entries (trail_of c (suc k) s)) ≡ suc k)
  pub ends_as : (number value : ℕ) → closing (trail_of c k s) ≡ ending (suc number) value
      → (steps : ℕ) × ((there : S) × (run c.next steps s ≡ state there (ending (suc number) value)))

-- "where the new core goes by a held address that lies in the image and has no plain place, and the cut leaves room for the entry at
-- that address": h is that address, and after so many steps the core is still going and about to go by it
pub record Strays {S : Type 0} (placed : ℕ → Type 0) (inside : ℕ → Bool) (c : Core S) (k : ℕ) (s : State S) (h : ℕ) : Type 0 where
  pub steps : ℕ
  pub there : S
  pub going : run c.next steps s ≡ live there
  pub by_held_lem : c.by_held there ≡ some h
  pub address_in_image : inside h ≡ true
  pub no_place : ¬ placed h
  pub room : stood c steps s < k

-- equal trails: the same entries, closed alike
abbrev pub Equal : Trail → Trail → Type 0
Equal t u = (entries t ≡ entries u) × (closing t ≡ closing u)

-- the claim of an old trail t and a new trail u, where `strays h` says that the exception holds at h
pub record Claim (strays : ℕ → Type 0) (t u : Trail) : Type 0 where
  -- "the old core's trail over the image and the new core's over its translation are equal exactly when their first entries are"
  pub equal : ((h : ℕ) → ¬ strays h) → (Equal t u ↔ (opening t ≡ opening u))
  -- "the new trail ends there with end 6, as it does nowhere else"
  pub six : (h : ℕ) → (closing u ≡ ending 6 h) ↔ strays h
  pub six_is_last : (h : ℕ) → strays h → last_at (entries u) 0 ≡ h
  -- "both are then compared up to and including that entry, but not beyond it and not in how they close"
  pub six_equal : (h : ℕ) → strays h → ((take (length (entries u)) (entries t) ≡ entries u) ↔ (opening t ≡ opening u))
  -- "From each entry to the next the new core does one or two records and the old core passes one or two words, annulled ones counted."
  pub new_pace : OneOrTwo (gaps u)
  pub old_pace : OneOrTwo (gaps t)

-- the two cores, o in state s after its start x, and n in state s' after its start y, and their trails cut at k
pub record Holds {S T : Type 0} (placed : ℕ → Type 0) (inside : ℕ → Bool) (k : ℕ) (x y : Start)
    (o : Core S) (s : State S) (n : Core T) (s' : State T) : Type 0 where
  pub old_begins_lem : Begins x (trail_of o k s)
  pub new_begins_lem : Begins y (trail_of n k s')
  pub old_complete : Complete o k s
  pub new_complete : Complete n k s'
  pub claim : Claim (Strays placed inside n k s') (trail_of o k s) (trail_of n k s')

unfoldable pub Demand3 : Type 0
Demand3 =
    -- "Take any accepted image, base and entry list", as bytes, whatever the lengths of the buffers
    (image : List ℕ) (base : ℕ) (entryList : List ℕ) (placesLength recordsLength placeCount recordCount : ℕ)
    → Below 256 image → Below 256 entryList
    → (handed : Handed) → handed ≡ translation image base entryList placesLength recordsLength
    → handed.answer ≡ accepted placeCount recordCount
    -- "for each core, any address with a plain place to begin at and any registers, flags and data"; 02, N4: "demand 3 takes any Y"; N11: "demand 3
    -- takes any windows and any nesting from 0 to 6"
    → (x y : Start) → Placed image base entryList x.address → Placed image base entryList y.address
    -- "one data base; and any number of entries, at least one, at which both trails are cut"
    → (db k : ℕ) → 1 ≤ k
    -- 01: "Over a translation it is given just the places and records counted, no zeros past them."
    → (places records : List ℕ) → places ≡ take (16 * placeCount) handed.places → records ≡ take (12 * recordCount) handed.records
    → Holds (Placed image base entryList) (in_image base (length image)) k x y
    (old_over image base db) (old_begin x)
    (new_over records places base (length image) db) (new_begin places base (length image) y)
