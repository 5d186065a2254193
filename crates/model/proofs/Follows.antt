-- A core that follows the places of a list: at each it does what the machine of `Middle` does, in one step or two, and shows it.
use Prim.Native.Nat.{ℕ, ◌%◌, ◌^◌, ◌<◌}
use mathlib.Core.Path.{◌≡◌}
use mathlib.Core.Bool.{Bool, true}
use mathlib.Core.List.{List}
use mathlib.Core.Option.{none, some}
use lib.ListN.{length}
use Rattle.numbers.specs.Choice.{pick}
use Rattle.machine.specs.Ends.{ending}
use Rattle.effects.specs.Effect.{Machine}
use Rattle.model.specs.declared.Place.{Place}
use Rattle.model.specs.declared.Place.TheVariants.{Pair, Held}
use Rattle.model.specs.OldCore.{in_image, word_in}
use Rattle.model.specs.Places.{plain, place_at, member, followers, allowed}
use Rattle.model.specs.NewCore.{lost}
use Rattle.model.specs.Trails.{shown_of, Core}
use Rattle.model.proofs.Members.{AllIn, AllP}
use Rattle.model.proofs.Hop.{Left, onward, ends, lands, Hop, Over}
use Rattle.model.proofs.Middle.{Out, on, over, by, out}

-- addresses of a place: multiples of 4 of 32 bits
abbrev pub Aligned : Place → Type 0
Aligned (Pair p n) = (p % 4 ≡ 0) × (n % 4 ≡ 0) × (p < 2 ^ 32) × (n < 2 ^ 32)
Aligned (Held p) = (p % 4 ≡ 0) × (p < 2 ^ 32)

-- what the walk gives: every place is allowed, leads to places of the list, and is aligned
pub record Closed (image : List ℕ) (base : ℕ) (ps : List Place) : Type 0 where
  pub ok : (x : Place) → member ps x ≡ true → allowed image base x ≡ true
  pub closed : (x : Place) → member ps x ≡ true → AllIn ps (followers image base x)
  pub aligned : AllP Aligned ps
  pub aligned_at : (x : Place) → member ps x ≡ true → Aligned x

module _ (image : List ℕ) (base db : ℕ) {S : Type 0} where
  -- what a place's turn leaves, of a core that is in the state `to place held machine` at each place, and goes on at the held addresses that
  -- `goes` says: at any other it strays, which ends its run
  abbrev pub left_by : (Place → ℕ → Machine → S) → (ℕ → Bool) → Out → Left S
  left_by to goes (on pl h m) = onward (to pl h m)
  left_by to goes (over e) = ends e
  left_by to goes (by a m) = pick (goes a) (onward (to (plain a) a m)) (lands a (shown_of m) (lost (in_image base (length image) a) a))

  -- the core c follows the places ps: at each it is in the state that `to` says, marks the place's address, has the machine, and is left after one
  -- step or two, no entry between them, as the place's turn says
  pub record Follower (c : Core S) : Type 0 where
    pub ps : List Place
    pub to : Place → ℕ → Machine → S
    pub goes : ℕ → Bool
    pub closed : Closed image base ps
    pub over : (s : S) → Over c (c.next s)
    pub has : (pl : Place) (h : ℕ) (m : Machine) → c.machine_of (to pl h m) ≡ m
    pub marks : (pl : Place) (h : ℕ) (m : Machine) → member ps pl ≡ true → c.mark (to pl h m) ≡ some (place_at pl)
    pub hops : (pl : Place) (h : ℕ) (m : Machine) → member ps pl ≡ true → Hop c (to pl h m) (left_by to goes (out image base db pl h m))
    -- where it goes on, it is at the plain place there, which need not be in the list (the old core knows no list): outside the image that ends
    -- with 2
    pub marks_on : (a : ℕ) (m : Machine) → goes a ≡ true → c.mark (to (plain a) a m) ≡ some a
    pub ends_on : (a : ℕ) (m : Machine) → goes a ≡ true → a % 4 ≡ 0 → word_in image base a ≡ none → Hop c (to (plain a) a m) (ends (ending 2 a))

-- of two: where both go on, both have a plain place
abbrev pub Meet : {image : List ℕ} {base db : ℕ} {S T : Type 0} {c : Core S} {d : Core T} → Follower image base db c → Follower image base db d → Type 0
Meet F G = (a : ℕ) → F.goes a ≡ true → G.goes a ≡ true → (member F.ps (plain a) ≡ true) × (member G.ps (plain a) ≡ true)
