-- 01, Places: "A place is what the old core is about to do."
use Rattle.std.specs.Prelude.{ℕ, ◌≡◌, Bool, true, false, ◌&&◌, List, [], ◌∷◌, eqb}
use Rattle.std.proofs.Math.Option.{Option, none, some}
use Rattle.numbers.specs.Choice.{pick}
use Rattle.numbers.specs.Number.{plus}
use Rattle.words.specs.Reader.{instruction_of, is_unimp}
use Rattle.model.specs.declared.Place.{Place}
use Rattle.model.specs.declared.Place.TheVariants.{Pair, Held}
use Rattle.model.specs.OldCore.{word_in, Transfer, illegal, straight, trap, call, bicc, jmpl, transfer_of, target}

-- "Kind 0, plain: address p, next p + 4."
abbrev pub plain : ℕ → Place
plain p = Pair p (plus p 4)

-- "Kind 1, slot: address p, next n other than p + 4. Kind 2, held: address p, next known only when run (shown as 0).
-- A pair whose next is p + 4 is always the plain place."
unfoldable pub kind_of : Place → ℕ
kind_of (Pair p n) = pick (eqb n (plus p 4)) 0 1
kind_of (Held p) = 2

unfoldable pub next_of : Place → ℕ
next_of (Pair p n) = n
next_of (Held p) = 0

unfoldable pub place_at : Place → ℕ
place_at (Pair p n) = p
place_at (Held p) = p

unfoldable pub same_place : Place → Place → Bool
same_place (Pair p n) (Pair q o) = eqb p q && eqb n o
same_place (Pair p n) (Held q) = false
same_place (Held p) (Pair q o) = false
same_place (Held p) (Held q) = eqb p q

unfoldable pub member : List Place → Place → Bool
member [] x = false
member (y ∷ ys) x = pick (same_place y x) true (member ys x)

-- what a Bicc's condition says before it is run
pub data Which : Type 0 where
  never always depends : Which

unfoldable pub which_of : ℕ → Which
which_of cond = pick (eqb cond 0) never (pick (eqb cond 8) always depends)

-- "Bicc 0 without annul, ..: plain n. Bicc 0 with annul: plain n + 4."
-- "Bicc 8 to t: (n, t); with annul, plain t."
-- "other Bicc to t": "plain n; with annul, .. plain n + 4", and (n, t); 02, N6: "for every Bicc but 0 and 8 the plain place is named before (n, t)"
unfoldable pub bicc_names : Which → Bool → ℕ → ℕ → List Place
bicc_names never false t n = plain n ∷ []
bicc_names never true t n = plain (plus n 4) ∷ []
bicc_names always false t n = Pair n t ∷ []
bicc_names always true t n = plain t ∷ []
bicc_names depends false t n = plain n ∷ Pair n t ∷ []
bicc_names depends true t n = plain (plus n 4) ∷ Pair n t ∷ []

-- where a call at p comes back to: "plain p + 8"; 02, N1, where an unimp stands there: "plain p + 12 right after plain p + 8"
unfoldable pub return_names : Bool → ℕ → List Place
return_names unimp p = plain (plus p 8) ∷ pick unimp (plain (plus p 12) ∷ []) []

-- "Each names its followers, in the order given here", for a plain or slot place (p, n), from what its word does to control and whether an
-- unimp stands at p + 8:
-- "illegal word, Ticc 8: none"; "any other word that is not call, Bicc or jmpl: plain n";
-- "call to t: (n, t), then plain p + 8"; "jmpl: held n, then plain p + 8 if rd is not 0"
unfoldable pub names : Transfer → Bool → ℕ → ℕ → List Place
names illegal unimp p n = []
names trap unimp p n = []
names straight unimp p n = plain n ∷ []
names (call disp) unimp p n = Pair n (target p disp) ∷ return_names unimp p
names (bicc cond annul disp) unimp p n = bicc_names (which_of cond) annul (target p disp) n
names (jmpl rd rs1 x) unimp p n = Held n ∷ pick (eqb rd 0) [] (return_names unimp p)

-- "p outside the image, .. none"
unfoldable pub names_at : Option ℕ → Bool → ℕ → ℕ → List Place
names_at none unimp p n = []
names_at (some word) unimp p n = names (transfer_of (instruction_of word)) unimp p n

-- 02, N1: "the word at p + 8 is in the image with bits 31, 30 and 24 to 22 all 0", where a call stands at p
unfoldable pub unimp_in : Option ℕ → Bool
unimp_in none = false
unimp_in (some word) = is_unimp word

unfoldable pub unimp_behind : List ℕ → ℕ → ℕ → Bool
unimp_behind image base p = unimp_in (word_in image base (plus p 8))

-- "A held place has no followers."
unfoldable pub followers : List ℕ → ℕ → Place → List Place
followers image base (Pair p n) = names_at (word_in image base p) (unimp_behind image base p) p n
followers image base (Held p) = []

-- a Bicc 0 without annul
unfoldable pub idle_bicc : Which → Bool → Bool
idle_bicc never false = true
idle_bicc never true = false
idle_bicc always annul = false
idle_bicc depends annul = false

-- "Its word may not be call, jmpl or any Bicc but 0 without annul."
unfoldable pub may_be_held : Transfer → Bool
may_be_held illegal = true
may_be_held trap = true
may_be_held straight = true
may_be_held (call disp) = false
may_be_held (bicc cond annul disp) = idle_bicc (which_of cond) annul
may_be_held (jmpl rd rs1 x) = false

unfoldable pub may_be_held_at : Option ℕ → Bool
may_be_held_at none = true
may_be_held_at (some word) = may_be_held (transfer_of (instruction_of word))

unfoldable pub allowed : List ℕ → ℕ → Place → Bool
allowed image base (Pair p n) = true
allowed image base (Held p) = may_be_held_at (word_in image base p)

-- "Entries become plain places in list order"
unfoldable pub plains : List ℕ → List Place
plains [] = []
plains (a ∷ es) = plain a ∷ plains es

-- "In demand 3 an address has a plain place where the rules under Places make one from image, base and entry list":
-- an entry's place is made, and so is each follower of a place that is made
pub data Makes (image : List ℕ) (base : ℕ) (entries : List ℕ) : Place → Type 0 where
  from_entry : (x : Place) → member (plains entries) x ≡ true → Makes image base entries x
  from_place : (x y : Place) → Makes image base entries x → member (followers image base x) y ≡ true → Makes image base entries y
