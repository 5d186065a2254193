-- 01, Records of the new core: trails, of any core. "A trail is made of its core's steps alone. Each step gets the state and data that
-- the last one left, and nobody else writes them meanwhile".
--
-- An example, P2: ba 16 at 0, ba 24 at 4, add 1 to register 1 at 16, ta 0 at 24. The old core passes the words at 0, 4, 16 and 24, the new
-- core does records 0, 1, 2 and 3, 4: the word at 16 is a group of two, so two of its steps lead to the last entry. Cut at 4 or more:
--   old: at 0 0 m (at 1 4 m (at 1 16 m (at 1 24 m' (shut (ending 1 0)))))
--   new: at 0 0 m (at 1 4 m (at 1 16 m (at 2 24 m' (shut (ending 1 0)))))
-- where m' has 1 more in register 1. Entries (0, 4, 16, 24 with what they show) and close are the same, the steps between are not.
-- Cut at 3, both are at 0 0 m (at 1 4 m (at 1 16 m cut)), and close with 0.
use Rattle.std.specs.Prelude.{ℕ, zero, suc, ◌+◌, ◌-◌, ◌≤◌, ◌≡◌, List, [], ◌∷◌, leb, get_or}
use Rattle.std.proofs.Math.Option.{Option, none, some}
use Rattle.numbers.specs.Choice.{pick}
use Rattle.numbers.specs.Number.{up_to}
use Rattle.machine.specs.Ends.{Ending, ending, Next, State, state, live}
use Rattle.machine.specs.Registers.{file_size}
use Rattle.windows.specs.Windows.{laid}
use Rattle.effects.specs.Effect.{Machine, machine}
use Rattle.model.specs.Run.{step, run, data_of}

-- all numbers of a file: "Register 0 reads and shows as 0"
abbrev pub whole_file : List ℕ → List ℕ
whole_file rs = 0 ∷ up_to (λ i. get_or rs (i + 1) 0) (file_size - 1)

-- what an entry shows, of any core: registers 0 to 31, the flags, and the data, of which there are at most 65,536 bytes. 02, N4: "The state and each
-- trail entry gain Y"; N11: "Trail entries show the nesting and every window"; they stand behind the registers
unfoldable pub shown_of : Machine → Machine
shown_of m = machine (laid (whole_file m.registers)) m.flags (data_of m.area)

-- next: what a step does. mark: the address of the entry that stands before the step, if one does. machine_of: the registers, Y, windows, flags and
-- data that a state has; an entry shows them by `shown_of`, and no core chooses what. by_held: the held address that the step goes by, if it does. An
-- end met by such a step is that of a landing without a place, whose entry the trail gains; the step itself only ends, and shows nothing of where
-- it would have gone. Of both cores, `CoreLaws` says what mark, machine_of and by_held are.
pub record Core (S : Type 0) : Type 0 where
  pub next : S → Next S
  pub mark : S → Option ℕ
  pub machine_of : S → Machine
  pub by_held : S → Option ℕ

abbrev pub shown_at : {S : Type 0} → Core S → S → Machine
shown_at c s = shown_of (c.machine_of s)

-- at: the steps since the entry before, "the address about to be executed, all registers, flags and data bytes" (02, N4: "and each trail entry
-- gain Y"), and what follows.
-- shut: "how the run ended, with its number, closes the trail". cut: entry k + 1 would come here. spent: the given count of steps is done.
pub data Trail : Type 0 where
  cut spent : Trail
  shut : Ending → Trail
  at : ℕ → ℕ → Machine → Trail → Trail

-- "with none, the trail gains an entry at that address and ends", where the cut leaves room for it
abbrev pub landing : ℕ → ℕ → ℕ → Machine → Ending → Trail
landing zero gap a m e = cut
landing (suc k) gap a m e = at gap a m (shut e)

abbrev pub closes : Option ℕ → ℕ → ℕ → Machine → Ending → Trail
closes (some h) k gap m e = landing k gap h m e
closes none k gap m e = shut e

module _ {S : Type 0} where
  -- the state before a step: an entry, if one stands there, and then the trail of the state that the step leaves
  abbrev pub turn : (ℕ → ℕ → State S → Trail) → ℕ → ℕ → Option ℕ → Machine → State S → Trail
  turn rest k gap none m x = rest k (suc gap) x
  turn rest zero gap (some a) m x = cut
  turn rest (suc k) gap (some a) m x = at gap a m (rest k 1 x)

  -- the trail of a state that is going, or how it closes
  abbrev pub look : Core S → (S → Trail) → ℕ → ℕ → State S → Trail
  look c going k gap (state s (ending zero v)) = going s
  look c going k gap (state s (ending (suc n) v)) = closes (c.by_held s) k gap (shown_at c s) (ending (suc n) v)

  -- the trail that a state's steps make, cut at k entries, of a run of the given count; `gap` steps were done since the last entry
  abbrev pub trail : Core S → ℕ → ℕ → ℕ → State S → Trail
  trail c zero k gap x = look c (λ s. spent) k gap x
  trail c (suc count) k gap x =
      look c (λ s. turn (trail c count) k gap (c.mark s) (shown_at c s) (step c.next (live s))) k gap x

-- an entry: "the address about to be executed, all registers, flags and data bytes"; 02, N4: "and each trail entry gain Y"
pub data Entry : Type 0 where
  entry : ℕ → Machine → Entry

abbrev pub entries : Trail → List Entry
entries cut = []
entries spent = []
entries (shut e) = []
entries (at gap a m t) = entry a m ∷ entries t

-- "A trail cut at k entries closes with 0 where entry k + 1 would come; any other closes with its end and that end's number."
-- So does, with 0, the trail of a run whose count was done.
abbrev pub closing : Trail → Ending
closing cut = ending 0 0
closing spent = ending 0 0
closing (shut e) = e
closing (at gap a m t) = closing t

-- the first entry
abbrev pub opening : Trail → Option Entry
opening cut = none
opening spent = none
opening (shut e) = none
opening (at gap a m t) = some (entry a m)

-- the address of the last entry, or a where there is none
abbrev pub last_at : List Entry → ℕ → ℕ
last_at [] a = a
last_at (entry b m ∷ es) a = last_at es b

-- the steps that lead to each entry: to the first from the start, to each other one from the entry before
abbrev pub later : Trail → List ℕ
later cut = []
later spent = []
later (shut e) = []
later (at gap a m t) = gap ∷ later t

abbrev pub after_first : List ℕ → List ℕ
after_first [] = []
after_first (n ∷ ns) = ns

-- "From each entry to the next": the steps that lead to each entry after the first
abbrev pub gaps : Trail → List ℕ
gaps t = after_first (later t)

-- "one or two"
abbrev pub OneOrTwo : List ℕ → Type 0
OneOrTwo [] = Unit {0}
OneOrTwo (n ∷ ns) = ((1 ≤ n) × (n ≤ 2)) × OneOrTwo ns

-- the trail did not stop because its count of steps was done
abbrev pub Unspent : Trail → Type 0
Unspent cut = Unit {0}
Unspent spent = ⊥
Unspent (shut e) = Unit {0}
Unspent (at gap a m t) = Unspent t

-- how many entries so many steps from the start lead to, by the steps that lead to each from the one before
unfoldable pub reached : ℕ → List ℕ → ℕ
reached n [] = 0
reached n (gap ∷ gs) = pick (leb gap n) (suc (reached (n - gap) gs)) 0

-- a trail held against the runs of its core
abbrev pub one_if : Option ℕ → ℕ
one_if none = 0
one_if (some a) = 1

module _ {S : Type 0} where
  -- how many entries stand before the states after 0, 1, .. n steps
  abbrev pub counted : Core S → State S → ℕ
  counted c (state s (ending zero v)) = one_if (c.mark s)
  counted c (state s (ending (suc n) v)) = 0

  abbrev pub stood : Core S → ℕ → State S → ℕ
  stood c zero x = counted c x
  stood c (suc n) x = counted c x + stood c n (step c.next x)

  -- 1 where the state met its end by a held address: a landing, whose entry has no mark
  abbrev pub landed : Core S → State S → ℕ
  landed c (state s (ending zero v)) = 0
  landed c (state s (ending (suc n) v)) = one_if (c.by_held s)

  -- the entry a, m stands before the state's step, or is a landing's
  abbrev pub StandsAt : Core S → State S → ℕ → Machine → Type 0
  StandsAt c (state s (ending zero v)) a m = (c.mark s ≡ some a) × (shown_at c s ≡ m)
  StandsAt c (state s (ending (suc n) v)) a m = (c.by_held s ≡ some a) × (shown_at c s ≡ m)

  -- from the state at one entry (first: the start), as many steps as the first list says lead to the state at the next: what is shown of a
  -- trail, its entries and the steps that lead to them, is of its core's own run
  abbrev pub Traced : Core S → State S → List ℕ → List Entry → Type 0
  Traced c x [] [] = Unit {0}
  Traced c x [] (e ∷ es) = ⊥
  Traced c x (gap ∷ gs) [] = ⊥
  Traced c x (gap ∷ gs) (entry a m ∷ es) = StandsAt c (run c.next gap x) a m × Traced c (run c.next gap x) gs es
