-- What windows are, told by the registers that a program can name: 8 globals and 128 of windows. 02, N11: "reading in the old window and writing rd
-- in the new .. Ins and outs overlap as V8 draws them".
use Rattle.std.specs.Prelude.{ℕ, zero, suc, ◌+◌, ◌-◌, ◌%◌, ◌<◌, ◌≤◌, min, ◌≡◌, ◌⊎◌, List, length, get_or}
use Rattle.words.specs.declared.WindowOperation.TheVariants.{Save, Restore}
use Rattle.machine.specs.Ends.{ending, Next, go, halt}
use Rattle.machine.specs.Registers.{file_size, register_of, y_of}
use Rattle.windows.specs.Windows.{nesting_of, place_of, laid, Held, come_in, window_of}

-- the 136 places: of globals, and of the ring
abbrev pub Place : ℕ → Type 0
Place p = (p < 8) ⊎ ((34 ≤ p) × (p < file_size))

-- register r of window w, as a file shows it
abbrev pub in_window : List ℕ → ℕ → ℕ → ℕ
in_window rs w r = get_or (laid rs) (place_of w r) 0

-- a place that a write of rd in window w leaves: any where rd is 0, and else all but one
abbrev pub Left : ℕ → ℕ → ℕ → Type 0
Left w rd p = (rd % 32 ≡ 0) ⊎ (p ≡ place_of w (rd % 32) → ⊥)

-- ss is rs with window v as the current one and t in its register rd: of the 136 no other is changed
pub record Turned (v rd t : ℕ) (rs ss : List ℕ) : Type 0 where
  pub held : Held ss
  pub nesting : nesting_of ss ≡ v
  pub written : (rd % 32 ≡ 0 → ⊥) → in_window ss v (rd % 32) ≡ t
  pub others : (p : ℕ) → Place p → Left v rd p → get_or (laid ss) p 0 ≡ get_or (laid rs) p 0
  pub same_y : y_of ss ≡ y_of rs

-- what is done after so many saves, with any sums and any rd
abbrev pub after : Next (List ℕ) → (List ℕ → Next (List ℕ)) → Next (List ℕ)
after (go rs) f = f rs
after (halt e) f = halt e

abbrev pub saves_of : (ℕ → ℕ) → (ℕ → ℕ) → ℕ → List ℕ → Next (List ℕ)
saves_of rd t zero rs = go rs
saves_of rd t (suc n) rs = after (saves_of rd t n rs) (window_of Save (rd n) (t n))

pub record WindowLaws : Type 0 where
  -- "eight": each register of each window stands at one place, no two of a window at the same, and no two of the ins and locals of all eight; outs are
  -- the next window's ins, around the ring
  pub placed : (w r : ℕ) → r < 32 → Place (place_of w r)
  pub apart : (w r s : ℕ) → r < 32 → s < 32 → place_of w r ≡ place_of w s → r ≡ s
  pub own : (w v r s : ℕ) → w < 8 → v < 8 → 16 ≤ r → r < 32 → 16 ≤ s → s < 32 → place_of w r ≡ place_of v s → (w ≡ v) × (r ≡ s)
  pub overlap : (w k : ℕ) → k < 8 → place_of w (8 + k) ≡ place_of (w + 1) (24 + k)
  pub around : (k : ℕ) → k < 8 → place_of 7 (8 + k) ≡ place_of 0 (24 + k)
  -- the registers that a word reads are the current window's
  pub current : (rs : List ℕ) → Held rs → (r : ℕ) → r < 32 → register_of rs r ≡ in_window rs (nesting_of rs) r
  -- "A save at 6 or a restore at 0 ends the run and changes nothing"; any other goes on, in the next window or the one before
  pub saves : (rs : List ℕ) (rd t : ℕ) → Held rs → nesting_of rs < 6 → (ss : List ℕ) × ((window_of Save rd t rs ≡ go ss) × Turned (nesting_of rs + 1) rd t rs ss)
  pub restores : (rs : List ℕ) (rd t : ℕ) → Held rs → 0 < nesting_of rs → (ss : List ℕ) × ((window_of Restore rd t rs ≡ go ss) × Turned (nesting_of rs - 1) rd t rs ss)
  pub too_many_saves : (rs : List ℕ) (rd t : ℕ) → nesting_of rs ≡ 6 → window_of Save rd t rs ≡ halt (ending 8 6)
  pub too_many_restores : (rs : List ℕ) (rd t : ℕ) → nesting_of rs ≡ 0 → window_of Restore rd t rs ≡ halt (ending 9 0)
  -- so outs before a save are ins after it, but for rd
  pub outs_are_ins : (rs ss : List ℕ) (rd t k : ℕ) → Held rs → window_of Save rd t rs ≡ go ss → k < 8 → (rd % 32 ≡ 24 + k → ⊥) → register_of ss (24 + k) ≡ register_of rs (8 + k)
  -- a save and then a restore give back every register but what they wrote
  pub back : (rs ss us : List ℕ) (rd t e u r : ℕ) → Held rs → window_of Save rd t rs ≡ go ss → window_of Restore e u ss ≡ go us → r < 32
      → Left (nesting_of rs + 1) rd (place_of (nesting_of rs) r) → Left (nesting_of rs) e (place_of (nesting_of rs) r) → register_of us r ≡ register_of rs r
  -- and six saves reach nesting 6
  pub six_saves : (rs : List ℕ) (rd t : ℕ → ℕ) → Held rs → nesting_of rs ≡ 0 → (ss : List ℕ) × ((saves_of rd t 6 rs ≡ go ss) × (nesting_of ss ≡ 6))
  -- what is handed in at the current window's places makes no difference
  pub covered : (rs ss : List ℕ) → length rs ≡ file_size → length ss ≡ file_size
      → ((i : ℕ) → ((r : ℕ) → 8 ≤ r → r < 32 → i ≡ place_of (min (nesting_of rs) 6) r → ⊥) → get_or rs i 0 ≡ get_or ss i 0) → come_in rs ≡ come_in ss
