-- Both cores' states as bytes: each state comes back from its bytes, any bytes are a sound state's, and the bytes show what the state shows.
use Prim.Native.Nat.{ℕ, zero, suc, ◌^◌, ◌<◌}
use native.Mathlib.Omega.{arith}
use mathlib.Core.Path.{◌≡◌, refl}
use mathlib.Core.Bool.{Bool, true, false}
use mathlib.Core.List.{List, [], ◌∷◌, ◌++◌}
use lib.Dec.{leb}
use lib.ListN.{length}
use borrow.Author.Tests.{leb-true, ne_eqb}
use Rattle.numbers.specs.Choice.{pick}
use Rattle.numbers.specs.Number.{Below, number_at}
use Rattle.numbers.proofs.Bounds.{number_lt}
use Rattle.words.proofs.Conditions.{bit_lt}
use Rattle.words.specs.Conditions.{bit_of}
use Rattle.machine.specs.Ends.{Ending, ending, ending_from, state}
use Rattle.windows.specs.Windows.{laid}
use Rattle.effects.specs.Effect.{Machine, machine}
use Rattle.model.specs.Run.{data_of}
use Rattle.model.specs.OldCore.{Old, old, old_next}
use Rattle.model.specs.NewCore.{New, new, new_next}
use Rattle.model.specs.StateBytes.{file_in, machine_in, is_set, old_behind, new_behind, old_in, old_bytes, new_in, new_bytes, old_after, new_after}
use Rattle.model.proofs.Bounds.{SoundState, SoundOld, old_leaves, SoundNew, new_leaves}
use Rattle.model.proofs.RoundTrip.{tail_back, machine_back, shown_back, annul_back, end_back, machine_sound}
use Rattle.model.proofs.Coded.{Coded}

-- ---------------------------------------------------------------- ends
-- an end comes back from its two numbers
ending_back : {S : Type 0} (P : S → Type 0) (s : S) (k v : ℕ) → SoundState P (state s (ending k v)) → ending_from k v ≡ ending k v
unfolding ending_from
ending_back P s zero v h = rw h.1
ending_back P s (suc k) v h = end_back k v h.1

ending_lt : {S : Type 0} (P : S → Type 0) (s : S) (k v : ℕ) → SoundState P (state s (ending k v)) → (k < 2 ^ 32) × (v < 2 ^ 32)
ending_lt P s zero v h = (omega arith, omega (arith, h.1))
ending_lt P s (suc k) v h = (omega arith, omega arith)

state_part : {S : Type 0} (P : S → Type 0) (s : S) (k v : ℕ) → SoundState P (state s (ending k v)) → P s
state_part P s zero v h = h.0
state_part P s (suc k) v h = h.0

-- any two numbers of 32 bits are read as an end
from_sound : {S : Type 0} (P : S → Type 0) (s : S) (k v : ℕ) → v < 2 ^ 32 → P s → SoundState P (state s (ending_from k v))
unfolding ending_from
from_sound P s zero v l p = (p, refl)
from_sound P s (suc k) v l p = rw (ne_eqb (suc k) 0 (λ e. omega arith)) (go (leb (suc k) 9) refl)
  where
    go : (b : Bool) → leb (suc k) 9 ≡ b → SoundState P (state s (pick b (ending (suc k) v) (ending 0 0)))
    go true e = (p, omega (arith, leb-true (suc k) 9 e))
    go false e = (p, refl)

-- ---------------------------------------------------------------- the old core
abbrev pub old_area : Old → List ℕ
old_area (old m pc npc annul) = m.area

abbrev old_tail : ℕ → ℕ → Bool → ℕ → ℕ → List ℕ
old_tail pc npc annul k v = pc ∷ npc ∷ bit_of annul ∷ k ∷ v ∷ []

module _ (n : ℕ) (m : Machine) (pc npc : ℕ) (annul : Bool) (k v : ℕ) (h : SoundState (SoundOld n) (state (old m pc npc annul) (ending k v))) where
  abbrev old_part : SoundOld n (old m pc npc annul)
  old_part = state_part (SoundOld n) (old m pc npc annul) k v h

  old_below : Below (2 ^ 32) (old_tail pc npc annul k v)
  old_below =
      let l = ending_lt (SoundOld n) (old m pc npc annul) k v h in
      (old_part.1, (old_part.2, (omega (arith, bit_lt annul), (l.0, (l.1, tt)))))

  -- PC, annul: the numbers that a trail is read off
  pub old_pc : number_at (old_bytes (state (old m pc npc annul) (ending k v))) 132 ≡ pc
  unfolding old_bytes
  old_pc = tail_back n m (old_tail pc npc annul k v) old_part.0 old_below 0 132 (omega arith) (omega arith)

  pub old_annul : number_at (old_bytes (state (old m pc npc annul) (ending k v))) 140 ≡ bit_of annul
  unfolding old_bytes
  old_annul = tail_back n m (old_tail pc npc annul k v) old_part.0 old_below 2 140 (omega arith) (omega arith)

  pub old_shows : machine (file_in old_behind (old_bytes (state (old m pc npc annul) (ending k v)))) (number_at (old_bytes (state (old m pc npc annul) (ending k v))) 128) m.area ≡ machine (laid m.registers) m.flags m.area
  unfolding old_bytes
  old_shows = shown_back n m (old_tail pc npc annul k v) old_part.0 old_below old_behind (omega arith)

  old_back : old_in (old_bytes (state (old m pc npc annul) (ending k v))) m.area ≡ state (old m pc npc annul) (ending k v)
  unfolding old_in old_bytes
  old_back =
      let t = tail_back n m (old_tail pc npc annul k v) old_part.0 old_below in
      rw (
        machine_back n m (old_tail pc npc annul k v) old_part.0 old_below old_behind (omega arith),
        t 0 132 (omega arith) (omega arith),
        t 1 136 (omega arith) (omega arith),
        t 2 140 (omega arith) (omega arith),
        t 3 144 (omega arith) (omega arith),
        t 4 148 (omega arith) (omega arith),
        annul_back annul,
        ending_back (SoundOld n) (old m pc npc annul) k v h,
      )

pub old_coded : (image : List ℕ) (base db : ℕ) → Coded (old_next image base db) old_after old_in old_area SoundOld
unfolding old_after
old_coded image base db =
    record {
      leaves = λ n s p. old_leaves n image base db s p;
      ended = λ s e rest. ended s e rest;
      area = λ s e rest. area s e rest;
      sized = λ n s p. sized n s p;
      back = λ n s e rest h. back n s e rest h;
    }
  where
    ended : (s : Old) (e : Ending) (rest : List ℕ) → (old_after (state s e) rest).ended ≡ e
    ended (old m pc npc annul) e rest = refl

    area : (s : Old) (e : Ending) (rest : List ℕ) → (old_after (state s e) rest).area ≡ old_area s ++ rest
    area (old m pc npc annul) e rest = refl

    sized : (n : ℕ) (s : Old) → SoundOld n s → length (old_area s) ≡ n
    sized n (old m pc npc annul) p = p.0.sized

    back : (n : ℕ) (s : Old) (e : Ending) (rest : List ℕ) → SoundState (SoundOld n) (state s e) → old_in (old_after (state s e) rest).state (old_area s) ≡ state s e
    back n (old m pc npc annul) (ending k v) rest h = old_back n m pc npc annul k v h

pub old_sound : (bs l : List ℕ) → Below 256 bs → Below 256 l → SoundState (SoundOld (length (data_of l))) (old_in bs (data_of l))
unfolding old_in
old_sound bs l b d =
    from_sound (SoundOld (length (data_of l))) (old (machine_in old_behind bs (data_of l)) (number_at bs 132) (number_at bs 136) (is_set (number_at bs 140))) (number_at bs 144) (number_at bs 148) (number_lt bs 148 b)
    (machine_sound old_behind bs l b d, number_lt bs 132 b, number_lt bs 136 b)

-- ---------------------------------------------------------------- the new core
abbrev pub new_area : New → List ℕ
new_area (new m r h) = m.area

abbrev new_tail : ℕ → ℕ → ℕ → ℕ → List ℕ
new_tail r g k v = r ∷ g ∷ k ∷ v ∷ []

module _ (n : ℕ) (m : Machine) (r g : ℕ) (k v : ℕ) (h : SoundState (SoundNew n) (state (new m r g) (ending k v))) where
  abbrev new_part : SoundNew n (new m r g)
  new_part = state_part (SoundNew n) (new m r g) k v h

  new_below : Below (2 ^ 32) (new_tail r g k v)
  new_below =
      let l = ending_lt (SoundNew n) (new m r g) k v h in
      (new_part.1, (new_part.2, (l.0, (l.1, tt))))

  -- the record number, the held address
  pub new_record : number_at (new_bytes (state (new m r g) (ending k v))) 132 ≡ r
  unfolding new_bytes
  new_record = tail_back n m (new_tail r g k v) new_part.0 new_below 0 132 (omega arith) (omega arith)

  pub new_held : number_at (new_bytes (state (new m r g) (ending k v))) 136 ≡ g
  unfolding new_bytes
  new_held = tail_back n m (new_tail r g k v) new_part.0 new_below 1 136 (omega arith) (omega arith)

  pub new_shows : machine (file_in new_behind (new_bytes (state (new m r g) (ending k v)))) (number_at (new_bytes (state (new m r g) (ending k v))) 128) m.area ≡ machine (laid m.registers) m.flags m.area
  unfolding new_bytes
  new_shows = shown_back n m (new_tail r g k v) new_part.0 new_below new_behind (omega arith)

  new_back : new_in (new_bytes (state (new m r g) (ending k v))) m.area ≡ state (new m r g) (ending k v)
  unfolding new_in new_bytes
  new_back =
      let t = tail_back n m (new_tail r g k v) new_part.0 new_below in
      rw (
        machine_back n m (new_tail r g k v) new_part.0 new_below new_behind (omega arith),
        t 0 132 (omega arith) (omega arith),
        t 1 136 (omega arith) (omega arith),
        t 2 140 (omega arith) (omega arith),
        t 3 144 (omega arith) (omega arith),
        ending_back (SoundNew n) (new m r g) k v h,
      )

pub new_coded : (records places : List ℕ) (base size db : ℕ) → Below 256 records → Below 256 places
    → Coded (new_next records places base size db) new_after new_in new_area SoundNew
unfolding new_after
new_coded records places base size db br bp =
    record {
      leaves = λ n s p. new_leaves n records places base size db br bp s p;
      ended = λ s e rest. ended s e rest;
      area = λ s e rest. area s e rest;
      sized = λ n s p. sized n s p;
      back = λ n s e rest h. back n s e rest h;
    }
  where
    ended : (s : New) (e : Ending) (rest : List ℕ) → (new_after (state s e) rest).ended ≡ e
    ended (new m r g) e rest = refl

    area : (s : New) (e : Ending) (rest : List ℕ) → (new_after (state s e) rest).area ≡ new_area s ++ rest
    area (new m r g) e rest = refl

    sized : (n : ℕ) (s : New) → SoundNew n s → length (new_area s) ≡ n
    sized n (new m r g) p = p.0.sized

    back : (n : ℕ) (s : New) (e : Ending) (rest : List ℕ) → SoundState (SoundNew n) (state s e) → new_in (new_after (state s e) rest).state (new_area s) ≡ state s e
    back n (new m r g) (ending k v) rest h = new_back n m r g k v h

pub new_sound : (bs l : List ℕ) → Below 256 bs → Below 256 l → SoundState (SoundNew (length (data_of l))) (new_in bs (data_of l))
unfolding new_in
new_sound bs l b d =
    from_sound (SoundNew (length (data_of l))) (new (machine_in new_behind bs (data_of l)) (number_at bs 132) (number_at bs 136)) (number_at bs 140) (number_at bs 144) (number_lt bs 144 b)
    (machine_sound new_behind bs l b d, number_lt bs 132 b, number_lt bs 136 b)
