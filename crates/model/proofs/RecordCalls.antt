-- A call that returns a record names the place that its callee returns to, and no other call does.
use Prim.Native.Nat.{ℕ, ◌/◌, ◌%◌, ◌^◌, ◌<◌}
use native.Mathlib.Omega.{arith}
use mathlib.Core.Path.{◌≡◌, refl, ap, ◌∙◌}
use mathlib.Core.Bool.{Bool, true, false}
use mathlib.Core.List.{List, [], ◌∷◌}
use mathlib.Core.Option.{Option, none, some}
use lib.Dec.{eqb}
use borrow.Author.Tests.{eqb-true, eq-eqb, ne_eqb}
use Rattle.numbers.specs.Number.{Below, plus}
use Rattle.numbers.proofs.Choice.{both}
use Rattle.words.specs.Reader.{bits, instruction_of, is_unimp}
use Rattle.words.specs.declared.Instruction.{Instruction}
use Rattle.words.specs.declared.Instruction.TheVariants.{Illegal, Call, Sethi, Bicc, Arithmetic, Jmpl, Ticc, Load, Store, Shift, Rdy, Wry, Window}
use Rattle.model.specs.declared.Place.{Place}
use Rattle.model.specs.declared.Place.TheVariants.{Pair, Held}
use Rattle.model.specs.OldCore.{word_in, transfer_of, target}
use Rattle.model.specs.Places.{plain, place_at, return_names, names, names_at, unimp_in, unimp_behind, followers, Makes, from_place}
use Rattle.model.specs.RecordCalls.{Links, by_call, by_jmpl, Unimp, UnimpBehind, Names, RecordCalls}
use Rattle.model.proofs.Members.{mem_here, mem_there}
use Rattle.model.proofs.Accepted.{words_lt}

-- the bits that are left do not reach those that are 0
unimp_so : (word : ℕ) → Unimp word → is_unimp word ≡ true
unfolding is_unimp bits
unimp_so word u =
    let e = u.equal in
    let h = u.high_bits in
    let l = u.low_bits in
    rw (eq-eqb (word / 2 ^ 30 % 2 ^ 2) 0 (omega arith), eq-eqb (word / 2 ^ 22 % 2 ^ 3) 0 (omega arith))

so_unimp : (word : ℕ) → word < 2 ^ 32 → is_unimp word ≡ true → Unimp word
unfolding is_unimp bits
so_unimp word l e =
    let t = both (eqb (word / 2 ^ 30 % 2 ^ 2) 0) (eqb (word / 2 ^ 22 % 2 ^ 3) 0) e in
    let a = eqb-true (word / 2 ^ 30 % 2 ^ 2) 0 t.0 in
    let b = eqb-true (word / 2 ^ 22 % 2 ^ 3) 0 t.1 in
    record { high = word / 2 ^ 25; low = word % 2 ^ 22; high_bits = omega arith; low_bits = omega arith; equal = omega arith }

module _ (image : List ℕ) (base p n : ℕ) (ib : Below 256 image) where
  behind : UnimpBehind image base p → unimp_behind image base p ≡ true
  unfolding unimp_behind unimp_in
  behind u = rw u.1.0 (unimp_so u.0 u.1.1)

  not_behind : ¬ UnimpBehind image base p → unimp_behind image base p ≡ false
  unfolding unimp_behind unimp_in
  not_behind f = at (word_in image base (plus p 8)) refl
    where
      test : (word : ℕ) (b : Bool) → word_in image base (plus p 8) ≡ some word → is_unimp word ≡ b → b ≡ false
      test word true e u = absurd (f (word, (e, so_unimp word (words_lt image base ib (plus p 8) word e) u)))
      test word false e u = refl

      at : (o : Option ℕ) → word_in image base (plus p 8) ≡ o → unimp_in o ≡ false
      at none e = refl
      at (some word) e = test word (is_unimp word) e refl

  -- the delay slot's place, and what the call comes back to
  record Linked (word : ℕ) : Type 0 where
    slot : Place
    in_slot : place_at slot ≡ n
    named : names (transfer_of (instruction_of word)) (unimp_behind image base p) p n ≡ slot ∷ return_names (unimp_behind image base p) p

  linked : (word : ℕ) (i : Instruction) → instruction_of word ≡ i → Links i → Linked word
  unfolding names transfer_of place_at
  linked word (Call disp) e (by_call d) = record { slot = Pair n (target p disp); in_slot = refl; named = rw e }
  linked word (Jmpl rd rs1 x) e (by_jmpl r s y h) = record { slot = Held n; in_slot = refl; named = rw (e, ne_eqb rd 0 h) }
  linked word Illegal e k = elim k [ ]
  linked word (Sethi _ _) e k = elim k [ ]
  linked word (Bicc _ _ _) e k = elim k [ ]
  linked word (Arithmetic _ _ _ _ _) e k = elim k [ ]
  linked word (Ticc _ _ _) e k = elim k [ ]
  linked word (Load _ _ _ _) e k = elim k [ ]
  linked word (Store _ _ _ _) e k = elim k [ ]
  linked word (Shift _ _ _ _) e k = elim k [ ]
  linked word (Rdy _) e k = elim k [ ]
  linked word (Wry _) e k = elim k [ ]
  linked word (Window _ _ _ _) e k = elim k [ ]

  module _ (word : ℕ) (w : word_in image base p ≡ some word) (k : Links (instruction_of word)) where
    returns : (b : Bool) → unimp_behind image base p ≡ b → (rest : List Place) → return_names b p ≡ plain (plus p 8) ∷ rest → Names image base p n rest
    unfolding followers names_at
    returns b e rest r =
        let i = linked word (instruction_of word) refl k in
        record { slot = i.slot; in_slot = i.in_slot; named = rw w (i.named ∙ ap (λ (l : List Place). i.slot ∷ l) (rw e r)) }

    names_past : UnimpBehind image base p → Names image base p n (plain (plus p 12) ∷ [])
    unfolding return_names
    names_past u = returns true (behind u) (plain (plus p 12) ∷ []) refl

    names_no_more : ¬ UnimpBehind image base p → Names image base p n []
    unfolding return_names
    names_no_more f = returns false (not_behind f) [] refl

    made : (entries : List ℕ) → Makes image base entries (Pair p n) → UnimpBehind image base p → Makes image base entries (plain (plus p 12))
    made entries m u = from_place (Pair p n) (plain (plus p 12)) m (rw (names_past u).named (mem_there _ _ _ (mem_there _ _ _ (mem_here _ _))))

pub record_calls : RecordCalls
unfolding RecordCalls followers names_at names transfer_of
record_calls image base p n word ib w = (
  λ k. record { past = names_past image base p n ib word w k; not_past = names_no_more image base p n ib word w k; made = made image base p n ib word w k },
  λ rs1 x e. rw (w, e),
)
