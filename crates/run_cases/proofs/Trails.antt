-- Laws of a trail: an entry passed, and the entries followed.
use Rattle.numbers.specs.Choice.{pick}
use borrow.Author.Tests.{not-true, not-false}
use native.Mathlib.Numerals.{add-one}
use native.Mathlib.Omega.{arith}
use mir.Val.{bool_byte}
use mathlib.Core.Bool.{Bool, true, false, not, ◌&&◌}
use mathlib.Core.List.{List}
use mathlib.Core.Path.{◌≡◌, sym, ◌∙◌, refl}
use lib.Dec.{eqb}
use Prim.Native.Nat.{ℕ, suc, ◌*◌, ◌+◌, ◌-◌, ◌≤◌, ◌<◌}
use Rattle.model.specs.StateBytes.{After, old_runs}
use Rattle.case_files.specs.Files.{number_in, part_of, same_bytes, found, checked}
use Rattle.run_cases.specs.Trails.{stands_at, Passed, passed, passing, shown, trailed, followed, trail_verdict, Trailed}

bit_of_not : (b : Bool) → bool_byte (not b) ≡ pick b 0 1
bit_of_not true = refl
bit_of_not false = refl

-- an entry passed by two runs
pub pass_found : (image entry state area : List ℕ) (base db : ℕ) {annul : ℕ} {r : Bool} {a b : After} → annul ≡ number_in state 140
    → a ≡ old_runs image base db (bool_byte (not (eqb annul 0))) state area → r ≡ stands_at a.state entry
    → b ≡ old_runs image base db 1 a.state a.area → passed r b.state b.area ≡ passing image base db entry state area
unfolding passing shown
pass_found image entry state area base db {annul = annul} h i j k = rw (k, j, i, bit_of_not (eqb annul 0), h)

module _ (image entries entry state area : List ℕ) (base db k count : ℕ) (there : entry ≡ part_of entries (k * 140) 140) (more : k < count) where
  -- one entry of those that are left
  follow_one : {p : Passed} → p ≡ passing image base db entry state area → followed image base db entries (count - k) k state area
      ≡ pick p.agrees (followed image base db entries (count - (k + 1)) (k + 1) p.state p.area) (trailed k p.state p.area)
  unfolding followed
  follow_one h = let e : count - k ≡ suc (count - suc k) = omega arith in rw (add-one k, e, ← there, ← h)

  -- another follows one that agrees
  pub follow_on : {p : Passed} {t : Trailed} → p ≡ passing image base db entry state area → not p.agrees ≡ false
      → followed image base db entries (count - k) k state area ≡ t
      → followed image base db entries (count - (k + 1)) (k + 1) p.state p.area ≡ t
  follow_on {p} h a e = sym (rw (not-false p.agrees a) at (follow_one h)) ∙ e

  -- one that does not agree is the last
  pub follow_no : {p : Passed} {t : Trailed} → p ≡ passing image base db entry state area → not p.agrees ≡ true
      → followed image base db entries (count - k) k state area ≡ t → trailed k p.state p.area ≡ t
  follow_no {p} h a e = sym (rw (not-true p.agrees a) at (follow_one h)) ∙ e

-- none is left
pub follow_end : (image entries state area : List ℕ) (base db k count : ℕ) {t : Trailed} → k ≤ count → count ≤ k
    → followed image base db entries (count - k) k state area ≡ t → trailed count state area ≡ t
unfolding followed
follow_end image entries state area base db k count h i e =
    let n : k ≡ count = omega arith in
    let z : count - k ≡ 0 = omega arith in
    rw (z, n) at e

-- a trail that is the definition's, compared part by part, has the definition's verdict
pub trail_found_lem : (next tag count : ℕ) (after : List ℕ) {t b : Trailed} {s : Bool} → t ≡ b → s ≡ same_bytes t.area after
    → checked (found next t.entries (eqb tag 1414676812 && eqb t.entries count && s)) t.area ≡ trail_verdict next tag count after b
unfolding trail_verdict
trail_found_lem next tag count after h i = rw (i, h)
