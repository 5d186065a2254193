-- What windows are: the laws of specs/WindowLaws.
use Prim.Native.Nat.{ℕ, zero, suc, ◌+◌, ◌-◌, ◌*◌, ◌/◌, ◌%◌, ◌<◌, ◌≤◌, min}
use native.Mathlib.Omega.{arith}
use native.Mathlib.Nat.{mod-eq_of_lt}
use mathlib.Core.Path.{◌≡◌, refl, sym, ap, ◌∙◌}
use mathlib.Core.Logic.{◌⊎◌, inl, inr}
use mathlib.Core.Bool.{Bool, true, false}
use mathlib.Core.List.{List}
use lib.Dec.{eqb, ltb}
use lib.ListN.{get_or}
use lib.Seq.{get_or-set_other}
use borrow.Author.Tests.{eqb-true, eqb-false, lt-ltb, le-ltb, ltb-true, ltb-false}
use Rattle.words.specs.declared.WindowOperation.TheVariants.{Save, Restore}
use Rattle.machine.specs.Ends.{ending, go, halt}
use Rattle.machine.specs.Registers.{register_of, put_register, y_of}
use Rattle.windows.specs.Windows.{nesting_of, place_of, ring_place, laid, taken, cleared, Held, turned, window_of}
use Rattle.windows.specs.WindowLaws.{Place, in_window, Left, Turned, saves_of, WindowLaws}
use Rattle.machine.proofs.Zero.{put_zero}
use Rattle.machine.proofs.Writes.{put_own, put_far}
use Rattle.windows.proofs.Ring.{ring_past, ring_lt, ring_apart, Covered, covered, free, covers, laid_low, laid_free, laid_own, laid_length, cleared_low, cleared_free, taken_other, taken_own, put_nesting, put_held, turned_nesting, turned_low, turned_held, in_alike}

-- ---------------------------------------------------------------- places
-- a register from 8 on stands in the ring
in_ring : (w r : ℕ) → 8 ≤ r → ring_place w (r - 8) ≡ place_of w r
in_ring w r l = ap (place_of w) (omega arith)

global : (w r : ℕ) → r < 8 → place_of w r ≡ r
unfolding place_of
global w r h = rw (lt-ltb r 8 h)

by_eight : {A : Type 0} (r : ℕ) → (r < 8 → A) → (8 ≤ r → A) → A
by_eight {A = A} r f g = go (ltb r 8) refl
  where
    go : (b : Bool) → ltb r 8 ≡ b → A
    go true q = f (ltb-true r 8 q)
    go false q = g (ltb-false r 8 q)

place_of_lem : (w r : ℕ) → r < 32 → Place (place_of w r)
place_of_lem w r h =
    by_eight r (λ l. inl (rw (global w r l) l)) (λ l. inr (rw (in_ring w r l) at (ring_past w (r - 8)), rw (in_ring w r l) at (ring_lt w (r - 8))))

places_apart : (w r s : ℕ) → r < 32 → s < 32 → place_of w r ≡ place_of w s → r ≡ s
places_apart w r s h i e =
    by_eight r
    (λ l. by_eight s (λ m. sym (global w r l) ∙ e ∙ global w s m)
    (λ m. let p = ring_past w (s - 8) in let q = in_ring w s m in let g = global w r l in absurd (omega arith)))
    (λ l. by_eight s (λ m. let p = ring_past w (r - 8) in let q = in_ring w r l in let g = global w s m in absurd (omega arith))
    (λ m. let a = ring_apart w (r - 8) (s - 8) (omega arith) (omega arith) (in_ring w r l ∙ e ∙ sym (in_ring w s m)) in omega arith))

next_ins : (w k : ℕ) → k < 8 → place_of w (8 + k) ≡ place_of (w + 1) (24 + k)
unfolding place_of
next_ins w k h = rw (le-ltb (8 + k) 8 (omega arith), le-ltb (24 + k) 8 (omega arith)) (ap (λ n. 34 + n % 128) (omega arith))

around_ins : (k : ℕ) → k < 8 → place_of 7 (8 + k) ≡ place_of 0 (24 + k)
unfolding place_of
around_ins k h =
    let o : 16 * 7 + 8 * (3 - (8 + k) / 8) + (8 + k) % 8 ≡ 128 + k = omega arith in
    let i : 16 * 0 + 8 * (3 - (24 + k) / 8) + (24 + k) % 8 ≡ k = omega arith in
    rw (le-ltb (8 + k) 8 (omega arith), le-ltb (24 + k) 8 (omega arith), o, i) (omega arith)

-- the sixteen places of each window's ins and locals
apart_at : (w v x y : ℕ) → w < 8 → v < 8 → x < 16 → y < 16 → 34 + (16 * w + x) % 128 ≡ 34 + (16 * v + y) % 128 → (w ≡ v) × (x ≡ y)
apart_at w v x y a b c d e = (omega arith, omega arith)

at_16 : (w r : ℕ) → 16 ≤ r → place_of w r ≡ 34 + (16 * w + (8 * (3 - r / 8) + r % 8)) % 128
unfolding place_of
at_16 w r l = rw (le-ltb r 8 (omega arith)) (ap (λ n. 34 + n % 128) (omega arith))

places_own : (w v r s : ℕ) → w < 8 → v < 8 → 16 ≤ r → r < 32 → 16 ≤ s → s < 32 → place_of w r ≡ place_of v s → (w ≡ v) × (r ≡ s)
places_own w v r s a b lr hr ls hs e =
    let z = apart_at w v (8 * (3 - r / 8) + r % 8) (8 * (3 - s / 8) + s % 8) a b (omega arith) (omega arith) (sym (at_16 w r lr) ∙ e ∙ at_16 v s ls) in
    (z.0, numbered r s lr hr ls hs z.1)
  where
    numbered : (r s : ℕ) → 16 ≤ r → r < 32 → 16 ≤ s → s < 32 → 8 * (3 - r / 8) + r % 8 ≡ 8 * (3 - s / 8) + s % 8 → r ≡ s
    numbered r s a b c d e = omega arith

-- ---------------------------------------------------------------- a register is written
-- a number of the file that a write of rd leaves
put_other : (rs : List ℕ) (rd t j : ℕ) → get_or rs 0 0 ≡ 0 → (rd % 32 ≡ 0) ⊎ (j ≡ rd % 32 → ⊥) → get_or (put_register rs rd t) j 0 ≡ get_or rs j 0
put_other rs rd t j z f = go (eqb j 0) refl f
  where
    go : (b : Bool) → eqb j 0 ≡ b → (rd % 32 ≡ 0) ⊎ (j ≡ rd % 32 → ⊥) → get_or (put_register rs rd t) j 0 ≡ get_or rs j 0
    go true q f = rw (eqb-true j 0 q) (put_zero rs rd t ∙ sym z)
    go false q (inl e) = let n = eqb-false j 0 q in put_far rs rd t j n (λ g. n (g ∙ e))
    go false q (inr n) = put_far rs rd t j (eqb-false j 0 q) n

-- the file shows it at its place alone
module _ (rs : List ℕ) (h : Held rs) (rd t : ℕ) where
  abbrev w : ℕ
  w = nesting_of rs

  abbrev put : List ℕ
  put = put_register rs rd t

  own_place : (k : ℕ) → k < 24 → get_or (laid put) (ring_place w k) 0 ≡ get_or put (8 + k) 0
  own_place k g = rw (put_nesting rs rd t) at (laid_own put (put_held rs h rd t).whole k g)

  put_written : (rd % 32 ≡ 0 → ⊥) → in_window put w (rd % 32) ≡ t
  put_written n =
      by_eight (rd % 32) (λ l. rw (global w (rd % 32) l) (laid_low put (rd % 32) (omega arith) ∙ put_own rs rd t h.whole n))
      (λ l. let e : 8 + (rd % 32 - 8) ≡ rd % 32 = omega arith in
      rw (← in_ring w (rd % 32) l) (own_place (rd % 32 - 8) (omega arith) ∙ rw e (put_own rs rd t h.whole n)))

  put_others : (p : ℕ) → Place p → Left w rd p → get_or (laid put) p 0 ≡ get_or (laid rs) p 0
  put_others p (inl l) f =
      laid_low put p (omega arith) ∙ put_other rs rd t p h.zero (low f) ∙ sym (laid_low rs p (omega arith))
    where
      low : Left w rd p → (rd % 32 ≡ 0) ⊎ (p ≡ rd % 32 → ⊥)
      low (inl e) = inl e
      low (inr n) = inr (λ e. n (e ∙ sym (global w (rd % 32) (rw e at l))))
  put_others p (inr l) f = go (covers w p) f
    where
      high : (k : ℕ) → p ≡ ring_place w k → Left w rd p → (rd % 32 ≡ 0) ⊎ (8 + k ≡ rd % 32 → ⊥)
      high k e (inl z) = inl z
      high k e (inr n) = inr (λ q. n (rw q at e))

      go : Covered w p → Left w rd p → get_or (laid put) p 0 ≡ get_or (laid rs) p 0
      go (covered k g e) f =
          rw e (own_place k g ∙ put_other rs rd t (8 + k) h.zero (high k e f) ∙ sym (laid_own rs h.whole k g))
      go (free n) f =
          laid_free put p (rw (put_nesting rs rd t) n) ∙ put_other rs rd t p h.zero (inr (λ e. omega (arith, l.0))) ∙ sym (laid_free rs p n)

-- ---------------------------------------------------------------- another window becomes the current one
module _ (rs : List ℕ) (h : Held rs) (v : ℕ) (few : v ≤ 6) where
  -- what it has in registers 8 to 31 and elsewhere, from what was shown
  up_at : (k : ℕ) → k < 24 → get_or (turned v rs) (8 + k) 0 ≡ get_or (laid rs) (ring_place v k) 0
  unfolding turned
  up_at k g =
      let u = taken v (laid rs) in
      get_or-set_other (cleared v u) 33 (8 + k) v 0 (λ e. omega arith) ∙ cleared_low v u (8 + k) (omega arith)
      ∙ taken_own v (laid rs) (laid_length rs ∙ h.whole) k g

  stays_at : (p : ℕ) → 34 ≤ p → ((k : ℕ) → k < 24 → p ≡ ring_place v k → ⊥) → get_or (turned v rs) p 0 ≡ get_or (laid rs) p 0
  unfolding turned
  stays_at p l n =
      let u = taken v (laid rs) in
      get_or-set_other (cleared v u) 33 p v 0 (λ e. omega arith) ∙ cleared_free v u p n ∙ taken_other v (laid rs) p (inr (omega arith))

  turned_shows : (p : ℕ) → Place p → get_or (laid (turned v rs)) p 0 ≡ get_or (laid rs) p 0
  turned_shows p (inl l) = laid_low (turned v rs) p (omega arith) ∙ turned_low v rs p (inl l) ∙ sym (laid_low rs p (omega arith))
  turned_shows p (inr l) = go (covers v p)
    where
      n : nesting_of (turned v rs) ≡ v
      n = turned_nesting v rs h.whole

      go : Covered v p → get_or (laid (turned v rs)) p 0 ≡ get_or (laid rs) p 0
      go (covered k g e) = rw e (rw n at (laid_own (turned v rs) (turned_held rs h v few).whole k g) ∙ up_at k g)
      go (free f) = laid_free (turned v rs) p (rw n f) ∙ stays_at p l.0 f

  y_stays : (rd t : ℕ) → y_of (put_register (turned v rs) rd t) ≡ y_of rs
  unfolding y_of
  y_stays rd t = put_other (turned v rs) rd t 32 (turned_held rs h v few).zero (inr (λ e. omega arith)) ∙ turned_low v rs 32 (inr refl)

  turned_so : (rd t : ℕ) → Turned v rd t rs (put_register (turned v rs) rd t)
  turned_so rd t =
      let n : nesting_of (turned v rs) ≡ v = turned_nesting v rs h.whole in
      record {
        held = put_held (turned v rs) (turned_held rs h v few) rd t;
        nesting = put_nesting (turned v rs) rd t ∙ n;
        written = rw n at (put_written (turned v rs) (turned_held rs h v few) rd t);
        others = λ p l f. put_others (turned v rs) (turned_held rs h v few) rd t p l (rw n f) ∙ turned_shows p l;
        same_y = y_stays rd t;
      }

-- ---------------------------------------------------------------- the laws
save_goes : (rs : List ℕ) (rd t : ℕ) → nesting_of rs < 6 → window_of Save rd t rs ≡ go (put_register (turned (nesting_of rs + 1) rs) rd t)
unfolding window_of
save_goes rs rd t l = rw (lt-ltb (nesting_of rs) 6 l)

restore_goes : (rs : List ℕ) (rd t : ℕ) → 0 < nesting_of rs → window_of Restore rd t rs ≡ go (put_register (turned (nesting_of rs - 1) rs) rd t)
unfolding window_of
restore_goes rs rd t l = rw (lt-ltb 0 (nesting_of rs) l)

save_ends : (rs : List ℕ) (rd t : ℕ) → 6 ≤ nesting_of rs → window_of Save rd t rs ≡ halt (ending 8 (nesting_of rs))
unfolding window_of
save_ends rs rd t l = rw (le-ltb (nesting_of rs) 6 l)

restore_ends : (rs : List ℕ) (rd t : ℕ) → nesting_of rs ≡ 0 → window_of Restore rd t rs ≡ halt (ending 9 0)
unfolding window_of
restore_ends rs rd t e = rw e

saves_so : (rs : List ℕ) (rd t : ℕ) → Held rs → nesting_of rs < 6 → (ss : List ℕ) × ((window_of Save rd t rs ≡ go ss) × Turned (nesting_of rs + 1) rd t rs ss)
saves_so rs rd t h l =
    (put_register (turned (nesting_of rs + 1) rs) rd t, (save_goes rs rd t l, turned_so rs h (nesting_of rs + 1) (omega arith) rd t))

restores_so : (rs : List ℕ) (rd t : ℕ) → Held rs → 0 < nesting_of rs → (ss : List ℕ) × ((window_of Restore rd t rs ≡ go ss) × Turned (nesting_of rs - 1) rd t rs ss)
restores_so rs rd t h l =
    (put_register (turned (nesting_of rs - 1) rs) rd t, (restore_goes rs rd t l, turned_so rs h (nesting_of rs - 1) (omega (arith, h.nesting)) rd t))

current_so : (rs : List ℕ) → Held rs → (r : ℕ) → r < 32 → register_of rs r ≡ in_window rs (nesting_of rs) r
unfolding register_of
current_so rs h r l =
    rw (mod-eq_of_lt l) (by_eight r (λ m. rw (global (nesting_of rs) r m) (sym (laid_low rs r (omega arith))))
    (λ m. let e : 8 + (r - 8) ≡ r = omega arith in rw e at (sym (laid_own rs h.whole (r - 8) (omega arith)))))

-- what went on was turned to
gone : {A : Type 0} {x y : A} → go x ≡ go y → x ≡ y
gone e = cc

not_gone : {A : Type 0} {x : A} {n v : ℕ} → halt (ending n v) ≡ go x → ⊥
not_gone e = let z : ◌≡◌ {A = ℕ} 0 1 = cc in omega arith

saved : (rs ss : List ℕ) (rd t : ℕ) → Held rs → window_of Save rd t rs ≡ go ss → Turned (nesting_of rs + 1) rd t rs ss
saved rs ss rd t h e = by (ltb (nesting_of rs) 6) refl
  where
    by : (b : Bool) → ltb (nesting_of rs) 6 ≡ b → Turned (nesting_of rs + 1) rd t rs ss
    by true q =
        let l : nesting_of rs < 6 = ltb-true (nesting_of rs) 6 q in
        let p : put_register (turned (nesting_of rs + 1) rs) rd t ≡ ss = gone (sym (save_goes rs rd t l) ∙ e) in
        rw p at (turned_so rs h (nesting_of rs + 1) (omega arith) rd t)
    by false q = absurd (not_gone (sym (save_ends rs rd t (ltb-false (nesting_of rs) 6 q)) ∙ e))

restored : (rs ss : List ℕ) (rd t : ℕ) → Held rs → 0 < nesting_of rs → window_of Restore rd t rs ≡ go ss → Turned (nesting_of rs - 1) rd t rs ss
restored rs ss rd t h l e =
    let p : put_register (turned (nesting_of rs - 1) rs) rd t ≡ ss = gone (sym (restore_goes rs rd t l) ∙ e) in
    rw p at (turned_so rs h (nesting_of rs - 1) (omega (arith, h.nesting)) rd t)

ins_after : (rs ss : List ℕ) (rd t k : ℕ) → Held rs → window_of Save rd t rs ≡ go ss → k < 8 → (rd % 32 ≡ 24 + k → ⊥) → register_of ss (24 + k) ≡ register_of rs (8 + k)
ins_after rs ss rd t k h e l n =
    let w : ℕ = nesting_of rs in
    let T = saved rs ss rd t h e in
    let left : Left (w + 1) rd (place_of (w + 1) (24 + k)) = inr (λ q. n (sym (places_apart (w + 1) (24 + k) (rd % 32) (omega arith) (omega arith) q))) in
    current_so ss T.held (24 + k) (omega arith) ∙ rw T.nesting (T.others (place_of (w + 1) (24 + k)) (place_of_lem (w + 1) (24 + k) (omega arith)) left)
    ∙ ap (λ p. get_or (laid rs) p 0) (sym (next_ins w k l)) ∙ sym (current_so rs h (8 + k) (omega arith))

given_back : (rs ss us : List ℕ) (rd t e u r : ℕ) → Held rs → window_of Save rd t rs ≡ go ss → window_of Restore e u ss ≡ go us → r < 32
    → Left (nesting_of rs + 1) rd (place_of (nesting_of rs) r) → Left (nesting_of rs) e (place_of (nesting_of rs) r) → register_of us r ≡ register_of rs r
given_back rs ss us rd t e u r h p q l f g =
    let w : ℕ = nesting_of rs in
    let T = saved rs ss rd t h p in
    let U = restored ss us e u T.held (omega (arith, T.nesting)) q in
    let z : nesting_of ss - 1 ≡ w = omega (arith, T.nesting) in
    current_so us U.held r l ∙ rw (U.nesting, z) (rw z at U.others (place_of w r) (place_of_lem w r l) g ∙ T.others (place_of w r) (place_of_lem w r l) f)
    ∙ sym (current_so rs h r l)

saved_times : (rs : List ℕ) (rd t : ℕ → ℕ) (n : ℕ) → Held rs → nesting_of rs ≡ 0 → n ≤ 6 → (ss : List ℕ) × ((saves_of rd t n rs ≡ go ss) × (Held ss × (nesting_of ss ≡ n)))
saved_times rs rd t zero h e l = (rs, (refl, (h, e)))
saved_times rs rd t (suc n) h e l =
    let p = saved_times rs rd t n h e (omega arith) in
    let q = saves_so p.0 (rd n) (t n) p.1.1.0 (omega (arith, p.1.1.1)) in
    (q.0, (rw p.1.0 q.1.0, (q.1.1.held, q.1.1.nesting ∙ omega (arith, p.1.1.1))))

pub window_laws : WindowLaws
window_laws =
    record {
      placed = place_of_lem;
      apart = places_apart;
      own = places_own;
      overlap = next_ins;
      around = around_ins;
      current = current_so;
      saves = saves_so;
      restores = restores_so;
      too_many_saves = λ rs rd t e. save_ends rs rd t (omega arith) ∙ rw e;
      too_many_restores = restore_ends;
      outs_are_ins = ins_after;
      back = given_back;
      six_saves = λ rs rd t h e. let p = saved_times rs rd t 6 h e (omega arith) in (p.0, (p.1.0, p.1.1.1));
      covered = λ rs ss l m f. in_alike rs ss l m (λ i g. f i (λ r a b q. g (r - 8) (omega arith) (q ∙ sym (in_ring (min (nesting_of rs) 6) r a))));
    }
