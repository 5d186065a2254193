-- Laws of windows: numbers written each at its position; a window laid down, taken up and cleared; what comes in and what is shown.
use Prim.Native.Nat.{ℕ, zero, suc, ◌+◌, ◌-◌, ◌*◌, ◌/◌, ◌%◌, ◌^◌, ◌<◌, ◌≤◌, min}
use native.Mathlib.Omega.{arith}
use native.Mathlib.Nat.{zero-add}
use mathlib.Core.Path.{◌≡◌, refl, sym, ap, ◌∙◌}
use mathlib.Core.Bool.{Bool, true, false}
use mathlib.Core.List.{List, [], ◌∷◌}
use mathlib.Core.Logic.{◌⊎◌, inl, inr}
use lib.Dec.{eqb, ltb}
use lib.ListN.{length, get_or, set, replicate, length-set}
use borrow.Rule.Slice.PartMut.{mid_of, mid_len, put_mid}
use Rattle.std.proofs.lemmas.Slice.{put_mid-paste}
use Rattle.std.proofs.lemmas.List.{get_or-replicate}
use lib.Seq.{paste, paste-zero, paste-suc, get_or-set_same, get_or-set_other, set_comm, ext_get_or}
use borrow.Author.Tests.{eqb-true, eqb-false, ltb-true, ltb-false, le-ltb}
use Rattle.numbers.specs.Number.{Below}
use Rattle.numbers.proofs.Bounds.{below_get, below_set}
use Rattle.machine.specs.Registers.{file_size, put_register, put_y}
use Rattle.machine.proofs.Zero.{put_zero}
use Rattle.windows.specs.Windows.{nesting_of, place_of, put_each, ring_place, laid, taken, cleared, Clear, Held, nested, come_in, turned}

-- ---------------------------------------------------------------- the ring
-- the number of register 8 + k within its window: ins, locals, outs
abbrev within : ℕ → ℕ
within k = 8 * (3 - (8 + k) / 8) + (8 + k) % 8

ring_is : (w k : ℕ) → ring_place w k ≡ 34 + (16 * w + within k) % 128
unfolding place_of
ring_is w k = rw (le-ltb (8 + k) 8 (omega arith)) (ap (λ n. 34 + n % 128) (omega arith))

pub ring_past : (w k : ℕ) → 34 ≤ ring_place w k
ring_past w k = rw (ring_is w k) (omega arith)

pub ring_lt : (w k : ℕ) → ring_place w k < file_size
ring_lt w k = rw (ring_is w k) (omega arith)

-- no two registers of a window stand at one place
pub ring_apart : (w j k : ℕ) → j < 24 → k < 24 → ring_place w j ≡ ring_place w k → j ≡ k
ring_apart w j k h i e = numbered j k h i (in_ring w (within j) (within k) (below j) (below k) (rw (ring_is w j, ring_is w k) at e))
  where
    below : (k : ℕ) → within k < 24
    below k = omega arith

    numbered : (j k : ℕ) → j < 24 → k < 24 → within j ≡ within k → j ≡ k
    numbered j k h i e = omega arith

    in_ring : (w x y : ℕ) → x < 24 → y < 24 → 34 + (16 * w + x) % 128 ≡ 34 + (16 * w + y) % 128 → x ≡ y
    in_ring w x y h i e = omega arith

pub place_of_eight : (w e : ℕ) → 1 ≤ e → e ≤ 3 → 34 + (16 * w + 8 * (3 - e)) % 128 ≡ place_of w (8 * e)
unfolding place_of
place_of_eight w e l h = rw (le-ltb (8 * e) 8 (omega arith)) (ap (λ n. 34 + n % 128) (omega arith))

pub eight_fits : (w c : ℕ) → 34 + (16 * w + 8 * c) % 128 + 8 ≤ file_size
eight_fits w c = omega arith

-- eight of them stand one behind the other
ring_eight : (w e k : ℕ) → e < 3 → k < 8 → ring_place w (8 * e) + k ≡ ring_place w (8 * e + k)
ring_eight w e k h i =
    rw (ring_is w (8 * e), ring_is w (8 * e + k), first e h, rest e k h i) (behind (2 - e))
  where
    first : (e : ℕ) → e < 3 → within (8 * e) ≡ 8 * (2 - e)
    first e h = omega arith

    rest : (e k : ℕ) → e < 3 → k < 8 → within (8 * e + k) ≡ 8 * (2 - e) + k
    rest e k h i = omega arith

    behind : (c : ℕ) → 34 + (16 * w + 8 * c) % 128 + k ≡ 34 + (16 * w + (8 * c + k)) % 128
    behind c = omega arith

-- ---------------------------------------------------------------- numbers written each at its position
module _ (at v : ℕ → ℕ) where
  pub each_length : (n : ℕ) (rs : List ℕ) → length (put_each at v n rs) ≡ length rs
  unfolding put_each
  each_length zero rs = refl
  each_length (suc k) rs = length-set (put_each at v k rs) (at k) (v k) ∙ each_length k rs

  pub each_below : (b n : ℕ) (rs : List ℕ) → ((k : ℕ) → k < n → v k < b) → Below b rs → Below b (put_each at v n rs)
  unfolding put_each
  each_below b zero rs l h = h
  each_below b (suc k) rs l h = below_set b (put_each at v k rs) (at k) (v k) (l k (omega arith)) (each_below b k rs (λ j i. l j (omega arith)) h)

  pub each_other : (n : ℕ) (rs : List ℕ) (i : ℕ) → ((k : ℕ) → k < n → i ≡ at k → ⊥) → get_or (put_each at v n rs) i 0 ≡ get_or rs i 0
  unfolding put_each
  each_other zero rs i f = refl
  each_other (suc k) rs i f =
      get_or-set_other (put_each at v k rs) (at k) i (v k) 0 (f k (omega arith)) ∙ each_other k rs i (λ j h. f j (omega arith))

  pub each_at : (n : ℕ) (rs : List ℕ) (j : ℕ) → ((i k : ℕ) → i < n → k < n → at i ≡ at k → i ≡ k) → ((k : ℕ) → k < n → at k < length rs) → j < n
      → get_or (put_each at v n rs) (at j) 0 ≡ v j
  unfolding put_each
  each_at zero rs j a l h = absurd (omega arith)
  each_at (suc k) rs j a l h = go (eqb j k) refl (each_at k rs j (λ i k p q. a i k (omega arith) (omega arith)) (λ k p. l k (omega arith)))
    where
      go : (b : Bool) → eqb j k ≡ b → (j < k → get_or (put_each at v k rs) (at j) 0 ≡ v j) → get_or (set (put_each at v k rs) (at k) (v k)) (at j) 0 ≡ v j
      go true q r =
          let e : j ≡ k = eqb-true j k q in
          rw e (get_or-set_same (put_each at v k rs) (at k) (v k) 0 (rw (each_length k rs) (l k (omega arith))))
      go false q r =
          let n : j ≡ k → ⊥ = eqb-false j k q in
          get_or-set_other (put_each at v k rs) (at k) (at j) (v k) 0 (λ z. n (a j k h (omega arith) z)) ∙ r (omega (arith, n))

  -- another number may be written before or after
  pub each_set : (n : ℕ) (rs : List ℕ) (i x : ℕ) → ((k : ℕ) → k < n → i ≡ at k → ⊥) → set (put_each at v n rs) i x ≡ put_each at v n (set rs i x)
  unfolding put_each
  each_set zero rs i x f = refl
  each_set (suc k) rs i x f =
      set_comm (put_each at v k rs) (at k) i (v k) x (λ e. f k (omega arith) (sym e)) ∙ ap (λ (r : List ℕ). set r (at k) (v k)) (each_set k rs i x (λ j h. f j (omega arith)))

-- equal positions and numbers
pub each_same : (at at' v v' : ℕ → ℕ) (n : ℕ) (rs : List ℕ) → ((k : ℕ) → k < n → at k ≡ at' k) → ((k : ℕ) → k < n → v k ≡ v' k)
    → put_each at v n rs ≡ put_each at' v' n rs
unfolding put_each
each_same at at' v v' zero rs f g = refl
each_same at at' v v' (suc k) rs f g =
    rw (f k (omega arith), g k (omega arith), each_same at at' v v' k rs (λ j h. f j (omega arith)) (λ j h. g j (omega arith)))

-- numbers one behind the other are a list that is pasted
pub each_pasted : (at n : ℕ) (rs xs : List ℕ) → at + n ≤ length rs → n ≤ length xs → paste rs at xs n ≡ put_each (λ k. at + k) (λ k. get_or xs k 0) n rs
unfolding put_each
each_pasted at zero rs xs h l = sym (paste-zero rs at xs)
each_pasted at (suc k) rs xs h l = rw (← each_pasted at k rs xs (omega arith) (omega arith)) (sym (paste-suc rs at xs k 0 (omega arith) (omega arith)))

pub eight_cleared : (at : ℕ) (rs xs : List ℕ) → at + 8 ≤ length rs → xs ≡ replicate (length (mid_of at (at + 8 - at) rs)) 0
    → put_mid at (at + 8 - at) rs xs ≡ put_each (λ k. at + k) (λ k. 0) 8 rs
eight_cleared at rs xs h e =
    let p : at + 8 - at ≡ 8 = omega arith in
    put_mid-paste _ _ _ _ (replicate 8 0) 8 (rw (mid_len at (at + 8) rs h, p) at e) (sym p) refl ∙ each_pasted at 8 rs (replicate 8 0) h (omega arith)
    ∙ each_same (λ k. at + k) (λ k. at + k) (λ k. get_or (replicate 8 0) k 0) (λ k. 0) 8 rs (λ k i. refl) (λ k i. get_or-replicate 8 k 0 0 i)

-- twenty-four are three times eight
in_eights : (at v : ℕ → ℕ) (rs : List ℕ)
    → put_each (λ k. at (16 + k)) (λ k. v (16 + k)) 8 (put_each (λ k. at (8 + k)) (λ k. v (8 + k)) 8 (put_each at v 8 rs)) ≡ put_each at v 24 rs
unfolding put_each
in_eights at v rs = refl

-- ---------------------------------------------------------------- windows in eights, as the code has them
abbrev Eight : (ℕ → ℕ) → (ℕ → ℕ) → Type 0
Eight f g = (k : ℕ) → k < 8 → f k ≡ g k

eights : (at v : ℕ → ℕ) (rs a b c : List ℕ) (p q r x y z : ℕ → ℕ) → a ≡ put_each p x 8 rs → b ≡ put_each q y 8 a → c ≡ put_each r z 8 b
    → Eight p at → Eight q (λ k. at (8 + k)) → Eight r (λ k. at (16 + k)) → Eight x v → Eight y (λ k. v (8 + k)) → Eight z (λ k. v (16 + k))
    → c ≡ put_each at v 24 rs
eights at v rs a b c p q r x y z ea eb ec ep eq er ex ey ez =
    let fa : a ≡ put_each at v 8 rs = ea ∙ each_same p at x v 8 rs ep ex in
    let fb : b ≡ put_each (λ k. at (8 + k)) (λ k. v (8 + k)) 8 a = eb ∙ each_same q (λ k. at (8 + k)) y (λ k. v (8 + k)) 8 a eq ey in
    let fc : c ≡ put_each (λ k. at (16 + k)) (λ k. v (16 + k)) 8 b = ec ∙ each_same r (λ k. at (16 + k)) z (λ k. v (16 + k)) 8 b er ez in
    rw (fb, fa) at fc ∙ in_eights at v rs

-- the three places that the code finds, from the outs to the ins
module _ (w p q r : ℕ) (ep : p ≡ place_of w 8) (eq : q ≡ place_of w 16) (er : r ≡ place_of w 24) where
  outs_at : Eight (λ k. p + k) (ring_place w)
  outs_at k h = rw ep (rw (zero-add k) at (ring_eight w 0 k (omega arith) h))

  locals_at : Eight (λ k. q + k) (λ k. ring_place w (8 + k))
  locals_at k h = rw eq (ring_eight w 1 k (omega arith) h)

  ins_at : Eight (λ k. r + k) (λ k. ring_place w (16 + k))
  ins_at k h = rw er (ring_eight w 2 k (omega arith) h)

  past_34 : (34 ≤ p) × (34 ≤ q) × (34 ≤ r)
  past_34 = (rw ep (ring_past w 0), rw eq (ring_past w 8), rw er (ring_past w 16))

  pub laid_eights : (rs a b c : List ℕ) → w ≡ nesting_of rs → a ≡ put_each (λ k. p + k) (λ k. get_or rs (8 + k) 0) 8 rs
      → b ≡ put_each (λ k. q + k) (λ k. get_or a (16 + k) 0) 8 a → c ≡ put_each (λ k. r + k) (λ k. get_or b (24 + k) 0) 8 b → c ≡ laid rs
  unfolding laid
  laid_eights rs a b c n ea eb ec =
      let l = past_34 in
      let fa : (i : ℕ) → i < 34 → get_or a i 0 ≡ get_or rs i 0 = λ i h. rw ea (each_other _ _ 8 rs i (λ k g e. omega (arith, l.0))) in
      let fb : (i : ℕ) → i < 34 → get_or b i 0 ≡ get_or a i 0 = λ i h. rw eb (each_other _ _ 8 a i (λ k g e. omega (arith, l.1))) in
      rw (← n) (eights (ring_place w) (λ k. get_or rs (8 + k) 0) rs a b c _ _ _ _ _ _ ea eb ec outs_at locals_at ins_at (λ k h. refl)
      (λ k h. fa (16 + k) (omega arith) ∙ ap (λ i. get_or rs i 0) (omega arith))
      (λ k h. fb (24 + k) (omega arith) ∙ fa (24 + k) (omega arith) ∙ ap (λ i. get_or rs i 0) (omega arith)))

  pub taken_eights : (rs a b c : List ℕ) → a ≡ put_each (λ k. 8 + k) (λ k. get_or rs (p + k) 0) 8 rs
      → b ≡ put_each (λ k. 16 + k) (λ k. get_or a (q + k) 0) 8 a → c ≡ put_each (λ k. 24 + k) (λ k. get_or b (r + k) 0) 8 b → c ≡ taken w rs
  unfolding taken
  taken_eights rs a b c ea eb ec =
      let l = past_34 in
      let fa : (i : ℕ) → 34 ≤ i → get_or a i 0 ≡ get_or rs i 0 = λ i h. rw ea (each_other _ _ 8 rs i (λ k g e. omega arith)) in
      let fb : (i : ℕ) → 34 ≤ i → get_or b i 0 ≡ get_or a i 0 = λ i h. rw eb (each_other _ _ 8 a i (λ k g e. omega arith)) in
      eights (λ k. 8 + k) (λ k. get_or rs (ring_place w k) 0) rs a b c _ _ _ _ _ _ ea eb ec (λ k h. refl) (λ k h. omega arith) (λ k h. omega arith)
      (λ k h. ap (λ i. get_or rs i 0) (outs_at k h))
      (λ k h. fa (q + k) (omega (arith, l.1)) ∙ ap (λ i. get_or rs i 0) (locals_at k h))
      (λ k h. fb (r + k) (omega (arith, l.2)) ∙ fa (r + k) (omega (arith, l.2)) ∙ ap (λ i. get_or rs i 0) (ins_at k h))

  pub cleared_eights : (rs a b c : List ℕ) → a ≡ put_each (λ k. p + k) (λ k. 0) 8 rs → b ≡ put_each (λ k. q + k) (λ k. 0) 8 a
      → c ≡ put_each (λ k. r + k) (λ k. 0) 8 b → c ≡ cleared w rs
  unfolding cleared
  cleared_eights rs a b c ea eb ec =
      eights (ring_place w) (λ k. 0) rs a b c _ _ _ _ _ _ ea eb ec outs_at locals_at ins_at (λ k h. refl) (λ k h. refl) (λ k h. refl)

-- ---------------------------------------------------------------- a file as a run has it
module _ (rs : List ℕ) where
  -- registers, Y and the nesting stay where a window is laid down or cleared; in the ring, what is not the window's
  pub laid_low : (i : ℕ) → i < 34 → get_or (laid rs) i 0 ≡ get_or rs i 0
  unfolding laid
  laid_low i h = each_other _ _ 24 rs i (λ k g e. omega (arith, ring_past (nesting_of rs) k))

  pub laid_free : (i : ℕ) → ((k : ℕ) → k < 24 → i ≡ ring_place (nesting_of rs) k → ⊥) → get_or (laid rs) i 0 ≡ get_or rs i 0
  unfolding laid
  laid_free i f = each_other _ _ 24 rs i f

  pub laid_own : length rs ≡ file_size → (k : ℕ) → k < 24 → get_or (laid rs) (ring_place (nesting_of rs) k) 0 ≡ get_or rs (8 + k) 0
  unfolding laid
  laid_own l k h =
      each_at _ _ 24 rs k (ring_apart (nesting_of rs)) (λ k g. rw l (ring_lt (nesting_of rs) k)) h

  pub laid_length : length (laid rs) ≡ length rs
  unfolding laid
  laid_length = each_length _ _ 24 rs

  pub laid_nesting : nesting_of (laid rs) ≡ nesting_of rs
  unfolding nesting_of
  laid_nesting = laid_low 33 (omega arith)

  pub laid_below : Below (2 ^ 32) rs → Below (2 ^ 32) (laid rs)
  unfolding laid
  laid_below b = each_below _ _ (2 ^ 32) 24 rs (λ k h. below_get (2 ^ 32) rs (8 + k) (omega arith) b) b

module _ (w : ℕ) (rs : List ℕ) where
  pub cleared_low : (i : ℕ) → i < 34 → get_or (cleared w rs) i 0 ≡ get_or rs i 0
  unfolding cleared
  cleared_low i h = each_other _ _ 24 rs i (λ k g e. omega (arith, ring_past w k))

  pub cleared_free : (i : ℕ) → ((k : ℕ) → k < 24 → i ≡ ring_place w k → ⊥) → get_or (cleared w rs) i 0 ≡ get_or rs i 0
  unfolding cleared
  cleared_free i f = each_other _ _ 24 rs i f

  pub cleared_own : length rs ≡ file_size → (k : ℕ) → k < 24 → get_or (cleared w rs) (ring_place w k) 0 ≡ 0
  unfolding cleared
  cleared_own l k h = each_at _ _ 24 rs k (ring_apart w) (λ k g. rw l (ring_lt w k)) h

  pub cleared_length : length (cleared w rs) ≡ length rs
  unfolding cleared
  cleared_length = each_length _ _ 24 rs

  pub cleared_below : Below (2 ^ 32) rs → Below (2 ^ 32) (cleared w rs)
  unfolding cleared
  cleared_below b = each_below _ _ (2 ^ 32) 24 rs (λ k h. omega arith) b

  -- registers 8 to 31 alone are taken up
  pub taken_other : (i : ℕ) → (i < 8) ⊎ (32 ≤ i) → get_or (taken w rs) i 0 ≡ get_or rs i 0
  unfolding taken
  taken_other i (inl h) = each_other _ _ 24 rs i (λ k g e. omega arith)
  taken_other i (inr h) = each_other _ _ 24 rs i (λ k g e. omega arith)

  pub taken_own : length rs ≡ file_size → (k : ℕ) → k < 24 → get_or (taken w rs) (8 + k) 0 ≡ get_or rs (ring_place w k) 0
  unfolding taken
  taken_own l k h = each_at _ _ 24 rs k (λ i j p q e. omega arith) (λ k g. rw l (omega arith)) h

  pub taken_length : length (taken w rs) ≡ length rs
  unfolding taken
  taken_length = each_length _ _ 24 rs

  pub taken_below : Below (2 ^ 32) rs → Below (2 ^ 32) (taken w rs)
  unfolding taken
  taken_below b = each_below _ _ (2 ^ 32) 24 rs (λ k h. below_get (2 ^ 32) rs (ring_place w k) (omega arith) b) b

-- a write below the nesting leaves the nesting, and what is clear clear
set_nesting : (rs : List ℕ) (i v : ℕ) → i < 33 → nesting_of (set rs i v) ≡ nesting_of rs
unfolding nesting_of
set_nesting rs i v l = get_or-set_other rs i 33 v 0 (λ e. omega arith)

set_clear : (rs : List ℕ) (i v : ℕ) → i < 33 → Clear rs → Clear (set rs i v)
set_clear rs i v l c k h =
    rw (set_nesting rs i v l) (get_or-set_other rs i (ring_place (nesting_of rs) k) v 0 (λ e. omega (arith, ring_past (nesting_of rs) k)) ∙ c k h)

pub put_nesting : (rs : List ℕ) (i v : ℕ) → nesting_of (put_register rs i v) ≡ nesting_of rs
unfolding put_register
put_nesting rs i v = set_nesting (set rs (i % 32) v) 0 0 (omega arith) ∙ set_nesting rs (i % 32) v (omega arith)

pub put_clear : (rs : List ℕ) (i v : ℕ) → Clear rs → Clear (put_register rs i v)
unfolding put_register
put_clear rs i v c = set_clear (set rs (i % 32) v) 0 0 (omega arith) (set_clear rs (i % 32) v (omega arith) c)

pub y_nesting : (rs : List ℕ) (v : ℕ) → nesting_of (put_y rs v) ≡ nesting_of rs
unfolding put_y
y_nesting rs v = set_nesting rs 32 v (omega arith)

pub y_clear : (rs : List ℕ) (v : ℕ) → Clear rs → Clear (put_y rs v)
unfolding put_y
y_clear rs v c = set_clear rs 32 v (omega arith) c

-- another window is turned to
module _ (v : ℕ) (rs : List ℕ) where
  abbrev up : List ℕ
  up = taken v (laid rs)

  pub turned_length : length (turned v rs) ≡ length rs
  unfolding turned
  turned_length = length-set (cleared v up) 33 v ∙ cleared_length v up ∙ taken_length v (laid rs) ∙ laid_length rs

  pub turned_below : v < 2 ^ 32 → Below (2 ^ 32) rs → Below (2 ^ 32) (turned v rs)
  unfolding turned
  turned_below h b = below_set (2 ^ 32) (cleared v up) 33 v h (cleared_below v up (taken_below v (laid rs) (laid_below rs b)))

  pub turned_nesting : length rs ≡ file_size → nesting_of (turned v rs) ≡ v
  unfolding turned nesting_of
  turned_nesting l = get_or-set_same (cleared v up) 33 v 0 (omega (arith, l, cleared_length v up, taken_length v (laid rs), laid_length rs))

  pub turned_clear : length rs ≡ file_size → Clear (turned v rs)
  unfolding turned
  turned_clear l k h =
      rw (turned_nesting l) (get_or-set_other (cleared v up) 33 (ring_place v k) v 0 (λ e. omega (arith, ring_past v k))
      ∙ cleared_own v up (taken_length v (laid rs) ∙ laid_length rs ∙ l) k h)

  -- what is below 8, and Y
  pub turned_low : (i : ℕ) → (i < 8) ⊎ (i ≡ 32) → get_or (turned v rs) i 0 ≡ get_or rs i 0
  unfolding turned
  turned_low i (inl h) =
      get_or-set_other (cleared v up) 33 i v 0 (λ e. omega arith) ∙ cleared_low v up i (omega arith) ∙ taken_other v (laid rs) i (inl h) ∙ laid_low rs i (omega arith)
  turned_low i (inr h) =
      get_or-set_other (cleared v up) 33 i v 0 (λ e. omega arith) ∙ cleared_low v up i (omega arith) ∙ taken_other v (laid rs) i (inr (omega arith))
      ∙ laid_low rs i (omega arith)

-- a register that is written and a window that is turned to leave a file as a run has it
pub put_length : (rs : List ℕ) (i v : ℕ) → length (put_register rs i v) ≡ length rs
unfolding put_register
put_length rs i v = length-set (set rs (i % 32) v) 0 0 ∙ length-set rs (i % 32) v

pub put_held : (rs : List ℕ) → Held rs → (i v : ℕ) → Held (put_register rs i v)
put_held rs h i v =
    record {
      whole = put_length rs i v ∙ h.whole;
      zero = put_zero rs i v;
      clear = put_clear rs i v h.clear;
      nesting = rw (put_nesting rs i v) h.nesting;
    }

pub turned_held : (rs : List ℕ) → Held rs → (v : ℕ) → v ≤ 6 → Held (turned v rs)
turned_held rs h v few =
    record {
      whole = turned_length v rs ∙ h.whole;
      zero = turned_low v rs 0 (inl (omega arith)) ∙ h.zero;
      clear = turned_clear v rs h.whole;
      nesting = rw (turned_nesting v rs h.whole) few;
    }

-- ---------------------------------------------------------------- what comes in and what is shown
-- the register at a position, if there is one among the first n of a window
pub data Among (w n i : ℕ) : Type 0 where
  covered : (k : ℕ) → k < n → i ≡ ring_place w k → Among w n i
  free : ((k : ℕ) → k < n → i ≡ ring_place w k → ⊥) → Among w n i

among : (w n i : ℕ) → Among w n i
among w zero i = free (λ k h e. omega arith)
among w (suc n) i = go (eqb i (ring_place w n)) refl (among w n i)
  where
    go : (b : Bool) → eqb i (ring_place w n) ≡ b → Among w n i → Among w (suc n) i
    go true q c = covered n (omega arith) (eqb-true i (ring_place w n) q)
    go false q (covered k h e) = covered k (omega arith) e
    go false q (free f) = free (λ k h e. past k h e (eqb k n) refl)
      where
        past : (k : ℕ) → k < suc n → i ≡ ring_place w k → (t : Bool) → eqb k n ≡ t → ⊥
        past k h e true p = eqb-false i (ring_place w n) q (rw (← eqb-true k n p) e)
        past k h e false p = let d : k ≡ n → ⊥ = eqb-false k n p in f k (omega (arith, d)) e

abbrev pub Covered : ℕ → ℕ → Type 0
Covered w i = Among w 24 i

pub covers : (w i : ℕ) → Covered w i
covers w i = among w 24 i

-- what is shown, with its window's places cleared, is the file again
cleared_laid : (rs : List ℕ) → length rs ≡ file_size → Clear rs → cleared (nesting_of rs) (laid rs) ≡ rs
cleared_laid rs l c =
    ext_get_or 0 (cleared (nesting_of rs) (laid rs)) rs (cleared_length (nesting_of rs) (laid rs) ∙ laid_length rs) (λ i h. same i (covers (nesting_of rs) i))
  where
    same : (i : ℕ) → Covered (nesting_of rs) i → get_or (cleared (nesting_of rs) (laid rs)) i 0 ≡ get_or rs i 0
    same i (covered k h e) = rw e (cleared_own (nesting_of rs) (laid rs) (laid_length rs ∙ l) k h ∙ sym (c k h))
    same i (free f) = cleared_free (nesting_of rs) (laid rs) i f ∙ laid_free rs i f

set_own : (l : List ℕ) (i : ℕ) → set l i (get_or l i 0) ≡ l
set_own [] i = refl
set_own (x ∷ l) zero = refl
set_own (x ∷ l) (suc i) = ap {B = List ℕ} (λ r. x ∷ r) (set_own l i)

own_nesting : (l : List ℕ) → set l 33 (nesting_of l) ≡ l
unfolding nesting_of
own_nesting l = set_own l 33

-- states come back from their bytes, and equal entries are equal states
pub shown_in : (rs : List ℕ) → Held rs → come_in (laid rs) ≡ rs
unfolding come_in nested
shown_in rs h =
    let m : min (nesting_of rs) 6 ≡ nesting_of rs = omega (arith, h.nesting) in
    let n : set (laid rs) 33 (nesting_of rs) ≡ laid rs = rw (laid_nesting rs) at (own_nesting (laid rs)) in
    rw (laid_nesting rs, m, n) (cleared_laid rs h.whole h.clear)

-- the nesting as it counts
abbrev counts : List ℕ → ℕ
counts rs = min (nesting_of rs) 6

module _ (rs : List ℕ) where
  nested_other : (i : ℕ) → (i ≡ 33 → ⊥) → get_or (nested rs) i 0 ≡ get_or rs i 0
  unfolding nested
  nested_other i n = get_or-set_other rs 33 i (counts rs) 0 n

  nested_length : length (nested rs) ≡ length rs
  unfolding nested
  nested_length = length-set rs 33 (counts rs)

  pub in_low : (i : ℕ) → i < 33 → get_or (come_in rs) i 0 ≡ get_or rs i 0
  unfolding come_in
  in_low i h = cleared_low (counts rs) (nested rs) i (omega arith) ∙ nested_other i (λ e. omega arith)

  pub in_nesting : length rs ≡ file_size → nesting_of (come_in rs) ≡ counts rs
  unfolding come_in nested nesting_of
  in_nesting l = cleared_low (min (get_or rs 33 0) 6) (set rs 33 (min (get_or rs 33 0) 6)) 33 (omega arith) ∙ get_or-set_same rs 33 (min (get_or rs 33 0) 6) 0 (omega (arith, l))

  pub in_free : (i : ℕ) → 34 ≤ i → ((k : ℕ) → k < 24 → i ≡ ring_place (counts rs) k → ⊥) → get_or (come_in rs) i 0 ≡ get_or rs i 0
  unfolding come_in
  in_free i h f = cleared_free (counts rs) (nested rs) i f ∙ nested_other i (λ e. omega arith)

  pub in_length : length (come_in rs) ≡ length rs
  unfolding come_in
  in_length = cleared_length (counts rs) (nested rs) ∙ nested_length

  pub in_below : Below (2 ^ 32) rs → Below (2 ^ 32) (come_in rs)
  unfolding come_in nested
  in_below b = cleared_below (counts rs) (set rs 33 (counts rs)) (below_set (2 ^ 32) rs 33 (counts rs) (omega arith) b)

  in_own : length rs ≡ file_size → (k : ℕ) → k < 24 → get_or (come_in rs) (ring_place (counts rs) k) 0 ≡ 0
  unfolding come_in
  in_own l k h = cleared_own (counts rs) (nested rs) (nested_length ∙ l) k h

  pub held_in : length rs ≡ file_size → get_or rs 0 0 ≡ 0 → Held (come_in rs)
  held_in l z =
      record {
        whole = in_length ∙ l;
        zero = in_low 0 (omega arith) ∙ z;
        clear = λ k h. rw (in_nesting l) (in_own l k h);
        nesting = rw (in_nesting l) (omega arith);
      }

-- register 0 may be zeroed before or after
pub in_zeroed : (rs : List ℕ) → set (come_in rs) 0 0 ≡ come_in (set rs 0 0)
unfolding come_in nested cleared
in_zeroed rs =
    let n = min (nesting_of rs) 6 in
    rw (set_nesting rs 0 0 (omega arith), ← set_comm rs 33 0 n 0 (λ e. omega arith))
    (each_set (ring_place n) (λ k. 0) 24 (set rs 33 n) 0 0 (λ k h e. omega (arith, ring_past n k)))

-- what stands at the places of the window that counts makes no difference
pub in_alike : (rs ss : List ℕ) → length rs ≡ file_size → length ss ≡ file_size
    → ((i : ℕ) → ((k : ℕ) → k < 24 → i ≡ ring_place (min (nesting_of rs) 6) k → ⊥) → get_or rs i 0 ≡ get_or ss i 0) → come_in rs ≡ come_in ss
unfolding nesting_of
in_alike rs ss l m same = ext_get_or 0 (come_in rs) (come_in ss) (in_length rs ∙ l ∙ sym (in_length ss ∙ m)) (λ i h. each i (covers (counts rs) i))
  where
    nesting_same : nesting_of rs ≡ nesting_of ss
    nesting_same = same 33 (λ k h g. omega (arith, ring_past (counts rs) k))

    at_33 : get_or (come_in rs) 33 0 ≡ get_or (come_in ss) 33 0
    at_33 = in_nesting rs l ∙ rw nesting_same (sym (in_nesting ss m))

    each : (i : ℕ) → Covered (counts rs) i → get_or (come_in rs) i 0 ≡ get_or (come_in ss) i 0
    each i (covered k h g) = rw g (in_own rs l k h ∙ sym (rw (← nesting_same) at (in_own ss m k h)))
    each i (free f) = go (ltb i 33) (eqb i 33) refl refl
      where
        go : (a b : Bool) → ltb i 33 ≡ a → eqb i 33 ≡ b → get_or (come_in rs) i 0 ≡ get_or (come_in ss) i 0
        go true b p q = let h : i < 33 = ltb-true i 33 p in in_low rs i h ∙ same i f ∙ sym (in_low ss i h)
        go false true p q = rw (eqb-true i 33 q) at_33
        go false false p q =
            let h : 34 ≤ i = omega (arith, ltb-false i 33 p, eqb-false i 33 q) in
            in_free rs i h f ∙ same i f ∙ sym (in_free ss i h (rw nesting_same at f))
