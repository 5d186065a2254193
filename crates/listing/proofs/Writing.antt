-- Laws of text put into a buffer, piece by piece.
use lib.Seq.{drop-drop, take_at, length-take-le, drop-append-add}
use lib.ListN.{length, take, drop, length-append, take-append-drop}
use lib.Dec.{T}
use native.Mathlib.Nat.{add-zero}
use native.Mathlib.Omega.{arith}
use mathlib.Core.List.{List, [], ◌++◌, append_assoc, append-nil}
use mathlib.Core.Path.{◌≡◌, sym, ap, ◌∙◌}
use Prim.Native.Nat.{ℕ, ◌+◌, ◌≤◌}
use Rattle.listing.specs.Text.{inserted, Written, Put}
use Rattle.listing.specs.declared.text.Text.{Text}

pub inserted_none : (out : List ℕ) (at : ℕ) → inserted out at [] ≡ out
unfolding inserted
inserted_none out at = rw (add-zero at, append-nil (take at out)) (take-append-drop at out)

pub inserted_more : (out : List ℕ) (at : ℕ) (a b : List ℕ) → at ≤ length out
    → inserted (inserted out at a) (at + length a) b ≡ inserted out at (a ++ b)
unfolding inserted
inserted_more out at a b h =
    let p = take at out ++ a in
    let q = drop (at + length a) out in
    let n : length p ≡ at + length a = simp (length-append, length-take-le at out h) in
    let t : take (at + length a) (p ++ q) ≡ p = take_at p q (at + length a) n in
    let k : at + length a + length b ≡ at + (length a + length b) = omega arith in
    let d : drop (at + length a + length b) (p ++ q) ≡ drop (at + (length a + length b)) out =
    (rw n at (drop-append-add p q (length b))) ∙ drop-drop (length b) (at + length a) out ∙ ap (λ (j : ℕ). drop j out) k in
    rw (t, d, length-append a b) (simp append_assoc)

-- a text and another behind it
pub written_more : {out out1 out2 a b : List ℕ} {at m n k r : ℕ} → at ≤ length out → Written out at a m out1 k → Written out1 k b n out2 r
    → Written out at (a ++ b) (m + n) out2 r
written_more {out} {out1} {out2} {a} {b} {at} h x y =
    record {
      bytes = y.bytes ∙ rw (x.bytes, x.end) (inserted_more out at a b h);
      end = y.end ∙ rw (x.end, length-append a b) (omega arith);
      fits = simp length-append (omega (arith, x.fits, y.fits));
      kept = y.kept ∙ x.kept;
    }

-- the rest of a text after a piece of it
pub goes_on : {out out1 a : List ℕ} {k k1 m : ℕ} (rest T : List ℕ) (N : ℕ) → k ≤ length out → Written out k a m out1 k1
    → inserted out k (a ++ rest) ≡ T → k + length (a ++ rest) ≡ N → (inserted out1 k1 rest ≡ T) × (k1 + length rest ≡ N)
goes_on {out} {out1} {a} {k} rest T N h x e l =
    (rw (x.bytes, x.end) (inserted_more out k a rest h ∙ e), rw x.end (omega (arith, length-append a rest)))

pub written_end : {out out1 : List ℕ} {at most r : ℕ} (text : List ℕ) → inserted out1 r [] ≡ inserted out at text → r + 0 ≡ at + length text → r ≤ at + most
    → length out1 ≡ length out → Written out at text most out1 r
written_end {out} {out1} {at} {most} {r} text e l f k =
    record { bytes = sym (inserted_none out1 r) ∙ e; end = omega arith; fits = omega arith; kept = k }

-- the same of a text that holds its buffer
pub put_more : {a b c : Text} {t u : List ℕ} {m n : ℕ} → a.len ≤ length a.out.now → Put a t m b → Put b u n c → Put a (t ++ u) (m + n) c
put_more h x y =
    record { same_reference = y.same_reference ∙ x.same_reference; written = written_more h x.written y.written }

pub put_within : {a b : Text} {t : List ℕ} {m n : ℕ} → length t ≤ n → Put a t m b → Put a t n b
put_within h x =
    let w = x.written in
    record { same_reference = x.same_reference; written = record { bytes = w.bytes; end = w.end; fits = h; kept = w.kept } }
