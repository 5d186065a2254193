-- Laws of lists that are counted up: f 0, f 1, .. without f n.
use Rattle.numbers.specs.Number.{up_to}
use Rattle.std.proofs.Common.{◌≡◌, ℕ, zero, suc, ◌<◌, ◌≤◌, List, [], ◌∷◌, length, get_or, drop, sym, refl, ap, ◌∙◌, ⊎_elim, le_of_suc-le-suc, eq-or-lt_of_le, arith, length-append, drop_of_length-le, drop-cons, ext_get_or}
use lib.Seq.{drop-nil, get_or_at}
use lib.ListN.{get_or-append, get_elem?}
use mathlib.Core.Option.{none, some}

module _ {A : Type 0} (f : ℕ → A) where
  pub length_up : (n : ℕ) → length (up_to f n) ≡ n
  unfolding up_to
  length_up zero = refl
  length_up (suc n) = simp (length-append, length_up n) (omega arith)

  pub get_up : (n i : ℕ) (d : A) → i < n → get_or (up_to f n) i d ≡ f i
  unfolding up_to
  get_up zero i d h = absurd (omega arith)
  get_up (suc n) i d h =
      ⊎_elim (λ (e : i ≡ n). rw e (get_or_at (up_to f n) (f n) [] d n (length_up n)))
      (λ (k : i < n). let l : i < length (up_to f n) = simp length_up k in
      get_or-append (up_to f n) (f n ∷ []) d i l ∙ get_up n i d k)
      (eq-or-lt_of_le (le_of_suc-le-suc h))

  -- one element, and those after it
  pub drop_up : (n i : ℕ) → i < n → drop i (up_to f n) ≡ f i ∷ drop (suc i) (up_to f n)
  drop_up n i h =
      let l : i < length (up_to f n) = simp length_up h in
      drop-cons (up_to f n) i (f i) l ∙ ap (λ (x : A). x ∷ drop (suc i) (up_to f n)) (get_up n i (f i) h)

  pub drop_all_up : (n i : ℕ) → n ≤ i → drop i (up_to f n) ≡ []
  drop_all_up n i h = drop_of_length-le (up_to f n) {i = i} (simp length_up h)

-- an element by its index, or none past the end
found : {A : Type 0} (l : List A) (i : ℕ) (a : A) (rest : List A) → drop i l ≡ a ∷ rest → get_elem? l i ≡ some a
found [] i a rest h = let z : ◌≡◌ {A = List _} [] (a ∷ rest) = sym (drop-nil i) ∙ h in let w : ◌≡◌ {A = ℕ} 0 1 = cc in absurd (omega arith)
found (x ∷ l) zero a rest h = let e : x ≡ a = cc in rw e
found (x ∷ l) (suc i) a rest h = found l i a rest h

missing : {A : Type 0} (l : List A) (i : ℕ) → drop i l ≡ [] → get_elem? l i ≡ none
missing [] i h = refl
missing (x ∷ l) zero h = let w : ◌≡◌ {A = ℕ} 0 1 = cc in absurd (omega arith)
missing (x ∷ l) (suc i) h = missing l i h

pub at_up : {A : Type 0} (f : ℕ → A) (n i : ℕ) → i < n → get_elem? (up_to f n) i ≡ some (f i)
at_up f n i h = found (up_to f n) i (f i) (drop (suc i) (up_to f n)) (drop_up f n i h)

pub past_up : {A : Type 0} (f : ℕ → A) (n i : ℕ) → n ≤ i → get_elem? (up_to f n) i ≡ none
past_up f n i h = missing (up_to f n) i (drop_all_up f n i h)

-- counted up by what stands at each index, a list comes back
pub up_list : {A : Type 0} (d : A) (f : ℕ → A) (l : List A) → ((i : ℕ) → i < length l → f i ≡ get_or l i d) → up_to f (length l) ≡ l
up_list d f l h =
    ext_get_or d (up_to f (length l)) l (length_up f (length l))
    (λ i b. let k : i < length l = rw (length_up f (length l)) at b in get_up f (length l) i d k ∙ h i k)
