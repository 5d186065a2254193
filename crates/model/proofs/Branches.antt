-- A Bicc by its condition: what that says before it is run, and what the branch names.
use Prim.Native.Nat.{ℕ}
use mathlib.Core.Path.{◌≡◌, refl}
use mathlib.Core.Bool.{Bool, true, false}
use mathlib.Core.List.{[], ◌∷◌}
use borrow.Author.Tests.{ne_eqb}
use Rattle.numbers.specs.Choice.{pick}
use Rattle.numbers.specs.Number.{plus}
use Rattle.model.specs.declared.Place.TheVariants.{Pair}
use Rattle.model.specs.Places.{plain, never, always, depends, which_of, bicc_names}

-- what a condition says before it is run
pub which_never : {cond : ℕ} → cond ≡ 0 → which_of cond ≡ never
unfolding which_of
which_never e = rw e

pub which_always : {cond : ℕ} → cond ≡ 8 → which_of cond ≡ always
unfolding which_of
which_always e = rw e

pub which_depends : {cond : ℕ} → (cond ≡ 0 → ⊥) → (cond ≡ 8 → ⊥) → which_of cond ≡ depends
unfolding which_of
which_depends {cond} h k = rw (ne_eqb cond 0 h, ne_eqb cond 8 k)

-- what is the same with annul and without, but for where the branch goes on if it is not taken
pub by_annul : {A : Type 0} (f : Bool → A) (g : ℕ → A) (n : ℕ) → f true ≡ g (plus n 4) → f false ≡ g n → (annul : Bool) → f annul ≡ g (pick annul (plus n 4) n)
by_annul f g n t u true = t
by_annul f g n t u false = u

-- what a branch names, by its condition
module _ (cond : ℕ) (annul : Bool) (t n : ℕ) where
  pub never_names : cond ≡ 0 → bicc_names (which_of cond) annul t n ≡ plain (pick annul (plus n 4) n) ∷ []
  unfolding bicc_names
  never_names e = rw (which_never e) (by_annul (λ b. bicc_names never b t n) (λ m. plain m ∷ []) n refl refl annul)

  pub always_names : cond ≡ 8 → annul ≡ false → bicc_names (which_of cond) annul t n ≡ Pair n t ∷ []
  unfolding bicc_names
  always_names e a = rw (which_always e, a)

  pub always_annuls : cond ≡ 8 → annul ≡ true → bicc_names (which_of cond) annul t n ≡ plain t ∷ []
  unfolding bicc_names
  always_annuls e a = rw (which_always e, a)

  pub depends_names : (cond ≡ 0 → ⊥) → (cond ≡ 8 → ⊥) → bicc_names (which_of cond) annul t n ≡ plain (pick annul (plus n 4) n) ∷ Pair n t ∷ []
  unfolding bicc_names
  depends_names h k =
      rw (which_depends h k) (by_annul (λ b. bicc_names depends b t n) (λ m. plain m ∷ Pair n t ∷ []) n refl refl annul)
