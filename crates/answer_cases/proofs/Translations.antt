-- Laws of a translator's cases: what is handed back is what the case finds.
use mathlib.Core.List.{List}
use mathlib.Core.Path.{◌≡◌, ap, ◌∙◌}
use Prim.Native.Nat.{ℕ, ◌+◌, min}
use Rattle.model.specs.Translation.{Back, returned, translation}
use Rattle.case_files.specs.declared.Found.{Found}
use Rattle.case_files.specs.Files.{number_in}
use Rattle.answer_cases.specs.Translations.{CheckedBoth, checked_both, image_of, base_of, entries_of, back_found, translation_in, translation_found}

module _ (bytes : List ℕ) (at n m : ℕ) where
  pub found_back : (image entries : List ℕ) (base : ℕ) {b : Back} {v : CheckedBoth} → image ≡ image_of bytes at → base ≡ base_of bytes at
      → entries ≡ entries_of bytes at → b ≡ returned (translation image base entries n m) → v ≡ back_found bytes at n m b
      → v ≡ translation_in bytes at n m
  unfolding translation_in
  found_back image entries base i j k h e = e ∙ ap (back_found bytes at n m) (rw (i, j, k) at h)

  pub found_in : {k l : ℕ} {r : Found} {places records : List ℕ} → n ≡ min k 131104 → k ≡ number_in bytes (at + 16) → m ≡ min l 196608
      → l ≡ number_in bytes (at + 20) → checked_both r places records ≡ translation_in bytes at n m → r ≡ translation_found bytes at
  unfolding translation_found
  found_in h i j k e = rw (h, i, j, k) at (ap (λ (v : CheckedBoth). v.verdict) e)
