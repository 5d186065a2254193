-- What a case of each kind finds.
use Rattle.std.specs.Prelude.{ℕ, ◌+◌, min, List, replicate}
use Rattle.cases.specs.declared.Core.{Core}
use Rattle.cases.specs.declared.Core.TheVariants.{Old, New, Trail}
use Rattle.cases.specs.declared.Kind.{Kind}
use Rattle.cases.specs.declared.Kind.TheVariants.{Runs, Translation, Listing, Words}
use Rattle.case_files.specs.declared.Found.{Found}
use Rattle.case_files.specs.Files.{number_in, Checked}
use Rattle.run_cases.specs.Runs.{old_found, new_found}
use Rattle.run_cases.specs.Trails.{trail_found}
use Rattle.answer_cases.specs.Translations.{translation_found}
use Rattle.answer_cases.specs.Listings.{listed_found}
use Rattle.answer_cases.specs.Words.{word_found}

-- how far into a core's case the number stands that counts its data
unfoldable pub size_at : Core → ℕ
size_at Old = 16
size_at New = 24
size_at Trail = 16

-- a core's case over an area
unfoldable pub ran_in : Core → List ℕ → ℕ → List ℕ → Checked
ran_in Old bytes at area = old_found bytes at area
ran_in New bytes at area = new_found bytes at area
ran_in Trail bytes at area = trail_found bytes at area

-- over zeros, as many as the case's data has bytes, and at most 65,552
unfoldable pub ran : Core → List ℕ → ℕ → Found
ran core bytes at = (ran_in core bytes at (replicate (min (number_in bytes (at + size_at core)) 65552) 0)).verdict

-- the verdict on the case at a position
unfoldable pub found : Kind → List ℕ → ℕ → Found
found (Runs core) bytes at = ran core bytes at
found Translation bytes at = translation_found bytes at
found Listing bytes at = listed_found bytes at
found Words bytes at = word_found bytes at
