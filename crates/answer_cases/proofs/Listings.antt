-- A listing that is the definition's, compared part by part, has the definition's verdict.
use mathlib.Core.Bool.{Bool, ◌&&◌}
use mathlib.Core.List.{List}
use mathlib.Core.Path.{◌≡◌}
use lib.Dec.{eqb}
use Prim.Native.Nat.{ℕ, ◌+◌}
use Rattle.listing.specs.Listing.{Listed}
use Rattle.case_files.specs.declared.Found.{Found}
use Rattle.case_files.specs.Files.{number_in, part_of, padded_to, holding, one_entry}
use Rattle.answer_cases.specs.Listings.{listed_in}

pub listed_found_lem : (held out bytes : List ℕ) (at : ℕ) {input text : List ℕ} {extent size pad more tag n : ℕ} {s : Bool} {f : Found}
    → f ≡ one_entry (at + 12 + pad + more) (eqb tag 1279873876 && eqb n size && s) → s ≡ holding out text 165 → Listed input held out n
    → input ≡ part_of bytes (at + 12) extent → text ≡ part_of bytes (at + 12 + pad) size → pad ≡ padded_to extent → more ≡ padded_to size
    → tag ≡ number_in bytes at → size ≡ number_in bytes (at + 8) → extent ≡ number_in bytes (at + 4) → f ≡ listed_in held bytes at
unfolding listed_in
listed_found_lem held out bytes at f s l i t p q g z e = rw (f, s, l.text, l.count, i, t, p, q, g, z, e)
