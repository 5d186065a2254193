-- Laws of the listing: what is put is the listing, by the length of what was read.
use native.Mathlib.Nat.{zero-add}
use borrow.Author.Tests.{lt-ltb, le-ltb}
use lib.ListN.{length, length-append}
use native.Mathlib.Omega.{arith}
use mathlib.Core.List.{List, [], ◌∷◌}
use mathlib.Core.Path.{◌≡◌, ap, ◌∙◌}
use Prim.Native.Nat.{ℕ, ◌≤◌, ◌<◌}
use Rattle.model.specs.Translation.{Answer, translation}
use Rattle.listing.specs.Listing.{entry_zero, refusal_text, answer_text, listed, listing_of, Listed}
use Rattle.listing.specs.Text.{Written, inserted}
use Rattle.translator.specs.Handing.{handed}

pub listing_long : (bytes : List ℕ) → 1024 < length bytes → refusal_text (1 ∷ 1025 ∷ []) ≡ listing_of bytes
unfolding listing_of
listing_long bytes h = rw (lt-ltb 1024 (length bytes) h)

pub listing_short : (bytes : List ℕ) {a : Answer} {p r : List ℕ} → length bytes ≤ 1024 → handed a p r ≡ translation bytes 0 entry_zero 8192 12288
    → answer_text a p r ≡ listing_of bytes
unfolding listing_of
listing_short bytes h t = rw (le-ltb 1024 (length bytes) h) (ap listed t)

pub listed_as : {bytes out out1 text : List ℕ} {m r : ℕ} → text ≡ listing_of bytes → Written out 0 text m out1 r → Listed bytes out out1 r
unfolding inserted
listed_as e w =
    record {
      text = rw (← e) w.bytes;
      count = rw (← e) (w.end ∙ zero-add _);
      fits = rw w.bytes (simp length-append (omega (arith, w.end)));
    }
