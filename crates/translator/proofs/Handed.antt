-- Laws of what is handed back: refusals, acceptance, and the buffers after they are cleared.
use Rattle.numbers.proofs.Areas.{bytes_of_numbers}
use Rattle.numbers.specs.Number.{up_to, numbers_of, bytes_of, zero_from}
use Rattle.model.specs.declared.Place.{Place}
use Rattle.places.proofs.Rows.{length_places}
use Rattle.places.specs.Table.{places_in}
use Rattle.groups.proofs.Laying.{first_laid}
use Rattle.groups.proofs.Putting.{records_same, records_length}
use Rattle.groups.specs.Layout.{first_in, Laid}
use borrow.Author.Tests.{le-leb, lt-leb}
use lib.Seq.{length-take-le}
use lib.ListN.{length, get_or, take, replicate}
use native.Mathlib.Nat.{sub-zero}
use native.Mathlib.Omega.{arith}
use mathlib.Core.List.{List}
use mathlib.Core.Path.{◌≡◌, refl, sym, ap, ◌∙◌}
use Prim.Native.Nat.{ℕ, ◌*◌, ◌/◌, ◌≤◌, ◌<◌}
use Rattle.model.specs.Translation.{Answer, accepted, Handed, filled, refusal, acceptance, from_walk, translation}
use Rattle.model.proofs.Accepted.{took}
use Rattle.model.specs.Walk.{table}
use Rattle.model.specs.Records.{in_full, rows_of, records_of, records_from, records_numbers, first}
use Rattle.std.specs.Prelude.{Ok, Err}
use Rattle.model.specs.declared.Refusal.{Refusal}
use Rattle.model.specs.declared.Refusal.TheVariants.{RecordsShort}
use Rattle.model.specs.declared.Refusal.TheVariants as Refusal·
use Rattle.walks.specs.declared.worklist.Refused.{Refused}
use Rattle.walks.specs.declared.worklist.Refused.TheVariants.{Forbidden, NoRoom}
use Rattle.walks.specs.Walk.{seen, refusal_of}
use Rattle.translator.specs.Handing.{places_counted, records_counted, handed, cleared}

nothing_filled : (l : List ℕ) (n size : ℕ) → n ≡ 0 → filled (numbers_of l n) size ≡ replicate size 0
unfolding filled numbers_of up_to bytes_of
nothing_filled l n size e = rw (e, sub-zero size)

-- what is answered, with the buffers t and s
module _ (pl rl : ℕ) (t s : List ℕ) (lt : length t ≡ pl) (ls : length s ≡ rl) where
  -- a refusal counts nothing
  pub refused_as : (e : Refusal) → cleared (Err e) t s ≡ refusal pl rl e
  unfolding refusal places_counted records_counted
  refused_as e = rw (nothing_filled t 0 (length t) refl, nothing_filled s 0 (length s) refl, lt, ls)

  module _ (image : List ℕ) (base : ℕ) (ps : List Place) (count r : ℕ) (d : Laid (in_full image base) ps count t r) where
    all_of : (f : Place → ℕ) → length (records_from (in_full image base) f ps) ≡ r
    all_of f = records_length (in_full image base) f ps ∙ sym d.all

    pub finish_short : rl / 12 < r → cleared (Err (RecordsShort r)) t s ≡ from_walk image base pl rl (table ps)
    unfolding from_walk records_of places_counted records_counted
    finish_short h = rw (all_of (first (in_full image base) ps), lt-leb r (rl / 12) h) (refused_as (RecordsShort r))

    pub finish_whole : r ≤ rl / 12 → numbers_of s (3 * r) ≡ records_numbers (records_from (in_full image base) (first_in t count r) (places_in t count))
        → cleared (accepted count r) t s ≡ from_walk image base pl rl (table ps)
    unfolding from_walk records_of rows_of acceptance places_counted records_counted
    finish_whole h e =
        let n : length ps ≡ count = ap length (sym d.kept) ∙ length_places t count in
        let f : records_from (in_full image base) (first_in t count r) (places_in t count) ≡ records_from (in_full image base) (first (in_full image base) ps) ps =
        rw d.kept (records_same (in_full image base) ps (first_laid (in_full image base) ps count t r d)) in
        rw (all_of (first (in_full image base) ps), le-leb r (rl / 12) h, n, d.numbers, e, f, lt, ls)

  -- a walk that was refused
  pub ends_refused : (image : List ℕ) (base : ℕ) (e : Refused) (ps : List Place)
      → cleared (Err (refusal_of e)) t s ≡ from_walk image base pl rl (seen (Err e) ps)
  unfolding from_walk seen refusal_of
  ends_refused image base (Forbidden a) ps = refused_as (Refusal·.Forbidden a)
  ends_refused image base (NoRoom a) ps = refused_as (Refusal·.NoRoom a)

-- what an answer counts lies in the buffers
module _ (image : List ℕ) (base : ℕ) (entries : List ℕ) (pl rl : ℕ) where
  answer_fits : (a : Answer) → a ≡ (translation image base entries pl rl).answer → (16 * places_counted a ≤ pl) × (12 * records_counted a ≤ rl)
  unfolding places_counted records_counted
  answer_fits (Ok c) e = let t = took image base entries pl rl c.places c.records (sym e) in (t.place_room_lem, t.record_room)
  answer_fits (Err r) e = (omega arith, omega arith)

  pub counted_fits : {a : Answer} {t s : List ℕ} → handed a t s ≡ translation image base entries pl rl
      → (16 * places_counted a ≤ pl) × (12 * records_counted a ≤ rl)
  counted_fits {a} e = answer_fits a (ap (λ (h : Handed). h.answer) e)

-- a buffer that is cleared past its numbers
cleared_past : (l : List ℕ) (n : ℕ) → 4 * n ≤ length l → ((i : ℕ) → get_or l i 0 < 256) → zero_from (4 * n) l ≡ filled (numbers_of l n) (length l)
unfolding zero_from filled
cleared_past l n h b =
    let e : bytes_of (numbers_of l n) ≡ take (4 * n) l = bytes_of_numbers l n h b in
    let k : length (take (4 * n) l) ≡ 4 * n = length-take-le (4 * n) l h in
    rw (e, k)

pub handed_back : (image : List ℕ) (base : ℕ) (entries : List ℕ) (pl rl : ℕ) (a : Answer) (t s : List ℕ) (n m : ℕ) → length t ≡ pl → length s ≡ rl
    → cleared a t s ≡ translation image base entries pl rl → n ≡ places_counted a → m ≡ records_counted a
    → ((i : ℕ) → get_or t i 0 < 256) → ((i : ℕ) → get_or s i 0 < 256)
    → handed a (zero_from (16 * n) t) (zero_from (12 * m) s) ≡ translation image base entries pl rl
handed_back image base entries pl rl a t s n m lt ls x en em bt bs =
    let f = counted_fits image base entries pl rl x in
    let kt : 16 * n ≡ 4 * (4 * places_counted a) = omega arith in
    let ks : 12 * m ≡ 4 * (3 * records_counted a) = omega arith in
    let et = cleared_past t (4 * places_counted a) (omega (arith, f.0)) bt in
    let es = cleared_past s (3 * records_counted a) (omega (arith, f.1)) bs in
    rw (kt, ks, et, es) x
