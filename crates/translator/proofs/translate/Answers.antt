use native.Mathlib.Omega.{arith}
use Rattle.model.specs.declared.Counts.{Counts}
use Rattle.std.specs.Result.{result_unwrap_or}
use Rattle.model.specs.Translation.{Answer}
use mathlib.Core.Path.{◌≡◌, ap}
use Rattle.std.specs.Prelude.{Ok, Err, length}
use Rattle.translator.specs.Handing.{places_counted, records_counted}
use Rattle.translator.proofs.Handed.{counted_fits, handed_back}
use Rattle.translator.proofs.translate.Goals as goal

-- what a refusal is read as counts nothing
abbrev none : Counts
none = record { places = 0; records = 0 }

counted : (a : Answer) (k : Counts) → k ≡ result_unwrap_or a none → (k.places ≡ places_counted a) × (k.records ≡ records_counted a)
unfolding places_counted records_counted
counted (Ok c) k e = (ap (λ (x : Counts). x.places) e, ap (λ (x : Counts). x.records) e)
counted (Err r) k e = (ap (λ (x : Counts). x.places) e, ap (λ (x : Counts). x.records) e)

pub clear_from-requires : goal.clear_from-requires
clear_from-requires c =
    let f = counted_fits c.args.image.now c.args.base c.args.entries.now (length c.args.places.now) (length c.args.records.now) c.attempt-answer.ensures in
    let k = counted c.attempt-answer.result c.unwrap_or-counted.result c.unwrap_or-counted.ensures in omega (arith, f.0, k.0)

pub clear_from-requires-2 : goal.clear_from-requires-2
clear_from-requires-2 c =
    let f = counted_fits c.args.image.now c.args.base c.args.entries.now (length c.args.places.now) (length c.args.records.now) c.attempt-answer.ensures in
    let k = counted c.attempt-answer.result c.unwrap_or-counted.result c.unwrap_or-counted.ensures in omega (arith, f.1, k.1)

pub returns : goal.returns
returns c =
    let k = counted c.attempt-answer.result c.unwrap_or-counted.result c.unwrap_or-counted.ensures in
    rw (c.clear_from.ensures, c.clear_from-2.ensures)
    (handed_back _ _ _ _ _ _ _ _ _ _ (omega arith) (omega arith) c.attempt-answer.ensures k.0 k.1 (λ i. (c.slice_known-3-1.given i).fits) (λ i. (c.slice_known-4-1.given i).fits))
