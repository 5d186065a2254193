use Rattle.groups.proofs.Putting.{record_put}
use Rattle.model.specs.Records.{records_numbers}
use native.Mathlib.Omega.{arith}
use mathlib.Core.Path.{◌≡◌, refl}
use Prim.Native.Nat.{◌+◌, ◌*◌}
use Rattle.groups.proofs.records.Records.push.Goals as goal

pub returns : goal.returns
unfolding records_numbers
returns c =
    let k : 3 * (c.args.self.now.count + 1) ≡ 3 * c.args.self.now.count + 3 = omega arith in
    record {
      reaches = refl;
      numbers = rw (k, c.write_number-3.ensures, c.write_number-2.ensures, c.write_number.ensures, ← c.numbers_of-kind.ensures) (record_put _ _ _ _ _ (omega arith) (omega arith) (omega arith) (omega arith));
      size = omega arith;
      lent = refl;
    }
