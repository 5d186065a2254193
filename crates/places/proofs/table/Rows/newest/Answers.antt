use Rattle.places.proofs.Chains.{hash_lt}
use native.Mathlib.Omega.{arith}
use Rattle.places.proofs.table.Rows.newest.Goals as goal

pub offset_bounds-self-hash : goal.offset_bounds-self-hash
offset_bounds-self-hash c = omega (arith, hash_lt c.args.x)

pub bounds-self-hash : goal.bounds-self-hash
bounds-self-hash c = omega (arith, hash_lt c.args.x)
