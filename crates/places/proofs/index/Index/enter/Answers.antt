use Rattle.places.proofs.Chains.{hash_lt}
use native.Mathlib.Omega.{arith}
use Rattle.places.proofs.index.Index.enter.Goals as goal

pub offset_bounds-self-h : goal.offset_bounds-self-h
offset_bounds-self-h c = omega (arith, hash_lt c.args.x)

pub bounds-self-h : goal.bounds-self-h
bounds-self-h c = omega (arith, hash_lt c.args.x)

pub offset_bounds-self-h-2 : goal.offset_bounds-self-h-2
offset_bounds-self-h-2 c = omega (arith, hash_lt c.args.x)

pub bounds-self-h-2 : goal.bounds-self-h-2
bounds-self-h-2 c = omega (arith, hash_lt c.args.x)
