use Rattle.std.proofs.Common.{◌≡◌, take}
use Rattle.numbers.specs.Number.{numbers_of}
use Rattle.numbers.proofs.read_numbers.Given as goal

abbrev pub invariant-loop-i : goal.invariant-loop-i
invariant-loop-i l = take l.i l.list ≡ numbers_of l.bytes l.i
