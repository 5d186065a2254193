use native.Mathlib.Omega.{arith}
use Prim.Native.Nat.{◌-◌}
use mathlib.Core.Path.{◌≡◌, sym, ◌∙◌}
use lib.ListN.{length, drop, length-drop}
use lib.Seq.{length-take-le}
use Rattle.machine.specs.Registers.{file_size}
use Rattle.states.proofs.Filled.{behind_count, file_read}
use Rattle.states.proofs.read_file.Goals as goal

pub slice_bounds-read_numbers-end-2 : goal.slice_bounds-read_numbers-end-2
slice_bounds-read_numbers-end-2 c = sym (length-take-le 32 c.args.regs.now (omega (arith, c.requires.2)))

pub read_numbers-requires : goal.read_numbers-requires
read_numbers-requires c = let e = length-take-le 32 c.args.regs.now (omega (arith, c.requires.2)) in omega (arith, e)

pub returns : goal.returns
returns c =
    let r = c.args.regs.now in
    let e = length-take-le 32 r (omega (arith, c.requires.2)) in
    let t : length (drop 32 r) ≡ file_size - 32 = length-drop 32 r ∙ omega (arith, c.requires.2) in
    let p = rw e at c.read_numbers.ensures in
    file_read _ (drop 32 r) _ c.args.behind t p _ (behind_count _ (drop 32 r) _ c.args.behind t p) _ c.read_numbers-2.ensures
