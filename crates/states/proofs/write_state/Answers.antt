use Prim.Native.Nat.{◌-◌}
use native.Mathlib.Omega.{arith}
use mathlib.Core.Path.{◌≡◌, refl, sym}
use lib.ListN.{length, take, drop, length-drop}
use lib.Seq.{length-take-le, take_all}
use Rattle.states.proofs.Filled.{fill_state}
use Rattle.states.proofs.write_state.Goals as goal

pub slice_bounds-write_numbers-end : goal.slice_bounds-write_numbers-end
slice_bounds-write_numbers-end c = sym (length-take-le 32 c.args.regs.now (omega (arith, c.requires.0)))

pub write_numbers-requires : goal.write_numbers-requires
write_numbers-requires c = let e = length-take-le 32 c.args.regs.now (omega (arith, c.requires.0)) in omega (arith, e)

pub returns : goal.returns
returns c =
    let r = c.args.regs.now in
    let d = length-drop 32 r in
    let e = length-take-le 32 r (omega (arith, c.requires.0)) in
    let all : take (length r - 32) (drop 32 r) ≡ drop 32 r = take_all (length r - 32) (drop 32 r) (omega (arith, d)) in
    fill_state c.args.bytes.now c.write_numbers.new.bytes _ _ (take 32 r) c.args.rest.now (drop 32 r) _
    e refl (omega (arith, d, c.requires)) c.write_numbers.ensures
    c.write_numbers-2.ensures
    (rw all at c.write_numbers-3.ensures)
