-- Of a conditional branch's two followers, new together, the fall-through has the smaller number.
use Prim.Native.Nat.{ℕ, ◌+◌}
use native.Mathlib.Omega.{arith}
use mathlib.Core.Path.{◌≡◌, ap}
use mathlib.Core.Bool.{false}
use mathlib.Core.List.{List, [], ◌∷◌, ◌++◌, append_assoc}
use lib.ListN.{length, length-append}
use borrow.Author.Tests.{lt-ltb}
use Rattle.model.specs.declared.Place.{Place}
use Rattle.model.specs.OldCore.{transfer_of, target}
use Rattle.model.specs.Places.{same_place, member, names, names_at, followers}
use Rattle.model.specs.Walk.{table, grow}
use Rattle.model.specs.FallThroughFirst.{TwoNew, FallThroughFirst}
use Rattle.model.proofs.Members.{not_mem}
use Rattle.model.proofs.Branches.{depends_names}

-- a place that is new stays so where another one is added
still_new : (ps : List Place) (x y : Place) → member ps y ≡ false → same_place x y ≡ false → member (ps ++ (x ∷ [])) y ≡ false
unfolding member
still_new [] x y h d = rw d
still_new (z ∷ zs) x y h d = let k = not_mem z zs y h in rw k.0 (still_new zs x y k.1 d)

-- two new places take the next two numbers, in their order
grow_two : (cap : ℕ) (ps : List Place) (x y : Place) → TwoNew cap ps x y → grow cap ps (x ∷ y ∷ []) ≡ table (ps ++ (x ∷ y ∷ []))
unfolding grow
grow_two cap ps x y t =
    rw (
      t.first_new,
      lt-ltb (length ps) cap (omega (arith, t.room)),
      still_new ps x y t.second_new t.apart,
      length-append ps (x ∷ []),
      lt-ltb (length ps + 1) cap (omega (arith, t.room)),
    ) (ap table (append_assoc ps (x ∷ []) (y ∷ [])))

pub fall_through_first : FallThroughFirst
unfolding FallThroughFirst followers names_at names transfer_of
fall_through_first image base p n word cond annul disp w i h k cap ps t =
    rw (w, i, depends_names cond annul (target p disp) n h k) (grow_two cap ps _ _ t)
