-- Slices are equal exactly where their bytes are the same.
use Prim.Native.Nat.{◌+◌, ◌-◌}
use mathlib.Core.Path.{◌≡◌, ◌∙◌}
use native.Mathlib.Omega.{arith}
use Rattle.entry_same.proofs.SameLaws.{equal_same}
use Rattle.entry_same.proofs.same.same_part.Goals as goal

pub returns : goal.returns
returns c =
    let a = c.args in
    let p : a.p + a.count - a.p ≡ a.count = omega arith in
    let q : a.q + a.count - a.q ≡ a.count = omega arith in
    rw (p, q) at c.eq.ensures ∙ equal_same _ _
