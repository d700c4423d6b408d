-- What was filled, as a run of stores.
-- Assumes nothing.
use Prim.Native.Nat.{◌+◌, ◌-◌, min}
use mathlib.Core.Path.{◌≡◌, refl}
use native.Mathlib.Omega.{arith}
use lib.ListN.{length, drop, replicate, length-take, length-drop, length-replicate}
use Rattle.lists.proofs.PartLaws.{put-whole}
use Rattle.copy.proofs.put_same.Goals as goal

pub returns : goal.returns
returns c =
    let a = c.args in
    let m : min (a.at + a.count - a.at) (length a.out.now - a.at) ≡ a.count = omega arith in
    let l : a.at + length (replicate a.count a.byte) ≡ a.at + a.count = rw (length-replicate a.count a.byte) refl in
    let after = rw (length-take (a.at + a.count - a.at) (drop a.at a.out.now), length-drop a.at a.out.now, m) at c.fill.ensures.after (λ y e. e) in
    (refl, put-whole a.out.now (replicate a.count a.byte) _ a.at _ after l c.requires)
