-- A turn stores one byte.
-- Assumes nothing.
use Prim.Native.Nat.{suc, ◌+◌}
use mathlib.Core.Path.{◌≡◌, refl}
use native.Mathlib.Omega.{arith}
use lib.ListN.{length-set}
use lib.Seq.{drop-cons}
use Rattle.numbers.proofs.little_endian.put_bytes.Goals as goal

pub loop-i-preserved : goal.loop-i-preserved
loop-i-preserved g c =
    let l = c.loop-i in
    let a = c.args in
    let i1 : a.at + (l.i + 1) ≡ suc (a.at + l.i) = omega arith in
    let j1 : l.i + 1 ≡ suc l.i = omega arith in
    (simp length-set l.invariant.0, rw (i1, j1, ← l.invariant.1, drop-cons a.bytes l.i 0 (omega arith)) refl)
