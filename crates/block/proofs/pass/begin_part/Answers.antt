-- By whether the signal has stream bytes.
-- Assumes nothing.
use Prim.Native.Nat.{◌+◌}
use mathlib.Core.Path.{◌≡◌, sym}
use native.Mathlib.Omega.{arith}
use lib.ListN.{length-set}
use Rattle.value.specs.Class.{class_number}
use Rattle.block.specs.Passes.{next_part}
use Rattle.block.proofs.PassLaws.{begun-absent, next-part, begun-part}
use Rattle.block.proofs.pass.begin_part.Goals as goal
use Rattle.block.proofs.pass.begin_part.Goals.{Else-n-eq0}

-- the place after the part
next : (c : goal.Else-n-eq0) → let a = c.args in next_part a.o a.g a.tail.now ≡ a.o + 1 + c.kept_for-n.result
next c = let a = c.args in next-part a.o a.g _ a.tail.now c.kept_for-n.ensures c.if-n-eq0.false

pub returns-then-n-eq0 : goal.returns-then-n-eq0
returns-then-n-eq0 c =
    let a = c.args in
    begun-absent a.d a.o a.g (class_number a.top) _ a.tail.now c.kept_for-n.ensures c.if-n-eq0.true

pub overflow_add-tail : goal.overflow_add-tail
overflow_add-tail c = omega (arith, next (goal.at.overflow_add-tail c).Else-n-eq0)

pub bounds-tail-d : goal.bounds-tail-d
bounds-tail-d c = omega (arith, next (goal.at.bounds-tail-d c).Else-n-eq0)

pub overflow_add-o : goal.overflow_add-o
overflow_add-o c = omega (arith, next (goal.at.overflow_add-o c).Else-n-eq0)

pub overflow_cast-o : goal.overflow_cast-o
overflow_cast-o c = omega (arith, next (goal.at.overflow_cast-o c).Else-n-eq0)

pub keep_for-requires : goal.keep_for-requires
keep_for-requires c = simp length-set (omega (arith, next (goal.at.keep_for-requires c).Else-n-eq0))

pub overflow_add-result : goal.overflow_add-result
overflow_add-result c = omega (arith, next (goal.at.overflow_add-result c).Else-n-eq0)

pub overflow_add-result-2 : goal.overflow_add-result-2
overflow_add-result-2 c = omega (arith, next (goal.at.overflow_add-result-2 c).Else-n-eq0)

pub returns : goal.returns
returns c =
    let e = c in
    let a = e.args in (
      sym (next (goal.at.returns c).Else-n-eq0),
      begun-part a.d a.o a.g (class_number a.top) _ a.tail.now _ e.kept_for-n.ensures e.if-n-eq0.false
          (rw (← c.number.ensures) c.keep_for.ensures),
    )
