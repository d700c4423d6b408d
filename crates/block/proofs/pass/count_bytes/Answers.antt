-- The loop's invariant: the work from p on divides into records, and to take these gives what to take all of them gives. The measure is
-- what is left of the work.
-- Assumes nothing.
use Prim.Native.Nat.{◌+◌, ◌-◌, ◌≤◌, ◌<◌}
use mathlib.Core.Path.{◌≡◌, refl, sym, ◌∙◌}
use native.Mathlib.Omega.{arith}
use lib.ListN.{length}
use Rattle.work.proofs.WorkLaws.{Turn, turn, end}
use Rattle.block.proofs.PassLaws.{count_none, CountTurn, record-inside, record-below, record-again, record-count}
use Rattle.block.proofs.pass.count_bytes.Goals as goal
use Rattle.block.proofs.pass.count_bytes.Goals.{In-loop-p, After-get_u32-n}

-- the record at p
at_turn : (c : goal.In-loop-p) → let l = c.loop-p in let a = c.args in
    Turn l.invariant.0 a.signals l.p a.work.now l.invariant.1
at_turn c = turn _ _ _ _ _ c.loop-p-test.true c.loop-p.invariant.3

-- the same by what was read
inside : (c : goal.After-get_u32-n) → let l = c.loop-p in
    l.p + 8 + c.get_u32-n.result ≤ length c.args.work.now
inside c = record-inside _ _ _ _ _ _ _
    ((let it : let l = c.loop-p in let a = c.args in Turn l.invariant.0 a.signals l.p a.work.now l.invariant.1 = turn _ _ _ _ _ c.loop-p-test.true c.loop-p.invariant.3 in
    it)) c.get_u32-g.ensures c.get_u32-n.ensures

below : (c : goal.After-get_u32-n) → c.get_u32-g.result < c.args.signals
below c = record-below _ _ _ _ _ _ _
    ((let it : let l = c.loop-p in let a = c.args in Turn l.invariant.0 a.signals l.p a.work.now l.invariant.1 = turn _ _ _ _ _ c.loop-p-test.true c.loop-p.invariant.3 in
    it)) c.get_u32-g.ensures c.get_u32-n.ensures

counted : (c : goal.After-get_u32-n) → let l = c.loop-p in
    CountTurn l.invariant.1
    ((let it : let l = c.loop-p in let a = c.args in Turn l.invariant.0 a.signals l.p a.work.now l.invariant.1 = turn _ _ _ _ _ c.loop-p-test.true c.loop-p.invariant.3 in
    it)).rest c.get_u32-g.result c.get_u32-n.result l.tail
counted c =
    let l = c.loop-p in
    record-count _ _ _ _ _ _ _
    ((let it : let l = c.loop-p in let a = c.args in Turn l.invariant.0 a.signals l.p a.work.now l.invariant.1 = turn _ _ _ _ _ c.loop-p-test.true c.loop-p.invariant.3 in
    it)) c.get_u32-g.ensures c.get_u32-n.ensures l.tail l.invariant.5

pub loop-p-init : goal.loop-p-init
loop-p-init c = (_, _, omega arith, c.requires.1, refl, c.requires.2, refl)

pub get_u32-g-requires : goal.get_u32-g-requires
get_u32-g-requires c = omega (arith, (at_turn c).head)

pub overflow_cast-g : goal.overflow_cast-g
overflow_cast-g c = omega (arith, (at_turn (goal.at.overflow_cast-g c).In-loop-p).below, c.get_u32-g.ensures)

pub overflow_add-p : goal.overflow_add-p
overflow_add-p c = omega (arith, (at_turn (goal.at.overflow_add-p c).In-loop-p).head)

pub get_u32-n-requires : goal.get_u32-n-requires
get_u32-n-requires c = omega (arith, (at_turn (goal.at.get_u32-n-requires c).In-loop-p).head)

pub overflow_add-p-in-loop-p : goal.overflow_add-p-in-loop-p
overflow_add-p-in-loop-p c = omega (arith, inside c)

pub overflow_cast-p : goal.overflow_cast-p
overflow_cast-p c = omega (arith, inside c)

pub overflow_add-p-in-loop-p-2 : goal.overflow_add-p-in-loop-p-2
overflow_add-p-in-loop-p-2 c = omega (arith, inside c)

pub kept_for-before-requires : goal.kept_for-before-requires
kept_for-before-requires c = omega (arith, below c)

pub overflow_add-before : goal.overflow_add-before
overflow_add-before c = omega (arith, (counted (goal.at.overflow_add-before c).After-get_u32-n).fits, c.kept_for-before.ensures)

pub keep_for-requires : goal.keep_for-requires
keep_for-requires c = omega (arith, below (goal.at.keep_for-requires c).After-get_u32-n)

pub loop-p-smaller : goal.loop-p-smaller
loop-p-smaller c = omega (arith, inside (goal.at.loop-p-smaller c).After-get_u32-n)

pub loop-p-preserved : goal.loop-p-preserved
unfolding at_turn
loop-p-preserved c =
    let d = c.keep_for in
    let k = c.kept_for-before in
    let e = c in
    let l = e.loop-p in
    let t = at_turn (goal.at.loop-p-preserved c).In-loop-p in (
      l.invariant.0 - 1,
      t.rest,
      inside (goal.at.loop-p-preserved c).After-get_u32-n,
      record-again _ _ _ _ _ _ _ t e.get_u32-g.ensures e.get_u32-n.ensures,
      d.auto.tail ∙ l.invariant.4,
      rw (d.ensures, k.ensures) (counted (goal.at.loop-p-preserved c).After-get_u32-n).again,
      rw (d.ensures, k.ensures) (sym (counted (goal.at.loop-p-preserved c).After-get_u32-n).same ∙ l.invariant.6),
    )

pub returns : goal.returns
returns c =
    let l = c.loop-p in
    let a = c.args in
    let z : l.p ≡ length a.work.now = omega arith in
    let n = end _ _ a.work.now l.invariant.1 (rw z at l.invariant.3) in
    rw (← l.invariant.6, n) (sym (count_none _))
