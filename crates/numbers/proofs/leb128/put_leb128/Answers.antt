-- `numbers::leb128::put_leb128` meets its contract. The loop's invariant: the form of x, written from i on, gives what the form of v gives,
-- written from at on, and ends where it ends. The measure is x.
-- Assumes nothing.
use mathlib.Core.Path.{ap, refl}
use native.Mathlib.Numerals.{add-one}
use native.Mathlib.Omega.{arith}
use lib.ListN.{length, length-set}
use Rattle.numbers.proofs.Leb128Laws.{leb_small, leb-big}
use Rattle.numbers.proofs.leb128.put_leb128.Goals as goal

pub loop-x-init : goal.loop-x-init
loop-x-init c = (omega arith, refl, refl, refl)

pub bounds-buf-i : goal.bounds-buf-i
bounds-buf-i c = omega (arith, ap length (leb-big c.loop-x.x c.loop-x-test.true (omega arith)))

pub overflow_add-i : goal.overflow_add-i
overflow_add-i c = omega (arith, ap length (leb-big c.loop-x.x c.loop-x-test.true (omega arith)))

pub loop-x-preserved : goal.loop-x-preserved
loop-x-preserved c =
    let l = c.loop-x in
    let e = leb-big l.x c.loop-x-test.true (omega arith) in
    (omega arith, omega (arith, ap length e), simp length-set l.invariant.2, rw (add-one, ← l.invariant.3, e) refl)

pub bounds-buf-i-2 : goal.bounds-buf-i-2
bounds-buf-i-2 c = omega (arith, ap length (leb_small c.loop-x.x c.loop-x-test.false))

pub overflow_add-result : goal.overflow_add-result
overflow_add-result c = omega (arith, ap length (leb_small c.loop-x.x c.loop-x-test.false))

pub returns : goal.returns
returns c =
    let l = c.loop-x in
    let e = leb_small l.x c.loop-x-test.false in
    (omega (arith, ap length e), rw (← l.invariant.3, e) refl)
