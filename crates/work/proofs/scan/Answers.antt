-- The bytes and signals so far, with what the rest brings (`onward`), give the answer; a turn takes a record over (`onward-turn`) or finds
-- none.
use Prim.Native.Nat.{◌-◌}
use mathlib.Core.Path.{◌≡◌, refl, sym, ap, ◌∙◌}
use mathlib.Core.List.{[]}
use native.Mathlib.Omega.{arith}
use lib.ListN.{length, drop, replicate, drop_of_length-le}
use Rattle.marks.specs.Marks.{mark_at}
use Rattle.marks.proofs.MarksLaws.{no-marks}
use Rattle.recording.specs.Work.{items_of}
use Rattle.work.proofs.WorkLaws.{items-nothing, turn-short-head, turn-short-body, turn-not-below}
use Rattle.work.proofs.MeasureLaws.{onward, onward-start, onward-turn, onward-end}
use Rattle.work.proofs.scan.Goals as goal

pub loop-p-init : goal.loop-p-init
loop-p-init c =
    let a = c.args in (
      length a.work.now,
      omega arith,
      omega arith,
      omega arith,
      omega arith,
      refl,
      onward-start (mark_at (replicate 8192 0)) a.base (items_of (length a.work.now) a.signals a.work.now) (no-marks 8192),
    )

pub returns-then-work-p-lt8 : goal.returns-then-work-p-lt8
returns-then-work-p-lt8 c =
    let l = c.loop-p in
    let a = c.args in
    sym (l.invariant.6 ∙ ap (onward (mark_at l.map) a.base l.sum l.count) (turn-short-head l.invariant.0 a.signals l.p a.work.now (omega arith) (omega arith) (omega arith)))

pub returns-then-signals-signal : goal.returns-then-signals-signal
returns-then-signals-signal c =
    let l = c.loop-p in
    let a = c.args in
    sym (l.invariant.6 ∙ ap (onward (mark_at l.map) a.base l.sum l.count) (turn-not-below l.invariant.0 a.signals l.p a.work.now (omega arith) (omega arith) (omega arith)))

pub returns-then-work-p : goal.returns-then-work-p
returns-then-work-p c =
    let l = c.loop-p in
    let a = c.args in
    sym (l.invariant.6 ∙ ap (onward (mark_at l.map) a.base l.sum l.count) (turn-short-body l.invariant.0 a.signals l.p a.work.now (omega arith) (omega arith) (omega arith)))

pub slice_bounds-count_record-end : goal.slice_bounds-count_record-end
slice_bounds-count_record-end c = sym c.loop-p.invariant.5

pub count_record-count-requires : goal.count_record-count-requires
count_record-count-requires c = c.loop-p.invariant.5

pub overflow_add-count : goal.overflow_add-count
overflow_add-count c = omega (arith, c.count_record-count.ensures.1)

pub loop-p-preserved : goal.loop-p-preserved
loop-p-preserved c =
    let e = c in
    let l = e.loop-p in
    let a = e.args in
    let r = c.count_record-count in
    let t = onward-turn (mark_at l.map) (mark_at r.new.map) l.invariant.0 a.signals l.p a.base l.sum l.count e.get_u32-signal.result
    e.get_u32-size.result r.result a.work.now e.get_u32-signal.ensures e.get_u32-size.ensures (omega arith) (omega arith) (omega arith) (omega arith)
    r.ensures.2 in
    (l.invariant.0 - 1, omega arith, omega arith, omega arith, omega (arith, r.ensures.1), r.ensures.0, l.invariant.6 ∙ t)

pub returns : goal.returns
returns c =
    let l = c.loop-p in
    let a = c.args in
    let e : drop l.p a.work.now ≡ [] = drop_of_length-le a.work.now c.loop-p-test.false in
    let o = onward (mark_at l.map) a.base l.sum l.count in
    sym (l.invariant.6 ∙ ap o (ap (items_of l.invariant.0 a.signals) e ∙ items-nothing l.invariant.0 a.signals) ∙ onward-end (mark_at l.map) a.base l.sum l.count)
