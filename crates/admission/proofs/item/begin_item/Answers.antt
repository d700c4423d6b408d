-- The tests in their order, then the two numbers of the head.
use Prim.Native.Nat.{◌≤◌}
use mathlib.Core.Path.{refl}
use native.Mathlib.Omega.{arith}
use Rattle.admission.proofs.StageLaws.{start-beyond, start-wide, start-full, start-done, head-written, change-short}
use Rattle.admission.proofs.item.begin_item.Goals as goal
use Rattle.admission.proofs.item.begin_item.Goals.{After-change_len-n}

short : (c : goal.After-change_len-n) → c.change_len-n.result ≤ 32773
short c =
    let a = c.args in
    rw c.change_len-n.ensures (change-short c.width-width.result _ a.change c.if-width-gt-MAX_WIDTH.false)

pub returns-then-last-kept : goal.returns-then-last-kept
returns-then-last-kept c = (start-beyond _ _ _ _ c.if-last-kept.true, refl)

pub returns-then-width-gt-MAX_WIDTH : goal.returns-then-width-gt-MAX_WIDTH
returns-then-width-gt-MAX_WIDTH c = (start-wide _ _ _ _ c.width-width.ensures (omega arith) c.if-width-gt-MAX_WIDTH.true, refl)

pub overflow_add-n : goal.overflow_add-n
overflow_add-n c = let h = short c in omega arith

pub returns-then-work-used : goal.returns-then-work-used
returns-then-work-used c =
    let l = c in
    (start-full _ _ _ _ l.width-width.ensures l.change_len-n.ensures (omega arith) l.if-width-gt-MAX_WIDTH.false c.if-work-used.true, refl)

pub overflow_cast-n : goal.overflow_cast-n
overflow_cast-n c = let h = short (goal.at.overflow_cast-n c).After-change_len-n in omega arith

pub returns : goal.returns
returns c =
    let two = c in
    let one = two in
    let l = one in (
      start-done _ _ _ _ l.width-width.ensures l.change_len-n.ensures (omega arith) l.if-width-gt-MAX_WIDTH.false (omega arith),
      head-written _ _ _ _ _ _ _ one.put_u32-next.ensures.0 one.put_u32-next.ensures.1 two.put_u32.ensures.1,
    )
