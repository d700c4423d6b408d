-- The groups so far, under the number that is left, are the number.
-- Assumes nothing.
use Prim.Native.Nat.{◌+◌, ◌-◌, ◌*◌, ◌≤◌}
use mathlib.Core.Path.{◌≡◌, refl, sym, ap, ◌∙◌}
use native.Mathlib.Omega.{arith}
use borrow.Author.Tests.{ltb-false}
use lib.ListN.{drop}
use Rattle.lists.proofs.PartLaws.{got-element}
use Rattle.numbers.specs.Leb128.{read_leb, under}
use Rattle.numbers.proofs.Leb128Laws.{read-zero, read-end}
use Rattle.numbers.proofs.GroupLaws.{above-under, under_more, under_last, group-weight, weight-at}
use Rattle.numbers.proofs.leb128.longer.Goals as goal
use Rattle.numbers.proofs.leb128.longer.Goals.{After-from}

-- the weight of a turn that goes on, and what its group adds
step : (c : goal.After-from) → let l = c.loop-i in (l.weight ≤ 268435456) × ((c.from.result - 128) * l.weight ≤ 127 * l.weight)
step c =
    let l = c.loop-i in
    let left = c.args.at + 4 - l.i in
    let b = got-element c.args.s.now l.i _ _ c.in_ok-get.ensures.lookup.0 c.in_ok-get.ensures.lookup.1 c.from-b.ensures in
    (rw l.invariant.2 (weight-at left (omega arith) (omega arith)).1, group-weight _ l.weight (omega (arith, b.1, c.from.ensures, c.type_inv.s l.i)))

pub loop-i-init : goal.loop-i-init
loop-i-init c =
    let a = c.args in
    let n : a.at + 4 - a.at ≡ 4 = omega arith in
    (omega arith, omega arith, rw n refl, omega arith, rw (n, c.from-v.ensures) (above-under a.first (read_leb 4 a.at (drop a.at a.s.now)) c.requires.0 c.requires.1))

pub returns-in_err-get : goal.returns-in_err-get
returns-in_err-get c =
    let l = c.loop-i in
    c.from_residual.ensures ∙ sym (l.invariant.4 ∙ ap (under l.v l.weight) (read-end (c.args.at + 4 - l.i) l.i _ (ltb-false _ _ (sym c.in_err-get.ensures.lookup.0))))

pub ended-requires : goal.ended-requires
ended-requires c =
    let l = c.loop-i in
    let w = weight-at (c.args.at + 4 - l.i) (omega arith) (omega arith) in
    (l.invariant.3, rw l.invariant.2 w.1, c.if-b-lt128.true)

pub returns-then-b-lt128 : goal.returns-then-b-lt128
returns-then-b-lt128 c =
    let l = c.loop-i in
    let b = got-element c.args.s.now l.i _ _ c.in_ok-get.ensures.lookup.0 c.in_ok-get.ensures.lookup.1 c.from-b.ensures in
    c.ended.ensures ∙ sym (l.invariant.4 ∙ under_last l.v l.weight (c.args.at + 4 - l.i) l.i _ (omega arith) b.0 (rw (← b.1) c.if-b-lt128.true) ∙ rw b.1 refl)

pub overflow_mul-v : goal.overflow_mul-v
overflow_mul-v c = omega (arith, (step c).0, (step c).1)

pub overflow_add-v : goal.overflow_add-v
overflow_add-v c = omega (arith, (step c).0, (step c).1, c.loop-i.invariant.3)

pub overflow_mul-weight : goal.overflow_mul-weight
overflow_mul-weight c = omega (arith, (step c).0, (step c).1)

pub loop-i-preserved : goal.loop-i-preserved
loop-i-preserved c =
    let l = c.loop-i in
    let b = got-element c.args.s.now l.i _ _ c.in_ok-get.ensures.lookup.0 c.in_ok-get.ensures.lookup.1 c.from-b.ensures in
    let left = c.args.at + 4 - l.i in
    let next : c.args.at + 4 - (l.i + 1) ≡ left - 1 = omega arith in
    let w = weight-at left (omega arith) (omega arith) in (
      omega arith,
      omega arith,
      rw (next, l.invariant.2) w.2,
      omega (arith, (step c).1),
      l.invariant.4
          ∙ rw (next, c.from.ensures, b.1) (under_more l.v l.weight left l.i _ (rw l.invariant.2 w.0) (omega arith) b.0 (rw (← b.1) c.if-b-lt128.false) (c.type_inv.s l.i).fits),
    )

pub returns : goal.returns
returns c =
    let l = c.loop-i in
    let z : c.args.at + 4 - l.i ≡ 0 = omega arith in
    sym (l.invariant.4 ∙ rw (z, read-zero l.i _) refl)
