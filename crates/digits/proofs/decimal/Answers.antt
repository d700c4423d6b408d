-- The invariant: the number of the digits passed is not too large, and with the digits that follow it is the number asked.
-- Assumes nothing.
use Rattle.std.proofs.Common.{Some, None, ◌+◌, ◌*◌, ◌≤◌, ◌≡◌, sym, arith, add-one, get_or}
use Rattle.std.proofs.lemmas.Bool.Decides.{nat_tests}
use borrow.Author.Tests.{le-leb}
use Rattle.digits.specs.Numbers.{digit_of}
use Rattle.digits.proofs.NumberLaws.{digit-some, digits-end, digits-bad, digits-next, digits-too_large, number_digits, number-empty}
use Rattle.digits.proofs.decimal.Goals as goal

pub returns-then-is_empty : goal.returns-then-is_empty
returns-then-is_empty c = let a = c.args in sym (number-empty a.most a.s.now (grind (arith, nat_tests)))

pub loop-b-init : goal.loop-b-init
loop-b-init c = let a = c.args in record { small = omega arith; same = sym (number_digits a.most a.s.now (grind (arith, nat_tests))) }

pub returns-in_err-x : goal.returns-in_err-x
returns-in_err-x c =
    let l = c.loop-b in
    let n = digit-some None 10 (get_or c.args.s.now l.b-index 0) (omega arith) (rw c.from.ensures at c.in_err-x.ensures.value) in
    let b : 10 ≤ digit_of (get_or c.args.s.now l.b-index 0) = omega arith in
    let e = digits-bad 10 l.value c.args.s.now l.b-index (omega arith) b in
    rw c.from_residual.ensures (rw e at l.invariant.same)

pub returns-in_err-checked_mul : goal.returns-in_err-checked_mul
returns-in_err-checked_mul c =
    let l = c.loop-b in
    let d = digit-some (Some c.in_ok-x.x) 10 (get_or c.args.s.now l.b-index 0) (omega arith) (rw c.from.ensures at c.in_ok-x.ensures.value) in
    let h = c.in_err-checked_mul.ensures in
    rw c.from_residual-in_err-checked_mul.ensures (digits-too_large c.args.most l.value c.in_ok-x.x c.args.s.now l.b-index (omega arith) d.0 d.1 (omega arith) l.invariant.same)

pub returns-in_err-value : goal.returns-in_err-value
returns-in_err-value c =
    let l = c.loop-b in
    let d = digit-some (Some c.in_ok-x.x) 10 (get_or c.args.s.now l.b-index 0) (omega arith) (rw c.from.ensures at c.in_ok-x.ensures.value) in
    let h = c.in_err-value.ensures in
    rw c.from_residual-in_err-value.ensures (digits-too_large c.args.most l.value c.in_ok-x.x c.args.s.now l.b-index (omega arith) d.0 d.1 (omega (
      arith,
      c.in_ok-checked_mul.ensures.1,
    )) l.invariant.same)

pub returns-then-most-value : goal.returns-then-most-value
returns-then-most-value c =
    let l = c.loop-b in
    let d = digit-some (Some c.in_ok-x.x) 10 (get_or c.args.s.now l.b-index 0) (omega arith) (rw c.from.ensures at c.in_ok-x.ensures.value) in
    digits-too_large c.args.most l.value c.in_ok-x.x c.args.s.now l.b-index (omega arith) d.0 d.1
    (omega (arith, c.in_ok-checked_mul.ensures.1, c.in_ok-value.ensures.1)) l.invariant.same

pub loop-b-preserved : goal.loop-b-preserved
loop-b-preserved c =
    let l = c.loop-b in
    let s = c.args.s.now in
    let d = digit-some (Some c.in_ok-x.x) 10 (get_or s l.b-index 0) (omega arith) (rw c.from.ensures at c.in_ok-x.ensures.value) in
    let n = digits-next 10 l.value s l.b-index (omega arith) d.0 in
    let e : c.in_ok-value.value ≡ l.value * 10 + digit_of (get_or s l.b-index 0) =
    omega (arith, d.1, c.in_ok-checked_mul.ensures.1, c.in_ok-value.ensures.1) in
    record { small = omega arith; same = rw (add-one l.b-index, e) (rw n at l.invariant.same) }

pub returns : goal.returns
returns c =
    let l = c.loop-b in
    let a = c.args in
    let t = rw (digits-end 10 l.value a.s.now l.b-index (omega arith)) at l.invariant.same in
    rw (le-leb l.value a.most l.invariant.small) at t
