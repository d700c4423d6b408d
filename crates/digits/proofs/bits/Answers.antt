-- The invariant: the number of the digits passed has 4 bits for each, and with the digits that follow it is the number asked.
-- Assumes nothing.
use Rattle.std.proofs.Common.{◌^◌, ◌≤◌, ◌≡◌, sym, arith, add-one, get_or}
use native.Mathlib.Nat.{pow-suc, pow-le-pow_right}
use Rattle.digits.specs.Numbers.{digit_of}
use Rattle.digits.proofs.NumberLaws.{digits-end, digits-bad, digits-next, bits-short, bits-digits}
use Rattle.digits.proofs.bits.Goals as goal

pub returns-then-s-ne16 : goal.returns-then-s-ne16
returns-then-s-ne16 c = sym (bits-short c.args.s.now c.if-s-ne16.true)

pub loop-b-init : goal.loop-b-init
loop-b-init c = record { small = omega arith; same = sym (bits-digits c.args.s.now c.if-s-ne16.false) }

pub overflow_mul-value : goal.overflow_mul-value
overflow_mul-value c =
    let j : c.loop-b.b-index ≤ 15 = omega arith in
    let p : 16 ^ c.loop-b.b-index ≤ 16 ^ 15 = pow-le-pow_right (omega arith) j in
    omega arith

pub returns-in_err-digit : goal.returns-in_err-digit
returns-in_err-digit c =
    let l = c.loop-b in
    rw c.from_residual.ensures (rw (digits-bad 16 l.value c.args.s.now l.b-index (omega arith) (let n = c.in_err-digit.ensures in omega arith)) at l.invariant.same)

pub overflow_add-value : goal.overflow_add-value
overflow_add-value c =
    let j : c.loop-b.b-index ≤ 15 = omega arith in
    let p : 16 ^ c.loop-b.b-index ≤ 16 ^ 15 = pow-le-pow_right (omega arith) j in
    omega (arith, c.in_ok-digit.ensures.0, c.in_ok-digit.ensures.1, c.from.ensures)

pub loop-b-preserved : goal.loop-b-preserved
loop-b-preserved c =
    let l = c.loop-b in
    let s = c.args.s.now in
    let e : c.from.result ≡ digit_of (get_or s l.b-index 0) = omega (arith, c.in_ok-digit.ensures.1, c.from.ensures) in
    let n = digits-next 16 l.value s l.b-index (omega arith) c.in_ok-digit.ensures.0 in
    record {
      small = rw (add-one l.b-index, pow-suc 16 l.b-index) (omega (arith, c.in_ok-digit.ensures.0));
      same = rw (add-one l.b-index, e) (rw n at l.invariant.same);
    }

pub returns : goal.returns
returns c =
    let l = c.loop-b in
    rw (digits-end 16 l.value c.args.s.now l.b-index (omega arith)) at l.invariant.same
