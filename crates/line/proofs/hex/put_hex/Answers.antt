-- The invariant: the bytes still to be written, written, give what is asked.
-- Assumes nothing.
use Rattle.std.proofs.Common.{◌≡◌, ◌∙◌, ◌+◌, ◌*◌, refl, sym, ap, arith, suc, add-one, [], length, get_or}
use lib.ListN.{set, length-set}
use Rattle.digits.specs.Numbers.{digit_of}
use Rattle.line.specs.Command.{bytes_in}
use Rattle.line.proofs.HexLaws.{hex-end, hex-even, Pair, pair-at, bytes-some, bytes-none}
use Rattle.line.proofs.hex.put_hex.Goals as goal
use Rattle.line.proofs.hex.put_hex.Goals.{In-loop-k, in-Some, in_default}

pair-here : (c : goal.In-loop-k) → Pair c.args.s.now (2 * c.loop-k.k) c.loop-k.invariant.0
pair-here c = let l = c.loop-k in pair-at c.args.s.now (2 * l.k) l.invariant.0 (omega arith) l.invariant.2

pub returns-then-not-is_hex : goal.returns-then-not-is_hex
returns-then-not-is_hex c =
    let s = c.args.s.now in
    let e = bytes-none s (sym c.is_hex.ensures ∙ c.if-not-is_hex.true) in
    (rw e refl, rw e refl)

pub loop-k-init : goal.loop-k-init
loop-k-init c =
    let s = c.args.s.now in
    (bytes_in s, refl, bytes-some s (sym c.is_hex.ensures ∙ c.if-not-is_hex.false), omega arith, refl)

pub loop-k-preserved : goal.loop-k-preserved
loop-k-preserved c =
    let l = c.loop-k in
    let p = pair-here (goal.at.loop-k-preserved c).In-loop-k in
    let one : 2 * l.k + 1 ≡ suc (2 * l.k) = omega arith in
    let two : 2 * (l.k + 1) ≡ suc (suc (2 * l.k)) = omega arith in
    let e : c.match-byte.out ≡ set l.out l.k (digit_of (get_or c.args.s.now (2 * l.k) 0) * 16 + digit_of (get_or c.args.s.now (suc (2 * l.k)) 0)) =
    elim c.match-byte.branch [
      | in-Some w ↦ w.out-is ∙ w.put.ensures ∙ ap (set l.out l.k) (rw one at w.in-Some.ensures.1)
      | in_default w ↦ absurd (w.in_default.ensures (p.high, rw one p.low))
    ] in
    let kept = ap length e ∙ length-set l.out l.k _ ∙ l.invariant.1 in
    let stored = rw p.bytes at l.invariant.4 in
    (p.rest, kept, rw two p.read, omega (arith, ap length p.bytes), rw (e, add-one l.k) stored)

pub returns : goal.returns
returns c =
    let l = c.loop-k in
    let even = hex-even c.args.s.now (sym c.is_hex.ensures ∙ c.if-not-is_hex.false) in
    let q = hex-end c.args.s.now (2 * l.k) (omega arith) in
    let e : l.invariant.0 ≡ [] = cc in
    (omega (arith, ap length e), rw e at l.invariant.4)
