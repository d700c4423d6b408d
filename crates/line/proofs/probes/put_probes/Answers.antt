-- The invariant: the probes still to be stored, stored, give what is asked.
-- Assumes nothing.
use Rattle.std.proofs.Common.{ℕ, ◌≡◌, ◌∙◌, ◌+◌, ◌-◌, refl, sym, ap, arith, suc, add-one, List, [], length}
use lib.ListN.{length-set}
use Rattle.line.specs.Line.{number32}
use Rattle.line.specs.Command.{probe_list, put_number}
use Rattle.line.proofs.EachLaws.{each-end, each-some, each_none, turn_at}
use Rattle.line.proofs.probes.put_probes.Goals as goal

pub returns-then-not-has_probes : goal.returns-then-not-has_probes
returns-then-not-has_probes c =
    rw (each_none number32 1 c.args.line.now (sym c.has_probes.ensures ∙ c.if-not-has_probes.true)) refl

pub loop-k-init : goal.loop-k-init
loop-k-init c =
    let all = each-some number32 1 c.args.line.now (sym c.has_probes.ensures ∙ c.if-not-has_probes.false) in
    (probe_list c.args.line.now, refl, all.1, refl)

pub loop-k-preserved : goal.loop-k-preserved
loop-k-preserved c =
    let l = c.loop-k in
    let t = turn_at number32 l.k c.args.line.now l.invariant.0 (omega arith) l.invariant.2 in
    let at = l.k - 1 in
    let e = c.put_number.ensures ∙ ap (λ (w : List ℕ). put_number l.out at (number32 w)) c.word.ensures ∙ ap (put_number l.out at) t.read in
    let kept = ap length e ∙ length-set l.out at t.first ∙ l.invariant.1 in
    let stored = rw t.all at l.invariant.3 in
    let next : l.k + 1 - 1 ≡ suc at = omega arith in
    (t.rest, kept, rw (add-one l.k) t.more, rw (e, next) stored)

pub returns : goal.returns
returns c =
    let l = c.loop-k in
    let q = each-end number32 l.k c.args.line.now (omega arith) in
    let e : l.invariant.0 ≡ [] = cc in
    rw e at l.invariant.3
