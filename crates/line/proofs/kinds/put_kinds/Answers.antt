-- The invariant: the records of the kinds still to be stored, stored, give what is asked.
-- Assumes nothing.
use Rattle.std.proofs.Common.{ℕ, ◌≡◌, ◌∙◌, ◌+◌, refl, sym, ap, arith, suc, add-one, List, [], length}
use lib.ListN.{set}
use Rattle.line.specs.Line.{kind_of}
use Rattle.line.specs.Command.{kind_list, record_for, records_for, put_kind}
use Rattle.line.proofs.EachLaws.{each-end, each-some, each_none, turn_at}
use Rattle.line.proofs.KindLaws.{put-length}
use Rattle.storage.specs.Storage.{records_of}
use Rattle.line.proofs.kinds.put_kinds.Goals as goal

pub returns-then-not-has_kinds : goal.returns-then-not-has_kinds
unfolding records_for
returns-then-not-has_kinds c =
    let e = each_none kind_of 3 c.args.line.now (sym c.has_kinds.ensures ∙ c.if-not-has_kinds.true) in
    (rw e refl, rw e refl)

pub loop-at-init : goal.loop-at-init
loop-at-init c =
    let all = each-some kind_of 3 c.args.line.now (sym c.has_kinds.ensures ∙ c.if-not-has_kinds.false) in
    (kind_list c.args.line.now, refl, all.1, omega arith, refl)

pub overflow_cast-at : goal.overflow_cast-at
overflow_cast-at c =
    let few = each-some kind_of 3 c.args.line.now (sym c.has_kinds.ensures ∙ c.if-not-has_kinds.false) in
    omega (arith, few.0)

pub loop-at-preserved : goal.loop-at-preserved
unfolding records_for
loop-at-preserved c =
    let l = c.loop-at in
    let a = c.args in
    let rs = records_of l.records in
    let p = c.probe_at.result in
    let t = turn_at kind_of (l.at + 3) a.line.now l.invariant.0 (omega arith) l.invariant.2 in
    let e = c.put_kind.ensures ∙ ap (λ (w : List ℕ). put_kind rs l.at p (kind_of w)) c.word.ensures ∙ ap (put_kind rs l.at p) t.read in
    let named = e ∙ ap (λ (x : ℕ). set rs l.at (record_for t.first x)) c.probe_at.ensures in
    let kept = put-length l.records c.put_kind.new.records l.at (record_for t.first p) e ∙ l.invariant.1 in
    let stored = rw t.all at l.invariant.4 in
    let next : l.at + 1 + 3 ≡ suc (l.at + 3) = omega arith in
    (t.rest, kept, rw next t.more, omega (arith, ap length t.all), rw (named, add-one l.at) stored)

pub returns : goal.returns
unfolding records_for
returns c =
    let l = c.loop-at in
    let q = each-end kind_of (l.at + 3) c.args.line.now (omega arith) in
    let e : l.invariant.0 ≡ [] = cc in
    (omega (arith, ap length e), rw e at l.invariant.4)
