-- The invariant: what follows the words still to be passed is what follows all of them.
-- Assumes nothing.
use Rattle.std.proofs.Common.{◌≡◌, ◌∙◌, ◌-◌, ◌+◌, sym, arith}
use Rattle.line.proofs.WordLaws.{after_none, after_more}
use Rattle.line.proofs.words.after.Goals as goal

pub loop-preserved : goal.loop-preserved
loop-preserved c =
    let l = c.loop in
    let e : c.args.k - (l.counter + 1) ≡ c.args.k - l.counter - 1 = omega arith in
    rw (e, c.past_word-rest.ensures) (sym (after_more (c.args.k - l.counter) l.rest.now (omega arith)) ∙ l.invariant)

pub returns : goal.returns
returns c =
    let l = c.loop in
    sym (after_none (c.args.k - l.counter) l.rest.now (omega arith)) ∙ l.invariant
