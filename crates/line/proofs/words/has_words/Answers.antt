-- The invariant: the words from k on are all such where all from the first on are.
-- Assumes nothing.
use Rattle.std.proofs.Common.{◌≡◌, ◌∙◌, sym, ap, arith, add-one, is_some, true, false, not}
use Rattle.line.specs.Words.{word, word_of, past_word}
use Rattle.line.proofs.WordLaws.{after_suc}
use Rattle.line.proofs.EachLaws.{each-many, each-few, each-end, each-other, each_more}
use Rattle.line.proofs.words.has_words.Goals as goal

pub returns-then-saturating_sub-gt256 : goal.returns-then-saturating_sub-gt256
returns-then-saturating_sub-gt256 g c = sym (ap is_some (each-many g.T.FromWord.of_word c.args.first c.args.line.now (omega arith)))

pub loop-k-init : goal.loop-k-init
loop-k-init g c = (sym (ap is_some (each-few g.T.FromWord.of_word c.args.first c.args.line.now (omega arith))), c.after-rest.ensures)

pub returns-then-is_none : goal.returns-then-is_none
returns-then-is_none g c =
    let l = c.loop-k in
    let f = g.T.FromWord.of_word in
    let e : is_some (f (word l.k c.args.line.now)) ≡ false =
    sym (ap is_some (c.from_word.ensures ∙ ap f (c.first_word.ensures ∙ ap word_of l.invariant.1))) ∙ c.is_none.ensures ∙ ap not c.if-is_none.true in
    sym (sym l.invariant.0 ∙ each-other f l.k c.args.line.now (omega arith) e)

pub loop-k-preserved : goal.loop-k-preserved
loop-k-preserved g c =
    let l = c.loop-k in
    let f = g.T.FromWord.of_word in
    let e : is_some (f (word l.k c.args.line.now)) ≡ true =
    sym (ap is_some (c.from_word.ensures ∙ ap f (c.first_word.ensures ∙ ap word_of l.invariant.1))) ∙ c.is_none.ensures ∙ ap not c.if-is_none.false in
    rw (add-one l.k) (
      sym (each_more f l.k c.args.line.now (omega arith) e) ∙ l.invariant.0,
      c.past_word-rest.ensures ∙ ap past_word l.invariant.1 ∙ sym (after_suc l.k c.args.line.now),
    )

pub returns : goal.returns
returns g c =
    let l = c.loop-k in
    sym (ap is_some (each-end g.T.FromWord.of_word l.k c.args.line.now (omega arith))) ∙ l.invariant.0
