use mathlib.Core.Path.{sym, ◌∙◌}
use native.Mathlib.Omega.{arith}
use Rattle.reading.proofs.TimesLaws.{rising-is, rise-bad, rise-more, rise-end}
use Rattle.reading.proofs.times.rising.Goals as goal

pub loop-i-init : goal.loop-i-init
loop-i-init c = rising-is _ _ _ _ (omega arith) c.get_u64-last.ensures

pub returns-then-time-last : goal.returns-then-time-last
returns-then-time-last c = sym (rise-bad _ _ _ _ _ _ (omega arith) c.get_u64-time.ensures c.if-time-last.true) ∙ c.loop-i.invariant

pub loop-i-preserved : goal.loop-i-preserved
loop-i-preserved c = sym (rise-more _ _ _ _ _ _ (omega arith) c.get_u64-time.ensures c.if-time-last.false) ∙ c.loop-i.invariant

pub returns : goal.returns
returns c = sym (rise-end _ _ _ _ _ (omega arith)) ∙ c.loop-i.invariant
