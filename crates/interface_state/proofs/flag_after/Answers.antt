-- By the flag and its number.
-- Assumes nothing.
use Rattle.interface_state.proofs.FlagLaws.{flag_off, flag-set, flag-stays}
use Rattle.interface_state.proofs.flag_after.Goals as goal

pub returns-then-not-on : goal.returns-then-not-on
returns-then-not-on c = let a = c.args in flag_off a.before a.on (c.if-not-on.true)

pub returns-then-before-eq0 : goal.returns-then-before-eq0
returns-then-before-eq0 c = let a = c.args in flag-set a.before a.on (c.if-not-on.false) c.if-before-eq0.true

pub returns : goal.returns
returns c = let a = c.args in flag-stays a.before a.on (c.if-not-on.false) c.if-before-eq0.false
