-- Two tests, one after the other, are the definition's two joined by "or".
-- Assumes nothing.
use Rattle.join.proofs.TestLaws.{room-limit, room-rest}
use Rattle.join.proofs.tests.lacks_room.Goals as goal

pub returns-then-total-gt-MAX_TOTAL : goal.returns-then-total-gt-MAX_TOTAL
returns-then-total-gt-MAX_TOTAL c = let a = c.args in room-limit a.total a.room c.if-total-gt-MAX_TOTAL.true

pub returns : goal.returns
returns c = let a = c.args in room-rest a.total a.room c.if-total-gt-MAX_TOTAL.false
