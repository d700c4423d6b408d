-- The digits of n / 10, and then the last one.
use mathlib.Core.Path.{sym}
use native.Mathlib.Omega.{arith}
use Rattle.ascii.proofs.PutLaws.{puts-append, puts-as, room_as, room-first, room-rest}
use Rattle.ascii.proofs.NumberLaws.{decimal-small, decimal-big}
use Rattle.ascii.proofs.write.+put_decimal.Goals as goal

pub put_digit-requires : goal.put_digit-requires
put_digit-requires t c = (omega arith, room_as (decimal-small c.args.n c.if-n-lt10.true) c.requires)

pub returns-then-n-lt10 : goal.returns-then-n-lt10
returns-then-n-lt10 t c = puts-as (sym (decimal-small c.args.n c.if-n-lt10.true)) c.put_digit.ensures

pub put_decimal-p-requires : goal.put_decimal-p-requires
put_decimal-p-requires t c = (omega arith, room-first _ (room_as (decimal-big c.args.n (omega arith) (omega arith)) c.requires))

pub put_digit-requires-2 : goal.put_digit-requires-2
put_digit-requires-2 t c = (
  omega arith,
  room-rest c.put_decimal-p.ensures (room_as (decimal-big c.args.n c.if-n-lt10.false (omega arith)) c.requires),
)

pub returns : goal.returns
returns t c =
    puts-as (sym (decimal-big c.args.n c.if-n-lt10.false (omega arith)))
    (puts-append c.put_decimal-p.ensures c.put_digit-2.ensures)
