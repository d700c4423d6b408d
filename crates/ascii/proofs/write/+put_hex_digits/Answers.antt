-- The digits of n / 16, in a place fewer, and then the last one.
use Prim.Native.Nat.{ℕ}
use mathlib.Core.Path.{sym, ap, ◌∙◌}
use native.Mathlib.Omega.{arith}
use Rattle.ascii.specs.Ascii.{hexadecimal}
use Rattle.ascii.proofs.PutLaws.{puts-append, puts-as, puts_none, room_as, room-first, room-rest}
use Rattle.ascii.proofs.NumberLaws.{hex-none, hex-more}
use Rattle.ascii.proofs.write.+put_hex_digits.Goals as goal

pub returns-then-places-eq0 : goal.returns-then-places-eq0
returns-then-places-eq0 t c = puts-as (sym (ap (λ (k : ℕ). hexadecimal k c.args.n) c.if-places-eq0.true ∙ hex-none c.args.n)) puts_none

pub put_hex_digits-p-requires : goal.put_hex_digits-p-requires
put_hex_digits-p-requires t c = (omega arith, room-first _ (room_as (hex-more c.args.places c.args.n (omega arith)) c.requires))

pub put_digit-requires : goal.put_digit-requires
put_digit-requires t c = (
  omega arith,
  room-rest c.put_hex_digits-p.ensures (room_as (hex-more c.args.places c.args.n (omega arith)) c.requires),
)

pub returns : goal.returns
returns t c =
    puts-as (sym (hex-more c.args.places c.args.n (omega arith)))
    (puts-append c.put_hex_digits-p.ensures c.put_digit.ensures)
