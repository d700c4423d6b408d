-- Numbers as text, computed.
-- Assumes nothing.
use Prim.Native.Nat.{◌^◌, ◌-◌}
use mathlib.Core.Path.{◌≡◌, refl}
use Rattle.ascii.specs.Ascii.{ascii, decimal_in, decimal, hexadecimal}

pub zero-written : decimal 0 ≡ ascii "0"
unfolding decimal_in
zero-written = refl

pub ten-written : decimal 10 ≡ ascii "10"
unfolding decimal_in
ten-written = refl

pub most-written : decimal (2 ^ 64 - 1) ≡ ascii "18446744073709551615"
unfolding decimal_in
most-written = refl

pub hex-written : hexadecimal 16 0x3ff00000000000ab ≡ ascii "3ff00000000000ab"
unfolding hexadecimal
hex-written = refl
