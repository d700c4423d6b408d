-- The number's bytes, and those after it.
use mathlib.Core.Path.{refl}
use native.Mathlib.Omega.{arith}
use Rattle.numbers.proofs.Leb128Laws.{length-leb}
use Rattle.stream_length.proofs.change_len.Goals as goal

pub overflow_add-result : goal.overflow_add-result
overflow_add-result c = omega (arith, c.leb128_len.ensures, length-leb c.change_number.result, c.tail_len.ensures.1)

pub returns : goal.returns
returns c = rw (c.leb128_len.ensures, c.change_number.ensures, c.tail_len.ensures.0) refl
