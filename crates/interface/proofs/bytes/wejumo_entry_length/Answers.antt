-- The length, of the kind and the class that the numbers give.
-- Assumes nothing.
use Rattle.std.proofs.Common.{refl}
use Rattle.interface.proofs.bytes.wejumo_entry_length.Goals as goal

pub returns : goal.returns
returns c = rw (c.entry_len.ensures, c.from_number.ensures, c.kind_from.ensures) refl
