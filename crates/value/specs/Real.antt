-- A real's content is its 64 bits. The f64 of a pattern is what IEEE 754 gives it (binary64); each NaN's pattern gives the one NaN of the
-- logic, so the bits stand beside it.
-- Assumes nothing.
use Rattle.std.specs.Prelude.{ℕ}
use Rattle.std.specs.Float.{binary64}
use Rattle.std.specs.Float.Ieee.{of_bits}
use Rattle.value.specs.declared.real.SignalValue.TheVariants.{Real}
use Rattle.value.specs.declared.real.Entry.{Entry}

abbrev pub real_entry : ℕ → Entry
real_entry n = record { value = Real (of_bits binary64 n); bits = n }
