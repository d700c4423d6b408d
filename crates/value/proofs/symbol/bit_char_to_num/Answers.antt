-- For 0 and 1 by their code; else the table's number, 255 being "no symbol", since a symbol is below 9.
use mathlib.Core.Path.{ap, sym, ◌∙◌}
use Rattle.value.specs.Symbol.{symbol_of, maybe_bit}
use Rattle.value.proofs.SymbolLaws.{symbol-below, none_number, digit-symbol}
use Rattle.value.proofs.symbol.bit_char_to_num.Goals as goal

pub returns-then-is_digit : goal.returns-then-is_digit
returns-then-is_digit c = sym (ap maybe_bit (digit-symbol _ _ c.is_digit.ensures c.if-is_digit.true).2)

pub returns-in-255 : goal.returns-in-255
returns-in-255 c = sym (ap maybe_bit (none_number (symbol_of c.args.value) (symbol-below _) (sym c.table_number.ensures ∙ c.in-255.is)))
