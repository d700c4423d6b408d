-- What a change call says to a signal of a kind, computed: document 01, 'Symbol and value', 'Stream of one signal' and
-- 'Turned back' (4, 5, 6).
-- Assumes nothing.
use mathlib.Core.Path.{◌≡◌, refl}
use mathlib.Core.List.{List, [], ◌∷◌, map}
use Rattle.value.specs.Symbol.{symbol_of}
use Rattle.value.specs.Class.{class_of_all, all_symbols}
use Rattle.lists.specs.Last.{last_or}
use Rattle.vcd.specs.Vcd.{symbols_in, vcd_bit, text_of, extended, text_symbols}
use Rattle.packed.specs.Packed.{number_of, digits, unpacked}
use Rattle.packed.specs.Raw.{raw_symbols}
use Rattle.signal.specs.declared.kind.SignalEncoding.{SignalEncoding}
use Rattle.signal.specs.declared.kind.SignalEncoding.TheVariants.{BitVector, Real, Absent}
use Rattle.signal.specs.Content.{happened, symbols, bits, Given, vcd, raw, real, Decoded, refuse, accept, decode}

-- a kind, what was given, and what it says
abbrev Case : Type 0
Case = SignalEncoding × Given × Decoded

abbrev cases : List Case
cases =
    (BitVector 0, vcd [], accept happened 0) ∷  -- ""
    (BitVector 0, vcd (120 ∷ []), accept happened 0) ∷  -- "x"
    (BitVector 0, vcd (113 ∷ []), accept happened 0) ∷  -- "q"
    (BitVector 0, vcd (120 ∷ 120 ∷ []), refuse 6) ∷  -- "xx"
    (BitVector 1, vcd (120 ∷ []), accept (symbols (2 ∷ [])) 1) ∷  -- "x"
    (BitVector 1, vcd (66 ∷ []), refuse 6) ∷  -- "B"
    (BitVector 4, vcd (49 ∷ 120 ∷ []), accept (symbols (0 ∷ 0 ∷ 1 ∷ 2 ∷ [])) 1) ∷  -- "1x"
    (BitVector 2, vcd (49 ∷ 48 ∷ 49 ∷ []), refuse 6) ∷  -- "101"
    (Real, vcd (49 ∷ []), refuse 5) ∷
    (Absent, vcd (49 ∷ []), refuse 4) ∷
    (BitVector 0, raw 0 (1 ∷ []), refuse 5) ∷
    (BitVector 1, raw 0 (1 ∷ []), accept (symbols (1 ∷ [])) 0) ∷
    (BitVector 2, raw 2 (1 ∷ []), accept (symbols (0 ∷ 1 ∷ [])) 2) ∷  -- the claim counts
    (BitVector 2, raw 2 [], refuse 6) ∷
    (BitVector 2, raw 3 (1 ∷ []), refuse 6) ∷
    (Real, raw 0 (1 ∷ []), refuse 5) ∷
    (Absent, raw 0 (1 ∷ []), refuse 4) ∷
    (BitVector 0, real 0, refuse 5) ∷
    (BitVector 1, real 0, refuse 5) ∷
    (BitVector 4, real 0, refuse 5) ∷
    (Real, real 0x3ff0000000000000, accept (bits 0x3ff0000000000000) 0) ∷
    (Absent, real 0, refuse 4) ∷
    []

pub cases-hold : map (λ (c : Case). decode c.0 c.1) cases ≡ map (λ (c : Case). c.2) cases
unfolding decode symbol_of class_of_all all_symbols symbols_in last_or vcd_bit text_of extended text_symbols number_of digits unpacked raw_symbols
cases-hold = refl
