-- Worked values: a width, a value's bytes, and the symbols that it says; computed by the definition.
-- Assumes nothing.
use Prim.Native.Nat.{ℕ}
use mathlib.Core.Path.{◌≡◌, refl}
use mathlib.Core.List.{List, [], ◌∷◌, map}
use mathlib.Core.Option.{Option, some, none}
use Rattle.value.specs.Symbol.{symbol_of}
use Rattle.lists.specs.Last.{last_or}
use Rattle.vcd.specs.Vcd.{symbols_in, vcd_bit, text_of, extended, text_symbols, vcd_symbols}

abbrev Case : Type 0
Case = ℕ × List ℕ × Option (List ℕ)

abbrev cases : List Case
cases =
    (1, [], some (0 ∷ [])) ∷  -- ""
    (1, 98 ∷ [], some (0 ∷ [])) ∷  -- "b"
    (1, 98 ∷ 49 ∷ 120 ∷ [], some (2 ∷ [])) ∷  -- "b1x"
    (1, 66 ∷ [], none) ∷  -- "B"
    (1, 113 ∷ 49 ∷ [], some (1 ∷ [])) ∷  -- "q1"
    (1, 49 ∷ 113 ∷ [], none) ∷  -- "1q"
    (1, 49 ∷ 98 ∷ [], some (0 ∷ [])) ∷  -- "1b"
    (4, 49 ∷ 120 ∷ [], some (0 ∷ 0 ∷ 1 ∷ 2 ∷ [])) ∷  -- "1x"
    (3, 49 ∷ 45 ∷ 120 ∷ [], some (1 ∷ 8 ∷ 2 ∷ [])) ∷  -- "1-x"
    (2, 48 ∷ 98 ∷ [], none) ∷  -- "0b"
    (2, 104 ∷ [], none) ∷  -- "h"
    (2, 98 ∷ [], none) ∷  -- "b"
    (2, 49 ∷ 48 ∷ 49 ∷ [], none) ∷  -- "101"
    (2, [], none) ∷  -- ""
    (2, 48 ∷ 98 ∷ 49 ∷ [], some (0 ∷ 1 ∷ [])) ∷  -- "0b1"
    (3, 48 ∷ 98 ∷ 49 ∷ [], some (0 ∷ 0 ∷ 1 ∷ [])) ∷  -- "0b1"
    (2, 66 ∷ 49 ∷ 120 ∷ [], some (1 ∷ 2 ∷ [])) ∷  -- "B1x"
    (2, 98 ∷ 48 ∷ 98 ∷ 49 ∷ [], some (0 ∷ 1 ∷ [])) ∷  -- "b0b1"
    (3, 48 ∷ 66 ∷ 49 ∷ [], none) ∷  -- "0B1"
    (3, 98 ∷ 98 ∷ 49 ∷ [], none) ∷  -- "bb1"
    (3, 98 ∷ 48 ∷ 98 ∷ [], none) ∷  -- "b0b"
    (5, 48 ∷ 98 ∷ 48 ∷ 98 ∷ 49 ∷ [], none) ∷  -- "0b0b1"
    (3, 120 ∷ [], some (2 ∷ 2 ∷ 2 ∷ [])) ∷  -- "x"
    (3, 90 ∷ 49 ∷ [], some (3 ∷ 3 ∷ 1 ∷ [])) ∷  -- "Z1"
    (3, 49 ∷ 104 ∷ [], some (0 ∷ 1 ∷ 4 ∷ [])) ∷  -- "1h"
    (3, 104 ∷ 49 ∷ [], none) ∷  -- "h1"
    (2, 108 ∷ [], none) ∷  -- "l"
    (3, 76 ∷ 49 ∷ [], none) ∷  -- "L1"
    (2, 117 ∷ [], some (5 ∷ 5 ∷ [])) ∷  -- "u"
    (2, 85 ∷ [], some (5 ∷ 5 ∷ [])) ∷  -- "U"
    (3, 119 ∷ 49 ∷ [], some (6 ∷ 6 ∷ 1 ∷ [])) ∷  -- "w1"
    (4, 45 ∷ [], some (8 ∷ 8 ∷ 8 ∷ 8 ∷ [])) ∷  -- "-"
    (3, 98 ∷ 45 ∷ 120 ∷ [], some (8 ∷ 8 ∷ 2 ∷ [])) ∷  -- "b-x"
    (4, 48 ∷ 98 ∷ 119 ∷ [], some (6 ∷ 6 ∷ 6 ∷ 6 ∷ [])) ∷  -- "0bw"
    (4, 48 ∷ 98 ∷ 76 ∷ [], none) ∷  -- "0bL"
    (2, 104 ∷ 49 ∷ [], some (4 ∷ 1 ∷ [])) ∷  -- "h1"
    (9, 48 ∷ 49 ∷ 120 ∷ 122 ∷ 104 ∷ 117 ∷ 119 ∷ 108 ∷ 45 ∷ [], some (0 ∷ 1 ∷ 2 ∷ 3 ∷ 4 ∷ 5 ∷ 6 ∷ 7 ∷ 8 ∷ [])) ∷  -- "01xzhuwl-"
    (0, 49 ∷ [], none) ∷  -- "1"
    []

pub cases-hold : map (λ (c : Case). vcd_symbols c.0 c.1) cases ≡ map (λ (c : Case). c.2) cases
unfolding symbol_of symbols_in last_or vcd_bit text_of extended text_symbols
cases-hold = refl
