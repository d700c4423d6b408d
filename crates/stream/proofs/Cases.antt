-- One change as stream bytes, computed: document 01's bench sheet and 'Stream of one signal'; and bytes that no change is written as.
-- Assumes nothing.
use Prim.Native.Nat.{ℕ}
use mathlib.Core.Path.{◌≡◌, refl}
use mathlib.Core.List.{List, [], ◌∷◌, ◌++◌, map}
use Rattle.lists.specs.Got.{bad, got}
use Rattle.numbers.specs.Leb128.{groups, leb_of, read_leb}
use Rattle.numbers.specs.LittleEndian.{le, unle}
use Rattle.value.specs.Class.{class_of_all, all_symbols}
use Rattle.packed.specs.Packed.{number_of, digits, packed, unpacked}
use Rattle.signal.specs.declared.kind.SignalEncoding.{SignalEncoding}
use Rattle.signal.specs.declared.kind.SignalEncoding.TheVariants.{BitVector, Real, Absent}
use Rattle.signal.specs.Content.{Content, happened, symbols, bits}
use Rattle.stream.specs.Stream.{change, change_bytes, value_after, read_change}

-- a kind, d, a content, and the bytes
abbrev Case : Type 0
Case = SignalEncoding × ℕ × Content × List ℕ

abbrev cases : List Case
cases =
    (BitVector 0, 0, happened, 0x00 ∷ []) ∷
    (BitVector 0, 200, happened, 0xc8 ∷ 0x01 ∷ []) ∷
    (BitVector 0, 65534, happened, 0xfe ∷ 0xff ∷ 0x03 ∷ []) ∷
    (BitVector 1, 8, symbols (1 ∷ []), 0x81 ∷ 0x01 ∷ []) ∷
    (BitVector 4, 0, symbols (0 ∷ 0 ∷ 1 ∷ 2 ∷ []), 0x01 ∷ 0x06 ∷ []) ∷  -- 001x
    (BitVector 4, 1, symbols (0 ∷ 0 ∷ 0 ∷ 1 ∷ []), 0x04 ∷ 0x01 ∷ []) ∷  -- 0001
    (BitVector 3, 0, symbols (1 ∷ 8 ∷ 2 ∷ []), 0x02 ∷ 0x01 ∷ 0x82 ∷ []) ∷  -- 1-x
    (Real, 1, bits 0x3ff0000000000000, 0x01 ∷ 0x00 ∷ 0x00 ∷ 0x00 ∷ 0x00 ∷ 0x00 ∷ 0x00 ∷ 0xf0 ∷ 0x3f ∷ []) ∷
    []

pub written : map (λ (c : Case). change_bytes c.0 c.1 c.2) cases ≡ map (λ (c : Case). c.3) cases
unfolding change_bytes leb_of groups le class_of_all packed digits number_of
written = refl

-- before two bytes more
pub read : map (λ (c : Case). read_change c.0 (c.3 ++ 0x55 ∷ 0xaa ∷ [])) cases
    ≡ map (λ (c : Case). got (change c.1 c.2) (0x55 ∷ 0xaa ∷ [])) cases
unfolding read_change value_after read_leb unle class_of_all all_symbols unpacked digits number_of
read = refl

abbrev refused : List (SignalEncoding × List ℕ)
refused =
    (BitVector 0, []) ∷
    (BitVector 0, 0x80 ∷ 0x00 ∷ []) ∷  -- not the shortest form
    (BitVector 0, 0xff ∷ 0xff ∷ 0x03 ∷ []) ∷  -- d is 65,535
    (BitVector 1, 0x09 ∷ []) ∷  -- symbol 9
    (BitVector 2, 0x03 ∷ 0x00 ∷ []) ∷  -- no class is 3
    (BitVector 2, 0x00 ∷ []) ∷  -- the value is missing
    (BitVector 2, 0x00 ∷ 0x04 ∷ []) ∷  -- an unused top bit is set
    (BitVector 2, 0x01 ∷ 0x01 ∷ []) ∷  -- 01 in class Four
    (BitVector 2, 0x02 ∷ 0x19 ∷ []) ∷  -- symbol 9
    (Real, 0x01 ∷ 0x00 ∷ 0x00 ∷ 0x00 ∷ 0x00 ∷ 0x00 ∷ 0xf0 ∷ 0x3f ∷ []) ∷  -- 7 bytes
    (Absent, 0x00 ∷ []) ∷
    []

pub not-read : map (λ (c : SignalEncoding × List ℕ). read_change c.0 c.1) refused
    ≡ map (λ (c : SignalEncoding × List ℕ). bad) refused
unfolding read_change value_after read_leb unle class_of_all all_symbols unpacked digits number_of
not-read = refl
