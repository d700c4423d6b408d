-- Packed and raw values: document 01's bench sheet and its rules on raw values, computed.
-- Assumes nothing.
use mathlib.Core.Path.{◌≡◌, refl}
use mathlib.Core.Bool.{true, false}
use mathlib.Core.List.{[], ◌∷◌}
use mathlib.Core.Option.{some, none}
use Rattle.value.specs.Class.{class_of_all, all_symbols}
use Rattle.packed.specs.Packed.{number_of, digits, packed, unpacked, top_clear}
use Rattle.packed.specs.Raw.{raw_symbols}

-- ---- the sheet: the class of the symbols, and their bytes in it, both ways

-- width 4 "1x", extended to 001x
pub packed-001x : (class_of_all (0 ∷ 0 ∷ 1 ∷ 2 ∷ []) ≡ 1) × (packed 1 (0 ∷ 0 ∷ 1 ∷ 2 ∷ []) ≡ 0x06 ∷ []) × (unpacked 4 1 (0x06 ∷ []) ≡ 0 ∷ 0 ∷ 1 ∷ 2 ∷ [])
unfolding class_of_all packed unpacked digits number_of
packed-001x = (refl, refl, refl)

-- width 3 "1-x"
pub packed-1-x : (class_of_all (1 ∷ 8 ∷ 2 ∷ []) ≡ 2) × (packed 2 (1 ∷ 8 ∷ 2 ∷ []) ≡ 0x01 ∷ 0x82 ∷ []) × (unpacked 3 2 (0x01 ∷ 0x82 ∷ []) ≡ 1 ∷ 8 ∷ 2 ∷ [])
unfolding class_of_all packed unpacked digits number_of
packed-1-x = (refl, refl, refl)

-- width 3 "101"
pub packed-101 : (class_of_all (1 ∷ 0 ∷ 1 ∷ []) ≡ 0) × (packed 0 (1 ∷ 0 ∷ 1 ∷ []) ≡ 0x05 ∷ []) × (unpacked 3 0 (0x05 ∷ []) ≡ 1 ∷ 0 ∷ 1 ∷ [])
unfolding class_of_all packed unpacked digits number_of
packed-101 = (refl, refl, refl)

-- width 3 "1x0"
pub packed-1x0 : (class_of_all (1 ∷ 2 ∷ 0 ∷ []) ≡ 1) × (packed 1 (1 ∷ 2 ∷ 0 ∷ []) ≡ 0x18 ∷ []) × (unpacked 3 1 (0x18 ∷ []) ≡ 1 ∷ 2 ∷ 0 ∷ [])
unfolding class_of_all packed unpacked digits number_of
packed-1x0 = (refl, refl, refl)

-- ---- the bits above the symbols

pub top-zero : top_clear 3 2 (0x01 ∷ 0x82 ∷ []) ≡ true
unfolding number_of
top-zero = refl

pub top-dirty : top_clear 3 2 (0x11 ∷ 0x82 ∷ []) ≡ false
unfolding number_of
top-dirty = refl

-- a first byte that is full has none
pub top-full : top_clear 4 2 (0xf1 ∷ 0x82 ∷ []) ≡ true
unfolding number_of
top-full = refl

-- ---- raw values

pub raw-as-it-is : raw_symbols 3 2 (0x01 ∷ 0x82 ∷ []) ≡ some (1 ∷ 8 ∷ 2 ∷ [])
unfolding raw_symbols all_symbols unpacked digits number_of
raw-as-it-is = refl

-- a class above the symbols' own
pub raw-wider-claim : raw_symbols 3 2 (0x01 ∷ 0x01 ∷ []) ≡ some (1 ∷ 0 ∷ 1 ∷ [])
unfolding raw_symbols all_symbols unpacked digits number_of
raw-wider-claim = refl

-- leading bytes, and top bits that would be no symbol, are ignored
pub raw-leading : raw_symbols 3 2 (0x55 ∷ 0xaa ∷ 0xf1 ∷ 0x82 ∷ []) ≡ some (1 ∷ 8 ∷ 2 ∷ [])
unfolding raw_symbols all_symbols unpacked digits number_of
raw-leading = refl

pub raw-too-few : raw_symbols 3 2 (0x82 ∷ []) ≡ none
unfolding raw_symbols
raw-too-few = refl

pub raw-claim-three : raw_symbols 1 3 (0x01 ∷ []) ≡ none
unfolding raw_symbols
raw-claim-three = refl

pub raw-symbol-nine : raw_symbols 3 2 (0x01 ∷ 0x92 ∷ []) ≡ none
unfolding raw_symbols all_symbols unpacked digits number_of
raw-symbol-nine = refl
