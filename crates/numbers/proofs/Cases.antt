-- The definitions at published numbers and at the bounds, computed: DWARF's examples of unsigned LEB128 (section 7.6), one of three
-- bytes, the largest number; forms that are refused; a little-endian number.
-- Assumes nothing.
use Prim.Native.Nat.{ℕ}
use mathlib.Core.Path.{◌≡◌, refl}
use mathlib.Core.List.{List, [], ◌∷◌, map}
use lib.ListN.{length}
use Rattle.numbers.specs.Leb128.{groups, leb_of, read_leb, leb_at}
use Rattle.numbers.specs.LittleEndian.{le, unle}
use Rattle.std.specs.Prelude.{Some, None}

-- a number and its bytes
abbrev examples : List (ℕ × List ℕ)
examples =
    (2, 0x02 ∷ [])
    ∷ (127, 0x7f ∷ [])
    ∷ (128, 0x80 ∷ 0x01 ∷ [])
    ∷ (129, 0x81 ∷ 0x01 ∷ [])
    ∷ (130, 0x82 ∷ 0x01 ∷ [])
    ∷ (12857, 0xb9 ∷ 0x64 ∷ [])
    ∷ (624485, 0xe5 ∷ 0x8e ∷ 0x26 ∷ [])
    ∷ (4294967295, 0xff ∷ 0xff ∷ 0xff ∷ 0xff ∷ 0x0f ∷ [])
    ∷ []

pub written : map (λ (e : ℕ × List ℕ). leb_of e.0) examples ≡ map (λ (e : ℕ × List ℕ). e.1) examples
unfolding leb_of groups
written = refl

pub read : map (λ (e : ℕ × List ℕ). leb_at e.1 0) examples ≡ map (λ (e : ℕ × List ℕ). Some (e.0, length e.1)) examples
unfolding read_leb
read = refl

-- no bytes, bytes that end too early, 0 in two bytes, 2^32, 2^33 - 1, and six bytes
abbrev refused : List (List ℕ)
refused =
    []
    ∷ (0x80 ∷ [])
    ∷ (0x80 ∷ 0x00 ∷ [])
    ∷ (0x80 ∷ 0x80 ∷ 0x80 ∷ 0x80 ∷ 0x10 ∷ [])
    ∷ (0xff ∷ 0xff ∷ 0xff ∷ 0xff ∷ 0x1f ∷ [])
    ∷ (0x80 ∷ 0x80 ∷ 0x80 ∷ 0x80 ∷ 0x80 ∷ 0x01 ∷ [])
    ∷ []

pub not-read : map (λ (s : List ℕ). leb_at s 0) refused ≡ map (λ (s : List ℕ). None) refused
unfolding read_leb
not-read = refl

pub lowest-first : le 4 0x12345678 ≡ 0x78 ∷ 0x56 ∷ 0x34 ∷ 0x12 ∷ []
unfolding le
lowest-first = refl

pub lowest-first-read : unle (0x78 ∷ 0x56 ∷ 0x34 ∷ 0x12 ∷ []) ≡ 0x12345678
unfolding unle
lowest-first-read = refl
