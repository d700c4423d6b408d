-- The symbols of either notation: as many as the width, and the digits of their number in a class that holds them.
-- Assumes nothing.
use Prim.Native.Nat.{ℕ, suc, ◌+◌, ◌-◌, ◌*◌, ◌^◌, ◌≤◌, ◌<◌}
use mathlib.Core.Path.{◌≡◌, refl, sym, ap, ◌∙◌}
use mathlib.Core.Bool.{true}
use mathlib.Core.List.{List}
use native.Mathlib.Nat.{mul-le-mul_right, suc-mul}
use native.Mathlib.Numerals.{add-one}
use native.Mathlib.Omega.{arith}
use borrow.Author.Tests.{eqb-true}
use lib.Dec.{ltb}
use lib.ListN.{length, get_or}
use Rattle.lists.specs.Choice.{pick}
use Rattle.value.specs.Class.{class_number, bits_of}
use Rattle.value.specs.Symbol.{symbol_of, or_number}
use Rattle.value.specs.declared.states.States.{States}
use Rattle.vcd.proofs.VcdLaws.{text-good}
use Rattle.packed.specs.Packed.{number_of, digit_at, digits, per_byte, packed_length, packed, unpacked}
use Rattle.packed.proofs.PackedLaws.{AllBelow, symbols-below, number_lt, digits_number, digit_at_lem, length-unpacked, unpacked-at}
use Rattle.packer.specs.Notation.{symbols_from, Readable}
use Rattle.packer.specs.Number.{number_in, Held, standing_in, in_class}
use Rattle.packer.specs.declared.Notation.{Notation}
use Rattle.packer.specs.declared.Notation.TheVariants.{Ascii, Packed}
use Rattle.packer.proofs.PackLaws.{byte-in, same-symbols, taken-byte}

pub length_from : (n : Notation) (w : ℕ) (b : List ℕ) → Readable n w b → length (symbols_from n w b) ≡ w
length_from Ascii w b h = (text-good w b h).size
length_from (Packed c) w b h = length-unpacked w (class_number c) b

pub standing-in : (n : Notation) (w : ℕ) (b : List ℕ) → Readable n w b → standing_in n w b ≤ w
standing-in Ascii w b h = (text-good w b h).fits
standing-in (Packed c) w b h = omega arith

-- bytes that are those of the class already
pub same_class : (n : Notation) (w c : ℕ) (b : List ℕ) → Readable n w b → in_class n c ≡ true
    → (packed_length w c ≤ length b) × (symbols_from n w b ≡ unpacked w c b)
same_class Ascii w c b h e = let z : ◌≡◌ {A = ℕ} 0 1 = cc in absurd (omega arith)
same_class (Packed k) w c b h e =
    let f = eqb-true (class_number k) c e in
    (rw f at h, rw f refl)

pub packed-digits : (n : Notation) (w c : ℕ) (b : List ℕ) → Readable n w b
    → packed c (symbols_from n w b) ≡ digits 8 (packed_length w c) (number_in c n w b)
unfolding packed
packed-digits n w c b h = rw (length_from n w b h) refl

module _ (n : Notation) (w c : ℕ) (b : List ℕ) (held : Held n w c b) where
  below : AllBelow (2 ^ bits_of c) (symbols_from n w b)
  below = symbols-below c (symbols_from n w b) held.1 held.2

  size : length (symbols_from n w b) ≡ w
  size = length_from n w b held.0

  pub number_small : number_in c n w b < 2 ^ (w * bits_of c)
  number_small = rw size at (number_lt (bits_of c) (symbols_from n w b) below)

  -- the symbol that j symbols follow
  pub symbol-digit : (i j : ℕ) → i + suc j ≡ w → get_or (symbols_from n w b) i 0 ≡ digit_at (bits_of c) j (number_in c n w b)
  symbol-digit i j e =
      let v : ℕ = number_in c n w b in
      let f : w - 1 - i ≡ j = omega arith in
      ap (λ (l : List ℕ). get_or l i 0) (sym (rw size at (digits_number (bits_of c) (symbols_from n w b) below)))
      ∙ digit_at_lem (bits_of c) w v i (omega arith)
      ∙ ap (λ (k : ℕ). digit_at (bits_of c) k v) f

-- in a text, and in a packed value
pub text-digit : (w c : ℕ) (u : List ℕ) → Held Ascii w c u → (i j : ℕ) → i + suc j ≡ length u
    → or_number 255 (symbol_of (get_or u i 0)) ≡ digit_at (bits_of c) j (number_in c Ascii w u)
text-digit w c u h i j e =
    let t = text-good w u h.0 in
    let k : i + (w - length u) - (w - length u) ≡ i = omega arith in
    ap (λ (m : ℕ). or_number 255 (symbol_of (get_or u m 0))) (sym k)
    ∙ sym (t.at (i + (w - length u)) (omega arith) (omega arith))
    ∙ symbol-digit Ascii w c u h (i + (w - length u)) j (omega arith)

pub packed-digit : (w c : ℕ) (k : States) (b : List ℕ) → Held (Packed k) w c b → (j : ℕ) → j < w
    → digit_at (bits_of (class_number k)) j (number_of 8 b) ≡ digit_at (bits_of c) j (number_in c (Packed k) w b)
packed-digit w c k b h j l =
    let i : ℕ = w - 1 - j in
    let e : w - 1 - i ≡ j = omega arith in
    ap (λ (m : ℕ). digit_at (bits_of (class_number k)) m (number_of 8 b)) (sym e)
    ∙ sym (unpacked-at w (class_number k) b i (omega arith))
    ∙ symbol-digit (Packed k) w c b h i j (omega arith)

-- before the symbols that stand in a text its extension has one symbol at every place
extension-digit : (w c : ℕ) (u : List ℕ) → Held Ascii w c u → (j : ℕ) → length u ≤ j → j < w
    → digit_at (bits_of c) j (number_in c Ascii w u) ≡ pick (ltb (or_number 255 (symbol_of (get_or u 0 0))) 2) 0 (or_number 255 (symbol_of (get_or u 0 0)))
extension-digit w c u h j k l =
    sym (symbol-digit Ascii w c u h (w - 1 - j) j (omega arith)) ∙ (text-good w u h.0).left (w - 1 - j) (omega arith)

byte_inside : (w c j : ℕ) → j + 1 < packed_length w c → j * per_byte c + per_byte c < w
byte_inside w c j r = rw (add-one j, suc-mul j (per_byte c)) at (byte-in w c (j + 1) r)

-- so two bytes of it are alike
pub alike-byte : (n : Notation) (w c : ℕ) (b : List ℕ) → Held n w c b → (i j : ℕ) → standing_in n w b ≤ i * per_byte c → i ≤ j → j + 1 < packed_length w c
    → digit_at 8 i (number_in c n w b) ≡ digit_at 8 j (number_in c n w b)
alike-byte (Packed k) w c b h i j s l r = absurd (omega (arith, byte_inside w c j r, mul-le-mul_right (per_byte c) l))
alike-byte Ascii w c u h i j s l r =
    let v : ℕ = number_in c Ascii w u in
    let p : ℕ = per_byte c in
    let end = byte_inside w c j r in
    let less = mul-le-mul_right p l in
    sym (taken-byte c i v)
    ∙ same-symbols (bits_of c) v (i * p) (j * p) p (λ t k. extension-digit w c u h (i * p + t) (omega arith) (omega arith) ∙ sym (extension-digit w c u h (j * p + t) (omega arith) (omega arith)))
    ∙ taken-byte c j v
