-- A packed value in its own class, packed again: its last bytes, of which the first loses the bits above the symbols.
-- Assumes nothing.
use Prim.Native.Nat.{ℕ, suc, ◌+◌, ◌-◌, ◌*◌, ◌/◌, ◌%◌, ◌^◌, ◌≤◌, ◌<◌}
use mathlib.Core.Path.{◌≡◌, refl, sym, ap, ap₂, ◌∙◌}
use mathlib.Core.List.{List, [], ◌∷◌}
use native.Mathlib.Nat.{sub_self, mod-lt, mod-eq_of_lt, mul-add-mod_self_right, lt_of_lt_of_le}
use native.Mathlib.Omega.{arith}
use native.Mathlib.Decide.{dec_lt}
use lib.ListN.{length, get_or, take, drop}
use lib.Seq.{take-length}
use lib.Pow.{pow_pos, pow_mono, field, mod-mod-pow}
use Rattle.lists.specs.Bytes.{Bytes}
use Rattle.lists.proofs.BytesLaws.{tail-bytes}
use Rattle.value.specs.Class.{bits_of}
use Rattle.packed.specs.Packed.{number_of, digits, packed_length, packed, unpacked}
use Rattle.packed.proofs.PackedLaws.{digits_mod, digits_number, packed-number, byte_at}

-- a byte in front does not count among the n lowest
digits_step : (n x : ℕ) (l : List ℕ) → n ≤ length l → digits 8 n (number_of 8 (x ∷ l)) ≡ digits 8 n (number_of 8 l)
unfolding number_of
digits_step n x l h =
    let k : ℕ = length l * 8 in
    let m : n * 8 ≤ k = omega arith in
    sym (digits_mod 8 n k (x * 2 ^ k + number_of 8 l) m)
    ∙ ap (digits 8 n) (mul-add-mod_self_right x (2 ^ k) (number_of 8 l))
    ∙ digits_mod 8 n k (number_of 8 l) m

-- the n lowest bytes of a number are the last n of those that make it
digits_last : (n : ℕ) (b : List ℕ) → Bytes b → n ≤ length b → digits 8 n (number_of 8 b) ≡ take n (drop (length b - n) b)
unfolding digits
digits_last n [] y h = let z : n ≡ 0 = omega arith in rw z refl
digits_last n (x ∷ l) y h = by (dec_lt (length l) n) (digits_last n l (tail-bytes x l y))
  where
    by : Dec (length l < n) → (n ≤ length l → digits 8 n (number_of 8 l) ≡ take n (drop (length l - n) l))
        → digits 8 n (number_of 8 (x ∷ l)) ≡ take n (drop (suc (length l) - n) (x ∷ l))
    by (yes g) r =
        let e : n ≡ suc (length l) = omega arith in
        rw (e, sub_self (suc (length l)), take-length (x ∷ l)) (digits_number 8 (x ∷ l) y)
    by (no g) r =
        let e : suc (length l) - n ≡ suc (length l - n) = omega arith in
        digits_step n x l (omega arith) ∙ rw e (r (omega arith))

-- the first byte is full
pub copy-full : (w c : ℕ) (b : List ℕ) → Bytes b → packed_length w c ≤ length b → w * bits_of c % 8 ≡ 0
    → packed c (unpacked w c b) ≡ take (packed_length w c) (drop (length b - packed_length w c) b)
copy-full w c b y l h =
    packed-number w c b
    ∙ digits_mod 8 (packed_length w c) (w * bits_of c) (number_of 8 b) (omega arith)
    ∙ digits_last (packed_length w c) b y l

-- the lowest u bits of a byte that k bits follow
low_byte : (v u k : ℕ) → u < 8 → v % 2 ^ (u + k) / 2 ^ k % 2 ^ 8 ≡ v / 2 ^ k % 2 ^ 8 % 2 ^ u
low_byte v u k h =
    let n : u ≤ 8 = omega arith in
    let e : 8 ≡ 8 - u + u = omega arith in
    let f : v / 2 ^ k % 2 ^ u < 2 ^ 8 = lt_of_lt_of_le (mod-lt (v / 2 ^ k) (pow_pos u)) (pow_mono n) in
    ap (λ (x : ℕ). x % 2 ^ 8) (field v u k)
    ∙ mod-eq_of_lt f
    ∙ sym (ap (λ (m : ℕ). v / 2 ^ k % 2 ^ m % 2 ^ u) e ∙ mod-mod-pow (v / 2 ^ k) (8 - u) u)

-- the first byte has bits above the symbols
pub copy-part : (w c : ℕ) (b : List ℕ) → Bytes b → packed_length w c ≤ length b → (w * bits_of c % 8 ≡ 0 → ⊥)
    → packed c (unpacked w c b) ≡ get_or b (length b - packed_length w c) 0 % 2 ^ (w * bits_of c % 8) ∷ take (packed_length w c - 1) (drop (length b - packed_length w c + 1) b)
unfolding digits
copy-part w c b h l u =
    let n : ℕ = packed_length w c - 1 in
    let v : ℕ = number_of 8 b in
    let e : packed_length w c ≡ suc n = omega arith in
    let f : w * bits_of c ≡ w * bits_of c % 8 + n * 8 = omega arith in
    let g : length b - 1 - n ≡ length b - packed_length w c = omega arith in
    let r : length b - n ≡ length b - packed_length w c + 1 = omega arith in
    packed-number w c b
    ∙ ap₂ (λ (m k : ℕ). digits 8 m (v % 2 ^ k)) e f
    ∙ ap₂ ◌∷◌
    (low_byte v (w * bits_of c % 8) (n * 8) (omega arith) ∙ ap (λ (x : ℕ). x % 2 ^ (w * bits_of c % 8)) (sym (byte_at b n h (omega arith)) ∙ ap (λ (i : ℕ). get_or b i 0) g))
    (digits_mod 8 n (w * bits_of c % 8 + n * 8) v (omega arith) ∙ digits_last n b h (omega arith) ∙ ap (λ (i : ℕ). take n (drop i b)) r)
