-- The largest class of a packed value's symbols, byte by byte: digits are split in two, and a byte is the digits between two splits.
-- Assumes nothing.
use Prim.Native.Nat.{ℕ, zero, suc, ◌+◌, ◌-◌, ◌*◌, ◌/◌, ◌%◌, ◌^◌, ◌≤◌, ◌<◌, max}
use mathlib.Core.Path.{◌≡◌, refl, sym, ap, ◌∙◌}
use mathlib.Core.Bool.{true}
use mathlib.Core.List.{List}
use native.Mathlib.Nat.{div-one, max-zero, zero-max, zero-add, suc-add, add_comm, zero-div, zero-mod, mod-eq_of_lt, mod-lt, div-eq_of_lt, mul_assoc, suc-mul, mul-le-mul_right}
use native.Mathlib.Omega.{arith}
use borrow.Author.Tests.{ltb-true}
use lib.ListN.{length, get_or}
use lib.Pow.{pow_pos, shr-shr}
use Rattle.lists.specs.Bytes.{Bytes}
use Rattle.value.specs.Class.{bits_of, symbol_class, largest_class}
use Rattle.packed.specs.Packed.{number_of, digit_at, digits, per_byte, packed_length, unpacked, top_clear}
use Rattle.packed.proofs.PackedLaws.{digits_mod, byte_full, byte_at, bits-class}

-- ---- digits of b bits

class-zero : (b n : ℕ) → largest_class (digits b n 0) ≡ 0
unfolding digits largest_class
class-zero b zero = refl
class-zero b (suc n) = rw (class-zero b n, zero-div (2 ^ (n * b)), zero-mod (2 ^ b)) refl

-- the upper digits, and the j lower ones
class-split : (b i j v : ℕ) → largest_class (digits b (i + j) v) ≡ max (largest_class (digits b i (v / 2 ^ (j * b)))) (largest_class (digits b j v))
unfolding digits largest_class
class-split b zero j v = rw (zero-add j) (omega arith)
class-split b (suc i) j v =
    let e : (i + j) * b ≡ j * b + i * b = omega arith in
    let d : digit_at b (i + j) v ≡ digit_at b i (v / 2 ^ (j * b)) = rw (e, shr-shr v (j * b) (i * b)) refl in
    rw (suc-add i j, d) (omega (arith, class-split b i j v))

-- the r lowest digits of k, where the others are taken away
class_low : (b k r x : ℕ) → r ≤ k → largest_class (digits b k (x % 2 ^ (r * b))) ≡ largest_class (digits b r x)
class_low b k r x h =
    let y = x % 2 ^ (r * b) in
    let e : k ≡ k - r + r = omega arith in
    let z : y / 2 ^ (r * b) ≡ 0 = div-eq_of_lt (mod-lt x (pow_pos (r * b))) in
    ap (λ (n : ℕ). largest_class (digits b n y)) e ∙
    class-split b (k - r) r y ∙
    rw (z, class-zero b (k - r), digits_mod b r (r * b) x (omega arith)) (omega arith)

-- ---- the bytes of a class's symbols

-- a byte of eight symbols of one bit, of four of two and of two of four
pub two_in : (x : ℕ) → largest_class (digits 1 8 x) ≡ 0
two_in x = bits-class 8 x

pub four_in : (x : ℕ) → largest_class (digits 2 4 x)
    ≡ max (max (max (symbol_class (x / 64 % 4)) (symbol_class (x / 16 % 4))) (symbol_class (x / 4 % 4))) (symbol_class (x % 4))
unfolding digits largest_class
four_in x = rw (div-one x) (omega arith)

pub nine_in : (x : ℕ) → largest_class (digits 4 2 x) ≡ max (symbol_class (x / 16 % 16)) (symbol_class (x % 16))
unfolding digits largest_class
nine_in x = rw (div-one x, max-zero (symbol_class (x % 16))) refl

-- the largest class of the n lowest symbols of a number
abbrev pub class_among : (class n v : ℕ) → ℕ
class_among c n v = largest_class (digits (bits_of c) n v)

-- the r lowest symbols of a byte, above j whole bytes
class-above : (c r j : ℕ) (l : List ℕ) → Bytes l → j < length l → r ≤ per_byte c
    → class_among c (r + j * per_byte c) (number_of 8 l)
    ≡ max (class_among c (per_byte c) (get_or l (length l - j - 1) 0 % 2 ^ (r * bits_of c))) (class_among c (j * per_byte c) (number_of 8 l))
class-above c r j l y p h =
    let b = bits_of c in
    let v = number_of 8 l in
    let e : j * per_byte c * b ≡ j * 8 = mul_assoc j (per_byte c) b ∙ ap (λ (n : ℕ). j * n) (byte_full c) in
    let f : r * b ≤ 8 = rw (byte_full c) at (mul-le-mul_right b h) in
    let at : length l - j - 1 ≡ length l - 1 - j = omega arith in
    class-split b r (j * per_byte c) v ∙
    rw (e, at, class_low b (per_byte c) r (get_or l (length l - 1 - j) 0) h, byte_at l j y p, digits_mod b r 8 (v / 2 ^ (j * 8)) f) refl

-- whole bytes from i on: the byte at i, and those after it
pub class-turn : (c i : ℕ) (l : List ℕ) → Bytes l → i < length l
    → class_among c ((length l - i) * per_byte c) (number_of 8 l)
    ≡ max (class_among c (per_byte c) (get_or l i 0)) (class_among c ((length l - (i + 1)) * per_byte c) (number_of 8 l))
class-turn c i l y h =
    let j = length l - (i + 1) in
    let e : length l - i ≡ suc j = omega arith in
    let f : length l - j - 1 ≡ i = omega arith in
    rw (e, suc-mul j (per_byte c), add_comm (j * per_byte c) (per_byte c))
    (rw (f, byte_full c, mod-eq_of_lt (y i)) at (class-above c (per_byte c) j l y (omega arith) (omega arith)))

-- a value's symbols are those of its whole bytes, and those in the bits before them
parts : (w c : ℕ)
    → (w ≡ w * bits_of c % 8 / bits_of c + w * bits_of c / 8 * per_byte c)
    × (w * bits_of c % 8 / bits_of c ≤ per_byte c)
    × (w * bits_of c % 8 / bits_of c * bits_of c ≡ w * bits_of c % 8)
parts w zero = omega arith
parts w (suc zero) = omega arith
parts w (suc (suc c)) = omega arith

-- where the whole bytes begin, by the largest class before them: in a byte of which some bits are used, or in none; b is the class's bits
pub start-part : (w c b : ℕ) (l : List ℕ) → b ≡ bits_of c → Bytes l → w * b / 8 < length l
    → max
    (class_among c (per_byte c) (get_or l (length l - w * b / 8 - 1) 0 % 2 ^ (w * b % 8)))
    (class_among c ((length l - (length l - w * b / 8)) * per_byte c) (number_of 8 l))
    ≡ largest_class (unpacked w c l)
unfolding unpacked
start-part w c b l e y h =
    let p = parts w c in
    let f : length l - (length l - w * b / 8) ≡ w * b / 8 = omega arith in
    rw (f, e)
    (sym
    (ap (λ (n : ℕ). class_among c n (number_of 8 l)) p.0 ∙
    rw p.2 at (class-above c (w * bits_of c % 8 / bits_of c) (w * bits_of c / 8) l y (rw e at h) p.1)))

pub start-whole : (w c b : ℕ) (l : List ℕ) → b ≡ bits_of c → w * b / 8 ≤ length l → w * b % 8 ≡ 0
    → class_among c ((length l - (length l - w * b / 8)) * per_byte c) (number_of 8 l) ≡ largest_class (unpacked w c l)
unfolding unpacked
start-whole w c b l e h z =
    let k = w * bits_of c / 8 * per_byte c in
    let f : length l - (length l - w * b / 8) ≡ w * b / 8 = omega arith in
    let g : w ≡ k = rw (rw e at z, zero-div (bits_of c), zero-add k) at (parts w c).0 in
    rw (f, e) (ap (λ (n : ℕ). class_among c n (number_of 8 l)) (sym g))

-- a value whose bits above its symbols are zero has the class of all its bytes
room : (w c m : ℕ) → m ≡ packed_length w c → w ≤ m * per_byte c
room w zero m e = omega arith
room w (suc zero) m e = omega arith
room w (suc (suc c)) m e = omega arith

pub class-clear : (w c : ℕ) (l : List ℕ) → length l ≡ packed_length w c → top_clear w c l ≡ true → class_among c (length l * per_byte c) (number_of 8 l) ≡ largest_class (unpacked w c l)
unfolding unpacked
class-clear w c l e h =
    let v = number_of 8 l in
    let b = bits_of c in
    let n = length l * per_byte c in
    let k : w ≤ n = room w c (length l) e in
    let f : n ≡ n - w + w = omega arith in
    let z : v / 2 ^ (w * b) ≡ 0 = div-eq_of_lt (ltb-true v (2 ^ (w * b)) h) in
    ap (λ (m : ℕ). class_among c m v) f ∙ class-split b (n - w) w v ∙ rw (z, class-zero b (n - w)) (zero-max (class_among c w v))
