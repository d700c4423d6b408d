-- Packing and unpacking are inverse, where the bits above the symbols are zero: digits of b bits and the number that they make are inverse
-- to each other, for every b, and both symbols and bytes are digits of one number.
-- Assumes nothing.
use Prim.Native.Nat.{ℕ, zero, suc, ◌+◌, ◌-◌, ◌*◌, ◌/◌, ◌%◌, ◌^◌, ◌≤◌, ◌<◌}
use mathlib.Core.Path.{◌≡◌, refl, sym, ap, ap₂, ◌∙◌}
use mathlib.Core.Bool.{Bool, true, false}
use mathlib.Core.List.{List, [], ◌∷◌}
use native.Mathlib.Nat.{mod-lt, mod-le, mod-one, mod-eq_of_lt, div-add-mod', one-mul, mul-le-mul_right, mul-pos, lt_of_lt_of_le}
use native.Mathlib.Omega.{arith}
use borrow.Author.Tests.{lt-ltb, le-ltb, ltb-true, ltb-false, leb-true, eqb-true, eqb-false}
use lib.Arith.{digits_lt}
use lib.Dec.{ltb, leb, eqb}
use lib.ListN.{length, get_or}
use lib.Pow.{pow_pos, pow_mono, pow-add, shl_exact, shr-shr, high, low, mod-pow-add, field, mod-mod-pow}
use Rattle.lists.specs.Choice.{pick}
use Rattle.lists.specs.Bytes.{Bytes}
use Rattle.lists.proofs.BytesLaws.{tail-bytes}
use Rattle.lists.proofs.ChoiceLaws.{both_hold}
use Rattle.value.specs.Class.{bits_of, class_of, class_of_all, all_symbols, min_states, largest_class}
use Rattle.value.specs.declared.states.States.TheVariants.{Two}
use Rattle.std.proofs.Common.{Some}
use Rattle.value.proofs.ClassLaws.{by-class, least-found, two-found}
use Rattle.packed.specs.Packed.{number_of, digit_at, digits, per_byte, packed_length, packed, unpacked, top_clear}

-- every element is below m (past the end stands 0)
abbrev pub AllBelow : (m : ℕ) → List ℕ → Type 0
AllBelow m s = (i : ℕ) → get_or s i 0 < m

-- ---- digits of b bits, and the number that they make

pow-next : (n b : ℕ) → 2 ^ (suc n * b) ≡ 2 ^ b * 2 ^ (n * b)
pow-next n b = let e : suc n * b ≡ b + n * b = omega arith in rw e (pow-add 2 b (n * b))

-- 1 shifted within a word of w bits
pub shifted_one : (k w : ℕ) → k < w → 1 * 2 ^ k % 2 ^ w ≡ 2 ^ k
shifted_one k w h = shl_exact {a = 1} 1 k w (omega arith) (omega arith) ∙ one-mul (2 ^ k)

-- b bits from k on, of the j lowest bits alone
low_field : (v j k b : ℕ) → k + b ≤ j → v % 2 ^ j / 2 ^ k % 2 ^ b ≡ v / 2 ^ k % 2 ^ b
low_field v j k b h =
    let e : j ≡ j - k - b + b + k = omega arith in
    ap (λ (n : ℕ). v % 2 ^ n / 2 ^ k % 2 ^ b) e
    ∙ ap (λ (n : ℕ). n % 2 ^ b) (field v (j - k - b + b) k)
    ∙ mod-mod-pow (v / 2 ^ k) (j - k - b) b

pub length_digits : (b n v : ℕ) → length (digits b n v) ≡ n
unfolding digits
length_digits b zero v = refl
length_digits b (suc n) v = ap suc (length_digits b n v)

pub digit_lt : (b i v : ℕ) → digit_at b i v < 2 ^ b
digit_lt b i v = mod-lt (v / 2 ^ (i * b)) (pow_pos b)

digits-below : (b n v : ℕ) → AllBelow (2 ^ b) (digits b n v)
unfolding digits
digits-below b zero v i = pow_pos b
digits-below b (suc n) v zero = digit_lt b n v
digits-below b (suc n) v (suc i) = digits-below b n v i

-- the digit at a place counted from the left
pub digit_at_lem : (b n v i : ℕ) → i < n → get_or (digits b n v) i 0 ≡ digit_at b (n - 1 - i) v
unfolding digits
digit_at_lem b zero v i h = absurd (omega arith)
digit_at_lem b (suc n) v zero h = let e : suc n - 1 - 0 ≡ n = omega arith in rw e refl
digit_at_lem b (suc n) v (suc i) h =
    let e : suc n - 1 - suc i ≡ n - 1 - i = omega arith in
    rw e (digit_at_lem b n v i (omega arith))

-- the next digit from the left, where i are taken
pub digits-next : (b n i v : ℕ) → i < n → digits b (n - i) v ≡ digit_at b (n - 1 - i) v ∷ digits b (n - suc i) v
digits-next b n i v h =
    let e : n - i ≡ suc (n - suc i) = omega arith in
    let f : n - 1 - i ≡ n - suc i = omega arith in
    rw (e, f) (unfold digits in refl)

-- digits do not see the bits above them
pub digits_mod : (b n k v : ℕ) → n * b ≤ k → digits b n (v % 2 ^ k) ≡ digits b n v
unfolding digits
digits_mod b zero k v h = refl
digits_mod b (suc n) k v h = ap₂ ◌∷◌ (low_field v k (n * b) b (omega arith)) (digits_mod b n k v (omega arith))

pub number_digits : (b n v : ℕ) → number_of b (digits b n v) ≡ v % 2 ^ (n * b)
unfolding digits number_of
number_digits b zero v = let e : zero * b ≡ 0 = omega arith in rw e (sym (mod-one v))
number_digits b (suc n) v =
    let e : suc n * b ≡ b + n * b = omega arith in
    rw (length_digits b n v, number_digits b n v, e) (sym (mod-pow-add v b (n * b)))

pub number_lt : (b : ℕ) (s : List ℕ) → AllBelow (2 ^ b) s → number_of b s < 2 ^ (length s * b)
unfolding number_of
number_lt b [] h = pow_pos (0 * b)
number_lt b (x ∷ l) h = rw (pow-next (length l) b) (digits_lt (h 0) (number_lt b l (λ i. h (suc i))))

-- one digit more, at the top
push : (b n x r : ℕ) → x < 2 ^ b → r < 2 ^ (n * b) → digits b (suc n) (x * 2 ^ (n * b) + r) ≡ x ∷ digits b n r
unfolding digits
push b n x r h k =
    ap₂ ◌∷◌
    (ap (λ (q : ℕ). q % 2 ^ b) (high x (n * b) k) ∙ mod-eq_of_lt h)
    (sym (digits_mod b n (n * b) (x * 2 ^ (n * b) + r) (omega arith)) ∙ ap (digits b n) (low x (n * b) k))

pub digits_number : (b : ℕ) (s : List ℕ) → AllBelow (2 ^ b) s → digits b (length s) (number_of b s) ≡ s
unfolding number_of
digits_number b [] h = unfold digits in refl
digits_number b (x ∷ l) h =
    let t : AllBelow (2 ^ b) l = λ i. h (suc i) in
    push b (length l) x (number_of b l) (h 0) (number_lt b l t) ∙ ap (λ (d : List ℕ). x ∷ d) (digits_number b l t)

-- ---- the bits of a class

pub bits_pos : (c : ℕ) → 0 < bits_of c
bits_pos zero = omega arith
bits_pos (suc zero) = omega arith
bits_pos (suc (suc c)) = omega arith

-- a symbol stands within one byte
in-byte : (c j : ℕ) → j * bits_of c % 8 + bits_of c ≤ 8
in-byte zero j = omega arith
in-byte (suc zero) j = omega arith
in-byte (suc (suc c)) j = omega arith

-- a symbol of a class takes the bits of that class
symbol-fits : (c x : ℕ) → x ≤ 8 → class_of x ≤ c → x < 2 ^ bits_of c
symbol-fits zero x h =
    by-class (λ (k : ℕ). k ≤ 0 → x < 2) x (λ a k. a) (λ a b k. absurd (omega arith)) (λ a k. absurd (omega arith))
symbol-fits (suc zero) x h =
    by-class (λ (k : ℕ). k ≤ 1 → x < 4) x (λ a k. omega arith) (λ a b k. b) (λ a k. absurd (omega arith))
symbol-fits (suc (suc c)) x h = λ k. omega arith

pub symbols-below : (c : ℕ) (s : List ℕ) → all_symbols s ≡ true → class_of_all s ≤ c → AllBelow (2 ^ bits_of c) s
unfolding all_symbols class_of_all
symbols-below c [] a k i = pow_pos (bits_of c)
symbols-below c (x ∷ s) a k zero = symbol-fits c x (leb-true x 8 (both_hold (leb x 8) (all_symbols s) a).0) (omega arith)
symbols-below c (x ∷ s) a k (suc i) = symbols-below c s (both_hold (leb x 8) (all_symbols s) a).1 (omega arith) i

-- the symbols of a byte fill it
pub byte_full : (c : ℕ) → per_byte c * bits_of c ≡ 8
byte_full zero = refl
byte_full (suc zero) = refl
byte_full (suc (suc c)) = refl

-- the byte of a place
pub place_in : (w c j : ℕ) → j < w → j * bits_of c / 8 < packed_length w c
place_in w c j h = omega (arith, mul-le-mul_right (bits_of c) h, bits_pos c)

-- ---- packed and unpacked

pub length-packed : (c : ℕ) (s : List ℕ) → length (packed c s) ≡ packed_length (length s) c
unfolding packed
length-packed c s = length_digits 8 (packed_length (length s) c) (number_of (bits_of c) s)

-- of a vector of width w
pub packed-length : (c w : ℕ) (s : List ℕ) → length s ≡ w → length (packed c s) ≡ packed_length w c
packed-length c w s e = length-packed c s ∙ ap (λ (v : ℕ). packed_length v c) e

pub packed-bytes : (c : ℕ) (s : List ℕ) → Bytes (packed c s)
unfolding packed
packed-bytes c s = digits-below 8 (packed_length (length s) c) (number_of (bits_of c) s)

pub length-unpacked : (w c : ℕ) (b : List ℕ) → length (unpacked w c b) ≡ w
unfolding unpacked
length-unpacked w c b = length_digits (bits_of c) w (number_of 8 b)

pub unpacked-at : (w c : ℕ) (b : List ℕ) (i : ℕ) → i < w → get_or (unpacked w c b) i 0 ≡ digit_at (bits_of c) (w - 1 - i) (number_of 8 b)
unfolding unpacked
unpacked-at w c b i h = digit_at_lem (bits_of c) w (number_of 8 b) i h

-- the bytes of symbols have the symbols' number
number-packed : (c : ℕ) (s : List ℕ) → AllBelow (2 ^ bits_of c) s → number_of 8 (packed c s) ≡ number_of (bits_of c) s
unfolding packed
number-packed c s h =
    let n = packed_length (length s) c in
    let e : length s * bits_of c ≤ n * 8 = omega arith in
    number_digits 8 n (number_of (bits_of c) s) ∙ mod-eq_of_lt (lt_of_lt_of_le (number_lt (bits_of c) s h) (pow_mono e))

pub unpacked-packed : (c : ℕ) (s : List ℕ) → all_symbols s ≡ true → class_of_all s ≤ c → unpacked (length s) c (packed c s) ≡ s
unfolding unpacked
unpacked-packed c s a k =
    let h = symbols-below c s a k in
    rw (number-packed c s h) (digits_number (bits_of c) s h)

pub packed-top : (c : ℕ) (s : List ℕ) → all_symbols s ≡ true → class_of_all s ≤ c → top_clear (length s) c (packed c s) ≡ true
packed-top c s a k =
    let h = symbols-below c s a k in
    rw (number-packed c s h) (lt-ltb _ _ (number_lt (bits_of c) s h))

-- packing what was unpacked takes the bits above the symbols away
pub packed-number : (w c : ℕ) (b : List ℕ) → packed c (unpacked w c b) ≡ digits 8 (packed_length w c) (number_of 8 b % 2 ^ (w * bits_of c))
unfolding packed unpacked
packed-number w c b = rw (length_digits (bits_of c) w (number_of 8 b), number_digits (bits_of c) w (number_of 8 b)) refl

pub packed-unpacked : (w c : ℕ) (b : List ℕ) → Bytes b → length b ≡ packed_length w c → top_clear w c b ≡ true → packed c (unpacked w c b) ≡ b
packed-unpacked w c b h e t =
    rw (packed-number w c b, mod-eq_of_lt (ltb-true _ _ t), ← e) (digits_number 8 b h)

pub unpacked-top : (w c : ℕ) (b : List ℕ) → packed c (unpacked w c b) ≡ b → top_clear w c b ≡ true
unpacked-top w c b e =
    let v = number_of 8 b % 2 ^ (w * bits_of c) in
    let f : number_of 8 b ≡ v % 2 ^ (packed_length w c * 8) =
    ap (number_of 8) (sym e ∙ packed-number w c b) ∙ number_digits 8 (packed_length w c) v in
    let k : number_of 8 b < 2 ^ (w * bits_of c) =
    omega (arith, mod-le v (2 ^ (packed_length w c * 8)), mod-lt (number_of 8 b) (pow_pos (w * bits_of c))) in
    lt-ltb _ _ k

-- ---- bytes of a packed value

pub byte_at : (b : List ℕ) (q : ℕ) → Bytes b → q < length b → get_or b (length b - 1 - q) 0 ≡ digit_at 8 q (number_of 8 b)
byte_at b q h k =
    let n = length b in
    let e : n - 1 - (n - 1 - q) ≡ q = omega arith in
    ap (λ (l : List ℕ). get_or l (n - 1 - q) 0) (sym (digits_number 8 b h))
    ∙ digit_at_lem 8 n (number_of 8 b) (n - 1 - q) (omega arith)
    ∙ ap (λ (i : ℕ). digit_at 8 i (number_of 8 b)) e

-- the symbol at a place, counted from the right, in the byte that holds it
pub byte-digit : (c j : ℕ) (b : List ℕ) → Bytes b → j * bits_of c / 8 < length b
    → digit_at (bits_of c) j (number_of 8 b) ≡ get_or b (length b - 1 - j * bits_of c / 8) 0 / 2 ^ (j * bits_of c % 8) % 2 ^ bits_of c
byte-digit c j b h k =
    let n = j * bits_of c in
    let v = number_of 8 b in
    sym
    (rw (byte_at b (n / 8) h k, low_field (v / 2 ^ (n / 8 * 8)) 8 (n % 8) (bits_of c) (in-byte c j), shr-shr v (n / 8 * 8) (n % 8), div-add-mod' n 8)
    refl)

-- the bits above the symbols, in the first byte alone
first_byte : (x n r u : ℕ) → r < 2 ^ (n * 8) → ltb (x * 2 ^ (n * 8) + r) (2 ^ (u + n * 8)) ≡ ltb x (2 ^ u)
first_byte x n r u h = rw (pow-add 2 u (n * 8)) (by (ltb x (2 ^ u)) refl)
  where
    by : (t : Bool) → ltb x (2 ^ u) ≡ t → ltb (x * 2 ^ (n * 8) + r) (2 ^ u * 2 ^ (n * 8)) ≡ t
    by true e = lt-ltb _ _ (digits_lt (ltb-true x (2 ^ u) e) h)
    by false e =
        let k : 2 ^ u * 2 ^ (n * 8) ≤ x * 2 ^ (n * 8) + r = omega (arith, mul-le-mul_right (2 ^ (n * 8)) (ltb-false x (2 ^ u) e)) in
        le-ltb _ _ k

by_first : (k x : ℕ) (l : List ℕ) (t : Bool) → eqb (k % 8) 0 ≡ t → Bytes (x ∷ l) → 0 < k → suc (length l) ≡ (k + 7) / 8
    → ltb x (pick t 256 (2 ^ (k % 8))) ≡ ltb (number_of 8 (x ∷ l)) (2 ^ k)
unfolding number_of
by_first k x l true e h p n =
    let z = eqb-true (k % 8) 0 e in
    let f : k ≡ 8 + length l * 8 = omega arith in
    rw f (sym (first_byte x (length l) (number_of 8 l) 8 (number_lt 8 l (tail-bytes x l h))))
by_first k x l false e h p n =
    let z = eqb-false (k % 8) 0 e in
    let f : k ≡ k % 8 + length l * 8 = omega arith in
    sym (first_byte x (length l) (number_of 8 l) (k % 8) (number_lt 8 l (tail-bytes x l h))) ∙ ap (λ (n : ℕ). ltb (number_of 8 (x ∷ l)) (2 ^ n)) (sym f)

-- so the first byte tells, by its bits of symbols; 0 of them are a full byte's 8
pub clear_first : (w c : ℕ) (b : List ℕ) → Bytes b → 0 < w → length b ≡ packed_length w c
    → ltb (get_or b 0 0) (pick (eqb (w * bits_of c % 8) 0) 256 (2 ^ (w * bits_of c % 8))) ≡ top_clear w c b
clear_first w c [] h p e = absurd (omega (arith, mul-pos p (bits_pos c)))
clear_first w c (x ∷ l) h p e = by_first (w * bits_of c) x l (eqb (w * bits_of c % 8) 0) refl h (mul-pos p (bits_pos c)) e

-- symbols of one bit are of class Two
pub bits-class : (n v : ℕ) → largest_class (digits 1 n v) ≡ 0
bits-class n v = two-found (digits 1 n v) (digits-below 1 n v)

pub two-least : (w c : ℕ) (b : List ℕ) → c ≡ 0 → min_states (unpacked w c b) ≡ Some Two
unfolding unpacked
two-least w c b e = rw e (sym (least-found (digits 1 w (number_of 8 b))) ∙ rw (bits-class w (number_of 8 b)) refl)
