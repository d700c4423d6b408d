-- Digits and numbers, digit by digit.
-- Assumes nothing.
use Prim.Native.Nat.{ℕ, suc, ◌+◌, ◌*◌, ◌-◌, ◌<◌, ◌≤◌}
use mathlib.Core.Path.{◌≡◌, refl, sym, ◌∙◌}
use mathlib.Core.Bool.{Bool, true, false}
use mathlib.Core.List.{List, [], ◌∷◌}
use native.Mathlib.Omega.{arith}
use borrow.Author.Tests.{lt-ltb, le-ltb, le-leb, lt-leb, leb-true, ne_eqb}
use lib.Dec.{ltb, leb}
use lib.ListN.{length, get_or, drop, drop_of_length-le}
use lib.Seq.{drop-cons}
use Rattle.std.specs.Prelude.{Option, Some, None, SomeIff}
use Rattle.std.specs.Char.{digit_value, is_ascii_hexdigit}
use Rattle.std.proofs.Common.{cond}
use Rattle.std.proofs.lemmas.Bool.Decides.{nat_tests}
use Rattle.lists.specs.Choice.{pick}
use Rattle.digits.specs.Numbers.{bind, between, digit_of, digits_from, number_of, at_most, number_to, bits_of}

-- ---- a digit

-- the library's number of a letter or digit, where it is a digit's
pub digit-value : (b : ℕ) → digit_of b ≡ cond (ltb (digit_value b) 16) (digit_value b) 16
unfolding digit_of
digit-value b = grind (arith, nat_tests)

-- so what the library calls a hexadecimal digit
pub digit-hex : (b : ℕ) → is_ascii_hexdigit b ≡ ltb (digit_of b) 16
unfolding digit_of
digit-hex b = grind (arith, nat_tests)

pub digit-some : (r : Option ℕ) (base b : ℕ) → base ≤ 16 → SomeIff r (digit_value b < base) (digit_value b) → SomeIff r (digit_of b < base) (digit_of b)
digit-some None base b h n = λ d. n (let e = digit-value b in grind (arith, nat_tests))
digit-some (Some x) base b h (d, e) = let f = digit-value b in (grind (arith, nat_tests), grind (arith, nat_tests))

-- ---- digits

module _ (base v : ℕ) (s : List ℕ) (i : ℕ) where
  pub digits-end : length s ≤ i → digits_from base v (drop i s) ≡ Some v
  unfolding digits_from
  digits-end h = rw (drop_of_length-le s h) refl

  pub digits-bad : i < length s → base ≤ digit_of (get_or s i 0) → digits_from base v (drop i s) ≡ None
  unfolding digits_from
  digits-bad h d = rw (drop-cons s i 0 h, le-ltb (digit_of (get_or s i 0)) base d) refl

  pub digits-next : i < length s → digit_of (get_or s i 0) < base
      → digits_from base v (drop i s) ≡ digits_from base (v * base + digit_of (get_or s i 0)) (drop (suc i) s)
  unfolding digits_from
  digits-next h d = rw (drop-cons s i 0 h, lt-ltb (digit_of (get_or s i 0)) base d) refl

-- ---- a number that is at most so large

pub number_digits : (most : ℕ) (s : List ℕ) → 0 < length s → number_to most s ≡ bind (digits_from 10 0 s) (at_most most)
unfolding number_of number_to
number_digits most [] h = absurd (omega arith)
number_digits most (b ∷ l) h = refl

pub number-empty : (most : ℕ) (s : List ℕ) → length s ≡ 0 → number_to most s ≡ None
unfolding number_of number_to
number-empty most [] h = refl
number-empty most (b ∷ l) h = absurd (omega arith)

-- a number only grows with further digits
pub digits-over : (most v : ℕ) (l : List ℕ) → most < v → bind (digits_from 10 v l) (at_most most) ≡ None
unfolding digits_from
digits-over most v [] h = rw (lt-leb v most h) refl
digits-over most v (b ∷ l) h = by (ltb (digit_of b) 10) (digits-over most (v * 10 + digit_of b) l (omega arith))
  where
    by : (t : Bool) → bind (digits_from 10 (v * 10 + digit_of b) l) (at_most most) ≡ None
        → bind (pick t (digits_from 10 (v * 10 + digit_of b) l) None) (at_most most) ≡ None
    by true e = e
    by false e = refl

pub number-most : (most n : ℕ) (s : List ℕ) → Some n ≡ number_to most s → n ≤ most
unfolding number_to
number-most most n s e = by (number_of s) e
  where
    small : (m : ℕ) (t : Bool) → leb m most ≡ t → Some n ≡ pick t (Some m) None → n ≤ most
    small m true g e = let same : n ≡ m = cc in rw same (leb-true m most g)
    small m false g e = let z : ◌≡◌ {A = ℕ} 0 1 = cc in absurd (omega arith)

    by : (o : Option ℕ) → Some n ≡ bind o (at_most most) → n ≤ most
    by None e = let z : ◌≡◌ {A = ℕ} 0 1 = cc in absurd (omega arith)
    by (Some m) e = small m (leb m most) refl e

-- a digit with which the number is too large
pub digits-too_large : (most v d : ℕ) (s : List ℕ) (i : ℕ) {o : Option ℕ} → i < length s → digit_of (get_or s i 0) < 10 → d ≡ digit_of (get_or s i 0)
    → most < v * 10 + d → bind (digits_from 10 v (drop i s)) (at_most most) ≡ o → None ≡ o
digits-too_large most v d s i h b e g same =
    let n = digits-next 10 v s i h b in
    let x = digits-over most (v * 10 + digit_of (get_or s i 0)) (drop (suc i) s) (omega arith) in
    sym x ∙ rw n at same

-- ---- 16 digits

pub bits-short : (s : List ℕ) → (length s ≡ 16 → ⊥) → bits_of s ≡ None
unfolding bits_of
bits-short s n = rw (ne_eqb (length s) 16 n) refl

pub bits-digits : (s : List ℕ) → length s ≡ 16 → bits_of s ≡ digits_from 16 0 s
unfolding bits_of
bits-digits s e = rw e refl
