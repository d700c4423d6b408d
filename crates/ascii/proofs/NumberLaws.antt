-- The digits of a number: the last one, after those of the number without it.
-- Assumes nothing.
use Prim.Native.Nat.{ℕ, zero, suc, ◌-◌, ◌/◌, ◌%◌, ◌^◌, ◌≤◌, ◌<◌}
use mathlib.Core.Path.{◌≡◌, refl, sym, ap, ◌∙◌}
use mathlib.Core.List.{List, [], ◌∷◌, ◌++◌}
use native.Mathlib.Nat.{pow-suc, mod-eq_of_lt}
use native.Mathlib.Numerals.{sub-one}
use native.Mathlib.Omega.{arith}
use native.Mathlib.Decide.{dec_lt}
use borrow.Author.Tests.{lt-ltb, le-ltb}
use Rattle.ascii.specs.Ascii.{digit_code, decimal_in, decimal, hexadecimal}

small-in : (k n : ℕ) → n < 10 → decimal_in (suc k) n ≡ digit_code n ∷ []
unfolding decimal_in
small-in k n h = rw (mod-eq_of_lt {n = n} {m = 10} h, lt-ltb n 10 h) refl

big-in : (k n : ℕ) → 10 ≤ n → decimal_in (suc k) n ≡ decimal_in k (n / 10) ++ digit_code (n % 10) ∷ []
unfolding decimal_in
big-in k n h = rw (le-ltb n 10 h) refl

-- places that a number does not need change nothing
more-places : (k n : ℕ) → n < 10 ^ suc k → decimal_in (suc (suc k)) n ≡ decimal_in (suc k) n
more-places zero n h = small-in 1 n h ∙ sym (small-in 0 n h)
more-places (suc k) n h = by (dec_lt n 10) (more-places k (n / 10) (omega (arith, pow-suc 10 (suc k))))
  where
    by : Dec (n < 10) → decimal_in (suc (suc k)) (n / 10) ≡ decimal_in (suc k) (n / 10) → decimal_in (suc (suc (suc k))) n ≡ decimal_in (suc (suc k)) n
    by (yes l) e = small-in (suc (suc k)) n l ∙ sym (small-in (suc k) n l)
    by (no m) e =
        let t : 10 ≤ n = omega (arith, m) in
        big-in (suc (suc k)) n t ∙ ap (λ (l : List ℕ). l ++ digit_code (n % 10) ∷ []) e ∙ sym (big-in (suc k) n t)

pub decimal-small : (n : ℕ) → n < 10 → decimal n ≡ digit_code n ∷ []
decimal-small n h = small-in 19 n h

pub decimal-big : (n : ℕ) → 10 ≤ n → n < 2 ^ 64 → decimal n ≡ decimal (n / 10) ++ digit_code (n % 10) ∷ []
decimal-big n h m = big-in 19 n h ∙ ap (λ (l : List ℕ). l ++ digit_code (n % 10) ∷ []) (sym (more-places 18 (n / 10) (omega arith)))

pub hex-none : (n : ℕ) → hexadecimal 0 n ≡ []
unfolding hexadecimal
hex-none n = refl

pub hex-more : (k n : ℕ) → 0 < k → hexadecimal k n ≡ hexadecimal (k - 1) (n / 16) ++ digit_code (n % 16) ∷ []
unfolding hexadecimal
hex-more zero n h = absurd (omega arith)
hex-more (suc k) n h = simp sub-one
