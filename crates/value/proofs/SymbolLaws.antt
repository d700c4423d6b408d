-- A byte's symbol is below 9, so that 255 can say "no symbol"; each symbol has its letter; and the cases of the letters say its class.
-- Assumes nothing.
use Prim.Native.Nat.{ℕ, zero, suc, ◌+◌, ◌-◌, ◌≤◌, ◌<◌}
use mathlib.Core.Path.{◌≡◌, refl, sym, subst, ◌∙◌}
use mathlib.Core.Bool.{Bool, true, false}
use mathlib.Core.List.{List, [], ◌∷◌}
use mathlib.Core.Option.{Option, some, none}
use native.Mathlib.Omega.{arith}
use borrow.Author.Tests.{leb-true}
use lib.Dec.{eqb, leb, eqb→eq}
use lib.ListN.{length, get_or}
use Rattle.lists.specs.Choice.{pick}
use Rattle.lists.proofs.ChoiceLaws.{both_hold}
use Rattle.lists.proofs.Table.{at, at_byte}
use Rattle.value.specs.Class.{symbol_class}
use Rattle.value.specs.Symbol.{place_from, letters, lowered, symbol_of, is_digit, or_number}

abbrev pub Below : ℕ → Option ℕ → Type 0
Below k none = Unit {0}
Below k (some s) = s < k

place-below : (b n k : ℕ) (l : List ℕ) → n + length l ≤ k → Below k (place_from b n l)
place-below b n k [] h = tt
place-below b n k (x ∷ l) h = by (eqb b x) (place-below b (suc n) k l (omega arith))
  where
    by : (t : Bool) → Below k (place_from b (suc n) l) → Below k (pick t (some n) (place_from b (suc n) l))
    by true r = omega arith
    by false r = r

pub symbol-below : (b : ℕ) → Below 9 (symbol_of b)
unfolding symbol_of
symbol-below b = place-below (lowered b) 0 9 letters (omega arith)

-- what the number of a symbol that may be missing says
pub none_number : (o : Option ℕ) → Below 9 o → or_number 255 o ≡ 255 → o ≡ none
none_number none h e = refl
none_number (some s) h e = absurd (omega arith)

pub some_number : (o : Option ℕ) (n : ℕ) → n ≡ or_number 255 o → (n ≡ 255 → ⊥) → o ≡ some n
some_number none n e h = absurd (h e)
some_number (some s) n e h = rw e refl

-- the letter of a symbol: one test over the letters
letter-right : ℕ → ℕ → Bool
letter-right x b = eqb (or_number 255 (symbol_of b)) x

pub letter-symbol : (x : ℕ) → x ≤ 8 → symbol_of (get_or letters x 0) ≡ some x
unfolding symbol_of letter-right
letter-symbol x h =
    let e = eqb→eq _ _ (at letter-right letters tt x (omega arith)) in
    some_number (symbol_of (get_or letters x 0)) x (sym e) (λ f. omega arith)

-- the class after one case for each letter of a list, whose symbols are counted from n
abbrev pub case_by : (b n class : ℕ) → List ℕ → ℕ
case_by b n class [] = class
case_by b n class (x ∷ l) = case_by b (suc n) (pick (eqb b x) (symbol_class n) class) l

-- the cases of all letters: one test over the bytes
cases-right : ℕ → Bool
cases-right b = eqb (case_by (lowered b) 0 3 letters) (symbol_class (or_number 255 (symbol_of b)))

pub cases-class : (b : ℕ) → b < 256 → case_by (lowered b) 0 3 letters ≡ symbol_class (or_number 255 (symbol_of b))
unfolding symbol_of cases-right
cases-class b h = eqb→eq _ _ (at_byte cases-right tt b h)

-- the letters 0 and 1
pub digit-symbol : (b : ℕ) (t : Bool) → t ≡ is_digit b → t ≡ true → (48 ≤ b) × (b ≤ 49) × (symbol_of b ≡ some (b - 48))
digit-symbol b t e h =
    let both = both_hold (leb 48 b) (leb b 49) (sym e ∙ h) in
    let low : 48 ≤ b = leb-true 48 b both.0 in
    let high : b ≤ 49 = leb-true b 49 both.1 in
    (low, high, subst (λ (x : ℕ). symbol_of x ≡ some (b - 48)) (omega arith) (from (b - 48) (omega arith)))
  where
    from : (d : ℕ) → d < 2 → symbol_of (d + 48) ≡ some d
    from zero h = unfold symbol_of in refl
    from (suc zero) h = unfold symbol_of in refl
    from (suc (suc d)) h = absurd (omega arith)
