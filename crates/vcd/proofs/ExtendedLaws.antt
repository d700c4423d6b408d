-- Left extension: what stands before the symbols is covered by the class of the first, so the class stays. And the letters that extend.
-- Assumes nothing.
use Prim.Native.Nat.{ℕ, zero, suc, ◌-◌, ◌≤◌, ◌<◌}
use mathlib.Core.Path.{◌≡◌, refl, sym, ap, ◌∙◌}
use mathlib.Core.Bool.{Bool, true, false, not, ◌||◌}
use mathlib.Core.List.{List, [], ◌∷◌, ◌++◌}
use mathlib.Core.Logic.{◌⊎◌, inl, inr}
use mathlib.Core.Option.{some, none}
use native.Mathlib.Omega.{arith}
use borrow.Author.Tests.{lt-ltb, ltb-true, le-leb, ne_eqb, eqb-true}
use lib.Dec.{T, ltb, eqb}
use lib.ListN.{length, get_or, replicate, length-append, length-replicate, get_or-replicate, get_or-append}
use lib.Seq.{get_or-append-add}
use Rattle.lists.specs.Choice.{pick, bind, is_some}
use Rattle.lists.proofs.ChoiceLaws.{Where, where-some, where-pick, where-bind}
use Rattle.lists.proofs.Table.{at_byte}
use Rattle.value.specs.Class.{class_of, class_of_all, all_symbols}
use Rattle.value.specs.Symbol.{lowered, symbol_of, or_number}
use Rattle.vcd.specs.Vcd.{extends, fill_of, extended}

-- e is what a first symbol s extends with
record Fill (s e : ℕ) : Type 0 where
  is : e ≡ pick (ltb s 2) 0 s
  class : class_of e ≤ class_of s
  symbol : e ≤ 8

extends-small : (s : ℕ) → extends s ≡ true → s ≤ 8
extends-small s =
    by (ltb s 4) _ (λ e. omega (arith, ltb-true s 4 e))
    (by (eqb s 5) _ (λ e. omega (arith, eqb-true s 5 e))
    (by (eqb s 6) (eqb s 8) (λ e. omega (arith, eqb-true s 6 e)) (λ e. omega (arith, eqb-true s 8 e))))
  where
    by : (a b : Bool) → (a ≡ true → s ≤ 8) → (b ≡ true → s ≤ 8) → a || b ≡ true → s ≤ 8
    by true b f g e = f refl
    by false b f g e = g e

fill_is : (s : ℕ) → Where (Fill s) (fill_of s)
fill_is s = where-pick (Fill s) (ltb s 2) _ _
    (λ e. record { is = rw e refl; class = omega arith; symbol = omega arith })
    (λ e. where-pick (Fill s) (extends s) _ _
    (λ f. record { is = rw e refl; class = omega arith; symbol = extends-small s f })
    (λ f. tt))

class-first : (s : List ℕ) → class_of (get_or s 0 0) ≤ class_of_all s
unfolding class_of_all
class-first [] = omega arith
class-first (x ∷ s) = omega arith

class-before : (n e : ℕ) (s : List ℕ) → class_of e ≤ class_of_all s → class_of_all (replicate n e ++ s) ≡ class_of_all s
unfolding class_of_all
class-before zero e s h = refl
class-before (suc n) e s h = omega (arith, class-before n e s h)

symbols-before : (n e : ℕ) (s : List ℕ) → e ≤ 8 → all_symbols s ≡ true → all_symbols (replicate n e ++ s) ≡ true
unfolding all_symbols
symbols-before zero e s h k = k
symbols-before (suc n) e s h k = rw le-leb (symbols-before n e s h k)

-- e is s, extended to the left to w
pub record Extended (w : ℕ) (s e : List ℕ) : Type 0 where
  pub size : length e ≡ w
  pub left : (i : ℕ) → i < w - length s → get_or e i 0 ≡ pick (ltb (get_or s 0 0) 2) 0 (get_or s 0 0)
  pub at : (i : ℕ) → w - length s ≤ i → get_or e i 0 ≡ get_or s (i - (w - length s)) 0
  pub class : class_of_all e ≡ class_of_all s
  pub all : all_symbols s ≡ true → all_symbols e ≡ true

module _ (w : ℕ) (s : List ℕ) (fits : length s ≤ w) where
  whole : length s ≡ w → Extended w s s
  whole h =
      record {
        size = h;
        left = λ i k. absurd (omega arith);
        at = λ i k. ap (λ (n : ℕ). get_or s n 0) (omega arith);
        class = refl;
        all = λ a. a;
      }

  filled : (e : ℕ) → Fill (get_or s 0 0) e → Extended w s (replicate (w - length s) e ++ s)
  filled e f =
      let n : ℕ = w - length s in
      let l = length-replicate n e in
      record {
        size = simp (length-append, length-replicate) (omega arith);
        left = λ i k. get_or-append (replicate n e) s 0 i (omega arith) ∙ get_or-replicate n i e 0 k ∙ f.is;
        at = λ i k. ap (λ (m : ℕ). get_or (replicate n e ++ s) m 0) (omega arith) ∙ get_or-append-add (replicate n e) s (i - n) 0;
        class = class-before n e s (omega (arith, class-first s));
        all = symbols-before n e s f.symbol;
      }

  pub extended-is : Where (Extended w s) (extended w s)
  unfolding extended
  extended-is =
      let x : ℕ = get_or s 0 0 in
      where-pick (Extended w s) (eqb (length s) w) _ _
      (λ e. whole (eqb-true (length s) w e))
      (λ e. where-bind (Extended w s) (fill_of x) _ (λ y f. filled y (where-some (Fill x) (fill_of x) (fill_is x) f)))

-- which symbols can be extended
pub extended-some : (w : ℕ) (s : List ℕ) → is_some (extended w s) ≡ eqb (length s) w || extends (get_or s 0 0)
unfolding extended
extended-some w s = by (get_or s 0 0) (eqb (length s) w) (ltb (get_or s 0 0) 2) refl (extends (get_or s 0 0)) refl
  where
    by : (x : ℕ) (t a : Bool) → ltb x 2 ≡ a → (b : Bool) → extends x ≡ b
        → is_some (pick t (some s) (bind (pick a (some 0) (pick b (some x) none)) (λ e. some (replicate (w - length s) e ++ s)))) ≡ t || b
    by x true a e b f = refl
    by x false true e true f = refl
    by x false true e false f = sym (rw (lt-ltb x 4 (omega (arith, ltb-true x 2 e))) refl) ∙ f
    by x false false e true f = refl
    by x false false e false f = refl

-- the letters h and l, small ones
abbrev pub HOrL : ℕ → Type 0
HOrL b = (b ≡ 104) ⊎ (b ≡ 108)

pub h-and-l-do-not : (b : ℕ) → HOrL (lowered b) → extends (or_number 255 (symbol_of b)) ≡ false
unfolding symbol_of
h-and-l-do-not b (inl e) = rw e refl
h-and-l-do-not b (inr e) = rw e refl

-- the letters of all other symbols: one test over the bytes
others-right : ℕ → Bool
others-right b = not (is_some (symbol_of b)) || (eqb (lowered b) 104 || (eqb (lowered b) 108 || extends (or_number 255 (symbol_of b))))

pub others-extend : (b : ℕ) → b < 256 → is_some (symbol_of b) ≡ true → (HOrL (lowered b) → ⊥) → extends (or_number 255 (symbol_of b)) ≡ true
unfolding symbol_of others-right
others-extend b h e f =
    by (is_some (symbol_of b)) (eqb (lowered b) 104) (eqb (lowered b) 108) _ (at_byte others-right tt b h)
    e (ne_eqb (lowered b) 104 (λ g. f (inl g))) (ne_eqb (lowered b) 108 (λ g. f (inr g)))
  where
    by : (s h l t : Bool) → T (not s || (h || (l || t))) → s ≡ true → h ≡ false → l ≡ false → t ≡ true
    by true false false true x e f g = refl
    by true false false false x e f g = absurd x
    by false h l t x e f g = cc
    by true true l t x e f g = cc
    by true false true t x e f g = cc
