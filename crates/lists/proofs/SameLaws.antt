-- `same` tells equal lists.
-- Assumes nothing.
use Prim.Native.Nat.{ℕ}
use mathlib.Core.Path.{◌≡◌, refl, ap₂}
use mathlib.Core.Bool.{true, false}
use mathlib.Core.List.{List, [], ◌∷◌}
use native.Mathlib.Omega.{arith}
use borrow.Author.Tests.{eq-eqb, eqb-true}
use lib.Dec.{eqb}
use Rattle.lists.specs.Same.{same}
use Rattle.lists.proofs.ChoiceLaws.{both_hold}

pub false-true : {B : Type 0} → false ≡ true → B
false-true e = let z : ◌≡◌ {A = ℕ} 0 1 = cc in absurd (omega arith)

pub same_true : (a b : List ℕ) → same a b ≡ true → a ≡ b
unfolding same
same_true [] [] e = refl
same_true [] (y ∷ b) e = false-true e
same_true (x ∷ a) [] e = false-true e
same_true (x ∷ a) (y ∷ b) e = let h = both_hold (eqb x y) (same a b) e in ap₂ ◌∷◌ (eqb-true x y h.0) (same_true a b h.1)

pub same_self : (a : List ℕ) → same a a ≡ true
unfolding same
same_self [] = refl
same_self (x ∷ a) = rw (eq-eqb x x refl) (same_self a)
