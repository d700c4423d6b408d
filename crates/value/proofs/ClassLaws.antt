-- Classes: the enum and its numbers; the class of a value as the code finds it, by cases of its symbols.
-- Assumes nothing.
use Prim.Native.Nat.{ℕ, zero, suc, ◌≤◌, ◌<◌, max}
use mathlib.Core.Path.{◌≡◌, refl, ◌∙◌}
use mathlib.Core.Bool.{Bool, true, false, ◌&&◌, true≢false}
use mathlib.Core.List.{List, [], ◌∷◌}
use native.Mathlib.Omega.{arith}
use borrow.Author.Tests.{ne_eqb, lt-ltb, le-ltb, ltb-true, ltb-false, leb-true, leb-false, le-leb, lt-leb}
use lib.Dec.{ltb, leb, eqb}
use lib.ListN.{length, get_or}
use Rattle.lists.specs.Choice.{pick}
use Rattle.lists.proofs.ChoiceLaws.{both_hold}
use Rattle.value.specs.Class.{class_number, states_of, class_of, class_of_all, all_symbols, min_states, symbol_class, largest_class, states_or_none}
use Rattle.value.specs.declared.states.States.{States}
use Rattle.value.specs.declared.states.States.TheVariants.{Two, Four, Nine}
use Rattle.std.proofs.Common.{Some, None}

pub number-states : (c : ℕ) → c ≤ 2 → class_number (states_of c) ≡ c
number-states zero h = refl
number-states (suc zero) h = refl
number-states (suc (suc zero)) h = refl
number-states (suc (suc (suc c))) h = absurd (omega arith)

pub states-number : (s : States) → states_of (class_number s) ≡ s
states-number Two = refl
states-number Four = refl
states-number Nine = refl

pub number_small : (s : States) → class_number s ≤ 2
number_small Two = omega arith
number_small Four = omega arith
number_small Nine = omega arith

pub class-two : (s : ℕ) → s < 2 → class_of s ≡ 0
class-two s h = simp (lt-ltb s 2)

pub class-four : (s : ℕ) → 2 ≤ s → s < 4 → class_of s ≡ 1
class-four s h k = simp (le-ltb s 2, lt-ltb s 4)

pub class-nine : (s : ℕ) → 4 ≤ s → class_of s ≡ 2
class-nine s h = let k : 2 ≤ s = omega arith in simp (le-ltb s 2, le-ltb s 4)

-- by the class of a symbol
pub by-class : (P : ℕ → Type 0) (s : ℕ) → (s < 2 → P 0) → (2 ≤ s → s < 4 → P 1) → (4 ≤ s → P 2) → P (class_of s)
by-class P s f g h = two (ltb s 2) refl
  where
    four : (t : Bool) → ltb s 4 ≡ t → 2 ≤ s → P (pick t 1 2)
    four true e l = g l (ltb-true s 4 e)
    four false e l = h (ltb-false s 4 e)

    two : (t : Bool) → ltb s 2 ≡ t → P (pick t 0 (pick (ltb s 4) 1 2))
    two true e = f (ltb-true s 2 e)
    two false e = four (ltb s 4) refl (ltb-false s 2 e)

pub class-small : (s : ℕ) → class_of s ≤ 2
class-small s = by-class (λ (c : ℕ). c ≤ 2) s (λ h. omega arith) (λ h k. omega arith) (λ h. omega arith)

pub class-all-small : (l : List ℕ) → class_of_all l ≤ 2
unfolding class_of_all
class-all-small [] = omega arith
class-all-small (s ∷ l) = omega (arith, class-small s, class-all-small l)

-- ---- how the class is found

pub symbol-class : (s : ℕ) → s ≤ 8 → symbol_class s ≡ class_of s
symbol-class s h = rw (le-leb s 8 h) refl

no-symbol-class : (s : ℕ) → 8 < s → symbol_class s ≡ 3
no-symbol-class s h = rw (lt-leb s 8 h) refl

-- the largest class of symbols is their class, and 3 where one is no symbol
found-class : (l : List ℕ) → all_symbols l ≡ true → largest_class l ≡ class_of_all l
unfolding all_symbols class_of_all largest_class
found-class [] h = refl
found-class (s ∷ l) h =
    let both = both_hold (leb s 8) (all_symbols l) h in
    rw (symbol-class s (leb-true s 8 both.0), found-class l both.1) refl

found_none : (l : List ℕ) → all_symbols l ≡ false → 2 < largest_class l
unfolding all_symbols largest_class
found_none [] h = absurd (true≢false h)
found_none (s ∷ l) h = by (leb s 8) refl h (found_none l)
  where
    by : (t : Bool) → leb s 8 ≡ t → t && all_symbols l ≡ false → (all_symbols l ≡ false → 2 < largest_class l) → 2 < max (symbol_class s) (largest_class l)
    by true e g more = omega (arith, more g)
    by false e g more = omega (arith, no-symbol-class s (leb-false s 8 e))

-- whether it is a class
pub own-found : (l : List ℕ) (c : ℕ) → c ≤ 2 → eqb (largest_class l) c ≡ all_symbols l && eqb (class_of_all l) c
own-found l c h = by (all_symbols l) refl
  where
    by : (t : Bool) → all_symbols l ≡ t → eqb (largest_class l) c ≡ t && eqb (class_of_all l) c
    by true e = rw (found-class l e) refl
    by false e = ne_eqb (largest_class l) c (λ f. omega (arith, found_none l e))

-- what the code answers for it
pub least-found : (l : List ℕ) → states_or_none (largest_class l) ≡ min_states l
unfolding min_states
least-found l = by (all_symbols l) refl
  where
    by : (t : Bool) → all_symbols l ≡ t → states_or_none (largest_class l) ≡ pick t (Some (states_of (class_of_all l))) None
    by true e = rw (found-class l e, le-leb (class_of_all l) 2 (class-all-small l)) refl
    by false e = rw (lt-leb (largest_class l) 2 (found_none l e)) refl

-- symbols of class Two
pub two-found : (l : List ℕ) → ((i : ℕ) → get_or l i 0 < 2) → largest_class l ≡ 0
unfolding largest_class
two-found [] h = refl
two-found (s ∷ l) h =
    let k : s < 2 = h 0 in
    let e : symbol_class s ≡ 0 = symbol-class s (omega arith) ∙ class-two s k in
    rw (e, two-found l (λ i. h (suc i))) refl

-- one symbol's class
pub one_class : (s : List ℕ) → length s ≡ 1 → class_of_all s ≡ class_of (get_or s 0 0)
unfolding class_of_all
one_class [] e = absurd (omega arith)
one_class (x ∷ []) e = omega arith
one_class (x ∷ y ∷ s) e = absurd (omega arith)
