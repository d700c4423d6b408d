-- The class of a value, by cases of its symbols, is also that of its symbol numbers or-ed together, read as 0..1, 2..3, or 4 and more.
-- Assumes nothing.
use Prim.Native.Nat.{ℕ, ◌≤◌, ◌<◌, max}
use mathlib.Core.Path.{◌≡◌, refl, sym, ap, ◌∙◌}
use mathlib.Core.List.{List, [], ◌∷◌}
use native.Mathlib.Omega.{arith}
use borrow.Author.Tests.{le-leb, lt-leb}
use lib.Bits.{bit_or, or_lt, or_add_and, and_le_l, and_le_r}
use Rattle.value.specs.Class.{class_of, class_of_all, or_all, class_of_or}
use Rattle.value.proofs.ClassLaws.{class-two, class-four, class-nine, class-small, by-class}

-- the two readings of a number
same_class : (n : ℕ) → class_of n ≡ class_of_or n
same_class n = by-class (λ (c : ℕ). c ≡ class_of_or n) n
    (λ h. let k : n ≤ 1 = omega arith in simp (le-leb n 1 k))
    (λ h k. let l : n ≤ 3 = omega arith in simp (lt-leb n 1 h, le-leb n 3 l))
    (λ h. let k : 1 < n = omega arith in simp (lt-leb n 1 k, lt-leb n 3 h))

-- the larger of two symbols has the larger of their classes
class-max : (a b : ℕ) → class_of (max a b) ≡ max (class_of a) (class_of b)
class-max a b = by-class (λ (c : ℕ). c ≡ max (class_of a) (class_of b)) (max a b)
    (λ h. let p = class-two a (omega arith) in let q = class-two b (omega arith) in omega arith)
    (λ h k. by-class (λ (c : ℕ). 1 ≡ max c (class_of b)) a
    (λ x. let q = class-four b (omega arith) (omega arith) in omega arith)
    (λ x y. by-class (λ (c : ℕ). 1 ≡ max 1 c) b (λ z. omega arith) (λ z w. omega arith) (λ z. absurd (omega arith)))
    (λ x. absurd (omega arith)))
    (λ h. by-class (λ (c : ℕ). 2 ≡ max c (class_of b)) a
    (λ x. let q = class-nine b (omega arith) in omega arith)
    (λ x y. let q = class-nine b (omega arith) in omega arith)
    (λ x. omega (arith, class-small b)))

-- an or is as large as each of the two
or-least : (a b : ℕ) → max a b ≤ bit_or a b
or-least a b = omega (arith, or_add_and a b, and_le_l a b, and_le_r a b)

-- it reaches 2 or 4 exactly where the larger does
class-or : (a b : ℕ) → class_of (bit_or a b) ≡ class_of (max a b)
class-or a b =
    let least = or-least a b in
    by-class (λ (c : ℕ). class_of (bit_or a b) ≡ c) (max a b)
    (λ h. class-two (bit_or a b) (or_lt 1 a b (omega arith) (omega arith)))
    (λ h k. class-four (bit_or a b) (omega arith) (or_lt 2 a b (omega arith) (omega arith)))
    (λ h. class-nine (bit_or a b) (omega arith))

class-all-or : (s : List ℕ) → class_of_all s ≡ class_of (or_all s)
unfolding class_of_all or_all
class-all-or [] = refl
class-all-or (s ∷ l) = ap (max (class_of s)) (class-all-or l) ∙ sym (class-or s (or_all l) ∙ class-max s (or_all l))

pub class-by-or : (s : List ℕ) → class_of_all s ≡ class_of_or (or_all s)
class-by-or s = class-all-or s ∙ same_class (or_all s)
