-- Decisions that compute by the tests of numbers.
-- Assumes nothing.
use Rattle.std.specs.Prelude.{ℕ, ◌≤◌, ◌<◌, ◌≡◌, refl, Bool, true, false, leb, ltb, eqb}
use Rattle.std.proofs.Common.{arith, leb-true, leb-false, ltb-true, ltb-false, eqb-true}
use Rattle.std.proofs.lemmas.Bool.{eqb-false}

abbrev by_leb : (a b : ℕ) (t : Bool) → leb a b ≡ t → Dec (a ≤ b)
by_leb a b true e = yes (leb-true a b e)
by_leb a b false e = no (λ h. let g = leb-false a b e in omega arith)

abbrev pub le? : (a b : ℕ) → Dec (a ≤ b)
le? a b = by_leb a b (leb a b) refl

abbrev by_ltb : (a b : ℕ) (t : Bool) → ltb a b ≡ t → Dec (a < b)
by_ltb a b true e = yes (ltb-true a b e)
by_ltb a b false e = no (λ h. let g = ltb-false a b e in omega arith)

abbrev pub lt? : (a b : ℕ) → Dec (a < b)
lt? a b = by_ltb a b (ltb a b) refl

abbrev by_eqb : (a b : ℕ) (t : Bool) → eqb a b ≡ t → Dec (a ≡ b)
by_eqb a b true e = yes (eqb-true a b e)
by_eqb a b false e = no (eqb-false a b e)

abbrev pub eq? : (a b : ℕ) → Dec (a ≡ b)
eq? a b = by_eqb a b (eqb a b) refl

pub false-true : false ≡ true → ⊥
false-true e = let z : ◌≡◌ {A = ℕ} 0 1 = cc in omega arith

-- that a test holds
abbrev pub holds? : (t : Bool) → Dec (t ≡ true)
holds? true = yes refl
holds? false = no false-true

abbrev pub both : {A B : Type 0} → Dec A → Dec B → Dec (A × B)
both (yes a) (yes b) = yes (a, b)
both (yes a) (no n) = no (λ p. n p.1)
both (no n) (yes b) = no (λ p. n p.0)
both (no n) (no m) = no (λ p. n p.0)

abbrev pub always : Dec (Unit {0})
always = yes tt

abbrev pub impossible : Dec ⊥
impossible = no (λ z. z)

-- a decision of a record, by its parts
abbrev pub map_dec : {A B : Type 0} → (A → B) → (B → A) → Dec A → Dec B
map_dec f g (yes a) = yes (f a)
map_dec f g (no n) = no (λ b. n (g b))
