-- What holds of a value that may be missing, where it is there: said once of a choice and of a chain, and got out again.
-- Assumes nothing.
use Prim.Native.Nat.{◌≤◌}
use mathlib.Core.Logic.{◌⊎◌, inl, inr}
use mathlib.Core.Path.{◌≡◌, refl, subst}
use mathlib.Core.Bool.{Bool, true, false, ◌&&◌, ◌||◌}
use mathlib.Core.List.{List}
use mathlib.Core.Option.{Option, some, none}
use native.Mathlib.Omega.{arith}
use Rattle.std.proofs.Common.{Some, None}
use Rattle.std.specs.Bool.{then_some}
use Rattle.lists.specs.Choice.{pick, bind, is_some, or_empty}

abbrev pub Where : {A : Type 0} → (A → Type 0) → Option A → Type 0
Where P none = Unit {0}
Where P (some x) = P x

module _ {A : Type 0} (P : A → Type 0) where
  pub where-some : (o : Option A) {x : A} → Where P o → o ≡ some x → P x
  where-some o h e = subst (Where P) e h

  pub where-map : (Q : A → Type 0) (o : Option A) → ((x : A) → P x → Q x) → Where P o → Where Q o
  where-map Q none f h = tt
  where-map Q (some x) f h = f x h

  pub where-pick : (t : Bool) (a b : Option A) → (t ≡ true → Where P a) → (t ≡ false → Where P b) → Where P (pick t a b)
  where-pick true a b f g = f refl
  where-pick false a b f g = g refl

  pub where-bind : {B : Type 0} (o : Option B) (k : B → Option A) → ((x : B) → o ≡ some x → Where P (k x)) → Where P (bind o k)
  where-bind none k f = tt
  where-bind (some x) k f = f x refl

-- what the test tells
pub some-there : {A : Type 0} (o : Option (List A)) → is_some o ≡ true → o ≡ some (or_empty o)
some-there none e = cc
some-there (some l) e = refl

pub none-there : {A : Type 0} (o : Option A) → is_some o ≡ false → o ≡ none
none-there none e = refl
none-there (some x) e = cc

-- two tests that both hold, and two of which none does
pub both_hold : (a b : Bool) → a && b ≡ true → (a ≡ true) × (b ≡ true)
both_hold true b e = (refl, e)
both_hold false b e = (cc, cc)

pub none-holds : (a b : Bool) → a || b ≡ false → (a ≡ false) × (b ≡ false)
none-holds false b e = (refl, e)
none-holds true b e = (cc, cc)

-- what holds of both holds of the chosen one
pub pick-either : {A : Type 0} (P : A → Type 0) (t : Bool) (x y : A) → P x → P y → P (pick t x y)
pick-either P true x y p q = p
pick-either P false x y p q = q

-- a function of the chosen one
pub pick-by : {A B : Type 0} (f : A → B) (t : Bool) (x y : A) {p q : B} → f x ≡ p → f y ≡ q → f (pick t x y) ≡ pick t p q
pick-by f true x y e h = e
pick-by f false x y e h = h

-- a choice between the same
pub pick_same : {A : Type 0} (t : Bool) (x : A) → pick t x x ≡ x
pick_same true x = refl
pick_same false x = refl

-- what the code's `then_some` answers
pub then_some_pick : {A : Type 0} (t : Bool) (x : A) → then_some t x ≡ pick t (Some x) None
then_some_pick true x = refl
then_some_pick false x = refl

-- one, or nothing
pub pick-one : (t : Bool) → pick t 1 0 ≤ 1
pick-one true = omega arith
pick-one false = omega arith

-- a variable after a test that may set it: A and B are what the two ways know
pub pick-came : {X A B : Type 0} {x y r : X} (t : Bool) → (A → t ≡ true) → (B → t ≡ false) → (A × (r ≡ x)) ⊎ (B × (r ≡ y)) → r ≡ pick t x y
pick-came t f g (inl w) = rw (f w.0) w.1
pick-came t f g (inr w) = rw (g w.0) w.1
