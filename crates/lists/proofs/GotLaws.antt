-- Taking a reading apart.
-- Assumes nothing.
use Prim.Native.Nat.{ℕ}
use mathlib.Core.Path.{◌≡◌, refl}
use mathlib.Core.Bool.{Bool, true, false}
use mathlib.Core.List.{List}
use native.Mathlib.Omega.{arith}
use Rattle.lists.specs.Choice.{pick}
use Rattle.lists.specs.Got.{Got, bad, got}

pub bad-got : {A : Type 0} {B : Type 0} {x : A} {r : List ℕ} → bad ≡ got x r → B
bad-got e = let z : ◌≡◌ {A = ℕ} 0 1 = cc in absurd (omega arith)

-- by a test that held
pub by-test : {A P : Type 0} {y : A} {q : List ℕ} (t : Bool) (g : Got A) → pick t g bad ≡ got y q → (t ≡ true → g ≡ got y q → P) → P
by-test true g e f = f refl e
by-test false g e f = bad-got e
