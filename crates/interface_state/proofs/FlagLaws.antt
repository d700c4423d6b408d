-- What the number of a flag becomes.
-- Assumes nothing.
use Prim.Native.Nat.{ℕ}
use mathlib.Core.Path.{◌≡◌, refl}
use mathlib.Core.Bool.{Bool, true, false}
use borrow.Author.Tests.{ne_eqb}
use Rattle.interface_state.specs.State.{flag_after}

pub flag_off : (n : ℕ) (b : Bool) → b ≡ false → 0 ≡ flag_after n b
flag_off n b e = rw e refl

pub flag-set : (n : ℕ) (b : Bool) → b ≡ true → n ≡ 0 → 1 ≡ flag_after n b
flag-set n b e z = rw (e, z) refl

pub flag-stays : (n : ℕ) (b : Bool) → b ≡ true → (n ≡ 0 → ⊥) → n ≡ flag_after n b
flag-stays n b e z = rw (e, ne_eqb n 0 z) refl
