-- The change that a real says.
-- Assumes nothing.
use Prim.Native.Nat.{ℕ}
use mathlib.Core.Path.{◌≡◌, refl}
use native.Mathlib.Omega.{arith}
use Rattle.signal.specs.declared.kind.SignalEncoding.{SignalEncoding}
use Rattle.signal.specs.declared.kind.SignalEncoding.TheVariants.{BitVector, Real, Absent}
use Rattle.signal.specs.declared.decode.ChangeValue.{ChangeValue}
use Rattle.signal.specs.Content.{bits, real, decode}
use Rattle.stream.specs.Stream.{change_bytes}
use Rattle.stream.specs.Answer.{Says, said_bytes}

-- only a real's signal hears a real
pub real-said : (k : SignalEncoding) (d b : ℕ) (v : ChangeValue) → Says k (real b) v → said_bytes k d (real b) ≡ change_bytes Real d (bits b)
unfolding decode
real-said (BitVector w) d b v (t, e) = let z : ◌≡◌ {A = ℕ} 0 1 = cc in absurd (omega arith)
real-said Real d b v s = refl
real-said Absent d b v (t, e) = let z : ◌≡◌ {A = ℕ} 0 1 = cc in absurd (omega arith)
