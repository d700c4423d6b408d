-- Kinds and their numbers: every number is a kind, a known kind is read back from its number, and a width is its own.
-- Assumes nothing.
use Prim.Native.Nat.{ℕ}
use mathlib.Core.Path.{◌≡◌, refl, sym}
use mathlib.Core.Bool.{Bool, true, false}
use native.Mathlib.Omega.{arith}
use borrow.Author.Tests.{eqb-true, ne_eqb, leb-true}
use lib.Dec.{eqb}
use Rattle.lists.specs.Choice.{pick}
use Rattle.signal.specs.declared.kind.SignalEncoding.{SignalEncoding}
use Rattle.signal.specs.declared.kind.SignalEncoding.TheVariants.{BitVector, Real, Absent}
use Rattle.signal.specs.Kind.{known_kind}
use Rattle.image.specs.Head.{kind_number, kind_from}

pub kind-number : (n : ℕ) → kind_number (kind_from n) ≡ n
kind-number n = by-absent (eqb n 0xffffffff) refl
  where
    by-real : (t : Bool) → eqb n 0xfffffffe ≡ t → kind_number (pick t Real (BitVector n)) ≡ n
    by-real true e = sym (eqb-true n 0xfffffffe e)
    by-real false e = refl

    by-absent : (t : Bool) → eqb n 0xffffffff ≡ t → kind_number (pick t Absent (pick (eqb n 0xfffffffe) Real (BitVector n))) ≡ n
    by-absent true e = sym (eqb-true n 0xffffffff e)
    by-absent false e = by-real (eqb n 0xfffffffe) refl

-- a number that is no other kind's is a width
pub kind-width : (n : ℕ) → (n ≡ 0xffffffff → ⊥) → (n ≡ 0xfffffffe → ⊥) → BitVector n ≡ kind_from n
kind-width n a b = rw (ne_eqb n 0xffffffff a, ne_eqb n 0xfffffffe b) refl

-- a known kind, from its number
pub kind-back : (k : SignalEncoding) → known_kind k ≡ true → kind_from (kind_number k) ≡ k
kind-back (BitVector w) h =
    let s = leb-true w 65536 h in sym (kind-width w (λ e. omega arith) (λ e. omega arith))
kind-back Real h = refl
kind-back Absent h = refl
