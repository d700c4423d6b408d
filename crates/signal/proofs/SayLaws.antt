-- Every content that fits a kind can be said to it, with every class from its own up to the kind's limit: a definition by which every
-- value is bad does not pass here.
-- Assumes nothing.
use Prim.Native.Nat.{ℕ, zero, suc, ◌≤◌, max}
use mathlib.Core.Path.{◌≡◌, refl, subst}
use mathlib.Core.Bool.{true}
use mathlib.Core.List.{List, []}
use mathlib.Core.Option.{some}
use native.Mathlib.Omega.{arith}
use lib.ListN.{length}
use Rattle.value.specs.Class.{class_of_all, all_symbols}
use Rattle.packed.specs.Packed.{packed}
use Rattle.packed.specs.Raw.{raw_symbols}
use Rattle.packed.proofs.RawLaws.{raw_of-packed}
use Rattle.signal.specs.declared.kind.SignalEncoding.{SignalEncoding}
use Rattle.signal.specs.declared.kind.SignalEncoding.TheVariants.{BitVector, Real, Absent}
use Rattle.signal.specs.Kind.{top_limit}
use Rattle.signal.specs.Content.{Content, happened, symbols, bits, symbols_of, real_bits, ContentFits, Given, vcd, raw, real, accept, decode}

-- an event by an empty VCD value, a vector by a raw value that claims the class, a real by its bits
unfoldable pub say_of : SignalEncoding → (class : ℕ) → Content → Given
say_of (BitVector zero) t a = vcd []
say_of (BitVector (suc w)) t a = raw t (packed t (symbols_of a))
say_of Real t a = real (real_bits a)
say_of Absent t a = real 0

raw-back : (w t : ℕ) (s : List ℕ) → length s ≡ w → all_symbols s ≡ true → class_of_all s ≤ t → t ≤ 2 → raw_symbols w t (packed t s) ≡ some s
raw-back w t s e a c h = subst (λ (v : ℕ). raw_symbols v t (packed t s) ≡ some s) e (raw_of-packed t [] s h a c)

pub say-decodes : (k : SignalEncoding) (t : ℕ) (a : Content) → ContentFits k a → class_of_all (symbols_of a) ≤ t → t ≤ top_limit k → decode k (say_of k t a) ≡ accept a t
unfolding decode say_of
say-decodes (BitVector zero) t happened f c h = let z : t ≡ 0 = omega arith in rw z refl
say-decodes (BitVector zero) t (symbols s) f c h = absurd f
say-decodes (BitVector zero) t (bits b) f c h = absurd f
say-decodes (BitVector (suc w)) t happened f c h = absurd f
say-decodes (BitVector (suc w)) t (symbols s) f c h =
    let top : max (class_of_all s) t ≡ t = omega arith in
    rw (raw-back (suc w) t s f.0 f.1 c h, top) refl
say-decodes (BitVector (suc w)) t (bits b) f c h = absurd f
say-decodes Real t happened f c h = absurd f
say-decodes Real t (symbols s) f c h = absurd f
say-decodes Real t (bits b) f c h = let z : t ≡ 0 = omega arith in rw z refl
say-decodes Absent t a f c h = absurd f
