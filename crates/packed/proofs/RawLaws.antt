-- Raw values: where a raw value is bad, and that the bytes of packed symbols, after any bytes in front, say those symbols.
-- Assumes nothing.
use Prim.Native.Nat.{ℕ, zero, suc, ◌-◌, ◌≤◌, ◌<◌}
use mathlib.Core.Path.{◌≡◌, refl, ◌∙◌}
use mathlib.Core.Bool.{Bool, true, false, or-true}
use mathlib.Core.List.{List, ◌++◌}
use mathlib.Core.Option.{Option, some, none}
use native.Mathlib.Omega.{arith}
use borrow.Author.Tests.{lt-ltb, le-ltb}
use lib.Dec.{ltb}
use lib.ListN.{length, get_or, length-append}
use lib.Seq.{drop_at}
use Rattle.lists.specs.Choice.{pick}
use Rattle.value.specs.Class.{states_of, class_of_all, all_symbols, min_states}
use Rattle.value.specs.Change.{change_of}
use Rattle.value.specs.declared.states.States.{States}
use Rattle.std.proofs.Common.{Some, None}
use Rattle.value.specs.declared.symbol.Bit.{Bit}
use Rattle.value.specs.declared.change.BitVecChange.TheVariants.{SingleBit, MultiBit}
use Rattle.packed.specs.Packed.{packed_length, packed, unpacked}
use Rattle.packed.specs.Raw.{checked, last_of, raw_symbols}
use Rattle.packed.proofs.PackedLaws.{length-packed, unpacked-packed}

-- ---- symbols by the answer of `min_states`

none-by : (s : List ℕ) (k : States) (t : Bool) → pick t (Some k) None ≡ None → pick t (some s) none ≡ none
none-by s k true e = let z : ◌≡◌ {A = ℕ} 0 1 = cc in absurd (omega arith)
none-by s k false e = refl

pub checked-none : (s : List ℕ) → min_states s ≡ None → checked s ≡ none
unfolding min_states
checked-none s e = none-by s (states_of (class_of_all s)) (all_symbols s) e

some-by : (s : List ℕ) (k m : States) (t : Bool) → pick t (Some k) None ≡ Some m → (pick t (some s) none ≡ some s) × (m ≡ k)
some-by s k m true e = (refl, cc)
some-by s k m false e = let z : ◌≡◌ {A = ℕ} 0 1 = cc in absurd (omega arith)

pub checked-some : (s : List ℕ) (m : States) → min_states s ≡ Some m → (checked s ≡ some s) × (m ≡ states_of (class_of_all s))
unfolding min_states
checked-some s m e = some-by s (states_of (class_of_all s)) m (all_symbols s) e

pub change-zero : (w : ℕ) (o : Option (List ℕ)) → w ≡ 0 → change_of w o ≡ None
change-zero w none e = refl
change-zero w (some s) e = rw e refl

pub change-single : (w : ℕ) (s : List ℕ) (x : Bit) → w ≡ 1 → x.0 ≡ get_or s 0 0 → change_of w (some s) ≡ Some (SingleBit x)
change-single w s x e f = rw (e, ← f) refl

pub change-multi : (w : ℕ) (s : List ℕ) → (w ≡ 0 → ⊥) → (w ≡ 1 → ⊥) → change_of w (some s) ≡ Some (MultiBit (states_of (class_of_all s)))
change-multi zero s a b = absurd (a refl)
change-multi (suc zero) s a b = absurd (b refl)
change-multi (suc (suc w)) s a b = refl

-- ---- raw values

pub raw-claim : (w claim : ℕ) (v : List ℕ) → 2 < claim → raw_symbols w claim v ≡ none
unfolding raw_symbols
raw-claim w claim v h = rw (lt-ltb 2 claim h) refl

pub raw-short : (w claim : ℕ) (v : List ℕ) → length v < packed_length w claim → raw_symbols w claim v ≡ none
unfolding raw_symbols
raw-short w claim v h = rw (lt-ltb (length v) (packed_length w claim) h, or-true (ltb 2 claim)) refl

pub raw-last : (w claim : ℕ) (v : List ℕ) → claim ≤ 2 → packed_length w claim ≤ length v
    → raw_symbols w claim v ≡ checked (unpacked w claim (last_of (packed_length w claim) v))
unfolding raw_symbols
raw-last w claim v h k = rw (le-ltb 2 claim h, le-ltb (length v) (packed_length w claim) k) refl

pub last-after : (a b : List ℕ) (n : ℕ) → length b ≡ n → last_of n (a ++ b) ≡ b
last-after a b n e = drop_at a b (length (a ++ b) - n) (omega (arith, length-append a b))

pub raw_of-packed : (c : ℕ) (front s : List ℕ) → c ≤ 2 → all_symbols s ≡ true → class_of_all s ≤ c
    → raw_symbols (length s) c (front ++ packed c s) ≡ some s
raw_of-packed c front s h a k =
    let n = length-packed c s in
    raw-last (length s) c (front ++ packed c s) h (omega (arith, length-append front (packed c s)))
    ∙ rw (last-after front (packed c s) (packed_length (length s) c) n, unpacked-packed c s a k, a) refl
