-- What a raw value that is not bad is: its claim, its bytes and its symbols.
-- Assumes nothing.
use Prim.Native.Nat.{ℕ, ◌≤◌}
use mathlib.Core.Path.{◌≡◌, refl}
use mathlib.Core.Bool.{Bool, true, false, ◌||◌}
use mathlib.Core.List.{List}
use mathlib.Core.Option.{some, none}
use native.Mathlib.Omega.{arith}
use borrow.Author.Tests.{ltb-false}
use lib.Dec.{ltb}
use lib.ListN.{length}
use Rattle.lists.specs.Choice.{pick}
use Rattle.value.specs.Class.{all_symbols}
use Rattle.packed.specs.Packed.{packed_length, unpacked}
use Rattle.packed.specs.Raw.{last_of, raw_symbols}
use Rattle.packed.proofs.PackedLaws.{length-unpacked}

pub record RawSaid (w claim : ℕ) (v s : List ℕ) : Type 0 where
  pub claimed : claim ≤ 2
  pub enough : packed_length w claim ≤ length v
  pub same : unpacked w claim (last_of (packed_length w claim) v) ≡ s
  pub all : all_symbols s ≡ true

pub raw-said : (w claim : ℕ) (v : List ℕ) {s : List ℕ} → raw_symbols w claim v ≡ some s → RawSaid w claim v s
unfolding raw_symbols
raw-said w claim v {s} e = by-claim (ltb 2 claim) refl (ltb (length v) (packed_length w claim)) refl e
  where
    u : List ℕ
    u = unpacked w claim (last_of (packed_length w claim) v)

    by-symbols : (t : Bool) → all_symbols u ≡ t → claim ≤ 2 → packed_length w claim ≤ length v → pick t (some u) none ≡ some s → RawSaid w claim v s
    by-symbols true a h k e = let q : u ≡ s = cc in record { claimed = h; enough = k; same = q; all = rw (← q) a }
    by-symbols false a h k e = let z : ◌≡◌ {A = ℕ} 0 1 = cc in absurd (omega arith)

    by-claim : (t : Bool) → ltb 2 claim ≡ t → (r : Bool) → ltb (length v) (packed_length w claim) ≡ r
        → pick (t || r) none (pick (all_symbols u) (some u) none) ≡ some s → RawSaid w claim v s
    by-claim true a r b e = let z : ◌≡◌ {A = ℕ} 0 1 = cc in absurd (omega arith)
    by-claim false a true b e = let z : ◌≡◌ {A = ℕ} 0 1 = cc in absurd (omega arith)
    by-claim false a false b e = by-symbols (all_symbols u) refl (ltb-false 2 claim a) (ltb-false (length v) (packed_length w claim) b) e

pub raw-length : (w claim : ℕ) (v : List ℕ) {s : List ℕ} → raw_symbols w claim v ≡ some s → length s ≡ w
raw-length w claim v e =
    let r = raw-said w claim v e in
    rw (← r.same) (length-unpacked w claim (last_of (packed_length w claim) v))
