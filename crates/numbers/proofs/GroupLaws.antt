-- A number read group by group, lowest first: what the groups so far and the number above them make together.
-- Assumes nothing.
use Prim.Native.Nat.{ℕ, zero, suc, ◌+◌, ◌-◌, ◌*◌, ◌^◌, ◌≤◌, ◌<◌}
use mathlib.Core.Path.{◌≡◌, refl, ap, ◌∙◌}
use mathlib.Core.List.{List}
use native.Mathlib.Nat.{mul_comm, mul_assoc, add-mul, mul-le-mul_left, mul-le-mul_right}
use native.Mathlib.Omega.{arith}
use native.Mathlib.Decide.{dec_lt, ℕ_discrete}
use borrow.Author.Tests.{lt-ltb, le-ltb, eq-eqb, ne_eqb}
use lib.ListN.{length, get_or, drop}
use Rattle.numbers.specs.Leb128.{Leb128, above, read_leb, under}
use Rattle.std.specs.Prelude.{Some, None}
use Rattle.numbers.proofs.Leb128Laws.{read_step}

-- one group is a 128th of the number above it
pub above-under : (b : ℕ) (r : Leb128) → 128 ≤ b → b < 256 → above b r ≡ under (b - 128) 128 r
above-under b None h k = refl
above-under b (Some (x, n)) h k = by (dec_lt x 33554432)
  where
    by : Dec (x < 33554432) → above b (Some (x, n)) ≡ under (b - 128) 128 (Some (x, n))
    by (yes l) =
        let f : b - 128 + x * 128 < 4294967296 = omega arith in
        rw (lt-ltb x 33554432 l, lt-ltb _ _ f, mul_comm 128 x) refl
    by (no g) =
        let f : 4294967296 ≤ b - 128 + x * 128 = omega arith in
        rw (le-ltb x 33554432 (omega arith), le-ltb _ _ f) refl

-- one group more below the same number
nested : (v w u : ℕ) (r : Leb128) → 0 < w → under v w (under u 128 r) ≡ under (v + u * w) (w * 128) r
nested v w u None h = refl
nested v w u (Some (x, n)) h = by (ℕ_discrete x 0) (dec_lt (u + x * 128) 4294967296)
  where
    sum : v + (u + x * 128) * w ≡ v + u * w + x * (w * 128)
    sum = let e : (u + x * 128) * w ≡ u * w + x * (w * 128) = add-mul u (x * 128) w ∙ ap (λ (y : ℕ). u * w + y) (mul_assoc x 128 w ∙ ap (λ (y : ℕ). x * y) (mul_comm 128 w)) in omega (arith, e)

    big : u + x * 128 ≤ (u + x * 128) * w
    big = let g : (u + x * 128) * 1 ≤ (u + x * 128) * w = mul-le-mul_left (u + x * 128) h in omega arith

    by : Dec (x ≡ 0) → Dec (u + x * 128 < 4294967296) → under v w (under u 128 (Some (x, n))) ≡ under (v + u * w) (w * 128) (Some (x, n))
    by (yes z) d = rw (eq-eqb x 0 z) refl
    by (no z) (yes l) = rw (ne_eqb x 0 z, lt-ltb _ _ l, ne_eqb (u + x * 128) 0 (λ e. z (omega arith)), sum) refl
    by (no z) (no g) =
        let f : 4294967296 ≤ v + u * w + x * (w * 128) = omega (arith, sum, big) in
        rw (ne_eqb x 0 z, le-ltb (u + x * 128) 4294967296 (omega arith), le-ltb _ _ f) refl

-- what is read where a byte with its top bit set stands, below the groups so far
pub under_more : (v w k at : ℕ) (s : List ℕ) → 0 < w → 0 < k → at < length s → 128 ≤ get_or s at 0 → get_or s at 0 < 256
    → under v w (read_leb k at (drop at s)) ≡ under (v + (get_or s at 0 - 128) * w) (w * 128) (read_leb (k - 1) (at + 1) (drop (at + 1) s))
under_more v w k at s h p l t b =
    let r = read_leb (k - 1) (at + 1) (drop (at + 1) s) in
    rw (read_step k at s p l, le-ltb (get_or s at 0) 128 t, above-under (get_or s at 0) r t b) (nested v w (get_or s at 0 - 128) r h)

-- and where a last byte stands
pub under_last : (v w k at : ℕ) (s : List ℕ) → 0 < k → at < length s → get_or s at 0 < 128
    → under v w (read_leb k at (drop at s)) ≡ under v w (Some (get_or s at 0, at + 1))
under_last v w k at s p l t = rw (read_step k at s p l, lt-ltb (get_or s at 0) 128 t) refl

pub group-weight : (a w : ℕ) → a ≤ 127 → a * w ≤ 127 * w
group-weight a w h = mul-le-mul_right w h

-- the weight of the groups before the last so many bytes of five
pub weight-at : (left : ℕ) → 0 < left → left ≤ 4 → (0 < 128 ^ (5 - left)) × (128 ^ (5 - left) ≤ 268435456) × (128 ^ (5 - left) * 128 ≡ 128 ^ (5 - (left - 1)))
weight-at zero h k = absurd (omega arith)
weight-at (suc zero) h k = (omega arith, omega arith, refl)
weight-at (suc (suc zero)) h k = (omega arith, omega arith, refl)
weight-at (suc (suc (suc zero))) h k = (omega arith, omega arith, refl)
weight-at (suc (suc (suc (suc zero)))) h k = (omega arith, omega arith, refl)
weight-at (suc (suc (suc (suc (suc n))))) h k = absurd (omega arith)
