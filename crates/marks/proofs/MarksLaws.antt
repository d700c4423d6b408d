-- What adding a bit's weight to a byte does to each of its bits, and so to the set; bytes of 0 are the empty set.
-- Assumes nothing.
use Prim.Native.Nat.{ℕ, zero, suc, ◌+◌, ◌-◌, ◌*◌, ◌/◌, ◌%◌, ◌^◌, ◌<◌}
use mathlib.Core.Path.{◌≡◌, refl, ap}
use mathlib.Core.Bool.{Bool, true, false, ◌||◌}
use mathlib.Core.List.{List}
use native.Mathlib.Decide.{dec_lt, ℕ_discrete}
use native.Mathlib.Nat.{add-mul-div_right, add-div_right, pow-suc, zero-div}
use native.Mathlib.Omega.{arith}
use borrow.Author.Tests.{eq-eqb, ne_eqb, eqb-true}
use lib.Dec.{eqb}
use lib.ListN.{length, get_or, set, replicate}
use lib.Pow.{pow_pos, pow-add, shr-shr}
use lib.Seq.{get_or-set_same, get_or-set_other}
use Rattle.lists.proofs.BytesLaws.{zeros-at}
use Rattle.marks.specs.Marks.{mark_at}

-- ---- bits of a number

-- the bit k is set; the bits below it stay
bit-same : (x k : ℕ) → x / 2 ^ k % 2 ≡ 0 → (x + 2 ^ k) / 2 ^ k % 2 ≡ 1
bit-same x k h = rw (add-div_right x (pow_pos k)) (omega arith)

bit_below : (x k d : ℕ) → (x + 2 ^ (suc d + k)) / 2 ^ k % 2 ≡ x / 2 ^ k % 2
bit_below x k d =
    rw (pow-add 2 (suc d) k, add-mul-div_right x (2 ^ suc d) (pow_pos k), pow-suc 2 d) (omega arith)

-- and those above it, as nothing is carried
bit-above : (x k d : ℕ) → x / 2 ^ k % 2 ≡ 0 → (x + 2 ^ k) / 2 ^ (k + suc d) % 2 ≡ x / 2 ^ (k + suc d) % 2
bit-above x k d h =
    let half : (x / 2 ^ k + 1) / 2 ≡ x / 2 ^ k / 2 = omega arith in
    let e : k + suc d ≡ k + (1 + d) = omega arith in
    let part : (y : ℕ) → y / 2 ^ (k + suc d) ≡ y / 2 ^ k / 2 / 2 ^ d = λ y. rw (e, ← shr-shr y k (1 + d), ← shr-shr (y / 2 ^ k) 1 d) refl in
    rw (part (x + 2 ^ k), part x, add-div_right x (pow_pos k), half) refl

pub bit-other : (x k j : ℕ) → x / 2 ^ k % 2 ≡ 0 → (j ≡ k → ⊥) → (x + 2 ^ k) / 2 ^ j % 2 ≡ x / 2 ^ j % 2
bit-other x k j h n = by_place (dec_lt j k)
  where
    by_place : Dec (j < k) → (x + 2 ^ k) / 2 ^ j % 2 ≡ x / 2 ^ j % 2
    by_place (yes l) = let e : suc (k - suc j) + j ≡ k = omega arith in rw e at (bit_below x j (k - suc j))
    by_place (no l) = let e : k + suc (j - suc k) ≡ j = omega arith in rw e at (bit-above x k (j - suc k) h)

-- what holds at each place of a byte
by-eight : (P : ℕ → Type 0) → P 0 × P 1 × P 2 × P 3 × P 4 × P 5 × P 6 × P 7 → (k : ℕ) → k < 8 → P k
by-eight P a zero l = a.0
by-eight P a (suc zero) l = a.1
by-eight P a (suc (suc zero)) l = a.2
by-eight P a (suc (suc (suc zero))) l = a.3
by-eight P a (suc (suc (suc (suc zero)))) l = a.4
by-eight P a (suc (suc (suc (suc (suc zero))))) l = a.5
by-eight P a (suc (suc (suc (suc (suc (suc zero)))))) l = a.6
by-eight P a (suc (suc (suc (suc (suc (suc (suc zero))))))) l = a.7
by-eight P a (suc (suc (suc (suc (suc (suc (suc (suc k)))))))) l = absurd (omega arith)

-- a byte stays a byte
pub bit-fits : (x k : ℕ) → x < 256 → k < 8 → x / 2 ^ k % 2 ≡ 0 → x + 2 ^ k < 256
bit-fits x k b l =
    by-eight (λ (k : ℕ). x / 2 ^ k % 2 ≡ 0 → x + 2 ^ k < 256)
    (λ h. omega arith, λ h. omega arith, λ h. omega arith, λ h. omega arith, λ h. omega arith, λ h. omega arith, λ h. omega arith, λ h. omega arith)
    k l

pub weight-fits : (k : ℕ) → k < 8 → 1 * 2 ^ k % 2 ^ 8 ≡ 2 ^ k
weight-fits = by-eight (λ (k : ℕ). 1 * 2 ^ k % 2 ^ 8 ≡ 2 ^ k) (refl, refl, refl, refl, refl, refl, refl, refl)

-- ---- the set

-- the weight of a number that is not in the set, added
pub mark-added : (m : List ℕ) (i j : ℕ) → i < 8 * length m → get_or m (i / 8) 0 / 2 ^ (i % 8) % 2 ≡ 0
    → mark_at (set m (i / 8) (get_or m (i / 8) 0 + 2 ^ (i % 8))) j ≡ (eqb j i || mark_at m j)
unfolding mark_at
mark-added m i j h z = by_byte (ℕ_discrete (j / 8) (i / 8)) (ℕ_discrete (j % 8) (i % 8))
  where
    x : ℕ
    x = get_or m (i / 8) 0 + 2 ^ (i % 8)

    by_byte : Dec (j / 8 ≡ i / 8) → Dec (j % 8 ≡ i % 8)
        → eqb (get_or (set m (i / 8) x) (j / 8) 0 / 2 ^ (j % 8) % 2) 1 ≡ (eqb j i || eqb (get_or m (j / 8) 0 / 2 ^ (j % 8) % 2) 1)
    by_byte (no n) d =
        let ne : j ≡ i → ⊥ = λ e. n (ap (λ (k : ℕ). k / 8) e) in
        rw (get_or-set_other m (i / 8) (j / 8) x 0 n, ne_eqb j i ne) refl
    by_byte (yes e) (no n) =
        let ne : j ≡ i → ⊥ = λ e. n (ap (λ (k : ℕ). k % 8) e) in
        rw (e, get_or-set_same m (i / 8) x 0 (omega arith), bit-other (get_or m (i / 8) 0) (i % 8) (j % 8) z n, ne_eqb j i ne) refl
    by_byte (yes e) (yes f) =
        let g : j ≡ i = omega arith in
        rw (e, f, get_or-set_same m (i / 8) x 0 (omega arith), bit-same (get_or m (i / 8) 0) (i % 8) z, eq-eqb j i g) refl

-- a number of the set, put in again
pub mark-again : (m : List ℕ) (i j : ℕ) → (get_or m (i / 8) 0 / 2 ^ (i % 8) % 2 ≡ 0 → ⊥) → mark_at m j ≡ (eqb j i || mark_at m j)
unfolding mark_at
mark-again m i j h = by_number (eqb j i) refl
  where
    by_number : (t : Bool) → eqb j i ≡ t → eqb (get_or m (j / 8) 0 / 2 ^ (j % 8) % 2) 1 ≡ (t || eqb (get_or m (j / 8) 0 / 2 ^ (j % 8) % 2) 1)
    by_number false e = refl
    by_number true e = rw (eqb-true j i e) (eq-eqb (get_or m (i / 8) 0 / 2 ^ (i % 8) % 2) 1 (omega arith))

pub no-marks : (n j : ℕ) → mark_at (replicate n 0) j ≡ false
unfolding mark_at
no-marks n j = rw (zeros-at n (j / 8), zero-div (2 ^ (j % 8))) refl
