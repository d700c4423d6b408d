-- Sums over a run of numbers: compared term by term, cut in two, shifted, and two sums that differ in one term.
-- Assumes nothing.
use Prim.Native.Nat.{ℕ, zero, suc, ◌+◌, ◌≤◌, ◌<◌}
use mathlib.Core.Path.{◌≡◌, refl}
use native.Mathlib.Decide.{ℕ_discrete}
use native.Mathlib.Nat.{add-zero, zero-add, suc-add}
use native.Mathlib.Omega.{arith}
use Rattle.work.specs.Counting.{sum}

pub sum_same : (f f' : ℕ → ℕ) (g n : ℕ) → ((j : ℕ) → g ≤ j → j < g + n → f j ≡ f' j) → sum f g n ≡ sum f' g n
unfolding sum
sum_same f f' g zero h = refl
sum_same f f' g (suc n) h =
    let first : f g ≡ f' g = h g (omega arith) (omega arith) in
    rw (first, sum_same f f' (suc g) n (λ j a b. h j (omega arith) (omega arith))) refl

-- two sums that differ at s alone
pub sum_one : (f f' : ℕ → ℕ) (s a g n : ℕ) → g ≤ s → s < g + n → f s ≡ a + f' s → ((j : ℕ) → (j ≡ s → ⊥) → f j ≡ f' j)
    → sum f g n ≡ a + sum f' g n
unfolding sum
sum_one f f' s a g zero l u e h = absurd (omega arith)
sum_one f f' s a g (suc n) l u e h = by_place (ℕ_discrete g s) (λ k. sum_one f f' s a (suc g) n k (omega arith) e h)
  where
    by_place : Dec (g ≡ s) → (suc g ≤ s → sum f (suc g) n ≡ a + sum f' (suc g) n) → f g + sum f (suc g) n ≡ a + (f' g + sum f' (suc g) n)
    by_place (yes q) more =
        let here : f g ≡ a + f' g = rw q e in
        let rest : sum f (suc g) n ≡ sum f' (suc g) n = sum_same f f' (suc g) n (λ j b d. h j (λ z. absurd (omega arith))) in
        omega arith
    by_place (no q) more =
        let here : f g ≡ f' g = h g q in
        let rest : sum f (suc g) n ≡ a + sum f' (suc g) n = more (omega arith) in
        omega arith

pub sum-add : (f : ℕ → ℕ) (g n m : ℕ) → sum f g (n + m) ≡ sum f g n + sum f (g + n) m
unfolding sum
sum-add f g zero m = simp (add-zero, zero-add)
sum-add f g (suc n) m =
    let e : suc g + n ≡ g + suc n = omega arith in
    let ih = rw e at (sum-add f (suc g) n m) in
    rw suc-add (omega arith)

pub sum-plus : (f f' : ℕ → ℕ) (g n : ℕ) → sum (λ j. f j + f' j) g n ≡ sum f g n + sum f' g n
unfolding sum
sum-plus f f' g zero = refl
sum-plus f f' g (suc n) = let ih = sum-plus f f' (suc g) n in omega arith

pub sum-le : (f : ℕ → ℕ) (g n : ℕ) → ((j : ℕ) → f j ≤ 1) → sum f g n ≤ n
unfolding sum
sum-le f g zero h = omega arith
sum-le f g (suc n) h = let ih = sum-le f (suc g) n h in omega (arith, h g)

pub sum-zero : (f : ℕ → ℕ) (g n : ℕ) → ((j : ℕ) → g ≤ j → f j ≡ 0) → sum f g n ≡ 0
unfolding sum
sum-zero f g zero h = refl
sum-zero f g (suc n) h =
    let ih = sum-zero f (suc g) n (λ j l. h j (omega arith)) in
    let first : f g ≡ 0 = h g (omega arith) in
    omega arith

pub sum-shift : (f : ℕ → ℕ) (b g n : ℕ) → sum (λ i. f (b + i)) g n ≡ sum f (b + g) n
unfolding sum
sum-shift f b g zero = refl
sum-shift f b g (suc n) =
    let e : b + suc g ≡ suc (b + g) = omega arith in
    let ih = rw e at (sum-shift f b (suc g) n) in
    rw ih refl
