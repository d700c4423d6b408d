-- A run of stores in a list: two runs one after the other, a run in a part of the list, and one at its start read again. And what a run of copies reads, a byte at a time.
-- Assumes nothing.
use Prim.Native.Nat.{ℕ, suc, ◌+◌, ◌≤◌, ◌<◌}
use mathlib.Core.Path.{◌≡◌, refl, sym, ◌∙◌}
use mathlib.Core.List.{List, [], ◌∷◌, ◌++◌}
use native.Mathlib.Nat.{add-zero, add-suc, suc-add}
use native.Mathlib.Omega.{arith}
use lib.ListN.{length, take, drop, get_or, set}
use lib.Seq.{sets, sets-eq, take_at, drop-cons, drop-set-add, take-set-lt, drop-set-lt, take-set-le}
use borrow.Rule.Slice.PartMut.{put_mid, mid_of, put_same}

pub sets-append : (a b l : List ℕ) (i : ℕ) → sets l i (a ++ b) ≡ sets (sets l i a) (i + length a) b
sets-append [] b l i = simp add-zero
sets-append (x ∷ a) b l i = sets-append a b (set l i x) (suc i) ∙ simp (suc-add, add-suc)

-- what a callee that was lent the k elements from a on stored there, said of the whole: `put_mid` is the form that the goals have
pub sets-part : (vs xs : List ℕ) (a k j : ℕ) → j + length vs ≤ k → put_mid a k xs (sets (mid_of a k xs) j vs) ≡ sets xs (a + j) vs
sets-part [] xs a k j h = put_same a k xs
sets-part (v ∷ vs) xs a k j h =
    let jk : j < k = omega arith in
    let ih = sets-part vs (set xs (a + j) v) a k (suc j) (omega arith) in
    let aj : a ≤ a + j = omega arith in
    rw add-suc at (simp (drop-set-add, take-set-lt, drop-set-lt, take-set-le) at ih)

-- what was stored at the start, read again
pub taken_back : (v l : List ℕ) (n : ℕ) → n ≡ length v → n ≤ length l → take n (sets l 0 v) ≡ v
taken_back v l n e h = rw (sets-eq v l 0 (omega arith)) (take_at v (drop (0 + length v) l) n (sym e))

-- the first byte of a part, and the rest
pub part-more : (n at : ℕ) (s : List ℕ) → at < length s → take (suc n) (drop at s) ≡ get_or s at 0 ∷ take n (drop (suc at) s)
part-more n at s h = rw (drop-cons s at 0 h) refl
