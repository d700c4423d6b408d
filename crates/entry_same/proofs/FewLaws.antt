-- At most eight bytes compared as one number: of the eight bytes before a place, lowest first, the last ones are the highest.
-- Assumes nothing.
use Prim.Native.Nat.{ℕ, zero, suc, ◌+◌, ◌*◌, ◌-◌, ◌/◌, ◌^◌, ◌≤◌}
use mathlib.Core.Path.{◌≡◌, refl, sym, ap, ◌∙◌}
use mathlib.Core.Bool.{Bool, true, false}
use mathlib.Core.List.{List, [], ◌∷◌}
use native.Mathlib.Nat.{div-one, zero-div}
use native.Mathlib.Omega.{arith}
use lib.Dec.{eqb}
use lib.Pow.{shr-shr}
use lib.Seq.{drop-drop}
use lib.ListN.{length, take, drop, length-take, length-drop}
use Rattle.std.proofs.lemmas.Bool.{eqb-true, eq-eqb}
use Rattle.std.proofs.lemmas.List.{drop-take}
use Rattle.lists.specs.Bytes.{Bytes}
use Rattle.lists.proofs.BytesLaws.{tail-bytes, take-bytes, drop-bytes}
use Rattle.lists.specs.Same.{same}
use Rattle.lists.proofs.SameLaws.{same_true, same_self}
use Rattle.numbers.specs.LittleEndian.{unle}
use Rattle.numbers.proofs.LittleEndianLaws.{le-unle}

-- a number without its lowest n bytes
without : (n : ℕ) (s : List ℕ) → Bytes s → unle s / 2 ^ (8 * n) ≡ unle (drop n s)
unfolding unle
without zero s h = div-one (unle s)
without (suc n) [] h = zero-div (2 ^ (8 * suc n))
without (suc n) (b ∷ s) h =
    let e : 8 * suc n ≡ 8 + 8 * n = omega arith in
    let q : (b + 256 * unle s) / 2 ^ 8 ≡ unle s = omega (arith, h 0) in
    rw e (sym (shr-shr (b + 256 * unle s) 8 (8 * n)) ∙ ap (λ (v : ℕ). v / 2 ^ (8 * n)) q ∙ without n s (tail-bytes b s h))

-- the last ones of the eight bytes before a place
highest : (size m : ℕ) (s : List ℕ) → Bytes s → size ≤ 8 → 8 ≤ m → unle (take 8 (drop (m - 8) s)) / 2 ^ (64 - 8 * size) ≡ unle (take size (drop (m - size) s))
highest size m s h f g =
    let e : 64 - 8 * size ≡ 8 * (8 - size) = omega arith in
    let t : 8 ≡ 8 - size + size = omega arith in
    let p : m - 8 + (8 - size) ≡ m - size = omega arith in
    let l = ap (λ (k : ℕ). drop (8 - size) (take k (drop (m - 8) s))) t
    ∙ drop-take (8 - size) size (drop (m - 8) s)
    ∙ ap (take size) (drop-drop (8 - size) (m - 8) s)
    ∙ ap (λ (k : ℕ). take size (drop k s)) p in
    rw e (without (8 - size) (take 8 (drop (m - 8) s)) (take-bytes 8 (drop (m - 8) s) (drop-bytes (m - 8) s h))) ∙ ap unle l

-- bytes as many are the same where their numbers are
same_numbers : (a b : List ℕ) → Bytes a → Bytes b → length a ≡ length b → eqb (unle a) (unle b) ≡ same a b
same_numbers a b h k e = by (eqb (unle a) (unle b)) (same a b) refl refl
  where
    equal : unle a ≡ unle b → a ≡ b
    equal f = sym (le-unle a h) ∙ rw (e, f) (le-unle b k)

    by : (s t : Bool) → eqb (unle a) (unle b) ≡ s → same a b ≡ t → eqb (unle a) (unle b) ≡ same a b
    by true t p q = p ∙ sym (rw (equal (eqb-true (unle a) (unle b) p)) (same_self b))
    by false true p q = eq-eqb (unle a) (unle b) (ap unle (same_true a b q)) ∙ sym q
    by false false p q = p ∙ sym q

pub few_same : (size m n : ℕ) (s : List ℕ) → Bytes s → size ≤ 8 → 8 ≤ m → m ≤ length s → 8 ≤ n → n ≤ length s
    → eqb (unle (take 8 (drop (m - 8) s)) / 2 ^ (64 - 8 * size)) (unle (take 8 (drop (n - 8) s)) / 2 ^ (64 - 8 * size))
    ≡ same (take size (drop (m - size) s)) (take size (drop (n - size) s))
few_same size m n s h f g i j k =
    rw (highest size m s h f g, highest size n s h f j)
    (same_numbers (take size (drop (m - size) s)) (take size (drop (n - size) s)) (bytes m) (bytes n) (long m g i ∙ sym (long n j k)))
  where
    bytes : (m : ℕ) → Bytes (take size (drop (m - size) s))
    bytes m = take-bytes size (drop (m - size) s) (drop-bytes (m - size) s h)

    long : (m : ℕ) → 8 ≤ m → m ≤ length s → length (take size (drop (m - size) s)) ≡ size
    long m g i = omega (arith, length-take size (drop (m - size) s), length-drop (m - size) s)
