-- The bytes of a number of w bytes and the number of w bytes are inverse, and what one byte more changes: by induction on the width or
-- the bytes.
-- Assumes nothing.
use Prim.Native.Nat.{ℕ, zero, suc, ◌+◌, ◌*◌, ◌/◌, ◌%◌, ◌^◌, ◌≤◌, ◌<◌}
use mathlib.Core.Path.{◌≡◌, refl, ap}
use mathlib.Core.List.{List, [], ◌∷◌}
use native.Mathlib.Nat.{pow-suc}
use native.Mathlib.Omega.{arith}
use lib.ListN.{length, take, drop, length-take, length-drop}
use Rattle.std.specs.Int.{w32, w64, to_le_bytes, from_le_bytes}
use Rattle.lists.specs.Bytes.{Bytes}
use Rattle.lists.proofs.BytesLaws.{tail-bytes}
use Rattle.numbers.specs.LittleEndian.{le, unle}

pub length-le : (w v : ℕ) → length (le w v) ≡ w
unfolding le
length-le zero v = refl
length-le (suc w) v = ap suc (length-le w (v / 256))

pub unle-le : (w v : ℕ) → v < 256 ^ w → unle (le w v) ≡ v
unfolding le unle
unle-le zero v h = omega arith
unle-le (suc w) v h =
    let h' : v / 256 < 256 ^ w = omega (arith, rw pow-suc at h) in
    omega (arith, unle-le w (v / 256) h')

pub unle-lt : (n : ℕ) (s : List ℕ) → Bytes s → unle (take n s) < 256 ^ n
unfolding unle
unle-lt zero s h = omega arith
unle-lt (suc n) [] h = rw pow-suc (omega (arith, unle-lt n [] h))
unle-lt (suc n) (b ∷ s) h = rw pow-suc (omega (arith, unle-lt n s (tail-bytes b s h), h 0))

-- the other direction of the round trip: the bytes of the number of w bytes
pub le-unle : (s : List ℕ) → Bytes s → le (length s) (unle s) ≡ s
unfolding le unle
le-unle [] h = refl
le-unle (b ∷ s) h =
    let q : (b + 256 * unle s) / 256 ≡ unle s = omega (arith, h 0) in
    let r : (b + 256 * unle s) % 256 ≡ b = omega (arith, h 0) in
    rw (q, r, le-unle s (tail-bytes b s h)) refl

-- what std writes and reads
pub written_4 : (v : ℕ) → to_le_bytes w32 v ≡ le 4 v
unfolding le
written_4 v =
    let b : v / 256 ^ 2 % 256 ≡ v / 256 / 256 % 256 = omega arith in
    let c : v / 256 ^ 3 % 256 ≡ v / 256 / 256 / 256 % 256 = omega arith in
    rw (b, c) refl

pub written_8 : (v : ℕ) → to_le_bytes w64 v ≡ le 8 v
unfolding le
written_8 v =
    let b : v / 256 ^ 2 % 256 ≡ v / 256 / 256 % 256 = omega arith in
    let c : v / 256 ^ 3 % 256 ≡ v / 256 / 256 / 256 % 256 = omega arith in
    let d : v / 256 ^ 4 % 256 ≡ v / 256 / 256 / 256 / 256 % 256 = omega arith in
    let e : v / 256 ^ 5 % 256 ≡ v / 256 / 256 / 256 / 256 / 256 % 256 = omega arith in
    let f : v / 256 ^ 6 % 256 ≡ v / 256 / 256 / 256 / 256 / 256 / 256 % 256 = omega arith in
    let g : v / 256 ^ 7 % 256 ≡ v / 256 / 256 / 256 / 256 / 256 / 256 / 256 % 256 = omega arith in
    rw (b, c, d, e, f, g) refl

unle-4 : (s : List ℕ) → length s ≡ 4 → from_le_bytes w32 s ≡ unle s
unfolding unle
unle-4 [] l = absurd (omega arith)
unle-4 (a ∷ []) l = absurd (omega arith)
unle-4 (a ∷ b ∷ []) l = absurd (omega arith)
unle-4 (a ∷ b ∷ c ∷ []) l = absurd (omega arith)
unle-4 (a ∷ b ∷ c ∷ d ∷ []) l = omega arith
unle-4 (a ∷ b ∷ c ∷ d ∷ x ∷ s) l = absurd (omega arith)

unle-8 : (s : List ℕ) → length s ≡ 8 → from_le_bytes w64 s ≡ unle s
unfolding unle
unle-8 [] l = absurd (omega arith)
unle-8 (a ∷ []) l = absurd (omega arith)
unle-8 (a ∷ b ∷ []) l = absurd (omega arith)
unle-8 (a ∷ b ∷ c ∷ []) l = absurd (omega arith)
unle-8 (a ∷ b ∷ c ∷ d ∷ []) l = absurd (omega arith)
unle-8 (a ∷ b ∷ c ∷ d ∷ e ∷ []) l = absurd (omega arith)
unle-8 (a ∷ b ∷ c ∷ d ∷ e ∷ f ∷ []) l = absurd (omega arith)
unle-8 (a ∷ b ∷ c ∷ d ∷ e ∷ f ∷ g ∷ []) l = absurd (omega arith)
unle-8 (a ∷ b ∷ c ∷ d ∷ e ∷ f ∷ g ∷ h ∷ []) l = omega arith
unle-8 (a ∷ b ∷ c ∷ d ∷ e ∷ f ∷ g ∷ h ∷ x ∷ s) l = absurd (omega arith)

part : (n at : ℕ) (s : List ℕ) → at + n ≤ length s → length (take n (drop at s)) ≡ n
part n at s h = rw (length-take n (drop at s), length-drop at s) (omega arith)

pub read_4 : (at : ℕ) (s : List ℕ) → at + 4 ≤ length s → from_le_bytes w32 (take 4 (drop at s)) ≡ unle (take 4 (drop at s))
read_4 at s h = unle-4 (take 4 (drop at s)) (part 4 at s h)

pub read_8 : (at : ℕ) (s : List ℕ) → at + 8 ≤ length s → from_le_bytes w64 (take 8 (drop at s)) ≡ unle (take 8 (drop at s))
read_8 at s h = unle-8 (take 8 (drop at s)) (part 8 at s h)
