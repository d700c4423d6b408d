-- What stands at a place of a list: its parts, and the numbers in it.
-- Assumes nothing.
use Prim.Native.Nat.{ℕ, zero, suc, ◌+◌, ◌*◌, ◌^◌, ◌≤◌, ◌<◌}
use mathlib.Core.Path.{◌≡◌, sym, ap, ◌∙◌, subst}
use mathlib.Core.List.{List, [], ◌∷◌, ◌++◌, append_assoc}
use native.Mathlib.Omega.{arith}
use lib.ListN.{length, get_or, take, drop, length-append}
use lib.Seq.{drop-drop, drop_at, take_at}
use Rattle.numbers.specs.LittleEndian.{le, unle}
use Rattle.numbers.proofs.LittleEndianLaws.{length-le, unle-le}
use Rattle.image.specs.Block.{les}

-- s stands in b from p on
pub record Stands (b : List ℕ) (p : ℕ) (s : List ℕ) : Type 0 where
  pub rest : List ℕ
  pub bytes : drop p b ≡ s ++ rest
  pub inside : p + length s ≤ length b

pub stands-front : (b : List ℕ) (p : ℕ) (s t : List ℕ) → Stands b p (s ++ t) → Stands b p s
stands-front b p s t w = record {
  rest = t ++ w.rest;
  bytes = w.bytes ∙ append_assoc s t w.rest;
  inside = omega (arith, w.inside, length-append s t);
}

pub stands-back : (b : List ℕ) (p n : ℕ) (s t : List ℕ) → length s ≡ n → Stands b p (s ++ t) → Stands b (p + n) t
stands-back b p n s t e w = record {
  rest = w.rest;
  bytes = sym (drop-drop n p b) ∙ ap (drop n) (w.bytes ∙ append_assoc s t w.rest) ∙ drop_at s (t ++ w.rest) n e;
  inside = omega (arith, w.inside, length-append s t);
}

pub record Number (b : List ℕ) (p w v : ℕ) : Type 0 where
  pub inside : p + w ≤ length b
  pub value : unle (take w (drop p b)) ≡ v

pub stands-number : (b : List ℕ) (p w v : ℕ) → v < 256 ^ w → Stands b p (le w v) → Number b p w v
stands-number b p w v h s = record {
  inside = omega (arith, s.inside, length-le w v);
  value =
      ap (λ (l : List ℕ). unle (take w l)) s.bytes
      ∙ ap unle (take_at (le w v) s.rest w (length-le w v)) ∙ unle-le w v h;
}

pub stands-nth : (w : ℕ) (l b : List ℕ) (p i : ℕ) → i < length l → Stands b p (les w l) → Stands b (p + i * w) (le w (get_or l i 0))
unfolding les
stands-nth w [] b p i h s = absurd (omega arith)
stands-nth w (x ∷ l) b p zero h s =
    let e : p + 0 * w ≡ p = omega arith in
    rw e (stands-front b p (le w x) (les w l) s)
stands-nth w (x ∷ l) b p (suc i) h s =
    let t = stands-nth w l b (p + w) i (omega arith) (stands-back b p w (le w x) (les w l) (length-le w x) s) in
    let e : p + w + i * w ≡ p + suc i * w = omega arith in
    subst (λ (q : ℕ). Stands b q (le w (get_or l i 0))) e t
