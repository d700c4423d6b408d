-- A part of the image while its block is made: the head, the numbers kept for the signals, the times, the data, what lies behind. What
-- a kept number, a store of one and a store in the data are, of that layout.
-- Assumes nothing.
use Prim.Native.Nat.{ℕ, zero, suc, ◌+◌, ◌*◌, ◌≤◌, ◌<◌}
use mathlib.Core.Path.{◌≡◌, refl, sym, ap, ◌∙◌}
use mathlib.Core.List.{List, [], ◌∷◌, ◌++◌, append_assoc}
use native.Mathlib.Nat.{suc-add, zero-add}
use native.Mathlib.Omega.{arith}
use lib.ListN.{length, take, drop, get_or, set, length-append, length-set}
use lib.Seq.{sets, set-append_left, take_at, drop_at, drop-drop}
use Rattle.numbers.specs.LittleEndian.{le}
use Rattle.numbers.proofs.LittleEndianLaws.{length-le, unle-le}
use Rattle.image.specs.Block.{les}
use Rattle.image.proofs.SizeLaws.{length-les}
use Rattle.block.specs.Passes.{kept_at, keep}

-- ---- a run of stores in two lists one after the other

-- past an element
sets_more : (b : List ℕ) (y : ℕ) (l : List ℕ) (i : ℕ) → sets (y ∷ l) (suc i) b ≡ y ∷ sets l i b
sets_more [] y l i = refl
sets_more (x ∷ b) y l i = sets_more b y (set l i x) (suc i)

-- over all of the first
pub sets-front : (a l b : List ℕ) → length a ≡ length b → sets (a ++ l) 0 b ≡ b ++ l
sets-front [] l [] e = refl
sets-front [] l (y ∷ b) e = absurd (omega arith)
sets-front (x ∷ a) l [] e = absurd (omega arith)
sets-front (x ∷ a) l (y ∷ b) e = sets_more b y (a ++ l) 0 ∙ ap (λ (r : List ℕ). y ∷ r) (sets-front a l b (omega arith))

-- past the first list
pub sets-after : (a l : List ℕ) (n i : ℕ) (b : List ℕ) → length a ≡ n → sets (a ++ l) (n + i) b ≡ a ++ sets l i b
sets-after [] l zero i b e = rw zero-add refl
sets-after [] l (suc n) i b e = absurd (omega arith)
sets-after (x ∷ a) l zero i b e = absurd (omega arith)
sets-after (x ∷ a) l (suc n) i b e =
    rw suc-add (sets_more b x (a ++ l) (n + i) ∙ ap (λ (r : List ℕ). x ∷ r) (sets-after a l n i b (omega arith)))

-- in the first list
pub sets-inside : (b a l : List ℕ) (i : ℕ) → i + length b ≤ length a → sets (a ++ l) i b ≡ sets a i b ++ l
sets-inside [] a l i h = refl
sets-inside (x ∷ b) a l i h =
    rw (set-append_left a l i x (omega arith)) (sets-inside b (set a i x) l (suc i) (rw length-set (omega arith)))

-- ---- numbers of 4 bytes one after the other

take-les : (os : List ℕ) (g : ℕ) (l : List ℕ) → g < length os → take 4 (drop (4 * g) (les 4 os ++ l)) ≡ le 4 (get_or os g 0)
unfolding les
take-les [] g l h = absurd (omega arith)
take-les (x ∷ os) zero l h = rw (append_assoc (le 4 x) (les 4 os) l) (take_at (le 4 x) (les 4 os ++ l) 4 (length-le 4 x))
take-les (x ∷ os) (suc g) l h =
    let e : 4 * suc g ≡ 4 + 4 * g = omega arith in
    let r : List ℕ = les 4 os ++ l in
    rw (e, append_assoc (le 4 x) (les 4 os) l, ← (drop-drop (4 * g) 4 (le 4 x ++ r)), drop_at (le 4 x) r 4 (length-le 4 x))
    (take-les os g l (omega arith))

sets-les : (os : List ℕ) (g v : ℕ) → g < length os → sets (les 4 os) (4 * g) (le 4 v) ≡ les 4 (set os g v)
unfolding les
sets-les [] g v h = absurd (omega arith)
sets-les (x ∷ os) zero v h = sets-front (le 4 x) (les 4 os) (le 4 v) (length-le 4 x ∙ sym (length-le 4 v))
sets-les (x ∷ os) (suc g) v h =
    let e : 4 * suc g ≡ 4 + 4 * g = omega arith in
    rw e (sets-after (le 4 x) (les 4 os) 4 (4 * g) (le 4 v) (length-le 4 x) ∙ ap (λ (r : List ℕ). le 4 x ++ r) (sets-les os g v (omega arith)))

-- ---- the layout

-- the kept numbers as bytes, then as numbers
abbrev pub raw : (head times rest q x : List ℕ) → List ℕ
raw f m e q x = f ++ (q ++ (m ++ (x ++ e)))

abbrev pub laid : (head times rest os x : List ℕ) → List ℕ
laid f m e os x = raw f m e (les 4 os) x

module _ (f m e : List ℕ) (h : length f ≡ 12) where
  pub kept-laid : (os x : List ℕ) (g : ℕ) → g < length os → get_or os g 0 < 4294967296 → kept_at g (laid f m e os x) ≡ get_or os g 0
  kept-laid os x g l b =
      rw (← (drop-drop (4 * g) 12 (laid f m e os x)), drop_at f (les 4 os ++ (m ++ (x ++ e))) 12 h, take-les os g (m ++ (x ++ e)) l)
      (unle-le 4 (get_or os g 0) b)

  pub keep-laid : (os x : List ℕ) (g v : ℕ) → g < length os → keep g v (laid f m e os x) ≡ laid f m e (set os g v) x
  keep-laid os x g v l =
      let i : 4 * g + length (le 4 v) ≤ length (les 4 os) = rw (length-le, length-les) (omega arith) in
      sets-after f (les 4 os ++ (m ++ (x ++ e))) 12 (4 * g) (le 4 v) h
      ∙ ap (λ (r : List ℕ). f ++ r) (sets-inside (le 4 v) (les 4 os) (m ++ (x ++ e)) (4 * g) i
      ∙ ap (λ (r : List ℕ). r ++ (m ++ (x ++ e))) (sets-les os g v l))

  pub write-laid : (os x : List ℕ) (d o : ℕ) (b : List ℕ) → d ≡ 12 + 4 * length os + length m → o + length b ≤ length x
      → sets (laid f m e os x) (d + o) b ≡ laid f m e os (sets x o b)
  write-laid os x d o b s l =
      let p : d + o ≡ 12 + (4 * length os + (length m + o)) = omega arith in
      rw p (sets-after f (les 4 os ++ (m ++ (x ++ e))) 12 (4 * length os + (length m + o)) b h
      ∙ ap (λ (r : List ℕ). f ++ r)
      (sets-after (les 4 os) (m ++ (x ++ e)) (4 * length os) (length m + o) b (length-les 4 os)
      ∙ ap (λ (r : List ℕ). les 4 os ++ r)
      (sets-after m (x ++ e) (length m) o b refl ∙ ap (λ (r : List ℕ). m ++ r) (sets-inside b x e o l))))

  pub length-laid : (os x : List ℕ) → length (laid f m e os x) ≡ 12 + 4 * length os + length m + length x + length e
  length-laid os x = simp (length-append, length-les, h) (omega arith)
