-- Images of finished blocks that are alike for probe 1 load the same for it, and have the same table.
-- Assumes nothing.
use Prim.Native.Nat.{ℕ, zero, suc, ◌<◌}
use mathlib.Core.Path.{◌≡◌, refl, sym, ap, ap₂, ◌∙◌}
use mathlib.Core.List.{List, [], ◌∷◌, ◌++◌}
use lib.ListN.{get_or}
use Rattle.stream.specs.Entries.{Entry}
use Rattle.image.specs.Block.{Block, block}
use Rattle.history.specs.History.{Change}
use Rattle.loaded.specs.Opener.{part_at}
use Rattle.loaded.specs.Loading.{join_times, Load, load_block, load_from, table_from}
use Rattle.model.specs.Model.{Chunk, part_with, image_of}
use Rattle.model.proofs.LoadLaws.{stored-part}
use Rattle.probes.proofs.Twins.{Ones, Blocks, ones-append}

-- the same times in every block, and the same part of signal g
abbrev pub SameFor : (g : ℕ) → List (Block (List Entry)) → List (Block (List Entry)) → Type 0
SameFor g [] [] = Unit {0}
SameFor g [] (b ∷ bs) = ⊥
SameFor g (a ∷ xs) [] = ⊥
SameFor g (a ∷ xs) (b ∷ bs) = (a.times ≡ b.times) × (part_at a g ≡ part_at b g) × SameFor g xs bs

module _ (g : ℕ) where
  block_same : (l : Load) (a b : Block (List Entry)) → a.times ≡ b.times → part_at a g ≡ part_at b g → load_block g l a ≡ load_block g l b
  block_same l a b e f = rw (e, f) refl

  pub loads-same : (xs ys : List (Block (List Entry))) (l : Load) → SameFor g xs ys → load_from g l xs ≡ load_from g l ys
  unfolding load_from
  loads-same [] [] l s = refl
  loads-same [] (y ∷ ys) l s = absurd s
  loads-same (x ∷ xs) [] l s = absurd s
  loads-same (x ∷ xs) (y ∷ ys) l s = ap (λ (k : Load). load_from g k xs) (block_same l x y s.0 s.1) ∙ loads-same xs ys (load_block g l y) s.2

  pub part_same : (xs ys : List (Block (List Entry))) (n : ℕ) → SameFor g xs ys → part_at (get_or xs n (block [] [])) g ≡ part_at (get_or ys n (block [] [])) g
  part_same [] [] n s = refl
  part_same [] (y ∷ ys) n s = absurd s
  part_same (x ∷ xs) [] n s = absurd s
  part_same (x ∷ xs) (y ∷ ys) zero s = s.1
  part_same (x ∷ xs) (y ∷ ys) (suc n) s = part_same xs ys n s.2

module _ (probe : ℕ → ℕ) (n : ℕ) where
  pub images-same : (g : ℕ) → g < n → probe g ≡ 1 → (xs ys : List Chunk) (seen seen' : List Change) → Ones probe seen seen' → Blocks probe xs ys
      → SameFor g (image_of n seen xs) (image_of n seen' ys)
  unfolding image_of
  images-same g h e [] [] seen seen' u v = tt
  images-same g h e [] (y ∷ ys) seen seen' u v = absurd v
  images-same g h e (x ∷ xs) [] seen seen' u v = absurd v
  images-same g h e (x ∷ xs) (y ∷ ys) seen seen' u v =
      let w = ones-append probe seen seen' x.changes y.changes u v.1 in (
        v.0,
        stored-part n g (seen ++ x.changes) x h ∙ ap₂ part_with (w.top g e) (v.1.list g e) ∙ sym (stored-part n g (seen' ++ y.changes) y h),
        images-same g h e xs ys (seen ++ x.changes) (seen' ++ y.changes) w v.2,
      )

  pub tables-same : (xs ys : List Chunk) (seen seen' : List Change) (l : List ℕ) → Blocks probe xs ys → table_from l (image_of n seen xs) ≡ table_from l (image_of n seen' ys)
  unfolding image_of table_from
  tables-same [] [] seen seen' l v = refl
  tables-same [] (y ∷ ys) seen seen' l v = absurd v
  tables-same (x ∷ xs) [] seen seen' l v = absurd v
  tables-same (x ∷ xs) (y ∷ ys) seen seen' l v =
      ap (λ (ts : List ℕ). table_from (join_times l ts) (image_of n (seen ++ x.changes) xs)) v.0
      ∙ tables-same xs ys (seen ++ x.changes) (seen' ++ y.changes) (join_times l y.times) v.2
