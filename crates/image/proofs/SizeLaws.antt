-- How long the bytes of a block are: its numbers, its offsets, and in all the size that it says.
-- Assumes nothing.
use Prim.Native.Nat.{ℕ, suc, ◌+◌, ◌*◌}
use mathlib.Core.Path.{◌≡◌, refl, ap}
use mathlib.Core.List.{List, [], ◌∷◌}
use mathlib.Core.Option.{Option, some, none}
use native.Mathlib.Nat.{mul-suc}
use native.Mathlib.Omega.{arith}
use lib.ListN.{length, length-append}
use Rattle.numbers.proofs.LittleEndianLaws.{length-le}
use Rattle.image.specs.Block.{Part, Block, les, part_bytes, data_of, offsets_from, block_bytes, block_size}

pub length-les : (w : ℕ) (l : List ℕ) → length (les w l) ≡ w * length l
unfolding les
length-les w [] = omega arith
length-les w (x ∷ l) = simp (length-append, length-le, length-les w l, mul-suc) (omega arith)

pub length-offsets : (at : ℕ) (ps : List (Option (Part (List ℕ)))) → length (offsets_from at ps) ≡ length ps
unfolding offsets_from
length-offsets at [] = refl
length-offsets at (none ∷ ps) = ap suc (length-offsets at ps)
length-offsets at (some p ∷ ps) = ap suc (length-offsets (at + length (part_bytes (some p))) ps)

pub block_size_lem : (b : Block (List ℕ)) → length (block_bytes b) ≡ block_size (length b.parts) (length b.times) (length (data_of b.parts))
unfolding block_bytes
block_size_lem b = simp (length-append, length-le, length-les, length-offsets) (omega arith)
