-- Passing blocks until one begins at a place, where some block does: it is not behind.
-- Assumes nothing.
use Rattle.std.proofs.Common.{ℕ, ◌≡◌, ◌≤◌, ◌<◌, length}
use Rattle.image.specs.Image.{Image}
use Rattle.walk.specs.Walk.{block_place}

-- block number k begins at byte `at`, and one that is no earlier at the place
pub record Passing (x : Image) (k at place : ℕ) : Type 0 where
  pub n : ℕ
  pub here : at ≡ block_place x k
  pub ahead : k ≤ n
  pub exists : n < length x.blocks
  pub there : place ≡ block_place x n
