-- A block has a time.
use Prim.Native.Nat.{ℕ, ◌≤◌}
use mathlib.Core.Path.{ap, ◌∙◌}
use native.Mathlib.Omega.{arith}
use lib.ListN.{length, get_or}
use Rattle.loaded.specs.Opener.{block_at}
use Rattle.walk.specs.Walk.{image_in}
use Rattle.walk.proofs.BlockLaws.{any-time, last-nth}
use Rattle.walk.proofs.block.last_time.Goals as goal
use Rattle.walk.proofs.block.last_time.Goals.{After-times_in-held}

-- the block has a time
some : (c : goal.After-times_in-held) → let s = c in 1 ≤ length (block_at (image_in s.args.image.now) s.requires.1.0).times
some c = let s = c in any-time s.requires.1.0 s.args.image.now (λ j. (c.shared_slice_known-1.given j).fits) s.requires.0 s.requires.1.1.exists

pub overflow_sub-held : goal.overflow_sub-held
overflow_sub-held c = let s = c in omega (arith, some c, c.times_in-held.ensures s.requires.1.0 s.requires.1.1)

pub time_at-requires : goal.time_at-requires
time_at-requires c = let s = c in (s.requires.0, (s.requires.1.0, s.requires.1.1, omega (arith, some c, c.times_in-held.ensures s.requires.1.0 s.requires.1.1)))

pub returns : goal.returns
returns c n h =
    let s = c in
    let ts = (block_at (image_in s.args.image.now) n).times in
    c.time_at.ensures n h ∙ ap (λ (i : ℕ). get_or ts i 0) (omega (arith, c.times_in-held.ensures n h))
    ∙ last-nth ts (any-time n s.args.image.now (λ j. (c.shared_slice_known-1.given j).fits) s.requires.0 h.exists)
