-- The end of the first is the last time of its last block; the second starts with the first time of its first.
use Prim.Native.Nat.{ℕ, ◌-◌}
use mathlib.Core.Path.{ap, ◌∙◌}
use mathlib.Core.Option.{none}
use native.Mathlib.Omega.{arith}
use Rattle.lists.specs.Last.{last_or}
use Rattle.codec.specs.Ends.{end_after}
use Rattle.loaded.specs.Opener.{block_at}
use Rattle.walk.specs.Open.{image_of}
use Rattle.walk.proofs.OpenBlock.{fits_of}
use Rattle.join.proofs.TestLaws.{block-there, early-none, early-some}
use Rattle.join.proofs.tests.starts_early.Goals as goal

pub returns-then-block_count-eq0 : goal.returns-then-block_count-eq0
returns-then-block_count-eq0 c =
    let a = c.args in
    early-none (end_after none (image_of a.first).blocks) (image_of a.second).blocks _ c.block_count.ensures c.if-block_count-eq0.true

pub overflow_sub-block_count : goal.overflow_sub-block_count
overflow_sub-block_count c = omega (arith, c.block_count-2.ensures, block-there (image_of c.args.first).blocks c.requires)

pub block-requires : goal.block-requires
block-requires c = omega (arith, c.block_count-2.ensures, block-there (image_of c.args.first).blocks c.requires)

pub block-requires-2 : goal.block-requires-2
block-requires-2 c = omega (arith, c.if-block_count-eq0.false, c.block_count.ensures)

pub time-requires : goal.time-requires
time-requires c = (fits_of c.block-2.result).any

pub returns : goal.returns
returns c =
    let x = image_of c.args.first in
    let y = image_of c.args.second in
    early-some x.blocks y.blocks _ _ (block-there x.blocks c.requires) (omega (arith, c.if-block_count-eq0.false, c.block_count.ensures))
    (rw (c.block.ensures.0, c.block.ensures.1) at c.last_time-end.ensures
    ∙ ap (λ (m : ℕ). last_or 0 (block_at x (m - 1)).times) c.block_count-2.ensures)
    (rw (c.block-2.ensures.0, c.block-2.ensures.1) at c.time.ensures)
