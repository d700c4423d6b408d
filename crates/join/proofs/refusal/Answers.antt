-- The refusals in their order.
-- Assumes nothing.
use mathlib.Core.Path.{◌≡◌, sym, ◌∙◌}
use mathlib.Core.Bool.{false}
use Rattle.joined.specs.Join.{differs, no_block}
use Rattle.walk.specs.Open.{image_of}
use Rattle.join.proofs.TestLaws.{none-block, some_block, is-14, is-15, is-16, is-8, is-0}
use Rattle.join.proofs.refusal.Goals as goal
use Rattle.join.proofs.refusal.Goals.{Else-block_count-eq0}

-- the first two tests passed
alike : (c : goal.Else-block_count-eq0) → let a = c.args in differs (image_of a.first) (image_of a.second) ≡ false
alike c = sym c.differs.ensures ∙ c.if-differs.false

some-there : (c : goal.Else-block_count-eq0) → let a = c.args in no_block (image_of a.first).blocks ≡ false
some-there c = some_block (image_of c.args.first).blocks _ c.block_count.ensures c.if-block_count-eq0.false

pub returns-then-differs : goal.returns-then-differs
returns-then-differs c =
    let a = c.args in
    is-14 (image_of a.first) (image_of a.second) _ (sym c.differs.ensures ∙ c.if-differs.true)

pub returns-then-block_count-eq0 : goal.returns-then-block_count-eq0
returns-then-block_count-eq0 c =
    let a = c.args in
    is-15 (image_of a.first) (image_of a.second) _ (sym c.differs.ensures ∙ c.if-differs.false)
    (none-block (image_of a.first).blocks _ c.block_count.ensures c.if-block_count-eq0.true)

pub starts_early-requires : goal.starts_early-requires
starts_early-requires c = some-there c

pub returns-then-starts_early : goal.returns-then-starts_early
returns-then-starts_early c =
    let k = c in
    let a = k.args in
    is-16 (image_of a.first) (image_of a.second) _ (alike (goal.at.returns-then-starts_early c).Else-block_count-eq0)
    (some-there (goal.at.returns-then-starts_early c).Else-block_count-eq0) (sym c.starts_early.ensures ∙ c.if-starts_early.true)

pub total_of-requires : goal.total_of-requires
total_of-requires c = alike (goal.at.total_of-requires c).Else-block_count-eq0

pub returns-then-lacks_room : goal.returns-then-lacks_room
returns-then-lacks_room c =
    let k = c in
    let a = k.args in
    is-8 (image_of a.first) (image_of a.second) _ (alike (goal.at.returns-then-lacks_room c).Else-block_count-eq0)
    (some-there (goal.at.returns-then-lacks_room c).Else-block_count-eq0) (sym c.starts_early.ensures ∙ c.if-starts_early.false)
    _ c.total_of.ensures.0 _ c.lacks_room.ensures c.if-lacks_room.true

pub returns : goal.returns
returns c =
    let k = c in
    let a = k.args in
    is-0 (image_of a.first) (image_of a.second) _ (alike (goal.at.returns c).Else-block_count-eq0)
    (some-there (goal.at.returns c).Else-block_count-eq0) (sym c.starts_early.ensures ∙ c.if-starts_early.false)
    _ c.total_of.ensures.0 _ c.lacks_room.ensures c.if-lacks_room.false
