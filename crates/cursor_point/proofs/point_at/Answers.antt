-- The blocks from number k on, passed, give what all blocks give.
use mathlib.Core.Path.{ap, ◌∙◌}
use mathlib.Core.Option.{none}
use native.Mathlib.Numerals.{add-one}
use native.Mathlib.Omega.{arith}
use Rattle.loaded.specs.Opener.{block_at, part_at}
use Rattle.loaded.specs.Loading.{entries_in}
use Rattle.walk.specs.Walk.{BlockHere}
use Rattle.walk.specs.Open.{image_of}
use Rattle.walk.proofs.OpenBlock.{meant}
use Rattle.walk.proofs.BlockLaws.{fits_in}
use Rattle.cursor_point.specs.Point.{Point, point_as}
use Rattle.cursor_point.proofs.PointLaws.{all-count}
use Rattle.cursor_point.proofs.BlockLaws.{counts-next, blocks-next, blocks_end}
use Rattle.cursor_point.proofs.LoadLaws.{blocks-above}
use Rattle.cursor_point.proofs.point_at.Goals as goal
use Rattle.cursor_point.proofs.point_at.Goals.{In-loop-k}

-- in the loop a block begins at the place
standing : (c : goal.In-loop-k) → BlockHere c.loop-k.k c.loop-k.at c.args.image.bytes.now
standing c = record { exists = omega (arith, c.block_count-k-end.ensures); place = c.loop-k.invariant.0 }

pub time-requires : goal.time-requires
time-requires c =
    let i = c.args.image in
    let fits = fits_in c.loop-k.k i.bytes.now i.fits i.opened (omega (arith, c.block_count-k-end.ensures)) in
    omega (arith, fits.any)

pub returns-then-t-time : goal.returns-then-t-time
returns-then-t-time c =
    let l = c.loop-k in
    let a = c.args in
    let x = image_of a.image in
    let s = standing (goal.at.returns-then-t-time c).In-loop-k in (
      l.invariant.1,
      blocks-above x.limit x.kinds a.t a.signal l.k (point_as a.kind a.image.bytes.now l.held) x.blocks none (meant a.image).valid.blocks s.exists
          (omega (arith, c.time.ensures, c.if-t-time.true))
          ∙ l.invariant.3,
    )

pub loop-k-preserved : goal.loop-k-preserved
loop-k-preserved c =
    let l = c.loop-k in
    let a = c.args in
    let x = image_of a.image in
    let s = standing (goal.at.loop-k-preserved c).In-loop-k in
    let q = c.pass_block-held.ensures.passed in
    let es = entries_in (part_at (block_at x l.k) a.signal) in (
      rw (add-one l.k) c.end-at.ensures,
      c.pass_block-held.ensures.reads,
      omega (
        arith,
        c.end-at.ensures,
        counts-next l.k l.at a.signal l.held.count a.image.bytes.now a.image.fits a.image.opened s l.invariant.2,
        all-count (block_at x l.k).times a.t (point_as a.kind a.image.bytes.now l.held) es,
        ap (λ (s : Point). s.count) q,
      ),
      rw (add-one l.k) (blocks-next a.t a.signal l.k _ _ x.blocks s.exists q ∙ l.invariant.3),
    )

pub returns : goal.returns
returns c =
    let l = c.loop-k in
    let a = c.args in
    let x = image_of a.image in
    (l.invariant.1, blocks_end a.t a.signal l.k (point_as a.kind a.image.bytes.now l.held) x.blocks (omega (arith, c.block_count-k-end.ensures)) ∙ l.invariant.3)
