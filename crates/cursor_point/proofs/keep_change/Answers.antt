-- By whether it repeats.
use Rattle.entry.specs.Read.{content_read}
use Rattle.cursor_point.specs.Point.{point_as}
use Rattle.cursor_point.proofs.PointLaws.{kept_same, kept_new}
use Rattle.cursor_point.proofs.keep_change.Goals as goal

pub returns-then-repeats_last : goal.returns-then-repeats_last
returns-then-repeats_last c =
    let p = c in
    let a = p.args in (
      p.requires.1,
      kept_same (point_as a.kind a.image.now a.state) a.time (content_read a.kind a.image.now a.change.value a.change.next) _
          c.repeats_last.ensures c.if-repeats_last.true,
    )

pub returns : goal.returns
returns c =
    let p = c in
    let a = p.args in (
      p.requires.1,
      kept_new (point_as a.kind a.image.now a.state) a.time (content_read a.kind a.image.now a.change.value a.change.next) _
          c.repeats_last.ensures c.if-repeats_last.false,
    )
