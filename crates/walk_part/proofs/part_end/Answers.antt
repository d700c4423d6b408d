-- A kept 0 says that there is no part.
use mathlib.Core.Path.{◌≡◌, refl, ap, ◌∙◌}
use native.Mathlib.Omega.{arith}
use native.Mathlib.Numerals.{add-one}
use lib.ListN.{length}
use Rattle.walk.specs.Walk.{image_in, part_place}
use Rattle.walk_part.proofs.PartLaws.{place_here, place-past, place_end, start-most}
use Rattle.walk_part.proofs.part_end.Goals as goal
use Rattle.walk_part.proofs.part_end.Goals.{After-signal_count-signals}

signals : (c : goal.After-signal_count-signals) → c.signal_count-signals.result ≡ length (image_in c.args.image.now).kinds
signals c = rw c.opened.ensures at c.signal_count-signals.ensures

pub loop-g-init : goal.loop-g-init
loop-g-init c n h = rw (add-one c.args.signal) refl

pub offset_at-offset-requires : goal.offset_at-offset-requires
offset_at-offset-requires c =
    let s = c in
    (s.requires.0, (s.requires.1.0, omega (arith, signals (goal.at.offset_at-offset-requires c).After-signal_count-signals)))

pub overflow_add-result : goal.overflow_add-result
overflow_add-result c =
    let s = c in
    let p = s.requires.1.0 in
    omega (
      arith,
      start-most p.0 s.args.at s.args.image.now (λ j. (c.shared_slice_known-1.given j).fits) s.requires.0 p.1,
      c.data_place.ensures p.0 p.1,
    )

pub returns-then-offset-ne0 : goal.returns-then-offset-ne0
returns-then-offset-ne0 c n h =
    let s = c in
    let l = c.loop-g in
    place_here (image_in s.args.image.now) n l.g c.offset_at-offset.result.0 _
    (c.data_place.ensures n h) (c.offset_at-offset.ensures n h) c.if-offset-ne0.true
    ∙ l.invariant n h

pub loop-g-preserved : goal.loop-g-preserved
loop-g-preserved c n h =
    let s = c in
    let l = c.loop-g in
    rw (add-one l.g)
    (place-past (image_in s.args.image.now) n l.g c.offset_at-offset.result.0
    (omega (arith, signals (goal.at.loop-g-preserved c).After-signal_count-signals)) (c.offset_at-offset.ensures n h) c.if-offset-ne0.false
    ∙ l.invariant n h)

pub next_block-requires : goal.next_block-requires
next_block-requires c = let s = c in (s.requires.0, s.requires.1.0)

pub returns : goal.returns
returns c n h =
    let s = c in
    let l = c.loop-g in
    let e : length (image_in s.args.image.now).kinds ≡ l.g = omega (arith, signals (goal.at.returns c).After-signal_count-signals) in
    place_end n s.args.at _ s.args.image.now (λ j. (c.shared_slice_known-1.given j).fits) s.requires.0 h (c.next_block.ensures n h)
    ∙ ap (part_place (image_in s.args.image.now) n) e ∙ l.invariant n h
