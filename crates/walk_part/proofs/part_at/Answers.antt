-- A kept 0 says that there is no part; else it stands from its class byte to where the next part begins.
use Prim.Native.Nat.{ℕ, ◌+◌, ◌-◌, ◌<◌}
use native.Mathlib.Omega.{arith}
use lib.ListN.{length, get_or}
use Rattle.walk.specs.Walk.{image_in, BlockHere, PartHere}
use Rattle.walk_part.proofs.PartLaws.{start-most, found_at, found-zero, found-past}
use Rattle.walk_part.proofs.part_at.Goals as goal
use Rattle.walk_part.proofs.part_at.Goals.{Else-signal_count-signal, After-part_end-to}

below : (c : goal.Else-signal_count-signal) → c.args.signal < length (image_in c.args.image.now).kinds
below c = omega (arith, c.if-signal_count-signal.false, rw c.opened.ensures at c.signal_count.ensures)

found : (c : goal.After-part_end-to) (n : ℕ)
    → BlockHere n c.args.at
    c.args.image.now
    → PartHere (c.data_place.result + c.offset_at-offset.result.0 - 1 + 1) c.part_end-to.result
    (get_or c.args.image.now
    (c.data_place.result + c.offset_at-offset.result.0 - 1) 0)
    n c.args.signal c.args.image.now
found c n h =
    let s = c in
    let o = c.offset_at-offset in
    let d = c.data_place in
    found_at n s.args.at s.args.signal o.result.0 d.result c.part_end-to.result s.args.image.now
    (λ j. (c.shared_slice_known-1.given j).fits) s.requires.0 h
    ((omega (arith, c.if-signal_count-signal.false, rw c.opened.ensures at c.signal_count.ensures))) (d.ensures n h) (o.ensures n h) c.if-offset-eq0.false (c.part_end-to.ensures n h)

pub returns-then-signal_count-signal : goal.returns-then-signal_count-signal
returns-then-signal_count-signal c n h =
    let s = c in
    found-past n s.args.signal s.args.image.now (λ j. (c.shared_slice_known-1.given j).fits) s.requires.0 (omega (arith, rw c.opened.ensures at c.signal_count.ensures))

pub offset_at-offset-requires : goal.offset_at-offset-requires
offset_at-offset-requires c = let s = c in (s.requires.0, (s.requires.1, omega (arith, below c)))

pub returns-then-offset-eq0 : goal.returns-then-offset-eq0
returns-then-offset-eq0 c n h =
    let s = c in
    let o = c.offset_at-offset in
    found-zero n s.args.signal o.result.0 s.args.image.now (below (goal.at.returns-then-offset-eq0 c).Else-signal_count-signal) (o.ensures n h) c.if-offset-eq0.true

pub overflow_add-class_at : goal.overflow_add-class_at
overflow_add-class_at c =
    let s = c in
    let p = s.requires.1 in
    omega (
      arith,
      start-most p.0 s.args.at s.args.image.now (λ j. (c.shared_slice_known-1.given j).fits) s.requires.0 p.1,
      c.data_place.ensures p.0 p.1,
    )

pub part_end-to-requires : goal.part_end-to-requires
part_end-to-requires c = let s = c in (s.requires.0, (s.requires.1, below (goal.at.part_end-to-requires c).Else-signal_count-signal))

pub overflow_add-result : goal.overflow_add-result
overflow_add-result c = let p = c.requires.1 in let w = found c p.0 p.1 in omega (arith, w.ordered, w.inside)

pub bounds-image-class_at : goal.bounds-image-class_at
bounds-image-class_at c =
    let p = c.requires.1 in let w = found (goal.at.bounds-image-class_at c).After-part_end-to p.0 p.1 in
    omega (arith, w.ordered, w.inside)

pub returns : goal.returns
returns c n h = found (goal.at.returns c).After-part_end-to n h
