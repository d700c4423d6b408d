-- The data follow the offsets and the times.
use native.Mathlib.Omega.{arith}
use Rattle.walk_part.proofs.PartLaws.{start-most}
use Rattle.walk_part.proofs.data_place.Goals as goal

pub returns : goal.returns
returns c n h =
    omega (arith, h.place, c.data_start.ensures, c.times_in-times.ensures n h, rw c.opened.ensures at c.signal_count-signals.ensures)

pub overflow_add-result : goal.overflow_add-result
overflow_add-result c =
    let s = c in
    let p = s.requires.1 in
    omega (arith, start-most p.0 s.args.at s.args.image.now (λ j. (c.shared_slice_known-1.given j).fits) s.requires.0 p.1, returns c p.0 p.1)
