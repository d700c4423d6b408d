-- The offsets follow the block's three numbers.
use mathlib.Core.Path.{◌∙◌}
use native.Mathlib.Omega.{arith}
use Rattle.walk_part.proofs.PartLaws.{offset_read}
use Rattle.walk_part.proofs.offset_at.Goals as goal

pub overflow_add-at : goal.overflow_add-at
overflow_add-at c =
    let s = c in
    let p = s.requires.1 in
    omega (arith, (offset_read p.0.0 s.args.at s.args.signal s.args.image.now (λ j. (c.shared_slice_known-1.given j).fits) s.requires.0 p.0.1 p.1).inside)

pub get_u32-requires : goal.get_u32-requires
get_u32-requires c =
    let s = c in
    let p = s.requires.1 in
    rw c.offset_place.ensures
    (offset_read p.0.0 s.args.at s.args.signal s.args.image.now (λ j. (c.shared_slice_known-1.given j).fits) s.requires.0 p.0.1 p.1).inside

pub returns : goal.returns
returns c n h =
    let s = c in
    rw c.offset_place.ensures at c.get_u32.ensures
    ∙ (offset_read n s.args.at s.args.signal s.args.image.now (λ j. (c.shared_slice_known-1.given j).fits) s.requires.0 h s.requires.1.1).value
