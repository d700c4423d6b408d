-- The number stands after the block's size.
use mathlib.Core.Path.{◌∙◌}
use native.Mathlib.Omega.{arith}
use Rattle.walk.proofs.BlockLaws.{here}
use Rattle.walk.proofs.block.times_in.Goals as goal

pub overflow_add-at : goal.overflow_add-at
overflow_add-at c = let s = c in let h = here s.requires.1.0 s.args.at s.args.image.now (λ j. (c.shared_slice_known-1.given j).fits) s.requires.0 s.requires.1.1 in omega (arith, h.most)

pub get_u32-requires : goal.get_u32-requires
get_u32-requires c = let s = c in let h = here s.requires.1.0 s.args.at s.args.image.now (λ j. (c.shared_slice_known-1.given j).fits) s.requires.0 s.requires.1.1 in omega (arith, h.most)

pub returns : goal.returns
returns c n h =
    let s = c in
    c.get_u32.ensures ∙ (here n s.args.at s.args.image.now (λ j. (c.shared_slice_known-1.given j).fits) s.requires.0 h).count.value
