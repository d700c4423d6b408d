-- A block begins with the number of its bytes.
use native.Mathlib.Omega.{arith}
use Rattle.walk.proofs.BlockLaws.{here, next_here}
use Rattle.walk.proofs.block.next_block.Goals as goal

pub get_u32-requires : goal.get_u32-requires
get_u32-requires c = let s = c in (here s.requires.1.0 s.args.at s.args.image.now (λ j. (c.shared_slice_known-1.given j).fits) s.requires.0 s.requires.1.1).size.inside

pub overflow_add-result : goal.overflow_add-result
overflow_add-result c = let s = c in let h = here s.requires.1.0 s.args.at s.args.image.now (λ j. (c.shared_slice_known-1.given j).fits) s.requires.0 s.requires.1.1 in
    omega (arith, c.get_u32.ensures, h.size.value, h.most)

pub returns : goal.returns
returns c n h =
    let s = c in
    next_here n s.args.at c.get_u32.result s.args.image.now (λ j. (c.shared_slice_known-1.given j).fits) s.requires.0 h c.get_u32.ensures
