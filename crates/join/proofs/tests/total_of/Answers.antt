-- A joined image has the bytes of both but for one head.
use Prim.Native.Nat.{ℕ, ◌+◌, ◌-◌}
use mathlib.Core.Path.{sym, ap, ◌∙◌}
use native.Mathlib.Omega.{arith}
use lib.ListN.{length}
use Rattle.walk.specs.Open.{image_of}
use Rattle.walk.proofs.BlockLaws.{first-place}
use Rattle.walk.proofs.OpenBlock.{head_of}
use Rattle.join.proofs.BytesLaws.{total-is}
use Rattle.join.proofs.tests.total_of.Goals as goal

pub overflow_sub-result : goal.overflow_sub-result
overflow_sub-result c = let b = c.args.second in omega (arith, c.first_block.ensures, first-place (image_of b), (head_of b).size)

pub returns : goal.returns
returns c =
    let a = c.args.first in
    let b = c.args.second in (
      ap (λ (h : ℕ). length a.bytes.now + (length b.bytes.now - h)) (c.first_block.ensures ∙ first-place (image_of b))
          ∙ sym (total-is a.bytes.now b.bytes.now a.fits b.fits a.opened b.opened c.requires),
      omega (arith, (head_of a).most, (head_of b).most),
    )
