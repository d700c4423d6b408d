-- A shift of 1 by fewer than 8 places is a power of two.
use Prim.Native.Nat.{◌*◌, ◌%◌, ◌^◌}
use mathlib.Core.Path.{◌≡◌, refl, ◌∙◌}
use native.Mathlib.Nat.{one-mul}
use native.Mathlib.Omega.{arith}
use lib.Pow.{pow_pos, shl_exact}
use Rattle.packer_copy.proofs.low_bits.Goals as goal
use Rattle.packer_copy.proofs.low_bits.Goals.{Start}

shifted : (c : goal.Start) → 1 * 2 ^ c.args.count % 256 ≡ 2 ^ c.args.count
shifted c = shl_exact {a = 1} 1 c.args.count 8 (omega arith) (omega arith) ∙ one-mul _

pub nonzero_rem-result : goal.nonzero_rem-result
nonzero_rem-result c = rw (shifted c) (pow_pos c.args.count)

pub returns : goal.returns
returns c = rw (shifted c) refl
