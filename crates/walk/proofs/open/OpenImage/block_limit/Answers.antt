-- B stands in the head.
use mathlib.Core.Path.{◌∙◌}
use Rattle.walk.proofs.HeadLaws.{head_in}
use Rattle.walk.proofs.open.OpenImage.block_limit.Goals as goal

pub get_u32-requires : goal.get_u32-requires
get_u32-requires c = let s = c.args.self in (head_in s.bytes.now s.fits s.opened).limit.inside

pub returns : goal.returns
returns c = let s = c.args.self in c.get_u32.ensures ∙ (head_in s.bytes.now s.fits s.opened).limit.value
