use Prim.Native.Nat.{◌-◌}
use mathlib.Core.Path.{refl}
use lib.ListN.{length}
use Rattle.parts.proofs.PartLaws.{part-high, part-all}
use Rattle.parts.proofs.is_part.Goals as goal

pub returns-then-top_limit-top : goal.returns-then-top_limit-top
returns-then-top_limit-top c = part-high _ _ _ _ _ c.requires.0 refl c.top_limit.ensures c.if-top_limit-top.true

pub returns : goal.returns
returns c =
    part-all _ _ _ _ _ _ (length c.args.s.now - 1) c.requires.0 refl
    c.top_limit.ensures c.if-top_limit-top.false c.is_stream.ensures refl
