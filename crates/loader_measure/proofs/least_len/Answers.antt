-- By the kind and the width.
use Rattle.loader_measure.proofs.LeastLaws.{least-narrow, least-wide}
use Rattle.loader_measure.proofs.least_len.Goals as goal

pub returns-then-width-lt2 : goal.returns-then-width-lt2
returns-then-width-lt2 c = least-narrow c.args.kind _ c.in-BitVector.is c.if-width-lt2.true

pub returns-else-width-lt2 : goal.returns-else-width-lt2
returns-else-width-lt2 c = least-wide c.args.kind _ _ c.in-BitVector.is c.if-width-lt2.false c.bytes_required.ensures
