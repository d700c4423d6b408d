use Rattle.std.proofs.Common.{rules}
use Rattle.line.proofs.KindLaws.{kind-stored}
use Rattle.line.proofs.kinds.put_kind.Goals as goal

pub put_record-requires : goal.put_record-requires
put_record-requires c = kind-stored _ (search rules) _ _ c.in-Some.ensures
