-- `known_kind` meets its contract, by the kind.
-- Assumes nothing.
use mathlib.Core.Path.{ap, sym}
use Rattle.signal.specs.Kind.{known_kind}
use Rattle.signal.proofs.kind.known_kind.Goals as goal

pub returns-in-BitVector : goal.returns-in-BitVector
returns-in-BitVector c = sym (ap known_kind c.in-BitVector.is)
