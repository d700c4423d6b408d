-- Each part in its turn.
-- Assumes nothing.
use Rattle.std.proofs.Common.{[], refl}
use Rattle.line.specs.Line.{probes_in, probes_of}
use Rattle.line.specs.Command.{shown}
use Rattle.line.specs.declared.Command.TheVariants as command
use Rattle.line.specs.Line.{probes}
use Rattle.line.proofs.CallLaws.{said-then}
use Rattle.line.proofs.read_probes.Goals as goal

pub returns : goal.returns
unfolding probes_of shown
returns c =
    said-then c.args.line.now (probes_in c.args.line.now) [] probes command.Probes c.then_some.ensures c.has_probes.ensures refl
