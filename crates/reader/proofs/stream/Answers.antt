-- Of no image.
use Rattle.walk.proofs.OpenLaws.{stream-closed}
use Rattle.reader.proofs.stream.Goals as goal

pub returns-in-None : goal.returns-in-None
returns-in-None c = let a = c.args in stream-closed a.image.now a.block a.signal.0 c.in-None.ensures
