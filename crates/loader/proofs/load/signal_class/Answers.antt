use Rattle.value.specs.Class.{class_number}
use Rattle.loader.proofs.LoadLaws.{class-other}
use Rattle.loader.proofs.load.signal_class.Goals as goal

pub returns : goal.returns
returns c = let a = c.args in class-other a.count (class_number a.class) c.if-count-eq0.false
