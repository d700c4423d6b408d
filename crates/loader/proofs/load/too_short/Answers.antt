use native.Mathlib.Omega.{arith}
use Rattle.loader.proofs.LoadLaws.{short-index, short-bytes}
use Rattle.loader.proofs.load.too_short.Goals as goal

pub returns-then-indices-entries : goal.returns-then-indices-entries
returns-then-indices-entries c = let a = c.args in short-index a.entries a.used a.indices a.room (omega arith)

pub returns : goal.returns
returns c = let a = c.args in short-bytes a.entries a.used a.indices a.room (omega arith)
