use Rattle.std.proofs.Common.{◌≡◌, length, ap}
use native.Mathlib.Omega.{arith}
use Rattle.signal.specs.declared.kind.SignalEncoding.TheVariants.{Real}
use Rattle.signal.specs.Content.{bits, real}
use Rattle.stream.specs.Stream.{change_bytes}
use Rattle.stream.specs.Answer.{said_bytes}
use Rattle.change_notation.proofs.RealLaws.{real-said}
use Rattle.change_notation.proofs.RealBitsGivenValue.put_change.Goals as goal
use Rattle.change_notation.proofs.RealBitsGivenValue.put_change.Goals.{Start}

said : (c : Start) → let a = c.args in said_bytes a._kind a.d (real a.self.now.0) ≡ change_bytes Real a.d (bits a.self.now.0)
said c = let a = c.args in real-said a._kind a.d a.self.now.0 a._change c.requires.said.1

pub put_real_change-requires : goal.put_real_change-requires
put_real_change-requires c = let q = ap length (said (goal.at.put_real_change-requires c).Start) in let h = c.requires.room in omega arith

pub returns : goal.returns
returns c = rw (said (goal.at.returns c).Start) c.put_real_change.ensures
