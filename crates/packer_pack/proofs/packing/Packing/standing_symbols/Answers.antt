-- By the loop's law: a symbol of the source is the digit at its place.
use Rattle.std.proofs.Common.{arith}
use Rattle.packer.proofs.PackLaws.{taken_none, taken_more, taken-small, taken-all}
use Rattle.packer_pack.proofs.packing.Packing.standing_symbols.Goals as goal

pub loop-i-init : goal.loop-i-init
loop-i-init g c = taken_none _ _ _ _

pub standing_symbol-requires : goal.standing_symbol-requires
standing_symbol-requires g c = record { held = rw c.requires.same c.args.self.now.held; stands = omega (arith, c.requires.stand.0) }

pub pushed-working-requires : goal.pushed-working-requires
pushed-working-requires g c = taken-small _ _ _ _ c.requires.stand.1 c.loop-i.invariant

pub loop-i-preserved : goal.loop-i-preserved
loop-i-preserved g c = taken_more _ _ _ _ c.loop-i.i (omega arith) c.loop-i.invariant c.standing_symbol.ensures c.pushed-working.ensures

pub returns : goal.returns
returns g c = taken-all _ _ _ _ (omega arith) c.loop-i.invariant
