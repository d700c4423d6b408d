-- By the loop's law, with the byte of `standing_symbols`.
use Rattle.std.proofs.Common.{◌+◌, ◌*◌, ◌-◌, ◌≤◌, ◌<◌, ◌^◌, ◌≡◌, ◌∙◌, refl, arith}
use Rattle.value.specs.Class.{class_number}
use Rattle.packed.specs.Packed.{per_byte, digit_at}
use Rattle.packed.proofs.PackedLaws.{byte_full}
use Rattle.packer.specs.Given.{standing_given, number_given}
use Rattle.packer.proofs.PackLaws.{byte-room, taken-byte, written_none, written-down, written_all}
use Rattle.packer.proofs.NotationLaws.{standing-in}
use Rattle.packer_pack.proofs.packing.Packing.class_bytes.Given.{Over}
use Rattle.packer_pack.proofs.packing.Packing.class_bytes.Goals as goal
use Rattle.packer_pack.proofs.packing.Packing.class_bytes.Goals.{In-loop-left, After-standing_symbols}

-- the symbols of a byte stand in the source, and are few
room : (g : Over) (c : In-loop-left g) → let a = c.args in
    let s = g.S.Source.given a.self.now.source in
    ((c.loop-left.left - 1) * c.per_byte-each.result + c.per_byte-each.result ≤ standing_given s) × (standing_given s < 2 ^ 32)
room g c =
    let a = c.args in
    let p = a.self.now in
    let s = g.S.Source.given p.source in
    let within = byte-room (per_byte (class_number a.states)) (standing_given s) {n = a.whole} {left = c.loop-left.left} (omega arith) (omega arith) c.requires.stand.0 in
    (rw c.per_byte-each.ensures (within), omega (arith, standing-in s.notation s.width s.bytes p.held.0, p.small))

pub overflow_mul-left : goal.overflow_mul-left
overflow_mul-left g c = let r = room g (goal.at.overflow_mul-left g c).In-loop-left in record { fits = omega (arith, r.0, r.1) }

pub standing_symbols-requires-clause-stand : goal.standing_symbols-requires-clause-stand
standing_symbols-requires-clause-stand g c =
    let r = room g (goal.at.standing_symbols-requires-clause-stand g c).In-loop-left in
    (r.0, rw c.per_byte-each.ensures (omega (arith, byte_full (class_number c.args.states))))

-- the symbols are the byte
byte : (g : Over) (c : After-standing_symbols g) → let a = c.args in
    c.standing_symbols.result ≡ digit_at 8 (c.loop-left.left - 1) (number_given (g.S.Source.given a.self.now.source) (class_number a.states))
byte g c = c.standing_symbols.ensures ∙ rw c.per_byte-each.ensures (taken-byte (class_number c.args.states) _ _)

pub loop-left-init : goal.loop-left-init
loop-left-init g c =
    let a = c.args in
    let e : a.at + (a.whole - a.whole) ≡ a.at = omega arith in
    rw e (written_none _ _ _ _)

pub loop-left-preserved : goal.loop-left-preserved
loop-left-preserved g c =
    written-down _ _ _ _ c.loop-left.out c.loop-left.left (omega arith) c.loop-left.invariant (byte g (goal.at.loop-left-preserved g c).After-standing_symbols)

pub returns : goal.returns
returns g c = (refl, (written_all _ _ _ _ c.loop-left.out (c.args.at + (c.args.whole - c.loop-left.left)) (omega arith) c.loop-left.invariant).1)
