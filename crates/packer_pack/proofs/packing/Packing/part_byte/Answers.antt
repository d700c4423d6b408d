-- The working bits are the symbols taken, from the left; of the first byte's places those above the number have none.
use Rattle.std.proofs.Common.{ℕ, ◌+◌, ◌-◌, ◌*◌, ◌≤◌, ◌<◌, ◌∙◌, ◌≡◌, inl, inr, arith}
use Rattle.std.proofs.lemmas.Bool.{cases_lt}
use Rattle.value.specs.Class.{class_number, bits_of}
use Rattle.packed.proofs.PackedLaws.{byte_full}
use Rattle.packer.proofs.PackLaws.{byte-in, taken_none, taken-above, taken_more, taken-small, taken-all, taken-byte}
use Rattle.packer.proofs.NotationLaws.{number_small, symbol-digit}
use Rattle.packer_pack.proofs.packing.Packing.part_byte.Given.{Over}
use Rattle.packer_pack.proofs.packing.Packing.part_byte.Goals as goal
use Rattle.packer_pack.proofs.packing.Packing.part_byte.Goals.{After-width}

-- the byte has a symbol, and has room for 8 bits of them
inside : (g : Over) (c : After-width g) →
    (c.args.after * c.per_byte-each.result < c.width.result) × (c.per_byte-each.result * bits_of (class_number c.args.self.now.states) ≤ 8)
inside g c =
    let k : ℕ = class_number c.args.self.now.states in
    rw (c.per_byte-each.ensures, c.width.ensures) (byte-in _ k c.args.after c.requires, omega (arith, byte_full k))

pub overflow_mul-left : goal.overflow_mul-left
overflow_mul-left g c = let p = inside g c in record { fits = omega (arith, p.0, c.width.type_inv) }

pub overflow_sub-left : goal.overflow_sub-left
overflow_sub-left g c = let p = inside g c in omega arith

pub loop-i-init : goal.loop-i-init
loop-i-init g c =
    let p = inside g (goal.at.loop-i-init g c).After-width in
    let a = c.args.self.now in
    let s = g.S.Source.given a.source in
    let k : ℕ = class_number a.states in
    let i : ℕ = c.min-i.result in
    let left : ℕ = c.width.result - c.args.after * c.per_byte-each.result in
    let small = number_small s.notation s.width k s.bytes a.held in
    elim (cases_lt left c.per_byte-each.result) [
      | inl h ↦
          let e : i ≡ left = omega (arith, c.min-i.ensures) in
          (omega arith, taken-above _ _ _ _ i (omega arith) (omega (arith, c.width.ensures)) small)
      | inr h ↦
          let e : i ≡ c.per_byte-each.result = omega (arith, c.min-i.ensures) in
          (omega arith, rw e (taken_none _ _ _ _))
    ]

pub symbol-symbol-requires : goal.symbol-symbol-requires
symbol-symbol-requires g c = (c.args.self.now.held.0, omega (arith, c.width.ensures))

pub pushed-working-requires : goal.pushed-working-requires
pushed-working-requires g c = let p = inside g (goal.at.pushed-working-requires g c).After-width in taken-small _ _ _ _ p.1 c.loop-i.invariant.1

pub loop-i-preserved : goal.loop-i-preserved
loop-i-preserved g c =
    let a = c.args.self.now in
    let s = g.S.Source.given a.source in
    let i : ℕ = c.loop-i.i in
    let end : ℕ = c.args.after * c.per_byte-each.result in
    let d = symbol-digit s.notation s.width (class_number a.states) s.bytes a.held (c.width.result - end - 1 - (i - 1)) (end + (i - 1)) (omega (arith, c.width.ensures)) in
    (omega arith, taken_more _ _ _ _ i (omega arith) c.loop-i.invariant.1 (c.symbol-symbol.ensures ∙ d) c.pushed-working.ensures)

pub overflow_cast-result : goal.overflow_cast-result
overflow_cast-result g c =
    let p = inside g (goal.at.overflow_cast-result g c).After-width in
    record { fits = taken-small _ _ _ _ p.1 c.loop-i.invariant.1 }

pub returns : goal.returns
returns g c =
    taken-all _ _ _ _ (omega arith) c.loop-i.invariant.1
    ∙ rw c.per_byte-each.ensures (taken-byte (class_number c.args.self.now.states) c.args.after _)
