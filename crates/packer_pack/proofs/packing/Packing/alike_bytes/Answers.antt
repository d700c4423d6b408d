-- One byte is all of them (`alike-byte`), so that writing it over and over writes them (`alike-written`).
use Rattle.std.proofs.Common.{ℕ, ◌+◌, ◌-◌, ◌≡◌, ◌∙◌, arith}
use Rattle.value.specs.Class.{class_number}
use Rattle.packer.specs.Given.{number_given}
use Rattle.packer.proofs.PackLaws.{alike-written}
use Rattle.packer.proofs.NotationLaws.{alike-byte}
use Rattle.packer_pack.proofs.packing.Packing.alike_bytes.Goals as goal

pub returns-clause-written : goal.returns-clause-written
returns-clause-written g c =
    let a = c.args in
    let p = a.self.now in
    let s = g.S.Source.given p.source in
    let k : ℕ = class_number p.states in
    let e : a.left - a.stop + a.stop ≡ a.left = omega arith in
    let all =
    alike-written (number_given s k) c.part_byte-byte.result a.stop (a.left - a.stop) a.out.now a.at
    (λ j h l. c.part_byte-byte.ensures ∙ alike-byte s.notation s.width k s.bytes p.held a.stop j c.requires.before h (omega arith))
    in
    rw (c.put_same.ensures.0, c.put_same.ensures.1) (rw e at all)
