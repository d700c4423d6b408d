-- The whole bytes lie within what stands in the source, and all bytes are the digits of its number.
use Rattle.std.proofs.Common.{sym, ap, ◌∙◌}
use Rattle.std.proofs.lemmas.List.Edits.{sets}
use Rattle.value.specs.Class.{class_number}
use Rattle.packer.specs.Given.{standing_given}
use Rattle.packer.proofs.PackLaws.{whole_in}
use Rattle.packer.proofs.NotationLaws.{standing-in, packed-digits}
use Rattle.packer_pack.proofs.packing.Packing.bytes.Goals as goal

pub part_bytes-next-requires-clause-room : goal.part_bytes-next-requires-clause-room
part_bytes-next-requires-clause-room g c =
    let p = c.args.self.now in
    let s = g.S.Source.given p.source in
    let whole = whole_in (class_number p.states) (standing_given s) s.width (standing-in s.notation s.width s.bytes p.held.0) in
    (rw (c.standing.ensures, c.per_byte.ensures) whole.1, c.requires)

pub returns-clause-written : goal.returns-clause-written
returns-clause-written g c =
    let p = c.args.self.now in
    let s = g.S.Source.given p.source in
    c.standing_bytes.ensures.1
    ∙ c.part_bytes-next.ensures.written
    ∙ ap (sets c.args.out.now c.args.at) (sym (packed-digits s.notation s.width (class_number p.states) s.bytes p.held.0))
