-- By the numbers of the eight bytes before the places.
use Rattle.entry_same.proofs.FewLaws.{few_same}
use Rattle.entry_same.proofs.same.same_few.Goals as goal

pub returns : goal.returns
returns c =
    let a = c.args in
    let r = c.requires in
    rw (c.get_u64.ensures, c.get_u64-2.ensures)
    (few_same a.size a.end a.next a.image.now (λ j. (c.type_inv.image j).fits) r.few.1 r.places.0 r.places.1 r.places.2 r.places.3)
