-- By the shape of the value: `Says` ties it to the bytes.
use mathlib.Core.Path.{subst}
use Rattle.packer.specs.declared.Notation.TheVariants.{Packed}
use Rattle.signal.specs.Kind.{width_of}
use Rattle.signal.specs.Content.{raw}
use Rattle.stream.specs.Answer.{Says}
use Rattle.stream_write.proofs.SaysLaws.{VectorSaid, bit-written, raw-claimed, packed-written, enough-said, part-said, raw-no-event, raw-no-real}
use Rattle.stream_write.proofs.put_raw_change.Goals as goal
use Rattle.stream_write.proofs.put_raw_change.Goals.{After-put_vector-arg-1}

-- the vector's symbols in the part that counts
said : (c : goal.After-put_vector-arg-1) →
    let p = c in let a = p.args in
    VectorSaid a.kind a.d (raw a.claim a.value.now) c.in-MultiBit.states
    (Packed c.from_number-claimed.result) c.width-width.result c.raw_part-part.result.now
said c =
    let p = c in
    let a = p.args in
    packed-written a.kind a.d a.claim a.value.now a.change _ _ _ _ p.requires.d_le_max_delta.1 c.in-MultiBit.is
    c.from_number-claimed.ensures c.width-width.ensures
    (part-said a.value.now _ _ _ c.bytes_required.ensures c.raw_part-part.ensures)

pub put_bit-requires : goal.put_bit-requires
put_bit-requires c =
    let p = c in
    let a = p.args in
    (p.requires.d_le_max_delta.0, rw (← (bit-written a.kind a.d (raw a.claim a.value.now) a.change _ p.requires.d_le_max_delta.1 c.in-SingleBit.is)) p.requires.value_in_bounds)

pub raw_part-part-requires : goal.raw_part-part-requires
raw_part-part-requires c =
    let p = c in
    let a = p.args in
    let r = raw-claimed a.kind a.d a.claim a.value.now a.change _ p.requires.d_le_max_delta.1 c.in-MultiBit.is in
    enough-said (width_of a.kind) a.claim a.value.now _ c.from_number-claimed.result _ r.claimed r.enough c.width-width.ensures
    c.from_number-claimed.ensures c.bytes_required.ensures

pub put_vector-requires : goal.put_vector-requires
put_vector-requires c =
    let p = c in
    let a = p.args in
    let v = said c in
    record { d_le_max_delta = (p.requires.d_le_max_delta.0, v.width, v.there); src_value = (v.all, v.class); src_in_bounds = rw (← v.bytes) p.requires.value_in_bounds }

pub returns-in-SingleBit : goal.returns-in-SingleBit
returns-in-SingleBit c =
    let p = c in
    let a = p.args in
    rw (bit-written a.kind a.d (raw a.claim a.value.now) a.change _ p.requires.d_le_max_delta.1 c.in-SingleBit.is) c.put_bit.ensures

pub returns-in-MultiBit : goal.returns-in-MultiBit
returns-in-MultiBit c = rw (said (goal.at.returns-in-MultiBit c).After-put_vector-arg-1).bytes c.put_vector.ensures

pub returns-in-Event : goal.returns-in-Event
returns-in-Event c =
    let p = c in
    let a = p.args in
    absurd (raw-no-event a.kind a.claim a.value.now (subst (Says a.kind (raw a.claim a.value.now)) c.in-Event.is p.requires.d_le_max_delta.1))

pub returns-in-Real : goal.returns-in-Real
returns-in-Real c =
    let p = c in
    let a = p.args in
    absurd (raw-no-real a.kind a.claim a.value.now _ (subst (Says a.kind (raw a.claim a.value.now)) c.in-Real.is p.requires.d_le_max_delta.1))
