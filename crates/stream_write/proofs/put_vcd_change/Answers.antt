-- By the shape of the value: `Says` ties it to the bytes.
use mathlib.Core.Path.{subst}
use Rattle.signal.specs.Content.{vcd}
use Rattle.stream.specs.Answer.{Says}
use Rattle.stream_write.proofs.SaysLaws.{event-said, bit-written, text-written, vcd-no-real}
use Rattle.stream_write.proofs.put_vcd_change.Goals as goal

pub put_leb128-requires : goal.put_leb128-requires
put_leb128-requires c =
    let p = c in
    let a = p.args in
    rw (← (event-said a.kind a.d a.value.now a.change p.requires.d_le_max_delta.1 c.in-Event.is)) p.requires.value_in_bounds

pub put_bit-requires : goal.put_bit-requires
put_bit-requires c =
    let p = c in
    let a = p.args in
    (p.requires.d_le_max_delta.0, rw (← (bit-written a.kind a.d (vcd a.value.now) a.change _ p.requires.d_le_max_delta.1 c.in-SingleBit.is)) p.requires.value_in_bounds)

pub put_vector-requires : goal.put_vector-requires
put_vector-requires c =
    let p = c in
    let a = p.args in
    let v = text-written a.kind a.d a.value.now a.change _ _ _ p.requires.d_le_max_delta.1 c.in-MultiBit.is c.width.ensures c.vcd_text.ensures in
    record { d_le_max_delta = (p.requires.d_le_max_delta.0, v.width, v.there); src_value = (v.all, v.class); src_in_bounds = rw (← v.bytes) p.requires.value_in_bounds }

pub returns-in-Event : goal.returns-in-Event
returns-in-Event c =
    let p = c in
    let a = p.args in
    rw (event-said a.kind a.d a.value.now a.change p.requires.d_le_max_delta.1 c.in-Event.is) c.put_leb128.ensures

pub returns-in-SingleBit : goal.returns-in-SingleBit
returns-in-SingleBit c =
    let p = c in
    let a = p.args in
    rw (bit-written a.kind a.d (vcd a.value.now) a.change _ p.requires.d_le_max_delta.1 c.in-SingleBit.is) c.put_bit.ensures

pub returns-in-MultiBit : goal.returns-in-MultiBit
returns-in-MultiBit c =
    let p = c in
    let a = p.args in
    let v = text-written a.kind a.d a.value.now a.change _ _ _ p.requires.d_le_max_delta.1 c.in-MultiBit.is
    c.width.ensures c.vcd_text.ensures in
    rw v.bytes c.put_vector.ensures

pub returns-in-Real : goal.returns-in-Real
returns-in-Real c =
    let p = c in
    let a = p.args in
    absurd (vcd-no-real a.kind a.value.now _ (subst (Says a.kind (vcd a.value.now)) c.in-Real.is p.requires.d_le_max_delta.1))
