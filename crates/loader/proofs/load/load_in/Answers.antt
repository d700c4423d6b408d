-- By the kind, by what the blocks say, and by the outputs' room.
use Prim.Native.Nat.{◌/◌, ◌≤◌}
use mathlib.Core.Path.{◌≡◌, ap, ◌∙◌}
use native.Mathlib.Nat.{div-le_self}
use native.Mathlib.Omega.{arith}
use lib.ListN.{length}
use Rattle.value.specs.Class.{class_number}
use Rattle.value.proofs.ClassLaws.{number-states}
use Rattle.loaded.specs.Loading.{loads}
use Rattle.walk.specs.Open.{image_of}
use Rattle.loader_measure.proofs.LeastLaws.{least-any}
use Rattle.loader.proofs.LoadLaws.{Sized, sized, answer-unknown, answer-short, room-all, answer-loaded}
use Rattle.loader.proofs.load.load_in.Goals as goal
use Rattle.loader.proofs.load.load_in.Goals.{After-least_len}

-- what holds of the signal's entries
fits : (t : goal.After-least_len) → let a = t.args in Sized a.image.bytes.now a.signal
fits t =
    let i = t.args.image in
    sized i.bytes.now t.args.signal i.fits i.opened

class-is : (t : goal.After-least_len) → let a =
    t.args in
    class_number t.from_number-class.result ≡ (loads a.signal (image_of a.image).blocks).class
class-is t =
    let e = t.measure_blocks-measured.ensures.1 in
    ap class_number (rw t.from.ensures at t.from_number-class.ensures) ∙ number-states _ (omega (arith, (fits t).top)) ∙ e

-- no more than the streams have room for
few : (t : goal.After-least_len) → let a = t.args in
    length (loads a.signal (image_of a.image).blocks).entries ≤ t.measure_blocks-measured.result.bytes / t.least_len.result
few t = rw (t.measure_blocks-measured.ensures.0, t.least_len.ensures, t.kind_at-kind.ensures) (fits t).few

pub returns-then-is_absent : goal.returns-then-is_absent
returns-then-is_absent c =
    let a = c.args in
    answer-unknown (image_of a.image) a.signal c.kind_at-kind.result a.index.now a.bytes.now c.kind_at-kind.ensures _
    c.is_absent.ensures c.if-is_absent.true

pub nonzero_div-most : goal.nonzero_div-most
nonzero_div-most c = let t = c in omega (arith, least-any t.kind_at-kind.result, t.least_len.ensures)

pub lacks_room-requires : goal.lacks_room-requires
lacks_room-requires c =
    let t = c in
    let m = t.measure_blocks-measured in
    record {
      known = (t.kind_at-kind.ensures, class-is (goal.at.lacks_room-requires c).After-least_len);
      image_len_bound =
          (few (goal.at.lacks_room-requires c).After-least_len, omega (arith, div-le_self m.result.bytes t.least_len.result, m.ensures.2));
    }

pub returns-then-lacks_room : goal.returns-then-lacks_room
returns-then-lacks_room c =
    let r = c in
    let t = r in
    let a = t.args in
    answer-short a.image.bytes.now a.signal t.kind_at-kind.result a.index.now a.bytes.now
    (class_number t.from_number-class.result) r.lacks_room.new.index r.lacks_room.new.bytes
    t.kind_at-kind.ensures (fits (goal.at.returns-then-lacks_room c).After-least_len) (class-is (goal.at.returns-then-lacks_room c).After-least_len) r.lacks_room.ensures.1 r.lacks_room.ensures.2 _
    t.is_absent.ensures t.if-is_absent.false _ r.lacks_room.ensures.0 c.if-lacks_room.true

pub load_blocks-written-requires : goal.load_blocks-written-requires
load_blocks-written-requires c =
    let r = c in
    let t = r in
    let a = t.args in (
      omega (arith, class-is (goal.at.load_blocks-written-requires c).After-least_len),
      room-all a.image.bytes.now a.signal t.kind_at-kind.result a.index.now a.bytes.now
          (class_number t.from_number-class.result) r.lacks_room.new.index r.lacks_room.new.bytes
          t.kind_at-kind.ensures (fits (goal.at.load_blocks-written-requires c).After-least_len)
          (class-is (goal.at.load_blocks-written-requires c).After-least_len) r.lacks_room.ensures.1 r.lacks_room.ensures.2 _
          t.is_absent.ensures t.if-is_absent.false _ r.lacks_room.ensures.0 c.if-lacks_room.false,
    )

pub returns : goal.returns
returns c =
    let w = c in
    let r = w in
    let t = r in
    let a = t.args in
    answer-loaded a.image.bytes.now a.signal t.kind_at-kind.result a.index.now a.bytes.now
    (class_number t.from_number-class.result) r.lacks_room.new.index r.lacks_room.new.bytes
    t.kind_at-kind.ensures (fits (goal.at.returns c).After-least_len) (class-is (goal.at.returns c).After-least_len) r.lacks_room.ensures.1 r.lacks_room.ensures.2 _
    t.is_absent.ensures t.if-is_absent.false _ r.lacks_room.ensures.0 w.load_blocks-written.result
    (class_number c.signal_class-class.result) _ _ w.if-lacks_room.false c.signal_class-class.ensures w.load_blocks-written.ensures
