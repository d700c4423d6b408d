-- By the kind.
use Prim.Native.Nat.{ℕ, ◌+◌, ◌/◌}
use mathlib.Core.Path.{◌∙◌, sym, ap, ap₂}
use native.Mathlib.Omega.{arith}
use Rattle.value.specs.declared.states.States.{States}
use Rattle.signal.specs.declared.decode.ChangeValue.TheVariants as value
use Rattle.stream.specs.Answer.{read_of}
use Rattle.stream.proofs.ReadLaws.{size_is, kind-absent}
use Rattle.stream_known.proofs.KnownLaws.{event-stands, bit-stands, wide-stands, real-stands}
use Rattle.stream_known.proofs.known_value.Goals as goal

pub returns-in-BitVector-eq0 : goal.returns-in-BitVector-eq0
returns-in-BitVector-eq0 c =
    let a = c.args in
    let w = c.in-BitVector-eq0 in
    event-stands a.kind a.s.now a.at a.v c.requires.0 c.requires.1 _ w.is (sym w.field-0-is ∙ w.field-0-test)

pub returns-in-BitVector-eq1 : goal.returns-in-BitVector-eq1
returns-in-BitVector-eq1 c =
    let a = c.args in
    let w = c.in-BitVector-eq1 in
    bit-stands a.kind a.s.now a.at a.v c.requires.0 c.requires.1 _ w.is (sym w.field-0-is ∙ w.field-0-test)

pub overflow_add-end : goal.overflow_add-end
overflow_add-end c =
    let a = c.args in
    let x = c.in-BitVector in
    let t = rw x.is at x.width-test in
    let w = wide-stands a.kind a.s.now a.at a.v c.requires.0 c.requires.1 _ x.is t.0.1 t.1 in
    omega (arith, w.0.room, size_is _ a.v _ _ w.0.class c.from_number-states.ensures c.bytes_required.ensures)

pub get_u64-requires : goal.get_u64-requires
get_u64-requires c =
    let a = c.args in
    omega (arith, (real-stands a.kind a.s.now a.at a.v c.requires.0 c.requires.1 c.in-Real.is).0)

pub returns-in-BitVector : goal.returns-in-BitVector
returns-in-BitVector c =
    let a = c.args in
    let x = c.in-BitVector in
    let t = rw x.is at x.width-test in
    let w = wide-stands a.kind a.s.now a.at a.v c.requires.0 c.requires.1 _ x.is t.0.1 t.1 in
    ap₂ (λ (x : States) (n : ℕ). read_of (a.v / 4) (value.MultiBit x) (a.at + n)) c.from_number-states.ensures
    (size_is _ a.v _ _ w.0.class c.from_number-states.ensures c.bytes_required.ensures)
    ∙ w.0.change ∙ w.1

pub returns-in-Real : goal.returns-in-Real
returns-in-Real c =
    let a = c.args in
    ap (λ (b : ℕ). read_of a.v (value.Real b) (a.at + 8)) c.get_u64.ensures
    ∙ (real-stands a.kind a.s.now a.at a.v c.requires.0 c.requires.1 c.in-Real.is).1

pub returns-in-Absent : goal.returns-in-Absent
returns-in-Absent c =
    let a = c.args in
    kind-absent a.kind a.s.now a.at a.v c.requires.0 c.in-Absent.is
