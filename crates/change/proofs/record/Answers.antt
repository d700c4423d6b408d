-- The value's decoding, the head, then the bytes; `room` holds where the head is written.
use Prim.Native.Nat.{◌-◌}
use mathlib.Core.Path.{◌≡◌, refl, sym, ◌∙◌}
use native.Mathlib.Omega.{arith}
use lib.ListN.{length}
use Rattle.std.proofs.lemmas.Result.{err_from_is_err_and}
use Rattle.signal.specs.Answer.{decoded_to, decoded_as}
use Rattle.signal.specs.Content.{decode}
use Rattle.stream.specs.Answer.{said_bytes}
use Rattle.change.proofs.FoundLaws.{Room, item_room, item_refused, item-done, found-refused, answered}
use Rattle.change.proofs.record.Goals as goal
use Rattle.change.proofs.record.Goals.{In_ok-decoded, In_ok-n}

said : (g : _) (c : In_ok-decoded g) → let a = c.args in let d = c.in_ok-decoded.decoded in
    decoded_as a.kept.kind (decode a.kept.kind (g.V.GivenValue.given a.value)) ≡ decoded_to d.change d.states
said g c = sym c.decode_to.ensures ∙ c.in_ok-decoded.was

room : (g : _) (c : In_ok-n g) → let a = c.args in
    Room a.state a.kept (length a.work.now) (said_bytes a.kept.kind (a.state.held - 1 - a.kept.index) (g.V.GivenValue.given a.value)) c.in_ok-n.n
room g c =
    let a = c.args in
    let d = c.in_ok-decoded.decoded in
    item_room a.state a.kept _ (g.V.GivenValue.given a.value) d.change d.states (said g (goal.at.In_ok-n g c).In_ok-decoded) c.begin_item.ensures.0 c.in_ok-n.was (omega arith)

pub returns-in_err-decoded : goal.returns-in_err-decoded
returns-in_err-decoded g c =
    let p = err_from_is_err_and c.from_residual.result c.from_residual.ensures.1 in
    rw (p.1, p.2) (found-refused _ _ _ _ _ (sym c.decode_to.ensures ∙ c.in_err-decoded.was))

pub returns-in_err-n : goal.returns-in_err-n
returns-in_err-n g c =
    let p = err_from_is_err_and c.from_residual-in_err-n.result c.from_residual-in_err-n.ensures.1 in
    let a = c.args in
    let d = c.in_ok-decoded.decoded in
    rw (p.1, p.2) (item_refused a.state a.kept a.work.now a.signal.0 (g.V.GivenValue.given a.value) d.change d.states
    (said g (goal.at.returns-in_err-n g c).In_ok-decoded) _ c.begin_item.ensures.0 c.begin_item.ensures.1 c.in_err-n.was)

pub overflow_sub-gap-2 : goal.overflow_sub-gap-2
overflow_sub-gap-2 g c = (room g (goal.at.overflow_sub-gap-2 g c).In_ok-n).gap

pub put_change-requires-clause-room : goal.put_change-requires-clause-room
put_change-requires-clause-room g c = let h = room g (goal.at.put_change-requires-clause-room g c).In_ok-n in omega arith

pub overflow_add-n : goal.overflow_add-n
overflow_add-n g c = let h = room g (goal.at.overflow_add-n g c).In_ok-n in omega arith

pub recorded-requires : goal.recorded-requires
recorded-requires g c = let h = room g (goal.at.recorded-requires g c).In_ok-n in (h.small, omega arith)

pub returns : goal.returns
returns g c =
    let e = c.recorded.ensures in
    let a = c.args in
    let d = c.in_ok-decoded.decoded in
    answered _ _ _ _ _ _ _ _ e.0 e.1 e.2 refl
    ∙ item-done a.state a.kept a.work.now a.signal.0 (g.V.GivenValue.given a.value) d.change d.states (said g (goal.at.returns g c).In_ok-decoded) _ _
    (room g (goal.at.returns g c).In_ok-n) c.begin_item.ensures.0 c.begin_item.ensures.1 c.in_ok-n.was c.put_change.ensures.1
