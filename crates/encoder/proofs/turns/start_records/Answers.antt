-- One record more is one kind more (`kinds-next`) and one record changed more (`first_next`).
use Rattle.std.proofs.Common.{◌≡◌, sym, ap, ap₂, ◌∙◌, ℕ, ◌<◌, arith, rules, List, length, get_or, map}
use Rattle.value.specs.declared.states.States.TheVariants.{Two}
use Rattle.signal.specs.declared.kind.SignalEncoding.TheVariants.{Absent}
use Rattle.recording.specs.declared.SignalRecord.{SignalRecord}
use Rattle.recording.specs.Memory.{record_of}
use Rattle.recording.specs.Step.{fresh}
use Rattle.head.specs.Kinds.{kind_put}
use Rattle.head.proofs.HeadLaws.{kinds-none, kinds-next}
use Rattle.cut.proofs.TurnLaws.{first-none}
use Rattle.encoder.proofs.TurnLaws.{same-record, changed-next}
use Rattle.encoder.proofs.turns.start_records.Goals as goal

pub loop-g-init : goal.loop-g-init
loop-g-init g c =
    let rs = map g.T.StoredRecord.stands_for c.args.records.now in
    (omega arith, sym (first-none fresh rs), sym (kinds-none rs c.args.image.now))

pub loop-g-preserved : goal.loop-g-preserved
loop-g-preserved g c =
    let l = c.loop-g in
    let stands_for = g.T.StoredRecord.stands_for in
    let rs = map stands_for c.args.records.now in
    let absent = record_of Absent 0 Two 0 in
    let h : l.g < length rs = omega (arith, c.requires.few) in
    let kept = c.index-records-g.result in
    let here : kept ≡ get_or l.records l.g kept = search rules in
    let read = c.load-kept.ensures.0 ∙ ap stands_for here in
    let same = same-record stands_for fresh l.g rs l.records l.invariant.1 h kept absent in (
      omega arith,
      changed-next stands_for fresh l.g rs l.records l.invariant.1 h kept _ absent (c.store.ensures ∙ c.fresh.ensures ∙ ap fresh read),
      c.put_kind.ensures
          ∙ ap₂ (λ (r : SignalRecord) (i : List ℕ). kind_put l.g r i) (read ∙ same) l.invariant.2
          ∙ sym (kinds-next l.g rs c.args.image.now),
    )
