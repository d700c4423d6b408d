-- One turn more is a part more (`turns_next`) and one record changed more (`first_next`).
use Rattle.std.proofs.Common.{◌≡◌, sym, ap, ap₂, ◌∙◌, ◌<◌, arith, rules, length, get_or, map}
use Rattle.value.specs.declared.states.States.TheVariants.{Two}
use Rattle.signal.specs.declared.kind.SignalEncoding.TheVariants.{Absent}
use Rattle.recording.specs.declared.SignalRecord.{SignalRecord}
use Rattle.recording.specs.Memory.{record_of}
use Rattle.recording.specs.Step.{rewound}
use Rattle.cut.specs.Turns.{Place, turned}
use Rattle.cut.proofs.TurnLaws.{first-none, turns-none, turns_next}
use Rattle.encoder.proofs.TurnLaws.{same-record, changed-next}
use Rattle.encoder.proofs.turns.cut_records.Goals as goal

pub loop-g-init : goal.loop-g-init
loop-g-init g c =
    let a = c.args in
    let rs = map g.T.StoredRecord.stands_for a.records.now in
    (omega arith, sym (first-none rewound rs), sym (turns-none a.used a.start rs a.image.now))

pub loop-g-preserved : goal.loop-g-preserved
loop-g-preserved g c =
    let l = c.loop-g in
    let a = c.args in
    let stands_for = g.T.StoredRecord.stands_for in
    let rs = map stands_for a.records.now in
    let absent = record_of Absent 0 Two 0 in
    let h : l.g < length rs = omega (arith, c.requires.few) in
    let kept = c.index-records-g.result in
    let here : kept ≡ get_or l.records l.g kept = search rules in
    let read = c.load-kept.ensures.0 ∙ ap stands_for here in
    let same = same-record stands_for rewound l.g rs l.records l.invariant.1 h kept absent in (
      omega arith,
      changed-next stands_for rewound l.g rs l.records l.invariant.1 h kept _ absent (c.store.ensures ∙ c.rewound.ensures ∙ ap rewound read),
      c.begin_record-o.ensures
          ∙ ap₂ (λ (r : SignalRecord) (p : Place). turned a.used a.start l.g r p) (read ∙ same) l.invariant.2
          ∙ sym (turns_next a.used a.start l.g rs a.image.now),
    )
