-- After g turns the first g records are changed, and the image has the kinds of g records.
use Rattle.std.proofs.Common.{◌≡◌, ◌≤◌, map}
use Rattle.recording.specs.Step.{fresh}
use Rattle.head.specs.Kinds.{kinds_put}
use Rattle.cut.specs.Turns.{first_by}
use Rattle.encoder.proofs.turns.start_records.Given as goal

abbrev pub invariant-loop-g : goal.invariant-loop-g
invariant-loop-g g l =
    let stands_for = g.T.StoredRecord.stands_for in
    (l.g ≤ l.turns) × (map stands_for l.records ≡ first_by fresh l.g (map stands_for l.initial.records))
    × (l.image ≡ kinds_put l.g (map stands_for l.initial.records) l.initial.image)
