-- After g turns the first g records are changed, and the image has the parts of g turns.
use Rattle.std.proofs.Common.{◌≡◌, ◌≤◌, map}
use Rattle.recording.specs.Step.{rewound}
use Rattle.cut.specs.Turns.{first_by, placed, cut_turns}
use Rattle.encoder.proofs.turns.cut_records.Given as goal

abbrev pub invariant-loop-g : goal.invariant-loop-g
invariant-loop-g g l =
    let stands_for = g.T.StoredRecord.stands_for in
    (l.g ≤ l.turns) × (map stands_for l.records ≡ first_by rewound l.g (map stands_for l.initial.records))
    × (placed l.o l.image ≡ cut_turns l.used l.start l.g (map stands_for l.initial.records) l.initial.image)
