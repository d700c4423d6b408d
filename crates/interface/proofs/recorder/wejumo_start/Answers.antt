-- The state and the answer as numbers.
-- Assumes nothing.
use Rattle.std.proofs.Common.{[]}
use Rattle.recording.specs.declared.Encoder.{Encoder}
use Rattle.recording.specs.Memory.{memory}
use Rattle.recording.specs.State.{settings_of}
use Rattle.recording.specs.Step.{start_of}
use Rattle.storage.specs.Storage.{records_of}
use Rattle.interface_answers.proofs.ToldLaws.{told-made}
use Rattle.interface.proofs.recorder.wejumo_start.Goals as goal

pub returns : goal.returns
returns c =
    let a = c.args in
    told-made a.state (λ (s : Encoder). start_of (settings_of a.limit a.signals a.edition) (memory s (records_of a.records.now) a.times.now [] a.image.now)) _ _ _ _ _ _ _ _
    c.from.ensures c.start-done.ensures
    c.outcome_numbers.ensures
