-- The state and the answer as numbers.
-- Assumes nothing.
use Rattle.signal.specs.Content.{raw}
use Rattle.recording.specs.declared.Encoder.{Encoder}
use Rattle.recording.specs.Memory.{memory}
use Rattle.recording.specs.Step.{change_of}
use Rattle.storage.specs.Storage.{records_of}
use Rattle.interface_answers.proofs.ToldLaws.{told-made}
use Rattle.interface.proofs.recorder.wejumo_raw_value_change.Goals as goal

pub returns : goal.returns
returns c =
    let a = c.args in
    told-made a.state
    (λ (s : Encoder). change_of (memory s (records_of a.records.now) a.times.now a.work.now a.image.now) a.sender a.signal
    (raw a.claim a.value.now)) _ _ _ _ _ _ _ _ c.from.ensures
    c.raw_claim_change-done.ensures c.outcome_numbers.ensures
