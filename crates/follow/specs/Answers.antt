-- What the model answers, as the history does.
-- Assumes nothing.
use Rattle.std.specs.Prelude.{Bool, true, false, List, get_or}
use Rattle.signal.specs.declared.kind.SignalEncoding.{SignalEncoding}
use Rattle.signal.specs.declared.kind.SignalEncoding.TheVariants.{Absent}
use Rattle.signal.specs.Content.{Decoded, refuse, accept, decode}
use Rattle.recording.specs.State.{skip_of}
use Rattle.recording.specs.Calls.{Call, time, change, finish, Heard, taken, same, back, recorded, skipped, silent, Way, above, equal, below, way_of}
use Rattle.model.specs.Model.{Model}

abbrev pub way_answer : Way → Heard
way_answer above = taken
way_answer equal = same
way_answer below = back

abbrev pub change_answer : (skip : Bool) → Decoded → Heard
change_answer true d = skipped
change_answer false (refuse n) = silent
change_answer false (accept a c) = recorded

unfoldable pub model_answer : List SignalEncoding → Model → Call → (refused : Bool) → Heard
model_answer ks p c true = silent
model_answer ks p (time q t) false = way_answer (way_of p.now.times t)
model_answer ks p (change q g v) false = change_answer (skip_of p.skips q).on (decode (get_or ks g Absent) v)
model_answer ks p finish false = silent
