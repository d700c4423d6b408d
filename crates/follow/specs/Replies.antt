-- What a call answers on memory that stands for a model, where no buffer is full: it follows from the model, the kinds and, for a change, the
-- probe that its signal's record names. Nothing of blocks, bytes and other signals is looked at.
-- Assumes nothing.
use Rattle.std.specs.Prelude.{ℕ, ◌≡◌, Bool, ◌||◌, not, List, length, get_or, leb, eqb}
use Rattle.lists.specs.Choice.{pick}
use Rattle.signal.specs.declared.kind.SignalEncoding.{SignalEncoding}
use Rattle.signal.specs.declared.kind.SignalEncoding.TheVariants.{Absent}
use Rattle.signal.specs.Kind.{absent}
use Rattle.signal.specs.Content.{Given, Decoded, accept, decode}
use Rattle.signal.specs.Content as content
use Rattle.recording.specs.Calls.{recorded, skipped, Reply, refuse, say, way_of}
use Rattle.recording.specs.Refusals.{no_probe}
use Rattle.recording.specs.State.{skip_of}
use Rattle.model.specs.Model.{Model, no_time}
use Rattle.follow.specs.Answers.{way_answer}

-- neither 7 nor 8
abbrev pub Roomy : Reply → Type 0
Roomy r = (r ≡ refuse 7 → ⊥) × (r ≡ refuse 8 → ⊥)

-- 2 and 18 come first
abbrev pub opening : (closed foreign : Bool) → Reply → Reply
opening c f r = pick c (refuse 2) (pick f (refuse 18) r)

abbrev pub time_reply : Model → (sender t : ℕ) → Reply
time_reply p q t = opening p.closed (no_probe q) (say (way_answer (way_of p.now.times t)))

abbrev pub value_reply : Decoded → Reply
value_reply (content.refuse n) = refuse n
value_reply (accept a c) = say recorded

abbrev pub unknown : List SignalEncoding → (signal : ℕ) → Bool
unknown ks g = leb (length ks) g || absent (get_or ks g Absent)

-- 3, skip, 4, 18, 5 and 6
abbrev pub open_reply : List SignalEncoding → (probe : ℕ) → Model → (sender signal : ℕ) → (skip : Bool) → Given → Reply
open_reply ks probe p q g skip v =
    pick (no_time p.now.times) (refuse 3)
    (pick skip (say skipped)
    (pick (unknown ks g) (refuse 4)
    (pick (not (eqb probe q)) (refuse 18) (value_reply (decode (get_or ks g Absent) v)))))

abbrev pub change_reply : List SignalEncoding → (probe : ℕ) → Model → (sender signal : ℕ) → Given → Reply
change_reply ks probe p q g v = opening p.closed (no_probe q) (open_reply ks probe p q g (skip_of p.skips q).on v)
