-- A start, a time and a finish: their steps together.
-- Assumes nothing.
use Prim.Native.Nat.{ℕ}
use mathlib.Core.Path.{◌≡◌, refl, ap, ◌∙◌}
use mathlib.Core.Bool.{Bool}
use mathlib.Core.List.{List, []}
use lib.ListN.{length}
use Rattle.recording.specs.declared.Settings.{Settings}
use Rattle.recording.specs.declared.Encoder.{Encoder}
use Rattle.recording.specs.declared.SignalRecord.{SignalRecord}
use Rattle.recording.specs.Calls.{reply_of}
use Rattle.recording.specs.declared.Outcome.{Outcome}
use Rattle.recording.specs.Memory.{memory, after, left}
use Rattle.recording.specs.Refusals.{any_bad}
use Rattle.recording.specs.Step.{rewound, fresh}
use Rattle.head.specs.Kinds.{kinds_put, KindsFit}
use Rattle.cut.specs.Turns.{first_by, TurnsFit}
use Rattle.plan_state.specs.declared.plan.Plan.{Plan}
use Rattle.plan.specs.Carry.{opened_by, turned_by, closed_by, times_by, carried, Completes}
use Rattle.plan.specs.declared.Begun.{Begun}
use Rattle.plan.specs.Begin.{begin_of, begin_in, start_carried}

pub carried-out : (p : Plan) (s : Encoder) (rs rs' : List SignalRecord) (t t' w i j k l : List ℕ)
    → j ≡ opened_by p t w i → rs' ≡ first_by rewound p.turns rs → k ≡ turned_by p rs j → t' ≡ times_by p t → l ≡ closed_by p w k
    → after (reply_of p.outcome.answer) (memory p.outcome.state rs' t' w l) ≡ carried p (memory s rs t w i)
carried-out p s rs rs' t t' w i j k l a b c d e = rw (b, d, e, c, a) refl

-- ---- the steps of a time and of a finish, by the plan p that a call answered, which is q

pub plan-turns : (p q : Plan) (rs : List SignalRecord) (t w i j : List ℕ)
    → p ≡ q → j ≡ opened_by p t w i → TurnsFit q.used q.start q.turns rs (opened_by q t w i) → TurnsFit p.used p.start p.turns rs j
plan-turns p q rs t w i j e a f = rw (a, e) f

pub plan-ends : (p q : Plan) (rs : List SignalRecord) (t w i j l : List ℕ)
    → p ≡ q → j ≡ opened_by p t w i → l ≡ turned_by p rs j → Completes q t w (turned_by q rs (opened_by q t w i)) → Completes p t w l
plan-ends p q rs t w i j l e a c f = rw (c, a, e) f

pub plan-left : (p q : Plan) (s : Encoder) (o : Outcome) (rs rs' : List SignalRecord) (t t' w i j k l : List ℕ)
    → p ≡ q → j ≡ opened_by p t w i → rs' ≡ first_by rewound p.turns rs → k ≡ turned_by p rs j → o ≡ p.outcome → t' ≡ times_by p t → l ≡ closed_by p w k
    → left o rs' t' w l ≡ carried q (memory s rs t w i)
plan-left p q s o rs rs' t t' w i j k l e a b c x d f =
    rw x (carried-out p s rs rs' t t' w i j k l a b c d f) ∙ ap (λ (r : Plan). carried r (memory s rs t w i)) e

-- ---- the steps of a start, by what its first step answered

pub start-fits : (settings : Settings) (s : Encoder) (rs : List SignalRecord) (t i j : List ℕ) (bad : Bool) (b : Begun)
    → b ≡ begin_of s settings bad (length rs) (length t) (length i) → j ≡ begin_in settings bad (length rs) (length t) i
    → KindsFit (begin_of s settings bad (length rs) (length t) (length i)).turns rs (begin_in settings bad (length rs) (length t) i)
    → KindsFit b.turns rs j
start-fits settings s rs t i j bad b e f k = rw (f, e) k

pub start-left : (settings : Settings) (s : Encoder) (rs rs' : List SignalRecord) (t i j l : List ℕ) (bad : Bool) (b : Begun)
    → bad ≡ any_bad rs → b ≡ begin_of s settings bad (length rs) (length t) (length i) → j ≡ begin_in settings bad (length rs) (length t) i
    → rs' ≡ first_by fresh b.turns rs → l ≡ kinds_put b.turns rs j
    → left b.outcome rs' t [] l ≡ start_carried settings (memory s rs t [] i)
start-left settings s rs rs' t i j l bad b e f g h k = rw (h, k, g, f, e) refl
