-- A whole list of calls from a start that is taken: it follows the model and so the history, and an accepted finish leaves the bytes of a
-- valid image, whose blocks join to the history.
-- Assumes nothing.
use Prim.Native.Nat.{ℕ}
use mathlib.Core.Path.{◌≡◌, refl, sym, ap, ◌∙◌, subst}
use mathlib.Core.Bool.{Bool, true, false}
use mathlib.Core.List.{List, [], ◌∷◌}
use mathlib.Core.Option.{none}
use native.Mathlib.Omega.{arith}
use lib.ListN.{take, get_or}
use Rattle.signal.specs.declared.kind.SignalEncoding.{SignalEncoding}
use Rattle.signal.specs.declared.kind.SignalEncoding.TheVariants.{Absent}
use Rattle.signal.specs.Content.{Decoded, refuse, accept, decode}
use Rattle.image.specs.Image.{image_bytes}
use Rattle.codec.specs.Valid.{KnownKinds, BlocksFit, Valid}
use Rattle.codec.proofs.ImageFits.{image-size}
use Rattle.recording.specs.declared.Settings.{Settings}
use Rattle.recording.specs.Calls.{Call, time, change, finish, CallFits, Fitting, Reply, total, is_refusal, heard_of, refusals, heard, Way, above, equal, below, way_of}
use Rattle.recording.specs.Calls as calls
use Rattle.recording.specs.declared.ProbeSkip.{ProbeSkip}
use Rattle.recording.specs.Memory.{Memory}
use Rattle.recording.specs.Step.{start_of, step, run, Ran, kinds_of}
use Rattle.recording.proofs.StartLaws.{StartableIn}
use Rattle.history.specs.History.{History, no_history, skip_by, Telling, tell_time, tell_change, tell, tell_all}
use Rattle.model.specs.Model.{Chunk, Model, no_model, model_step, no_chunk, joined, told}
use Rattle.model.proofs.HistoryLaws.{Same, way_same, skip-same, step_same, start-same}
use Rattle.model.proofs.ValidLaws as valid
use Rattle.follow.specs.Answers.{way_answer, change_answer, model_answer}
use Rattle.follow.proofs.ImageRep.{image_for}
use Rattle.follow.proofs.Rep.{Rep}
use Rattle.follow.proofs.Calls.{step-good}
use Rattle.follow.proofs.Start.{start-rep}

-- ---- the model's answers are the history's

time-answer : (edition : ℕ) (h : History) (q t : ℕ) (w : Way) → way_answer w ≡ (tell_time edition h q t w).answer
time-answer edition h q t above = refl
time-answer edition h q t equal = refl
time-answer edition h q t below = refl

change-answer : (h : History) (q g : ℕ) (b : Bool) (d : Decoded) → change_answer b d ≡ (tell_change h q g b d).answer
change-answer h q g true d = refl
change-answer h q g false (refuse n) = refl
change-answer h q g false (accept a c) = refl

answer-same : (ks : List SignalEncoding) (edition : ℕ) (p : Model) (h : History) (c : Call) (b : Bool) → Same p h → model_answer ks p c b ≡ (tell ks edition h c b).answer
unfolding model_answer tell
answer-same ks edition p h c true s = refl
answer-same ks edition p h (time q t) false s = ap way_answer (way_same p h t s) ∙ time-answer edition h q t (way_of h.times t)
answer-same ks edition p h (change q g v) false s =
    let d : Decoded = decode (get_or ks g Absent) v in
    ap (λ (k : ProbeSkip). change_answer k.on d) (skip-same p h q s) ∙ change-answer h q g (skip_by q h.skips).on d
answer-same ks edition p h finish false s = refl

-- ---- a run

abbrev pub NeverTen : List Reply → Type 0
NeverTen [] = Unit {0}
NeverTen (r ∷ rs) = (r ≡ calls.refuse 10 → ⊥) × NeverTen rs

-- memory stands for a model that goes with the history
pub record Stands (settings : Settings) (ks : List SignalEncoding) (m : Memory) (p : Model) (h : History) : Type 0 where
  pub rep : Rep settings ks m p
  pub same : Same p h
  pub good : valid.Good settings.limit ks p

pub record Follows (settings : Settings) (ks : List SignalEncoding) (r : Ran) (h : Telling) : Type 0 where
  pub model : Model
  pub stands : Stands settings ks r.last model h.last
  pub answers : heard r.replies ≡ h.answers
  pub not-ten : NeverTen r.replies

pub step-stands : (settings : Settings) (ks : List SignalEncoding) (m : Memory) (p : Model) (h : History) (c : Call) → CallFits c → Stands settings ks m p h
    → Stands settings ks (step m c).memory (model_step ks settings p c (is_refusal (step m c).reply)) (tell ks settings.edition h c (is_refusal (step m c).reply)).next
step-stands settings ks m p h c fit s =
    let g = step-good settings ks m p c fit s.rep in
    let b : Bool = is_refusal (step m c).reply in
    record {
      rep = g.rep;
      same = step_same ks settings p h c b (omega (arith, s.rep.low)) g.up g.fine s.same;
      good = valid.step-good settings ks p c b s.rep.low fit g.up g.fine s.same.first s.good;
    }

pub run-follows : (settings : Settings) (ks : List SignalEncoding) (cs : List Call) (m : Memory) (p : Model) (h : History) → Fitting cs → Stands settings ks m p h
    → Follows settings ks (run m cs) (tell_all ks settings.edition h cs (refusals (run m cs).replies))
unfolding run tell_all Fitting
run-follows settings ks [] m p h f s = record { model = p; stands = s; answers = refl; not-ten = tt }
run-follows settings ks (c ∷ cs) m p h f s =
    let g = step-good settings ks m p c f.0 s.rep in
    let b : Bool = is_refusal (step m c).reply in
    let a : heard_of (step m c).reply ≡ (tell ks settings.edition h c b).answer = g.told ∙ answer-same ks settings.edition p h c b s.same in
    let e = run-follows settings ks cs (step m c).memory (model_step ks settings p c b) (tell ks settings.edition h c b).next f.1 (step-stands settings ks m p h c f.0 s) in
    record { model = e.model; stands = e.stands; answers = rw (a, e.answers) refl; not-ten = (g.not-ten, e.not-ten) }

pub start-stands : (settings : Settings) (m : Memory) → StartableIn settings m → Stands settings (kinds_of m.records) (start_of settings m).memory no_model no_history
start-stands settings m s = record { rep = start-rep settings m s; same = start-same; good = valid.start-good settings.limit (kinds_of m.records) }

-- ---- a finish that is accepted

-- finished blocks, the history that they join to, and the bytes of their image
pub record Finished (limit : ℕ) (ks : List SignalEncoding) (blocks : List Chunk) (h : History) (bytes : List ℕ) : Type 0 where
  pub held : joined no_chunk blocks ≡ told h
  pub valid : Valid (image_for limit ks blocks)
  pub bytes-are : image_bytes (image_for limit ks blocks) ≡ bytes

pub image-valid : (settings : Settings) (ks : List SignalEncoding) (m : Memory) (p : Model) → KnownKinds ks
    → BlocksFit settings.limit ks none (image_for settings.limit ks p.blocks).blocks → Rep settings ks m p → Valid (image_for settings.limit ks p.blocks)
image-valid settings ks m p k f r = record {
  low = r.low;
  high = r.high;
  signals = r.few;
  kinds = k;
  total = omega (arith, image-size (image_for settings.limit ks p.blocks), r.image.long, r.image.room, r.small);
  blocks = f;
}

pub finish-leaves : (settings : Settings) (ks : List SignalEncoding) (m : Memory) (p : Model) (h : History) (size : ℕ) → KnownKinds ks → Stands settings ks m p h
    → (step m finish).reply ≡ total size → Finished settings.limit ks (model_step ks settings p finish false).blocks h (take size (step m finish).memory.image)
finish-leaves settings ks m p h size k s e =
    let m' : Memory = (step m finish).memory in
    let q : Model = model_step ks settings p finish false in
    let b : is_refusal (step m finish).reply ≡ false = ap is_refusal e in
    let t = subst (λ (x : Bool). Stands settings ks m' (model_step ks settings p finish x) (tell ks settings.edition h finish x).next) b (step-stands settings ks m p h finish tt s) in
    let u = (step-good settings ks m p finish tt s.rep).sum size e in
    let shut : q.closed ≡ true = sym t.rep.closed ∙ u.1 in
    let n : (tell ks settings.edition h finish false).next ≡ h = unfold tell in refl in
    record {
      held = t.same.shut shut ∙ ap told n;
      valid = image-valid settings ks m' q k (t.good.shut shut) t.rep;
      bytes-are = sym t.rep.image.is ∙ ap (λ (x : ℕ). take x m'.image) (sym u.0);
    }
