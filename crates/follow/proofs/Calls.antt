-- Every call, whole, on memory that stands for a model: it is refused and the model stays, or it does and answers what the model does.
-- Assumes nothing.
use Prim.Native.Nat.{ℕ, ◌+◌, ◌-◌, ◌≤◌, ◌<◌}
use mathlib.Core.Path.{◌≡◌, refl, sym, ap, ap₂, ◌∙◌, subst}
use mathlib.Core.Bool.{Bool, true, false, ◌||◌, not}
use mathlib.Core.List.{List, [], ◌∷◌}
use native.Mathlib.Omega.{arith}
use borrow.Author.Tests.{eq-eqb, ne_eqb, ltb-false, leb-false, eqb-true, eqb-false}
use lib.ListN.{length, get_or}
use lib.Dec.{ltb, leb, eqb}
use Rattle.lists.specs.Choice.{pick}
use Rattle.lists.proofs.ChoiceLaws.{none-holds}
use Rattle.signal.specs.declared.kind.SignalEncoding.{SignalEncoding}
use Rattle.signal.specs.declared.kind.SignalEncoding.TheVariants.{Absent}
use Rattle.signal.specs.Kind.{absent}
use Rattle.signal.specs.Content.{Given, Decoded, refuse, accept, decode}
use Rattle.signal.proofs.DecodeLaws.{accepted}
use Rattle.recording.specs.declared.Settings.{Settings}
use Rattle.recording.specs.Calls.{Call, time, change, finish, ValueFits, CallFits, recorded, say, total, is_refusal, heard_of, Way, above, equal, below, way_of}
use Rattle.recording.specs.declared.Skips.{Skips}
use Rattle.recording.specs.Calls as calls
use Rattle.recording.specs.Memory.{Memory, After, after, record_at, guarded, refused}
use Rattle.recording.specs.Refusals.{no_probe, open_tests, signal_tests}
use Rattle.recording.specs.State.{skip_begun, skip_same, skip_counted, skip_of, on_skip, with_skips}
use Rattle.recording.specs.Step.{with_state, Cut, noCut, cuts, cut_of, cut_in, time_cut, time_by, time_of}
use Rattle.recording.specs.Step.{same_time, skipping, skipped_one, recorded_in, change_by, change_of, closed_now, closing, finish_cut, finish_of, step}
use Rattle.recording.specs.Step as step
use Rattle.codec.proofs.ImageFits.{top_small}
use Rattle.model.specs.Model.{Model, model, cut, timed, model_time, model_change, close, no_time, model_step}
use Rattle.model.proofs.ValidLaws.{value-given}
use Rattle.follow.specs.Answers.{way_answer, change_answer, model_answer}
use Rattle.follow.proofs.Rep.{Rep, open_bytes, cut-is, rep-cut, rep-timed, bytes_in, rep-recorded}
use Rattle.follow.proofs.OpenLaws.{open_is, room-is, decode-ten}

-- how a call of a recording ended, on memory that stands for the model p
pub record Good (settings : Settings) (ks : List SignalEncoding) (p : Model) (c : Call) (e : After) : Type 0 where
  pub rep : Rep settings ks e.memory (model_step ks settings p c (is_refusal e.reply))
  pub up : is_refusal e.reply ≡ false → p.closed ≡ false
  pub fine : is_refusal e.reply ≡ false → (q g : ℕ) (v : Given) → c ≡ change q g v → 0 < length p.now.times
  pub told : heard_of e.reply ≡ model_answer ks p c (is_refusal e.reply)
  pub not-ten : e.reply ≡ calls.refuse 10 → ⊥
  -- a finish answers the used image bytes, and closes
  pub sum : (n : ℕ) → e.reply ≡ total n → (n ≡ e.memory.state.image) × (e.memory.state.closed ≡ true)

not-both : {X : Type 0} (b : Bool) → b ≡ true → b ≡ false → X
not-both b e f = let z : ◌≡◌ {A = ℕ} 0 1 = cc in absurd (omega arith)

none-yes : (l : List ℕ) → length l ≡ 0 → no_time l ≡ true
none-yes [] h = refl
none-yes (x ∷ l) h = absurd (omega arith)

none-no : (l : List ℕ) → 0 < length l → no_time l ≡ false
none-no [] h = absurd (omega arith)
none-no (x ∷ l) h = refl

module _ (settings : Settings) (ks : List SignalEncoding) where
  refuses : (m : Memory) (p : Model) (c : Call) (n : ℕ) → (n ≡ 10 → ⊥) → Rep settings ks m p → Good settings ks p c (refused m n)
  unfolding model_step model_answer
  refuses m p c n t r = record {
    rep = r;
    up = not-both true refl;
    fine = not-both true refl;
    told = refl;
    not-ten = λ e. let q : n ≡ 10 = cc in t q;
    sum = λ k e. let z : ◌≡◌ {A = ℕ} 0 1 = cc in absurd (omega arith);
  }

  on-pick : (p : Model) (c : Call) (b : Bool) (x y : After)
      → (b ≡ true → Good settings ks p c x) → (b ≡ false → Good settings ks p c y) → Good settings ks p c (pick b x y)
  on-pick p c true x y f g = f refl
  on-pick p c false x y f g = g refl

  opened-good : (m : Memory) (p : Model) (foreign : Bool) (c : Call) (e : After) → Rep settings ks m p → (p.closed ≡ false → Good settings ks p c e)
      → Good settings ks p c (guarded (open_tests m foreign) (refused m) e)
  opened-good m p foreign c e r f =
      subst (Good settings ks p c) (sym (open_is settings ks m p foreign (refused m) e r))
      (on-pick p c m.state.closed _ _ (λ q. refuses m p c 2 (λ t. omega arith) r)
      (λ q. on-pick p c foreign _ _ (λ z. refuses m p c 18 (λ t. omega arith) r) (λ z. f (sym r.closed ∙ q))))

  -- ---- time

  said-time : (p : Model) (w t : ℕ) (way : Way) (m' : Memory) → way_of p.now.times t ≡ way → p.closed ≡ false
      → Rep settings ks m' (model_time settings p w t way) → Good settings ks p (time w t) (after (say (way_answer way)) m')
  unfolding model_step model_answer
  said-time p w t way m' e up r = record {
    rep = subst (λ (x : Way). Rep settings ks m' (model_time settings p w t x)) (sym e) r;
    up = λ z. up;
    fine = λ z i g v q. let n : ◌≡◌ {A = ℕ} 0 1 = cc in absurd (omega arith);
    told = ap way_answer (sym e);
    not-ten = λ q. let n : ◌≡◌ {A = ℕ} 0 1 = cc in omega arith;
    sum = λ k q. let n : ◌≡◌ {A = ℕ} 0 1 = cc in absurd (omega arith);
  }

  time-cut : (m : Memory) (p : Model) (w t : ℕ) (b : Bool) → ltb (length m.image - m.state.image) (length (open_bytes ks p)) ≡ b
      → way_of p.now.times t ≡ above → p.closed ≡ false → m.state.held ≡ settings.limit → Rep settings ks m p
      → Good settings ks p (time w t) (time_cut m w t (pick b (noCut 8) (cuts (open_bytes ks p))))
  unfolding model_time
  time-cut m p w t true q e up h r = refuses m p (time w t) 8 (λ z. omega arith) r
  time-cut m p w t false q e up h r =
      let f = ltb-false (length m.image - m.state.image) (length (open_bytes ks p)) q in
      let room : m.state.image + length (open_bytes ks p) ≤ length m.image = omega (arith, f, r.image.room) in
      let full : eqb (length p.now.times) settings.limit ≡ true = eq-eqb (length p.now.times) settings.limit (sym r.times.long ∙ h) in
      let k = rep-cut settings ks m p (omega (arith, h, r.low)) room r in
      let z = rep-timed settings ks (cut_in m (open_bytes ks p)) (cut p) w t (omega (arith, r.low)) k in
      said-time p w t above (step.timed (cut_in m (open_bytes ks p)) w t) e up
      (subst (λ (x : Bool). Rep settings ks (step.timed (cut_in m (open_bytes ks p)) w t) (timed (pick x (cut p) p) w t)) (sym full) z)

  -- other skips
  rep-skips : (m : Memory) (p : Model) (k l : Skips) → k ≡ l → Rep settings ks m p
      → Rep settings ks (with_state m (with_skips m.state k)) (model p.blocks p.now l p.closed)
  rep-skips m p k l e r = record {
    low = r.low;
    high = r.high;
    early = r.early;
    late = r.late;
    few = r.few;
    known = r.known;
    small = r.small;
    bound = r.bound;
    edition = r.edition;
    signals = r.signals;
    closed = r.closed;
    skips = e;
    times = r.times;
    recs = r.recs;
    work = r.work;
    image = r.image;
    inside = r.inside;
    start = r.start;
  }

  time-good : (m : Memory) (p : Model) (w t : ℕ) (way : Way) → way_of p.now.times t ≡ way → p.closed ≡ false → Rep settings ks m p
      → Good settings ks p (time w t) (time_by m w t way)
  unfolding model_time
  time-good m p w t equal e up r =
      said-time p w t equal (with_state m (same_time m.state w)) e up
      (rep-skips m p _ _ (ap₂ (λ (d : ℕ) (k : Skips). on_skip (skip_same d) k w) r.edition r.skips) r)
  time-good m p w t below e up r =
      said-time p w t below (with_state m (skipping m.state w)) e up (rep-skips m p _ _ (ap (λ (k : Skips). on_skip skip_begun k w) r.skips) r)
  time-good m p w t above e up r =
      on-pick p (time w t) (eqb m.state.held m.state.limit) _ _
      (λ q. subst (λ (x : Cut). Good settings ks p (time w t) (time_cut m w t x)) (sym (cut-is settings ks m p r))
      (time-cut m p w t _ refl e up (eqb-true m.state.held m.state.limit q ∙ r.bound) r))
      (λ q.
      let n = eqb-false m.state.held m.state.limit q in
      let n' : length p.now.times ≡ settings.limit → ⊥ = λ z. n (r.times.long ∙ z ∙ sym r.bound) in
      let h : m.state.held < settings.limit = omega (arith, r.times.inside, r.times.long, n') in
      said-time p w t above (step.timed m w t) e up
      (subst (λ (x : Bool). Rep settings ks (step.timed m w t) (timed (pick x (cut p) p) w t)) (sym (ne_eqb (length p.now.times) settings.limit n')) (rep-timed settings ks m p w t h r)))

  -- ---- change

  said-change : (p : Model) (w g : ℕ) (v : Given) (b : Bool) (d : Decoded) (m' : Memory) → (skip_of p.skips w).on ≡ b → decode (get_or ks g Absent) v ≡ d
      → p.closed ≡ false → 0 < length p.now.times → Rep settings ks m' (model_change p w g b d) → Good settings ks p (change w g v) (after (say (change_answer b d)) m')
  unfolding model_step model_answer
  said-change p w g v b d m' e q up k r = record {
    rep = subst (λ (x : Bool). Rep settings ks m' (model_change p w g x (decode (get_or ks g Absent) v))) (sym e)
        (subst (λ (x : Decoded). Rep settings ks m' (model_change p w g b x)) (sym q) r);
    up = λ z. up;
    fine = λ z h i u y. k;
    told = sym (ap (λ (x : Bool). change_answer x (decode (get_or ks g Absent) v)) e ∙ ap (change_answer b) q);
    not-ten = λ z. let n : ◌≡◌ {A = ℕ} 0 1 = cc in omega arith;
    sum = λ n z. let n : ◌≡◌ {A = ℕ} 0 1 = cc in absurd (omega arith);
  }

  read-good : (m : Memory) (p : Model) (w g : ℕ) (v : Given) (d : Decoded) → decode (get_or ks g Absent) v ≡ d → ValueFits v → p.closed ≡ false
      → absent (get_or ks g Absent) ≡ false → g < length ks → 0 < m.state.held → (skip_of m.state.skips w).on ≡ false → Rep settings ks m p
      → Good settings ks p (change w g v) (change_by m g d)
  read-good m p w g v (refuse n) q fit up x h k s r = refuses m p (change w g v) n (decode-ten (get_or ks g Absent) v n q) r
  read-good m p w g v (accept a c) q fit up x h k s r =
      let y = accepted (get_or ks g Absent) v a c (value-given v fit) q in
      let two : c ≤ 2 = omega (arith, y.limit, top_small (get_or ks g Absent)) in
      let b : List ℕ = bytes_in settings ks m g a in
      subst (Good settings ks p (change w g v)) (sym (room-is settings ks m p g (length b) (refused m) (after (say recorded) (recorded_in m g b c)) h r))
      (on-pick p (change w g v) (ltb (length m.work) (m.state.work + (8 + length b))) _ _ (λ z. refuses m p (change w g v) 7 (λ t. omega arith) r)
      (λ z. said-change p w g v false (accept a c) (recorded_in m g b c) (sym (ap (λ (k : Skips). (skip_of k w).on) r.skips) ∙ s) q up (omega (arith, r.times.long))
      (rep-recorded settings ks m p w g c a h x k y.fits two (ltb-false (length m.work) (m.state.work + (8 + length b)) z) r)))

  change-good : (m : Memory) (p : Model) (w g : ℕ) (v : Given) → ValueFits v → p.closed ≡ false → Rep settings ks m p
      → Good settings ks p (change w g v)
      (pick (eqb m.state.held 0) (refused m 3) (pick (skip_of m.state.skips w).on (after (say calls.skipped) (with_state m (skipped_one m.state w)))
      (guarded (signal_tests m.state (record_at m g) w g) (refused m) (change_by m g (decode (record_at m g).kind v)))))
  unfolding model_change
  change-good m p w g v fit up r =
      on-pick p (change w g v) (eqb m.state.held 0) _ _ (λ q. refuses m p (change w g v) 3 (λ t. omega arith) r)
      (λ q0.
      let n = eqb-false m.state.held 0 q0 in
      let k : 0 < m.state.held = omega (arith, n) in
      on-pick p (change w g v) (skip_of m.state.skips w).on _ _
      (λ s. said-change p w g v true (decode (get_or ks g Absent) v) (with_state m (skipped_one m.state w)) (sym (ap (λ (k : Skips). (skip_of k w).on) r.skips) ∙ s) refl up
      (omega (arith, r.times.long))
      (rep-skips m p _ _ (ap (λ (k : Skips). on_skip skip_counted k w) r.skips) r))
      (λ s. on-pick p (change w g v) (leb m.state.signals g || absent (record_at m g).kind) _ _ (λ q. refuses m p (change w g v) 4 (λ t. omega arith) r)
      (λ q1. on-pick p (change w g v) (not (eqb (record_at m g).probe w)) _ _ (λ q. refuses m p (change w g v) 18 (λ t. omega arith) r)
      (λ q2.
      let o = none-holds (leb m.state.signals g) (absent (record_at m g).kind) q1 in
      let h : g < length ks = omega (arith, leb-false m.state.signals g o.0, r.signals) in
      let kind : (record_at m g).kind ≡ get_or ks g Absent = (r.recs.is g h).kind in
      subst (λ (x : SignalEncoding). Good settings ks p (change w g v) (change_by m g (decode x v))) (sym kind)
      (read-good m p w g v (decode (get_or ks g Absent) v) refl fit up (sym (ap absent kind) ∙ o.1) h k s r)))))

  -- ---- finish

  said-finish : (p : Model) (m' : Memory) (b : Bool) → no_time p.now.times ≡ b → p.closed ≡ false
      → Rep settings ks m' (close (pick b p (cut p))) → m'.state.closed ≡ true → Good settings ks p finish (after (total m'.state.image) m')
  unfolding model_step model_answer
  said-finish p m' b e up r c = record {
    rep = subst (λ (x : Bool). Rep settings ks m' (close (pick x p (cut p)))) (sym e) r;
    up = λ z. up;
    fine = λ z i g v q. let n : ◌≡◌ {A = ℕ} 0 1 = cc in absurd (omega arith);
    told = refl;
    not-ten = λ z. let n : ◌≡◌ {A = ℕ} 0 1 = cc in omega arith;
    sum = λ n z. let q : m'.state.image ≡ n = cc in (sym q, c);
  }

  rep-close : (m : Memory) (p : Model) → Rep settings ks m p → Rep settings ks (with_state m (closed_now m.state)) (close p)
  rep-close m p r = record {
    low = r.low;
    high = r.high;
    early = r.early;
    late = r.late;
    few = r.few;
    known = r.known;
    small = r.small;
    bound = r.bound;
    edition = r.edition;
    signals = r.signals;
    closed = refl;
    skips = r.skips;
    times = r.times;
    recs = r.recs;
    work = r.work;
    image = r.image;
    inside = r.inside;
    start = r.start;
  }

  finish-cut : (m : Memory) (p : Model) (b : Bool) → ltb (length m.image - m.state.image) (length (open_bytes ks p)) ≡ b
      → p.closed ≡ false → 0 < m.state.held → Rep settings ks m p → Good settings ks p finish (finish_cut m (pick b (noCut 8) (cuts (open_bytes ks p))))
  finish-cut m p true q up h r = refuses m p finish 8 (λ z. omega arith) r
  finish-cut m p false q up h r =
      let f = ltb-false (length m.image - m.state.image) (length (open_bytes ks p)) q in
      let room : m.state.image + length (open_bytes ks p) ≤ length m.image = omega (arith, f, r.image.room) in
      let d : Memory = cut_in m (open_bytes ks p) in
      said-finish p (with_state d (closed_now d.state)) false (none-no p.now.times (omega (arith, r.times.long))) up
      (rep-close d (cut p) (rep-cut settings ks m p h room r)) refl

  finish-good : (m : Memory) (p : Model) → p.closed ≡ false → Rep settings ks m p
      → Good settings ks p finish (pick (eqb m.state.held 0) (closing m) (finish_cut m (cut_of m)))
  finish-good m p up r =
      on-pick p finish (eqb m.state.held 0) _ _
      (λ q.
      let h = eqb-true m.state.held 0 q in
      said-finish p (with_state m (closed_now m.state)) true (none-yes p.now.times (sym r.times.long ∙ h)) up (rep-close m p r) refl)
      (λ q.
      let n = eqb-false m.state.held 0 q in
      subst (λ (x : Cut). Good settings ks p finish (finish_cut m x)) (sym (cut-is settings ks m p r)) (finish-cut m p _ refl up (omega (arith, n)) r))

  -- ---- every call

  pub step-good : (m : Memory) (p : Model) (c : Call) → CallFits c → Rep settings ks m p → Good settings ks p c (step m c)
  unfolding step time_of change_of finish_of
  step-good m p (time w t) fit r =
      opened-good m p (no_probe w) (time w t) _ r
      (λ up. subst (λ (x : List ℕ). Good settings ks p (time w t) (time_by m w t (way_of x t))) (sym r.times.is) (time-good m p w t (way_of p.now.times t) refl up r))
  step-good m p (change w g v) fit r = opened-good m p (no_probe w) (change w g v) _ r (λ up. change-good m p w g v fit.2 up r)
  step-good m p finish fit r = opened-good m p false finish _ r (λ up. finish-good m p up r)
