-- Calls that are not refused: what the model can take is taken, a time and a finish where the image has room, a change where the work has. They
-- are sent by probe 0, which every record names.
-- Assumes nothing.
use Prim.Native.Nat.{ℕ, zero, suc, ◌+◌, ◌-◌, ◌*◌, ◌≤◌, ◌<◌}
use mathlib.Core.Path.{◌≡◌, refl, sym, ap, ◌∙◌, subst}
use mathlib.Core.Bool.{Bool, true, false, ◌||◌, not}
use mathlib.Core.List.{List, [], ◌∷◌, ◌++◌}
use native.Mathlib.Omega.{arith}
use native.Mathlib.Decide.{dec_lt}
use borrow.Author.Tests.{eq-eqb, ne_eqb, le-ltb, lt-leb, eqb-true, eqb-false}
use lib.ListN.{length, take, get_or, get_or-eq_default}
use lib.Seq.{length-sets}
use lib.Dec.{ltb, leb, eqb}
use Rattle.lists.specs.Choice.{pick}
use Rattle.signal.specs.declared.kind.SignalEncoding.{SignalEncoding}
use Rattle.signal.specs.declared.kind.SignalEncoding.TheVariants.{BitVector, Real, Absent}
use Rattle.signal.specs.Kind.{absent}
use Rattle.signal.specs.Content.{Content, Given, vcd, raw, real, accept, decode}
use Rattle.signal.proofs.DecodeLaws.{accepted}
use Rattle.recording.specs.declared.Settings.{Settings}
use Rattle.recording.specs.Calls.{Call, time, change, finish, ValueFits, CallFits, Fitting, recorded, taken, say, total, is_refusal, Way, above, equal, below, way_of}
use Rattle.recording.specs.declared.Skips.{Skips}
use Rattle.recording.specs.Memory.{Memory, After, after, record_at, guarded, refused}
use Rattle.recording.specs.Refusals.{open_tests}
use Rattle.recording.specs.State.{skip_of}
use Rattle.recording.specs.Step.{Cut, cuts, cut_of, time_cut, time_by, time_of, recorded_in, change_by, change_of, closing, finish_cut, finish_of, step, run}
use Rattle.recording.specs.Step as step
use Rattle.model.specs.Model.{Model, cut, model_time, no_time, model_step}
use Rattle.model.proofs.ValidLaws.{value-given}
use Rattle.model.proofs.Rebuild.{Proper, ProperRun, modelRun}
use Rattle.follow.proofs.ChangeLaws.{most_bytes}
use Rattle.follow.proofs.ImageRep.{size_for, size-snoc}
use Rattle.follow.proofs.Rep.{Rep, open_bytes, cut-is, bytes_in, bytes-few}
use Rattle.follow.proofs.OpenLaws.{pick-false, or-false, open_is, room-is}
use Rattle.follow.proofs.Calls.{step-good}
use Rattle.follow.proofs.Growth.{run-grows}
use Rattle.follow.proofs.Probes.{step-probe}

-- every record names probe 0
abbrev pub Own : Memory → Type 0
Own m = (g : ℕ) → (record_at m g).probe ≡ 0

-- how a call that is not refused leaves the lent lengths
pub record Lives (m : Memory) (e : After) : Type 0 where
  pub live : is_refusal e.reply ≡ false
  pub image : length e.memory.image ≡ length m.image
  pub work : length e.memory.work ≡ length m.work
  pub used : e.memory.state.work ≤ m.state.work + most_bytes

-- a signal that takes a value is there
present : (k : SignalEncoding) (v : Given) (a : Content) (c : ℕ) → decode k v ≡ accept a c → absent k ≡ false
unfolding decode
present (BitVector w) v a c e = refl
present Real v a c e = refl
present Absent (vcd v) a c e = let z : ◌≡◌ {A = ℕ} 0 1 = cc in absurd (omega arith)
present Absent (raw d v) a c e = let z : ◌≡◌ {A = ℕ} 0 1 = cc in absurd (omega arith)
present Absent (real b) a c e = let z : ◌≡◌ {A = ℕ} 0 1 = cc in absurd (omega arith)

below-count : (ks : List SignalEncoding) (g : ℕ) → absent (get_or ks g Absent) ≡ false → g < length ks
below-count ks g h = go (dec_lt g (length ks))
  where
    go : Dec (g < length ks) → g < length ks
    go (yes l) = l
    go (no n) =
        let l : length ks ≤ g = omega (arith, n) in
        let e : absent (get_or ks g Absent) ≡ true = ap absent (get_or-eq_default ks Absent l) in
        let z : ◌≡◌ {A = ℕ} 0 1 = cc in absurd (omega arith)

module _ (settings : Settings) (ks : List SignalEncoding) where
  opened-is : (m : Memory) (p : Model) (e : After) → Rep settings ks m p → p.closed ≡ false → guarded (open_tests m false) (refused m) e ≡ e
  opened-is m p e r up = open_is settings ks m p false (refused m) e r ∙ pick-false m.state.closed _ _ (r.closed ∙ up)

  -- the room for a cut, from the size of the image after it
  cut-room : (m : Memory) (p : Model) → Rep settings ks m p → size_for ks (p.blocks ++ p.now ∷ []) ≤ length m.image → cut_of m ≡ cuts (open_bytes ks p)
  cut-room m p r h =
      let s = size-snoc ks p.blocks p.now in
      let q : length (open_bytes ks p) ≤ length m.image - m.state.image = omega (arith, s, r.image.long, h) in
      cut-is settings ks m p r ∙ pick-false (ltb (length m.image - m.state.image) (length (open_bytes ks p))) _ _ (le-ltb (length m.image - m.state.image) (length (open_bytes ks p)) q)

  time-lives : (m : Memory) (p : Model) (t : ℕ) (way : Way) → Rep settings ks m p → size_for ks (model_time settings p 0 t way).blocks ≤ length m.image → Lives m (time_by m 0 t way)
  unfolding model_time
  time-lives m p t equal r h = record { live = refl; image = refl; work = refl; used = omega arith }
  time-lives m p t below r h = record { live = refl; image = refl; work = refl; used = omega arith }
  time-lives m p t above r h = go (eqb (length p.now.times) settings.limit) refl h
    where
      go : (b : Bool) → eqb (length p.now.times) settings.limit ≡ b → size_for ks (pick b (cut p) p).blocks ≤ length m.image
          → Lives m (pick (eqb m.state.held m.state.limit) (time_cut m 0 t (cut_of m)) (after (say taken) (step.timed m 0 t)))
      go true e k =
          let z = eqb-true (length p.now.times) settings.limit e in
          let q : eqb m.state.held m.state.limit ≡ true = eq-eqb m.state.held m.state.limit (r.times.long ∙ z ∙ sym r.bound) in
          let k' : size_for ks (p.blocks ++ p.now ∷ []) ≤ length m.image = unfold cut in k in
          subst (λ (x : Bool). Lives m (pick x (time_cut m 0 t (cut_of m)) (after (say taken) (step.timed m 0 t)))) (sym q)
          (subst (λ (x : Cut). Lives m (time_cut m 0 t x)) (sym (cut-room m p r k'))
          (record { live = refl; image = simp length-sets; work = refl; used = omega arith }))
      go false e k =
          let z = eqb-false (length p.now.times) settings.limit e in
          let z' : m.state.held ≡ m.state.limit → ⊥ = λ x. z (sym r.times.long ∙ x ∙ r.bound) in
          subst (λ (x : Bool). Lives m (pick x (time_cut m 0 t (cut_of m)) (after (say taken) (step.timed m 0 t)))) (sym (ne_eqb m.state.held m.state.limit z'))
          (record { live = refl; image = refl; work = refl; used = omega arith })

  change-is : (m : Memory) (p : Model) (g c : ℕ) (v : Given) (a : Content) → Own m → Rep settings ks m p → p.closed ≡ false
      → p.skips.zero.on ≡ false → 0 < length p.now.times → g < length ks → absent (get_or ks g Absent) ≡ false → decode (get_or ks g Absent) v ≡ accept a c
      → m.state.work + (8 + length (bytes_in settings ks m g a)) ≤ length m.work
      → change_of m 0 g v ≡ after (say recorded) (recorded_in m g (bytes_in settings ks m g a) c)
  unfolding change_of skip_of
  change-is m p g c v a own r up s k h x d f =
      let e = r.recs.is g h in
      let t0 : m.state.held ≡ 0 → ⊥ = λ z. omega (arith, r.times.long) in
      let b : List ℕ = bytes_in settings ks m g a in
      opened-is m p _ r up
      ∙ pick-false (eqb m.state.held 0) _ _ (ne_eqb m.state.held 0 t0)
      ∙ pick-false m.state.skips.zero.on _ _ (ap (λ (k : Skips). k.zero.on) r.skips ∙ s)
      ∙ pick-false (leb m.state.signals g || absent (record_at m g).kind) _ _
      (or-false (leb m.state.signals g) (absent (record_at m g).kind) (lt-leb m.state.signals g (omega (arith, r.signals))) (ap absent e.kind ∙ x))
      ∙ pick-false (not (eqb (record_at m g).probe 0)) _ _ (ap not (eq-eqb (record_at m g).probe 0 (own g)))
      ∙ ap (change_by m g) (ap (λ (n : SignalEncoding). decode n v) e.kind ∙ d)
      ∙ room-is settings ks m p g (length b) (refused m) (after (say recorded) (recorded_in m g b c)) h r
      ∙ pick-false (ltb (length m.work) (m.state.work + (8 + length b))) _ _ (le-ltb (length m.work) (m.state.work + (8 + length b)) f)

  change-lives : (m : Memory) (p : Model) (g : ℕ) (v : Given) → Own m → Rep settings ks m p → p.closed ≡ false → ValueFits v
      → Proper settings ks p (change 0 g v) → m.state.work + most_bytes ≤ length m.work → Lives m (change_of m 0 g v)
  change-lives m p g v own r up fit q f =
      let a : Content = q.3.0 in
      let c : ℕ = q.3.1 in
      let d : decode (get_or ks g Absent) v ≡ accept a c = q.3.2 in
      let x = present (get_or ks g Absent) v a c d in
      let h = below-count ks g x in
      let y = accepted (get_or ks g Absent) v a c (value-given v fit) d in
      let l : 8 + length (bytes_in settings ks m g a) ≤ most_bytes = bytes-few settings ks m p g a h y.fits r in
      subst (Lives m) (sym (change-is m p g c v a own r up q.1 q.2 h x d (omega (arith, l, f))))
      (record { live = refl; image = refl; work = simp length-sets; used = omega (arith, l) })

  finish-closes : (m : Memory) (p : Model) → Rep settings ks m p → size_for ks (pick (no_time p.now.times) p (cut p)).blocks ≤ length m.image
      → (n : ℕ) × ((pick (eqb m.state.held 0) (closing m) (finish_cut m (cut_of m))).reply ≡ total n)
  finish-closes m p r h = go p.now.times refl h
    where
      go : (l : List ℕ) → p.now.times ≡ l → size_for ks (pick (no_time l) p (cut p)).blocks ≤ length m.image
          → (n : ℕ) × ((pick (eqb m.state.held 0) (closing m) (finish_cut m (cut_of m))).reply ≡ total n)
      go [] e k =
          let q : eqb m.state.held 0 ≡ true = eq-eqb m.state.held 0 (r.times.long ∙ ap length e) in
          (m.state.image, ap (λ (x : Bool). (pick x (closing m) (finish_cut m (cut_of m))).reply) q)
      go (y ∷ l) e k =
          let n : m.state.held ≡ 0 → ⊥ = λ z. omega (arith, r.times.long, ap length e) in
          let k' : size_for ks (p.blocks ++ p.now ∷ []) ≤ length m.image = unfold cut in k in (
            m.state.image + length (open_bytes ks p),
            ap (λ (x : Bool). (pick x (closing m) (finish_cut m (cut_of m))).reply) (ne_eqb m.state.held 0 n) ∙ ap (λ (x : Cut). (finish_cut m x).reply) (cut-room m p r k'),
          )

  -- a finish is accepted where the image has room for what it leaves
  pub finish-accepted : (m : Memory) (p : Model) → Rep settings ks m p → p.closed ≡ false → size_for ks (model_step ks settings p finish false).blocks ≤ length m.image
      → (n : ℕ) × ((step m finish).reply ≡ total n)
  unfolding step finish_of model_step
  finish-accepted m p r up h =
      let f = finish-closes m p r h in
      (f.0, ap (λ (x : After). x.reply) (opened-is m p (pick (eqb m.state.held 0) (closing m) (finish_cut m (cut_of m))) r up) ∙ f.1)

  finish-lives : (m : Memory) (p : Model) → Rep settings ks m p → size_for ks (pick (no_time p.now.times) p (cut p)).blocks ≤ length m.image
      → Lives m (pick (eqb m.state.held 0) (closing m) (finish_cut m (cut_of m)))
  finish-lives m p r h = go p.now.times refl h
    where
      go : (l : List ℕ) → p.now.times ≡ l → size_for ks (pick (no_time l) p (cut p)).blocks ≤ length m.image
          → Lives m (pick (eqb m.state.held 0) (closing m) (finish_cut m (cut_of m)))
      go [] e k =
          let q : eqb m.state.held 0 ≡ true = eq-eqb m.state.held 0 (r.times.long ∙ ap length e) in
          subst (λ (x : Bool). Lives m (pick x (closing m) (finish_cut m (cut_of m)))) (sym q)
          (record { live = refl; image = refl; work = refl; used = omega arith })
      go (y ∷ l) e k =
          let n : m.state.held ≡ 0 → ⊥ = λ z. omega (arith, r.times.long, ap length e) in
          let k' : size_for ks (p.blocks ++ p.now ∷ []) ≤ length m.image = unfold cut in k in
          subst (λ (x : Bool). Lives m (pick x (closing m) (finish_cut m (cut_of m)))) (sym (ne_eqb m.state.held 0 n))
          (subst (λ (x : Cut). Lives m (finish_cut m x)) (sym (cut-room m p r k'))
          (record { live = refl; image = simp length-sets; work = refl; used = omega arith }))

  pub step-lives : (m : Memory) (p : Model) (c : Call) → CallFits c → Own m → Rep settings ks m p → p.closed ≡ false → Proper settings ks p c
      → size_for ks (model_step ks settings p c false).blocks ≤ length m.image → m.state.work + most_bytes ≤ length m.work → Lives m (step m c)
  unfolding step model_step time_of finish_of
  step-lives m p (time zero t) fit own r up q h f =
      subst (Lives m) (sym (opened-is m p (time_by m 0 t (way_of (take m.state.held m.times) t)) r up))
      (subst (λ (x : List ℕ). Lives m (time_by m 0 t (way_of x t))) (sym r.times.is) (time-lives m p t (way_of p.now.times t) r h))
  step-lives m p (time (suc w) t) fit own r up q h f = absurd (omega (arith, q))
  step-lives m p (change zero g v) fit own r up q h f = change-lives m p g v own r up fit.2 q f
  step-lives m p (change (suc w) g v) fit own r up q h f = absurd (omega (arith, q.0))
  step-lives m p finish fit own r up q h f = subst (Lives m) (sym (opened-is m p _ r up)) (finish-lives m p r h)

  -- a list that the model can take is taken whole, given room
  pub run-accepts : (cs : List Call) (m : Memory) (p : Model) → Fitting cs → Own m → Rep settings ks m p → ProperRun settings ks p cs
      → size_for ks (modelRun settings ks p cs).blocks ≤ length m.image → m.state.work + length cs * most_bytes ≤ length m.work
      → Rep settings ks (run m cs).last (modelRun settings ks p cs) × (length (run m cs).last.image ≡ length m.image)
  unfolding run modelRun Fitting
  run-accepts [] m p fit own r q h f = (r, refl)
  run-accepts (c ∷ cs) m p fit own r q h f =
      let p' : Model = model_step ks settings p c false in
      let s = run-grows ks settings cs p' in
      let n : suc (length cs) * most_bytes ≡ length cs * most_bytes + most_bytes = omega arith in
      let l = step-lives m p c fit.0 own r q.0 q.1 (omega (arith, s, h)) (omega (arith, n, f)) in
      let r' = subst (λ (b : Bool). Rep settings ks (step m c).memory (model_step ks settings p c b)) l.live (step-good settings ks m p c fit.0 r).rep in
      let ih = run-accepts cs (step m c).memory p' fit.1 (λ g. step-probe m c g ∙ own g) r' q.2 (rw l.image h) (rw l.work (omega (arith, n, f, l.used))) in
      (ih.0, ih.1 ∙ l.image)
