-- What a call answers on memory that stands for a model, but for fullness (specs/Replies).
-- Assumes nothing.
use Prim.Native.Nat.{ℕ, ◌+◌, ◌-◌, ◌≤◌, ◌<◌}
use mathlib.Core.Path.{◌≡◌, refl, ap, ◌∙◌, subst}
use mathlib.Core.Bool.{Bool, true, false, ◌||◌, not}
use mathlib.Core.List.{List, [], ◌∷◌}
use native.Mathlib.Omega.{arith}
use native.Mathlib.Decide.{dec_lt}
use borrow.Author.Tests.{leb-false, le-leb, eq-eqb, ne_eqb}
use lib.ListN.{length, get_or, take}
use lib.Dec.{ltb, leb, eqb}
use Rattle.lists.specs.Choice.{pick}
use Rattle.lists.proofs.ChoiceLaws.{none-holds, pick-by}
use Rattle.signal.specs.declared.kind.SignalEncoding.{SignalEncoding}
use Rattle.signal.specs.declared.kind.SignalEncoding.TheVariants.{Absent}
use Rattle.signal.specs.Kind.{absent}
use Rattle.signal.specs.Content.{Given, Decoded, accept, decode}
use Rattle.signal.specs.Content as content
use Rattle.recording.specs.declared.Settings.{Settings}
use Rattle.recording.specs.declared.Skips.{Skips}
use Rattle.recording.specs.Calls.{time, change, finish, taken, recorded, skipped, Reply, refuse, say, is_refusal, Way, above, equal, below, way_of}
use Rattle.recording.specs.Memory.{Memory, After, after, record_at, guarded, refused}
use Rattle.recording.specs.Refusals.{no_probe, open_tests}
use Rattle.recording.specs.State.{skip_of}
use Rattle.recording.specs.Step.{with_state, Cut, noCut, cuts, cut_of, timed, time_cut, time_by, time_of, skipped_one, recorded_in, change_by, change_of, closing, finish_cut, finish_of, step}
use Rattle.model.specs.Model.{Model, no_time}
use Rattle.follow.specs.Answers.{way_answer}
use Rattle.follow.specs.Replies.{Roomy, opening, time_reply, value_reply, unknown, change_reply}
use Rattle.follow.proofs.Rep.{Rep, open_bytes, cut-is, bytes_in}
use Rattle.follow.proofs.OpenLaws.{open_is, room-is}

module _ (settings : Settings) (ks : List SignalEncoding) where
  opened : (m : Memory) (p : Model) (foreign : Bool) (e : After) → Rep settings ks m p
      → (guarded (open_tests m foreign) (refused m) e).reply ≡ opening p.closed foreign e.reply
  opened m p foreign e r =
      ap (λ (x : After). x.reply) (open_is settings ks m p foreign (refused m) e r)
      ∙ pick-by (λ (x : After). x.reply) m.state.closed (refused m 2) (pick foreign (refused m 18) e) refl (pick-by (λ (x : After). x.reply) foreign (refused m 18) e refl refl)
      ∙ ap (λ (b : Bool). opening b foreign e.reply) r.closed

  -- what stands behind tests is asked only where it is reached
  behind : (c f : Bool) (x y : Reply) → Roomy (opening c f x) → (Roomy x → x ≡ y) → opening c f x ≡ opening c f y
  behind true f x y h k = refl
  behind false true x y h k = refl
  behind false false x y h k = k h

  passed : (b b' : Bool) (x y : After) (u z : Reply) → b ≡ b' → x.reply ≡ u → Roomy (pick b x y).reply → (b' ≡ false → Roomy y.reply → y.reply ≡ z)
      → (pick b x y).reply ≡ pick b' u z
  passed true true x y u z e q h f = q
  passed true false x y u z e q h f = let n : ◌≡◌ {A = ℕ} 0 1 = cc in absurd (omega arith)
  passed false true x y u z e q h f = let n : ◌≡◌ {A = ℕ} 0 1 = cc in absurd (omega arith)
  passed false false x y u z e q h f = f refl h

  -- ---- time

  cut-reply : (m : Memory) (p : Model) (q t : ℕ) → Rep settings ks m p → Roomy (time_cut m q t (cut_of m)).reply → (time_cut m q t (cut_of m)).reply ≡ say taken
  cut-reply m p q t r h = go (ltb (length m.image - m.state.image) (length (open_bytes ks p))) (cut-is settings ks m p r)
    where
      go : (b : Bool) → cut_of m ≡ pick b (noCut 8) (cuts (open_bytes ks p)) → (time_cut m q t (cut_of m)).reply ≡ say taken
      go true e = absurd (h.1 (ap (λ (c : Cut). (time_cut m q t c).reply) e))
      go false e = ap (λ (c : Cut). (time_cut m q t c).reply) e

  way-reply : (m : Memory) (p : Model) (q t : ℕ) (w : Way) → Rep settings ks m p → Roomy (time_by m q t w).reply → (time_by m q t w).reply ≡ say (way_answer w)
  way-reply m p q t above r h = go (eqb m.state.held m.state.limit) h
    where
      go : (b : Bool) → Roomy (pick b (time_cut m q t (cut_of m)) (after (say taken) (timed m q t))).reply
          → (pick b (time_cut m q t (cut_of m)) (after (say taken) (timed m q t))).reply ≡ say taken
      go true h = cut-reply m p q t r h
      go false h = refl
  way-reply m p q t equal r h = refl
  way-reply m p q t below r h = refl

  pub time-judged : (m : Memory) (p : Model) (q t : ℕ) → Rep settings ks m p → Roomy (step m (time q t)).reply → (step m (time q t)).reply ≡ time_reply p q t
  unfolding step time_of
  time-judged m p q t r h =
      let e = opened m p (no_probe q) (time_by m q t (way_of (take m.state.held m.times) t)) r
      ∙ ap (λ (l : List ℕ). opening p.closed (no_probe q) (time_by m q t (way_of l t)).reply) r.times.is in
      e ∙ behind p.closed (no_probe q) _ _ (subst Roomy e h) (way-reply m p q t (way_of p.now.times t) r)

  -- ---- change

  none-held : (m : Memory) (p : Model) → Rep settings ks m p → eqb m.state.held 0 ≡ no_time p.now.times
  none-held m p r = go p.now.times r.times.long
    where
      go : (l : List ℕ) → m.state.held ≡ length l → eqb m.state.held 0 ≡ no_time l
      go [] e = eq-eqb m.state.held 0 e
      go (x ∷ l) e = ne_eqb m.state.held 0 (λ z. omega (arith, e))

  unknown-is : (m : Memory) (p : Model) (g : ℕ) → Rep settings ks m p → leb m.state.signals g || absent (record_at m g).kind ≡ unknown ks g
  unknown-is m p g r = ap (λ (n : ℕ). leb n g || absent (record_at m g).kind) r.signals ∙ go (dec_lt g (length ks))
    where
      go : Dec (g < length ks) → leb (length ks) g || absent (record_at m g).kind ≡ unknown ks g
      go (yes l) = ap (λ (k : SignalEncoding). leb (length ks) g || absent k) (r.recs.is g l).kind
      go (no n) = let l : length ks ≤ g = omega (arith, n) in rw (le-leb (length ks) g l) refl

  value-reply : (m : Memory) (p : Model) (g : ℕ) (d : Decoded) → g < length ks → Rep settings ks m p → Roomy (change_by m g d).reply → (change_by m g d).reply ≡ value_reply d
  value-reply m p g (content.refuse n) h r k = refl
  value-reply m p g (accept a c) h r k =
      let b : List ℕ = bytes_in settings ks m g a in
      let e = room-is settings ks m p g (length b) (refused m) (after (say recorded) (recorded_in m g b c)) h r in
      ap (λ (x : After). x.reply) e ∙ go (ltb (length m.work) (m.state.work + (8 + length b))) (subst (λ (x : After). Roomy x.reply) e k)
    where
      go : (t : Bool) → Roomy (pick t (refused m 7) (after (say recorded) (recorded_in m g (bytes_in settings ks m g a) c))).reply
          → (pick t (refused m 7) (after (say recorded) (recorded_in m g (bytes_in settings ks m g a) c))).reply ≡ say recorded
      go true k = absurd (k.0 refl)
      go false k = refl

  pub change-judged : (m : Memory) (p : Model) (q g : ℕ) (v : Given) → Rep settings ks m p → Roomy (step m (change q g v)).reply
      → (step m (change q g v)).reply ≡ change_reply ks (record_at m g).probe p q g v
  unfolding step change_of
  change-judged m p q g v r h =
      let e = opened m p (no_probe q) after3 r in
      e ∙ behind p.closed (no_probe q) _ _ (subst Roomy e h) (λ k1.
      passed (eqb m.state.held 0) (no_time p.now.times) (refused m 3) after-skip (refuse 3) reply-skip (none-held m p r) refl k1 (λ z1 k2.
      passed (skip_of m.state.skips q).on (skip_of p.skips q).on (after (say skipped) (with_state m (skipped_one m.state q))) after4 (say skipped) reply4
      (ap (λ (s : Skips). (skip_of s q).on) r.skips) refl k2 (λ z2 k3.
      passed (leb m.state.signals g || absent (record_at m g).kind) (unknown ks g) (refused m 4) after18 (refuse 4) reply18 (unknown-is m p g r) refl k3 (λ z3 k4.
      passed foreign foreign (refused m 18) (change_by m g (decode (record_at m g).kind v)) (refuse 18) (value_reply (decode (get_or ks g Absent) v)) refl refl k4 (λ z4 k5.
      let o = none-holds (leb (length ks) g) (absent (get_or ks g Absent)) z3 in
      let l : g < length ks = leb-false (length ks) g o.0 in
      let e5 = ap (λ (n : SignalEncoding). (change_by m g (decode n v)).reply) (r.recs.is g l).kind in
      e5 ∙ value-reply m p g (decode (get_or ks g Absent) v) l r (subst Roomy e5 k5))))))
    where
      foreign : Bool
      foreign = not (eqb (record_at m g).probe q)

      after18 : After
      after18 = pick foreign (refused m 18) (change_by m g (decode (record_at m g).kind v))

      after4 : After
      after4 = pick (leb m.state.signals g || absent (record_at m g).kind) (refused m 4) after18

      after-skip : After
      after-skip = pick (skip_of m.state.skips q).on (after (say skipped) (with_state m (skipped_one m.state q))) after4

      after3 : After
      after3 = pick (eqb m.state.held 0) (refused m 3) after-skip

      reply18 : Reply
      reply18 = pick foreign (refuse 18) (value_reply (decode (get_or ks g Absent) v))

      reply4 : Reply
      reply4 = pick (unknown ks g) (refuse 4) reply18

      reply-skip : Reply
      reply-skip = pick (skip_of p.skips q).on (say skipped) reply4

  -- ---- finish

  pub finish-judged : (m : Memory) (p : Model) → Rep settings ks m p → Roomy (step m finish).reply → is_refusal (step m finish).reply ≡ p.closed
  unfolding step finish_of
  finish-judged m p r h =
      let e = opened m p false (pick (eqb m.state.held 0) (closing m) (finish_cut m (cut_of m))) r in
      ap is_refusal e ∙ go p.closed (subst Roomy e h)
    where
      cut-ends : Roomy (finish_cut m (cut_of m)).reply → is_refusal (finish_cut m (cut_of m)).reply ≡ false
      cut-ends k = by (ltb (length m.image - m.state.image) (length (open_bytes ks p))) (cut-is settings ks m p r)
        where
          by : (b : Bool) → cut_of m ≡ pick b (noCut 8) (cuts (open_bytes ks p)) → is_refusal (finish_cut m (cut_of m)).reply ≡ false
          by true e = absurd (k.1 (ap (λ (c : Cut). (finish_cut m c).reply) e))
          by false e = ap (λ (c : Cut). is_refusal (finish_cut m c).reply) e

      ends : (b : Bool) → Roomy (pick b (closing m) (finish_cut m (cut_of m))).reply → is_refusal (pick b (closing m) (finish_cut m (cut_of m))).reply ≡ false
      ends true k = refl
      ends false k = cut-ends k

      go : (c : Bool) → Roomy (opening c false (pick (eqb m.state.held 0) (closing m) (finish_cut m (cut_of m))).reply)
          → is_refusal (opening c false (pick (eqb m.state.held 0) (closing m) (finish_cut m (cut_of m))).reply) ≡ c
      go true k = refl
      go false k = ends (eqb m.state.held 0) k
