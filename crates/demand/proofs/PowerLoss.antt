-- A recording without a finish: after a start and any calls the used image bytes load as the history of the calls before the last cut.
-- Assumes nothing.
use Prim.Native.Nat.{◌+◌}
use mathlib.Core.Path.{◌≡◌, refl, sym, ap, ◌∙◌}
use mathlib.Core.Bool.{Bool, true, false}
use mathlib.Core.List.{List, [], ◌∷◌, ◌++◌, append_assoc, append-nil}
use mathlib.Core.Option.{none}
use native.Mathlib.Omega.{arith}
use borrow.Author.Tests.{eq-eqb, ne_eqb}
use lib.ListN.{length, take, length-append}
use lib.Dec.{eqb}
use Rattle.lists.specs.Choice.{pick}
use Rattle.signal.specs.declared.kind.SignalEncoding.{SignalEncoding}
use Rattle.codec.specs.Valid.{KnownKinds, BlocksFit}
use Rattle.recording.specs.declared.Settings.{Settings}
use Rattle.recording.specs.Calls.{Call, CallFits, Fitting, started, is_refusal, refusals}
use Rattle.recording.specs.Memory.{Memory}
use Rattle.recording.specs.Step.{start_of, step, run, kinds_of}
use Rattle.history.specs.History.{History, no_history, tell, tell_all}
use Rattle.model.specs.Model.{Chunk, no_chunk, joined, Model, no_model, model_step, image_of, told}
use Rattle.model.proofs.JoinLaws.{joined-append}
use Rattle.model.proofs.HistoryLaws.{Same}
use Rattle.model.proofs.ValidLaws as valid
use Rattle.follow.proofs.Rep.{Rep}
use Rattle.follow.proofs.Growth.{Grown, kept, ended, step-grown}
use Rattle.follow.proofs.Start.{start-taken, known-kinds}
use Rattle.follow.proofs.Whole.{Stands, step-stands, start-stands, Finished, image-valid}
use Rattle.demand.specs.Demand3.{ran_from, history_of, LoadsAs, calls_in, PowerLoss}
use Rattle.demand.proofs.LoadsLaws.{told-loads, finished-told}

-- what is finished by a cut is all that was recorded
cut-held : (p : Model) (h : History) → Same p h → joined no_chunk (p.blocks ++ p.now ∷ []) ≡ told h
unfolding joined
cut-held p h s = joined-append no_chunk p.blocks (p.now ∷ []) ∙ s.held

module _ (settings : Settings) (ks : List SignalEncoding) (m₀ : Memory) where
  -- the history of a list of calls from the start on
  abbrev since : List Call → History
  since l = (tell_all ks settings.edition no_history l (refusals (run m₀ l).replies)).last

  -- after the calls `done` the finished blocks are the history of `held`, and h is all that was recorded
  record Held (m : Memory) (p : Model) (h : History) (held done : List Call) : Type 0 where
    stands : Stands settings ks m p h
    joins : joined no_chunk p.blocks ≡ told (since held)
    onward : (cs : List Call) → since (done ++ cs) ≡ (tell_all ks settings.edition h cs (refusals (run m cs).replies)).last

  all_done : (m : Memory) (p : Model) (h : History) (held done : List Call) → Held m p h held done → since done ≡ h
  unfolding run tell_all
  all_done m p h held done w = ap since (sym (append-nil done)) ∙ w.onward []

  -- a call that cuts makes all calls before it the finished ones
  joins-next : (n m : Memory) (p : Model) (bs : List Chunk) (h : History) (held done : List Call) → Held m p h held done → n.state.blocks ≡ length bs → Grown p bs
      → joined no_chunk bs ≡ told (since (pick (eqb n.state.blocks m.state.blocks) held done))
  joins-next n m p bs h held done w b (kept e) =
      let same : n.state.blocks ≡ m.state.blocks = b ∙ ap (λ (l : List Chunk). length l) e ∙ sym w.stands.rep.image.count in
      ap (joined no_chunk) e ∙ w.joins ∙ ap (λ (t : Bool). told (since (pick t held done))) (sym (eq-eqb n.state.blocks m.state.blocks same))
  joins-next n m p bs h held done w b (ended e) =
      let more : length bs ≡ length p.blocks + 1 = ap (λ (l : List Chunk). length l) e ∙ length-append p.blocks (p.now ∷ []) in
      let other : n.state.blocks ≡ m.state.blocks → ⊥ = λ q. omega (arith, b, more, w.stands.rep.image.count) in
      ap (joined no_chunk) e ∙ cut-held p h w.stands.same ∙ ap told (sym (all_done m p h held done w))
      ∙ ap (λ (t : Bool). told (since (pick t held done))) (sym (ne_eqb n.state.blocks m.state.blocks other))

  held_next : (m : Memory) (p : Model) (h : History) (held done : List Call) (c : Call) → CallFits c → Held m p h held done
      → Held (step m c).memory (model_step ks settings p c (is_refusal (step m c).reply)) (tell ks settings.edition h c (is_refusal (step m c).reply)).next
      (pick (eqb (step m c).memory.state.blocks m.state.blocks) held done) (done ++ c ∷ [])
  unfolding run tell_all
  held_next m p h held done c f w =
      let s = step-stands settings ks m p h c f w.stands in
      record {
        stands = s;
        joins = joins-next (step m c).memory m p _ h held done w s.rep.image.count (step-grown ks settings p c (is_refusal (step m c).reply));
        onward = λ cs. ap since (append_assoc done (c ∷ []) cs) ∙ w.onward (c ∷ cs);
      }

  record Ended (cs held : List Call) (m : Memory) : Type 0 where
    model : Model
    rep : Rep settings ks (run m cs).last model
    good : valid.Good settings.limit ks model
    joins : joined no_chunk model.blocks ≡ told (since held)

  run-held : (cs : List Call) (m : Memory) (p : Model) (h : History) (held done : List Call) → Fitting cs → Held m p h held done → Ended cs (calls_in m held done cs) m
  unfolding run Fitting calls_in
  run-held [] m p h held done f w = record { model = p; rep = w.stands.rep; good = w.stands.good; joins = w.joins }
  run-held (c ∷ cs) m p h held done f w =
      let e = run-held cs (step m c).memory _ _ _ _ f.1 (held_next m p h held done c f.0 w) in
      record { model = e.model; rep = e.rep; good = e.good; joins = e.joins }

  -- finished blocks alone are those of a valid image, closed or not
  good-fit : (p : Model) → valid.Good settings.limit ks p → BlocksFit settings.limit ks none (image_of (length ks) [] p.blocks)
  good-fit p g = go p.closed refl
    where
      go : (b : Bool) → p.closed ≡ b → BlocksFit settings.limit ks none (image_of (length ks) [] p.blocks)
      go true e = g.shut e
      go false e = (g.well e).done

  used-finished : (cs held : List Call) → KnownKinds ks → (e : Ended cs held m₀)
      → Finished settings.limit ks e.model.blocks (since held) (take (run m₀ cs).last.state.image (run m₀ cs).last.image)
  used-finished cs held n e = record {
    held = e.joins;
    valid = image-valid settings ks (run m₀ cs).last e.model n (good-fit e.model e.good) e.rep;
    bytes-are = sym e.rep.image.is;
  }

module _ (settings : Settings) (m : Memory) (calls : List Call) (fit : Fitting calls) (start : (start_of settings m).reply ≡ started) where
  begun : Held settings (kinds_of m.records) (start_of settings m).memory (start_of settings m).memory no_model no_history [] []
  unfolding run tell_all joined
  begun = record { stands = start-stands settings m (start-taken settings m start); joins = refl; onward = λ cs. refl }

  used-loads : LoadsAs (kinds_of m.records) (history_of settings m (calls_in (start_of settings m).memory [] [] calls)).last
      (take (ran_from settings m calls).last.state.image (ran_from settings m calls).last.image)
  used-loads =
      let ks : List SignalEncoding = kinds_of m.records in
      let s : Memory = (start_of settings m).memory in
      let held : List Call = calls_in s [] [] calls in
      told-loads ks (history_of settings m held).last (take (ran_from settings m calls).last.state.image (ran_from settings m calls).last.image)
      (finished-told settings.limit ks _ (history_of settings m held).last (take (ran_from settings m calls).last.state.image (ran_from settings m calls).last.image)
      (used-finished settings ks s calls held (known-kinds m.records (start-taken settings m start).known) (run-held settings ks s calls s no_model no_history [] [] fit begun)))

pub power-loss : PowerLoss
power-loss = record { used = used-loads }
