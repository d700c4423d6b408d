-- Every image of one block that fits, or of none, is left by its rebuilt list of calls and a finish, given room.
-- Assumes nothing.
use Prim.Native.Nat.{ℕ, ◌+◌, ◌*◌, ◌≤◌, ◌<◌}
use mathlib.Core.Path.{◌≡◌, refl, sym, ap, ◌∙◌, subst}
use mathlib.Core.Bool.{Bool, false}
use mathlib.Core.List.{List, [], ◌∷◌, ◌++◌}
use mathlib.Core.Option.{Option, some, none}
use native.Mathlib.Omega.{arith}
use lib.ListN.{length, take}
use lib.Seq.{length-sets}
use Rattle.signal.specs.declared.kind.SignalEncoding.{SignalEncoding}
use Rattle.stream.specs.Entries.{Entry}
use Rattle.image.specs.Block.{Block}
use Rattle.image.specs.Head.{head_size}
use Rattle.image.specs.Image.{image, blocks_bytes, image_bytes}
use Rattle.codec.specs.Valid.{BlockFits}
use Rattle.recording.specs.declared.Settings.{Settings}
use Rattle.recording.specs.Calls.{Call, finish, Fitting, total, is_refusal}
use Rattle.recording.specs.Memory.{Memory, After}
use Rattle.recording.specs.Step.{start_of, step, run, kinds_of}
use Rattle.recording.proofs.StartLaws.{StartableIn, begun_in, start_fits}
use Rattle.model.specs.Model.{Chunk, chunk, Model, no_model, cut, close, no_time, model_step, image_of}
use Rattle.model.proofs.Rebuild.{modelRun, ProperRun, imageCalls, rebuild}
use Rattle.lists.specs.Choice.{pick}
use Rattle.follow.proofs.ChangeLaws.{most_bytes}
use Rattle.follow.proofs.ImageRep.{size_for}
use Rattle.follow.proofs.Rep.{Rep}
use Rattle.follow.proofs.Calls.{step-good}
use Rattle.follow.proofs.Start.{start-rep}
use Rattle.follow.proofs.Growth.{step-grows}
use Rattle.follow.proofs.Accepts.{Own, finish-accepted, run-accepts}
use Rattle.follow.proofs.Probes.{start-probe}

-- a list that the model takes whole, after which a finish leaves the blocks ss
record Rebuilds (settings : Settings) (ks : List SignalEncoding) (cs : List Call) (ss : List (Block (List Entry))) : Type 0 where
  proper : ProperRun settings ks no_model cs
  up : (modelRun settings ks no_model cs).closed ≡ false
  blocks : image_of (length ks) [] (model_step ks settings (modelRun settings ks no_model cs) finish false).blocks ≡ ss

finish-live : (settings : Settings) (ks : List SignalEncoding) (bs : List Chunk) (o : Chunk) (p : Model) → p.blocks ≡ bs → p.now ≡ o → 0 < length o.times
    → (model_step ks settings p finish false).blocks ≡ bs ++ o ∷ []
unfolding model_step cut
finish-live settings ks bs o p e f h = ap (λ (b : Bool). (close (pick b p (cut p))).blocks) (timed p.now.times (subst (λ (c : Chunk). 0 < length c.times) (sym f) h)) ∙ rw (e, f) refl
  where
    timed : (l : List ℕ) → 0 < length l → no_time l ≡ false
    timed [] k = absurd (omega arith)
    timed (x ∷ l) k = refl

abbrev pub blocks_in : Option (Block (List Entry)) → List (Block (List Entry))
blocks_in none = []
blocks_in (some s) = s ∷ []

abbrev pub OneFits : (limit : ℕ) → List SignalEncoding → Option (Block (List Entry)) → Type 0
OneFits limit ks none = Unit {0}
OneFits limit ks (some s) = BlockFits limit ks s

rebuilds : (settings : Settings) (ks : List SignalEncoding) (o : Option (Block (List Entry))) → 0 < settings.limit → OneFits settings.limit ks o
    → Rebuilds settings ks (imageCalls ks o) (blocks_in o)
rebuilds settings ks none pos v = record { proper = tt; up = unfold modelRun in refl; blocks = unfold modelRun model_step image_of in refl }
rebuilds settings ks (some s) pos v =
    let b = rebuild settings ks s pos v in
    let e = b.takes.run in
    record {
      proper = b.takes.proper;
      up = ap (λ (p : Model). p.closed) e;
      blocks = ap (image_of (length ks) []) (finish-live settings ks [] (chunk b.times b.marks) _ (ap (λ (p : Model). p.blocks) e) (ap (λ (p : Model). p.now) e) b.any) ∙ b.image;
    }

-- what the memory after a finish that answers `size` holds
pub record LeftBy (limit : ℕ) (ks : List SignalEncoding) (ss : List (Block (List Entry))) (m : Memory) : Type 0 where
  pub size : ℕ
  pub end : (step m finish).reply ≡ total size
  pub bytes : take size (step m finish).memory.image ≡ image_bytes (image limit ks ss)

module _ (settings : Settings) (ks : List SignalEncoding) (cs : List Call) (ss : List (Block (List Entry))) (b : Rebuilds settings ks cs ss) where
  finish-left : (m : Memory) → Rep settings ks m (modelRun settings ks no_model cs) → head_size (length ks) + length (blocks_bytes ks ss) ≤ length m.image → LeftBy settings.limit ks ss m
  finish-left m r h =
      let q : Model = modelRun settings ks no_model cs in
      let n : size_for ks (model_step ks settings q finish false).blocks ≡ head_size (length ks) + length (blocks_bytes ks ss) =
      ap (λ (x : List (Block (List Entry))). head_size (length ks) + length (blocks_bytes ks x)) b.blocks in
      let f = finish-accepted settings ks m q r b.up (omega (arith, n, h)) in
      let g = step-good settings ks m q finish tt r in
      let c : is_refusal (step m finish).reply ≡ false = ap is_refusal f.1 in
      let r' : Rep settings ks (step m finish).memory (model_step ks settings q finish false) =
      subst (λ (x : Bool). Rep settings ks (step m finish).memory (model_step ks settings q finish x)) c g.rep in
      record {
        size = f.0;
        end = f.1;
        bytes = ap (λ (x : ℕ). take x (step m finish).memory.image) (g.sum f.0 f.1).0 ∙ r'.image.is
            ∙ ap (λ (x : List (Block (List Entry))). image_bytes (image settings.limit ks x)) b.blocks;
      }

  run-left : (m : Memory) → Fitting cs → Own m → Rep settings ks m no_model → m.state.work ≡ 0 → head_size (length ks) + length (blocks_bytes ks ss) ≤ length m.image
      → length cs * most_bytes ≤ length m.work → LeftBy settings.limit ks ss (run m cs).last
  run-left m fit own r z h f =
      let q : Model = modelRun settings ks no_model cs in
      let n : size_for ks (model_step ks settings q finish false).blocks ≡ head_size (length ks) + length (blocks_bytes ks ss) =
      ap (λ (x : List (Block (List Entry))). head_size (length ks) + length (blocks_bytes ks x)) b.blocks in
      let s = step-grows ks settings q finish in
      let a = run-accepts settings ks cs m no_model fit own r b.proper (omega (arith, n, s, h)) (omega (arith, z, f)) in
      finish-left (run m cs).last a.0 (rw a.1 h)

-- from a start that is taken, with the work and image that the list wants
pub left : (settings : Settings) (m : Memory) (o : Option (Block (List Entry))) → StartableIn settings m → Own m → OneFits settings.limit (kinds_of m.records) o
    → Fitting (imageCalls (kinds_of m.records) o)
    → head_size (length (kinds_of m.records)) + length (blocks_bytes (kinds_of m.records) (blocks_in o)) ≤ length m.image
    → length (imageCalls (kinds_of m.records) o) * most_bytes ≤ length m.work
    → LeftBy settings.limit (kinds_of m.records) (blocks_in o) (run (start_of settings m).memory (imageCalls (kinds_of m.records) o)).last
left settings m o s own v fit h f =
    let ks : List SignalEncoding = kinds_of m.records in
    let e : (start_of settings m).memory ≡ (begun_in settings m).memory = ap (λ (x : After). x.memory) (start_fits settings m s) in
    let l : length (start_of settings m).memory.image ≡ length m.image = ap (λ (x : Memory). length x.image) e ∙ simp length-sets in
    let w : length (start_of settings m).memory.work ≡ length m.work = ap (λ (x : Memory). length x.work) e in
    let b = rebuilds settings ks o (omega (arith, s.low)) v in
    run-left settings ks (imageCalls ks o) (blocks_in o) b (start_of settings m).memory fit (λ g. start-probe settings m g ∙ own g) (start-rep settings m s)
    (ap (λ (x : Memory). x.state.work) e) (rw l h) (rw w f)
