-- Images only grow: a call that the model takes adds blocks and takes none away.
-- Assumes nothing.
use Prim.Native.Nat.{ℕ, ◌≤◌}
use mathlib.Core.Path.{◌≡◌, refl, sym, ◌∙◌}
use mathlib.Core.Bool.{Bool, true, false}
use mathlib.Core.List.{List, [], ◌∷◌, ◌++◌, append_assoc, append-nil}
use native.Mathlib.Omega.{arith}
use lib.ListN.{length, get_or}
use lib.Dec.{eqb}
use Rattle.lists.specs.Choice.{pick}
use Rattle.signal.specs.declared.kind.SignalEncoding.{SignalEncoding}
use Rattle.signal.specs.declared.kind.SignalEncoding.TheVariants.{Absent}
use Rattle.signal.specs.Content.{Decoded, refuse, accept, decode}
use Rattle.recording.specs.declared.Settings.{Settings}
use Rattle.recording.specs.State.{skip_of}
use Rattle.recording.specs.Calls.{Call, time, change, finish, Way, above, equal, below, way_of}
use Rattle.model.specs.Model.{Chunk, Model, cut, model_time, model_change, no_time, model_step}
use Rattle.model.proofs.Rebuild.{modelRun}
use Rattle.follow.proofs.ImageRep.{size_for, size-snoc}

size-grows : (ks : List SignalEncoding) (ext bs : List Chunk) → size_for ks bs ≤ size_for ks (bs ++ ext)
size-grows ks [] bs = rw (append-nil bs) (omega arith)
size-grows ks (o ∷ ext) bs =
    let e : bs ++ o ∷ ext ≡ (bs ++ o ∷ []) ++ ext = sym (append_assoc bs (o ∷ []) ext) in
    rw e (omega (arith, size-grows ks ext (bs ++ o ∷ []), size-snoc ks bs o))

-- the finished blocks after a call: as before, or with the open one
pub data Grown (p : Model) (bs : List Chunk) : Type 0 where
  kept : bs ≡ p.blocks → Grown p bs
  ended : bs ≡ p.blocks ++ p.now ∷ [] → Grown p bs

grown-cut : (p : Model) (b : Bool) → Grown p (pick b (cut p) p).blocks
unfolding cut
grown-cut p true = ended refl
grown-cut p false = kept refl

grown-last : (p : Model) (b : Bool) → Grown p (pick b p (cut p)).blocks
unfolding cut
grown-last p true = kept refl
grown-last p false = ended refl

grown-time : (settings : Settings) (p : Model) (q t : ℕ) (way : Way) → Grown p (model_time settings p q t way).blocks
unfolding model_time
grown-time settings p q t above = grown-cut p (eqb (length p.now.times) settings.limit)
grown-time settings p q t equal = kept refl
grown-time settings p q t below = kept refl

grown-change : (p : Model) (q g : ℕ) (b : Bool) (d : Decoded) → Grown p (model_change p q g b d).blocks
unfolding model_change
grown-change p q g true d = kept refl
grown-change p q g false (refuse n) = kept refl
grown-change p q g false (accept a c) = kept refl

pub step-grown : (ks : List SignalEncoding) (settings : Settings) (p : Model) (c : Call) (refused : Bool) → Grown p (model_step ks settings p c refused).blocks
unfolding model_step
step-grown ks settings p c true = kept refl
step-grown ks settings p (time q t) false = grown-time settings p q t (way_of p.now.times t)
step-grown ks settings p (change q g v) false = grown-change p q g (skip_of p.skips q).on (decode (get_or ks g Absent) v)
step-grown ks settings p finish false = grown-last p (no_time p.now.times)

record Longer (bs cs : List Chunk) : Type 0 where
  ext : List Chunk
  is : cs ≡ bs ++ ext

no_longer : (bs : List Chunk) → Longer bs bs
no_longer bs = record { ext = []; is = sym (append-nil bs) }

longer-both : (xs bs cs : List Chunk) → Longer xs bs → Longer bs cs → Longer xs cs
longer-both xs bs cs p q = record { ext = p.ext ++ q.ext; is = q.is ∙ rw p.is (append_assoc xs p.ext q.ext) }

longer-step : (ks : List SignalEncoding) (settings : Settings) (p : Model) (c : Call) → Longer p.blocks (model_step ks settings p c false).blocks
longer-step ks settings p c = go (step-grown ks settings p c false)
  where
    go : Grown p (model_step ks settings p c false).blocks → Longer p.blocks (model_step ks settings p c false).blocks
    go (kept e) = record { ext = []; is = e ∙ sym (append-nil p.blocks) }
    go (ended e) = record { ext = p.now ∷ []; is = e }

longer-run : (ks : List SignalEncoding) (settings : Settings) (cs : List Call) (p : Model) → Longer p.blocks (modelRun settings ks p cs).blocks
unfolding modelRun
longer-run ks settings [] p = no_longer p.blocks
longer-run ks settings (c ∷ cs) p =
    longer-both p.blocks (model_step ks settings p c false).blocks (modelRun settings ks (model_step ks settings p c false) cs).blocks
    (longer-step ks settings p c) (longer-run ks settings cs (model_step ks settings p c false))

pub run-grows : (ks : List SignalEncoding) (settings : Settings) (cs : List Call) (p : Model) → size_for ks p.blocks ≤ size_for ks (modelRun settings ks p cs).blocks
run-grows ks settings cs p = let g = longer-run ks settings cs p in rw g.is (size-grows ks g.ext p.blocks)

pub step-grows : (ks : List SignalEncoding) (settings : Settings) (p : Model) (c : Call) → size_for ks p.blocks ≤ size_for ks (model_step ks settings p c false).blocks
step-grows ks settings p c = let g = longer-step ks settings p c in rw g.is (size-grows ks g.ext p.blocks)
