-- Which memories stand for which models, and what a cut, a taken time and a recorded change do to such a memory.
-- Assumes nothing.
use Prim.Native.Nat.{ℕ, ◌+◌, ◌-◌, ◌≤◌, ◌<◌}
use mathlib.Core.Path.{◌≡◌, refl, sym, ap, ◌∙◌}
use mathlib.Core.Bool.{true, false}
use mathlib.Core.List.{List, [], ◌∷◌, ◌++◌}
use native.Mathlib.Omega.{arith}
use native.Mathlib.Decide.{ℕ_discrete}
use lib.ListN.{length, get_or, length-append}
use lib.Seq.{length-sets}
use lib.Dec.{ltb}
use Rattle.lists.specs.Choice.{pick}
use Rattle.signal.specs.declared.kind.SignalEncoding.{SignalEncoding}
use Rattle.signal.specs.declared.kind.SignalEncoding.TheVariants.{Absent}
use Rattle.signal.specs.Kind.{known_kind, absent}
use Rattle.signal.specs.Content.{Content, accept, ContentFits}
use Rattle.stream.specs.Stream.{change_bytes}
use Rattle.stream.specs.Entries.{entry}
use Rattle.image.specs.Block.{block, block_bytes}
use Rattle.image.specs.Head.{image_limit}
use Rattle.codec.specs.Ends.{last_index}
use Rattle.recording.specs.declared.Settings.{Settings}
use Rattle.recording.specs.Work.{items_of}
use Rattle.recording.specs.Memory.{Memory, record_at}
use Rattle.recording.specs.declared.Skips.{Skips}
use Rattle.recording.specs.State.{skip_ended, on_skip}
use Rattle.recording.specs.Step.{noCut, cuts, cut_block, cut_items, cut_of, cut_in, recorded_in, parts_from}
use Rattle.recording.specs.Step as step
use Rattle.history.specs.History.{list_of}
use Rattle.model.specs.Model.{Model, cut, timed, model_change}
use Rattle.model.proofs.ValidLaws.{seen_of, seen-snoc}
use Rattle.follow.specs.Records.{work_bytes}
use Rattle.follow.specs.Marked.{marked}
use Rattle.follow.proofs.WorkLaws.{items-of}
use Rattle.follow.proofs.ChangeLaws.{list_same, list-other, last_snoc, change-few, most_bytes}
use Rattle.follow.proofs.TimesRep.{TimesRep, times_more, times_cut}
use Rattle.follow.proofs.RecsRep.{RecsRep, recs-change, recs-cut}
use Rattle.follow.proofs.WorkRep.{WorkRep, work-add, work-cut, block-is}
use Rattle.follow.proofs.ImageRep.{ImageRep, chunk_bytes, image-cut}

pub record Rep (settings : Settings) (ks : List SignalEncoding) (m : Memory) (p : Model) : Type 0 where
  pub low : 2 ≤ settings.limit
  pub high : settings.limit ≤ 65535
  pub early : 1 ≤ settings.edition
  pub late : settings.edition ≤ 2
  pub few : length ks ≤ 65536
  pub known : (i : ℕ) → i < length ks → known_kind (get_or ks i Absent) ≡ true
  pub small : length m.image ≤ image_limit
  pub bound : m.state.limit ≡ settings.limit
  pub edition : m.state.edition ≡ settings.edition
  pub signals : m.state.signals ≡ length ks
  pub closed : m.state.closed ≡ p.closed
  pub skips : m.state.skips ≡ p.skips
  pub times : TimesRep settings.limit m.state.held m.times p.now.times
  pub recs : RecsRep ks m.records (seen_of p.blocks) p.now.changes
  pub work : WorkRep ks m.state.work m.work p.now.changes
  pub image : ImageRep settings.limit ks m.state.image m.state.blocks m.image p.blocks
  pub inside : (i : ℕ) → last_index 0 (list_of i p.now.changes) ≤ length p.now.times - 1
  pub start : length p.now.times ≡ 0 → m.state.work ≡ 0

-- the bytes of the open block
abbrev pub open_bytes : List SignalEncoding → Model → List ℕ
open_bytes ks p = chunk_bytes ks p.blocks p.now

module _ (settings : Settings) (ks : List SignalEncoding) where
  -- a cut finds the work in order, and only fullness refuses it
  pub cut-is : (m : Memory) (p : Model) → Rep settings ks m p
      → cut_of m ≡ pick (ltb (length m.image - m.state.image) (length (open_bytes ks p))) (noCut 8) (cuts (open_bytes ks p))
  unfolding cut_of
  cut-is m p r =
      let v = r.work in
      let e = items-of m.state.work (length ks) v.items r.few v.fits (omega (arith, v.long)) in
      let b = block-is ks m.records m.state.work m.work (seen_of p.blocks) p.now r.recs v in
      let z : block_bytes (cut_block m v.items) ≡ open_bytes ks p =
      ap (λ t. block_bytes (block t (parts_from 0 m.records v.items))) r.times.is ∙ ap (λ x. block_bytes (block p.now.times x)) b in
      ap (λ x. cut_items m (items_of m.state.work m.state.signals x)) v.is
      ∙ ap (λ n. cut_items m (items_of m.state.work n (work_bytes v.items))) r.signals
      ∙ ap (cut_items m) e
      ∙ ap (λ x. pick (ltb (length m.image - m.state.image) (length x)) (noCut 8) (cuts x)) z

  pub rep-cut : (m : Memory) (p : Model) → 0 < m.state.held → m.state.image + length (open_bytes ks p) ≤ length m.image → Rep settings ks m p
      → Rep settings ks (cut_in m (open_bytes ks p)) (cut p)
  unfolding cut list_of last_index
  rep-cut m p h f r = record {
    low = r.low;
    high = r.high;
    early = r.early;
    late = r.late;
    few = r.few;
    known = r.known;
    small = rw (length-sets, length-sets) r.small;
    bound = r.bound;
    edition = r.edition;
    signals = r.signals;
    closed = r.closed;
    skips = r.skips;
    times = times_cut settings.limit m.state.held m.times p.now.times h r.times;
    recs = rw (seen-snoc p.blocks p.now) (recs-cut ks m.records (seen_of p.blocks) p.now.changes r.recs);
    work = work-cut ks m.work;
    image = image-cut settings.limit ks m.state.image m.state.blocks m.image p.blocks p.now f r.image;
    inside = λ i. omega arith;
    start = λ e. refl;
  }

  pub rep-timed : (m : Memory) (p : Model) (q t : ℕ) → m.state.held < settings.limit → Rep settings ks m p → Rep settings ks (step.timed m q t) (timed p q t)
  rep-timed m p q t h r = record {
    low = r.low;
    high = r.high;
    early = r.early;
    late = r.late;
    few = r.few;
    known = r.known;
    small = r.small;
    bound = r.bound;
    edition = r.edition;
    signals = r.signals;
    closed = r.closed;
    skips = ap (λ (k : Skips). on_skip skip_ended k q) r.skips;
    times = times_more settings.limit m.state.held t m.times p.now.times h r.times;
    recs = r.recs;
    work = r.work;
    image = r.image;
    inside = λ i. rw length-append (omega (arith, r.inside i));
    start = λ e. absurd (omega (arith, length-append p.now.times (t ∷ [])));
  }

  -- the stream bytes that a change of a signal writes
  abbrev pub bytes_in : Memory → (signal : ℕ) → Content → List ℕ
  bytes_in m g a = change_bytes (record_at m g).kind (m.state.held - 1 - (record_at m g).index) a

  pub bytes-are : (m : Memory) (p : Model) (g : ℕ) (a : Content) → g < length ks → Rep settings ks m p
      → bytes_in m g a ≡ change_bytes (get_or ks g Absent) (length p.now.times - 1 - last_index 0 (list_of g p.now.changes)) a
  bytes-are m p g a h r =
      let e = r.recs.is g h in
      let n : m.state.held - 1 ≡ length p.now.times - 1 = omega (arith, r.times.long) in
      ap (λ k. change_bytes k (m.state.held - 1 - (record_at m g).index) a) e.kind
      ∙ ap (λ i. change_bytes (get_or ks g Absent) (m.state.held - 1 - i) a) e.index
      ∙ ap (λ j. change_bytes (get_or ks g Absent) (j - last_index 0 (list_of g p.now.changes)) a) n

  pub bytes-few : (m : Memory) (p : Model) (g : ℕ) (a : Content) → g < length ks → ContentFits (get_or ks g Absent) a → Rep settings ks m p
      → 8 + length (bytes_in m g a) ≤ most_bytes
  bytes-few m p g a h f r =
      rw (bytes-are m p g a h r) (change-few (get_or ks g Absent) (length p.now.times - 1 - last_index 0 (list_of g p.now.changes)) a (r.known g h) f)

  pub rep-recorded : (m : Memory) (p : Model) (w g c : ℕ) (a : Content) → g < length ks → absent (get_or ks g Absent) ≡ false → 0 < m.state.held
      → ContentFits (get_or ks g Absent) a → c ≤ 2 → m.state.work + (8 + length (bytes_in m g a)) ≤ length m.work → Rep settings ks m p
      → Rep settings ks (recorded_in m g (bytes_in m g a) c) (model_change p w g false (accept a c))
  unfolding model_change
  rep-recorded m p w g c a h x k d two f r =
      let n : m.state.held - 1 ≡ length p.now.times - 1 = omega (arith, r.times.long) in
      let q = bytes-are m p g a h r in
      let l : length (bytes_in m g a) < 4294967296 = omega (arith, bytes-few m p g a h d r) in
      record {
        low = r.low;
        high = r.high;
        early = r.early;
        late = r.late;
        few = r.few;
        known = r.known;
        small = r.small;
        bound = r.bound;
        edition = r.edition;
        signals = r.signals;
        closed = r.closed;
        skips = r.skips;
        times = r.times;
        recs = rw n (recs-change ks m.records (seen_of p.blocks) p.now.changes g (length p.now.times - 1) c a h two r.recs);
        work = work-add ks m.state.work m.work p.now.changes g (length p.now.times - 1) c a (bytes_in m g a) h x l f q r.work;
        image = r.image;
        inside = λ i. go i (ℕ_discrete i g);
        start = λ z. absurd (omega (arith, r.times.long));
      }
    where
      go : (i : ℕ) → Dec (i ≡ g) → last_index 0 (list_of i (p.now.changes ++ marked g (length p.now.times - 1) a c ∷ [])) ≤ length p.now.times - 1
      go i (yes e) =
          let n : ℕ = length p.now.times - 1 in
          rw e (rw (list_same g n c a p.now.changes, last_snoc 0 (list_of g p.now.changes) (entry n a)) (omega arith))
      go i (no n) = rw (list-other g i (length p.now.times - 1) c a p.now.changes (λ e. n (sym e))) (r.inside i)
