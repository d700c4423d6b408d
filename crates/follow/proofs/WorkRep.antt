-- Which work buffer stands for which changes of the open block; and the block that a cut makes of it.
-- Assumes nothing.
use Prim.Native.Nat.{ℕ, suc, ◌+◌, ◌-◌, ◌≤◌, ◌<◌}
use mathlib.Core.Path.{◌≡◌, refl, sym, ap, ◌∙◌, subst}
use mathlib.Core.Bool.{Bool, true, false}
use mathlib.Core.List.{List, [], ◌∷◌, ◌++◌, append-nil}
use mathlib.Core.Option.{Option, some}
use native.Mathlib.Nat.{add-zero, add-suc, suc-add, zero-add}
use native.Mathlib.Omega.{arith}
use native.Mathlib.Decide.{ℕ_discrete}
use borrow.Author.Tests.{eq-eqb, ne_eqb}
use lib.ListN.{length, take, get_or, length-append}
use lib.Seq.{sets, length-sets}
use Rattle.value.specs.Class.{class_number}
use Rattle.signal.specs.declared.kind.SignalEncoding.{SignalEncoding}
use Rattle.signal.specs.declared.kind.SignalEncoding.TheVariants.{Absent}
use Rattle.signal.specs.Kind.{absent}
use Rattle.signal.specs.Content.{Content}
use Rattle.stream.specs.Stream.{change_bytes}
use Rattle.stream.specs.Entries.{Entry, entry, stream_bytes}
use Rattle.image.specs.Block.{Part, part}
use Rattle.image.specs.Image.{streamed_part, streamed_parts}
use Rattle.codec.specs.Ends.{last_index}
use Rattle.codec.proofs.Growth.{stream-more}
use Rattle.recording.specs.declared.SignalRecord.{SignalRecord}
use Rattle.recording.specs.Work.{Item, item, item_bytes, gather}
use Rattle.recording.specs.Step.{part_from, parts_from}
use Rattle.history.specs.History.{Change, list_of, top_of}
use Rattle.model.specs.Model.{Chunk, tab, part_with, stored_of}
use Rattle.follow.specs.Records.{work_bytes, Fits}
use Rattle.follow.specs.Marked.{marked}
use Rattle.follow.proofs.WorkLaws.{length-item, fits-append, work-append, work-one, gather_append, take-sets}
use Rattle.follow.proofs.ChangeLaws.{list_same, list-other, change-any}
use Rattle.follow.proofs.RecsRep.{no_record, RecsRep}

-- the buffer's bytes are related to records, and the records to changes; an absent signal has none
pub record WorkRep (ks : List SignalEncoding) (used : ℕ) (work : List ℕ) (cs : List Change) : Type 0 where
  pub items : List Item
  pub long : used ≡ length (work_bytes items)
  pub room : used ≤ length work
  pub is : take used work ≡ work_bytes items
  pub fits : Fits (length ks) items
  pub grouped : (i : ℕ) → i < length ks → gather i items ≡ stream_bytes (get_or ks i Absent) 0 (list_of i cs)
  pub quiet : (i : ℕ) → absent (get_or ks i Absent) ≡ true → list_of i cs ≡ []

pub work-add : (ks : List SignalEncoding) (used : ℕ) (work : List ℕ) (cs : List Change) (g m c : ℕ) (a : Content) (s : List ℕ)
    → g < length ks → absent (get_or ks g Absent) ≡ false → length s < 4294967296 → used + (8 + length s) ≤ length work
    → s ≡ change_bytes (get_or ks g Absent) (m - last_index 0 (list_of g cs)) a → WorkRep ks used work cs
    → WorkRep ks (used + (8 + length s)) (sets work used (item_bytes (item g s))) (cs ++ marked g m a c ∷ [])
unfolding gather
work-add ks used work cs g m c a s h x l f e r =
    let n = length-item (item g s) in
    let b = work-append r.items (item g s ∷ []) in
    let t : take (used + length (item_bytes (item g s))) (sets work used (item_bytes (item g s))) ≡ take used work ++ item_bytes (item g s) =
    take-sets used work (item_bytes (item g s)) (omega arith) in
    record {
      items = r.items ++ item g s ∷ [];
      long = rw (b, work-one (item g s), length-append, n) (omega (arith, r.long));
      room = rw length-sets f;
      is = rw (← n, t, b, work-one (item g s), r.is) refl;
      fits = fits-append (length ks) r.items (item g s ∷ []) r.fits (h, l, tt);
      grouped = λ i j. gather_append i r.items (item g s ∷ []) ∙ go i j (ℕ_discrete i g);
      quiet = λ i j. calm i j (ℕ_discrete i g);
    }
  where
    go : (i : ℕ) → i < length ks → Dec (i ≡ g)
        → gather i r.items ++ gather i (item g s ∷ []) ≡ stream_bytes (get_or ks i Absent) 0 (list_of i (cs ++ marked g m a c ∷ []))
    go i j (yes q) =
        rw q (rw (list_same g m c a cs, stream-more (get_or ks g Absent) 0 (list_of g cs) (entry m a), ← e, r.grouped g h, eq-eqb g g refl, append-nil s) refl)
    go i j (no n) = rw (list-other g i m c a cs (λ q. n (sym q)), ne_eqb g i (λ q. n (sym q)), append-nil (gather i r.items)) (r.grouped i j)

    calm : (i : ℕ) → absent (get_or ks i Absent) ≡ true → Dec (i ≡ g) → list_of i (cs ++ marked g m a c ∷ []) ≡ []
    calm i j (yes q) = let y : absent (get_or ks g Absent) ≡ true = rw q at j in let z : ◌≡◌ {A = ℕ} 0 1 = cc in absurd (omega arith)
    calm i j (no n) = list-other g i m c a cs (λ q. n (sym q)) ∙ r.quiet i j

pub work-cut : (ks : List SignalEncoding) (work : List ℕ) → WorkRep ks 0 work []
unfolding work_bytes gather list_of stream_bytes
work-cut ks work = record { items = []; long = refl; room = omega arith; is = refl; fits = tt; grouped = λ i j. refl; quiet = λ i j. refl }

-- ---- the block that a cut writes is the open one

some-part : (t : ℕ) (s : List ℕ) → 0 < length s → part_from t s ≡ some (part t s)
some-part t [] h = absurd (omega arith)
some-part t (x ∷ s) h = refl

part-is : (k : SignalEncoding) (t : ℕ) (l : List Entry) → (absent k ≡ true → l ≡ []) → part_from t (stream_bytes k 0 l) ≡ streamed_part k (part_with t l)
unfolding stream_bytes
part-is k t [] h = refl
part-is k t (e ∷ l) h = go (absent k) refl
  where
    go : (b : Bool) → absent k ≡ b → part_from t (stream_bytes k 0 (e ∷ l)) ≡ some (part t (stream_bytes k 0 (e ∷ l)))
    go true q = let n : length (e ∷ l) ≡ 0 = ap length (h q) in absurd (omega arith)
    go false q =
        unfold stream_bytes in
        some-part t (change_bytes k (e.index - 0) e.content ++ stream_bytes k e.index l)
        (omega (arith, length-append (change_bytes k (e.index - 0) e.content) (stream_bytes k e.index l), change-any k (e.index - 0) e.content q))

parts-tab : (ks : List SignalEncoding) (recs : List SignalRecord) (is : List Item) (g : ℕ) (f : ℕ → Option (Part (List Entry))) → length recs ≡ length ks
    → ((i : ℕ) → i < length ks → part_from (class_number (get_or recs i no_record).top) (gather (g + i) is) ≡ streamed_part (get_or ks i Absent) (f (g + i)))
    → parts_from g recs is ≡ streamed_parts ks (tab g (length ks) f)
unfolding parts_from streamed_parts tab
parts-tab [] [] is g f l h = refl
parts-tab [] (r ∷ recs) is g f l h = absurd (omega arith)
parts-tab (k ∷ ks) [] is g f l h = absurd (omega arith)
parts-tab (k ∷ ks) (r ∷ recs) is g f l h =
    let h0 : part_from (class_number r.top) (gather g is) ≡ streamed_part k (f g) = rw add-zero at (h 0 (omega arith)) in
    let more : (i : ℕ) → i < length ks → part_from (class_number (get_or recs i no_record).top) (gather (suc g + i) is) ≡ streamed_part (get_or ks i Absent) (f (suc g + i)) =
    λ i j. subst (λ (n : ℕ). part_from (class_number (get_or recs i no_record).top) (gather n is) ≡ streamed_part (get_or ks i Absent) (f n))
    (add-suc g i ∙ sym (suc-add g i)) (h (suc i) (omega arith)) in
    rw (h0, parts-tab ks recs is (suc g) f (omega arith) more) refl

pub block-is : (ks : List SignalEncoding) (recs : List SignalRecord) (used : ℕ) (work : List ℕ) (seen : List Change) (b : Chunk) → RecsRep ks recs seen b.changes
    → (r : WorkRep ks used work b.changes)
    → parts_from 0 recs r.items ≡ streamed_parts ks (stored_of (length ks) (seen ++ b.changes) b).parts
block-is ks recs used work seen b q r =
    parts-tab ks recs r.items 0 (λ (g : ℕ). part_with (top_of g (seen ++ b.changes)) (list_of g b.changes)) q.long
    (λ i h. rw (zero-add i, (q.is i h).top, r.grouped i h) (part-is (get_or ks i Absent) (top_of i (seen ++ b.changes)) (list_of i b.changes) (r.quiet i)))
