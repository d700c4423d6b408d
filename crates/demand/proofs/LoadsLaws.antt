-- Bytes that tell a history load as it, and what an accepted finish leaves tells the list's; the answers and the skipped counts are that
-- history's too.
-- Assumes nothing.
use Prim.Native.Nat.{ℕ, suc, ◌≤◌, ◌<◌}
use mathlib.Core.Path.{◌≡◌, refl, sym, ap, ◌∙◌, subst}
use mathlib.Core.Bool.{Bool, true, false, ◌||◌}
use mathlib.Core.List.{List, [], ◌∷◌, map, reverse, reverse_aux}
use mathlib.Core.Option.{Option, some, none}
use borrow.Author.Tests.{ltb-true, ltb-false, le-ltb, le-leb, lt-leb}
use lib.ListN.{length, get_or}
use lib.Seq.{sets}
use lib.Dec.{ltb, leb, eqb}
use Rattle.lists.specs.Choice.{pick, is_some}
use Rattle.lists.proofs.ChoiceLaws.{pick-either}
use Rattle.signal.specs.declared.kind.SignalEncoding.{SignalEncoding}
use Rattle.signal.specs.declared.kind.SignalEncoding.TheVariants.{BitVector, Real, Absent}
use Rattle.signal.specs.Kind.{width_of, absent}
use Rattle.stream.specs.Entries.{Entry}
use Rattle.image.specs.Block.{Block}
use Rattle.image.specs.Image.{Image, image, image_bytes}
use Rattle.codec.specs.Valid.{Rising, Valid}
use Rattle.codec.specs.Parse.{parse}
use Rattle.codec.proofs.Trip.{parse-of}
use Rattle.recording.specs.declared.Settings.{Settings}
use Rattle.recording.specs.declared.Skips.{Skips}
use Rattle.recording.specs.Calls.{Call, finish, heard}
use Rattle.recording.specs.Memory.{Memory, After, refused}
use Rattle.recording.specs.Refusals.{open_tests}
use Rattle.recording.specs.Step.{Cut, noCut, cuts, cut_of, closing, finish_cut, finish_of, start_of, step, kinds_of}
use Rattle.recording.proofs.TestsLaws.{guarded-either}
use Rattle.history.specs.History.{History, no_history, list_of, top_of, kept_of, class_of, newest_up_to, shown_at}
use Rattle.loaded.specs.Opener.{kind_at}
use Rattle.loaded.specs.Loading.{table_from, pushed, Load, load, loads, signal_class}
use Rattle.loaded.specs.EntryBytes.{entries_bytes}
use Rattle.loaded.specs.Reader.{unknown_signal, load_in, load_by, load_of, load_after, loaded, index_in, table_in, table_by, table_of, table_after, counted}
use Rattle.loaded.specs.Reader.{last_up_to, entry_at, pointed, cursor_from, cursor_of}
use Rattle.loaded.proofs.CursorLaws.{cursor-known}
use Rattle.loaded.specs.Reader as reader
use Rattle.model.specs.Model.{Chunk, no_chunk, no_model, told}
use Rattle.model.proofs.LoadLaws.{pushed-kept, all_from, view, dropped, all-from, drop-from, table-image, class-kept}
use Rattle.model.proofs.AfterLaws.{table-rises}
use Rattle.follow.proofs.ImageRep.{image_for}
use Rattle.follow.proofs.OpenLaws.{pick-false, or-false}
use Rattle.follow.proofs.Start.{start-taken, known-kinds}
use Rattle.follow.proofs.Whole.{NeverTen, Follows, run-follows, start-stands, Finished, finish-leaves}
use Rattle.demand.specs.Demand3.{Recorded, ran_from, left_by, history_of, kept_bytes, LoadsAs}

-- ---- the calls that read, where the outputs are long enough

table_is : (x : Image) (ts out : List ℕ) → table_from [] x.blocks ≡ ts → length ts ≤ length out
    → table_in x out ≡ table_after (counted (length ts)) (sets out 0 ts)
unfolding table_in
table_is x ts out e h =
    ap (λ (t : List ℕ). pick (ltb (length out) (length t)) (table_after (reader.refuse 9) out) (table_after (counted (length t)) (sets out 0 t))) e
    ∙ pick-false (ltb (length out) (length ts)) _ _ (le-ltb (length out) (length ts) h)

load_is : (x : Image) (g : ℕ) (l : Load) (index bytes : List ℕ) → loads g x.blocks ≡ l → unknown_signal x g ≡ false
    → length l.entries ≤ length index → length (entries_bytes (kind_at x g) (signal_class l) l.entries) ≤ length bytes
    → load_in x g index bytes
    ≡ load_after (loaded (length l.entries) (signal_class l)) (sets index 0 (map index_in l.entries)) (sets bytes 0 (entries_bytes (kind_at x g) (signal_class l) l.entries))
unfolding load_in
load_is x g l index bytes e u h k =
    pick-false (unknown_signal x g) _ _ u
    ∙ ap (λ (y : Load). pick (ltb (length index) (length y.entries) || ltb (length bytes) (length (entries_bytes (kind_at x g) (signal_class y) y.entries)))
    (load_after (reader.refuse 9) index bytes)
    (load_after (loaded (length y.entries) (signal_class y)) (sets index 0 (map index_in y.entries)) (sets bytes 0 (entries_bytes (kind_at x g) (signal_class y) y.entries)))) e
    ∙ pick-false (ltb (length index) (length l.entries) || ltb (length bytes) (length (entries_bytes (kind_at x g) (signal_class l) l.entries))) _ _
    (or-false _ _ (le-ltb (length index) (length l.entries) h) (le-ltb (length bytes) (length (entries_bytes (kind_at x g) (signal_class l) l.entries)) k))

-- the last entry up to t, looked for from the front as from the back: those that the front search has passed stand newest first in `done`
found_back : (ts : List ℕ) (t : ℕ) (done es : List Entry) → last_up_to ts t (newest_up_to ts t done) (length done) es ≡ newest_up_to ts t (reverse_aux es done)
unfolding last_up_to newest_up_to
found_back ts t done [] = refl
found_back ts t done (e ∷ es) =
    ap (λ (p : Option (ℕ × Entry)). last_up_to ts t p (suc (length done)) es) (by (ltb t (get_or ts e.index 0)) refl) ∙ found_back ts t (e ∷ done) es
  where
    here : Option (ℕ × Entry)
    here = some (length done, e)

    by : (b : Bool) → ltb t (get_or ts e.index 0) ≡ b → pick (leb (get_or ts e.index 0) t) here (newest_up_to ts t done) ≡ pick b (newest_up_to ts t done) here
    by true q = rw (lt-leb (get_or ts e.index 0) t (ltb-true t (get_or ts e.index 0) q)) refl
    by false q = rw (le-leb (get_or ts e.index 0) t (ltb-false t (get_or ts e.index 0) q)) refl

found-shown : (ts : List ℕ) (t : ℕ) (es : List Entry) → last_up_to ts t none 0 es ≡ newest_up_to ts t (reverse es)
found-shown ts t es = unfold newest_up_to in found_back ts t [] es

not-absent : (k : SignalEncoding) → (k ≡ Absent → ⊥) → absent k ≡ false
not-absent (BitVector w) h = refl
not-absent Real h = refl
not-absent Absent h = absurd (h refl)

-- ---- the bytes of a valid image, and what its blocks tell

pub record Told (ks : List SignalEncoding) (h : History) (b : List ℕ) : Type 0 where
  pub limit : ℕ
  pub blocks : List (Block (List Entry))
  pub valid : Valid (image limit ks blocks)
  pub bytes : image_bytes (image limit ks blocks) ≡ b
  pub table : table_from [] blocks ≡ h.times
  pub all : (g : ℕ) → g < length ks → all_from g (load [] [] 0) blocks ≡ view g (told h)

module _ (ks : List SignalEncoding) (h : History) (b : List ℕ) (f : Told ks h b) where
  abbrev x : Image
  x = image f.limit ks f.blocks

  pub parsed : parse b ≡ some x
  parsed = ap parse (sym f.bytes) ∙ parse-of x f.valid

  table-loads : (out : List ℕ) → length h.times ≤ length out → table_of b out ≡ table_after (counted (length h.times)) (sets out 0 h.times)
  table-loads out l = ap (λ (o : Option Image). table_by o out) parsed ∙ table_is x h.times out f.table l

  signal-load : (g : ℕ) → g < length ks → loads g f.blocks ≡ load h.times (kept_of h g) (top_of g h.changes)
  unfolding pushed
  signal-load g l =
      drop-from g f.blocks (load [] [] 0) ∙ ap dropped (f.all g l)
      ∙ ap (λ (es : List Entry). load h.times es (top_of g h.changes)) (pushed-kept (list_of g h.changes))

  class-is : (g : ℕ) → signal_class (load h.times (kept_of h g) (top_of g h.changes)) ≡ class_of h g
  class-is g = class-kept (list_of g h.changes) (top_of g h.changes)

  known : (g : ℕ) → g < length ks → (get_or ks g Absent ≡ Absent → ⊥) → unknown_signal x g ≡ false
  known g l a = or-false (leb (length ks) g) (absent (get_or ks g Absent)) (lt-leb (length ks) g l) (not-absent (get_or ks g Absent) a)

  signal-loads : (g : ℕ) (index bytes : List ℕ) → g < length ks → (get_or ks g Absent ≡ Absent → ⊥)
      → length (kept_of h g) ≤ length index → length (kept_bytes ks h g) ≤ length bytes
      → load_of b g index bytes
      ≡ load_after (loaded (length (kept_of h g)) (class_of h g)) (sets index 0 (map index_in (kept_of h g))) (sets bytes 0 (kept_bytes ks h g))
  signal-loads g index bytes l a i j =
      let c = class-is g in
      ap (λ (o : Option Image). load_by o g index bytes) parsed
      ∙ load_is x g (load h.times (kept_of h g) (top_of g h.changes)) index bytes (signal-load g l) (known g l a) i
      (subst (λ (n : ℕ). length (entries_bytes (get_or ks g Absent) n (kept_of h g)) ≤ length bytes) (sym c) j)
      ∙ ap (λ (n : ℕ). load_after (loaded (length (kept_of h g)) n) (sets index 0 (map index_in (kept_of h g))) (sets bytes 0 (entries_bytes (get_or ks g Absent) n (kept_of h g)))) c

  cursor-shows : (g t : ℕ) (out : List ℕ) → g < length ks → (get_or ks g Absent ≡ Absent → ⊥) → width_of (get_or ks g Absent) ≤ length out
      → cursor_of b g t out ≡ pointed h.times (shown_at h g t) out
  cursor-shows g t out l a w =
      ap (λ (o : Option Image). cursor_from o g t out) parsed
      ∙ cursor-known x g t out (known g l a) w ∙ ap (λ (y : Load). pointed y.times (entry_at y t) out) (signal-load g l)
      ∙ ap (λ (o : Option (ℕ × Entry)). pointed h.times o out) (found-shown h.times t (kept_of h g))

  pub told-loads : LoadsAs ks h b
  told-loads = record {
    opens = ap (λ (o : Option Image). is_some o) parsed;
    rising = subst Rising f.table (table-rises f.limit ks f.blocks f.valid.blocks);
    table = table-loads;
    signals = signal-loads;
    cursor = cursor-shows;
  }

-- finished blocks that join to a history tell it
pub finished-told : (limit : ℕ) (ks : List SignalEncoding) (bs : List Chunk) (h : History) (b : List ℕ) → Finished limit ks bs h b → Told ks h b
unfolding list_of top_of
finished-told limit ks bs h b f = record {
  limit = limit;
  blocks = (image_for limit ks bs).blocks;
  valid = f.valid;
  bytes = f.bytes-are;
  table = table-image (length ks) bs ∙ ap (λ (c : Chunk). c.times) f.held;
  all = λ g l. all-from (length ks) g bs no_chunk [] l refl ∙ ap (view g) f.held;
}

-- ---- a finish leaves the skips and their counts

module _ (m : Memory) where
  abbrev Keeps : After → Type 0
  Keeps e = e.memory.state.skips ≡ m.state.skips

  kept-cut : (c : Cut) → Keeps (finish_cut m c)
  kept-cut (noCut n) = refl
  kept-cut (cuts b) = refl

  pub finish-skips : Keeps (step m finish)
  unfolding step finish_of
  finish-skips =
      guarded-either Keeps (open_tests m false) (refused m) (pick (eqb m.state.held 0) (closing m) (finish_cut m (cut_of m))) (λ n. refl)
      (pick-either Keeps (eqb m.state.held 0) (closing m) (finish_cut m (cut_of m)) refl (kept-cut (cut_of m)))

-- ---- a recording

module _ (settings : Settings) (m : Memory) (calls : List Call) (size : ℕ) (r : Recorded settings m calls size) where
  pub follows : Follows settings (kinds_of m.records) (ran_from settings m calls) (history_of settings m calls)
  follows =
      run-follows settings (kinds_of m.records) calls (start_of settings m).memory no_model no_history r.fitting
      (start-stands settings m (start-taken settings m r.start))

  pub recorded-told : Told (kinds_of m.records) (history_of settings m calls).last (left_by settings m calls size)
  recorded-told =
      let e = follows in
      let k = known-kinds m.records (start-taken settings m r.start).known in
      finished-told settings.limit (kinds_of m.records) _ (history_of settings m calls).last (left_by settings m calls size)
      (finish-leaves settings (kinds_of m.records) (ran_from settings m calls).last e.model (history_of settings m calls).last size k e.stands r.end)

  pub recorded-answers : heard (ran_from settings m calls).replies ≡ (history_of settings m calls).answers
  recorded-answers = follows.answers

  pub recorded-skips : (step (ran_from settings m calls).last finish).memory.state.skips ≡ (history_of settings m calls).last.skips
  recorded-skips = let e = follows in finish-skips (ran_from settings m calls).last ∙ e.stands.rep.skips ∙ e.stands.same.skips

  pub recorded-counts : let s = (step (ran_from settings m calls).last finish).memory.state.skips in
      let k = (history_of settings m calls).last.skips in
      (s.zero.count ≡ k.zero.count) × (s.one.count ≡ k.one.count)
  recorded-counts = (ap (λ (k : Skips). k.zero.count) recorded-skips, ap (λ (k : Skips). k.one.count) recorded-skips)

  -- nobody altered memory between the calls, so none is refused by 10
  pub recorded-never-ten : NeverTen (ran_from settings m calls).replies
  recorded-never-ten = follows.not-ten
