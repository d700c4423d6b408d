-- A start is taken where nothing refuses it, and its memory stands for the empty model.
-- Assumes nothing.
use Prim.Native.Nat.{ℕ, zero, suc, ◌≤◌, ◌<◌}
use mathlib.Core.Path.{◌≡◌, refl, sym, ap, ◌∙◌, subst}
use mathlib.Core.Bool.{true, false, not}
use mathlib.Core.List.{List, [], ◌∷◌}
use native.Mathlib.Omega.{arith}
use native.Mathlib.Decide.{ℕ_discrete}
use borrow.Author.Tests.{not-false}
use lib.ListN.{length, get_or, length-map}
use lib.Seq.{sets, length-sets}
use Rattle.lists.proofs.ChoiceLaws.{none-holds}
use Rattle.signal.specs.declared.kind.SignalEncoding.{SignalEncoding}
use Rattle.signal.specs.declared.kind.SignalEncoding.TheVariants.{Absent}
use Rattle.signal.specs.Kind.{known_kind}
use Rattle.image.specs.Head.{head_size, head_bytes}
use Rattle.codec.specs.Ends.{last_index}
use Rattle.codec.specs.Valid.{KnownKinds}
use Rattle.recording.specs.declared.Settings.{Settings}
use Rattle.recording.specs.declared.SignalRecord.{SignalRecord}
use Rattle.recording.specs.Calls.{refuse, started}
use Rattle.recording.specs.Memory.{Memory, After, first}
use Rattle.recording.specs.Refusals.{no_probe, bad_record, any_bad}
use Rattle.recording.specs.Step.{start_of, kind_in, kinds_of}
use Rattle.recording.proofs.StartLaws.{StartableIn, begun_in, start_fits, asked, start-lawful, start-refused}
use Rattle.history.specs.History.{list_of}
use Rattle.model.specs.Model.{no_model}
use Rattle.model.proofs.ValidLaws.{seen_of}
use Rattle.follow.proofs.RecsRep.{recs-start}
use Rattle.follow.proofs.WorkRep.{work-cut}
use Rattle.follow.proofs.ImageRep.{ImageRep, image-start}
use Rattle.follow.proofs.Rep.{Rep}

-- ---- kinds

known-record : (r : SignalRecord) → bad_record r ≡ false → known_kind r.kind ≡ true
known-record r e = not-false (known_kind r.kind) (none-holds (not (known_kind r.kind)) (no_probe r.probe) e).0

known_at : (rs : List SignalRecord) → any_bad rs ≡ false → (i : ℕ) → i < length (kinds_of rs) → known_kind (get_or (kinds_of rs) i Absent) ≡ true
unfolding any_bad
known_at [] e i h = absurd (omega arith)
known_at (r ∷ rs) e zero h = known-record r (none-holds (bad_record r) (any_bad rs) e).0
known_at (r ∷ rs) e (suc i) h = known_at rs (none-holds (bad_record r) (any_bad rs) e).1 i (omega arith)

pub known-kinds : (rs : List SignalRecord) → any_bad rs ≡ false → KnownKinds (kinds_of rs)
unfolding any_bad
known-kinds [] e = tt
known-kinds (r ∷ rs) e =
    let o = none-holds (bad_record r) (any_bad rs) e in
    (known-record r o.0, known-kinds rs o.1)

-- ---- taken or not

pub start-taken : (settings : Settings) (m : Memory) → (start_of settings m).reply ≡ started → StartableIn settings m
start-taken settings m e = by (ℕ_discrete (first (asked settings m)) 0)
  where
    by : Dec (first (asked settings m) ≡ 0) → StartableIn settings m
    by (yes z) = start-lawful settings m z
    by (no n) =
        let q : refuse (first (asked settings m)) ≡ started = sym (ap (λ (x : After). x.reply) (start-refused settings m n)) ∙ e in
        let z : ◌≡◌ {A = ℕ} 0 1 = cc in absurd (omega arith)

-- ---- the memory that it leaves

begun-rep : (settings : Settings) (m : Memory) → StartableIn settings m → Rep settings (kinds_of m.records) (begun_in settings m).memory no_model
unfolding list_of last_index seen_of
begun-rep settings m s =
    let ks : List SignalEncoding = kinds_of m.records in
    let n : length ks ≡ settings.signals = length-map m.records kind_in ∙ sym s.all in
    let i : ImageRep settings.limit ks (head_size (length ks)) 0 (sets m.image 0 (head_bytes settings.limit 0 (head_size (length ks)) ks)) [] =
    image-start settings.limit ks m.image (subst (λ (k : ℕ). head_size k ≤ length m.image) (sym n) s.room) in
    record {
      low = s.low;
      high = s.high;
      early = s.early;
      late = s.late;
      few = subst (λ (k : ℕ). k ≤ 65536) (sym n) s.few;
      known = known_at m.records s.known;
      small = rw length-sets s.short;
      bound = refl;
      edition = refl;
      signals = sym n;
      closed = refl;
      skips = refl;
      times = record { long = refl; inside = omega arith; room = s.table; is = refl };
      recs = recs-start m.records;
      work = work-cut ks m.work;
      image = subst (λ (k : ℕ). ImageRep settings.limit ks (head_size k) 0 (sets m.image 0 (head_bytes settings.limit 0 (head_size k) ks)) []) n i;
      inside = λ i. omega arith;
      start = λ e. refl;
    }

pub start-rep : (settings : Settings) (m : Memory) → StartableIn settings m → Rep settings (kinds_of m.records) (start_of settings m).memory no_model
start-rep settings m s =
    subst (λ (e : After). Rep settings (kinds_of m.records) e.memory no_model) (sym (start_fits settings m s)) (begun-rep settings m s)
