-- When a start is taken, by what is lawful in it, and what it leaves.
-- Assumes nothing.
use Prim.Native.Nat.{ℕ, ◌≤◌}
use mathlib.Core.Path.{◌≡◌, refl}
use mathlib.Core.Bool.{Bool, false, not}
use mathlib.Core.List.{map}
use borrow.Author.Tests.{le-ltb, eq-eqb, ltb-false, eqb-true, not-false}
use lib.ListN.{length}
use lib.Seq.{sets}
use lib.Dec.{ltb, eqb}
use Rattle.lists.proofs.ChoiceLaws.{none-holds}
use Rattle.image.specs.Head.{head_size, head_bytes, image_limit}
use Rattle.recording.specs.declared.Settings.{Settings}
use Rattle.recording.specs.Calls.{started}
use Rattle.recording.specs.Memory.{Memory, memory, After, after, Tests, first, refused}
use Rattle.recording.specs.Refusals.{any_bad, start_tests}
use Rattle.recording.specs.State.{start_state}
use Rattle.recording.specs.Step.{fresh, kinds_of, start_of}
use Rattle.recording.proofs.TestsLaws.{none_of, guarded-first}

-- what is lawful in a start, by the numbers of its tests
pub record Startable (settings : Settings) (records : ℕ) (bad : Bool) (times image : ℕ) : Type 0 where
  pub low : 2 ≤ settings.limit
  pub high : settings.limit ≤ 65535
  pub early : 1 ≤ settings.edition
  pub late : settings.edition ≤ 2
  pub table : settings.limit ≤ times
  pub few : settings.signals ≤ 65536
  pub all : settings.signals ≡ records
  pub known : bad ≡ false
  pub room : head_size settings.signals ≤ image
  pub short : image ≤ image_limit

abbrev pub StartableIn : Settings → Memory → Type 0
StartableIn s m = Startable s (length m.records) (any_bad m.records) (length m.times) (length m.image)

-- what a start leaves that no test refuses
abbrev pub begun_in : Settings → Memory → After
begun_in s m =
    after started
    (memory (start_state s) (map fresh m.records) m.times m.work
    (sets m.image 0 (head_bytes s.limit 0 (head_size s.signals) (kinds_of m.records))))

pub start_fits : (settings : Settings) (m : Memory) → StartableIn settings m → start_of settings m ≡ begun_in settings m
unfolding start_of start_tests
start_fits s m f =
    rw (
      le-ltb s.limit 2 f.low,
      le-ltb 65535 s.limit f.high,
      le-ltb s.edition 1 f.early,
      le-ltb 2 s.edition f.late,
      le-ltb (length m.times) s.limit f.table,
      le-ltb 65536 s.signals f.few,
      eq-eqb s.signals (length m.records) f.all,
      f.known,
      le-ltb (length m.image) (head_size s.signals) f.room,
      le-ltb image_limit (length m.image) f.short,
    ) refl

-- where no test refuses it, it is lawful
pub startable : (settings : Settings) (records : ℕ) (bad : Bool) (times image : ℕ)
    → first (start_tests settings records bad times image) ≡ 0 → Startable settings records bad times image
unfolding start_tests
startable settings records bad times image e =
    let f = none_of (start_tests settings records bad times image) tt e in
    let b = none-holds (ltb settings.limit 2) (ltb 65535 settings.limit) f.0 in
    let c = none-holds (ltb settings.edition 1) (ltb 2 settings.edition) f.1.0 in
    let s = none-holds (ltb 65536 settings.signals) (not (eqb settings.signals records)) f.1.1.1.0 in
    let i = none-holds (ltb image (head_size settings.signals)) (ltb image_limit image) f.1.1.1.1.1.0 in
    record {
      low = ltb-false _ _ b.0;
      high = ltb-false _ _ b.1;
      early = ltb-false _ _ c.0;
      late = ltb-false _ _ c.1;
      table = ltb-false _ _ f.1.1.0;
      few = ltb-false _ _ s.0;
      all = eqb-true _ _ (not-false _ s.1);
      known = f.1.1.1.1.0;
      room = ltb-false _ _ i.0;
      short = ltb-false _ _ i.1;
    }

-- ---- on memory

module _ (settings : Settings) (m : Memory) where
  abbrev pub asked : Tests
  asked = start_tests settings (length m.records) (any_bad m.records) (length m.times) (length m.image)

  pub start-lawful : first asked ≡ 0 → StartableIn settings m
  start-lawful z = startable settings (length m.records) (any_bad m.records) (length m.times) (length m.image) z

  pub start-refused : (first asked ≡ 0 → ⊥) → start_of settings m ≡ refused m (first asked)
  unfolding start_of
  start-refused z = guarded-first asked (refused m) (begun_in settings m) z
