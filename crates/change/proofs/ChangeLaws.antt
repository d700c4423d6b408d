-- A change of the whole memory is one of its signal's record, the state and the work buffer.
-- Assumes nothing.
use Prim.Native.Nat.{ℕ, ◌-◌}
use mathlib.Core.Path.{◌≡◌, refl, sym}
use lib.ListN.{length}
use lib.Seq.{set-get_or}
use Rattle.signal.specs.Content.{Given, Decoded, refuse, accept, decode}
use Rattle.stream.specs.Stream.{change_bytes}
use Rattle.recording.specs.Memory.{Memory, After, record_at, Tests, guarded, refused}
use Rattle.recording.specs.Refusals.{no_probe, open_tests, early_tests, signal_tests, room_tests}
use Rattle.recording.specs.State.{skip_of}
use Rattle.recording.specs.Step.{change_by, change_of}
use Rattle.change.specs.Found.{Found, found_refused, found_done, found_by, found_of, after_change}
use Rattle.recording.proofs.TestsLaws.{guarded-by}
use Rattle.lists.proofs.ChoiceLaws.{pick-by}

module _ (m : Memory) (g : ℕ) where
  abbrev stays : ℕ → Found
  stays n = found_refused m.state (record_at m g) m.work n

  refused-whole : (n : ℕ) → after_change m g (stays n) ≡ refused m n
  refused-whole n = rw (set-get_or m.records g _) refl

  guarded-whole : (ts : Tests) (e : Found) {e' : After} → after_change m g e ≡ e' → after_change m g (guarded ts stays e) ≡ guarded ts (refused m) e'
  guarded-whole ts e h = guarded-by (after_change m g) ts stays e refused-whole h

  by_whole : (d : Decoded) → after_change m g (found_by m.state (record_at m g) m.work g d) ≡ change_by m g d
  unfolding found_by
  by_whole (refuse n) = refused-whole n
  by_whole (accept a c) =
      let r = record_at m g in
      let b = change_bytes r.kind (m.state.held - 1 - r.index) a in
      guarded-whole (room_tests m.state r (length m.work) (length b)) (found_done m.state r m.work g b c) refl

  pub change-found : (p : ℕ) (v : Given)
      → change_of m p g v ≡ after_change m g (found_of m.state (record_at m g) (length m.records) (length m.times) (length m.image) m.work p g v)
  unfolding change_of found_of
  change-found p v =
      sym
      (guarded-whole (open_tests m (no_probe p)) _
      (guarded-whole (early_tests m.state) _
      (pick-by (after_change m g) (skip_of m.state.skips p).on _ _ (rw (set-get_or m.records g _) refl)
      (guarded-whole (signal_tests m.state (record_at m g) p g) _ (by_whole (decode (record_at m g).kind v))))))
