-- How the state of a recording crosses as numbers. Every number has a meaning: a flag is off at 0 and on at every other number. A flag
-- that stays as it is keeps its number, so that a refused call hands back the numbers that it got (proofs/StateLaws: state-same); one
-- that is set by the call is 1, so that the next call reads the state after it (state-back).
-- Assumes nothing.
use Rattle.std.specs.Prelude.{ℕ, Bool, not, eqb}
use Rattle.lists.specs.Choice.{pick}
use Rattle.recording.specs.declared.Encoder.{Encoder}
use Rattle.recording.specs.State.{probe_skip, both_skips}
use Rattle.interface_state.specs.declared.StateNumbers.{StateNumbers}

abbrev pub flag_from : ℕ → Bool
flag_from n = not (eqb n 0)

abbrev pub flag_after : (before : ℕ) → Bool → ℕ
flag_after n b = pick b (pick (eqb n 0) 1 n) 0

-- the state that numbers stand for
unfoldable pub state_from : StateNumbers → Encoder
state_from s =
    record {
      closed = flag_from s.closed;
      limit = s.limit;
      signals = s.signals;
      held = s.held;
      work = s.work;
      image = s.image;
      blocks = s.blocks;
      edition = s.edition;
      skips = both_skips (probe_skip (flag_from s.skip) s.skipped) (probe_skip (flag_from s.skip_1) s.skipped_1);
    }

-- the numbers of the state after a call that got numbers s
unfoldable pub state_after : (s : StateNumbers) → Encoder → StateNumbers
state_after s e =
    record {
      closed = flag_after s.closed e.closed;
      limit = e.limit;
      signals = e.signals;
      held = e.held;
      work = e.work;
      image = e.image;
      blocks = e.blocks;
      skip = flag_after s.skip e.skips.zero.on;
      skipped = e.skips.zero.count;
      edition = e.edition;
      skip_1 = flag_after s.skip_1 e.skips.one.on;
      skipped_1 = e.skips.one.count;
    }
