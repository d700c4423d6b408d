-- Numbers that cross as a state: a state that does not change keeps its numbers, and the numbers of any state are read as that state.
-- Assumes nothing.
use Prim.Native.Nat.{ℕ}
use mathlib.Core.Path.{◌≡◌, refl}
use mathlib.Core.Bool.{Bool, true, false}
use lib.Dec.{eqb}
use borrow.Author.Tests.{eqb-true}
use Rattle.recording.specs.declared.Encoder.{Encoder}
use Rattle.interface_state.specs.declared.StateNumbers.{StateNumbers}
use Rattle.interface_state.specs.State.{flag_from, flag_after, state_from, state_after}

-- by whether the number is 0
flag-same-by : (n : ℕ) (t : Bool) → eqb n 0 ≡ t → flag_after n (flag_from n) ≡ n
flag-same-by n true h = rw (eqb-true n 0 h) refl
flag-same-by n false h = rw h refl

pub flag_same : (n : ℕ) → flag_after n (flag_from n) ≡ n
flag_same n = flag-same-by n (eqb n 0) refl

-- a refused call hands back the numbers that it got
pub state-same : (s : StateNumbers) → state_after s (state_from s) ≡ s
unfolding state_from state_after
state-same s = rw (flag_same s.closed, flag_same s.skip, flag_same s.skip_1) refl

-- by whether the number was 0
flag-on-by : (n : ℕ) (t : Bool) → eqb n 0 ≡ t → flag_from (flag_after n true) ≡ true
flag-on-by n true h = rw h refl
flag-on-by n false h = simp h

flag-back : (n : ℕ) (b : Bool) → flag_from (flag_after n b) ≡ b
flag-back n true = flag-on-by n (eqb n 0) refl
flag-back n false = refl

-- what a call hands back is read by the next one as the state after it
pub state-back : (s : StateNumbers) (e : Encoder) → state_from (state_after s e) ≡ e
unfolding state_from state_after
state-back s e = rw (flag-back s.closed e.closed, flag-back s.skip e.skips.zero.on, flag-back s.skip_1 e.skips.one.on) refl
