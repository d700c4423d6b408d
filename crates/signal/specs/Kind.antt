-- Document 01, 'Stream of one signal': the kind of a signal. A vector of width 0 is the event.
-- Assumes nothing.
use Rattle.std.specs.Prelude.{ℕ, zero, suc, Bool, true, false, leb}
use Rattle.signal.specs.declared.kind.SignalEncoding.{SignalEncoding}
use Rattle.signal.specs.declared.kind.SignalEncoding.TheVariants.{BitVector, Real, Absent}

-- the width of a vector, 0 for the others
abbrev pub width_of : SignalEncoding → ℕ
width_of (BitVector w) = w
width_of Real = 0
width_of Absent = 0

abbrev pub absent : SignalEncoding → Bool
absent (BitVector w) = false
absent Real = false
absent Absent = true

-- widths are at most 65,536
abbrev pub known_kind : SignalEncoding → Bool
known_kind (BitVector w) = leb w 65536
known_kind Real = true
known_kind Absent = true

-- the largest top class that a signal of the kind can have: for events and reals it is 0
abbrev pub top_limit : SignalEncoding → ℕ
top_limit (BitVector zero) = 0
top_limit (BitVector (suc w)) = 2
top_limit Real = 0
top_limit Absent = 0
