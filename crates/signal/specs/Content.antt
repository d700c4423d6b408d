-- Document 01, 'Stream of one signal', 'History' (content) and 'Turned back' (4, 5, 6): what a change call gives, and what it says to a
-- signal of a kind.
-- Assumes nothing.
use Rattle.std.specs.Prelude.{ℕ, zero, suc, ◌<◌, ◌^◌, max, ◌≡◌, true, List, [], length, leb}
use Rattle.std.proofs.Math.Option.{Option, some, none}
use Rattle.lists.specs.Choice.{pick}
use Rattle.value.specs.Class.{class_of_all, all_symbols}
use Rattle.vcd.specs.Vcd.{vcd_symbols}
use Rattle.packed.specs.Raw.{raw_symbols}
use Rattle.signal.specs.declared.kind.SignalEncoding.{SignalEncoding}
use Rattle.signal.specs.declared.kind.SignalEncoding.TheVariants.{BitVector, Real, Absent}

-- content: none for events, a vector's symbols, a real's 64 bits
pub data Content : Type 0 where
  happened : Content
  symbols : List ℕ → Content
  bits : ℕ → Content

abbrev pub symbols_of : Content → List ℕ
symbols_of happened = []
symbols_of (symbols s) = s
symbols_of (bits b) = []

abbrev pub real_bits : Content → ℕ
real_bits happened = 0
real_bits (symbols s) = 0
real_bits (bits b) = b

-- what a signal of a kind can hold
abbrev pub ContentFits : SignalEncoding → Content → Type 0
ContentFits (BitVector zero) happened = Unit {0}
ContentFits (BitVector zero) (symbols s) = ⊥
ContentFits (BitVector zero) (bits b) = ⊥
ContentFits (BitVector (suc w)) happened = ⊥
ContentFits (BitVector (suc w)) (symbols s) = (length s ≡ suc w) × (all_symbols s ≡ true)
ContentFits (BitVector (suc w)) (bits b) = ⊥
ContentFits Real happened = ⊥
ContentFits Real (symbols s) = ⊥
ContentFits Real (bits b) = b < 2 ^ 64
ContentFits Absent c = ⊥

-- a VCD value, a raw value with its claim, a real's bits
pub data Given : Type 0 where
  vcd : List ℕ → Given
  raw : (claim : ℕ) → List ℕ → Given
  real : ℕ → Given

-- what a caller can give
abbrev pub GivenFits : Given → Type 0
GivenFits (vcd v) = Unit {0}
GivenFits (raw c v) = Unit {0}
GivenFits (real b) = b < 2 ^ 64

-- a refusal's number; or a content, with a class: the top class is at least that afterwards
pub data Decoded : Type 0 where
  refuse : ℕ → Decoded
  accept : Content → (class : ℕ) → Decoded

abbrev pub content_of : Decoded → Content
content_of (refuse n) = happened
content_of (accept c t) = c

-- a bad value is 6; else the value's class, or the claim of a raw value if that is larger
abbrev pub vector_says : Option (List ℕ) → (claim : ℕ) → Decoded
vector_says none c = refuse 6
vector_says (some s) c = accept (symbols s) (max (class_of_all s) c)

-- an event's VCD value has at most one byte, not looked at; a longer one is bad
abbrev pub event_says : List ℕ → Decoded
event_says v = pick (leb (length v) 1) (accept happened 0) (refuse 6)

-- what was given says to a kind. 4: absent. 5: VCD on reals, raw on anything but width 1 and more, a real on vectors or events. 6: a bad value
unfoldable pub decode : SignalEncoding → Given → Decoded
decode (BitVector zero) (vcd v) = event_says v
decode (BitVector (suc w)) (vcd v) = vector_says (vcd_symbols (suc w) v) 0
decode Real (vcd v) = refuse 5
decode Absent (vcd v) = refuse 4
decode (BitVector zero) (raw c v) = refuse 5
decode (BitVector (suc w)) (raw c v) = vector_says (raw_symbols (suc w) c v) c
decode Real (raw c v) = refuse 5
decode Absent (raw c v) = refuse 4
decode (BitVector w) (real b) = refuse 5
decode Real (real b) = accept (bits b) 0
decode Absent (real b) = refuse 4
