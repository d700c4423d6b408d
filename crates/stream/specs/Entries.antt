-- Document 01, 'Stream of one signal': what a stream says, as entries, and the stream of a list of them.
-- Assumes nothing.
use Rattle.std.specs.Prelude.{ℕ, ◌-◌, Bool, false, List, [], ◌∷◌, ◌++◌, eqb}
use Rattle.lists.specs.Same.{same}
use Rattle.signal.specs.declared.kind.SignalEncoding.{SignalEncoding}
use Rattle.signal.specs.Content.{Content, happened, symbols, bits}
use Rattle.stream.specs.Stream.{change_bytes}

-- a change of a signal: the index of its time, and its content. In a block the index counts in the block's times, in a history and in a
-- loaded signal in all times
pub record Entry : Type 0 where
  pub index : ℕ
  pub content : Content

abbrev pub entry : ℕ → Content → Entry
entry i c = record { index = i; content = c }

-- d is the index less that of the signal's previous change in this block, or less 0
unfoldable pub stream_bytes : SignalEncoding → (previous : ℕ) → List Entry → List ℕ
stream_bytes k i [] = []
stream_bytes k i (e ∷ l) = change_bytes k (e.index - i) e.content ++ stream_bytes k e.index l

-- the second content repeats the first; an event never does, a real does by its bits
abbrev pub repeats : Content → Content → Bool
repeats happened c = false
repeats (symbols a) happened = false
repeats (symbols a) (symbols b) = same a b
repeats (symbols a) (bits b) = false
repeats (bits a) happened = false
repeats (bits a) (symbols b) = false
repeats (bits a) (bits b) = eqb a b

-- a signal's class is Nine where it has no entry
abbrev pub or_nine : List Entry → ℕ → ℕ
or_nine [] c = 2
or_nine (e ∷ es) c = c
