-- What the code answers of a change in a stream of a block, and whether bytes are such a stream.
-- Assumes nothing.
use Rattle.std.specs.Prelude.{ℕ, ◌-◌, Bool, List, length, drop, Option, Some, None}
use Rattle.lists.specs.Choice.{is_some}
use Rattle.lists.specs.Got.{Got, bad, got}
use Rattle.value.specs.Class.{class_number, class_of}
use Rattle.signal.specs.declared.kind.SignalEncoding.{SignalEncoding}
use Rattle.signal.specs.declared.decode.ChangeValue.{ChangeValue}
use Rattle.signal.specs.declared.decode.ChangeValue.TheVariants as value
use Rattle.stream.specs.Entries.{Entry}
use Rattle.form.specs.Form.{chain}
use Rattle.codec.specs.Walk.{walk_entry, walk_stream}
use Rattle.reading.specs.declared.changes.NextChange.{NextChange}

abbrev pub value_class : ChangeValue → ℕ
value_class value.Event = 0
value_class (value.SingleBit b) = class_of b.0
value_class (value.MultiBit c) = class_number c
value_class (value.Real b) = 0

abbrev pub change_to : (index next : ℕ) → NextChange
change_to i p = record { index = i; next = p }

-- of a list of n bytes: the place after the change is n less the rest
abbrev pub next_of : (n : ℕ) → Got Entry → Option NextChange
next_of n bad = None
next_of n (got e r) = Some (change_to e.index (n - length r))

unfoldable pub entry_at : SignalEncoding → (n top previous : ℕ) → List ℕ → (at : ℕ) → Option NextChange
entry_at k n top previous s at = next_of (length s) ((walk_entry k n top previous).get (drop at s))

unfoldable pub is_stream : SignalEncoding → (n top : ℕ) → List ℕ → Bool
is_stream k n top s = is_some ((walk_stream k n top).read s)

-- what is left of a stream, after a change at the index previous
unfoldable pub is_chain : SignalEncoding → (n top previous : ℕ) → List ℕ → Bool
is_chain k n top previous s = is_some ((chain (walk_entry k n top) (λ e. e.index) previous).read s)
