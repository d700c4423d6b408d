-- One entry's bytes answered, computed: document 01's bench sheet, and bytes that are no entry.
-- Assumes nothing.
use Prim.Native.Nat.{ℕ}
use mathlib.Core.Path.{◌≡◌, refl}
use mathlib.Core.List.{List, [], ◌∷◌, map}
use Rattle.value.specs.Class.{class_of_all, all_symbols}
use Rattle.packed.specs.Packed.{number_of, digits, unpacked}
use Rattle.signal.specs.declared.kind.SignalEncoding.{SignalEncoding}
use Rattle.signal.specs.declared.kind.SignalEncoding.TheVariants.{BitVector, Absent}
use Rattle.loaded.specs.EntryBytes.{entry_of}
use Rattle.loaded.specs.Reader.{event, vector}
use Rattle.entry.specs.Length.{entry_length}
use Rattle.entry_answer.specs.Answer.{EntryAfter, entry_after, refuse, noEntry, shown, is_entry, entry_value_of}

-- a kind, C, an entry's bytes and its answer, in a buffer of four
abbrev Case : Type 0
Case = SignalEncoding × ℕ × List ℕ × EntryAfter

abbrev answers : List Case
answers =
    (BitVector 3, 2, 0x81 ∷ 0x82 ∷ [], entry_after (shown (vector 2 0)) (1 ∷ 8 ∷ 2 ∷ 9 ∷ [])) ∷  -- 1-x
    (BitVector 3, 2, 0x00 ∷ 0x05 ∷ [], entry_after (shown (vector 0 0)) (1 ∷ 0 ∷ 1 ∷ 9 ∷ [])) ∷  -- 101
    (BitVector 3, 2, 0x40 ∷ 0x18 ∷ [], entry_after (shown (vector 1 0)) (1 ∷ 2 ∷ 0 ∷ 9 ∷ [])) ∷  -- 1x0
    (BitVector 2, 1, 0x46 ∷ [], entry_after (shown (vector 1 0)) (1 ∷ 2 ∷ 9 ∷ 9 ∷ [])) ∷  -- 1x
    (BitVector 2, 1, 0x03 ∷ [], entry_after (shown (vector 0 0)) (1 ∷ 1 ∷ 9 ∷ 9 ∷ [])) ∷  -- 11
    (BitVector 4, 1, 0x40 ∷ 0x06 ∷ [], entry_after (shown (vector 1 0)) (0 ∷ 0 ∷ 1 ∷ 2 ∷ [])) ∷  -- 001x
    (BitVector 1, 2, 0x88 ∷ [], entry_after (shown (vector 2 0)) (8 ∷ 9 ∷ 9 ∷ 9 ∷ [])) ∷
    (BitVector 0, 0, [], entry_after (shown (event 0)) (9 ∷ 9 ∷ 9 ∷ 9 ∷ [])) ∷
    (BitVector 5, 0, 0x1f ∷ [], entry_after (refuse 9) (9 ∷ 9 ∷ 9 ∷ 9 ∷ [])) ∷  -- five symbols
    (BitVector 2, 1, 0x40 ∷ 0x06 ∷ [], entry_after noEntry (9 ∷ 9 ∷ 9 ∷ 9 ∷ [])) ∷  -- a byte too many
    (BitVector 2, 1, 0x86 ∷ [], entry_after noEntry (9 ∷ 9 ∷ 9 ∷ 9 ∷ [])) ∷  -- class Nine in Four
    (BitVector 1, 2, 0x89 ∷ [], entry_after noEntry (9 ∷ 9 ∷ 9 ∷ 9 ∷ [])) ∷  -- symbol 9
    (Absent, 2, [], entry_after noEntry (9 ∷ 9 ∷ 9 ∷ 9 ∷ [])) ∷
    []

pub answered : map (λ (c : Case). entry_value_of c.0 c.1 c.2 (9 ∷ 9 ∷ 9 ∷ 9 ∷ [])) answers ≡ map (λ (c : Case). c.3) answers
unfolding entry_value_of is_entry entry_length entry_of class_of_all all_symbols unpacked digits number_of
answered = refl
