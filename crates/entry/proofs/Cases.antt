-- A change read and its entry, computed; and which contents repeat others.
-- Assumes nothing.
use mathlib.Core.Path.{◌≡◌, refl}
use mathlib.Core.Bool.{true, false}
use mathlib.Core.List.{[], ◌∷◌, map}
use Rattle.value.specs.Class.{class_of_all}
use Rattle.packed.specs.Packed.{number_of, digits, packed, unpacked}
use Rattle.signal.specs.declared.kind.SignalEncoding.TheVariants.{BitVector}
use Rattle.signal.specs.declared.decode.ChangeValue.TheVariants as value
use Rattle.value.specs.declared.states.States.TheVariants.{Four}
use Rattle.signal.specs.Content.{Content, happened, symbols, bits}
use Rattle.stream.specs.Entries.{repeats}
use Rattle.loaded.specs.EntryBytes.{entry_bytes}
use Rattle.entry.specs.Read.{content_read}

-- d 1, 001x: 05 06, then the next change; the entry in class Nine
pub read_wide : content_read (BitVector 4) (0x55 ∷ 0x05 ∷ 0x06 ∷ 0x04 ∷ 0x01 ∷ []) (value.MultiBit Four) 3 ≡ symbols (0 ∷ 0 ∷ 1 ∷ 2 ∷ [])
unfolding content_read unpacked digits number_of
read_wide = refl

pub in-nine : entry_bytes (BitVector 4) 2 (symbols (0 ∷ 0 ∷ 1 ∷ 2 ∷ [])) ≡ 0x40 ∷ 0x00 ∷ 0x06 ∷ []
unfolding entry_bytes class_of_all packed digits number_of
in-nine = refl

-- the two zeros differ, and so do two NaNs of other bits; events never repeat
pub by_bits : map (λ (p : Content × Content). repeats p.0 p.1)
    ((bits 0, bits 0x8000_0000_0000_0000) ∷ (bits 0x7ff0_0000_0000_0001, bits 0x7ff8_0000_0000_0001) ∷ (bits 0x7ff8_0000_0000_0001, bits 0x7ff8_0000_0000_0001) ∷ (happened, happened) ∷ [])
    ≡ false ∷ false ∷ true ∷ false ∷ []
by_bits = refl
