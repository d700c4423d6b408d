-- Document 01, 'Bench sheet': the starred cases, in the sheet's order.
-- Assumes nothing.
use Rattle.std.specs.Prelude.{ℕ, Bool, true, false, ◌&&◌, List, [], ◌∷◌, ◌++◌}
use Rattle.std.proofs.Math.Option.{Option, some, none}
use Rattle.lists.specs.Same.{same}
use Rattle.value.specs.Class.{class_of_all}
use Rattle.vcd.specs.Vcd.{vcd_symbols}
use Rattle.packed.specs.Packed.{packed}
use Rattle.signal.specs.Content.{symbols}
use Rattle.signal.specs.declared.kind.SignalEncoding.{SignalEncoding}
use Rattle.signal.specs.declared.kind.SignalEncoding.TheVariants.{BitVector}
use Rattle.stream.specs.Stream.{change_bytes}
use Rattle.image.specs.Block.{les}
use Rattle.loaded.specs.EntryBytes.{entry_bytes}
use Rattle.recording.specs.Calls.{Call, time, finish}
use Rattle.recording.specs.Runs.{image_left}

pub data Case : Type 0 where
  -- a VCD value on a vector says symbols
  says : (width : ℕ) (value symbols : List ℕ) → Case
  -- symbols packed in their own class
  packs : (symbols bytes : List ℕ) → Case
  -- a VCD value on a vector is this entry, in a signal of class C
  enters : (width C : ℕ) (value bytes : List ℕ) → Case
  -- a change of a vector, d after the previous one, as stream bytes
  writes : (width d : ℕ) (symbols bytes : List ℕ) → Case
  -- calls, from a start to a finish, leave an image
  leaves : (limit : ℕ) (kinds : List SignalEncoding) (calls : List Call) (image : List ℕ) → Case

abbrev pub answers : Option (List ℕ) → List ℕ → Bool
answers none s = false
answers (some a) s = same a s

abbrev pub entered_as : (width C : ℕ) → Option (List ℕ) → List ℕ → Bool
entered_as w c none b = false
entered_as w c (some s) b = same (entry_bytes (BitVector w) c (symbols s)) b

unfoldable pub holds : Case → Bool
holds (says w v s) = answers (vcd_symbols w v) s
holds (packs s b) = same (packed (class_of_all s) s) b
holds (enters w c v b) = entered_as w c (vcd_symbols w v) b
holds (writes w d s b) = same (change_bytes (BitVector w) d (symbols s)) b
holds (leaves limit ks cs b) = same (image_left limit ks cs) b

unfoldable pub all_hold : List Case → Bool
all_hold [] = true
all_hold (c ∷ l) = holds c && all_hold l

unfoldable pub starred : List Case
starred =
    -- width 1 "" → 0; "b" → 0; "b1x" → x
    says 1 [] (0 ∷ [])
    ∷ says 1 (98 ∷ []) (0 ∷ [])
    ∷ says 1 (98 ∷ 49 ∷ 120 ∷ []) (2 ∷ [])
    -- width 4 "1x" → 001x, packed 06
    ∷ says 4 (49 ∷ 120 ∷ []) (0 ∷ 0 ∷ 1 ∷ 2 ∷ [])
    ∷ packs (0 ∷ 0 ∷ 1 ∷ 2 ∷ []) (0x06 ∷ [])
    -- width 3 "1-x" → 01 82, Nine entry 81 82; in that signal 101 → 00 05; 1x0 → 40 18
    ∷ says 3 (49 ∷ 45 ∷ 120 ∷ []) (1 ∷ 8 ∷ 2 ∷ [])
    ∷ packs (1 ∷ 8 ∷ 2 ∷ []) (0x01 ∷ 0x82 ∷ [])
    ∷ enters 3 2 (49 ∷ 45 ∷ 120 ∷ []) (0x81 ∷ 0x82 ∷ [])
    ∷ enters 3 2 (49 ∷ 48 ∷ 49 ∷ []) (0x00 ∷ 0x05 ∷ [])
    ∷ enters 3 2 (49 ∷ 120 ∷ 48 ∷ []) (0x40 ∷ 0x18 ∷ [])
    -- width 2, C Four: 1x → 46, 11 → 03
    ∷ enters 2 1 (49 ∷ 120 ∷ []) (0x46 ∷ [])
    ∷ enters 2 1 (49 ∷ 49 ∷ []) (0x03 ∷ [])
    -- width 1, d 8, symbol 1 → 81 01
    ∷ writes 1 8 (1 ∷ []) (0x81 ∷ 0x01 ∷ [])
    -- B 2, times 1 2 3: tables 1 2 and 2 3
    ∷ leaves 2 [] (time 0 1 ∷ time 0 2 ∷ time 0 3 ∷ finish ∷ [])
    (les 4 (0 ∷ 2 ∷ 2 ∷ 72 ∷ []) ++ (les 4 (28 ∷ 2 ∷ 0 ∷ []) ++ (les 8 (1 ∷ 2 ∷ []) ++ (les 4 (28 ∷ 2 ∷ 0 ∷ []) ++ les 8 (2 ∷ 3 ∷ [])))))
    ∷ []
