-- Document 01, 'Symbol and value': the class of a symbol and of a value, and the bits that a symbol takes. In definitions a class is a
-- number: Two is 0, Four is 1, Nine is 2. The enum `States` is read by `class_number`.
-- Assumes nothing.
use Rattle.std.specs.Prelude.{ℕ, zero, suc, max, Bool, true, ◌&&◌, List, [], ◌∷◌, ltb, leb, Option, Some, None}
use Rattle.std.specs.Int.Bits.{bit_or}
use Rattle.lists.specs.Choice.{pick}
use Rattle.value.specs.declared.states.States.{States}
use Rattle.value.specs.declared.states.States.TheVariants.{Two, Four, Nine}

abbrev pub class_number : States → ℕ
class_number Two = 0
class_number Four = 1
class_number Nine = 2

-- the enum of a class's number; a number above 2 is no class and gives Nine
abbrev pub states_of : ℕ → States
states_of zero = Two
states_of (suc zero) = Four
states_of (suc (suc c)) = Nine

-- Two for the symbols 0 and 1, Four for 2 and 3, Nine for 4 to 8
abbrev pub class_of : ℕ → ℕ
class_of s = pick (ltb s 2) 0 (pick (ltb s 4) 1 2)

-- the class of a value is its largest
unfoldable pub class_of_all : List ℕ → ℕ
class_of_all [] = 0
class_of_all (s ∷ l) = max (class_of s) (class_of_all l)

-- bits per symbol: 1, 2, 4
abbrev pub bits_of : ℕ → ℕ
bits_of zero = 1
bits_of (suc zero) = 2
bits_of (suc (suc c)) = 4

-- every one is a symbol
unfoldable pub all_symbols : List ℕ → Bool
all_symbols [] = true
all_symbols (s ∷ l) = leb s 8 && all_symbols l

-- the class of a value, none if a number is above 8
unfoldable pub min_states : List ℕ → Option States
min_states s = pick (all_symbols s) (Some (states_of (class_of_all s))) None

-- ---- how the class is found

-- the class of a number by itself; 3 says that it is no symbol
abbrev pub symbol_class : ℕ → ℕ
symbol_class s = pick (leb s 8) (class_of s) 3

-- the larger as it goes; 3 says that one is no symbol
unfoldable pub largest_class : List ℕ → ℕ
largest_class [] = 0
largest_class (s ∷ l) = max (symbol_class s) (largest_class l)

-- a class so found, as the code answers it; of a value's numbers it is `min_states` (proofs/ClassLaws: least-found)
abbrev pub states_or_none : ℕ → Option States
states_or_none c = pick (leb c 2) (Some (states_of c)) None

-- ---- the Rust's way: the symbol numbers or-ed together, read as 0..1, 2..3, or 4 and more (proofs/OrLaws: class-by-or). Numbers or-ed may be
-- above 8; `class_of` is for symbols, so the reading stands here

unfoldable pub or_all : List ℕ → ℕ
or_all [] = 0
or_all (s ∷ l) = bit_or s (or_all l)

abbrev pub class_of_or : ℕ → ℕ
class_of_or n = pick (leb n 1) 0 (pick (leb n 3) 1 2)
