-- The definitions at single values, computed: IEEE 1364's letters and the crate's, classes, bits, numbers or-ed together.
-- Assumes nothing.
use Prim.Native.Nat.{ℕ}
use mathlib.Core.Path.{◌≡◌, refl}
use mathlib.Core.List.{List, [], ◌∷◌, map}
use Rattle.value.specs.Symbol.{symbol_of, or_number}
use Rattle.value.specs.Class.{class_number, class_of_all, bits_of, min_states, all_symbols, or_all, class_of_or}
use Rattle.value.specs.declared.states.States.TheVariants.{Two, Four, Nine}
use Rattle.std.proofs.Common.{Some, None}

-- 0 1 x z h u w l - X Z H U W L, and what is no symbol: b B q / 2 space and the bytes beside capitals
pub letters : map (λ (b : ℕ). or_number 255 (symbol_of b))
    (48 ∷ 49 ∷ 120 ∷ 122 ∷ 104 ∷ 117 ∷ 119 ∷ 108 ∷ 45 ∷ 88 ∷ 90 ∷ 72 ∷ 85 ∷ 87 ∷ 76 ∷ 98 ∷ 66 ∷ 113 ∷ 47 ∷ 50 ∷ 32 ∷ 13 ∷ 16 ∷ 17 ∷ 77 ∷ 0 ∷ 255 ∷ [])
    ≡ 0 ∷ 1 ∷ 2 ∷ 3 ∷ 4 ∷ 5 ∷ 6 ∷ 7 ∷ 8 ∷ 2 ∷ 3 ∷ 4 ∷ 5 ∷ 6 ∷ 7 ∷ 255 ∷ 255 ∷ 255 ∷ 255 ∷ 255 ∷ 255 ∷ 255 ∷ 255 ∷ 255 ∷ 255 ∷ 255 ∷ 255 ∷ []
unfolding symbol_of
letters = refl

-- a symbol of each class, and values of several
pub classes : map class_of_all ((0 ∷ []) ∷ (1 ∷ []) ∷ (2 ∷ []) ∷ (3 ∷ []) ∷ (4 ∷ []) ∷ (8 ∷ []) ∷ (1 ∷ 8 ∷ 2 ∷ []) ∷ (0 ∷ 3 ∷ 1 ∷ []) ∷ [] ∷ [])
    ≡ 0 ∷ 0 ∷ 1 ∷ 1 ∷ 2 ∷ 2 ∷ 2 ∷ 1 ∷ 0 ∷ []
unfolding class_of_all
classes = refl

abbrev values : List (List ℕ)
values = (1 ∷ 2 ∷ []) ∷ (2 ∷ 8 ∷ []) ∷ (1 ∷ 1 ∷ []) ∷ (0 ∷ 3 ∷ 4 ∷ []) ∷ (0 ∷ 2 ∷ []) ∷ [] ∷ []

-- 1 or x is 3 and Four, x or - is 10 and Nine, 1 or 1 is 1; nothing is Two
pub or-ed : (map or_all values ≡ 3 ∷ 10 ∷ 1 ∷ 7 ∷ 2 ∷ 0 ∷ []) × (map (λ (l : List ℕ). class_of_or (or_all l)) values ≡ 1 ∷ 2 ∷ 0 ∷ 2 ∷ 1 ∷ 0 ∷ [])
unfolding or_all
or-ed = (refl, refl)

pub bits-per-symbol : map bits_of (map class_number (Two ∷ Four ∷ Nine ∷ [])) ≡ 1 ∷ 2 ∷ 4 ∷ []
bits-per-symbol = refl

pub no_symbol : (min_states (1 ∷ 8 ∷ []) ≡ Some Nine) × (min_states (1 ∷ 9 ∷ 0 ∷ []) ≡ None)
unfolding min_states all_symbols class_of_all
no_symbol = (refl, refl)
