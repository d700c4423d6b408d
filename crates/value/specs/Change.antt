-- What the code answers of a vector's value: nothing of a bad one, the one symbol of width 1, or the class of a wider value, whose symbols stay in the
-- bytes that were given.
-- Assumes nothing.
use Rattle.std.specs.Prelude.{ℕ, zero, suc, List, get_or, Some, None}
use Rattle.std.specs.Prelude as rust
use Rattle.std.proofs.Math.Option.{Option, some, none}
use Rattle.value.specs.Class.{states_of, class_of_all}
use Rattle.value.specs.declared.change.BitVecChange.{BitVecChange}
use Rattle.value.specs.declared.change.BitVecChange.TheVariants.{SingleBit, MultiBit}

-- by the width; a vector has a width from 1 on
abbrev pub of_symbols : ℕ → List ℕ → rust.Option BitVecChange
of_symbols zero s = None
of_symbols (suc zero) s = Some (SingleBit (record { 0 = get_or s 0 0 }))
of_symbols (suc (suc w)) s = Some (MultiBit (states_of (class_of_all s)))

-- `none` is a bad value
abbrev pub change_of : ℕ → Option (List ℕ) → rust.Option BitVecChange
change_of w none = None
change_of w (some s) = of_symbols w s
