-- Document 01, 'Symbol and value', and document 02, (h): what a VCD value says of a vector of a width (`decode_vcd_bit_vec_change`). `none` is "bad".
-- Assumes nothing.
use Rattle.std.specs.Prelude.{ℕ, zero, suc, ◌-◌, Bool, true, ◌&&◌, ◌||◌, List, [], ◌∷◌, ◌++◌, length, drop, get_or, replicate, ltb, eqb, Some, None}
use Rattle.std.specs.Prelude as rust
use Rattle.std.proofs.Math.Option.{Option, some, none}
use Rattle.lists.specs.Choice.{pick, bind}
use Rattle.lists.specs.Last.{last_or}
use Rattle.value.specs.Symbol.{symbol_of, is_digit}
use Rattle.value.specs.Class.{states_of, class_of_all}
use Rattle.value.specs.declared.states.States.{States}

-- the symbols of bytes; none where a byte has no symbol
unfoldable pub symbols_in : List ℕ → Option (List ℕ)
symbols_in [] = some []
symbols_in (b ∷ v) = bind (symbol_of b) (λ s. bind (symbols_in v) (λ l. some (s ∷ l)))

-- width 1: only the last byte counts; an empty value or a last byte `b` (98) is 0
unfoldable pub vcd_bit : List ℕ → Option (List ℕ)
vcd_bit v = pick (eqb (last_or 98 v) 98) (some (0 ∷ [])) (symbols_in (last_or 98 v ∷ []))

-- one leading `b` or `B` (98, 66) is dropped
abbrev pub without_b : List ℕ → List ℕ
without_b [] = []
without_b (c ∷ v) = pick (eqb c 98 || eqb c 66) v (c ∷ v)

-- then, if over two bytes remain, a leading `0b` (48 98) is dropped
abbrev pub without0b : List ℕ → List ℕ
without0b v = pick (ltb 2 (length v) && (eqb (get_or v 0 0) 48 && eqb (get_or v 1 0) 98)) (drop 2 v) v

unfoldable pub text_of : List ℕ → List ℕ
text_of v = without0b (without_b v)

-- the symbols that a short value may begin with: 0 1 x z (IEEE 1364), and u w - (5, 6, 8), but not h and l (4, 7)
abbrev pub extends : ℕ → Bool
extends s = ltb s 4 || (eqb s 5 || (eqb s 6 || eqb s 8))

-- left extension, by the first symbol: 0 and 1 extend with 0, the others of these with themselves; any other is bad
abbrev pub fill_of : ℕ → Option ℕ
fill_of s = pick (ltb s 2) (some 0) (pick (extends s) (some s) none)

-- symbols of at most w, extended to w
unfoldable pub extended : ℕ → List ℕ → Option (List ℕ)
extended w s = pick (eqb (length s) w) (some s) (bind (fill_of (get_or s 0 0)) (λ e. some (replicate (w - length s) e ++ s)))

-- width 2 and more: empty, too long, or a byte without symbol: bad. Too short: extended
unfoldable pub text_symbols : ℕ → List ℕ → Option (List ℕ)
text_symbols w u = pick (eqb (length u) 0 || ltb w (length u)) none (bind (symbols_in u) (extended w))

-- the symbols that a VCD value says; a vector has a width from 1 on
abbrev pub vcd_symbols : ℕ → List ℕ → Option (List ℕ)
vcd_symbols zero v = none
vcd_symbols (suc zero) v = vcd_bit v
vcd_symbols (suc (suc w)) v = text_symbols (suc (suc w)) (text_of v)

-- the class that the code answers of a text's symbols
abbrev pub ascii_states : Option (List ℕ) → rust.Option States
ascii_states none = None
ascii_states (some s) = Some (states_of (class_of_all s))

-- a text of the letters 0 and 1 alone
unfoldable pub all_digits : List ℕ → Bool
all_digits [] = true
all_digits (b ∷ v) = is_digit b && all_digits v
