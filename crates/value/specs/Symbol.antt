-- Document 01, 'Symbol and value': which byte stands for which symbol. A symbol is a number, 0 to 8.
-- Assumes nothing.
use Rattle.std.specs.Prelude.{ℕ, suc, ◌+◌, Bool, ◌&&◌, List, [], ◌∷◌, eqb, leb, Some, None}
use Rattle.std.specs.Prelude as rust
use Rattle.std.proofs.Math.Option.{Option, some, none}
use Rattle.lists.specs.Choice.{pick}
use Rattle.value.specs.declared.symbol.Bit.{Bit}

-- 0 1 x z h u w l - in ASCII: the symbols 0 to 8 in their order
abbrev pub letters : List ℕ
letters = 48 ∷ 49 ∷ 120 ∷ 122 ∷ 104 ∷ 117 ∷ 119 ∷ 108 ∷ 45 ∷ []

-- a capital letter's small one; any other byte is itself
abbrev pub lowered : ℕ → ℕ
lowered b = pick (leb 65 b && leb b 90) (b + 32) b

-- the first place of b in a list, counted from n
abbrev pub place_from : (b n : ℕ) → List ℕ → Option ℕ
place_from b n [] = none
place_from b n (x ∷ l) = pick (eqb b x) (some n) (place_from b (suc n) l)

-- the symbol of a byte; none is "no symbol"
unfoldable pub symbol_of : ℕ → Option ℕ
symbol_of b = place_from (lowered b) 0 letters

-- the letters 0 and 1
abbrev pub is_digit : ℕ → Bool
is_digit b = leb 48 b && leb b 49

-- the answer of the code
abbrev pub maybe_bit : Option ℕ → rust.Option Bit
maybe_bit none = None
maybe_bit (some s) = Some (record { 0 = s })

-- a symbol's number, n where there is none
abbrev pub or_number : ℕ → Option ℕ → ℕ
or_number n none = n
or_number n (some s) = s
