-- What a source of symbols gives: bytes in a notation, for a vector of a width.
-- Assumes nothing.
use Rattle.std.specs.Prelude.{ℕ, List}
use Rattle.std.specs.Coded.{Coded-set, coded_bool, le_prop}
use Rattle.std.proofs.Props.{props}
use Rattle.packer.specs.Notation.{symbols_from, Readable}
use Rattle.packer.specs.Number.{number_in, Held, standing_in}
use Rattle.packer.specs.declared.Notation.{Notation}
use Rattle.packer.specs.declared.Notation.TheVariants.{Ascii, Packed}

pub record Given : Type 0 where
  pub notation : Notation
  pub width : ℕ
  pub bytes : List ℕ

abbrev pub symbols_given : Given → List ℕ
symbols_given g = symbols_from g.notation g.width g.bytes

-- each place has a symbol
abbrev pub ReadableGiven : Given → Type 0
ReadableGiven g = Readable g.notation g.width g.bytes

-- and the class holds them all
abbrev pub HeldGiven : Given → (class : ℕ) → Type 0
HeldGiven g c = Held g.notation g.width c g.bytes

-- the symbols as one number
abbrev pub number_given : Given → (class : ℕ) → ℕ
number_given g c = number_in c g.notation g.width g.bytes

-- how many symbols, counted from the right, stand in the bytes themselves
abbrev pub standing_given : Given → ℕ
standing_given g = standing_in g.notation g.width g.bytes

readable-prop : (n : Notation) (w : ℕ) (b : List ℕ) → IsProp (Readable n w b)
readable-prop Ascii w b = Coded-set coded_bool _ _
readable-prop (Packed c) w b = le_prop

-- which a type may keep, as there is one proof of it at most
pub held-prop : (g : Given) (class : ℕ) → IsProp (HeldGiven g class)
held-prop g c = let r = readable-prop g.notation g.width g.bytes in Prim.hlevel (r, props)
