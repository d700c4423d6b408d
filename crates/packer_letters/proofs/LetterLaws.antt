-- The letters of each class, by arithmetic: one test over all bytes that antt computes.
-- Assumes nothing.
use Prim.Native.Nat.{ℕ, ◌+◌, ◌-◌, ◌*◌, ◌/◌, ◌%◌, ◌^◌, ◌<◌}
use mathlib.Core.Path.{◌≡◌}
use mathlib.Core.Bool.{Bool, true}
use mathlib.Core.List.{List}
use native.Mathlib.Omega.{arith}
use borrow.Author.Tests.{lt-ltb}
use lib.Dec.{T, ltb, eqb, eqb→eq}
use lib.ListN.{length, get_or}
use Rattle.lists.specs.Choice.{pick, is_some, or_empty}
use Rattle.lists.proofs.Table.{every_byte, at_byte}
use Rattle.value.specs.Symbol.{symbol_of, or_number}
use Rattle.value.proofs.ClassLaws.{class-all-small}
use Rattle.vcd.specs.Vcd.{text_symbols}
use Rattle.vcd.proofs.VcdLaws.{text-good}
use Rattle.packed.proofs.PackedLaws.{digit_lt}
use Rattle.packer.specs.Number.{number_in, Held}
use Rattle.packer.specs.declared.Notation.TheVariants.{Ascii}
use Rattle.packer.proofs.NotationLaws.{text-digit}

module _ (m : ℕ) (f : ℕ → ℕ) where
  -- f gives the symbol of the letter k, where it is below m
  abbrev right : ℕ → Bool
  right k = pick (ltb (or_number 255 (symbol_of k)) m) (eqb (f k) (or_number 255 (symbol_of k))) true

  letter-is : T (every_byte right) → (k : ℕ) → k < 256 → or_number 255 (symbol_of k) < m → f k ≡ or_number 255 (symbol_of k)
  letter-is t k h l = eqb→eq _ _ (rw (lt-ltb (or_number 255 (symbol_of k)) m l) at (at_byte right t k h))

pub two-letter : (k : ℕ) → k < 256 → or_number 255 (symbol_of k) < 2 → k % 2 ≡ or_number 255 (symbol_of k)
unfolding symbol_of
two-letter = letter-is 2 (λ (k : ℕ). k % 2) tt

pub four-letter : (k : ℕ) → k < 256 → or_number 255 (symbol_of k) < 4 → k / 64 * 2 + k / 2 % 2 + k % 2 ≡ or_number 255 (symbol_of k)
unfolding symbol_of
four-letter = letter-is 4 (λ (k : ℕ). k / 64 * 2 + k / 2 % 2 + k % 2) tt

-- the places of the nine symbols, of four bits each: 3614000080025700 in hexadecimal
abbrev nine_symbols : ℕ
nine_symbols = 3896739579729958656

pub nine-letter : (k : ℕ) → k < 256 → or_number 255 (symbol_of k) < 16 → nine_symbols / 2 ^ (k * 11 / 2 % 16 * 4) % 16 ≡ or_number 255 (symbol_of k)
unfolding symbol_of
nine-letter = letter-is 16 (λ (k : ℕ). nine_symbols / 2 ^ (k * 11 / 2 % 16 * 4) % 16) tt

-- every letter of a good text has one of nine symbols
pub letter-in-nine : (w : ℕ) (u : List ℕ) → is_some (text_symbols w u) ≡ true → (i : ℕ) → i < length u → or_number 255 (symbol_of (get_or u i 0)) < 16
letter-in-nine w u h i k =
    let held : Held Ascii w 2 u = (h, (text-good w u h).all, class-all-small (or_empty (text_symbols w u))) in
    let j : ℕ = length u - 1 - i in
    rw (text-digit w 2 u held i j (omega arith)) (digit_lt 4 j (number_in 2 Ascii w u))
