-- The entry of a wider vector whose symbols stand packed in a stream: how long it is, and that the two top bits of its first byte are free for
-- the class that it carries.
-- Assumes nothing.
use Prim.Native.Nat.{ℕ, zero, suc, ◌+◌, ◌-◌, ◌*◌, ◌≤◌, ◌<◌}
use mathlib.Core.Path.{◌≡◌, refl, sym, ap, ◌∙◌, subst}
use mathlib.Core.Bool.{Bool, true, false}
use mathlib.Core.List.{List, [], ◌∷◌, ◌++◌}
use native.Mathlib.Omega.{arith}
use borrow.Author.Tests.{ltb-true, ltb-false}
use lib.Dec.{ltb}
use lib.ListN.{length, drop, get_or, replicate, length-drop}
use lib.Seq.{length-take-le}
use Rattle.lists.specs.Choice.{pick}
use Rattle.value.specs.Class.{class_of_all}
use Rattle.packed.specs.Packed.{packed_length, packed, top_clear}
use Rattle.packed.proofs.PackedLaws.{place_in, packed-bytes, unpacked-top, length-unpacked}
use Rattle.loaded.specs.EntryBytes.{carrying, filled_to, wide_entry}
use Rattle.loaded.proofs.EntryLaws.{free-bits, first_small}
use Rattle.entry.specs.Length.{class_byte, wide_length}
use Rattle.entry.specs.Read.{packed_before, wide_read, PackedThere}
use Rattle.entry.proofs.LengthLaws.{packed-fewer, length-filled, wide_is}

pub wide-some : (w c : ℕ) → 0 < w → 0 < wide_length w c
wide-some w c h = omega (arith, place_in w c 0 h)

-- where no byte is filled in, no class byte precedes
no-class-byte : (u : Bool) (a b : ℕ) → b ≤ a → (pick u 1 0 + a) - b ≡ 0 → (u ≡ false) × (a ≡ b)
no-class-byte true a b h e = absurd (omega arith)
no-class-byte false a b h e = (refl, omega arith)

-- symbols packed in their own class t before n, in a signal of class c
module _ (w c t n : ℕ) (l : List ℕ) (pos : 0 < w) (k : t ≤ c) (h : c ≤ 2) (there : PackedThere w t n l) where
  pub own-size : length (packed_before w t n l) ≡ packed_length w t
  own-size = length-take-le (packed_length w t) (drop (n - packed_length w t) l) (omega (arith, length-drop (n - packed_length w t) l, there.inside, there.within))

  pub own-fewer : packed_length w t ≤ wide_length w c
  own-fewer = omega (arith, packed-fewer w t c k h)

  pub entry-is : wide_entry w c (wide_read w t n l) ≡ carrying (t * 64) (filled_to (wide_length w c) (packed_before w t n l))
  entry-is =
      let s : List ℕ = wide_read w t n l in
      let q : class_of_all s ≤ c = omega (arith, there.class) in
      wide_is w c s (length-unpacked w t (packed_before w t n l)) q h
      ∙ ap (λ (m : ℕ). carrying (m * 64) (filled_to (wide_length w c) (packed m s))) there.class
      ∙ ap (λ (b : List ℕ). carrying (t * 64) (filled_to (wide_length w c) b)) there.back

  pub filled-size : length (filled_to (wide_length w c) (packed_before w t n l)) ≡ wide_length w c
  filled-size = length-filled (wide_length w c) (packed_before w t n l) (omega (arith, own-size, own-fewer))

  -- the two top bits of the first byte are free for the class, unless C is Two
  by_bytes : (b : List ℕ) → packed_before w t n l ≡ b → class_byte w c ≡ false → packed_length w c ≡ packed_length w t → 0 < c → get_or b 0 0 < 64
  by_bytes [] e f q z = omega arith
  by_bytes (x ∷ r) e f q z =
      let free = free-bits w c t h k f z in
      let size : length (x ∷ r) ≡ packed_length w t = ap length (sym e) ∙ own-size in
      let top : top_clear w t (x ∷ r) ≡ true = subst (λ (b : List ℕ). top_clear w t b ≡ true) e (unpacked-top w t (packed_before w t n l) there.back) in
      first_small w t x r (omega arith) top

  by-fill : (P : ℕ → Type 0) → P 0 → ((class_byte w c ≡ false) × (packed_length w c ≡ packed_length w t) → P (get_or (packed_before w t n l) 0 0))
      → P (get_or (filled_to (wide_length w c) (packed_before w t n l)) 0 0)
  by-fill P f g = by (wide_length w c - length (packed_before w t n l)) refl
    where
      by : (m : ℕ) → wide_length w c - length (packed_before w t n l) ≡ m → P (get_or (replicate m 0 ++ packed_before w t n l) 0 0)
      by zero e = g (no-class-byte (class_byte w c) (packed_length w c) (packed_length w t) (packed-fewer w t c k h) (ap (λ (m : ℕ). wide_length w c - m) (sym own-size) ∙ e))
      by (suc m) e = f

  pub first_below : 0 < c → get_or (filled_to (wide_length w c) (packed_before w t n l)) 0 0 < 64
  first_below z = by-fill (λ (x : ℕ). x < 64) (omega arith) (λ f. by_bytes (packed_before w t n l) refl f.0 f.1 z)

  first_byte : get_or (filled_to (wide_length w c) (packed_before w t n l)) 0 0 < 256
  first_byte =
      by-fill (λ (x : ℕ). x < 256) (omega arith)
      (λ f. subst (λ (b : List ℕ). get_or b 0 0 < 256) there.back (packed-bytes t (wide_read w t n l) 0))

  pub first_fits : t * 64 + get_or (filled_to (wide_length w c) (packed_before w t n l)) 0 0 < 256
  first_fits = by (ltb 0 c) refl
    where
      by : (u : Bool) → ltb 0 c ≡ u → t * 64 + get_or (filled_to (wide_length w c) (packed_before w t n l)) 0 0 < 256
      by true e = omega (arith, first_below (ltb-true 0 c e))
      by false e = let z = ltb-false 0 c e in omega (arith, first_byte)
