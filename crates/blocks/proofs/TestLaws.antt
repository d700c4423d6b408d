-- The tests of the code, one law for each return.
-- Assumes nothing.
use Prim.Native.Nat.{ℕ, ◌+◌, ◌-◌, ◌*◌, ◌≤◌, ◌<◌}
use mathlib.Core.Path.{◌≡◌, refl, sym, ap, ap₂, ◌∙◌}
use mathlib.Core.Bool.{Bool, true, false, ◌&&◌}
use mathlib.Core.List.{List}
use native.Mathlib.Omega.{arith}
use borrow.Author.Tests.{le-leb, lt-leb, eq-eqb, ne_eqb, leb-true}
use lib.Dec.{leb, eqb}
use lib.ListN.{length, drop}
use Rattle.lists.specs.Choice.{pick}
use Rattle.image.specs.Block.{block_size}
use Rattle.form.specs.Decide.{le?}
use Rattle.reading.specs.Decided.{is_yes, uints}
use Rattle.reading.specs.Times.{times_at}
use Rattle.parts.specs.Parts.{are_parts, kinds_at}
use Rattle.reading.proofs.DecidedLaws.{yes_le, yes_both}
use Rattle.blocks.specs.Blocks.{times_fit?, size_in, times_in, signals_in, front_of, front_at, block_to, after_times, body_at}
use Rattle.std.specs.Prelude.{Option, Some, None}

times-fit-is : (limit n : ℕ) → is_yes (times_fit? limit n) ≡ leb 1 n && leb n limit
times-fit-is limit n = yes_both (le? 1 n) (le? n limit) ∙ ap₂ ◌&&◌ (yes_le 1 n) (yes_le n limit)

-- no block is without a time or has more than B
pub times-fit-small : (limit n : ℕ) → is_yes (times_fit? limit n) ≡ true → (0 < n) × (n ≤ limit)
times-fit-small limit n e = by (leb 1 n) refl (leb n limit) refl (sym (times-fit-is limit n) ∙ e)
  where
    by : (t : Bool) → leb 1 n ≡ t → (u : Bool) → leb n limit ≡ u → t && u ≡ true → (0 < n) × (n ≤ limit)
    by true p true q e = let a = leb-true 1 n p in (omega arith, leb-true n limit q)
    by true p false q e = let z : ◌≡◌ {A = ℕ} 0 1 = cc in absurd (omega arith)
    by false p u q e = let z : ◌≡◌ {A = ℕ} 0 1 = cc in absurd (omega arith)

module _ (S limit : ℕ) (s : List ℕ) (at : ℕ) (inside : at ≤ length s) where
  pub front-room : length s - at < 12 + 4 * S → None ≡ front_at S limit s at
  unfolding front_at
  front-room h = rw (lt-leb (at + (12 + 4 * S)) (length s) (omega arith)) refl

  module _ (room : 12 + 4 * S ≤ length s - at) (n c z : ℕ) (en : n ≡ times_in s at) (ec : c ≡ signals_in s at) (ez : z ≡ size_in s at) where
    room-is : leb (at + (12 + 4 * S)) (length s) ≡ true
    room-is = le-leb (at + (12 + 4 * S)) (length s) (omega arith)

    pub front-signals : (c ≡ S → ⊥) → None ≡ front_at S limit s at
    unfolding front_at
    front-signals h = rw (room-is, ne_eqb S (signals_in s at) (λ e. h (ec ∙ sym e))) refl

    module _ (same : c ≡ S) where
      same-is : eqb S (signals_in s at) ≡ true
      same-is = eq-eqb S (signals_in s at) (sym same ∙ ec)

      pub front-size : z < block_size S n 0 → None ≡ front_at S limit s at
      unfolding front_at
      front-size h = rw (room-is, same-is, lt-leb (block_size S (times_in s at) 0) (size_in s at) (rw (← en, ← ez) h)) refl

      module _ (fits : block_size S n 0 ≤ z) where
        fits-is : leb (block_size S (times_in s at) 0) (size_in s at) ≡ true
        fits-is = le-leb (block_size S (times_in s at) 0) (size_in s at) (rw (← en, ← ez) fits)

        pub front-times : (t : Bool) → t ≡ is_yes (times_fit? limit n) → t ≡ false → None ≡ front_at S limit s at
        unfolding front_at
        front-times t e f = rw (room-is, same-is, fits-is, ← en, ← e, f) refl

        module _ (t : Bool) (e : t ≡ is_yes (times_fit? limit n)) (f : t ≡ true) where
          pub front_long : length s - at < z → None ≡ front_at S limit s at
          unfolding front_at
          front_long h = rw (room-is, same-is, fits-is, ← en, ← e, f, ← ez, lt-leb (at + z) (length s) (omega arith)) refl

          pub front-yes : z ≤ length s - at → Some (front_of z n) ≡ front_at S limit s at
          unfolding front_at
          front-yes h = rw (room-is, same-is, fits-is, ← en, ← e, f, ← ez, le-leb (at + z) (length s) (omega arith)) refl

-- by the times
module _ (S z n : ℕ) (s : List ℕ) (at : ℕ) (end : Option ℕ) (x : Option ℕ) (e : x ≡ times_at n s (at + (12 + 4 * S)) end) where
  pub body-wrong : x ≡ None → None ≡ body_at S z n s at end
  unfolding body_at
  body-wrong f = rw (← e, f) refl

  pub body-parts : (u base m : ℕ) (b : Bool) → x ≡ Some u → base ≡ at + block_size S n 0 → m ≡ z - block_size S n 0
      → b ≡ are_parts (drop base s) m n (kinds_at S s 16) (uints 4 S s (at + 12)) → pick b (Some (block_to (at + z) u)) None ≡ body_at S z n s at end
  unfolding body_at
  body-parts u base m b f q r t =
      ap (λ (b : Bool). pick b (Some (block_to (at + z) u)) None) (t ∙ ap₂ (λ (b m : ℕ). are_parts (drop b s) m n (kinds_at S s 16) (uints 4 S s (at + 12))) q r)
      ∙ ap (λ (x : Option ℕ). after_times x (are_parts (drop (at + block_size S n 0) s) (z - block_size S n 0) n (kinds_at S s 16) (uints 4 S s (at + 12))) (at + z)) (sym f ∙ e)
