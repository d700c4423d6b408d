-- A time against the last one taken, and the skipped count: the recorder and the history share both.
-- Assumes nothing.
use Prim.Native.Nat.{ℕ, ◌+◌, ◌≤◌, ◌<◌}
use mathlib.Core.Path.{◌≡◌, refl}
use mathlib.Core.List.{List, [], ◌∷◌}
use native.Mathlib.Omega.{arith}
use borrow.Author.Tests.{lt-ltb, le-ltb, eq-eqb, ne_eqb}
use Rattle.lists.specs.Last.{last_or}
use Rattle.recording.specs.Calls.{above, equal, below, way_of, counted}

pub way-none : (t : ℕ) → way_of [] t ≡ above
unfolding way_of
way-none t = refl

module _ (x : ℕ) (l : List ℕ) (t : ℕ) where
  pub way_above : last_or x l < t → way_of (x ∷ l) t ≡ above
  unfolding way_of
  way_above h = rw (lt-ltb (last_or x l) t h) refl

  pub way_equal : t ≡ last_or x l → way_of (x ∷ l) t ≡ equal
  unfolding way_of
  way_equal e = rw (le-ltb (last_or x l) t (omega arith), eq-eqb t (last_or x l) e) refl

  pub way-below : t < last_or x l → way_of (x ∷ l) t ≡ below
  unfolding way_of
  way-below h =
      let other : t ≡ last_or x l → ⊥ = λ e. omega arith in
      rw (le-ltb (last_or x l) t (omega arith), ne_eqb t (last_or x l) other) refl

pub counted-more : (n : ℕ) → n < 4294967295 → counted n ≡ n + 1
counted-more n h = rw (lt-ltb n 4294967295 h) refl

pub counted-top : (n : ℕ) → 4294967295 ≤ n → counted n ≡ n
counted-top n h = rw (le-ltb n 4294967295 h) refl
