-- Laws of where a time stands, as the code finds it.
-- Assumes nothing.
use Prim.Native.Nat.{ℕ, zero, suc, ◌-◌, ◌≤◌, ◌<◌}
use mathlib.Core.Path.{◌≡◌, refl, ap, ◌∙◌}
use mathlib.Core.List.{List, [], ◌∷◌}
use native.Mathlib.Omega.{arith}
use native.Mathlib.Numerals.{sub-one}
use borrow.Author.Tests.{lt-ltb, le-ltb, eq-eqb, ne_eqb}
use lib.ListN.{length, take, get_or}
use lib.Dec.{ltb, eqb}
use Rattle.std.specs.declared.cmp.Ordering.{Ordering}
use Rattle.std.specs.declared.cmp.Ordering.TheVariants.{Less, Equal, Greater}
use Rattle.std.specs.Cmp.{ranks}
use Rattle.std.specs.Ordering.{nat_cmp, MatchOrdering}
use Rattle.lists.specs.Choice.{pick}
use Rattle.lists.proofs.LastLaws.{last_taken}
use Rattle.recording.specs.Calls.{Way, above, equal, below, way_of}
use Rattle.plan_state.specs.Way.{way_in}

pub way-first : (l : List ℕ) (n t : ℕ) → n ≡ 0 → way_of (take n l) t ≡ above
unfolding way_of
way-first l n t e = rw e refl

abbrev by_last : (last t : ℕ) → Way
by_last x t = pick (ltb x t) above (pick (eqb t x) equal below)

pub way-last : (l : List ℕ) (n t : ℕ) → (n ≡ 0 → ⊥) → n ≤ length l → way_of (take n l) t ≡ by_last (get_or l (n - 1) 0) t
unfolding way_of
way-last l zero t p h = absurd (p refl)
way-last [] (suc n) t p h = absurd (omega arith)
way-last (x ∷ l) (suc n) t p h = ap (λ (y : ℕ). by_last y t) (last_taken x l n (omega arith) ∙ simp sub-one)

-- a time compared with the last one
pub way-compared : (x t : ℕ) → way_in (nat_cmp t x) ≡ by_last x t
way-compared x t = by (nat_cmp t x) (ranks t x)
  where
    by : (r : Ordering) → MatchOrdering r (t < x) (t ≡ x) (x < t) → way_in r ≡ by_last x t
    by Less h = let other : t ≡ x → ⊥ = λ e. omega arith in rw (le-ltb x t (omega arith), ne_eqb t x other) refl
    by Equal e = rw (le-ltb x t (omega arith), eq-eqb t x e) refl
    by Greater h = rw (lt-ltb x t h) refl
