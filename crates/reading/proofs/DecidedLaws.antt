-- Decisions as truth values.
-- Assumes nothing.
use Prim.Native.Nat.{ℕ, ◌≤◌, ◌<◌}
use mathlib.Core.Path.{◌≡◌, refl, sym}
use mathlib.Core.Bool.{Bool, true, false, ◌&&◌}
use native.Mathlib.Omega.{arith}
use borrow.Author.Tests.{le-leb, lt-leb, lt-ltb, le-ltb}
use lib.Dec.{leb, ltb}
use Rattle.lists.specs.Choice.{pick}
use Rattle.form.specs.Decide.{le?, lt?, both, map_dec}
use Rattle.reading.specs.Decided.{is_yes}

yes-by-le : (a b : ℕ) (d : Dec (a ≤ b)) → is_yes d ≡ leb a b
yes-by-le a b (yes p) = sym (le-leb a b p)
yes-by-le a b (no n) = sym (lt-leb a b (by n))
  where
    by : (a ≤ b → ⊥) → b < a
    by n = omega arith

pub yes_le : (a b : ℕ) → is_yes (le? a b) ≡ leb a b
yes_le a b = yes-by-le a b (le? a b)

yes-by-lt : (a b : ℕ) (d : Dec (a < b)) → is_yes d ≡ ltb a b
yes-by-lt a b (yes p) = sym (lt-ltb a b p)
yes-by-lt a b (no n) = sym (le-ltb a b (by n))
  where
    by : (a < b → ⊥) → b ≤ a
    by n = omega arith

pub yes_lt : (a b : ℕ) → is_yes (lt? a b) ≡ ltb a b
yes_lt a b = yes-by-lt a b (lt? a b)

pub yes_both : {A B : Type 0} (x : Dec A) (y : Dec B) → is_yes (both x y) ≡ is_yes x && is_yes y
yes_both (yes a) (yes b) = refl
yes_both (yes a) (no n) = refl
yes_both (no n) (yes b) = refl
yes_both (no n) (no m) = refl

pub yes-map : {A B : Type 0} (f : A → B) (g : B → A) (d : Dec A) → is_yes (map_dec f g d) ≡ is_yes d
yes-map f g (yes a) = refl
yes-map f g (no n) = refl

pub pick-both : {A : Type 0} (a b : Bool) (x y : A) → pick (a && b) x y ≡ pick a (pick b x y) y
pick-both true b x y = refl
pick-both false b x y = refl
