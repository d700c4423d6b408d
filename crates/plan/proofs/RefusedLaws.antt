-- A refusal, and the number by which a table of tests tells it.
-- Assumes nothing.
use Prim.Native.Nat.{ℕ}
use mathlib.Core.Path.{◌≡◌, refl, sym, ap, ◌∙◌}
use mathlib.Core.Bool.{Bool, true, false}
use mathlib.Core.List.{[], ◌∷◌}
use native.Mathlib.Omega.{arith}
use Rattle.lists.specs.Choice.{pick}
use Rattle.refusal.specs.declared.Refusal.{Refusal}
use Rattle.refusal.specs.Refusal.{refusal_number}
use Rattle.refusal.specs.Named.{refusal_from}
use Rattle.refusal.proofs.NamedLaws.{refusal_back}
use Rattle.recording.specs.declared.Encoder.{Encoder}
use Rattle.recording.specs.declared.Settings.{Settings}
use Rattle.recording.specs.Memory.{Tests, first}
use Rattle.recording.specs.Refusals.{start_tests, state_tests}

-- no refusal has the number 0
number-some : (r : Refusal) → refusal_number r ≡ 0 → ⊥
number-some r e = let q : refusal_number r ≡ 10 = ap refusal_number (sym (refusal_back r) ∙ ap refusal_from e) in omega arith

-- where a refusal is told by the first test that holds, one does, and it is that one's
module _ (ts : Tests) (r : Refusal) (e : refusal_number r ≡ first ts) where
  pub one-holds : first ts ≡ 0 → ⊥
  one-holds z = number-some r (e ∙ z)

  pub first_from : refusal_from (first ts) ≡ r
  first_from = ap refusal_from (sym e) ∙ refusal_back r

-- each number in a table is a refusal's
abbrev pub Named : Tests → Type 0
Named [] = Unit {0}
Named (t ∷ ts) = (refusal_number (refusal_from t.1) ≡ t.1) × Named ts

pub first-named : (ts : Tests) → Named ts → (first ts ≡ 0 → ⊥) → refusal_number (refusal_from (first ts)) ≡ first ts
first-named [] h n = absurd (n refl)
first-named (t ∷ ts) h n = by t.0 n (first-named ts h.1)
  where
    by : (b : Bool) → (pick b t.1 (first ts) ≡ 0 → ⊥) → ((first ts ≡ 0 → ⊥) → refusal_number (refusal_from (first ts)) ≡ first ts)
        → refusal_number (refusal_from (pick b t.1 (first ts))) ≡ pick b t.1 (first ts)
    by true m k = h.0
    by false m k = k m

pub state-named : (s : Encoder) (foreign : Bool) (records times work image : ℕ) → Named (state_tests s foreign records times work image)
unfolding state_tests
state-named s foreign records times work image = (refl, (refl, (refl, (refl, (refl, (refl, (refl, (refl, (refl, (refl, (refl, tt)))))))))))

pub start-named : (settings : Settings) (records : ℕ) (bad : Bool) (times image : ℕ) → Named (start_tests settings records bad times image)
unfolding start_tests
start-named settings records bad times image = (refl, (refl, (refl, (refl, (refl, (refl, tt))))))
