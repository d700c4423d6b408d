-- Laws of a table of refusals: what the number of the first that holds says.
-- Assumes nothing.
use Prim.Native.Nat.{ℕ}
use mathlib.Core.Path.{◌≡◌, refl}
use mathlib.Core.Bool.{Bool, true, false, ◌&&◌}
use mathlib.Core.List.{[], ◌∷◌}
use native.Mathlib.Omega.{arith}
use borrow.Author.Tests.{lt-ltb, le-ltb, le-leb, lt-leb, eq-eqb, ne_eqb}
use lib.Dec.{ltb, T, ltb→lt}
use Rattle.lists.specs.Choice.{pick}
use Rattle.lists.proofs.ChoiceLaws.{pick-either, pick-by}
use Rattle.lists.proofs.Table.{and_left, and_right}
use Rattle.recording.specs.Memory.{Tests, first, guarded}

pub ruleset tests = (lt-ltb, le-ltb, le-leb, lt-leb, eq-eqb, ne_eqb)

abbrev pub AllFalse : Tests → Type 0
AllFalse [] = Unit {0}
AllFalse (t ∷ ts) = (t.0 ≡ false) × AllFalse ts

-- every number is positive
abbrev pub positive : Tests → Bool
positive [] = true
positive (t ∷ ts) = ltb 0 t.1 && positive ts

past : (t : Bool) (m r : ℕ) → T (ltb 0 m) → pick t m r ≡ 0 → (t ≡ false) × (r ≡ 0)
past true m r p e = let q = ltb→lt 0 m p in absurd (omega arith)
past false m r p e = (refl, e)

pub none_of : (ts : Tests) → T (positive ts) → first ts ≡ 0 → AllFalse ts
none_of [] p e = tt
none_of (t ∷ ts) p e =
    let q = past t.0 t.1 (first ts) (and_left (ltb 0 t.1) (positive ts) p) e in
    (q.0, none_of ts (and_right (ltb 0 t.1) (positive ts) p) q.1)

-- no refusal
pub guarded-past : {A : Type 0} (ts : Tests) (f : ℕ → A) (e : A) → AllFalse ts → guarded ts f e ≡ e
guarded-past [] f e p = refl
guarded-past (t ∷ ts) f e p = rw p.0 (guarded-past ts f e p.1)

pub guarded-none : {A : Type 0} (ts : Tests) (f : ℕ → A) (e : A) → T (positive ts) → first ts ≡ 0 → guarded ts f e ≡ e
guarded-none ts f e p z = guarded-past ts f e (none_of ts p z)

-- a refusal by its number
pub guarded-first : {A : Type 0} (ts : Tests) (f : ℕ → A) (e : A) → (first ts ≡ 0 → ⊥) → guarded ts f e ≡ f (first ts)
guarded-first [] f e n = absurd (n refl)
guarded-first (t ∷ ts) f e n = by t.0 n (guarded-first ts f e)
  where
    by : (b : Bool) → (pick b t.1 (first ts) ≡ 0 → ⊥) → ((first ts ≡ 0 → ⊥) → guarded ts f e ≡ f (first ts))
        → pick b (f t.1) (guarded ts f e) ≡ f (pick b t.1 (first ts))
    by true m k = refl
    by false m k = k m

-- a function of what the tests choose: it is taken of every refusal, and of what is not refused
pub guarded-by : {A B : Type 0} (h : A → B) (ts : Tests) (f : ℕ → A) (e : A) {p : ℕ → B} {q : B} → ((n : ℕ) → h (f n) ≡ p n) → h e ≡ q → h (guarded ts f e) ≡ guarded ts p q
guarded-by h [] f e r s = s
guarded-by h (t ∷ ts) f e r s = pick-by h t.0 _ _ (r t.1) (guarded-by h ts f e r s)

-- the same, by the function alone
pub guarded-map : {A B : Type 0} (h : A → B) (ts : Tests) (f : ℕ → A) (e : A) → h (guarded ts f e) ≡ guarded ts (λ n. h (f n)) (h e)
guarded-map h ts f e = guarded-by h ts f e (λ n. refl) refl

-- what holds of every refusal and of what is not refused holds of what the tests choose
pub guarded-either : {A : Type 0} (P : A → Type 0) (ts : Tests) (f : ℕ → A) (e : A) → ((n : ℕ) → P (f n)) → P e → P (guarded ts f e)
guarded-either P [] f e r s = s
guarded-either P (t ∷ ts) f e r s = pick-either P t.0 (f t.1) (guarded ts f e) (r t.1) (guarded-either P ts f e r s)

-- what is not refused matters only where no test holds
pub guarded-same : {A : Type 0} (ts : Tests) (f : ℕ → A) (d e : A) → (AllFalse ts → d ≡ e) → guarded ts f d ≡ guarded ts f e
guarded-same [] f d e h = h tt
guarded-same (t ∷ ts) f d e h = by t.0 refl (guarded-same ts f d e)
  where
    by : (b : Bool) → t.0 ≡ b → ((AllFalse ts → d ≡ e) → guarded ts f d ≡ guarded ts f e)
        → pick b (f t.1) (guarded ts f d) ≡ pick b (f t.1) (guarded ts f e)
    by true g k = refl
    by false g k = k (λ n. h (g, n))

-- what holds of no refusal, and holds, holds of what is not refused, and no test holds
pub guarded-only : {A : Type 0} (P : A → Type 0) (ts : Tests) (f : ℕ → A) (e : A) → ((n : ℕ) → P (f n) → ⊥) → P (guarded ts f e) → AllFalse ts × P e
guarded-only P [] f e never h = (tt, h)
guarded-only P (t ∷ ts) f e never h = by t.0 refl h (guarded-only P ts f e never)
  where
    by : (b : Bool) → t.0 ≡ b → P (pick b (f t.1) (guarded ts f e)) → (P (guarded ts f e) → AllFalse ts × P e) → AllFalse (t ∷ ts) × P e
    by true g h k = absurd (never t.1 h)
    by false g h k = let r = k h in ((g, r.0), r.1)
