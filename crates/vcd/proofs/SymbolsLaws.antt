-- The symbols of bytes: by induction over the bytes, one byte more at a time; their class is the largest that a byte's symbol has.
-- Assumes nothing.
use Prim.Native.Nat.{ℕ, zero, suc, ◌+◌, ◌-◌, ◌≤◌, ◌<◌, max}
use mathlib.Core.Path.{◌≡◌, refl, sym, ap, ◌∙◌}
use mathlib.Core.Bool.{Bool, true, false, ◌&&◌}
use mathlib.Core.List.{List, [], ◌∷◌, map}
use mathlib.Core.Option.{Option, some, none}
use native.Mathlib.Numerals.{add-one}
use native.Mathlib.Omega.{arith}
use borrow.Author.Tests.{le-leb}
use lib.Dec.{leb}
use lib.ListN.{length, get_or, drop, drop_of_length-le}
use lib.Seq.{drop-cons}
use Rattle.lists.specs.Choice.{bind}
use Rattle.lists.proofs.ChoiceLaws.{Where, where-some, where-bind, both_hold}
use Rattle.value.specs.Symbol.{symbol_of, is_digit, or_number}
use Rattle.value.specs.Class.{all_symbols, min_states, symbol_class, largest_class, states_or_none}
use Rattle.std.proofs.Common.{Some}
use Rattle.value.proofs.SymbolLaws.{Below, symbol-below, digit-symbol}
use Rattle.value.proofs.ClassLaws.{class-two, symbol-class, least-found}
use Rattle.value.specs.declared.states.States.TheVariants.{Two}
use Rattle.vcd.specs.Vcd.{symbols_in, ascii_states, all_digits}

-- one byte more
pub symbols-more : (b : ℕ) (u : List ℕ) {x : ℕ} {s : List ℕ} → symbol_of b ≡ some x → symbols_in u ≡ some s → symbols_in (b ∷ u) ≡ some (x ∷ s)
unfolding symbols_in
symbols-more b u e f = rw (e, f) refl

-- s are the symbols of the bytes u
pub record Symbols (u s : List ℕ) : Type 0 where
  pub size : length s ≡ length u
  pub at : (i : ℕ) → i < length u → symbol_of (get_or u i 0) ≡ some (get_or s i 0)
  pub all : all_symbols s ≡ true

symbol-small : (b : ℕ) {x : ℕ} → symbol_of b ≡ some x → leb x 8 ≡ true
symbol-small b {x} e = by (symbol_of b) (symbol-below b) e
  where
    by : (o : Option ℕ) → Below 9 o → o ≡ some x → leb x 8 ≡ true
    by none h f = cc
    by (some n) h f = let m : n ≡ x = cc in le-leb x 8 (omega arith)

pub symbols-is : (u : List ℕ) → Where (Symbols u) (symbols_in u)
unfolding symbols_in all_symbols
symbols-is [] = record { size = refl; at = λ i h. absurd (omega arith); all = refl }
symbols-is (b ∷ u) =
    where-bind (Symbols (b ∷ u)) (symbol_of b) _
    (λ x e. where-bind (Symbols (b ∷ u)) (symbols_in u) _ (λ s f. more x e s (where-some (Symbols u) (symbols_in u) (symbols-is u) f)))
  where
    at : {x : ℕ} {s : List ℕ} → symbol_of b ≡ some x → Symbols u s → (i : ℕ) → i < suc (length u)
        → symbol_of (get_or (b ∷ u) i 0) ≡ some (get_or (x ∷ s) i 0)
    at e h zero k = e
    at e h (suc i) k = h.at i (omega arith)

    more : (x : ℕ) → symbol_of b ≡ some x → (s : List ℕ) → Symbols u s → Symbols (b ∷ u) (x ∷ s)
    more x e s h = record { size = ap suc h.size; at = at e h; all = rw (symbol-small b e) h.all }

pub symbols-of : (u : List ℕ) {s : List ℕ} → symbols_in u ≡ some s → Symbols u s
symbols-of u = where-some (Symbols u) (symbols_in u) (symbols-is u)

-- in the code's numbers
pub symbols-number : {u s : List ℕ} → Symbols u s → (i : ℕ) → i < length u → or_number 255 (symbol_of (get_or u i 0)) ≡ get_or s i 0
symbols-number h i k = ap (or_number 255) (h.at i k)

-- ---- the class of a text

-- the symbols' numbers, 255 for a byte without symbol
abbrev pub numbers_in : List ℕ → List ℕ
numbers_in u = map (λ (b : ℕ). or_number 255 (symbol_of b)) u

-- they are the symbols, or one of them is above 8
Numbered : List ℕ → Option (List ℕ) → Type 0
Numbered u none = all_symbols (numbers_in u) ≡ false
Numbered u (some s) = (numbers_in u ≡ s) × (all_symbols s ≡ true)

numbered : (u : List ℕ) → Numbered u (symbols_in u)
unfolding symbols_in all_symbols Numbered
numbered [] = (refl, refl)
numbered (b ∷ u) = by (symbol_of b) refl (symbols_in u) (numbered u)
  where
    by : (o : Option ℕ) → symbol_of b ≡ o → (r : Option (List ℕ)) → Numbered u r → Numbered (b ∷ u) (bind o (λ x. bind r (λ s. some (x ∷ s))))
    by none e r h = rw e refl
    by (some x) e none h = rw (e, symbol-small b e) h
    by (some x) e (some s) h = (rw (e, h.0) refl, rw (symbol-small b e) h.1)

-- by the largest class of the numbers
pub numbers-class : (u : List ℕ) → states_or_none (largest_class (numbers_in u)) ≡ ascii_states (symbols_in u)
numbers-class u = least-found (numbers_in u) ∙ by (symbols_in u) (numbered u)
  where
    by : (o : Option (List ℕ)) → Numbered u o → min_states (numbers_in u) ≡ ascii_states o
    by none h = unfold min_states Numbered in rw h refl
    by (some s) h = unfold min_states Numbered in rw (h.0, h.1) refl

-- one letter more, and none
pub class-next : (i : ℕ) (u : List ℕ) → i < length u
    → largest_class (numbers_in (drop i u)) ≡ max (symbol_class (or_number 255 (symbol_of (get_or u i 0)))) (largest_class (numbers_in (drop (i + 1) u)))
unfolding largest_class
class-next i u h = rw (add-one i, drop-cons u i 0 h) refl

pub class-end : (i : ℕ) (u : List ℕ) → length u ≤ i → largest_class (numbers_in (drop i u)) ≡ 0
unfolding largest_class
class-end i u h = rw (drop_of_length-le u h) refl

-- letters 0 and 1 alone
digits-class : (u : List ℕ) → all_digits u ≡ true → largest_class (numbers_in u) ≡ 0
unfolding all_digits largest_class
digits-class [] e = refl
digits-class (b ∷ u) e =
    let p = both_hold (is_digit b) (all_digits u) e in
    let d = digit-symbol b (is_digit b) refl p.0 in
    let k : symbol_class (b - 48) ≡ 0 = symbol-class (b - 48) (omega arith) ∙ class-two (b - 48) (omega arith) in
    rw (d.2, k, digits-class u p.1) refl

pub binary-two : (u : List ℕ) → all_digits u ≡ true → Some Two ≡ ascii_states (symbols_in u)
binary-two u e = rw (digits-class u e) at (numbers-class u)

-- one letter more
digits_from : (i : ℕ) (u : List ℕ) → i < length u → all_digits (drop i u) ≡ is_digit (get_or u i 0) && all_digits (drop (i + 1) u)
unfolding all_digits
digits_from i u h = rw (add-one i, drop-cons u i 0 h) refl

pub digits-next : (all : Bool) (i : ℕ) (u : List ℕ) → i < length u → (all && is_digit (get_or u i 0)) && all_digits (drop (i + 1) u) ≡ all && all_digits (drop i u)
digits-next true i u h = sym (digits_from i u h)
digits-next false i u h = refl

pub digits-all : (all : Bool) (i : ℕ) (u : List ℕ) → length u ≤ i → all && all_digits (drop i u) ≡ all_digits u → all ≡ all_digits u
unfolding all_digits
digits-all true i u h k = rw (drop_of_length-le u h) at k
digits-all false i u h k = k
