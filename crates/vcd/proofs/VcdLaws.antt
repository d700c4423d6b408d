-- What a VCD value says, by the tests on its bytes: as many symbols as the width, in the class that the code answers. And every vector
-- of symbols can be said, by its letters.
-- Assumes nothing.
use Prim.Native.Nat.{ℕ, zero, suc, ◌-◌, ◌≤◌, ◌<◌}
use mathlib.Core.Path.{◌≡◌, refl, ap, ◌∙◌}
use mathlib.Core.Bool.{Bool, true, false, ◌||◌, and-false}
use mathlib.Core.List.{List, [], ◌∷◌, map}
use mathlib.Core.Option.{Option, some, none}
use native.Mathlib.Omega.{arith}
use borrow.Author.Tests.{lt-ltb, le-ltb, ltb-true, ltb-false, leb-true, eq-eqb, ne_eqb, eqb-false}
use lib.Dec.{ltb, leb, eqb}
use lib.ListN.{length, get_or, length-map}
use Rattle.lists.specs.Choice.{pick, bind, is_some, or_empty}
use Rattle.lists.proofs.ChoiceLaws.{Where, where-some, where-map, where-pick, where-bind, both_hold, none-holds}
use Rattle.value.specs.Symbol.{symbol_of, letters, maybe_bit, or_number}
use Rattle.value.specs.Class.{states_of, class_of_all, all_symbols}
use Rattle.value.specs.Change.{change_of}
use Rattle.value.specs.declared.symbol.Bit.{Bit}
use Rattle.value.specs.declared.states.States.{States}
use Rattle.std.proofs.Common.{Some, None}
use Rattle.value.specs.declared.change.BitVecChange.TheVariants.{SingleBit, MultiBit}
use Rattle.value.proofs.SymbolLaws.{letter-symbol}
use Rattle.lists.specs.Last.{last_or}
use Rattle.vcd.specs.Vcd.{symbols_in, vcd_bit, without_b, without0b, text_of, extends, extended, text_symbols, vcd_symbols, ascii_states}
use Rattle.vcd.proofs.SymbolsLaws.{Symbols, symbols-more, symbols-is, symbols-of, symbols-number}
use Rattle.vcd.proofs.ExtendedLaws.{Extended, extended-is, extended-some}

-- the prefixes of a value
pub b-absent : (v : List ℕ) → (get_or v 0 0 ≡ 98 → ⊥) → (get_or v 0 0 ≡ 66 → ⊥) → without_b v ≡ v
b-absent [] f g = refl
b-absent (c ∷ v) f g = rw (ne_eqb c 98 f, ne_eqb c 66 g) refl

pub short-kept : (v : List ℕ) → length v ≤ 2 → without0b v ≡ v
short-kept v h = rw (le-ltb 2 (length v) h) refl

pub second-kept : (v : List ℕ) → (get_or v 1 0 ≡ 98 → ⊥) → without0b v ≡ v
second-kept v f = rw (ne_eqb (get_or v 1 0) 98 f, and-false (eqb (get_or v 0 0) 48), and-false (ltb 2 (length v))) refl

-- s is what the text u says to a vector of width w
pub record Text (w : ℕ) (u s : List ℕ) : Type 0 where
  pub filled : 0 < length u
  pub fits : length u ≤ w
  pub size : length s ≡ w
  pub left : (i : ℕ) → i < w - length u
      → get_or s i 0 ≡ pick (ltb (or_number 255 (symbol_of (get_or u 0 0))) 2) 0 (or_number 255 (symbol_of (get_or u 0 0)))
  pub at : (i : ℕ) → w - length u ≤ i → i < w → get_or s i 0 ≡ or_number 255 (symbol_of (get_or u (i - (w - length u)) 0))
  pub class : ascii_states (symbols_in u) ≡ Some (states_of (class_of_all s))
  pub all : all_symbols s ≡ true

text-from : (w : ℕ) (u : List ℕ) {l s : List ℕ} → 0 < length u → length u ≤ w → symbols_in u ≡ some l → Symbols u l → Extended w l s
    → Text w u s
text-from w u {l} h k e y x =
    let n : length l ≡ length u = y.size in
    record {
      filled = h;
      fits = k;
      size = x.size;
      left = λ i j. rw (symbols-number y 0 h) (x.left i (omega arith));
      at = λ i j m. rw (symbols-number y (i - (w - length u)) (omega arith)) (rw n at (x.at i (omega arith)));
      class = rw (e, x.class) refl;
      all = x.all y.all;
    }

text-is : (w : ℕ) (u : List ℕ) → Where (Text w u) (text_symbols w u)
unfolding text_symbols
text-is w u = where-pick (Text w u) (eqb (length u) 0 || ltb w (length u)) _ _
    (λ e. tt)
    (λ e. let f = none-holds (eqb (length u) 0) (ltb w (length u)) e in by (eqb-false (length u) 0 f.0) (ltb-false w (length u) f.1))
  where
    by : (length u ≡ 0 → ⊥) → length u ≤ w → Where (Text w u) (bind (symbols_in u) (extended w))
    by h k = where-bind (Text w u) (symbols_in u) (extended w)
        (λ l e. let y = symbols-of u e in
        where-map (Extended w l) (Text w u) (extended w l) (λ s. text-from w u (omega arith) k e y) (extended-is w l (omega arith)))

pub text-good : (w : ℕ) (u : List ℕ) → is_some (text_symbols w u) ≡ true → Text w u (or_empty (text_symbols w u))
text-good w u = by (text_symbols w u) (text-is w u)
  where
    by : (o : Option (List ℕ)) → Where (Text w u) o → is_some o ≡ true → Text w u (or_empty o)
    by none h e = absurd (let z : ◌≡◌ {A = ℕ} 0 1 = cc in omega arith)
    by (some s) h e = h

-- which texts are good
pub text-empty : (w : ℕ) (u : List ℕ) → length u ≡ 0 → text_symbols w u ≡ none
unfolding text_symbols
text-empty w u e = rw (eq-eqb (length u) 0 e) refl

pub text-long : (w : ℕ) (u : List ℕ) → w < length u → text_symbols w u ≡ none
unfolding text_symbols
text-long w u h = rw (ne_eqb (length u) 0 (λ e. omega arith), lt-ltb w (length u) h) refl

text-fits : (w : ℕ) (u : List ℕ) → 0 < length u → length u ≤ w → text_symbols w u ≡ bind (symbols_in u) (extended w)
unfolding text_symbols
text-fits w u h k = rw (ne_eqb (length u) 0 (λ e. omega arith), le-ltb w (length u) k) refl

pub text-bad : (w : ℕ) (u : List ℕ) → 0 < length u → length u ≤ w → ascii_states (symbols_in u) ≡ None → text_symbols w u ≡ none
text-bad w u h k e = text-fits w u h k ∙ by (symbols_in u) e
  where
    by : (o : Option (List ℕ)) → ascii_states o ≡ None → bind o (extended w) ≡ none
    by none f = refl
    by (some s) f = cc

pub first-symbol : (u : List ℕ) {k : States} → 0 < length u → ascii_states (symbols_in u) ≡ Some k → is_some (symbol_of (get_or u 0 0)) ≡ true
first-symbol u {k} h = by (symbols_in u) refl
  where
    by : (o : Option (List ℕ)) → symbols_in u ≡ o → ascii_states o ≡ Some k → is_some (symbol_of (get_or u 0 0)) ≡ true
    by none e f = cc
    by (some s) e f = ap is_some ((symbols-of u e).at 0 h)

abbrev InClass : States → List ℕ → Type 0
InClass k s = states_of (class_of_all s) ≡ k

change-wide : (w : ℕ) → 1 < w → (k : States) (o : Option (List ℕ)) → Where (InClass k) o → change_of w o ≡ pick (is_some o) (Some (MultiBit k)) None
change-wide w h k none e = refl
change-wide zero h k (some s) e = absurd (omega arith)
change-wide (suc zero) h k (some s) e = absurd (omega arith)
change-wide (suc (suc w)) h k (some s) e = ap (λ (c : States). Some (MultiBit c)) e

-- where every byte has a symbol and the text fits: whole, or begun by a symbol that extends
pub text-change : (w : ℕ) (u : List ℕ) {k : States} → 1 < w → 0 < length u → length u ≤ w → ascii_states (symbols_in u) ≡ Some k
    → change_of w (text_symbols w u) ≡ pick (eqb (length u) w || extends (or_number 255 (symbol_of (get_or u 0 0)))) (Some (MultiBit k)) None
text-change w u {k} one h l e =
    change-wide w one k (text_symbols w u) class
    ∙ ap (λ (t : Bool). pick t (Some (MultiBit k)) None) (ap is_some (text-fits w u h l) ∙ good (symbols_in u) refl e)
  where
    class : Where (InClass k) (text_symbols w u)
    class = where-map (Text w u) (InClass k) (text_symbols w u) (λ s x. let f = x.class in cc) (text-is w u)

    good : (o : Option (List ℕ)) → symbols_in u ≡ o → ascii_states o ≡ Some k
        → is_some (bind o (extended w)) ≡ eqb (length u) w || extends (or_number 255 (symbol_of (get_or u 0 0)))
    good none f g = cc
    good (some s) f g = let y = symbols-of u f in rw (symbols-number y 0 h, ← y.size) (extended-some w s)

-- width 1
pub bit-b : (v : List ℕ) → last_or 98 v ≡ 98 → vcd_bit v ≡ some (0 ∷ [])
unfolding vcd_bit
bit-b v e = rw e refl

pub bit-last : (v : List ℕ) → (last_or 98 v ≡ 98 → ⊥) → vcd_bit v ≡ symbols_in (last_or 98 v ∷ [])
unfolding vcd_bit
bit-last v f = rw (ne_eqb (last_or 98 v) 98 f) refl

pub change-bit : (b : ℕ) {x : Bit} → maybe_bit (symbol_of b) ≡ Some x → change_of 1 (symbols_in (b ∷ [])) ≡ Some (SingleBit x)
unfolding symbols_in
change-bit b {x} = by (symbol_of b)
  where
    by : (o : Option ℕ) → maybe_bit o ≡ Some x → change_of 1 (bind o (λ s. some (s ∷ []))) ≡ Some (SingleBit x)
    by none e = cc
    by (some s) e = cc

pub change-none : (b : ℕ) → maybe_bit (symbol_of b) ≡ None → change_of 1 (symbols_in (b ∷ [])) ≡ None
unfolding symbols_in
change-none b = by (symbol_of b)
  where
    by : (o : Option ℕ) → maybe_bit o ≡ None → change_of 1 (bind o (λ s. some (s ∷ []))) ≡ None
    by none e = refl
    by (some s) e = cc

-- any width
pub vcd-wide : (w : ℕ) (v : List ℕ) → 1 < w → vcd_symbols w v ≡ text_symbols w (text_of v)
vcd-wide zero v h = absurd (omega arith)
vcd-wide (suc zero) v h = absurd (omega arith)
vcd-wide (suc (suc w)) v h = refl

abbrev Fit : ℕ → List ℕ → Type 0
Fit w s = (length s ≡ w) × (all_symbols s ≡ true)

bit_is : (v : List ℕ) → Where (Fit 1) (vcd_bit v)
unfolding vcd_bit all_symbols
bit_is v =
    let l : List ℕ = last_or 98 v ∷ [] in
    where-pick (Fit 1) (eqb (last_or 98 v) 98) _ _
    (λ e. (refl, refl))
    (λ e. where-map (Symbols l) (Fit 1) (symbols_in l) (λ s y. (y.size, y.all)) (symbols-is l))

vcd-is : (w : ℕ) (v : List ℕ) → Where (Fit w) (vcd_symbols w v)
vcd-is zero v = tt
vcd-is (suc zero) v = bit_is v
vcd-is (suc (suc w)) v =
    let n : ℕ = suc (suc w) in
    let u : List ℕ = text_of v in
    where-map (Text n u) (Fit n) (text_symbols n u) (λ s x. (x.size, x.all)) (text-is n u)

pub vcd-length : (w : ℕ) (v : List ℕ) {s : List ℕ} → vcd_symbols w v ≡ some s → length s ≡ w
vcd-length w v e = (where-some (Fit w) (vcd_symbols w v) (vcd-is w v) e).0

pub vcd-symbols : (w : ℕ) (v : List ℕ) {s : List ℕ} → vcd_symbols w v ≡ some s → all_symbols s ≡ true
vcd-symbols w v e = (where-some (Fit w) (vcd_symbols w v) (vcd-is w v) e).1

-- bytes with symbols are no prefix, so as many of them as the width say their symbols, also after a `b`
no_symbol : (b c : ℕ) {x : ℕ} → symbol_of b ≡ some x → symbol_of c ≡ none → b ≡ c → ⊥
no_symbol b c e f g = let z : ◌≡◌ {A = ℕ} 0 1 = cc in omega arith

no-b : (b : ℕ) {x : ℕ} → symbol_of b ≡ some x → b ≡ 98 → ⊥
unfolding symbol_of
no-b b e = no_symbol b 98 e refl

no-capital : (b : ℕ) {x : ℕ} → symbol_of b ≡ some x → b ≡ 66 → ⊥
unfolding symbol_of
no-capital b e = no_symbol b 66 e refl

symbols-kept : (u : List ℕ) {s : List ℕ} → Symbols u s → without0b u ≡ u
symbols-kept u y = by (ltb 2 (length u)) refl
  where
    by : (t : Bool) → ltb 2 (length u) ≡ t → without0b u ≡ u
    by true e = second-kept u (no-b (get_or u 1 0) (y.at 1 (omega (arith, ltb-true 2 (length u) e))))
    by false e = short-kept u (ltb-false 2 (length u) e)

text-whole : (u : List ℕ) {s : List ℕ} → symbols_in u ≡ some s → 0 < length u → text_symbols (length u) u ≡ some s
unfolding extended
text-whole u {s} e h = text-fits (length u) u h (omega arith) ∙ rw (e, eq-eqb (length s) (length u) (symbols-of u e).size) refl

pub whole-good : (u : List ℕ) {s : List ℕ} → symbols_in u ≡ some s → 0 < length u
    → (vcd_symbols (length u) u ≡ some s) × (vcd_symbols (length u) (98 ∷ u) ≡ some s)
unfolding text_of last_or
whole-good [] e h = absurd (omega arith)
whole-good (b ∷ []) e h =
    let f = no-b b ((symbols-of (b ∷ []) e).at 0 (omega arith)) in
    (bit-last (b ∷ []) f ∙ e, bit-last (98 ∷ b ∷ []) f ∙ e)
whole-good (b ∷ c ∷ u) e h =
    let y = symbols-of (b ∷ c ∷ u) e in
    let first = y.at 0 (omega arith) in
    let said = text-whole (b ∷ c ∷ u) e h in
    let kept = symbols-kept (b ∷ c ∷ u) y in
    (rw (b-absent (b ∷ c ∷ u) (no-b b first) (no-capital b first), kept) said, rw kept said)

-- symbols written by their letters
abbrev pub written : List ℕ → List ℕ
written = map (λ x. get_or letters x 0)

written-symbols : (s : List ℕ) → all_symbols s ≡ true → symbols_in (written s) ≡ some s
unfolding symbols_in all_symbols
written-symbols [] a = refl
written-symbols (x ∷ s) a =
    let h = both_hold (leb x 8) (all_symbols s) a in
    symbols-more (get_or letters x 0) (written s) (letter-symbol x (leb-true x 8 h.0)) (written-symbols s h.1)

-- every vector of symbols can be said
pub letters-good : (s : List ℕ) → all_symbols s ≡ true → (w : ℕ) → 0 < w → length s ≡ w
    → (vcd_symbols w (written s) ≡ some s) × (vcd_symbols w (98 ∷ written s) ≡ some s)
letters-good s a w h e =
    let n : length (written s) ≡ w = length-map s (λ (x : ℕ). get_or letters x 0) ∙ e in
    rw n at (whole-good (written s) (written-symbols s a) (omega arith))
