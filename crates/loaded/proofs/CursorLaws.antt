-- The cursor of a signal that is there, in a long enough buffer; and the entry that it finds: none before the first, else one of the signal's.
-- Assumes nothing.
use Prim.Native.Nat.{ℕ, suc, ◌+◌, ◌≤◌, ◌<◌}
use mathlib.Core.Path.{◌≡◌, refl, ◌∙◌}
use mathlib.Core.Bool.{Bool, true, false}
use mathlib.Core.List.{List, [], ◌∷◌, ◌++◌}
use mathlib.Core.Option.{Option, some, none}
use native.Mathlib.Omega.{arith}
use borrow.Author.Tests.{lt-leb, le-ltb}
use lib.Dec.{leb}
use lib.ListN.{length, get_or}
use Rattle.lists.specs.Choice.{pick}
use Rattle.signal.specs.Kind.{width_of}
use Rattle.stream.specs.Entries.{Entry}
use Rattle.image.specs.Image.{Image}
use Rattle.loaded.specs.Opener.{kind_at}
use Rattle.loaded.specs.Loading.{Load, loads}
use Rattle.loaded.specs.Reader.{unknown_signal, last_up_to, entry_at, pointed, cursor_in}

pub cursor-known : (x : Image) (g t : ℕ) (out : List ℕ) → unknown_signal x g ≡ false → width_of (kind_at x g) ≤ length out
    → cursor_in x g t out ≡ pointed (loads g x.blocks).times (entry_at (loads g x.blocks) t) out
unfolding cursor_in
cursor-known x g t out u w = rw (u, le-ltb (length out) (width_of (kind_at x g)) w) refl

-- ---- entries after t are not found, so before the first none is

abbrev pub Each : (Entry → Type 0) → List Entry → Type 0
Each P [] = Unit {0}
Each P (e ∷ es) = P e × Each P es

abbrev pub After : (times : List ℕ) (t : ℕ) → Entry → Type 0
After ts t e = t < get_or ts e.index 0

last-before : (ts : List ℕ) (t : ℕ) (p : Option (ℕ × Entry)) (i : ℕ) (es : List Entry) → Each (After ts t) es → last_up_to ts t p i es ≡ p
unfolding last_up_to
last-before ts t p i [] f = refl
last-before ts t p i (e ∷ es) f = rw (lt-leb (get_or ts e.index 0) t f.0) (last-before ts t p (suc i) es f.1)

pub before-first : (l : Load) (t : ℕ) → Each (After l.times t) l.entries → entry_at l t ≡ none
before-first l t f = last-before l.times t none 0 l.entries f

-- ---- what holds of each entry holds of the one that is found

abbrev pub Holds : (Entry → Type 0) → Option (ℕ × Entry) → Type 0
Holds P none = Unit {0}
Holds P (some q) = P q.1

pub last-holds : (P : Entry → Type 0) (ts : List ℕ) (t : ℕ) (p : Option (ℕ × Entry)) (i : ℕ) (es : List Entry) → Holds P p → Each P es → Holds P (last_up_to ts t p i es)
unfolding last_up_to
last-holds P ts t p i [] h f = h
last-holds P ts t p i (e ∷ es) h f =
    last-holds P ts t (pick (leb (get_or ts e.index 0) t) (some (i, e)) p) (suc i) es (by (leb (get_or ts e.index 0) t)) f.1
  where
    by : (b : Bool) → Holds P (pick b (some (i, e)) p)
    by true = f.0
    by false = h

-- ---- one entry more

pub last_more : (ts : List ℕ) (t : ℕ) (p : Option (ℕ × Entry)) (i : ℕ) (es : List Entry) (e : Entry)
    → last_up_to ts t p i (es ++ e ∷ []) ≡ pick (leb (get_or ts e.index 0) t) (some (i + length es, e)) (last_up_to ts t p i es)
unfolding last_up_to
last_more ts t p i [] e = let z : i + 0 ≡ i = omega arith in rw z refl
last_more ts t p i (a ∷ es) e =
    let z : suc i + length es ≡ i + suc (length es) = omega arith in
    last_more ts t (pick (leb (get_or ts a.index 0) t) (some (i, a)) p) (suc i) es e ∙ rw z refl
