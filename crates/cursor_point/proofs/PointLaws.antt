-- What passing changes makes of the point is what `pushed` makes of the entries kept, with the one that `last_up_to` finds among them: the times
-- of entries do not fall, so it is the last of those kept up to t.
-- Assumes nothing.
use Prim.Native.Nat.{ℕ, suc, ◌+◌, ◌≤◌, ◌<◌}
use mathlib.Core.Path.{◌≡◌, refl, sym, ap, ◌∙◌}
use mathlib.Core.Bool.{Bool, true, false}
use mathlib.Core.List.{List, [], ◌∷◌, ◌++◌}
use mathlib.Core.Option.{Option, some, none}
use native.Mathlib.Omega.{arith}
use borrow.Author.Tests.{le-leb, lt-leb, leb-true}
use lib.Dec.{leb}
use lib.ListN.{length, get_or}
use Rattle.lists.specs.Choice.{pick}
use Rattle.lists.proofs.SameLaws.{false-true}
use Rattle.signal.specs.Content.{Content}
use Rattle.stream.specs.Entries.{Entry}
use Rattle.stream.proofs.RepeatLaws.{repeats-equal}
use Rattle.loaded.specs.Loading.{repeats_last, pushed}
use Rattle.loaded.specs.Reader.{last_up_to}
use Rattle.loaded.proofs.CursorLaws.{last_more}
use Rattle.entry_same.specs.Kept.{repeats_kept, last_content}
use Rattle.entry_same.proofs.KeptLaws.{repeats-last}
use Rattle.cursor_point.specs.Point.{Point, point, unpointed, kept, passed, all_passed}

-- the entry that was found is pointed to; its number is one less than the count
abbrev pub pointing : (times : List ℕ) → Option (ℕ × Entry) → Point
pointing ts none = unpointed
pointing ts (some q) = point (suc q.0) (get_or ts q.1.index 0) (some q.1.content)

abbrev pub holding : (times : List ℕ) (t : ℕ) → List Entry → Point
holding ts t es = pointing ts (last_up_to ts t none 0 es)

-- ---- the order of times

-- no entry is after u
abbrev pub UpTo : (times : List ℕ) (u : ℕ) → List Entry → Type 0
UpTo ts u [] = Unit {0}
UpTo ts u (e ∷ es) = (get_or ts e.index 0 ≤ u) × UpTo ts u es

-- the times of the entries do not fall, from u on
abbrev pub InOrder : (times : List ℕ) (u : ℕ) → List Entry → Type 0
InOrder ts u [] = Unit {0}
InOrder ts u (e ∷ es) = (u ≤ get_or ts e.index 0) × InOrder ts (get_or ts e.index 0) es

pub up-later : (ts : List ℕ) (u v : ℕ) (es : List Entry) → u ≤ v → UpTo ts u es → UpTo ts v es
up-later ts u v [] h k = tt
up-later ts u v (e ∷ es) h k = (omega (arith, k.0), up-later ts u v es h k.1)

pub order-earlier : (ts : List ℕ) (u v : ℕ) (es : List Entry) → u ≤ v → InOrder ts v es → InOrder ts u es
order-earlier ts u v [] h k = tt
order-earlier ts u v (e ∷ es) h k = (omega (arith, k.0), k.1)

up_more : (ts : List ℕ) (u : ℕ) (es : List Entry) (e : Entry) → UpTo ts u es → get_or ts e.index 0 ≤ u → UpTo ts u (es ++ e ∷ [])
up_more ts u [] e h k = (k, tt)
up_more ts u (a ∷ es) e h k = (h.0, up_more ts u es e h.1 k)

up-picked : (ts : List ℕ) (u : ℕ) (b : Bool) (es : List Entry) (e : Entry) → UpTo ts u es → get_or ts e.index 0 ≤ u → UpTo ts u (pick b es (es ++ e ∷ []))
up-picked ts u true es e h k = h
up-picked ts u false es e h k = up_more ts u es e h k

pub pushed-up : (ts : List ℕ) (u : ℕ) (out es : List Entry) → UpTo ts u out → UpTo ts u es → UpTo ts u (pushed out es)
unfolding pushed
pushed-up ts u out [] h k = h
pushed-up ts u out (e ∷ es) h k =
    pushed-up ts u (pick (repeats_last out e.content) out (out ++ e ∷ [])) es (up-picked ts u (repeats_last out e.content) out e h k.0) k.1

-- ---- where no entry is after t, the last is found

last_found : (ts : List ℕ) (t i : ℕ) (e : Entry) (es : List Entry) → UpTo ts t es
    → (a : Entry) × (last_up_to ts t (some (i, e)) (suc i) es ≡ some (i + length es, a)) × (last_content (e ∷ es) ≡ some a.content)
unfolding last_up_to
last_found ts t i e [] h = let z : i + 0 ≡ i = omega arith in (e, rw z refl, refl)
last_found ts t i e (f ∷ es) h =
    let r = last_found ts t (suc i) f es h.1 in
    let z : suc i + length es ≡ i + suc (length es) = omega arith in
    (r.0, rw (le-leb (get_or ts f.index 0) t h.0) (r.1 ∙ rw z refl), r.2)

held-last : (ts : List ℕ) (t : ℕ) (es : List Entry) → UpTo ts t es → ((holding ts t es).count ≡ length es) × ((holding ts t es).content ≡ last_content es)
unfolding last_up_to
held-last ts t [] h = (refl, refl)
held-last ts t (a ∷ es) h =
    let r = last_found ts t 0 a es h.1 in
    let z : suc (0 + length es) ≡ suc (length es) = omega arith in
    rw (le-leb (get_or ts a.index 0) t h.0, r.1) (z, sym r.2)

-- ---- one entry more

module _ (ts : List ℕ) (t : ℕ) (es : List Entry) (e : Entry) where
  abbrev held : Point
  held = holding ts t es

  abbrev u : ℕ
  u = get_or ts e.index 0

  more-found : (b : Bool) → leb u t ≡ b → holding ts t (es ++ e ∷ []) ≡ pointing ts (pick b (some (0 + length es, e)) (last_up_to ts t none 0 es))
  more-found b q = ap (pointing ts) (last_more ts t none 0 es e ∙ ap (λ (a : Bool). pick a (some (0 + length es, e)) (last_up_to ts t none 0 es)) q)

  -- after t nothing is found
  over-more : leb u t ≡ false → (b : Bool) → held ≡ holding ts t (pick b es (es ++ e ∷ []))
  over-more q true = refl
  over-more q false = sym (more-found false q)

  kept_more : leb u t ≡ true → UpTo ts t es → kept held u e.content ≡ holding ts t (pick (repeats_last es e.content) es (es ++ e ∷ []))
  unfolding kept
  kept_more q h =
      let l = held-last ts t es h in
      ap (λ (c : Option Content). pick (repeats_kept c e.content) held (point (suc held.count) u (some e.content))) l.1
      ∙ ap (λ (b : Bool). pick b held (point (suc held.count) u (some e.content))) (repeats-last es e.content)
      ∙ by l.0 (repeats_last es e.content)
    where
      by : held.count ≡ length es → (b : Bool) → pick b held (point (suc held.count) u (some e.content)) ≡ holding ts t (pick b es (es ++ e ∷ []))
      by n true = refl
      by n false =
          let z : suc held.count ≡ suc (0 + length es) = omega arith in
          ap (λ (m : ℕ). point m u (some e.content)) z ∙ sym (more-found true q)

  passed-more : UpTo ts u es → passed t held u e.content ≡ holding ts t (pick (repeats_last es e.content) es (es ++ e ∷ []))
  unfolding passed
  passed-more h = by (leb u t) refl
    where
      by : (b : Bool) → leb u t ≡ b → pick b (kept held u e.content) held ≡ holding ts t (pick (repeats_last es e.content) es (es ++ e ∷ []))
      by true q = kept_more q (up-later ts u t es (leb-true u t q) h)
      by false q = over-more q (repeats_last es e.content)

pub passed-pushed : (ts : List ℕ) (t u : ℕ) (out es : List Entry) → UpTo ts u out → InOrder ts u es → all_passed ts t (holding ts t out) es ≡ holding ts t (pushed out es)
unfolding all_passed pushed
passed-pushed ts t u out [] h k = refl
passed-pushed ts t u out (e ∷ es) h k =
    let v : ℕ = get_or ts e.index 0 in
    let g = up-later ts u v out k.0 h in
    ap (λ (s : Point). all_passed ts t s es) (passed-more ts t out e g)
    ∙ passed-pushed ts t v (pick (repeats_last out e.content) out (out ++ e ∷ [])) es (up-picked ts v (repeats_last out e.content) out e g (omega arith)) k.1

-- ---- after t nothing is kept

passed_over : (t : ℕ) (s : Point) (u : ℕ) (c : Content) → t < u → s ≡ passed t s u c
unfolding passed
passed_over t s u c h = rw (lt-leb u t h) refl

pub none_passed : (ts : List ℕ) (t u : ℕ) (s : Point) (es : List Entry) → t < u → InOrder ts u es → s ≡ all_passed ts t s es
unfolding all_passed
none_passed ts t u s [] h k = refl
none_passed ts t u s (e ∷ es) h k =
    let v : ℕ = get_or ts e.index 0 in
    none_passed ts t v s es (omega (arith, k.0)) k.1 ∙ ap (λ (r : Point). all_passed ts t r es) (passed_over t s v e.content (omega (arith, k.0)))

-- ---- how many are kept

kept-count : (s : Point) (u : ℕ) (c : Content) → (kept s u c).count ≤ suc s.count
unfolding kept
kept-count s u c = by (repeats_kept s.content c)
  where
    by : (b : Bool) → (pick b s (point (suc s.count) u (some c))).count ≤ suc s.count
    by true = omega arith
    by false = omega arith

pub passed-count : (t : ℕ) (s : Point) (u : ℕ) (c : Content) → (passed t s u c).count ≤ suc s.count
unfolding passed
passed-count t s u c = by (leb u t)
  where
    by : (b : Bool) → (pick b (kept s u c) s).count ≤ suc s.count
    by true = kept-count s u c
    by false = omega arith

pub all-count : (ts : List ℕ) (t : ℕ) (s : Point) (es : List Entry) → (all_passed ts t s es).count ≤ s.count + length es
unfolding all_passed
all-count ts t s [] = omega arith
all-count ts t s (e ∷ es) =
    omega (arith, all-count ts t (passed t s (get_or ts e.index 0) e.content) es, passed-count t s (get_or ts e.index 0) e.content)

-- ---- one change, by what the code finds of it

pub passed-kept : (t : ℕ) (s : Point) (u : ℕ) (c : Content) → u ≤ t → kept s u c ≡ passed t s u c
unfolding passed
passed-kept t s u c h = rw (le-leb u t h) refl

repeated : (o : Option Content) (c : Content) → repeats_kept o c ≡ true → o ≡ some c
repeated none c e = false-true e
repeated (some a) c e = ap some (repeats-equal a c e).0

module _ (s : Point) (u : ℕ) (c : Content) (r : Bool) (e : r ≡ repeats_kept s.content c) where
  -- a repeat has the content of the one that it repeats
  pub kept_same : r ≡ true → point s.count s.time (some c) ≡ kept s u c
  unfolding kept
  kept_same f = ap (point s.count s.time) (sym (repeated s.content c (sym e ∙ f))) ∙ rw (← e, f) refl

  pub kept_new : r ≡ false → point (s.count + 1) u (some c) ≡ kept s u c
  unfolding kept
  kept_new f = let z : s.count + 1 ≡ suc s.count = omega arith in rw (← e, f, z) refl
