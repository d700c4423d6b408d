-- One signal more, in front; the signals that the code reads are those of the definitions.
-- Assumes nothing.
use Prim.Native.Nat.{ℕ, zero, suc, ◌+◌, ◌-◌, ◌*◌, ◌≤◌, ◌<◌}
use mathlib.Core.Path.{◌≡◌, refl, sym, ap, ap₂, ◌∙◌}
use mathlib.Core.Bool.{Bool, true, false}
use mathlib.Core.List.{List, ◌∷◌}
use mathlib.Core.Option as math
use native.Mathlib.Omega.{arith}
use borrow.Author.Tests.{lt-ltb, le-ltb, ltb-true}
use lib.Dec.{ltb, eqb}
use lib.ListN.{length, take, drop}
use lib.Seq.{drop-drop}
use Rattle.lists.specs.Choice.{pick, is_some}
use Rattle.numbers.specs.LittleEndian.{unle}
use Rattle.signal.specs.declared.kind.SignalEncoding.{SignalEncoding}
use Rattle.stream.specs.Entries.{Entry}
use Rattle.image.specs.Block.{Part}
use Rattle.image.specs.Head.{kind_from}
use Rattle.reading.specs.Decided.{uints}
use Rattle.reading.proofs.PlaceLaws.{uints-more}
use Rattle.parts.specs.Parts.{part_in, Parts, ill, parts, add_part, placed, parts_from, start_of, one_part, at_zero, are_parts, kinds_at}
use Rattle.std.specs.Prelude.{Option, Some, None}

module _ (d : List ℕ) (n : ℕ) (k : SignalEncoding) (o e : ℕ) where
  pub one_none : o ≡ 0 → Some e ≡ one_part d n k o e
  unfolding one_part
  one_none z = rw z refl

  pub one-late : e < o → None ≡ one_part d n k o e
  unfolding one_part
  one-late h = go o h
    where
      go : (o : ℕ) → e < o → None ≡ one_part d n k o e
      go zero h = absurd (omega arith)
      go (suc a) h = ap (λ (t : Bool). pick t (pick (is_some (part_in k n (take (e - a) (drop a d)))) (Some a) None) None) (sym (le-ltb a e (omega arith)))

  pub one-part : (s : List ℕ) (base : ℕ) (t : Bool) (j f : ℕ) → d ≡ drop base s → (o ≡ 0 → ⊥) → o ≤ e → t ≡ is_some (part_in k n (take j (drop f s))) → j ≡ e - (o - 1) → f ≡ base + (o - 1)
      → pick t (Some (o - 1)) None ≡ one_part d n k o e
  unfolding one_part
  one-part s base t j f w z h q u v = go o z h u v
    where
      go : (o : ℕ) → (o ≡ 0 → ⊥) → o ≤ e → j ≡ e - (o - 1) → f ≡ base + (o - 1) → pick t (Some (o - 1)) None ≡ one_part d n k o e
      go zero z h u v = absurd (z refl)
      go (suc a) z h u v =
          let w1 : suc a - 1 ≡ a = omega arith in
          let uu : j ≡ e - a = omega arith in
          let vv : f ≡ base + a = omega arith in
          ap₂ (λ (b : Bool) (a : ℕ). pick b (Some a) None)
          (q ∙ ap₂ (λ (j : ℕ) (t : List ℕ). is_some (part_in k n (take j t))) uu (ap (λ (f : ℕ). drop f s) vv ∙ sym (drop-drop a base s) ∙ ap (drop a) (sym w))) w1
          ∙ ap (λ (t : Bool). pick t (pick (is_some (part_in k n (take (e - a) (drop a d)))) (Some a) None) None) (sym (lt-ltb a e (omega arith)))

start-placed : (d : List ℕ) (n : ℕ) (k : SignalEncoding) (o e : ℕ) (x : Parts) → start_of x ≡ Some e → start_of (placed d n k o x) ≡ one_part d n k o e
unfolding one_part
start-placed d n k o e ill q = let z : ◌≡◌ {A = ℕ} 0 1 = cc in absurd (omega arith)
start-placed d n k zero e (parts b ps r) q = q
start-placed d n k (suc a) e (parts b ps r) q =
    let b' : b ≡ e = cc in
    rw b' (by (ltb a e) (part_in k n (take (e - a) (drop a d))))
  where
    by : (t : Bool) (p : math.Option (Part (List Entry))) → start_of (pick t (add_part p a ps r) ill) ≡ pick t (pick (is_some p) (Some a) None) None
    by true math.none = refl
    by true (math.some p) = refl
    by false p = refl

ill-placed : (d : List ℕ) (n : ℕ) (k : SignalEncoding) (o : ℕ) (x : Parts) → start_of x ≡ None → start_of (placed d n k o x) ≡ None
ill-placed d n k zero ill q = refl
ill-placed d n k (suc a) ill q = refl
ill-placed d n k o (parts b ps r) q = let z : ◌≡◌ {A = ℕ} 0 1 = cc in absurd (omega arith)

kinds-next : (c : ℕ) (s : List ℕ) (at : ℕ) → kinds_at (suc c) s at ≡ kind_from (unle (take 4 (drop at s))) ∷ kinds_at c s (at + 4)
unfolding kinds_at
kinds-next c s at = refl

kinds-more : (c : ℕ) (s : List ℕ) (at : ℕ) → 0 < c → kinds_at c s at ≡ kind_from (unle (take 4 (drop at s))) ∷ kinds_at (c - 1) s (at + 4)
kinds-more zero s at h = absurd (omega arith)
kinds-more (suc c) s at h =
    let e : c ≡ suc c - 1 = omega arith in
    kinds-next c s at ∙ ap (λ (c : ℕ). kind_from (unle (take 4 (drop at s))) ∷ kinds_at c s (at + 4)) e

from_more : (d : List ℕ) (m n : ℕ) (k : SignalEncoding) (ks : List SignalEncoding) (o : ℕ) (os : List ℕ) → parts_from d m n (k ∷ ks) (o ∷ os) ≡ placed d n k o (parts_from d m n ks os)
unfolding parts_from
from_more d m n k ks o os = refl

-- the parts from signal i on
unfoldable pub from_at : List ℕ → (kat offs base m count n i : ℕ) → Parts
from_at s kat offs base m count n i = parts_from (drop base s) m n (kinds_at (count - i) s (kat + 4 * i)) (uints 4 (count - i) s (offs + 4 * i))

-- where they begin
unfoldable pub start_at : List ℕ → (kat offs base m count n i : ℕ) → Option ℕ
start_at s kat offs base m count n i = start_of (from_at s kat offs base m count n i)

module _ (s : List ℕ) (kat offs base m count n : ℕ) where
  pub start_none : (i : ℕ) → count ≡ i → start_at s kat offs base m count n i ≡ Some m
  unfolding from_at start_at
  start_none i e = let z : count - i ≡ 0 = omega arith in
      ap (λ (c : ℕ). start_of (parts_from (drop base s) m n (kinds_at c s (kat + 4 * i)) (uints 4 c s (offs + 4 * i)))) z ∙ none_from
    where
      none_from : start_of (parts_from (drop base s) m n (kinds_at 0 s (kat + 4 * i)) (uints 4 0 s (offs + 4 * i))) ≡ Some m
      none_from = unfold parts_from kinds_at uints in refl

  from-turn : (i : ℕ) → 0 < i → i ≤ count
      → from_at s kat offs base m count n (i - 1)
      ≡ placed (drop base s) n (kind_from (unle (take 4 (drop (kat + 4 * (i - 1)) s)))) (unle (take 4 (drop (offs + 4 * (i - 1)) s))) (from_at s kat offs base m count n i)
  unfolding from_at
  from-turn i h k =
      let a : count - (i - 1) - 1 ≡ count - i = omega arith in
      let b : offs + 4 * (i - 1) + 4 ≡ offs + 4 * i = omega arith in
      let c : kat + 4 * (i - 1) + 4 ≡ kat + 4 * i = omega arith in
      let p : 0 < count - (i - 1) = omega arith in
      let K : SignalEncoding = kind_from (unle (take 4 (drop (kat + 4 * (i - 1)) s))) in
      let o : ℕ = unle (take 4 (drop (offs + 4 * (i - 1)) s)) in
      ap₂ (λ (ks : List SignalEncoding) (os : List ℕ). parts_from (drop base s) m n ks os)
      (kinds-more (count - (i - 1)) s (kat + 4 * (i - 1)) p ∙ ap₂ (λ (z q : ℕ). K ∷ kinds_at z s q) a c)
      (uints-more 4 (count - (i - 1)) s (offs + 4 * (i - 1)) p ∙ ap₂ (λ (z q : ℕ). o ∷ uints 4 z s q) a b)
      ∙ from_more (drop base s) m n K (kinds_at (count - i) s (kat + 4 * i)) o (uints 4 (count - i) s (offs + 4 * i))

  pub turn_is : (i e : ℕ) (k : SignalEncoding) (o : ℕ) (x : Option ℕ) → 0 < i → i ≤ count → start_at s kat offs base m count n i ≡ Some e
      → k ≡ kind_from (unle (take 4 (drop (kat + 4 * (i - 1)) s))) → o ≡ unle (take 4 (drop (offs + 4 * (i - 1)) s))
      → x ≡ one_part (drop base s) n k o e → start_at s kat offs base m count n (i - 1) ≡ x
  unfolding start_at
  turn_is i e k o x h l f q t u =
      let K : SignalEncoding = kind_from (unle (take 4 (drop (kat + 4 * (i - 1)) s))) in
      ap start_of (from-turn i h l)
      ∙ start-placed (drop base s) n K (unle (take 4 (drop (offs + 4 * (i - 1)) s))) e (from_at s kat offs base m count n i) f
      ∙ ap (λ (o : ℕ). one_part (drop base s) n K o e) (sym t)
      ∙ ap (λ (k : SignalEncoding). one_part (drop base s) n k o e) (sym q) ∙ sym u

  pub wrong-all : (i : ℕ) → i ≤ count → start_at s kat offs base m count n i ≡ None → start_at s kat offs base m count n 0 ≡ None
  unfolding start_at
  wrong-all zero h e = e
  wrong-all (suc i) h e =
      let j : suc i - 1 ≡ i = omega arith in
      wrong-all i (omega arith) (ap (λ (i : ℕ). start_of (from_at s kat offs base m count n i)) (sym j) ∙ ap start_of (from-turn (suc i) (omega arith) h)
      ∙ ill-placed (drop base s) n _ (unle (take 4 (drop (offs + 4 * (suc i - 1)) s))) (from_at s kat offs base m count n (suc i)) e)

  first-is : start_at s kat offs base m count n 0 ≡ start_of (parts_from (drop base s) m n (kinds_at count s kat) (uints 4 count s offs))
  unfolding from_at start_at
  first-is =
      let a : count - 0 ≡ count = omega arith in
      let b : kat + 4 * 0 ≡ kat = omega arith in
      let c : offs + 4 * 0 ≡ offs = omega arith in
      ap (λ (z : ℕ). start_of (parts_from (drop base s) m n (kinds_at z s (kat + 4 * 0)) (uints 4 z s (offs + 4 * 0)))) a
      ∙ ap₂ (λ (p q : ℕ). start_of (parts_from (drop base s) m n (kinds_at count s p) (uints 4 count s q))) b c

  pub are-wrong : start_at s kat offs base m count n 0 ≡ None → false ≡ are_parts (drop base s) m n (kinds_at count s kat) (uints 4 count s offs)
  unfolding are_parts
  are-wrong e = sym (ap at_zero (sym first-is ∙ e))

  pub are-from : (i e : ℕ) → i ≡ 0 → start_at s kat offs base m count n i ≡ Some e → eqb e 0 ≡ are_parts (drop base s) m n (kinds_at count s kat) (uints 4 count s offs)
  unfolding are_parts
  are-from i e z h = sym (ap at_zero (sym first-is ∙ ap (λ (i : ℕ). start_at s kat offs base m count n i) (sym z) ∙ h))

pub one_lower : (d : List ℕ) (n : ℕ) (k : SignalEncoding) (o e a : ℕ) (x : Option ℕ) → x ≡ one_part d n k o e → x ≡ Some a → a ≤ e
unfolding one_part
one_lower d n k zero e a x p q = let z : e ≡ a = cc in omega arith
one_lower d n k (suc b) e a x p q = go (ltb b e) refl (is_some (part_in k n (take (e - b) (drop b d)))) (sym p ∙ q)
  where
    go : (t : Bool) → ltb b e ≡ t → (u : Bool) → pick t (pick u (Some b) None) None ≡ Some a → a ≤ e
    go true f true g = let h = ltb-true b e f in let z : b ≡ a = cc in omega arith
    go true f false g = let z : ◌≡◌ {A = ℕ} 0 1 = cc in absurd (omega arith)
    go false f u g = let z : ◌≡◌ {A = ℕ} 0 1 = cc in absurd (omega arith)

pub kinds-length : (c : ℕ) (s : List ℕ) (at : ℕ) → length (kinds_at c s at) ≡ c
unfolding kinds_at
kinds-length zero s at = refl
kinds-length (suc c) s at = ap suc (kinds-length c s (at + 4))
