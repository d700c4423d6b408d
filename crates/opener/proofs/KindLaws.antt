-- The kinds of a head, read at a place.
-- Assumes nothing.
use Prim.Native.Nat.{ℕ, zero, suc, ◌+◌, ◌-◌, ◌*◌, ◌≤◌, ◌<◌}
use mathlib.Core.Path.{◌≡◌, refl, sym, ap, ◌∙◌}
use mathlib.Core.Bool.{Bool, true, false, ◌&&◌}
use mathlib.Core.List.{List, [], ◌∷◌}
use mathlib.Core.Option.{Option, some, none}
use native.Mathlib.Omega.{arith}
use native.Mathlib.Decide.{dec_lt}
use borrow.Author.Tests.{leb-true, eqb-true}
use lib.Dec.{leb, eqb}
use lib.ListN.{length, drop}
use Rattle.lists.specs.Choice.{pick}
use Rattle.lists.specs.Got.{Got, bad, got}
use Rattle.signal.specs.declared.kind.SignalEncoding.{SignalEncoding}
use Rattle.signal.specs.declared.kind.SignalEncoding.TheVariants.{BitVector, Real, Absent}
use Rattle.signal.specs.Kind.{known_kind}
use Rattle.image.specs.Head.{kind_from}
use Rattle.form.specs.Form.{and_then, got_if, repeat}
use Rattle.codec.specs.ImageForm.{kind_of, kind_form}
use Rattle.reading.proofs.PlaceLaws.{uint-there, uint-short, repeat-turn, repeat-zero}
use Rattle.parts.specs.Parts.{kinds_at}
use Rattle.opener.specs.Opening.{number_in, known_at}

-- a number is a kind's where the kind that it stands for is known
kind-of : (n : ℕ) → kind_of n ≡ pick (known_kind (kind_from n)) (some (kind_from n)) none
kind-of n = by (leb n 65536) refl (eqb n 0xfffffffe) refl (eqb n 0xffffffff) refl
  where
    by : (a : Bool) → leb n 65536 ≡ a → (b : Bool) → eqb n 0xfffffffe ≡ b → (c : Bool) → eqb n 0xffffffff ≡ c
        → pick a (some (BitVector n)) (pick b (some Real) (pick c (some Absent) none)) ≡ pick (known_kind (pick c Absent (pick b Real (BitVector n))))
        (some (pick c Absent (pick b Real (BitVector n)))) none
    by true p true q c r = let h = leb-true n 65536 p in let k = eqb-true n 0xfffffffe q in absurd (omega arith)
    by true p false q true r = let h = leb-true n 65536 p in let k = eqb-true n 0xffffffff r in absurd (omega arith)
    by true p false q false r = rw p refl
    by false p true q true r = let h = eqb-true n 0xfffffffe q in let k = eqb-true n 0xffffffff r in absurd (omega arith)
    by false p true q false r = refl
    by false p false q true r = refl
    by false p false q false r = rw p refl

known_next : (c : ℕ) (s : List ℕ) (at : ℕ) → known_at (suc c) s at ≡ known_kind (kind_from (number_in s at)) && known_at c s (at + 4)
unfolding known_at
known_next c s at = refl

module _ (c : ℕ) (s : List ℕ) (at : ℕ) where
  abbrev Kinds : Type 0
  Kinds = Got (List SignalEncoding)

  one_more : (t u : Bool) (k : SignalEncoding) (l : List SignalEncoding) (r q : List ℕ)
      → and_then (got_if (pick t (some k) none) r) (λ a r. and_then (pick u (got l q) bad) (λ l q. got (a ∷ l) q)) ≡ pick (t && u) (got (k ∷ l) q) bad
  one_more true true k l r q = refl
  one_more true false k l r q = refl
  one_more false u k l r q = refl

  kinds-turn : at + 4 ≤ length s → (repeat (suc c) kind_form).get (drop at s)
      ≡ and_then (got_if (pick (known_kind (kind_from (number_in s at))) (some (kind_from (number_in s at))) none) (drop (at + 4) s))
      (λ a r. and_then ((repeat c kind_form).get r) (λ l q. got (a ∷ l) q))
  kinds-turn h =
      repeat-turn c kind_form (drop at s)
      ∙ ap (λ (g : Got ℕ). and_then (and_then g (λ a r. got_if (kind_of a) r)) (λ a r. and_then ((repeat c kind_form).get r) (λ l q. got (a ∷ l) q))) (uint-there 4 s at h)
      ∙ ap (λ (o : Option SignalEncoding). and_then (got_if o (drop (at + 4) s)) (λ a r. and_then ((repeat c kind_form).get r) (λ l q. got (a ∷ l) q))) (kind-of (number_in s at))

  kinds-none : at ≤ length s → length s < at + 4 → (repeat (suc c) kind_form).get (drop at s) ≡ bad
  kinds-none i h =
      repeat-turn c kind_form (drop at s)
      ∙ ap (λ (g : Got ℕ). and_then (and_then g (λ a r. got_if (kind_of a) r)) (λ a r. and_then ((repeat c kind_form).get r) (λ l q. got (a ∷ l) q))) (uint-short 4 s at i h)

  by-option : (o : Option SignalEncoding) (r : List ℕ) (f : List ℕ → Kinds) → f r ≡ bad → and_then (got_if o r) (λ a r. and_then (f r) (λ l q. got (a ∷ l) q)) ≡ bad
  by-option none r f e = refl
  by-option (some k) r f e = ap (λ (g : Kinds). and_then g (λ l q. got (k ∷ l) q)) e

  by-then : (o : Option SignalEncoding) (r : List ℕ) (f : List ℕ → Kinds) (g : Kinds) → f r ≡ g
      → and_then (got_if o r) (λ a r. and_then (f r) (λ l q. got (a ∷ l) q)) ≡ and_then (got_if o r) (λ a r. and_then g (λ l q. got (a ∷ l) q))
  by-then none r f g e = refl
  by-then (some k) r f g e = ap (λ (g : Kinds). and_then g (λ l q. got (k ∷ l) q)) e

pub kinds-at : (c : ℕ) (s : List ℕ) (at : ℕ) → at + 4 * c ≤ length s → (repeat c kind_form).get (drop at s) ≡ pick (known_at c s at) (got (kinds_at c s at) (drop (at + 4 * c) s)) bad
unfolding known_at kinds_at
kinds-at zero s at h =
    let e : at ≡ at + 4 * 0 = omega arith in
    repeat-zero kind_form (drop at s) ∙ ap (λ (p : ℕ). got [] (drop p s)) e
kinds-at (suc c) s at h =
    let m : 4 * suc c ≡ 4 + 4 * c = omega arith in
    let e : at + 4 + 4 * c ≡ at + 4 * suc c = omega arith in
    let k : SignalEncoding = kind_from (number_in s at) in
    kinds-turn c s at (omega arith)
    ∙ by-then c s at (pick (known_kind k) (some k) none) (drop (at + 4) s) (λ r. (repeat c kind_form).get r) _ (kinds-at c s (at + 4) (omega arith))
    ∙ one_more c s at (known_kind k) (known_at c s (at + 4)) k (kinds_at c s (at + 4)) (drop (at + 4) s) (drop (at + 4 + 4 * c) s)
    ∙ ap (λ (p : ℕ). pick (known_kind k && known_at c s (at + 4)) (got (k ∷ kinds_at c s (at + 4)) (drop p s)) bad) e

pub kinds-short : (c : ℕ) (s : List ℕ) (at : ℕ) → at ≤ length s → length s < at + 4 * c → (repeat c kind_form).get (drop at s) ≡ bad
kinds-short zero s at i h = absurd (omega arith)
kinds-short (suc c) s at i h = by (λ k. kinds-short c s (at + 4) k) (dec_lt (length s) (at + 4))
  where
    by : (at + 4 ≤ length s → length s < at + 4 + 4 * c → (repeat c kind_form).get (drop (at + 4) s) ≡ bad) → Dec (length s < at + 4) → (repeat (suc c) kind_form).get (drop at s) ≡ bad
    by f (yes q) = kinds-none c s at i q
    by f (no q) =
        let m : 4 * suc c ≡ 4 + 4 * c = omega arith in
        kinds-turn c s at (omega arith)
        ∙ by-option c s at (pick (known_kind (kind_from (number_in s at))) (some (kind_from (number_in s at))) none) (drop (at + 4) s) (λ r. (repeat c kind_form).get r) (f (omega arith) (omega arith))

-- ---- the loop over the kinds

pub known-bad : (n i : ℕ) (s : List ℕ) (at : ℕ) (k : SignalEncoding) (t : Bool) → i < n → k ≡ kind_from (number_in s (at + 4 * i)) → t ≡ known_kind k → t ≡ false
    → false ≡ known_at (n - i) s (at + 4 * i)
known-bad n i s at k t h e f g = go (n - i) (omega arith)
  where
    go : (c : ℕ) → 0 < c → false ≡ known_at c s (at + 4 * i)
    go zero h = absurd (omega arith)
    go (suc c) h = sym (known_next c s (at + 4 * i) ∙ ap (λ (t : Bool). t && known_at c s (at + 4 * i + 4)) (ap known_kind (sym e) ∙ sym f ∙ g))

pub known_more : (n i : ℕ) (s : List ℕ) (at : ℕ) (k : SignalEncoding) (t : Bool) → i < n → k ≡ kind_from (number_in s (at + 4 * i)) → t ≡ known_kind k → t ≡ true
    → known_at (n - i) s (at + 4 * i) ≡ known_at (n - (i + 1)) s (at + 4 * (i + 1))
known_more n i s at k t h e f g =
    let b : at + 4 * i + 4 ≡ at + 4 * (i + 1) = omega arith in
    go (n - i) (n - (i + 1)) (omega arith) ∙ ap (known_at (n - (i + 1)) s) b
  where
    go : (c d : ℕ) → c ≡ suc d → known_at c s (at + 4 * i) ≡ known_at d s (at + 4 * i + 4)
    go c d q =
        ap (λ (c : ℕ). known_at c s (at + 4 * i)) q ∙ known_next d s (at + 4 * i)
        ∙ ap (λ (t : Bool). t && known_at d s (at + 4 * i + 4)) (ap known_kind (sym e) ∙ sym f ∙ g)

pub known-end : (n i : ℕ) (s : List ℕ) (at : ℕ) → n ≡ i → known_at (n - i) s (at + 4 * i) ≡ true
known-end n i s at e = go (n - i) (omega arith)
  where
    none_left : (p : ℕ) → known_at 0 s p ≡ true
    none_left p = unfold known_at in refl

    go : (c : ℕ) → c ≡ 0 → known_at c s (at + 4 * i) ≡ true
    go c q = ap (λ (c : ℕ). known_at c s (at + 4 * i)) q ∙ none_left (at + 4 * i)
