-- The parts from the last to the first are what the definitions find from the first to the last.
-- Assumes nothing.
use Prim.Native.Nat.{ℕ, zero, suc, ◌+◌, ◌-◌, ◌≤◌, ◌<◌}
use mathlib.Core.Path.{◌≡◌, refl, sym, ap, ap₂, ◌∙◌}
use mathlib.Core.Bool.{Bool, true, false}
use mathlib.Core.List.{List, [], ◌∷◌}
use mathlib.Core.Option.{Option, some, none}
use native.Mathlib.Omega.{arith}
use borrow.Author.Tests.{ltb-true}
use lib.Dec.{ltb}
use lib.ListN.{length, take, drop, length-drop}
use lib.Seq.{drop-drop}
use Rattle.lists.specs.Choice.{pick}
use Rattle.lists.specs.Got.{Got, bad, got}
use Rattle.signal.specs.declared.kind.SignalEncoding.{SignalEncoding}
use Rattle.stream.specs.Entries.{Entry}
use Rattle.image.specs.Block.{Part}
use Rattle.form.specs.Form.{and_then, each}
use Rattle.codec.specs.Layout.{Laid, ill, laid, without, starting, lengths}
use Rattle.codec.specs.Walk.{walked_part}
use Rattle.parts.specs.Parts as found
use Rattle.parts.specs.Parts.{part_in, Parts, parts, add_part, placed, parts_from}
use Rattle.parts.proofs.PartLaws.{got_part, part-get}

abbrev OPart : Type 0
OPart = Option (Part (List Entry))

abbrev pub of_got : (from : ℕ) → Got (List OPart) → Parts
of_got e bad = found.ill
of_got e (got ps r) = parts e ps r

-- by the definitions: offsets to lengths, then the parts
abbrev pub checked : (d : List ℕ) (n : ℕ) → List SignalEncoding → Laid → Parts
checked d n ks ill = found.ill
checked d n ks (laid e l) = of_got e ((each (walked_part n) ks l).get (drop e d))

-- layouts begin inside
abbrev Inside : ℕ → Laid → Type 0
Inside m ill = Unit {0}
Inside m (laid e l) = e ≤ m

inside : (m : ℕ) (os : List ℕ) → Inside m (lengths m os)
unfolding lengths
inside m [] = omega arith
inside m (zero ∷ os) = go (lengths m os) (inside m os)
  where
    go : (l : Laid) → Inside m l → Inside m (without l)
    go ill f = tt
    go (laid e l) f = f
inside m (suc a ∷ os) = go (lengths m os) (inside m os)
  where
    by : (t : Bool) (e : ℕ) (l : List (Option ℕ)) → ltb a e ≡ t → e ≤ m → Inside m (pick t (laid a l) ill)
    by true e l q f = let h = ltb-true a e q in omega arith
    by false e l q f = tt

    go : (l : Laid) → Inside m l → Inside m (starting a l)
    go ill f = tt
    go (laid e l) f = by (ltb a e) e (some (e - suc a) ∷ l) refl f

module _ (d : List ℕ) (m n : ℕ) (room : m ≤ length d) where
  -- a part at a place
  part_at : (k : SignalEncoding) (a e : ℕ) → a < e → e ≤ length d
      → (walked_part n k (some (e - suc a))).get (drop a d) ≡ got_part (part_in k n (take (e - a) (drop a d))) (drop e d)
  part_at k a e h j = go (drop a d) refl
    where
      go : (t : List ℕ) → drop a d ≡ t → (walked_part n k (some (e - suc a))).get t ≡ got_part (part_in k n (take (e - a) t)) (drop e d)
      go [] q = let z : length (drop a d) ≡ 0 = ap length q in absurd (omega (arith, length-drop a d))
      go (x ∷ t) q =
          let z : length (drop a d) ≡ suc (length t) = ap length q in
          let c : suc (e - suc a) ≡ e - a = omega arith in
          let p : a + suc (e - suc a) ≡ e = omega arith in
          part-get n k (e - suc a) x t (omega (arith, length-drop a d))
          ∙ ap₂ (λ (u r : List ℕ). got_part (part_in k n u) r)
          (ap (λ (j : ℕ). take j (x ∷ t)) c) (ap (drop (suc (e - suc a))) (sym q) ∙ drop-drop (suc (e - suc a)) a d ∙ ap (λ (j : ℕ). drop j d) p)

  absent-part : (k : SignalEncoding) (ks : List SignalEncoding) (l : Laid) → checked d n (k ∷ ks) (without l) ≡ placed d n k 0 (checked d n ks l)
  unfolding each
  absent-part k ks ill = refl
  absent-part k ks (laid e l) = go ((each (walked_part n) ks l).get (drop e d))
    where
      go : (g : Got (List OPart)) → of_got e (and_then g (λ ps q. got (none ∷ ps) q)) ≡ placed d n k 0 (of_got e g)
      go bad = refl
      go (got ps r) = refl

  -- a part, then the others
  place-got : (k : SignalEncoding) (a e : ℕ) (o : OPart) (f : List ℕ → Got (List OPart)) (q : List ℕ) (t : Bool) → ltb a e ≡ t → t ≡ true
      → part_in k n (take (e - a) (drop a d)) ≡ o
      → of_got a (and_then (got_part o q) (λ p r. and_then (f r) (λ ps q. got (p ∷ ps) q))) ≡ placed d n k (suc a) (of_got e (f q))
  place-got k a e o f q t w h u = by o u (f q) refl
    where
      by : (o : OPart) → part_in k n (take (e - a) (drop a d)) ≡ o → (g : Got (List OPart)) → f q ≡ g
          → of_got a (and_then (got_part o q) (λ p r. and_then (f r) (λ ps q. got (p ∷ ps) q))) ≡ placed d n k (suc a) (of_got e g)
      by none u bad v = refl
      by none u (got ps r) v = rw (w, h, u) refl
      by (some p) u bad v = rw v refl
      by (some p) u (got ps r) v = rw (v, w, h, u) refl

  present-part : (k : SignalEncoding) (ks : List SignalEncoding) (a : ℕ) (l : Laid) → Inside m l
      → checked d n (k ∷ ks) (starting a l) ≡ placed d n k (suc a) (checked d n ks l)
  present-part k ks a ill f = refl
  present-part k ks a (laid e l) f = by (ltb a e) refl
    where
      each_more : (j : ℕ) (t : List ℕ) → (each (walked_part n) (k ∷ ks) (some j ∷ l)).get t
          ≡ and_then ((walked_part n k (some j)).get t) (λ p r. and_then ((each (walked_part n) ks l).get r) (λ ps q. got (p ∷ ps) q))
      each_more j t = unfold each in refl

      late : (g : Got (List OPart)) → ltb a e ≡ false → found.ill ≡ placed d n k (suc a) (of_got e g)
      late bad q = refl
      late (got ps r) q = rw q refl

      by : (t : Bool) → ltb a e ≡ t → checked d n (k ∷ ks) (pick t (laid a (some (e - suc a) ∷ l)) ill) ≡ placed d n k (suc a) (checked d n ks (laid e l))
      by false q = late ((each (walked_part n) ks l).get (drop e d)) q
      by true q =
          ap (of_got a) (each_more (e - suc a) (drop a d)
          ∙ ap (λ (g : Got OPart). and_then g (λ p r. and_then ((each (walked_part n) ks l).get r) (λ ps q. got (p ∷ ps) q))) (part_at k a e (ltb-true a e q) (omega arith)))
          ∙ place-got k a e (part_in k n (take (e - a) (drop a d))) (λ r. (each (walked_part n) ks l).get r) (drop e d) (ltb a e) refl q refl

  pub parts_are : (ks : List SignalEncoding) (os : List ℕ) → length ks ≡ length os → parts_from d m n ks os ≡ checked d n ks (lengths m os)
  unfolding lengths parts_from
  parts_are [] [] e = unfold each in refl
  parts_are [] (o ∷ os) e = absurd (omega arith)
  parts_are (k ∷ ks) [] e = absurd (omega arith)
  parts_are (k ∷ ks) (zero ∷ os) e = ap (placed d n k 0) (parts_are ks os (omega arith)) ∙ sym (absent-part k ks (lengths m os))
  parts_are (k ∷ ks) (suc a ∷ os) e = ap (placed d n k (suc a)) (parts_are ks os (omega arith)) ∙ sym (present-part k ks a (lengths m os) (inside m os))

-- after the parts stand the bytes after the data
pub parts-rest : (d : List ℕ) (m n : ℕ) (ks : List SignalEncoding) (os : List ℕ) (e : ℕ) (ps : List OPart) (r : List ℕ) → parts_from d m n ks os ≡ parts e ps r → r ≡ drop m d
unfolding parts_from
parts-rest d m n [] [] e ps r q = let u : drop m d ≡ r = cc in sym u
parts-rest d m n [] (o ∷ os) e ps r q = let z : ◌≡◌ {A = ℕ} 0 1 = cc in absurd (omega arith)
parts-rest d m n (k ∷ ks) [] e ps r q = let z : ◌≡◌ {A = ℕ} 0 1 = cc in absurd (omega arith)
parts-rest d m n (k ∷ ks) (o ∷ os) e ps r q = by o (parts_from d m n ks os) (λ b qs t w. parts-rest d m n ks os b qs t w) q
  where
    same : (b : ℕ) (qs : List OPart) (t : List ℕ) → parts b qs t ≡ parts e ps r → t ≡ drop m d → r ≡ drop m d
    same b qs t w f = let u : t ≡ r = cc in sym u ∙ f

    by : (o : ℕ) (x : Parts) → ((b : ℕ) (qs : List OPart) (t : List ℕ) → x ≡ parts b qs t → t ≡ drop m d) → placed d n k o x ≡ parts e ps r → r ≡ drop m d
    by zero found.ill f q = let z : ◌≡◌ {A = ℕ} 0 1 = cc in absurd (omega arith)
    by zero (parts b qs t) f q = same b (none ∷ qs) t q (f b qs t refl)
    by (suc a) found.ill f q = let z : ◌≡◌ {A = ℕ} 0 1 = cc in absurd (omega arith)
    by (suc a) (parts b qs t) f q = go (ltb a b) (part_in k n (take (b - a) (drop a d))) q
      where
        go : (u : Bool) (p : OPart) → pick u (add_part p a qs t) found.ill ≡ parts e ps r → r ≡ drop m d
        go false p q = let z : ◌≡◌ {A = ℕ} 0 1 = cc in absurd (omega arith)
        go true none q = let z : ◌≡◌ {A = ℕ} 0 1 = cc in absurd (omega arith)
        go true (some p) q = same a (some p ∷ qs) t q (f b qs t refl)
