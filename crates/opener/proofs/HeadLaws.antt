-- The opener's tests are those of the definitions.
-- Assumes nothing.
use Prim.Native.Nat.{ℕ, ◌+◌, ◌*◌, ◌≤◌, ◌<◌}
use mathlib.Core.Path.{◌≡◌, refl, sym, ap, ap₂, ◌∙◌}
use mathlib.Core.Bool.{Bool, true, false, ◌&&◌, and-false, and-true}
use mathlib.Core.List.{List, [], ◌∷◌, ◌++◌}
use mathlib.Core.Option.{some, none}
use native.Mathlib.Omega.{arith}
use native.Mathlib.Decide.{ℕ_discrete}
use borrow.Author.Tests.{leb-true, leb-false, eq-eqb, ne_eqb}
use lib.Dec.{leb, eqb}
use lib.ListN.{length, drop, length-append, length-drop}
use Rattle.lists.specs.Bytes.{Bytes}
use Rattle.lists.specs.Choice.{pick, is_some}
use Rattle.lists.specs.Got.{Got, bad, got}
use Rattle.numbers.specs.LittleEndian.{le}
use Rattle.numbers.proofs.LittleEndianLaws.{length-le}
use Rattle.signal.specs.declared.kind.SignalEncoding.{SignalEncoding}
use Rattle.stream.specs.Entries.{Entry}
use Rattle.image.specs.Block.{Block}
use Rattle.image.specs.Head.{head_size, image_limit}
use Rattle.image.specs.Image.{Image, image}
use Rattle.form.specs.Form.{Form, and_then, got_if, if_yes, pair, repeat, uint, ended}
use Rattle.form.proofs.FormLaws.{pair-laws, uint_laws}
use Rattle.codec.specs.ImageForm.{kind_form, Head, Numbers, head_from, head_form}
use Rattle.codec.specs.Walk.{head_fits?, walk_blocks, walk_form, walk}
use Rattle.reading.specs.Decided.{is_yes}
use Rattle.reading.proofs.DecidedLaws.{yes_le, yes_both, yes-map}
use Rattle.reading.proofs.PlaceLaws.{uint-there}
use Rattle.parts.specs.Parts.{kinds_at}
use Rattle.parts.proofs.SignalLaws.{kinds-length}
use Rattle.blocks.proofs.FrontLaws.{pair-got}
use Rattle.opener.specs.Opening.{number_in, numbers_fit, known_at, is_head, at_end, blocks_fill}
use Rattle.opener.proofs.KindLaws.{kinds-at, kinds-short}

abbrev Blocks : Type 0
Blocks = List (Block (List Entry))

abbrev numbers_form : Form Numbers
numbers_form = pair (uint 4) (pair (uint 4) (pair (uint 4) (uint 4)))

abbrev numbers_at : List ℕ → Numbers
numbers_at b = (number_in b 0, (number_in b 4, (number_in b 8, number_in b 12)))

-- the head that bytes have
abbrev head_in : List ℕ → Head
head_in b = head_from (numbers_at b) (kinds_at (number_in b 0) b 16)

-- ---- the head

module _ (b : List ℕ) (y : Bytes b) where
  numbers-there : 16 ≤ length b → numbers_form.get b ≡ got (numbers_at b) (drop 16 b)
  numbers-there h =
      pair-got (uint 4) (pair (uint 4) (pair (uint 4) (uint 4))) b (number_in b 0) (drop 4 b) _ (drop 16 b) (uint-there 4 b 0 (omega arith))
      (pair-got (uint 4) (pair (uint 4) (uint 4)) (drop 4 b) (number_in b 4) (drop 8 b) _ (drop 16 b) (uint-there 4 b 4 (omega arith))
      (pair-got (uint 4) (uint 4) (drop 8 b) (number_in b 8) (drop 12 b) _ (drop 16 b) (uint-there 4 b 8 (omega arith)) (uint-there 4 b 12 (omega arith))))

  numbers-short : length b < 16 → numbers_form.get b ≡ bad
  numbers-short h = by (numbers_form.get b) refl
    where
      by : (g : Got Numbers) → numbers_form.get b ≡ g → g ≡ bad
      by bad e = refl
      by (got x r) e =
          let w = (pair-laws (uint 4) (pair (uint 4) (pair (uint 4) (uint 4))) (uint_laws 4)
          (pair-laws (uint 4) (pair (uint 4) (uint 4)) (uint_laws 4) (pair-laws (uint 4) (uint 4) (uint_laws 4) (uint_laws 4)))).back b x r y e in
          let p = le 4 x.1.1.0 ++ le 4 x.1.1.1 in
          let q = le 4 x.1.0 ++ p in
          absurd (omega (
            arith,
            ap length w.form,
            length-append (le 4 x.0 ++ q) r,
            length-append (le 4 x.0) q,
            length-append (le 4 x.1.0) p,
            length-append (le 4 x.1.1.0) (le 4 x.1.1.1),
            length-le 4 x.0,
            length-le 4 x.1.0,
            length-le 4 x.1.1.0,
            length-le 4 x.1.1.1,
          ))

  by-known : (t : Bool) (ks : List SignalEncoding) (q : List ℕ) (r : Numbers) → and_then (pick t (got ks q) bad) (λ ks t. got_if (some (head_from r ks)) t) ≡ pick t (got (head_from r ks) q) bad
  by-known true ks q r = refl
  by-known false ks q r = refl

  head-get : head_form.get b ≡ pick (leb 16 (length b))
      (pick (leb (16 + 4 * number_in b 0) (length b)) (pick (known_at (number_in b 0) b 16) (got (head_in b) (drop (16 + 4 * number_in b 0) b)) bad) bad) bad
  unfolding head_form
  head-get = by (leb 16 (length b)) refl (leb (16 + 4 * number_in b 0) (length b)) refl
    where
      S : ℕ
      S = number_in b 0

      by : (t : Bool) → leb 16 (length b) ≡ t → (u : Bool) → leb (16 + 4 * number_in b 0) (length b) ≡ u
          → and_then (numbers_form.get b) (λ r q. and_then ((repeat r.0 kind_form).get q) (λ ks t. got_if (some (head_from r ks)) t))
          ≡ pick t (pick u (pick (known_at (number_in b 0) b 16) (got (head_in b) (drop (16 + 4 * number_in b 0) b)) bad) bad) bad
      by false e u f = ap (λ (g : Got Numbers). and_then g (λ r q. and_then ((repeat r.0 kind_form).get q) (λ ks t. got_if (some (head_from r ks)) t))) (numbers-short (leb-false 16 (length b) e))
      by true e true f =
          ap (λ (g : Got Numbers). and_then g (λ r q. and_then ((repeat r.0 kind_form).get q) (λ ks t. got_if (some (head_from r ks)) t))) (numbers-there (leb-true 16 (length b) e))
          ∙ ap (λ (g : Got (List SignalEncoding)). and_then g (λ ks t. got_if (some (head_from (numbers_at b) ks)) t)) (kinds-at (number_in b 0) b 16 (leb-true (16 + 4 * number_in b 0) (length b) f))
          ∙ by-known (known_at (number_in b 0) b 16) (kinds_at (number_in b 0) b 16) (drop (16 + 4 * number_in b 0) b) (numbers_at b)
      by true e false f =
          ap (λ (g : Got Numbers). and_then g (λ r q. and_then ((repeat r.0 kind_form).get q) (λ ks t. got_if (some (head_from r ks)) t))) (numbers-there (leb-true 16 (length b) e))
          ∙ ap (λ (g : Got (List SignalEncoding)). and_then g (λ ks t. got_if (some (head_from (numbers_at b) ks)) t))
          (kinds-short (number_in b 0) b 16 (leb-true 16 (length b) e) (leb-false (16 + 4 * number_in b 0) (length b) f))

-- ---- the blocks fill the total

eqb_same : (a b c d : ℕ) → (a ≡ b → c ≡ d) → (c ≡ d → a ≡ b) → eqb a b ≡ eqb c d
eqb_same a b c d f g = by (ℕ_discrete a b)
  where
    by : Dec (a ≡ b) → eqb a b ≡ eqb c d
    by (yes e) = eq-eqb a b e ∙ sym (eq-eqb c d (f e))
    by (no n) = ne_eqb a b n ∙ sym (ne_eqb c d (λ e. n (g e)))

module _ (limit : ℕ) (ks : List SignalEncoding) (p total n : ℕ) (s : List ℕ) (size : p + length s ≡ n) where
  whole : (t : Bool) (x : Blocks) → is_some (ended (and_then (pick t (got x []) bad) (λ bs q. got_if (some (image limit ks bs)) q))) ≡ t
  whole true x = refl
  whole false x = refl

  part : (t : Bool) (x : Blocks) (c : ℕ) (r : List ℕ) → is_some (ended (and_then (pick t (got x (c ∷ r)) bad) (λ bs q. got_if (some (image limit ks bs)) q))) ≡ false
  part true x c r = refl
  part false x c r = refl

  filled : (g : Got Blocks) → is_some (ended (and_then (and_then g (λ x q. pick (eqb (p + length s) (total + length q)) (got x q) bad)) (λ bs q. got_if (some (image limit ks bs)) q)))
      ≡ eqb total n && at_end g
  filled bad = sym (and-false (eqb total n))
  filled (got x []) =
      whole (eqb (p + length s) (total + 0)) x ∙ eqb_same (p + length s) (total + 0) total n (λ e. omega arith) (λ e. omega arith) ∙ sym (and-true (eqb total n))
  filled (got x (c ∷ r)) = part (eqb (p + length s) (total + length (c ∷ r))) x c r ∙ sym (and-false (eqb total n))

-- ---- all tests

in_order : (l h g m e w : Bool) → (l && (h && (g && m))) && (e && w) ≡ (true && ((l && (h && (g && (m && (true && e))))) && true)) && w
in_order true true true true true w = refl
in_order true true true true false w = refl
in_order true true true false e w = refl
in_order true true false m e w = refl
in_order true false g m e w = refl
in_order false h g m e w = refl

no_room : (l h g m e k w : Bool) → false ≡ (true && ((l && (h && (g && (m && (false && e))))) && k)) && w
no_room true true true true e k w = refl
no_room true true true false e k w = refl
no_room true true false m e k w = refl
no_room true false g m e k w = refl
no_room false h g m e k w = refl

not_known : (n w : Bool) → false ≡ (true && (n && false)) && w
not_known true w = refl
not_known false w = refl

by_fits : {P : Type 0} (D : Dec P) (h : Head) (r : List ℕ) (f : Head → List ℕ → Got Image) → is_some (ended (and_then (got_if (if_yes D h) r) f)) ≡ is_yes D && is_some (ended (f h r))
by_fits (yes p) h r f = refl
by_fits (no p) h r f = refl

fits-is : (h : Head) → is_yes (head_fits? h) ≡ leb 2 h.limit && (leb h.limit 65535 && (leb (length h.kinds) 65536 && leb h.total image_limit))
unfolding head_fits?
fits-is h = simp (yes-map, yes_both, yes_le)

pub walk_is : (b : List ℕ) → Bytes b → is_some (walk b) ≡ is_head b && blocks_fill (number_in b 4) (kinds_at (number_in b 0) b 16) (number_in b 8) none b (16 + 4 * number_in b 0)
unfolding walk walk_form is_head blocks_fill numbers_fit
walk_is b y = ap (λ (g : Got Head). is_some (ended (and_then (and_then g (λ h r. got_if (if_yes (head_fits? h) h) r)) Rest))) (head-get b y)
    ∙ by (leb 16 (length b)) (leb (16 + 4 * number_in b 0) (length b)) refl (known_at (number_in b 0) b 16)
  where
    Rest : Head → List ℕ → Got Image
    Rest h r = and_then (and_then ((walk_blocks h.limit h.kinds h.number none).get r) (λ x q. pick (eqb (head_size (length h.kinds) + length r) (h.total + length q)) (got x q) bad))
        (λ bs q. got_if (some (image h.limit h.kinds bs)) q)

    W : Bool
    W = at_end ((walk_blocks (number_in b 4) (kinds_at (number_in b 0) b 16) (number_in b 8) none).get (drop (16 + 4 * number_in b 0) b))

    by : (t u : Bool) → leb (16 + 4 * number_in b 0) (length b) ≡ u → (k : Bool)
        → is_some (ended (and_then (and_then (pick t (pick u (pick k (got (head_in b) (drop (16 + 4 * number_in b 0) b)) bad) bad) bad) (λ h r. got_if (if_yes (head_fits? h) h) r)) Rest))
        ≡ (t && ((leb 2 (number_in b 4) && (leb (number_in b 4) 65535 && (leb (number_in b 0) 65536 && (leb (number_in b 12) image_limit && (u && eqb (number_in b 12) (length b)))))) && k)) && W
    by false u e k = refl
    by true false e k = no_room (leb 2 (number_in b 4)) (leb (number_in b 4) 65535) (leb (number_in b 0) 65536) (leb (number_in b 12) image_limit) (eqb (number_in b 12) (length b)) k W
    by true true e false =
        not_known (leb 2 (number_in b 4) &&
        (leb (number_in b 4) 65535 && (leb (number_in b 0) 65536 && (leb (number_in b 12) image_limit && (true && eqb (number_in b 12) (length b)))))) W
    by true true e true =
        let h = leb-true (16 + 4 * number_in b 0) (length b) e in
        let c = kinds-length (number_in b 0) b 16 in
        by_fits (head_fits? (head_in b)) (head_in b) (drop (16 + 4 * number_in b 0) b) Rest
        ∙ ap₂ ◌&&◌ (fits-is (head_in b) ∙ ap (λ (S : ℕ). leb 2 (number_in b 4) && (leb (number_in b 4) 65535 && (leb S 65536 && leb (number_in b 12) image_limit))) c)
        (filled (number_in b 4) (kinds_at (number_in b 0) b 16) (head_size (length (kinds_at (number_in b 0) b 16))) (number_in b 12) (length b) (drop (16 + 4 * number_in b 0) b)
        (omega (arith, length-drop (16 + 4 * number_in b 0) b)) ((walk_blocks (number_in b 4) (kinds_at (number_in b 0) b 16) (number_in b 8) none).get (drop (16 + 4 * number_in b 0) b)))
        ∙ in_order (leb 2 (number_in b 4)) (leb (number_in b 4) 65535) (leb (number_in b 0) 65536) (leb (number_in b 12) image_limit) (eqb (number_in b 12) (length b)) W
