-- Times and parts of a block, by the code's tests.
-- Assumes nothing.
use Prim.Native.Nat.{ℕ, zero, suc, ◌+◌, ◌*◌, ◌≤◌, ◌<◌}
use mathlib.Core.Path.{◌≡◌, refl, sym, ap, ◌∙◌}
use mathlib.Core.Bool.{Bool}
use mathlib.Core.List.{List, [], ◌∷◌}
use mathlib.Core.Option.{Option, some, none}
use native.Mathlib.Omega.{arith}
use native.Mathlib.Decide.{dec_lt}
use lib.ListN.{length, drop, length-append, length-drop}
use Rattle.lists.specs.Bytes.{Bytes}
use Rattle.lists.specs.Choice.{pick}
use Rattle.lists.specs.Got.{Got, bad, got}
use Rattle.lists.proofs.BytesLaws.{drop-bytes}
use Rattle.lists.proofs.ChoiceLaws.{pick_same}
use Rattle.signal.specs.declared.kind.SignalEncoding.{SignalEncoding}
use Rattle.stream.specs.Entries.{Entry}
use Rattle.image.specs.Block.{Part, Block, block}
use Rattle.form.specs.Form.{and_then, got_if, if_yes, pair, via, each}
use Rattle.form.specs.Decide.{both}
use Rattle.form.proofs.FormLaws.{each-laws}
use Rattle.codec.specs.Layout.{Laid, ill, laid, lengths, data_size, Layout, layout}
use Rattle.codec.specs.Valid.{starts?, rising?}
use Rattle.codec.specs.Walk.{walked_part, walk_times}
use Rattle.codec.proofs.LayoutLaws.{lengths-is}
use Rattle.codec.proofs.WalkBlock.{walk-part-laws}
use Rattle.reading.specs.Decided.{is_yes, uints}
use Rattle.reading.proofs.PlaceLaws.{uints-at, uints-short}
use Rattle.parts.specs.Parts as found
use Rattle.parts.specs.Parts.{Parts, parts, parts_from}
use Rattle.parts.proofs.PartsLaws.{of_got, checked, parts_are}
use Rattle.blocks.proofs.FrontLaws.{not_first, laid_body}

abbrev OPart : Type 0
OPart = Option (Part (List Entry))

-- the parts take up as many bytes as their lengths say
part-size : (n : ℕ) (k : SignalEncoding) (m : ℕ) (p : OPart) → (walked_part n k (some m)).Ok p → length ((walked_part n k (some m)).put p) ≡ suc m
part-size n k m p o = ap suc o.1.0.1

parts-size : (n : ℕ) (ks : List SignalEncoding) (ls : List (Option ℕ)) (ps : List OPart) → (each (walked_part n) ks ls).Ok ps → length ((each (walked_part n) ks ls).put ps) ≡ data_size ls
unfolding each data_size
parts-size n [] [] ps o = refl
parts-size n [] (l ∷ ls) ps o = absurd o
parts-size n (k ∷ ks) [] ps o = absurd o
parts-size n (k ∷ ks) (l ∷ ls) [] o = absurd o
parts-size n (k ∷ ks) (none ∷ ls) (p ∷ ps) o = parts-size n ks ls ps o.1
parts-size n (k ∷ ks) (some m ∷ ls) (p ∷ ps) o =
    let e = part-size n k m p o.0 in
    let f = parts-size n ks ls ps o.1 in
    omega (arith, length-append ((walked_part n k (some m)).put p) ((each (walked_part n) ks ls).put ps))

-- no parts without room for them
each-short : (n : ℕ) (ks : List SignalEncoding) (l : List (Option ℕ)) (d : List ℕ) → Bytes d → length d < data_size l → (each (walked_part n) ks l).get d ≡ bad
each-short n ks l d y h = by ((each (walked_part n) ks l).get d) refl
  where
    by : (g : Got (List OPart)) → (each (walked_part n) ks l).get d ≡ g → g ≡ bad
    by bad e = refl
    by (got ps r) e =
        let w = (each-laws (walked_part n) (walk-part-laws n) ks l).back d ps r y e in
        absurd (omega (arith, ap length w.form, length-append ((each (walked_part n) ks l).put ps) r, parts-size n ks l ps w.ok))

-- ---- the body

abbrev block_got : List ℕ → Got (List OPart) → Got (Block (List Entry))
block_got ts bad = bad
block_got ts (got ps r) = got (block ts ps) r

-- parts that begin at 0 make a block
abbrev pub finish : List ℕ → Parts → Got (Block (List Entry))
finish ts found.ill = bad
finish ts (parts zero ps r) = got (block ts ps) r
finish ts (parts (suc e) ps r) = bad

module _ (end : Option ℕ) (ks : List SignalEncoding) (s : List ℕ) (at n : ℕ) where
  abbrev pub body : Layout → List ℕ → Got (Block (List Entry))
  body l r = (via (pair (walk_times end l.count) (each (walked_part l.count) ks l.lens)) (λ x. some (block x.0 x.1)) (λ b. (b.times, b.parts))).get r

  abbrev pub Yes : Bool
  Yes = is_yes (both (starts? end (uints 8 n s at)) (rising? (uints 8 n s at)))

  by-times : {P : Type 0} (D : Dec P) (t r : List ℕ) (f : List ℕ → Got (List OPart))
      → and_then (and_then {B = List ℕ × List OPart} (got_if (if_yes D t) r) (λ t r. and_then {B = List ℕ × List OPart} (f r) (λ ps q. got (t, ps) q)))
      (λ x q. got_if (some (block x.0 x.1)) q) ≡ pick (is_yes D) (block_got t (f r)) bad
  by-times (no p) t r f = refl
  by-times (yes p) t r f = go (f r)
    where
      go : (g : Got (List OPart)) → and_then (and_then {B = List ℕ × List OPart} g (λ ps q. got (t, ps) q)) (λ x q. got_if (some (block x.0 x.1)) q) ≡ block_got t g
      go bad = refl
      go (got ps q) = refl

  body-got : at + 8 * n ≤ length s → (l : List (Option ℕ))
      → body (layout n l) (drop at s) ≡ pick Yes (block_got (uints 8 n s at) ((each (walked_part n) ks l).get (drop (at + 8 * n) s))) bad
  body-got h l =
      ap (λ (g : Got (List ℕ)). and_then
      (and_then {B = List ℕ × List OPart} (and_then g (λ x r. got_if (if_yes (both (starts? end x) (rising? x)) x) r))
      (λ t r. and_then {B = List ℕ × List OPart} ((each (walked_part n) ks l).get r) (λ ps q. got (t, ps) q)))
      (λ x q. got_if (some (block x.0 x.1)) q)) (uints-at 8 n s at h)
      ∙ by-times (both (starts? end (uints 8 n s at)) (rising? (uints 8 n s at))) (uints 8 n s at) (drop (at + 8 * n) s) (λ r. (each (walked_part n) ks l).get r)

  body-short : at ≤ length s → length s < at + 8 * n → (l : List (Option ℕ)) → body (layout n l) (drop at s) ≡ bad
  body-short j h l =
      ap (λ (g : Got (List ℕ)). and_then
      (and_then {B = List ℕ × List OPart} (and_then g (λ x r. got_if (if_yes (both (starts? end x) (rising? x)) x) r))
      (λ t r. and_then {B = List ℕ × List OPart} ((each (walked_part n) ks l).get r) (λ ps q. got (t, ps) q)))
      (λ x q. got_if (some (block x.0 x.1)) q)) (uints-short 8 n s at j h)

  finish-got : (t : List ℕ) (g : Got (List OPart)) → block_got t g ≡ finish t (of_got 0 g)
  finish-got t bad = refl
  finish-got t (got ps r) = refl

  finish-bad : (t : List ℕ) (a : ℕ) (g : Got (List OPart)) → bad ≡ finish t (of_got (suc a) g)
  finish-bad t a bad = refl
  finish-bad t a (got ps r) = refl

  laid-finish : at + 8 * n ≤ length s → (L : Laid)
      → laid_body n body (drop at s) L ≡ pick Yes (finish (uints 8 n s at) (checked (drop (at + 8 * n) s) n ks L)) bad
  laid-finish h ill = sym (pick_same Yes bad)
  laid-finish h (laid zero l) =
      body-got h l ∙ ap (λ (g : Got (Block (List Entry))). pick Yes g bad) (finish-got (uints 8 n s at) ((each (walked_part n) ks l).get (drop (at + 8 * n) s)))
  laid-finish h (laid (suc a) l) =
      ap (λ (t : Bool). pick t (body (layout n l) (drop at s)) bad) (not_first a) ∙ sym (pick_same Yes bad)
      ∙ ap (λ (g : Got (Block (List Entry))). pick Yes g bad) (finish-bad (uints 8 n s at) a ((each (walked_part n) ks l).get (drop (suc a) (drop (at + 8 * n) s))))

  -- with room for m bytes of data
  pub body_is : (m : ℕ) (os : List ℕ) → length ks ≡ length os → at + 8 * n + m ≤ length s
      → laid_body n body (drop at s) (lengths m os) ≡ pick Yes (finish (uints 8 n s at) (parts_from (drop (at + 8 * n) s) m n ks os)) bad
  body_is m os e h =
      laid-finish (omega arith) (lengths m os)
      ∙ ap (λ (x : Parts). pick Yes (finish (uints 8 n s at) x) bad) (sym (parts_are (drop (at + 8 * n) s) m n (omega (arith, length-drop (at + 8 * n) s)) ks os e))

  -- without it
  pub body-none : (m : ℕ) (os : List ℕ) → Bytes s → at ≤ length s → length s < at + 8 * n + m → laid_body n body (drop at s) (lengths m os) ≡ bad
  body-none m os y j h = by (lengths m os) refl
    where
      short : (l : List (Option ℕ)) → data_size l ≡ m → Dec (length s < at + 8 * n) → body (layout n l) (drop at s) ≡ bad
      short l e (yes q) = body-short j q l
      short l e (no q) =
          body-got (omega arith) l
          ∙ ap (λ (g : Got (List OPart)). pick Yes (block_got (uints 8 n s at) g) bad)
          (each-short n ks l (drop (at + 8 * n) s) (drop-bytes (at + 8 * n) s y) (omega (arith, length-drop (at + 8 * n) s)))
          ∙ pick_same Yes bad

      by : (L : Laid) → lengths m os ≡ L → laid_body n body (drop at s) L ≡ bad
      by ill e = refl
      by (laid zero l) e = short l (let q = (lengths-is m os 0 l e).sum in omega arith) (dec_lt (length s) (at + 8 * n))
      by (laid (suc a) l) e = ap (λ (t : Bool). pick t (body (layout n l) (drop at s)) bad) (not_first a)
