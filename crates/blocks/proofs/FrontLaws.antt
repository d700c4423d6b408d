-- The numbers in front of a block, read at a place, and the layout by its tests.
-- Assumes nothing.
use Prim.Native.Nat.{ℕ, zero, suc, ◌+◌, ◌*◌, ◌≤◌, ◌<◌}
use mathlib.Core.Path.{◌≡◌, refl, ap, ◌∙◌, sym}
use mathlib.Core.Bool.{Bool, true, false}
use mathlib.Core.List.{List}
use mathlib.Core.Option.{Option, none}
use native.Mathlib.Omega.{arith}
use native.Mathlib.Decide.{dec_lt}
use borrow.Author.Tests.{ne_eqb}
use lib.Dec.{eqb}
use lib.ListN.{length, drop}
use Rattle.lists.specs.Choice.{pick}
use Rattle.lists.specs.Got.{Got, bad, got}
use Rattle.lists.proofs.ChoiceLaws.{pick_same}
use Rattle.stream.specs.Entries.{Entry}
use Rattle.image.specs.Block.{Block}
use Rattle.form.specs.Form.{Form, and_then, got_if, if_yes, pair, repeat, uint}
use Rattle.codec.specs.Layout.{Laid, ill, laid, Layout, layout, Front, from_zero, layout_from, layout_form}
use Rattle.reading.specs.Decided.{is_yes, uints}
use Rattle.reading.proofs.PlaceLaws.{uint-there, uint-short, uints-at, uints-short}
use Rattle.blocks.specs.Blocks.{times_fit?, size_in, times_in, signals_in}

-- ---- one after the other

pub pair-got : {A B : Type 0} (c : Form A) (d : Form B) (s : List ℕ) (a : A) (r : List ℕ) (b : B) (q : List ℕ) → c.get s ≡ got a r → d.get r ≡ got b q → (pair c d).get s ≡ got (a, b) q
pair-got c d s a r b q e f = rw (e, f) refl

pair-bad : {A B : Type 0} (c : Form A) (d : Form B) (s : List ℕ) → c.get s ≡ bad → (pair c d).get s ≡ bad
pair-bad c d s e = rw e refl

pair_then : {A B : Type 0} (c : Form A) (d : Form B) (s : List ℕ) (a : A) (r : List ℕ) → c.get s ≡ got a r → d.get r ≡ bad → (pair c d).get s ≡ bad
pair_then c d s a r e f = rw (e, f) refl

-- ---- the front

abbrev front_form : ℕ → Form Front
front_form S = pair (uint 4) (pair (uint 4) (pair (uint 4) (repeat S (uint 4))))

abbrev pub front_in : (signals : ℕ) → List ℕ → (at : ℕ) → Front
front_in S s at = (size_in s at, (times_in s at, (signals_in s at, uints 4 S s (at + 12))))

module _ (S : ℕ) (s : List ℕ) (at : ℕ) where
  front-there : at + (12 + 4 * S) ≤ length s → (front_form S).get (drop at s) ≡ got (front_in S s at) (drop (at + (12 + 4 * S)) s)
  front-there h =
      let a : at + 4 + 4 ≡ at + 8 = omega arith in
      let b : at + 8 + 4 ≡ at + 12 = omega arith in
      let c : at + 12 + 4 * S ≡ at + (12 + 4 * S) = omega arith in
      let n1 = uint-there 4 s at (omega arith) in
      let n2 = uint-there 4 s (at + 4) (omega arith) ∙ ap (λ (p : ℕ). got (times_in s at) (drop p s)) a in
      let n3 = uint-there 4 s (at + 8) (omega arith) ∙ ap (λ (p : ℕ). got (signals_in s at) (drop p s)) b in
      let n4 = uints-at 4 S s (at + 12) (omega arith) ∙ ap (λ (p : ℕ). got (uints 4 S s (at + 12)) (drop p s)) c in
      let r : List ℕ = drop (at + (12 + 4 * S)) s in
      pair-got (uint 4) (pair (uint 4) (pair (uint 4) (repeat S (uint 4)))) (drop at s) (size_in s at) (drop (at + 4) s) _ r n1
      (pair-got (uint 4) (pair (uint 4) (repeat S (uint 4))) (drop (at + 4) s) (times_in s at) (drop (at + 8) s) _ r n2
      (pair-got (uint 4) (repeat S (uint 4)) (drop (at + 8) s) (signals_in s at) (drop (at + 12) s) _ r n3 n4))

  front-short : at ≤ length s → length s < at + (12 + 4 * S) → (front_form S).get (drop at s) ≡ bad
  front-short i h = by1 (dec_lt (length s) (at + 4))
    where
      by3 : at + 8 ≤ length s → Dec (length s < at + 12) → (pair (uint 4) (repeat S (uint 4))).get (drop (at + 8) s) ≡ bad
      by3 g (yes q) = pair-bad (uint 4) (repeat S (uint 4)) (drop (at + 8) s) (uint-short 4 s (at + 8) g (omega arith))
      by3 g (no q) =
          let b : at + 8 + 4 ≡ at + 12 = omega arith in
          pair_then (uint 4) (repeat S (uint 4)) (drop (at + 8) s) (signals_in s at) (drop (at + 12) s)
          (uint-there 4 s (at + 8) (omega arith) ∙ ap (λ (p : ℕ). got (signals_in s at) (drop p s)) b) (uints-short 4 S s (at + 12) (omega arith) (omega arith))

      by2 : at + 4 ≤ length s → Dec (length s < at + 8) → (pair (uint 4) (pair (uint 4) (repeat S (uint 4)))).get (drop (at + 4) s) ≡ bad
      by2 g (yes q) = pair-bad (uint 4) (pair (uint 4) (repeat S (uint 4))) (drop (at + 4) s) (uint-short 4 s (at + 4) g (omega arith))
      by2 g (no q) =
          let a : at + 4 + 4 ≡ at + 8 = omega arith in
          pair_then (uint 4) (pair (uint 4) (repeat S (uint 4))) (drop (at + 4) s) (times_in s at) (drop (at + 8) s)
          (uint-there 4 s (at + 4) (omega arith) ∙ ap (λ (p : ℕ). got (times_in s at) (drop p s)) a) (by3 (omega arith) (dec_lt (length s) (at + 12)))

      by1 : Dec (length s < at + 4) → (front_form S).get (drop at s) ≡ bad
      by1 (yes q) = pair-bad (uint 4) (pair (uint 4) (pair (uint 4) (repeat S (uint 4)))) (drop at s) (uint-short 4 s at i q)
      by1 (no q) =
          pair_then (uint 4) (pair (uint 4) (pair (uint 4) (repeat S (uint 4)))) (drop at s) (size_in s at) (drop (at + 4) s)
          (uint-there 4 s at (omega arith)) (by2 (omega arith) (dec_lt (length s) (at + 8)))

  pub layout-there : at + (12 + 4 * S) ≤ length s → (layout_form S).get (drop at s) ≡ got_if (layout_from S (front_in S s at)) (drop (at + (12 + 4 * S)) s)
  unfolding layout_form
  layout-there h = ap (λ (g : Got Front). and_then g (λ a r. got_if (layout_from S a) r)) (front-there h)

  pub layout-short : at ≤ length s → length s < at + (12 + 4 * S) → (layout_form S).get (drop at s) ≡ bad
  unfolding layout_form
  layout-short i h = ap (λ (g : Got Front). and_then g (λ a r. got_if (layout_from S a) r)) (front-short i h)

-- ---- the layout by its tests

pub not_first : (a : ℕ) → eqb (suc a) 0 ≡ false
not_first a = ne_eqb (suc a) 0 (λ e. omega arith)

abbrev BlockGot : Type 0
BlockGot = Got (Block (List Entry))

abbrev pub laid_body : (times : ℕ) → (body : Layout → List ℕ → BlockGot) → List ℕ → Laid → BlockGot
laid_body n body r ill = bad
laid_body n body r (laid a l) = pick (eqb a 0) (body (layout n l) r) bad

module _ (limit n : ℕ) (body : Layout → List ℕ → BlockGot) (r : List ℕ) where
  by-times : (D : Dec ((1 ≤ n) × (n ≤ limit))) (l : List (Option ℕ)) → and_then (got_if (if_yes D (layout n l)) r) body ≡ pick (is_yes D) (body (layout n l) r) bad
  by-times (yes p) l = refl
  by-times (no p) l = refl

  pub by_layout : (a b : Bool) (L : Laid)
      → and_then (and_then (got_if (pick a (pick b (from_zero n L) none) none) r) (λ l q. got_if (if_yes (times_fit? limit l.count) l) q)) body
      ≡ pick a (pick b (pick (is_yes (times_fit? limit n)) (laid_body n body r L) bad) bad) bad
  by_layout false b L = refl
  by_layout true false L = refl
  by_layout true true ill = sym (pick_same (is_yes (times_fit? limit n)) bad)
  by_layout true true (laid zero l) = by-times (times_fit? limit n) l
  by_layout true true (laid (suc a) l) = rw (not_first a) (sym (pick_same (is_yes (times_fit? limit n)) bad))
