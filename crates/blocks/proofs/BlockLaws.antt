-- A block by its tests is what the definitions find; what a block that was found leaves.
-- Assumes nothing.
use Prim.Native.Nat.{ℕ, zero, suc, ◌+◌, ◌-◌, ◌*◌, ◌≤◌, ◌<◌}
use mathlib.Core.Path.{◌≡◌, refl, sym, ap, ap₂, ◌∙◌}
use mathlib.Core.Bool.{Bool, true, false}
use mathlib.Core.List.{List}
use mathlib.Core.Option as math
use native.Mathlib.Omega.{arith}
use borrow.Author.Tests.{leb-true, leb-false}
use lib.Dec.{leb, eqb}
use lib.ListN.{length, drop, length-drop}
use lib.Seq.{drop-drop}
use Rattle.lists.specs.Bytes.{Bytes}
use Rattle.lists.specs.Choice.{pick}
use Rattle.lists.specs.Got.{Got, bad, got}
use Rattle.lists.specs.Last.{last_or}
use Rattle.signal.specs.declared.kind.SignalEncoding.{SignalEncoding}
use Rattle.stream.specs.Entries.{Entry}
use Rattle.image.specs.Block.{Part, Block, block, block_size}
use Rattle.form.specs.Form.{and_then, got_if, if_yes}
use Rattle.codec.specs.Layout.{lengths, Layout}
use Rattle.codec.specs.Walk.{walk_block}
use Rattle.reading.specs.Times.{end_of}
use Rattle.reading.specs.Decided.{is_yes, uints}
use Rattle.reading.specs.Times.{times_at}
use Rattle.reading.proofs.PlaceLaws.{uints-length}
use Rattle.reading.proofs.TimesLaws.{times-yes}
use Rattle.parts.specs.Parts as found
use Rattle.parts.specs.Parts.{Parts, parts, parts_from, start_of, at_zero, are_parts, kinds_at}
use Rattle.parts.proofs.SignalLaws.{kinds-length}
use Rattle.parts.proofs.PartsLaws.{parts-rest}
use Rattle.blocks.specs.Blocks.{times_fit?, next_block, next_block_at, size_in, times_in, signals_in, tests, front_tests, front_of, front_at, block_to, after_times, body_at}
use Rattle.blocks.specs.declared.BlockFront.{BlockFront}
use Rattle.blocks.specs.declared.NextBlock.{NextBlock}
use Rattle.std.specs.Prelude.{Option, Some, None}
use Rattle.blocks.proofs.FrontLaws.{not_first, layout-there, layout-short, laid_body, by_layout}
use Rattle.blocks.proofs.BodyLaws.{finish, body, Yes, body_is, body-none}

abbrev BlockGot : Type 0
BlockGot = Got (Block (List Entry))

module _ (limit : ℕ) (ks : List SignalEncoding) (end : math.Option ℕ) (s : List ℕ) (at : ℕ) (y : Bytes s) (inside : at ≤ length s) where
  abbrev S : ℕ
  S = length ks

  abbrev n : ℕ
  n = times_in s at

  abbrev table : ℕ
  table = at + (12 + 4 * length ks)

  abbrev m : ℕ
  m = size_in s at - block_size (length ks) (times_in s at) 0

  abbrev pub blockParts : Parts
  blockParts = parts_from (drop (at + (12 + 4 * length ks) + 8 * times_in s at) s) (size_in s at - block_size (length ks) (times_in s at) 0) (times_in s at) ks (uints 4 (length ks) s (at + 12))

  abbrev pub blockBody : BlockGot
  blockBody = pick (Yes end ks s (at + (12 + 4 * length ks)) (times_in s at)) (finish (uints 8 (times_in s at) s (at + (12 + 4 * length ks))) blockParts) bad

  walk-there : at + (12 + 4 * length ks) ≤ length s
      → (walk_block limit ks end).get (drop at s)
      ≡ pick (eqb S (signals_in s at)) (pick (leb (block_size S n 0) (size_in s at)) (pick (is_yes (times_fit? limit n))
      (laid_body n (body end ks s table n) (drop table s) (lengths m (uints 4 S s (at + 12)))) bad) bad) bad
  unfolding walk_block
  walk-there h =
      ap (λ (g : Got Layout). and_then (and_then g (λ l r. got_if (if_yes (times_fit? limit l.count) l) r)) (body end ks s table n)) (layout-there (length ks) s at h)
      ∙ by_layout limit n (body end ks s table n) (drop table s) (eqb S (signals_in s at)) (leb (block_size S n 0) (size_in s at)) (lengths m (uints 4 S s (at + 12)))

  walk-short : length s < at + (12 + 4 * length ks) → (walk_block limit ks end).get (drop at s) ≡ bad
  unfolding walk_block
  walk-short h =
      ap (λ (g : Got Layout). and_then (and_then g (λ l r. got_if (if_yes (times_fit? limit l.count) l) r)) (body end ks s table n)) (layout-short (length ks) s at inside h)

  laid-is : (t u : Bool) → leb (block_size S n 0) (size_in s at) ≡ t → leb (at + size_in s at) (length s) ≡ u → t ≡ true → at + (12 + 4 * length ks) ≤ length s
      → laid_body n (body end ks s table n) (drop table s) (lengths m (uints 4 S s (at + 12))) ≡ pick u blockBody bad
  laid-is t true p q e h =
      let a = leb-true (block_size S n 0) (size_in s at) (p ∙ e) in
      let b = leb-true (at + size_in s at) (length s) q in
      body_is end ks s table n m (uints 4 S s (at + 12)) (sym (uints-length 4 S s (at + 12))) (omega arith)
  laid-is t false p q e h =
      let a = leb-true (block_size S n 0) (size_in s at) (p ∙ e) in
      let b = leb-false (at + size_in s at) (length s) q in
      body-none end ks s table n m (uints 4 S s (at + 12)) y h (omega arith)

  pub block-get : (walk_block limit ks end).get (drop at s) ≡ front_tests (length ks) limit s at blockBody bad
  block-get = by (leb table (length s)) refl
    where
      inner : (t : Bool) → leb (block_size S n 0) (size_in s at) ≡ t → table ≤ length s → (b d : Bool)
          → pick b (pick t (pick d (laid_body n (body end ks s table n) (drop table s) (lengths m (uints 4 S s (at + 12)))) bad) bad) bad
          ≡ pick b (pick t (pick d (pick (leb (at + size_in s at) (length s)) blockBody bad) bad) bad) bad
      inner true p h b d = ap (λ (g : BlockGot). pick b (pick d g bad) bad) (laid-is true (leb (at + size_in s at) (length s)) p refl refl h)
      inner false p h b d = refl

      by : (a : Bool) → leb table (length s) ≡ a → (walk_block limit ks end).get (drop at s)
          ≡ tests a (eqb S (signals_in s at)) (leb (block_size S n 0) (size_in s at)) (is_yes (times_fit? limit n)) (leb (at + size_in s at) (length s)) blockBody bad
      by true e = walk-there (leb-true table (length s) e) ∙ inner (leb (block_size S n 0) (size_in s at)) refl (leb-true table (length s) e) (eqb S (signals_in s at)) (is_yes (times_fit? limit n))
      by false e = walk-short (leb-false table (length s) e)

-- ---- what the tests say

no_front : {B : Type 0} {z n : ℕ} → None ≡ Some (front_of z n) → B
no_front e = let w : ◌≡◌ {A = ℕ} 0 1 = cc in absurd (omega arith)

-- a front that was found
pub record Sizes (S limit : ℕ) (s : List ℕ) (at z n : ℕ) : Type 0 where
  pub size : size_in s at ≡ z
  pub times : times_in s at ≡ n
  pub room : at + z ≤ length s
  pub front : block_size S n 0 ≤ z
  pub times-fit : is_yes (times_fit? limit n) ≡ true

sizes-eq : (S limit : ℕ) (s : List ℕ) (at z n : ℕ) → Some (front_of (size_in s at) (times_in s at)) ≡ Some (front_of z n) → at + size_in s at ≤ length s
    → block_size S (times_in s at) 0 ≤ size_in s at → is_yes (times_fit? limit (times_in s at)) ≡ true → Sizes S limit s at z n
sizes-eq S limit s at z n e r h f =
    let w : front_of (size_in s at) (times_in s at) ≡ front_of z n = cc in
    let p : size_in s at ≡ z = ap (λ (x : BlockFront). x.size) w in
    let q : times_in s at ≡ n = ap (λ (x : BlockFront). x.times) w in
    record { size = p; times = q; room = rw (← p) r; front = rw (← p, ← q) h; times-fit = rw (← q) f }

pub front-says : (S limit : ℕ) (s : List ℕ) (at z n : ℕ) (x : Option BlockFront) → x ≡ front_at S limit s at → x ≡ Some (front_of z n) → Sizes S limit s at z n
unfolding front_at
front-says S limit s at z n x p q =
    by (leb (at + (12 + 4 * S)) (length s)) (eqb S (signals_in s at)) (leb (block_size S (times_in s at) 0) (size_in s at)) refl (is_yes (times_fit? limit (times_in s at))) refl
    (leb (at + size_in s at) (length s)) refl (sym p ∙ q)
  where
    by : (a b c : Bool) → leb (block_size S (times_in s at) 0) (size_in s at) ≡ c → (d : Bool) → is_yes (times_fit? limit (times_in s at)) ≡ d → (e : Bool) → leb (at + size_in s at) (length s) ≡ e
        → tests a b c d e (Some (front_of (size_in s at) (times_in s at))) None ≡ Some (front_of z n) → Sizes S limit s at z n
    by true true true u true v true w q = sizes-eq S limit s at z n q (leb-true _ _ w) (leb-true _ _ u) v
    by true true true u true v false w q = no_front q
    by true true true u false v e w q = no_front q
    by true true false u d v e w q = no_front q
    by true false c u d v e w q = no_front q
    by false b c u d v e w q = no_front q

-- ---- the code's answers

module _ (limit : ℕ) (ks : List SignalEncoding) (end : Option ℕ) (s : List ℕ) (at : ℕ) (y : Bytes s) (inside : at ≤ length s) where
  pub block-wrong : (x : Option BlockFront) → x ≡ front_at (length ks) limit s at → x ≡ None → None ≡ next_block_at limit ks (end_of end) s at
  unfolding front_at next_block_at
  block-wrong x p q =
      sym (ap (next_block (length s)) (block-get limit ks (end_of end) s at y inside)
      ∙ by (leb (at + (12 + 4 * length ks)) (length s)) (eqb (length ks) (signals_in s at)) (leb (block_size (length ks) (times_in s at) 0) (size_in s at)) (is_yes (times_fit? limit (times_in s at)))
      (leb (at + size_in s at) (length s)) (blockBody limit ks (end_of end) s at y inside) (sym p ∙ q))
    where
      no-sizes : {B : Type 0} {z n : ℕ} → Some (front_of z n) ≡ None → B
      no-sizes e = let w : ◌≡◌ {A = ℕ} 0 1 = cc in absurd (omega arith)

      by : (a b c d e : Bool) (g : BlockGot) → tests a b c d e (Some (front_of (size_in s at) (times_in s at))) None ≡ None → next_block (length s) (tests a b c d e g bad) ≡ None
      by true true true true true g q = no-sizes q
      by true true true true false g q = refl
      by true true true false e g q = refl
      by true true false d e g q = refl
      by true false c d e g q = refl
      by false b c d e g q = refl

  finish-next : (t : Bool) (ts : List ℕ) (x : Parts) (p : ℕ) → ((e : ℕ) (ps : List (math.Option (Part (List Entry)))) (r : List ℕ) → x ≡ parts e ps r → length s - length r ≡ p)
      → next_block (length s) (pick t (finish ts x) bad) ≡ after_times (pick t (Some (last_or 0 ts)) None) (at_zero (start_of x)) p
  finish-next false ts x p f = refl
  finish-next true ts found.ill p f = refl
  finish-next true ts (parts zero ps r) p f = ap (λ (p : ℕ). Some (block_to p (last_or 0 ts))) (f 0 ps r refl)
  finish-next true ts (parts (suc e) ps r) p f = ap (λ (t : Bool). pick t (Some (block_to p (last_or 0 ts))) None) (sym (not_first e))

  tests-hold : (a b c d e : Bool) (g : BlockGot) (z n : ℕ) → tests a b c d e (Some (front_of (size_in s at) (times_in s at))) None ≡ Some (front_of z n) → tests a b c d e g bad ≡ g
  tests-hold true true true true true g z n q = refl
  tests-hold true true true true false g z n q = no_front q
  tests-hold true true true false e g z n q = no_front q
  tests-hold true true false d e g z n q = no_front q
  tests-hold true false c d e g z n q = no_front q
  tests-hold false b c d e g z n q = no_front q

  base-is : at + (12 + 4 * length ks) + 8 * times_in s at ≡ at + block_size (length ks) (times_in s at) 0
  base-is = omega arith

  rest-is : at + size_in s at ≤ length s → block_size (length ks) (times_in s at) 0 ≤ size_in s at → (e : ℕ) (ps : List (math.Option (Part (List Entry)))) (r : List ℕ)
      → blockParts limit ks (end_of end) s at y inside ≡ parts e ps r → r ≡ drop (at + size_in s at) s
  rest-is h g e ps r q =
      let b : ℕ = at + (12 + 4 * length ks) + 8 * times_in s at in
      let m : ℕ = size_in s at - block_size (length ks) (times_in s at) 0 in
      let u : b + m ≡ at + size_in s at = omega arith in
      parts-rest (drop b s) m (times_in s at) ks (uints 4 (length ks) s (at + 12)) e ps r q ∙ drop-drop m b s ∙ ap (λ (p : ℕ). drop p s) u

  place_is : (p : ℕ) (r : List ℕ) → p ≤ length s → r ≡ drop p s → length s - length r ≡ p
  place_is p r h e = let l = ap length e in omega (arith, length-drop p s)

  body-core : (x : Option BlockFront) (z n : ℕ) → x ≡ front_at (length ks) limit s at → x ≡ Some (front_of z n) → kinds_at (length ks) s 16 ≡ ks
      → next_block_at limit ks (end_of end) s at ≡ body_at (length ks) (size_in s at) (times_in s at) s at end
  unfolding body_at next_block_at are_parts front_at
  body-core x z n p q k =
      let w = front-says (length ks) limit s at z n x p q in
      let r : at + size_in s at ≤ length s = rw w.size w.room in
      let f : block_size (length ks) (times_in s at) 0 ≤ size_in s at = rw (w.size, w.times) w.front in
      let X : Parts = blockParts limit ks (end_of end) s at y inside in
      let t : ℕ = at + (12 + 4 * length ks) in
      let c : ℕ = times_in s at in
      let m : ℕ = size_in s at - block_size (length ks) (times_in s at) 0 in
      ap (next_block (length s)) (block-get limit ks (end_of end) s at y inside
      ∙ tests-hold (leb t (length s)) (eqb (length ks) (signals_in s at)) (leb (block_size (length ks) c 0) (size_in s at)) (is_yes (times_fit? limit c)) (leb (at + size_in s at) (length s))
      (blockBody limit ks (end_of end) s at y inside) z n (sym p ∙ q))
      ∙ finish-next (Yes (end_of end) ks s t c) (uints 8 c s t) X (at + size_in s at) (λ e ps r' v. place_is (at + size_in s at) r' r (rest-is r f e ps r' v))
      ∙ ap (λ (u : Option ℕ). after_times u (at_zero (start_of X)) (at + size_in s at)) (sym (times-yes c s t end (omega arith)))
      ∙ ap₂ (λ (b : ℕ) (K : List SignalEncoding). after_times (times_at c s t end) (at_zero (start_of (parts_from (drop b s) m c K (uints 4 (length ks) s (at + 12)))))
      (at + size_in s at)) base-is (sym k)

  pub block-body : (x : Option BlockFront) (z n : ℕ) → x ≡ front_at (length ks) limit s at → x ≡ Some (front_of z n) → kinds_at (length ks) s 16 ≡ ks
      → body_at (length ks) z n s at end ≡ next_block_at limit ks (end_of end) s at
  block-body x z n p q k =
      let w = front-says (length ks) limit s at z n x p q in
      sym (body-core x z n p q k ∙ ap₂ (λ (z n : ℕ). body_at (length ks) z n s at end) w.size w.times)

  -- a block that was found: the bytes after it, its last time
  pub record Step (p u : ℕ) : Type 0 where
    pub one : Block (List Entry)
    pub get : (walk_block limit ks (end_of end)).get (drop at s) ≡ got one (drop p s)
    pub last : last_or 0 one.times ≡ u
    pub room : p ≤ length s
    pub front : at + block_size (length ks) (times_in s at) 0 ≤ length s

  pub block-step : (x : Option NextBlock) (p u : ℕ) → x ≡ next_block_at limit ks (end_of end) s at → x ≡ Some (block_to p u) → Step p u
  unfolding next_block_at
  block-step x p u e f =
      by (leb (at + (12 + 4 * length ks)) (length s)) (eqb (length ks) (signals_in s at)) (leb (block_size (length ks) (times_in s at) 0) (size_in s at)) refl
      (is_yes (times_fit? limit (times_in s at)))
      (leb (at + size_in s at) (length s)) refl (Yes (end_of end) ks s (at + (12 + 4 * length ks)) (times_in s at)) (blockParts limit ks (end_of end) s at y inside) refl
      (block-get limit ks (end_of end) s at y inside) (ap (next_block (length s)) (sym (block-get limit ks (end_of end) s at y inside)) ∙ sym e ∙ f)
    where
      no-next : {B : Type 0} → None ≡ Some (block_to p u) → B
      no-next e = let w : ◌≡◌ {A = ℕ} 0 1 = cc in absurd (omega arith)

      by : (a b c : Bool) → leb (block_size (length ks) (times_in s at) 0) (size_in s at) ≡ c → (d e : Bool) → leb (at + size_in s at) (length s) ≡ e → (t : Bool) (X : Parts)
          → blockParts limit ks (end_of end) s at y inside ≡ X
          → (walk_block limit ks (end_of end)).get (drop at s) ≡ tests a b c d e (pick t (finish (uints 8 (times_in s at) s (at + (12 + 4 * length ks))) X) bad) bad
          → next_block (length s) (tests a b c d e (pick t (finish (uints 8 (times_in s at) s (at + (12 + 4 * length ks))) X) bad) bad) ≡ Some (block_to p u) → Step p u
      by true true true v true true w true (parts zero ps r) k g q =
          let room = leb-true (at + size_in s at) (length s) w in
          let fr = leb-true (block_size (length ks) (times_in s at) 0) (size_in s at) v in
          let rest = rest-is room fr 0 ps r k in
          let to : block_to (length s - length r) (last_or 0 (uints 8 (times_in s at) s (at + (12 + 4 * length ks)))) ≡ block_to p u = cc in
          let l : length s - length r ≡ p = ap (λ (x : NextBlock). x.next) to in
          let pl : at + size_in s at ≡ p = sym (place_is (at + size_in s at) r room rest) ∙ l in
          record {
            one = block (uints 8 (times_in s at) s (at + (12 + 4 * length ks))) ps;
            get = g ∙ ap (λ (r : List ℕ). got (block (uints 8 (times_in s at) s (at + (12 + 4 * length ks))) ps) r) (rest ∙ ap (λ (p : ℕ). drop p s) pl);
            last = ap (λ (x : NextBlock). x.last) to;
            room = omega arith;
            front = omega arith;
          }
      by true true true v true true w true (parts (suc z) ps r) k g q = no-next q
      by true true true v true true w true found.ill k g q = no-next q
      by true true true v true true w false X k g q = no-next q
      by true true true v true false w t X k g q = no-next q
      by true true true v false e w t X k g q = no-next q
      by true true false v d e w t X k g q = no-next q
      by true false c v d e w t X k g q = no-next q
      by false b c v d e w t X k g q = no-next q

-- ---- with the kinds at place 16

module _ (S limit : ℕ) (end : Option ℕ) (s : List ℕ) (at : ℕ) (y : Bytes s) (inside : at ≤ length s) (x : Option BlockFront) (p : x ≡ front_at S limit s at) where
  here : x ≡ front_at (length (kinds_at S s 16)) limit s at
  here = p ∙ ap (λ (S : ℕ). front_at S limit s at) (sym (kinds-length S s 16))

  pub kinds-wrong : x ≡ None → None ≡ next_block_at limit (kinds_at S s 16) (end_of end) s at
  kinds-wrong q = block-wrong limit (kinds_at S s 16) end s at y inside x here q

  pub kinds-body : (z n : ℕ) (r : Option NextBlock) → x ≡ Some (front_of z n) → r ≡ body_at S z n s at end → r ≡ next_block_at limit (kinds_at S s 16) (end_of end) s at
  kinds-body z n r q e =
      e ∙ ap (λ (S : ℕ). body_at S z n s at end) (sym (kinds-length S s 16))
      ∙ block-body limit (kinds_at S s 16) end s at y inside x z n here q
      (ap (λ (c : ℕ). kinds_at c s 16) (kinds-length S s 16))
