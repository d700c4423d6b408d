-- One turn of the loop over the blocks.
-- Assumes nothing.
use Prim.Native.Nat.{ℕ, suc, ◌-◌, ◌≤◌, ◌<◌}
use mathlib.Core.Path.{◌≡◌, refl, sym, ap, ◌∙◌}
use mathlib.Core.Bool.{false}
use mathlib.Core.List.{List, [], ◌∷◌}
use mathlib.Core.Option as math
use native.Mathlib.Omega.{arith}
use borrow.Author.Tests.{eq-eqb, ne_eqb}
use lib.Dec.{eqb}
use lib.ListN.{length, drop, length-drop}
use Rattle.lists.specs.Bytes.{Bytes}
use Rattle.lists.specs.Got.{Got, bad, got}
use Rattle.lists.specs.Last.{last_or}
use Rattle.signal.specs.declared.kind.SignalEncoding.{SignalEncoding}
use Rattle.stream.specs.Entries.{Entry}
use Rattle.image.specs.Block.{Block}
use Rattle.form.specs.Form.{and_then}
use Rattle.codec.specs.Walk.{walk_block, walk_blocks}
use Rattle.reading.specs.Times.{end_of}
use Rattle.blocks.specs.Blocks.{block_to, next_block, next_block_at}
use Rattle.blocks.specs.declared.NextBlock.{NextBlock}
use Rattle.std.specs.Prelude.{Option, Some, None}
use Rattle.blocks.proofs.BlockLaws.{block-step}
use Rattle.opener.specs.Opening.{at_end, blocks_fill}

abbrev Blocks : Type 0
Blocks = List (Block (List Entry))

ends-cons : (b : Block (List Entry)) (g : Got Blocks) → at_end (and_then g (λ l q. got (b ∷ l) q)) ≡ at_end g
ends-cons b bad = refl
ends-cons b (got l []) = refl
ends-cons b (got l (c ∷ q)) = refl

blocks-next : (limit : ℕ) (ks : List SignalEncoding) (n : ℕ) (end : math.Option ℕ) (t : List ℕ) → (walk_blocks limit ks (suc n) end).get t
    ≡ and_then ((walk_block limit ks end).get t) (λ b r. and_then ((walk_blocks limit ks n (math.some (last_or 0 b.times))).get r) (λ l q. got (b ∷ l) q))
unfolding walk_blocks
blocks-next limit ks n end t = refl

blocks-none : (limit : ℕ) (ks : List SignalEncoding) (end : math.Option ℕ) (t : List ℕ) → (walk_blocks limit ks 0 end).get t ≡ got [] t
unfolding walk_blocks
blocks-none limit ks end t = refl

next-bad : (n : ℕ) (g : Got (Block (List Entry))) → next_block n g ≡ None → g ≡ bad
next-bad n bad e = refl
next-bad n (got b r) e = let z : ◌≡◌ {A = ℕ} 0 1 = cc in absurd (omega arith)

module _ (limit : ℕ) (ks : List SignalEncoding) (end : Option ℕ) (left : ℕ) (any : 0 < left)
    (s : List ℕ) (at : ℕ) (y : Bytes s) (inside : at ≤ length s) (x : Option NextBlock) (e : x ≡ next_block_at limit ks (end_of end) s at) where
  more : blocks_fill limit ks left (end_of end) s at
      ≡ at_end (and_then ((walk_block limit ks (end_of end)).get (drop at s)) (λ b r. and_then ((walk_blocks limit ks (left - 1) (math.some (last_or 0 b.times))).get r) (λ l q. got (b ∷ l) q)))
  unfolding blocks_fill
  more =
      let q : left ≡ suc (left - 1) = omega arith in
      ap (λ (n : ℕ). at_end ((walk_blocks limit ks n (end_of end)).get (drop at s))) q ∙ ap at_end (blocks-next limit ks (left - 1) (end_of end) (drop at s))

  pub blocks-wrong : x ≡ None → false ≡ blocks_fill limit ks left (end_of end) s at
  unfolding next_block_at
  blocks-wrong f =
      sym (more ∙ ap (λ (g : Got (Block (List Entry))). at_end (and_then g (λ b r. and_then ((walk_blocks limit ks (left - 1) (math.some (last_or 0 b.times))).get r) (λ l q. got (b ∷ l) q))))
      (next-bad (length s) ((walk_block limit ks (end_of end)).get (drop at s)) (sym e ∙ f)))

  pub record Turn (p u : ℕ) : Type 0 where
    pub room : p ≤ length s
    pub rest : blocks_fill limit ks left (end_of end) s at ≡ blocks_fill limit ks (left - 1) (end_of (Some u)) s p

  pub blocks-turn : (p u : ℕ) → x ≡ Some (block_to p u) → Turn p u
  unfolding blocks_fill
  blocks-turn p u f =
      let w = block-step limit ks end s at y inside x p u e f in
      record {
        room = w.room;
        rest = more
            ∙ ap (λ (g : Got (Block (List Entry))). at_end (and_then g (λ b r. and_then ((walk_blocks limit ks (left - 1) (math.some (last_or 0 b.times))).get r) (λ l q. got (b ∷ l) q)))) w.get
            ∙ ends-cons w.one ((walk_blocks limit ks (left - 1) (math.some (last_or 0 w.one.times))).get (drop p s))
            ∙ ap (λ (u : ℕ). at_end ((walk_blocks limit ks (left - 1) (math.some u)).get (drop p s))) w.last;
      }

pub blocks_end : (limit : ℕ) (ks : List SignalEncoding) (left : ℕ) (end : math.Option ℕ) (s : List ℕ) (at : ℕ) → left ≡ 0 → at ≤ length s → eqb at (length s) ≡ blocks_fill limit ks left end s at
unfolding blocks_fill
blocks_end limit ks left end s at e h =
    by (drop at s) refl ∙ sym (ap (λ (n : ℕ). at_end ((walk_blocks limit ks n end).get (drop at s))) e ∙ ap at_end (blocks-none limit ks end (drop at s)))
  where
    by : (t : List ℕ) → drop at s ≡ t → eqb at (length s) ≡ at_end (got [] t)
    by [] q = let z = ap length q in eq-eqb at (length s) (omega (arith, length-drop at s))
    by (c ∷ r) q = let z = ap length q in ne_eqb at (length s) (λ e. omega (arith, length-drop at s))
