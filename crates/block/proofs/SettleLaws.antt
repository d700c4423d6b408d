-- The last pass: from full slots, the offsets; and the slots that the records fill are those of the block's parts.
-- Assumes nothing.
use Prim.Native.Nat.{ℕ, zero, suc, ◌+◌, ◌<◌}
use mathlib.Core.Path.{◌≡◌, refl, ◌∙◌}
use mathlib.Core.List.{List, [], ◌∷◌, ◌++◌, map, append-nil}
use mathlib.Core.Option.{Option, some, none}
use native.Mathlib.Nat.{add-zero, suc-add, add-suc}
use native.Mathlib.Numerals.{add-one}
use native.Mathlib.Omega.{arith}
use borrow.Author.Tests.{ne_eqb}
use lib.ListN.{length, drop, get_or, length-append}
use lib.Seq.{set_at, get_or_at, append_snoc, slice_empty}
use Rattle.value.specs.Class.{class_number}
use Rattle.image.specs.Block.{Part, data_of, offsets_from}
use Rattle.recording.specs.declared.SignalRecord.{SignalRecord}
use Rattle.recording.specs.Work.{Item, gather}
use Rattle.recording.specs.Step.{part_from, parts_from}
use Rattle.block.specs.Given.{tops_of}
use Rattle.block.specs.Passes.{kept_at, keep, settled, end_of, settle, Settles}
use Rattle.block.proofs.LayoutLaws.{laid, kept-laid, keep-laid}
use Rattle.block.proofs.CountLaws.{streams}
use Rattle.block.proofs.SlotLaws.{Slot, empty, filled, marks, filling, advance}
use Rattle.block.proofs.BeginLaws.{slots_of}

abbrev pub full : Option (Part (List ℕ)) → Slot
full none = empty
full (some p) = filled p.top p.stream []

pub filling-full : (ps : List (Option (Part (List ℕ)))) → filling (map full ps) ≡ data_of ps
unfolding filling data_of
filling-full [] = refl
filling-full (none ∷ ps) = filling-full ps
filling-full (some p ∷ ps) = rw (append-nil p.stream, filling-full ps) refl

-- a stream fills its slot
pub full_at : (rs : List SignalRecord) (is : List Item) (g k : ℕ) (x : List ℕ)
    → get_or (map full (parts_from g rs is)) k empty ≡ advance (get_or (slots_of (tops_of rs) (streams g (length rs) is) x) k empty) (gather (g + k) is)
unfolding parts_from streams slots_of
full_at [] is g k x = refl
full_at (r ∷ rs) is g zero x = rw (add-zero g) (one (gather g is))
  where
    one : (s : List ℕ)
        → full (part_from (class_number r.top) s)
        ≡ advance (get_or (slots_of (class_number r.top ∷ tops_of rs) (s ∷ streams (suc g) (length rs) is) x) 0 empty) s
    one [] = refl
    one (b ∷ s) = rw (slice_empty (suc (length s)) (drop 1 x)) refl
full_at (r ∷ rs) is g (suc k) x = rw (add-suc g k, ← (suc-add g k)) (more (gather g is) (full_at rs is (suc g) k))
  where
    more : (s : List ℕ)
        → ((x' : List ℕ)
        → get_or (map full (parts_from (suc g) rs is)) k empty
        ≡ advance (get_or (slots_of (tops_of rs) (streams (suc g) (length rs) is) x') k empty) (gather (suc g + k) is))
        → get_or (map full (parts_from (suc g) rs is)) k empty
        ≡ advance (get_or (slots_of (class_number r.top ∷ tops_of rs) (s ∷ streams (suc g) (length rs) is) x) (suc k) empty) (gather (suc g + k) is)
    more [] ih = ih x
    more (b ∷ s) ih = ih (drop (suc (length s)) (drop 1 x))

-- ---- the pass

settle-one : (o g n o' : ℕ) (t t' : List ℕ) → end_of o g t ≡ o' → settled o g t ≡ t' → o + 1 < 4294967296 → Settles o' (suc g) n t'
    → Settles o g (suc n) t × (settle o g (suc n) t ≡ settle o' (suc g) n t')
unfolding settle Settles
settle-one o g n o' t t' p b l s = rw (p, b) ((l, s), refl)

module _ (f m e : List ℕ) (h : length f ≡ 12) (x : List ℕ) where
  -- the signals before g are settled, p
  record Settled (o g : ℕ) (ps : List (Option (Part (List ℕ)))) (p : List ℕ) : Type 0 where
    pub settles : Settles o g (length ps) (laid f m e (p ++ marks o (map full ps)) x)
    pub settled_is : settle o g (length ps) (laid f m e (p ++ marks o (map full ps)) x) ≡ laid f m e (p ++ offsets_from o ps) x

  settle_step : (ps : List (Option (Part (List ℕ)))) (o g : ℕ) (p : List ℕ) → length p ≡ g → o + length (data_of ps) + 1 < 4294967296
      → Settled o g ps p
  unfolding settle Settles marks offsets_from data_of
  settle_step [] o g p a n = record { settles = tt; settled_is = refl }
  settle_step (none ∷ ps) o g p a n =
      let ms : List ℕ = marks o (map full ps) in
      let os : List ℕ = p ++ 0 ∷ ms in
      let z : get_or os g 0 ≡ 0 = get_or_at p 0 ms 0 g a in
      let k : kept_at g (laid f m e os x) ≡ 0 = kept-laid f m e h os x g (rw length-append (omega arith)) (omega arith) ∙ z in
      let ih = settle_step ps o (suc g) (p ++ (0 ∷ [])) (rw length-append (omega arith)) n in
      let r = settle-one o g (length ps) o (laid f m e os x) (laid f m e ((p ++ (0 ∷ [])) ++ ms) x) (rw k refl)
      (rw (k, append_snoc p 0 ms) refl) (omega arith) ih.settles in
      record {
        settles = rw (add-zero o) r.0;
        settled_is = rw (add-zero o) (r.1 ∙ ih.settled_is ∙ rw (append_snoc p 0 (offsets_from o ps)) refl);
      }
  settle_step (some q ∷ ps) o g p a n =
      let j : ℕ = o + suc (length q.stream) in
      let ms : List ℕ = marks j (map full ps) in
      let os : List ℕ = p ++ j ∷ ms in
      let ld = length-append q.stream (data_of ps) in
      let z : get_or os g 0 ≡ j = get_or_at p j ms 0 g a in
      let i : g < length os = rw length-append (omega arith) in
      let k : kept_at g (laid f m e os x) ≡ j = kept-laid f m e h os x g i (omega arith) ∙ z in
      let b = ne_eqb j 0 (λ w. omega arith) in
      let p' : List ℕ = p ++ ((o + 1) ∷ []) in
      let ih = settle_step ps j (suc g) p' (rw length-append (omega arith)) (omega arith) in
      let w : keep g (o + 1) (laid f m e os x) ≡ laid f m e (p' ++ ms) x =
      keep-laid f m e h os x g (o + 1) i ∙ rw (set_at p j ms (o + 1) g a, append_snoc p (o + 1) ms) refl in
      let r = settle-one o g (length ps) j (laid f m e os x) (laid f m e (p' ++ ms) x) (rw (k, b) refl) (rw (k, b) w) (omega arith) ih.settles in
      record {
        settles = rw (append-nil q.stream) r.0;
        settled_is = rw (append-nil q.stream) (r.1 ∙ ih.settled_is ∙ rw (append_snoc p (o + 1) (offsets_from j ps), add-one o) refl);
      }

  pub settle-laid : (ps : List (Option (Part (List ℕ)))) → length (data_of ps) + 1 < 4294967296
      → Settles 0 0 (length ps) (laid f m e (marks 0 (map full ps)) x)
      × (settle 0 0 (length ps) (laid f m e (marks 0 (map full ps)) x) ≡ laid f m e (offsets_from 0 ps) x)
  settle-laid ps n = let s = settle_step ps 0 0 [] refl (omega arith) in (s.settles, s.settled_is)
