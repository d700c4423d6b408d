-- The fourth pass: each record's bytes go to its signal's slot.
-- Assumes nothing.
use Prim.Native.Nat.{ℕ, ◌+◌, ◌*◌, ◌≤◌, ◌<◌}
use mathlib.Core.Path.{◌≡◌, refl, sym, ◌∙◌}
use mathlib.Core.List.{List, [], ◌∷◌}
use native.Mathlib.Nat.{zero-add}
use native.Mathlib.Omega.{arith}
use native.Mathlib.Decide.{ℕ_discrete}
use lib.ListN.{length, get_or, length-set}
use lib.Seq.{sets, length-sets, get_or-set_same, get_or-set_other}
use Rattle.recording.specs.Work.{Item, gather}
use Rattle.work.proofs.WorkLaws.{Below}
use Rattle.block.specs.Passes.{kept_at, keep, scatter, Scatters}
use Rattle.block.proofs.LayoutLaws.{laid, kept-laid, keep-laid, write-laid, length-laid}
use Rattle.recording.proofs.GatherLaws.{length-own, gather-other}
use Rattle.block.proofs.SlotLaws.{Slot, empty, room, marks, filling, next_slot, advanced, moved}
use Rattle.block.proofs.SlotLaws.{room-advance, length-marks, marks-advanced, filling-advanced, mark-fits}

-- each slot has room for just what is to come
abbrev pub Rooms : List Item → List Slot → Type 0
Rooms is ss = (g : ℕ) → g < length ss → room (get_or ss g empty) ≡ length (gather g is)

rooms-more : (r : Item) (rs : List Item) (ss : List Slot) → r.signal < length ss → Rooms (r ∷ rs) ss
    → Rooms rs (advanced ss r.signal r.bytes)
rooms-more r rs ss i a g h = go (ℕ_discrete g r.signal)
  where
    go : Dec (g ≡ r.signal) → room (get_or (advanced ss r.signal r.bytes) g empty) ≡ length (gather g rs)
    go (yes q) =
        let k = a r.signal i in
        rw (q, get_or-set_same ss r.signal (next_slot ss r.signal r.bytes) empty i, room-advance (get_or ss r.signal empty) r.bytes)
        (omega (arith, length-own r rs))
    go (no n) =
        let j : g < length ss = omega (arith, length-set ss r.signal (next_slot ss r.signal r.bytes)) in
        rw (get_or-set_other ss r.signal g (next_slot ss r.signal r.bytes) empty n, ← (gather-other g r rs (λ q. n (sym q)))) (a g j)

module _ (f m e : List ℕ) (h : length f ≡ 12) (s d : ℕ) (place : d ≡ 12 + 4 * s + length m) where
  abbrev slots : List Slot → List ℕ
  slots ss = laid f m e (marks 0 ss) (filling ss)

  record One (r : Item) (ss : List Slot) : Type 0 where
    inside : d + kept_at r.signal (slots ss) + length r.bytes ≤ length (slots ss)
    small : kept_at r.signal (slots ss) + length r.bytes < 4294967296
    next :
        keep r.signal (kept_at r.signal (slots ss) + length r.bytes) (sets (slots ss) (d + kept_at r.signal (slots ss)) r.bytes)
        ≡ slots (advanced ss r.signal r.bytes)

  one : (r : Item) (ss : List Slot) → length ss ≡ s → r.signal < s → length r.bytes ≤ room (get_or ss r.signal empty)
      → d + length (filling ss) < 4294967296 → One r ss
  one r ss l i a n =
      let g : ℕ = r.signal in
      let b : List ℕ = r.bytes in
      let os : List ℕ = marks 0 ss in
      let lo : length os ≡ s = length-marks 0 ss ∙ l in
      let fits : get_or os g 0 + length b ≤ length (filling ss) = rw zero-add at (mark-fits ss g 0 (length b) a) in
      let k : kept_at g (slots ss) ≡ get_or os g 0 = kept-laid f m e h os (filling ss) g (omega arith) (omega arith) in
      let w : sets (slots ss) (d + get_or os g 0) b ≡ laid f m e os (sets (filling ss) (get_or os g 0) b) =
      write-laid f m e h os (filling ss) d (get_or os g 0) b (rw lo place) fits in
      let v = keep-laid f m e h os (sets (filling ss) (get_or os g 0) b) g (get_or os g 0 + length b) (omega arith) in
      record {
        inside = rw k (omega (arith, length-laid f m e h os (filling ss)));
        small = rw k (omega arith);
        next = rw (k, w, v, marks-advanced ss g 0 b a, filling-advanced ss g b (omega arith) a) refl;
      }

  pub scatter-laid : (is : List Item) (ss : List Slot) → length ss ≡ s → Below s is → Rooms is ss → d + length (filling ss) < 4294967296
      → Scatters d is (slots ss) × (scatter d is (slots ss) ≡ slots (moved is ss))
  unfolding scatter Scatters moved
  scatter-laid [] ss l b a n = (tt, refl)
  scatter-laid (r ∷ rs) ss l b a n =
      let g : ℕ = r.signal in
      let i : g < length ss = omega (arith, b.0) in
      let ro : length r.bytes ≤ room (get_or ss g empty) = omega (arith, a g i, length-own r rs) in
      let o = one r ss l b.0 ro n in
      let same : length (filling (advanced ss g r.bytes)) ≡ length (filling ss) =
      rw (← (filling-advanced ss g r.bytes i ro)) (length-sets (filling ss) (get_or (marks 0 ss) g 0) r.bytes) in
      let l' : length (advanced ss g r.bytes) ≡ s = length-set ss g (next_slot ss g r.bytes) ∙ l in
      let ih = scatter-laid rs (advanced ss g r.bytes) l' b.1 (rooms-more r rs ss i a) (omega arith) in
      rw o.next ((o.inside, o.small, ih.0), ih.1)
