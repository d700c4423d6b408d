-- What the passes of the block writer do together: from work whose records are of known signals, and room for the block, each pass stays
-- inside its bytes and its numbers inside 32 bits, and they leave `block_bytes`.
-- Assumes nothing.
use Prim.Native.Nat.{ℕ, ◌+◌, ◌*◌, ◌≤◌, ◌<◌}
use mathlib.Core.Path.{◌≡◌, refl, sym, ap, ◌∙◌}
use mathlib.Core.List.{List, ◌++◌, map, append_assoc}
use native.Mathlib.Nat.{add-zero, zero-add}
use native.Mathlib.Omega.{arith}
use lib.ListN.{length, take, drop, replicate, length-append, length-drop, length-map, take-append-drop}
use lib.Seq.{sets, ext_get_or, drop-drop, length-take-le}
use Rattle.numbers.specs.LittleEndian.{le}
use Rattle.numbers.proofs.LittleEndianLaws.{length-le}
use Rattle.value.specs.Class.{class_number}
use Rattle.image.specs.Block.{les, data_of, offsets_from, block, block_bytes, block_size}
use Rattle.image.proofs.SizeLaws.{length-les, length-offsets}
use Rattle.recording.specs.declared.SignalRecord.{SignalRecord}
use Rattle.recording.specs.Work.{Item}
use Rattle.recording.specs.Step.{parts_from}
use Rattle.work.specs.Measure.{data_length}
use Rattle.work.proofs.WorkLaws.{Below}
use Rattle.block.specs.Given.{tops_of, closed, Closes}
use Rattle.block.specs.Passes.{clear, count, begin, scatter, settle, Counts, Begins, Scatters, Settles}
use Rattle.block.proofs.SizeLaws.{length-data, length-parts}
use Rattle.block.proofs.LayoutLaws.{raw, laid, sets-front, sets-after}
use Rattle.block.proofs.CountLaws.{streams, length-streams, streams-at, clear-laid, count-laid}
use Rattle.block.proofs.SlotLaws.{Slot, empty, marks, filling, moved, moved_at, length_moved}
use Rattle.block.proofs.BeginLaws.{slots_of, extent, extent-streams, begin-laid, length-slots, length-filling, room-slots}
use Rattle.block.proofs.ScatterLaws.{Rooms, scatter-laid}
use Rattle.block.proofs.SettleLaws.{full, full_at, filling-full, settle-laid}

-- where the data begin
abbrev pub data_at : (signals times : ℕ) → ℕ
data_at s t = 12 + 4 * s + 8 * t

abbrev pub head_of : (signals times bytes : ℕ) → List ℕ
head_of s t n = le 4 (block_size s t n) ++ (le 4 t ++ le 4 s)

-- the bytes with the head and the times, from which the passes start
abbrev pub prepared : (signals : ℕ) → (ts : List ℕ) → (bytes : ℕ) → List ℕ → List ℕ
prepared s ts n t = sets (sets t 0 (head_of s (length ts) n)) (12 + 4 * s) (les 8 ts)

-- what the passes do to t, in which the head and the times stand: they end at t'
pub record Writes (d s : ℕ) (tops : List ℕ) (is : List Item) (t t' : List ℕ) : Type 0 where
  pub counts : Counts is (clear 0 s t)
  pub begins : Begins d 0 0 tops (count is (clear 0 s t))
  pub closes : Closes d s is (begin d 0 0 tops (count is (clear 0 s t)))
  pub written : closed d s is (begin d 0 0 tops (count is (clear 0 s t))) ≡ t'

-- pass by pass
chain : (d s : ℕ) (tops : List ℕ) (is : List Item) (t t₁ t₂ t₃ t₄ t₅ : List ℕ) → clear 0 s t ≡ t₁ → Counts is t₁ → count is t₁ ≡ t₂
    → Begins d 0 0 tops t₂ → begin d 0 0 tops t₂ ≡ t₃ → Scatters d is t₃ → scatter d is t₃ ≡ t₄ → Settles 0 0 s t₄ → settle 0 0 s t₄ ≡ t₅
    → Writes d s tops is t t₅
chain d s tops is t t₁ t₂ t₃ t₄ t₅ e₁ c e₂ b e₃ a e₄ l e₅ =
    record {
      counts = rw e₁ c;
      begins = rw (e₁, e₂) b;
      closes = (rw (e₁, e₂, e₃) a, rw (e₁, e₂, e₃, e₄) l);
      written = rw (e₁, e₂, e₃, e₄) e₅;
    }

-- ---- the bytes before the first pass and after the last

length-head : (s t n : ℕ) → length (head_of s t n) ≡ 12
length-head s t n = simp (length-append, length-le)

cut : (a b : ℕ) (l : List ℕ) → drop a l ≡ take b (drop a l) ++ drop (a + b) l
cut a b l = sym (take-append-drop b (drop a l)) ∙ rw (drop-drop b a l) refl

module _ (s : ℕ) (ts t : List ℕ) (n : ℕ) (enough : data_at s (length ts) + n ≤ length t) where
  abbrev numbers : List ℕ
  numbers = take (4 * s) (drop 12 t)

  abbrev bytes : List ℕ
  bytes = take n (drop (data_at s (length ts)) t)

  abbrev behind : List ℕ
  behind = drop (data_at s (length ts) + n) t

  length-numbers : length numbers ≡ 4 * s
  length-numbers = length-take-le (4 * s) (drop 12 t) (rw length-drop (omega arith))

  length-bytes : length bytes ≡ n
  length-bytes = length-take-le n (drop (data_at s (length ts)) t) (rw length-drop (omega arith))

  prepared-raw : prepared s ts n t ≡ raw (head_of s (length ts) n) (les 8 ts) behind numbers bytes
  prepared-raw =
      let f : List ℕ = head_of s (length ts) n in
      let old : List ℕ = take (8 * length ts) (drop (12 + 4 * s) t) in
      let lf : length f ≡ 12 = length-head s (length ts) n in
      let l1 : length (take 12 t) ≡ length f = length-take-le 12 t (omega arith) ∙ sym lf in
      let l2 : length old ≡ length (les 8 ts) =
      length-take-le (8 * length ts) (drop (12 + 4 * s) t) (rw length-drop (omega arith)) ∙ sym (length-les 8 ts) in
      let c : t ≡ take 12 t ++ (numbers ++ (old ++ (bytes ++ behind))) =
      sym (take-append-drop 12 t)
      ∙ ap (λ (u : List ℕ). take 12 t ++ u) (cut 12 (4 * s) t
      ∙ ap (λ (u : List ℕ). numbers ++ u) (cut (12 + 4 * s) (8 * length ts) t
      ∙ ap (λ (u : List ℕ). old ++ u) (cut (data_at s (length ts)) n t))) in
      ap (λ (u : List ℕ). sets (sets u 0 f) (12 + 4 * s) (les 8 ts)) c
      ∙ ap (λ (u : List ℕ). sets u (12 + 4 * s) (les 8 ts)) (sets-front (take 12 t) (numbers ++ (old ++ (bytes ++ behind))) f l1)
      ∙ sets-after f (numbers ++ (old ++ (bytes ++ behind))) 12 (4 * s) (les 8 ts) lf
      ∙ ap (λ (u : List ℕ). f ++ u)
      (rw (add-zero (4 * s)) at (sets-after numbers (old ++ (bytes ++ behind)) (4 * s) 0 (les 8 ts) length-numbers)
      ∙ ap (λ (u : List ℕ). numbers ++ u) (sets-front old (bytes ++ behind) (les 8 ts) l2))

  -- a block as long as the room it is given
  block-laid : (os x : List ℕ) → length os ≡ s → length x ≡ n
      → sets t 0 (head_of s (length ts) n ++ (les 4 os ++ (les 8 ts ++ x))) ≡ laid (head_of s (length ts) n) (les 8 ts) behind os x
  block-laid os x lo lx =
      let f : List ℕ = head_of s (length ts) n in
      let b : List ℕ = f ++ (les 4 os ++ (les 8 ts ++ x)) in
      let lb : length b ≡ data_at s (length ts) + n = simp (length-append, length-le, length-les, lo, lx) (omega arith) in
      ap (λ (u : List ℕ). sets u 0 b) (sym (take-append-drop (data_at s (length ts) + n) t))
      ∙ sets-front (take (data_at s (length ts) + n) t) behind b (length-take-le (data_at s (length ts) + n) t enough ∙ sym lb)
      ∙ simp append_assoc

-- ---- the slots of the parts

module _ (rs : List SignalRecord) (is : List Item) where
  length-tops : length (tops_of rs) ≡ length (streams 0 (length rs) is)
  length-tops = length-map rs (λ r. class_number r.top) ∙ sym (length-streams 0 (length rs) is)

  abbrev first : List ℕ → List Slot
  first x = slots_of (tops_of rs) (streams 0 (length rs) is) x

  length-first : (x : List ℕ) → length (first x) ≡ length rs
  length-first x = length-slots (tops_of rs) (streams 0 (length rs) is) x length-tops ∙ length-streams 0 (length rs) is

  rooms-first : (x : List ℕ) → length x ≡ data_length 0 (length rs) is → Rooms is (first x)
  rooms-first x l g h =
      let i : g < length rs = omega (arith, length-first x) in
      room-slots (tops_of rs) (streams 0 (length rs) is) x g length-tops (l ∙ sym (extent-streams 0 (length rs) is))
      ∙ rw (streams-at 0 (length rs) is g i, zero-add g) refl

  moved-full : (x : List ℕ) → Below (length rs) is → moved is (first x) ≡ map full (parts_from 0 rs is)
  moved-full x b =
      let lm : length (moved is (first x)) ≡ length rs = length_moved is (first x) ∙ length-first x in
      let lf : length (map full (parts_from 0 rs is)) ≡ length rs = length-map (parts_from 0 rs is) full ∙ length-parts 0 rs is in
      ext_get_or empty (moved is (first x)) (map full (parts_from 0 rs is)) (lm ∙ sym lf)
      (λ k h. moved_at is (first x) (length rs) k (length-first x) b ∙ sym (rw (zero-add k) at (full_at rs is 0 k x)))

-- ---- all passes

-- the block's bytes, by their parts
block-parts : (ts : List ℕ) (rs : List SignalRecord) (is : List Item)
    → block_bytes (block ts (parts_from 0 rs is))
    ≡ head_of (length rs) (length ts) (data_length 0 (length rs) is)
    ++ (les 4 (offsets_from 0 (parts_from 0 rs is)) ++ (les 8 ts ++ data_of (parts_from 0 rs is)))
unfolding block_bytes
block-parts ts rs is = rw (length-parts 0 rs is, length-data rs is) (simp append_assoc)

pub passes : (rs : List SignalRecord) (is : List Item) (ts t : List ℕ) → Below (length rs) is
    → data_at (length rs) (length ts) + data_length 0 (length rs) is ≤ length t
    → data_at (length rs) (length ts) + data_length 0 (length rs) is < 4294967296
    → Writes (data_at (length rs) (length ts)) (length rs) (tops_of rs) is (prepared (length rs) ts (data_length 0 (length rs) is) t)
    (sets t 0 (block_bytes (block ts (parts_from 0 rs is))))
passes rs is ts t below enough small =
    let s : ℕ = length rs in
    let d : ℕ = data_at s (length ts) in
    let n : ℕ = data_length 0 s is in
    let f : List ℕ = head_of s (length ts) n in
    let m : List ℕ = les 8 ts in
    let e : List ℕ = behind s ts t n enough in
    let x : List ℕ = bytes s ts t n enough in
    let zs : List (List ℕ) = streams 0 s is in
    let ps = parts_from 0 rs is in
    let lf : length f ≡ 12 = length-head s (length ts) n in
    let lx : length x ≡ n = length-bytes s ts t n enough in
    let xz : extent zs ≡ n = extent-streams 0 s is in
    let lz : length zs ≡ s = length-streams 0 s is in
    let lm : length m ≡ 8 * length ts = length-les 8 ts in
    let e1 : clear 0 s (prepared s ts n t) ≡ laid f m e (replicate s 0) x =
    ap (clear 0 s) (prepared-raw s ts t n enough) ∙ clear-laid f m e (numbers s ts t n enough) x s lf (length-numbers s ts t n enough) in
    let c = count-laid f m e x is s lf below (omega arith) in
    let b = begin-laid f m e lf d (tops_of rs) zs x (length-tops rs is) (lx ∙ sym xz) (omega arith) (omega arith) in
    let ls : length (filling (first rs is x)) ≡ n = length-filling (tops_of rs) zs x (length-tops rs is) (lx ∙ sym xz) ∙ xz in
    let a = scatter-laid f m e lf s d (omega arith) is (first rs is x) (length-first rs is x) below (rooms-first rs is x lx) (omega arith) in
    let e4 : scatter d is (laid f m e (marks 0 (first rs is x)) (filling (first rs is x))) ≡ laid f m e (marks 0 (map full ps)) (data_of ps) =
    a.1 ∙ rw (moved-full rs is x below, filling-full ps) refl in
    let ld : length (data_of ps) ≡ n = length-data rs is in
    let lp : length ps ≡ s = length-parts 0 rs is in
    let l = rw lp at (settle-laid f m e lf (data_of ps) ps (omega arith)) in
    let e5 : laid f m e (offsets_from 0 ps) (data_of ps) ≡ sets t 0 (block_bytes (block ts ps)) =
    sym (block-laid s ts t n enough (offsets_from 0 ps) (data_of ps) (length-offsets 0 ps ∙ lp) ld) ∙ rw (block-parts ts rs is) refl in
    chain d s (tops_of rs) is (prepared s ts n t) _ _ _ _ _ e1 c.0 c.1 b.0 b.1 a.0 e4 l.0 (l.1 ∙ e5)
