-- A cut: its size as it is measured, and that its steps, with the loop over the records between them, write what `cut_in` says.
-- Assumes nothing.
use Prim.Native.Nat.{ℕ, ◌+◌, ◌-◌, ◌*◌, ◌≤◌, ◌<◌}
use mathlib.Core.Path.{◌≡◌, refl, sym, ap, ◌∙◌}
use mathlib.Core.Bool.{Bool, true, false}
use mathlib.Core.List.{List, ◌++◌}
use mathlib.Core.Option.{Option, some, none}
use Rattle.std.specs.Prelude as code
use native.Mathlib.Nat.{add-zero}
use native.Mathlib.Omega.{arith}
use borrow.Author.Tests.{lt-ltb, le-ltb, ltb-false}
use borrow.Rule.Slice.PartMut.{put_mid}
use lib.ListN.{length, take, drop, length-drop}
use lib.Seq.{sets, length-sets, length-take-le}
use lib.Dec.{ltb}
use Rattle.lists.specs.Choice.{pick}
use Rattle.lists.proofs.SetsLaws.{sets-append, sets-part}
use Rattle.numbers.specs.LittleEndian.{le}
use Rattle.numbers.proofs.LittleEndianLaws.{length-le}
use Rattle.image.specs.Block.{les, block_bytes, block_size}
use Rattle.refusal.specs.declared.Refusal.{Refusal}
use Rattle.refusal.specs.declared.Refusal.TheVariants.{Altered, ImageFull}
use Rattle.refusal.specs.Refusal.{refusal_number}
use Rattle.recording.specs.declared.Encoder.{Encoder}
use Rattle.recording.specs.declared.SignalRecord.{SignalRecord}
use Rattle.recording.specs.Work.{Item, items_of, items_in}
use Rattle.recording.specs.Memory.{Memory, memory}
use Rattle.recording.specs.Step.{noCut, cuts, cut_block, cut_items, cut_of, cut_in}
use Rattle.work.specs.Measure.{data_length, measured}
use Rattle.refusals.proofs.StateLaws.{Sound}
use Rattle.block.specs.Given.{Divides, tops_of, fronted, opened}
use Rattle.block.specs.Passes.{clear, begin}
use Rattle.block.proofs.BlockLaws.{written}
use Rattle.block.proofs.Passes.{Writes}
use Rattle.block.proofs.PassLaws.{length-clear, length-count}
use Rattle.block.proofs.SizeLaws.{length-block}
use Rattle.cut.specs.Cut.{size_of, sized, used_items, data_start, cut_closed, CutOpens, CutCloses}
use Rattle.cut.specs.Turns.{cut_turns, TurnsFit}
use Rattle.cut.proofs.TurnLaws.{tail-back, tail-lent, front_same, tail-same, length-parts, turns-length, turns-all, turns_fit}

pub used-length : (n : ℕ) (w : List ℕ) → n ≤ length w → n ≡ length (take n w)
used-length n w h = sym (length-take-le n w h)

-- ---- N and total over the image

pub head-put : (x y z : List ℕ) (b n : ℕ) → y ≡ sets x 8 (le 4 b) → z ≡ sets y 12 (le 4 n) → z ≡ sets x 8 (le 4 b ++ le 4 n)
head-put x y z b n e f = f ∙ rw (e, sets-append (le 4 b) (le 4 n) x 8, length-le 4 b) refl

-- ---- the size, as the code meets its cases; u is the used work

module _ (s : Encoder) (w : List ℕ) (image : ℕ) (h : s.work ≤ length w) where
  abbrev u : List ℕ
  u = take s.work w

  sized-at : sized s w image ≡ size_of s image (items_of (length u) s.signals u)
  unfolding sized
  sized-at = rw (← (used-length s.work w h)) refl

  pub size-damaged : code.None ≡ measured s.signals (items_of (length u) s.signals u) → code.Err Altered ≡ sized s w image
  size-damaged e = by (items_of (length u) s.signals u) refl e
    where
      by : (o : Option (List Item)) → items_of (length u) s.signals u ≡ o → code.None ≡ measured s.signals o → code.Err Altered ≡ sized s w image
      by none q r = sym (sized-at ∙ rw q refl)
      by (some is) q r = let z : ◌≡◌ {A = ℕ} 0 1 = cc in absurd (omega arith)

  module _ (n : ℕ) (e : code.Some n ≡ measured s.signals (items_of (length u) s.signals u)) where
    size-data : sized s w image ≡ pick (ltb (image - s.image) (data_start s + n)) (code.Err ImageFull) (code.Ok (data_start s + n))
    size-data = by (items_of (length u) s.signals u) refl e
      where
        by : (o : Option (List Item)) → items_of (length u) s.signals u ≡ o → code.Some n ≡ measured s.signals o
            → sized s w image ≡ pick (ltb (image - s.image) (data_start s + n)) (code.Err ImageFull) (code.Ok (data_start s + n))
        by none q r = let z : ◌≡◌ {A = ℕ} 0 1 = cc in absurd (omega arith)
        by (some is) q r = let k : n ≡ data_length 0 s.signals is = cc in sized-at ∙ rw (q, k) refl

    pub size-full : image - s.image < data_start s + n → code.Err ImageFull ≡ sized s w image
    size-full l = sym (size-data ∙ rw (lt-ltb (image - s.image) (data_start s + n) l) refl)

    pub size_fits : data_start s + n ≤ image - s.image → code.Ok (data_start s + n) ≡ sized s w image
    size_fits l = sym (size-data ∙ rw (le-ltb (image - s.image) (data_start s + n) l) refl)

-- a block that can be cut has room
pub size_room : (s : Encoder) (w : List ℕ) (image n : ℕ) → code.Ok n ≡ sized s w image → n ≤ image - s.image
unfolding sized
size_room s w image n = by (items_of s.work s.signals (take s.work w))
  where
    by-room : (k : ℕ) (b : Bool) → ltb (image - s.image) k ≡ b → code.Ok n ≡ pick b (code.Err ImageFull) (code.Ok k) → n ≤ image - s.image
    by-room k true e q = let z : ◌≡◌ {A = ℕ} 0 1 = cc in absurd (omega arith)
    by-room k false e q = let same : n ≡ k = cc in omega (arith, ltb-false _ _ e, same)

    by : (o : Option (List Item)) → code.Ok n ≡ size_of s image o → n ≤ image - s.image
    by none q = let z : ◌≡◌ {A = ℕ} 0 1 = cc in absurd (omega arith)
    by (some is) q =
        let k : ℕ = block_size s.signals s.held (data_length 0 s.signals is) in
        by-room k (ltb (image - s.image) k) refl q

-- ---- what the size says of a cut

module _ (s : Encoder) (rs : List SignalRecord) (t w i : List ℕ) (h : Sound s (length rs) (length t) (length w) (length i)) where
  abbrev m : Memory
  m = memory s rs t w i

  abbrev used : List ℕ
  used = take s.work w

  abbrev pub made : List ℕ
  made = block_bytes (cut_block m (used_items s w))

  -- a block of so many bytes can be cut
  pub record Cuttable (size : ℕ) : Type 0 where
    pub divides : Divides s.signals used
    pub parts : size ≡ block_size s.signals s.held (data_length 0 s.signals (used_items s w))
    pub whole : size ≡ length made
    pub room : size ≤ length i - s.image
    pub cut : cut_of m ≡ cuts made

  pub data Sizes : Type 0 where
    refuses : (r : Refusal) → sized s w (length i) ≡ code.Err r → cut_of m ≡ noCut (refusal_number r) → Sizes
    fits : (n : ℕ) → sized s w (length i) ≡ code.Ok n → Cuttable n → Sizes

  made-length : (is : List Item) → length (block_bytes (cut_block m is)) ≡ block_size s.signals s.held (data_length 0 s.signals is)
  made-length is =
      let e : length (take s.held t) ≡ s.held = length-take-le s.held t (omega (arith, h.held, h.table)) in
      length-block (take s.held t) rs is ∙ rw (e, ← h.signals) refl

  cut_at : cut_of m ≡ cut_items m (items_of (length used) s.signals used)
  unfolding cut_of
  cut_at = rw (← (used-length s.work w h.worked)) refl

  size-at : sized s w (length i) ≡ size_of s (length i) (items_of (length used) s.signals used)
  unfolding sized
  size-at = rw (← (used-length s.work w h.worked)) refl

  pub sizes : Sizes
  sizes = by (items_of (length used) s.signals used) refl
    where
      by-room : (is : List Item) → items_of (length used) s.signals used ≡ some is → (b : Bool)
          → ltb (length i - s.image) (block_size s.signals s.held (data_length 0 s.signals is)) ≡ b → Sizes
      by-room is q true r =
          refuses ImageFull (size-at ∙ rw (q, r) refl) (cut_at ∙ rw (q, made-length is, r) refl)
      by-room is q false r =
          let n : ℕ = block_size s.signals s.held (data_length 0 s.signals is) in
          let here : items_in s.signals used ≡ is = rw q refl in
          fits n (size-at ∙ rw (q, r) refl)
          (record {
            divides = q ∙ ap (λ (x : List Item). some x) (sym here);
            parts = ap (λ (x : List Item). block_size s.signals s.held (data_length 0 s.signals x)) (sym here);
            whole = sym (made-length is) ∙ ap (λ (x : List Item). length (block_bytes (cut_block m x))) (sym here);
            room = ltb-false _ _ r;
            cut = cut_at ∙ rw (q, made-length is, r) refl ∙ ap (λ (x : List Item). cuts (block_bytes (cut_block m x))) (sym here);
          })

      by : (o : Option (List Item)) → items_of (length used) s.signals used ≡ o → Sizes
      by none q = refuses Altered (size-at ∙ rw q refl) (cut_at ∙ rw q refl)
      by (some is) q = by-room is q (ltb (length i - s.image) (block_size s.signals s.held (data_length 0 s.signals is))) refl

  -- ---- the steps of the cut

  module _ (size : ℕ) (c : Cuttable size) (any : 0 < s.held) where
    abbrev d : ℕ
    d = data_start s

    abbrev is : List Item
    is = used_items s w

    abbrev ts : List ℕ
    ts = take s.held t

    abbrev tail : List ℕ
    tail = drop s.image i

    abbrev readied : List ℕ
    readied = opened size s.held s.signals ts is tail

    tail-length : length tail ≡ length i - s.image
    tail-length = length-drop s.image i

    writes : Writes d s.signals (tops_of rs) is (fronted size s.held s.signals ts tail) (sets tail 0 made)
    writes =
        written rs t used tail s.signals s.held size (sym h.signals) c.divides (omega (arith, h.held, h.table)) c.parts
        (omega (arith, tail-length, c.room)) (omega (arith, c.room, h.short))

    open-length : length readied ≡ length tail
    open-length =
        length-count is (clear 0 s.signals (fronted size s.held s.signals ts tail))
        ∙ length-clear 0 s.signals (fronted size s.held s.signals ts tail)
        ∙ length-sets (sets tail 0 (le 4 size ++ (le 4 s.held ++ le 4 s.signals))) (12 + 4 * s.signals) (les 8 ts)
        ∙ length-sets tail 0 (le 4 size ++ (le 4 s.held ++ le 4 s.signals))

    -- the image before the loop
    abbrev before : List ℕ
    before = take s.image i ++ readied

    before-length : length before ≡ length i
    before-length = length-parts s.image i readied h.used open-length

    before-tail : drop s.image before ≡ readied
    before-tail = tail-same s.image i readied h.used

    inside : s.image + d ≤ length i
    inside = omega (arith, c.parts, c.room, h.used)

    pub cut-opens : CutOpens s size t w i
    cut-opens =
        record {
          room = inside;
          short = h.short;
          held = omega (arith, h.held, h.table);
          worked = h.worked;
          divides = c.divides;
          opens = writes.counts;
        }

    before-used : s.image ≤ length before
    before-used = rw before-length h.used

    pub cut-turns : TurnsFit s.image d (length rs) rs before
    cut-turns = turns_fit s.image d rs before before-used (omega (arith, h.signals)) (rw before-tail writes.begins)

    -- the image after the loop
    abbrev begun : List ℕ
    begun = begin d 0 0 (tops_of rs) readied

    looped : (cut_turns s.image d (length rs) rs before).image ≡ take s.image i ++ begun
    looped =
        turns-all s.image d rs before before-used ∙ rw (before-tail, front_same s.image i readied h.used) refl

    begun-tail : drop s.image (take s.image i ++ begun) ≡ begun
    begun-tail = tail-same s.image i begun h.used

    looped-length : length (cut_turns s.image d (length rs) rs before).image ≡ length i
    looped-length = turns-length s.image d rs before before-used (length rs) ∙ before-length

    pub cut-closes : CutCloses s size t w (cut_turns s.image d (length rs) rs before).image
    cut-closes =
        record {
          room = rw looped-length inside;
          short = rw looped-length h.short;
          blocks = h.blocks;
          total = rw looped-length (omega (arith, c.room, h.used));
          some-held = any;
          held = omega (arith, h.held, h.table);
          worked = h.worked;
          divides = c.divides;
          closes = rw (looped, begun-tail) writes.closes;
        }

    block-put : take s.image i ++ sets tail 0 made ≡ sets i s.image made
    block-put =
        let k : ℕ = length i - s.image in
        sym (tail-back s.image i (sets tail 0 made) h.used)
        ∙ ap (λ (x : List ℕ). put_mid s.image k i (sets x 0 made)) (sym (tail-lent s.image i h.used))
        ∙ sets-part made i s.image k 0 (omega (arith, c.whole, c.room))
        ∙ simp add-zero

    pub cut-made : cut_closed s size w (cut_turns s.image d (length rs) rs before).image ≡ (cut_in m made).image
    cut-made =
        rw (looped, begun-tail, front_same s.image i begun h.used, writes.written, block-put, c.whole) refl
