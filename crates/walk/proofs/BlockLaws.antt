-- Where an accepted image's blocks begin, that each fits, and what stands at which place of one.
-- Assumes nothing.
use Prim.Native.Nat.{ℕ, zero, suc, ◌+◌, ◌-◌, ◌*◌, ◌^◌, ◌≤◌, ◌<◌}
use mathlib.Core.Path.{◌≡◌, refl, sym, ap, ◌∙◌, subst}
use mathlib.Core.List.{List, [], ◌∷◌, ◌++◌}
use mathlib.Core.Option.{Option, none}
use native.Mathlib.Nat.{add-zero}
use native.Mathlib.Omega.{arith}
use native.Mathlib.Decide.{dec_lt}
use lib.ListN.{length, get_or, take, drop, length-append, take-append-drop}
use lib.Seq.{drop-cons, take-suc, take-length}
use Rattle.lists.specs.Bytes.{Bytes}
use Rattle.lists.specs.Last.{last_or}
use Rattle.numbers.specs.LittleEndian.{le, unle}
use Rattle.numbers.proofs.LittleEndianLaws.{length-le}
use Rattle.stream.specs.Entries.{Entry}
use Rattle.image.specs.Block.{Part, Block, block, les, data_of, offsets_from, times_place, block_size, block_bytes}
use Rattle.image.specs.Head.{head_size, image_limit}
use Rattle.image.specs.Image.{Image, streamed_parts, streamed, blocks_bytes}
use Rattle.image.proofs.SizeLaws.{length-les, length-offsets, block_size_lem}
use Rattle.codec.specs.Valid.{EachBelow, BlockFits}
use Rattle.codec.proofs.Trip.{Means}
use Rattle.codec.proofs.WrittenOut.{count-streamed}
use Rattle.codec.proofs.Growth.{blocks-append, blocks-one, blocks-each}
use Rattle.loaded.specs.Opener.{block_at}
use Rattle.walk.specs.Walk.{Opened, image_in, block_place, parts_in, data_place, BlockHere}
use Rattle.walk.proofs.StandLaws.{Stands, stands-front, stands-back, Number, stands-number, stands-nth}
use Rattle.walk.proofs.HeadLaws.{means, head_at}

-- ---- places

-- the blocks left at one that is there
pub blocks-left : (x : Image) (number : ℕ) → number < length x.blocks → drop number x.blocks ≡ block_at x number ∷ drop (suc number) x.blocks
blocks-left x number h = drop-cons x.blocks number (block [] []) h

pub first-place : (x : Image) → block_place x 0 ≡ head_size (length x.kinds)
unfolding block_place blocks_bytes
first-place x = add-zero _

pub next_place : (x : Image) (n : ℕ) → n < length x.blocks
    → block_place x (suc n) ≡ block_place x n + length (block_bytes (streamed x.kinds (block_at x n)))
unfolding block_place
next_place x n h =
    let ks = x.kinds in
    let bs = x.blocks in
    let y = block_at x n in
    let e : blocks_bytes ks (take (suc n) bs) ≡ blocks_bytes ks (take n bs) ++ block_bytes (streamed ks y) =
    ap (blocks_bytes ks) (take-suc bs n (block [] []) h) ∙ blocks-append ks (take n bs) (y ∷ [])
    ∙ ap (λ (l : List ℕ). blocks_bytes ks (take n bs) ++ l) (blocks-one ks y) in
    omega (arith, ap length e, length-append (blocks_bytes ks (take n bs)) (block_bytes (streamed ks y)))

pub end-place : (b : List ℕ) (x : Image) → Means b x → block_place x (length x.blocks) ≡ length b
unfolding block_place
end-place b x m =
    ap (λ (l : List (Block (List Entry))). head_size (length x.kinds) + length (blocks_bytes x.kinds l)) (take-length x.blocks)
    ∙ sym (head_at b x m).size

-- ---- a block is known by its place

places-rise : (x : Image) (n d : ℕ) → suc (n + d) ≤ length x.blocks → block_place x n < block_place x (suc (n + d))
places-rise x n zero h =
    let z : n + 0 ≡ n = omega arith in
    rw z (omega (arith, next_place x n (omega arith), block_size_lem (streamed x.kinds (block_at x n))))
places-rise x n (suc d) h =
    let z : n + suc d ≡ suc (n + d) = omega arith in
    rw z (omega (arith, next_place x (suc (n + d)) (omega arith), block_size_lem (streamed x.kinds (block_at x (suc (n + d)))), places-rise x n d (omega arith)))

later-place : (x : Image) (n m : ℕ) → n < m → m < length x.blocks → block_place x n < block_place x m
later-place x n m h k =
    let z : suc (n + (m - suc n)) ≡ m = omega arith in
    subst (λ (i : ℕ). block_place x n < block_place x i) z (places-rise x n (m - suc n) (omega arith))

pub same_block : (n m at : ℕ) (b : List ℕ) → BlockHere n at b → BlockHere m at b → n ≡ m
same_block n m at b h k = by (dec_lt n m) (dec_lt m n)
  where
    by : Dec (n < m) → Dec (m < n) → n ≡ m
    by (yes p) q = absurd (omega (arith, later-place (image_in b) n m p k.exists, h.place, k.place))
    by (no p) (yes q) = absurd (omega (arith, later-place (image_in b) m n q h.exists, h.place, k.place))
    by (no p) (no q) = omega (arith, p, q)

-- ---- what stands there

block-stands : (b : List ℕ) (x : Image) (n : ℕ) → Means b x → n < length x.blocks
    → Stands b (block_place x n) (block_bytes (streamed x.kinds (block_at x n)))
unfolding block_place blocks_bytes
block-stands b x n m h =
    let ks = x.kinds in
    let bs = x.blocks in
    let front : List ℕ = blocks_bytes ks (take n bs) in
    let e : blocks_bytes ks bs ≡ front ++ blocks_bytes ks (drop n bs) =
    ap (blocks_bytes ks) (sym (take-append-drop n bs)) ∙ blocks-append ks (take n bs) (drop n bs) in
    let f : drop n bs ≡ block_at x n ∷ drop (suc n) bs = drop-cons bs n (block [] []) h in
    let g : blocks_bytes ks bs ≡ front ++ (block_bytes (streamed ks (block_at x n)) ++ blocks_bytes ks (drop (suc n) bs)) =
    e ∙ ap (λ (l : List (Block (List Entry))). front ++ blocks_bytes ks l) f in
    let s = rw g at (head_at b x m).blocks in
    stands-front b _ (block_bytes (streamed ks (block_at x n))) (blocks_bytes ks (drop (suc n) bs))
    (stands-back b (head_size (length ks)) (length front) front _ refl s)

-- ---- inside a block

pub record InBlock (b : List ℕ) (at s : ℕ) (ts : List ℕ) (ps : List (Option (Part (List ℕ)))) : Type 0 where
  pub size : Number b at 4 (block_size s (length ts) (length (data_of ps)))
  pub count : Number b (at + 4) 4 (length ts)
  pub offsets : Stands b (at + 12) (les 4 (offsets_from 0 ps))
  pub times : Stands b (at + times_place s) (les 8 ts)
  pub bytes : Stands b (at + block_size s (length ts) 0) (data_of ps)
  pub most : at + block_size s (length ts) (length (data_of ps)) ≤ length b

inside : (b : List ℕ) (at : ℕ) (y : Block (List ℕ)) → length b ≤ image_limit → Stands b at (block_bytes y)
    → InBlock b at (length y.parts) y.times y.parts
unfolding block_bytes
inside b at y h w =
    let s : ℕ = length y.parts in
    let t : ℕ = length y.times in
    let z : ℕ = block_size s t (length (data_of y.parts)) in
    let d : List ℕ = data_of y.parts in
    let r4 : List ℕ = les 8 y.times ++ d in
    let o : List ℕ = les 4 (offsets_from 0 y.parts) in
    let r3 : List ℕ = o ++ r4 in
    let r2 : List ℕ = le 4 s ++ r3 in
    let r1 : List ℕ = le 4 t ++ r2 in
    let most : at + z ≤ length b = omega (arith, w.inside, block_size_lem y) in
    let lo : length o ≡ 4 * s = length-les 4 (offsets_from 0 y.parts) ∙ rw (length-offsets 0 y.parts) refl in
    let lt : length (les 8 y.times) ≡ 8 * t = length-les 8 y.times in
    let s0 : Stands b at (le 4 z ++ r1) = w in
    let s1 : Stands b (at + 4) (le 4 t ++ r2) = stands-back b at 4 (le 4 z) r1 (length-le 4 z) s0 in
    let s2 : Stands b (at + 4 + 4) (le 4 s ++ r3) = stands-back b (at + 4) 4 (le 4 t) r2 (length-le 4 t) s1 in
    let s3 : Stands b (at + 4 + 4 + 4) (o ++ r4) = stands-back b (at + 4 + 4) 4 (le 4 s) r3 (length-le 4 s) s2 in
    let e3 : at + 4 + 4 + 4 ≡ at + 12 = omega arith in
    let s3' : Stands b (at + 12) (o ++ r4) = rw e3 at s3 in
    let s4 : Stands b (at + 12 + 4 * s) (les 8 y.times ++ d) = stands-back b (at + 12) (4 * s) o r4 lo s3' in
    let e4 : at + 12 + 4 * s ≡ at + times_place s = omega arith in
    let s4' : Stands b (at + times_place s) (les 8 y.times ++ d) = rw e4 at s4 in
    let s5 : Stands b (at + times_place s + 8 * t) d = stands-back b (at + times_place s) (8 * t) (les 8 y.times) d lt s4' in
    let e5 : at + times_place s + 8 * t ≡ at + block_size s t 0 = omega arith in
    record {
      size = stands-number b at 4 z (omega arith) (stands-front b at (le 4 z) r1 s0);
      count = stands-number b (at + 4) 4 t (omega arith) (stands-front b (at + 4) (le 4 t) r2 s1);
      offsets = stands-front b (at + 12) o r4 s3';
      times = stands-front b (at + times_place s) (les 8 y.times) d s4';
      bytes = rw e5 at s5;
      most = most;
    }

-- of a block number
abbrev pub BlockIn : (b : List ℕ) (x : Image) (n : ℕ) → Type 0
BlockIn b x n = InBlock b (block_place x n) (length x.kinds) (block_at x n).times (streamed_parts x.kinds (block_at x n).parts)

pub block_in : (b : List ℕ) (x : Image) (n : ℕ) → Means b x → n < length x.blocks → BlockIn b x n
block_in b x n m h =
    let y = streamed x.kinds (block_at x n) in
    let e : length y.parts ≡ length x.kinds = count-streamed x.kinds (block_at x n).parts in
    rw e at (inside b (block_place x n) y (head_at b x m).most (block-stands b x n m h))

-- of an accepted image: it fits
pub fits_in : (n : ℕ) (b : List ℕ) → Bytes b → Opened b → n < length (image_in b).blocks → BlockFits (image_in b).limit (image_in b).kinds (block_at (image_in b) n)
fits_in n b y o h = let x = image_in b in blocks-each x.limit x.kinds none x.blocks (block [] []) (means b y o).valid.blocks n h

-- of an accepted image, at a place where a block begins
pub here : (n at : ℕ) (b : List ℕ) → Bytes b → Opened b → BlockHere n at b
    → InBlock b at (length (image_in b).kinds) (block_at (image_in b) n).times (streamed_parts (image_in b).kinds (block_at (image_in b) n).parts)
here n at b y o h = rw h.place (block_in b (image_in b) n (means b y o) h.exists)

pub next-size : (x : Image) (n : ℕ) → n < length x.blocks → block_place x (suc n) ≡ data_place x n + length (data_of (parts_in x n))
next-size x n h =
    omega (arith, next_place x n h, block_size_lem (streamed x.kinds (block_at x n)), count-streamed x.kinds (block_at x n).parts)

-- the number of its bytes leads to the next one
pub next_here : (n at r : ℕ) (b : List ℕ) → Bytes b → Opened b → BlockHere n at b → r ≡ unle (take 4 (drop at b)) → at + r ≡ block_place (image_in b) (suc n)
next_here n at r b y o h e =
    omega (arith, next-size (image_in b) n h.exists, h.place, (here n at b y o h).size.value)

-- ---- times

each_below : (m : ℕ) (l : List ℕ) (i : ℕ) → EachBelow m l → i < length l → get_or l i 0 < m
each_below m [] i h k = absurd (omega arith)
each_below m (x ∷ l) zero h k = h.0
each_below m (x ∷ l) (suc i) h k = each_below m l i h.1 (omega arith)

pub time-here : (n at i : ℕ) (b : List ℕ) → Bytes b → Opened b → BlockHere n at b → i < length (block_at (image_in b) n).times
    → Number b (at + times_place (length (image_in b).kinds) + 8 * i) 8 (get_or (block_at (image_in b) n).times i 0)
time-here n at i b y o h k =
    let x = image_in b in
    let ts = (block_at x n).times in
    let p : ℕ = at + times_place (length x.kinds) in
    let s = stands-nth 8 ts b p i k (here n at b y o h).times in
    let e : p + i * 8 ≡ p + 8 * i = omega arith in
    stands-number b (p + 8 * i) 8 (get_or ts i 0) (each_below (2 ^ 64) ts i (fits_in n b y o h.exists).small k) (rw e at s)

-- the same time, whichever number the block is known by
pub time-read : (n m at i s : ℕ) (b : List ℕ) → Bytes b → Opened b → BlockHere n at b → i < length (block_at (image_in b) n).times → BlockHere m at b
    → s ≡ length (image_in b).kinds → Number b (at + times_place s + 8 * i) 8 (get_or (block_at (image_in b) m).times i 0)
time-read n m at i s b y o h k g e =
    let same : length (block_at (image_in b) n).times ≡ length (block_at (image_in b) m).times = sym (here n at b y o h).count.value ∙ (here m at b y o g).count.value in
    rw e (time-here m at i b y o g (omega arith))

-- the last of times is the one before their number
pub last-nth : (ts : List ℕ) → 1 ≤ length ts → get_or ts (length ts - 1) 0 ≡ last_or 0 ts
last-nth [] h = absurd (omega arith)
last-nth (x ∷ l) h =
    let e : length (x ∷ l) - 1 ≡ length l = omega arith in
    ap (λ (i : ℕ). get_or (x ∷ l) i 0) e ∙ go 0 x l
  where
    go : (d x : ℕ) (l : List ℕ) → get_or (x ∷ l) (length l) 0 ≡ last_or d (x ∷ l)
    go d x [] = unfold last_or in refl
    go d x (y ∷ l) = go x y l ∙ (unfold last_or in refl)

pub any-time : (n : ℕ) (b : List ℕ) → Bytes b → Opened b → n < length (image_in b).blocks → 1 ≤ length (block_at (image_in b) n).times
any-time n b y o h = (fits_in n b y o h).any
