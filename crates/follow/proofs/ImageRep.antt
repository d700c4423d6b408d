-- Which image buffer stands for which finished blocks.
-- Assumes nothing.
use Prim.Native.Nat.{ℕ, suc, ◌+◌, ◌≤◌}
use mathlib.Core.Path.{◌≡◌, refl, sym, ap, ◌∙◌}
use mathlib.Core.List.{List, [], ◌∷◌, ◌++◌, map, append_assoc, append-nil}
use native.Mathlib.Nat.{add-zero}
use native.Mathlib.Omega.{arith}
use lib.ListN.{length, take, drop, length-append}
use lib.Seq.{sets, sets-eq, take_at, length-take-le, length-sets}
use Rattle.lists.proofs.SetsLaws.{taken_back}
use Rattle.numbers.specs.LittleEndian.{le}
use Rattle.numbers.proofs.LittleEndianLaws.{length-le}
use Rattle.signal.specs.declared.kind.SignalEncoding.{SignalEncoding}
use Rattle.stream.specs.Entries.{Entry}
use Rattle.image.specs.Block.{Block, les, block_bytes}
use Rattle.image.specs.Head.{kind_number, head_size, head_bytes}
use Rattle.image.specs.Image.{Image, image, streamed, blocks_bytes, image_bytes}
use Rattle.codec.proofs.Growth.{blocks-append, blocks-one}
use Rattle.codec.proofs.ImageFits.{head-size}
use Rattle.history.specs.History.{Change}
use Rattle.model.specs.Model.{Chunk, stored_of, image_of}
use Rattle.model.proofs.ValidLaws.{seen_of, image-snoc}
use Rattle.follow.proofs.WorkLaws.{sets-mid}

-- the stored blocks of finished ones
abbrev pub stored_all : List SignalEncoding → List Chunk → List (Block (List Entry))
stored_all ks bs = image_of (length ks) [] bs

-- the image of finished blocks, and its size
abbrev pub image_for : (limit : ℕ) → List SignalEncoding → List Chunk → Image
image_for limit ks bs = image limit ks (stored_all ks bs)

abbrev pub size_for : List SignalEncoding → List Chunk → ℕ
size_for ks bs = head_size (length ks) + length (blocks_bytes ks (stored_all ks bs))

-- the bytes of a block that follows finished ones
abbrev pub chunk_bytes : List SignalEncoding → List Chunk → Chunk → List ℕ
chunk_bytes ks bs o = block_bytes (streamed ks (stored_of (length ks) (seen_of bs ++ o.changes) o))

pub record ImageRep (limit : ℕ) (ks : List SignalEncoding) (used blocks : ℕ) (buffer : List ℕ) (bs : List Chunk) : Type 0 where
  pub count : blocks ≡ length bs
  pub long : used ≡ size_for ks bs
  pub room : used ≤ length buffer
  pub is : take used buffer ≡ image_bytes (image_for limit ks bs)

-- ---- one block more

pub length-image : (n : ℕ) (bs : List Chunk) (seen : List Change) → length (image_of n seen bs) ≡ length bs
unfolding image_of
length-image n [] seen = refl
length-image n (b ∷ bs) seen = ap suc (length-image n bs (seen ++ b.changes))

pub blocks-snoc : (ks : List SignalEncoding) (bs : List Chunk) (o : Chunk)
    → blocks_bytes ks (stored_all ks (bs ++ o ∷ [])) ≡ blocks_bytes ks (stored_all ks bs) ++ chunk_bytes ks bs o
blocks-snoc ks bs o =
    let s : Block (List Entry) = stored_of (length ks) (seen_of bs ++ o.changes) o in
    ap (blocks_bytes ks) (image-snoc (length ks) bs o [])
    ∙ blocks-append ks (stored_all ks bs) (s ∷ [])
    ∙ ap (λ (l : List ℕ). blocks_bytes ks (stored_all ks bs) ++ l) (blocks-one ks s)

pub size-snoc : (ks : List SignalEncoding) (bs : List Chunk) (o : Chunk) → size_for ks (bs ++ o ∷ []) ≡ size_for ks bs + length (chunk_bytes ks bs o)
size-snoc ks bs o = rw (blocks-snoc ks bs o, length-append) (omega arith)

-- ---- a block written behind what is used, and the middle of the head: blocks N and total bytes

abbrev middle : (blocks total : ℕ) → List ℕ
middle n t = le 4 n ++ le 4 t

length-middle : (n t : ℕ) → length (middle n t) ≡ 8
length-middle n t = length-append (le 4 n) (le 4 t) ∙ rw (length-le 4 n, length-le 4 t) refl

bytes-parts : (limit : ℕ) (ks : List SignalEncoding) (bs : List (Block (List Entry)))
    → image_bytes (image limit ks bs)
    ≡ middle (length ks) limit ++ (middle (length bs) (head_size (length ks) + length (blocks_bytes ks bs)) ++ (les 4 (map kind_number ks) ++ blocks_bytes ks bs))
unfolding image_bytes head_bytes
bytes-parts limit ks bs = simp append_assoc

put-block : (u : ℕ) (buffer p m m' q b : List ℕ) → u + length b ≤ length buffer → take u buffer ≡ p ++ (m ++ q) → length p ≡ 8 → length m' ≡ length m
    → take (u + length b) (sets (sets buffer u b) 8 m') ≡ p ++ (m' ++ (q ++ b))
put-block u buffer p m m' q b h e k l =
    let rest : List ℕ = drop (u + length b) buffer in
    let s1 : sets buffer u b ≡ p ++ (m ++ (q ++ b ++ rest)) = sets-eq b buffer u h ∙ rw e (simp append_assoc) in
    let s2 : sets (sets buffer u b) 8 m' ≡ (p ++ (m' ++ (q ++ b))) ++ rest = rw s1 (sets-mid p m m' (q ++ b ++ rest) 8 k l ∙ simp append_assoc) in
    let n : u ≡ length p + (length m + length q) = sym (length-take-le u buffer (omega arith)) ∙ rw e (simp length-append) in
    rw s2 (take_at (p ++ (m' ++ (q ++ b))) rest (u + length b) (simp length-append (omega arith)))

pub image-cut : (limit : ℕ) (ks : List SignalEncoding) (used blocks : ℕ) (buffer : List ℕ) (bs : List Chunk) (o : Chunk)
    → used + length (chunk_bytes ks bs o) ≤ length buffer → ImageRep limit ks used blocks buffer bs
    → ImageRep limit ks (used + length (chunk_bytes ks bs o)) (blocks + 1)
    (sets (sets buffer used (chunk_bytes ks bs o)) 8 (le 4 (blocks + 1) ++ le 4 (used + length (chunk_bytes ks bs o)))) (bs ++ o ∷ [])
image-cut limit ks used blocks buffer bs o h r =
    let b : List ℕ = chunk_bytes ks bs o in
    let ss : List (Block (List Entry)) = stored_all ks bs in
    let x : List ℕ = blocks_bytes ks ss in
    let y : blocks_bytes ks (stored_all ks (bs ++ o ∷ [])) ≡ x ++ b = blocks-snoc ks bs o in
    let c : blocks + 1 ≡ length (stored_all ks (bs ++ o ∷ [])) = rw (length-image (length ks) (bs ++ o ∷ []) [], length-append) (omega (arith, r.count)) in
    let t : used + length b ≡ head_size (length ks) + length (x ++ b) = rw length-append (omega (arith, r.long)) in
    let w = put-block used buffer (middle (length ks) limit) (middle (length ss) (head_size (length ks) + length x)) (middle (blocks + 1) (used + length b))
    (les 4 (map kind_number ks) ++ x) b h (r.is ∙ bytes-parts limit ks ss) (length-middle (length ks) limit)
    (length-middle (blocks + 1) (used + length b) ∙ sym (length-middle (length ss) (head_size (length ks) + length x))) in
    record {
      count = rw length-append (omega (arith, r.count));
      long = rw y t;
      room = rw (length-sets, length-sets) h;
      is = w ∙ rw (bytes-parts limit ks (stored_all ks (bs ++ o ∷ [])), y, ← c, ← t, append_assoc (les 4 (map kind_number ks)) x b) refl;
    }

-- ---- the start

head-image : (limit : ℕ) (ks : List SignalEncoding) → head_bytes limit 0 (head_size (length ks)) ks ≡ image_bytes (image_for limit ks [])
unfolding image_bytes image_of blocks_bytes
head-image limit ks = rw (append-nil, add-zero) refl

pub image-start : (limit : ℕ) (ks : List SignalEncoding) (buffer : List ℕ) → head_size (length ks) ≤ length buffer
    → ImageRep limit ks (head_size (length ks)) 0 (sets buffer 0 (head_bytes limit 0 (head_size (length ks)) ks)) []
unfolding image_of blocks_bytes
image-start limit ks buffer h =
    let b : List ℕ = head_bytes limit 0 (head_size (length ks)) ks in
    let n : length b ≡ head_size (length ks) = head-size limit 0 (head_size (length ks)) ks in
    record {
      count = refl;
      long = sym (add-zero (head_size (length ks)));
      room = rw length-sets h;
      is = taken_back b buffer (head_size (length ks)) (sym n) h ∙ head-image limit ks;
    }
