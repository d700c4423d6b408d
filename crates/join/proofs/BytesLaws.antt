-- The bytes of a joined image, out of those of the two.
-- Assumes nothing.
use Prim.Native.Nat.{ℕ, ◌+◌, ◌-◌, ◌≤◌, ◌<◌}
use mathlib.Core.Path.{◌≡◌, sym, ap, ap₂, ◌∙◌}
use mathlib.Core.Bool.{false}
use mathlib.Core.List.{List, ◌++◌, map, append_assoc}
use native.Mathlib.Omega.{arith}
use lib.ListN.{length, take, drop, length-append, length-drop}
use lib.Seq.{sets, take_at, drop_at, take-length, length-take-le}
use Rattle.lists.specs.Bytes.{Bytes}
use Rattle.lists.proofs.SetsLaws.{sets-append}
use Rattle.numbers.specs.LittleEndian.{le}
use Rattle.numbers.proofs.LittleEndianLaws.{length-le}
use Rattle.signal.specs.declared.kind.SignalEncoding.{SignalEncoding}
use Rattle.image.specs.Block.{les}
use Rattle.image.specs.Head.{kind_number, head_size, head_bytes}
use Rattle.image.specs.Image.{Image, blocks_bytes, image_bytes}
use Rattle.codec.proofs.ImageFits.{head-size, image-size, blocks-count}
use Rattle.joined.specs.Join.{joined_image, differs}
use Rattle.joined.proofs.JoinLaws.{Alike, alike, joined-blocks, joined-size}
use Rattle.walk.specs.Walk.{Opened, image_in}
use Rattle.walk.proofs.HeadLaws.{means, head_in}

-- ---- accepted images of which nothing differs

both-alike : (a b : List ℕ) → Bytes a → Bytes b → Opened a → Opened b → differs (image_in a) (image_in b) ≡ false → Alike (image_in a) (image_in b)
both-alike a b y z o q e = alike (image_in a) (image_in b) (means a y o).valid (means b z q).valid e

-- ---- the bytes

grouped : (p q r s : List ℕ) → (p ++ (q ++ r)) ++ s ≡ p ++ (q ++ (r ++ s))
grouped p q r s = append_assoc p (q ++ r) s ∙ ap (λ (l : List ℕ). p ++ l) (append_assoc q r s)

-- S and B, N, the total, the kinds and what follows
head-split : (l n t : ℕ) (ks : List SignalEncoding) (bb : List ℕ)
    → head_bytes l n t ks ++ bb ≡ (le 4 (length ks) ++ le 4 l) ++ (le 4 n ++ (le 4 t ++ (les 4 (map kind_number ks) ++ bb)))
unfolding head_bytes
head-split l n t ks bb = simp append_assoc

module _ (a b : List ℕ) (y : Bytes a) (z : Bytes b) (o : Opened a) (q : Opened b) (d : differs (image_in a) (image_in b) ≡ false) where
  abbrev x : Image
  x = image_in a

  abbrev w : Image
  w = image_in b

  abbrev all : List ℕ
  all = image_bytes (joined_image (image_in a) (image_in b))

  both : blocks_bytes x.kinds (x.blocks ++ w.blocks) ≡ blocks_bytes x.kinds x.blocks ++ blocks_bytes w.kinds w.blocks
  both = joined-blocks x w (both-alike a b y z o q d)

  pub total-is : length all ≡ length a + (length b - head_size (length w.kinds))
  total-is =
      omega (arith, joined-size x w (both-alike a b y z o q d), ap length (means a y o).bytes, ap length (means b z q).bytes, (head_in b z q).size)

  -- what stands in the first and in the second
  written : image_bytes x ≡ (le 4 (length x.kinds) ++ le 4 x.limit)
      ++ (le 4 (length x.blocks) ++ (le 4 (head_size (length x.kinds) + length (blocks_bytes x.kinds x.blocks)) ++ (les 4 (map kind_number x.kinds) ++ blocks_bytes x.kinds x.blocks)))
  unfolding image_bytes
  written = head-split x.limit (length x.blocks) _ x.kinds (blocks_bytes x.kinds x.blocks)

  front : take 8 a ≡ le 4 (length x.kinds) ++ le 4 x.limit
  front =
      ap (take 8) (sym (means a y o).bytes ∙ written)
      ∙ take_at (le 4 (length x.kinds) ++ le 4 x.limit) _ 8 (omega (arith, length-append (le 4 (length x.kinds)) (le 4 x.limit), length-le 4 (length x.kinds), length-le 4 x.limit))

  rest : drop 16 a ≡ les 4 (map kind_number x.kinds) ++ blocks_bytes x.kinds x.blocks
  rest =
      let s : List ℕ = le 4 (length x.kinds) ++ le 4 x.limit in
      let n : List ℕ = le 4 (length x.blocks) in
      let t : List ℕ = le 4 (head_size (length x.kinds) + length (blocks_bytes x.kinds x.blocks)) in
      let k : List ℕ = les 4 (map kind_number x.kinds) ++ blocks_bytes x.kinds x.blocks in
      let e : a ≡ (s ++ (n ++ t)) ++ k = sym (means a y o).bytes ∙ written ∙ ap (λ (l : List ℕ). s ++ l) (sym (append_assoc n t k)) ∙ sym (append_assoc s (n ++ t) k) in
      ap (drop 16) e
      ∙ drop_at (s ++ (n ++ t)) k 16
      (omega (
        arith,
        length-append s (n ++ t),
        length-append n t,
        length-append (le 4 (length x.kinds)) (le 4 x.limit),
        length-le 4 (length x.kinds),
        length-le 4 x.limit,
        length-le 4 (length x.blocks),
        length-le 4 (head_size (length x.kinds) + length (blocks_bytes x.kinds x.blocks)),
      ))

  tail : drop (head_size (length w.kinds)) b ≡ blocks_bytes w.kinds w.blocks
  unfolding image_bytes
  tail =
      ap (drop (head_size (length w.kinds))) (sym (means b z q).bytes)
      ∙ drop_at (head_bytes w.limit (length w.blocks) (head_size (length w.kinds) + length (blocks_bytes w.kinds w.blocks)) w.kinds)
      (blocks_bytes w.kinds w.blocks) (head_size (length w.kinds))
      (head-size w.limit (length w.blocks) (head_size (length w.kinds) + length (blocks_bytes w.kinds w.blocks)) w.kinds)

  whole : (l : List ℕ) (p : ℕ) → take (length l - p) (drop p l) ≡ drop p l
  whole l p = ap (λ (n : ℕ). take n (drop p l)) (sym (length-drop p l)) ∙ take-length (drop p l)

  pub joined_bytes : (n h t : ℕ) → n ≡ length x.blocks + length w.blocks → h ≡ head_size (length w.kinds) → t ≡ length all
      → all ≡ (take 8 a ++ (le 4 n ++ le 4 t)) ++ (take (length a - 16) (drop 16 a) ++ take (length b - h) (drop h b))
  unfolding image_bytes
  joined_bytes n h s e f g =
      let k : List ℕ = les 4 (map kind_number x.kinds) in
      let bx : List ℕ = blocks_bytes x.kinds x.blocks in
      let by : List ℕ = blocks_bytes w.kinds w.blocks in
      let c : length (x.blocks ++ w.blocks) ≡ n = length-append x.blocks w.blocks ∙ sym e in
      let t : head_size (length x.kinds) + length (blocks_bytes x.kinds (x.blocks ++ w.blocks)) ≡ s = sym (image-size (joined_image x w)) ∙ sym g in
      let u : k ++ blocks_bytes x.kinds (x.blocks ++ w.blocks) ≡ take (length a - 16) (drop 16 a) ++ take (length b - h) (drop h b) =
      ap (λ (l : List ℕ). k ++ l) both ∙ sym (append_assoc k bx by)
      ∙ ap₂ (λ (l r : List ℕ). l ++ r) (sym (whole a 16 ∙ rest)) (sym (whole b h ∙ ap (λ (p : ℕ). drop p b) f ∙ tail)) in
      head-split x.limit (length (x.blocks ++ w.blocks)) _ x.kinds (blocks_bytes x.kinds (x.blocks ++ w.blocks))
      ∙ ap₂ (λ (m v : ℕ). (le 4 (length x.kinds) ++ le 4 x.limit) ++ (le 4 m ++ (le 4 v ++ (k ++ blocks_bytes x.kinds (x.blocks ++ w.blocks))))) c t
      ∙ ap₂ (λ (l r : List ℕ). l ++ (le 4 n ++ (le 4 s ++ r))) (sym front) u ∙ sym (grouped (take 8 a) (le 4 n) (le 4 s) _)

-- three parts written in a row
pub three-sets : (p q r out : List ℕ) (i j k : ℕ) → i ≡ 0 → j ≡ i + length p → k ≡ j + length q → sets (sets (sets out i p) j q) k r ≡ sets out 0 (p ++ (q ++ r))
three-sets p q r out i j k a b c = rw (c, b, a) (sym (sets-append p (q ++ r) out 0 ∙ sets-append q r (sets out 0 p) (0 + length p)))

-- the sizes that writing asks for
pub record Sizes (a b : List ℕ) : Type 0 where
  pub few : length (image_in a).blocks < 2147483648
  pub few-more : length (image_in b).blocks < 2147483648
  pub head : 16 ≤ length a
  pub past : head_size (length (image_in b).kinds) ≤ length b
  pub numbers : (n t : ℕ) → length (take 8 a ++ (le 4 n ++ le 4 t)) ≡ 16
  pub rest : length (take (length a - 16) (drop 16 a)) ≡ length a - 16
  pub total : length (image_bytes (joined_image (image_in a) (image_in b))) ≡ length a + (length b - head_size (length (image_in b).kinds))

pub sizes-of : (a b : List ℕ) → Bytes a → Bytes b → Opened a → Opened b → differs (image_in a) (image_in b) ≡ false → Sizes a b
sizes-of a b y z o q d =
    let h = head_in a y o in
    let k = head_in b z q in
    record {
      few = omega (arith, blocks-count (image_in a).kinds (image_in a).blocks, h.size, h.most);
      few-more = omega (arith, blocks-count (image_in b).kinds (image_in b).blocks, k.size, k.most);
      head = omega (arith, h.size);
      past = omega (arith, k.size);
      numbers = λ n t. omega (arith, length-append (take 8 a) (le 4 n ++ le 4 t), length-append (le 4 n) (le 4 t), length-take-le 8 a (omega (arith, h.size)), length-le 4 n, length-le 4 t);
      rest = length-take-le (length a - 16) (drop 16 a) (omega (arith, length-drop 16 a));
      total = total-is a b y z o q d;
    }
