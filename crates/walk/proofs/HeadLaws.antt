-- What an accepted image's head says: the numbers of signals and blocks, B, and each signal's kind.
-- Assumes nothing.
use Prim.Native.Nat.{ℕ, zero, suc, ◌+◌, ◌*◌, ◌≤◌, ◌<◌}
use mathlib.Core.Path.{◌≡◌, refl, sym, ap, ◌∙◌}
use mathlib.Core.Bool.{true}
use mathlib.Core.List.{List, [], ◌∷◌, ◌++◌, append-nil, map}
use mathlib.Core.Option.{Option, some, none}
use native.Mathlib.Nat.{zero-add}
use native.Mathlib.Omega.{arith}
use borrow.Author.Tests.{leb-true}
use lib.ListN.{length, get_or, take, drop, length-map, get_or-eq_default}
use Rattle.lists.specs.Choice.{is_some}
use Rattle.lists.specs.Bytes.{Bytes}
use Rattle.numbers.specs.LittleEndian.{le, unle}
use Rattle.numbers.proofs.LittleEndianLaws.{length-le}
use Rattle.signal.specs.declared.kind.SignalEncoding.{SignalEncoding}
use Rattle.signal.specs.declared.kind.SignalEncoding.TheVariants.{BitVector, Real, Absent}
use Rattle.signal.specs.Kind.{known_kind}
use Rattle.image.specs.Head.{kind_from, kind_number, head_size, head_bytes, image_limit}
use Rattle.image.proofs.KindLaws.{kind-back}
use Rattle.image.specs.Block.{les}
use Rattle.image.specs.Image.{Image, blocks_bytes, image_bytes}
use Rattle.codec.specs.ImageForm.{head_of}
use Rattle.codec.specs.Parse.{parse}
use Rattle.codec.proofs.Trip.{Means, parse-is}
use Rattle.codec.proofs.ImageFits.{head-size, image-size, blocks-count, known_at}
use Rattle.loaded.specs.Opener.{kind_at}
use Rattle.walk.specs.Walk.{Opened, image_from, image_in}
use Rattle.walk.proofs.StandLaws.{Stands, stands-front, stands-back, Number, stands-number, stands-nth}

-- ---- the image that accepted bytes are

meant : (b : List ℕ) (p : Option Image) → Bytes b → parse b ≡ p → is_some p ≡ true → Means b (image_from p)
meant b none y e o = let z : ◌≡◌ {A = ℕ} 0 1 = cc in absurd (omega arith)
meant b (some x) y e o = parse-is b x y e

pub means : (b : List ℕ) → Bytes b → Opened b → Means b (image_in b)
unfolding image_in
means b y o = meant b (parse b) y refl o

-- ---- the head

pub record HeadAt (b : List ℕ) (x : Image) : Type 0 where
  pub signals : Number b 0 4 (length x.kinds)
  pub limit : Number b 4 4 x.limit
  pub number : Number b 8 4 (length x.blocks)
  pub kinds : Stands b 16 (les 4 (map kind_number x.kinds))
  pub blocks : Stands b (head_size (length x.kinds)) (blocks_bytes x.kinds x.blocks)
  pub size : length b ≡ head_size (length x.kinds) + length (blocks_bytes x.kinds x.blocks)
  pub most : length b ≤ image_limit

whole : (b : List ℕ) (x : Image) → image_bytes x ≡ b → Stands b 0 (image_bytes x)
whole b x e = record { rest = []; bytes = sym e ∙ sym (append-nil (image_bytes x)); inside = omega (arith, ap length e) }

pub head_at : (b : List ℕ) (x : Image) → Means b x → HeadAt b x
unfolding image_bytes head_bytes
head_at b x m =
    let ks = x.kinds in
    let t : ℕ = (head_of x).total in
    let bb : List ℕ = blocks_bytes ks x.blocks in
    let hb : List ℕ = head_bytes x.limit (length x.blocks) t ks in
    let r4 : List ℕ = les 4 (map kind_number ks) in
    let r3 : List ℕ = le 4 t ++ r4 in
    let r2 : List ℕ = le 4 (length x.blocks) ++ r3 in
    let r1 : List ℕ = le 4 x.limit ++ r2 in
    let all : Stands b 0 (hb ++ bb) = whole b x m.bytes in
    let s0 : Stands b 0 (le 4 (length ks) ++ r1) = stands-front b 0 hb bb all in
    let s1 : Stands b 4 r1 = stands-back b 0 4 (le 4 (length ks)) r1 (length-le 4 (length ks)) s0 in
    let s2 : Stands b 8 r2 = stands-back b 4 4 (le 4 x.limit) r2 (length-le 4 x.limit) s1 in
    let s3 : Stands b 12 r3 = stands-back b 8 4 (le 4 (length x.blocks)) r3 (length-le 4 (length x.blocks)) s2 in
    let size : length b ≡ head_size (length ks) + length bb = sym (ap length m.bytes) ∙ image-size x in
    let most : length b ≤ image_limit = omega (arith, m.valid.total, ap length m.bytes) in
    record {
      signals = stands-number b 0 4 (length ks) (omega (arith, m.valid.signals)) (stands-front b 0 (le 4 (length ks)) r1 s0);
      limit = stands-number b 4 4 x.limit (omega (arith, m.valid.high)) (stands-front b 4 (le 4 x.limit) r2 s1);
      number = stands-number b 8 4 (length x.blocks) (omega (arith, blocks-count ks x.blocks)) (stands-front b 8 (le 4 (length x.blocks)) r3 s2);
      kinds = stands-back b 12 4 (le 4 t) r4 (length-le 4 t) s3;
      blocks = rw zero-add at (stands-back b 0 (head_size (length ks)) hb bb (head-size x.limit (length x.blocks) t ks) all);
      size = size;
      most = most;
    }

pub head_in : (b : List ℕ) → Bytes b → Opened b → HeadAt b (image_in b)
head_in b y o = head_at b (image_in b) (means b y o)

-- ---- kinds

number_small : (k : SignalEncoding) → known_kind k ≡ true → kind_number k < 4294967296
number_small (BitVector w) h = omega (arith, leb-true w 65536 h)
number_small Real h = omega arith
number_small Absent h = omega arith

number_at : (ks : List SignalEncoding) (g : ℕ) → g < length ks → get_or (map kind_number ks) g 0 ≡ kind_number (get_or ks g Absent)
number_at [] g h = absurd (omega arith)
number_at (k ∷ ks) zero h = refl
number_at (k ∷ ks) (suc g) h = number_at ks g (omega arith)

pub kind-number-at : (b : List ℕ) (x : Image) (g : ℕ) → Means b x → g < length x.kinds → Number b (16 + 4 * g) 4 (kind_number (kind_at x g))
kind-number-at b x g m h =
    let k = kind_at x g in
    let small = number_small k (known_at x.kinds g m.valid.kinds) in
    let l : List ℕ = map kind_number x.kinds in
    let s = stands-nth 4 l b 16 g (omega (arith, length-map x.kinds kind_number)) (head_at b x m).kinds in
    let e : get_or l g 0 ≡ kind_number k = number_at x.kinds g h in
    let q : 16 + g * 4 ≡ 16 + 4 * g = omega arith in
    stands-number b (16 + 4 * g) 4 (kind_number k) (omega arith) (rw (← q, ← e) s)

pub kind-read : (b : List ℕ) (x : Image) (g n : ℕ) → Means b x → g < length x.kinds → n ≡ unle (take 4 (drop (16 + 4 * g) b))
    → kind_from n ≡ kind_at x g
kind-read b x g n m h e =
    ap kind_from (e ∙ (kind-number-at b x g m h).value) ∙ kind-back (kind_at x g) (known_at x.kinds g m.valid.kinds)

pub kind-past : (x : Image) (g : ℕ) → length x.kinds ≤ g → Absent ≡ kind_at x g
kind-past x g h = sym (get_or-eq_default x.kinds Absent h)
