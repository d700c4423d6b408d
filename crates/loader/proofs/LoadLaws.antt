-- The kept entries of a signal of an accepted image: their bytes are as many as their number says, and they are no more than its streams
-- have room for. And what loading answers, by what the code finds.
-- Assumes nothing.
use Prim.Native.Nat.{ℕ, zero, suc, ◌*◌, ◌/◌, ◌≤◌, ◌<◌}
use mathlib.Core.Path.{◌≡◌, refl, sym, ap, ◌∙◌}
use mathlib.Core.Bool.{Bool, true, false, ◌||◌}
use mathlib.Core.List.{List, [], ◌∷◌, map}
use native.Mathlib.Nat.{mul-le-mul, le-div_iff_mul-le}
use native.Mathlib.Omega.{arith}
use borrow.Author.Tests.{leb-true, lt-ltb, le-ltb, ltb-false}
use lib.Dec.{leb, ltb}
use lib.ListN.{length, get_or-eq_default}
use lib.Seq.{sets}
use Rattle.lists.specs.Bytes.{Bytes}
use Rattle.lists.proofs.ChoiceLaws.{none-holds, pick-one}
use Rattle.signal.specs.declared.kind.SignalEncoding.{SignalEncoding}
use Rattle.signal.specs.declared.kind.SignalEncoding.TheVariants.{BitVector, Real, Absent}
use Rattle.signal.specs.Kind.{absent, known_kind}
use Rattle.stream.specs.Entries.{Entry, or_nine}
use Rattle.image.specs.Head.{image_limit}
use Rattle.image.specs.Image.{Image}
use Rattle.codec.proofs.ImageFits.{known_at}
use Rattle.loaded.specs.Opener.{kind_at}
use Rattle.loaded.specs.Loading.{Load, loads, signal_class}
use Rattle.loaded.specs.EntryBytes.{entries_bytes}
use Rattle.loaded.specs.Reader.{unknown_signal, refuse, loaded, load_after, index_in, load_in}
use Rattle.entry.specs.Length.{class_byte, wide_length, entry_length}
use Rattle.entry.proofs.EntriesLaws.{entries-length}
use Rattle.walk.specs.Walk.{Opened, image_in}
use Rattle.walk.proofs.HeadLaws.{means}
use Rattle.loader_block.specs.Output.{Output, Room, holding, output_as}
use Rattle.loader.specs.Sizes.{too_short, class_answered}
use Rattle.loader_measure.specs.Least.{least_length, streams_length}
use Rattle.loader_block.specs.declared.Loading.{Loading}
use Rattle.loader_measure.proofs.LeastLaws.{least-any}
use Rattle.loader.proofs.KeptLaws.{top-most, class-most, kept-fits, kept-least}

-- ---- the kept entries

answered-nine : (es : List Entry) (c : ℕ) → class_answered (length es) c ≡ or_nine es c
answered-nine [] c = refl
answered-nine (e ∷ es) c = refl

-- where there is no entry, its class does not matter
nine-bytes : (k : SignalEncoding) (c : ℕ) (es : List Entry) → entries_bytes k (or_nine es c) es ≡ entries_bytes k c es
unfolding entries_bytes
nine-bytes k c [] = refl
nine-bytes k c (e ∷ es) = refl

nine-length : (k : SignalEncoding) (c : ℕ) (es : List Entry) → length es * entry_length k (or_nine es c) ≡ length es * entry_length k c
nine-length k c [] = omega arith
nine-length k c (e ∷ es) = refl

-- what holds of a signal's kept entries
pub record Sized (b : List ℕ) (g : ℕ) : Type 0 where
  pub top : (loads g (image_in b).blocks).class ≤ 2
  pub same : entries_bytes (kind_at (image_in b) g) (signal_class (loads g (image_in b).blocks)) (loads g (image_in b).blocks).entries
      ≡ entries_bytes (kind_at (image_in b) g) (loads g (image_in b).blocks).class (loads g (image_in b).blocks).entries
  pub bytes : length (entries_bytes (kind_at (image_in b) g) (loads g (image_in b).blocks).class (loads g (image_in b).blocks).entries)
      ≡ length (loads g (image_in b).blocks).entries * entry_length (kind_at (image_in b) g) (loads g (image_in b).blocks).class
  pub few : length (loads g (image_in b).blocks).entries ≤ streams_length (kind_at (image_in b) g) g (image_in b).blocks / least_length (kind_at (image_in b) g)

pub sized : (b : List ℕ) (g : ℕ) → Bytes b → Opened b → Sized b g
sized b g y o =
    let x = image_in b in
    let v = (means b y o).valid in
    let l = loads g x.blocks in
    let k = kind_at x g in
    let s = nine-bytes k l.class l.entries in
    record {
      top = top-most x v g;
      same = s;
      bytes = sym (ap length s) ∙ entries-length k (signal_class l) l.entries (kept-fits x v g) (class-most x v g) ∙ nine-length k l.class l.entries;
      few = (le-div_iff_mul-le (least-any k)).1 (kept-least x v g);
    }

-- ---- the kind

pub known : (b : List ℕ) (g : ℕ) → Bytes b → Opened b → known_kind (kind_at (image_in b) g) ≡ true
known b g y o = known_at (image_in b).kinds g (means b y o).valid.kinds

wide-small : (w c : ℕ) → w ≤ 65536 → c ≤ 2 → wide_length w c ≤ 32769
wide-small w zero h z = omega (arith, pick-one (class_byte w 0))
wide-small w (suc zero) h z = omega (arith, pick-one (class_byte w 1))
wide-small w (suc (suc zero)) h z = omega (arith, pick-one (class_byte w 2))
wide-small w (suc (suc (suc c))) h z = absurd (omega arith)

entry-small : (k : SignalEncoding) (c : ℕ) → known_kind k ≡ true → c ≤ 2 → entry_length k c ≤ 32769
unfolding entry_length
entry-small (BitVector zero) c h z = omega arith
entry-small (BitVector (suc zero)) c h z = omega arith
entry-small (BitVector (suc (suc w))) c h z = wide-small (suc (suc w)) c (leb-true (suc (suc w)) 65536 h) z
entry-small Real c h z = omega arith
entry-small Absent c h z = omega arith

-- the bytes of all entries of an image are few enough to be counted
pub size_small : (k : SignalEncoding) (c n : ℕ) → known_kind k ≡ true → c ≤ 2 → n ≤ image_limit → n * entry_length k c ≤ image_limit * 32769
size_small k c n h z m = mul-le-mul m (entry-small k c h z)

-- ---- the tests

pub short-index : (n u i b : ℕ) → i < n → true ≡ too_short n u i b
short-index n u i b h = rw (lt-ltb i n h) refl

pub short-bytes : (n u i b : ℕ) → n ≤ i → ltb b u ≡ too_short n u i b
short-bytes n u i b h = rw (le-ltb i n h) refl

-- there is room for so many entries, of so many bytes
room_of : (n u i b : ℕ) → too_short n u i b ≡ false → (n ≤ i) × (u ≤ b)
room_of n u i b h =
    let q = none-holds (ltb i n) (ltb b u) h in
    (ltb-false i n q.0, ltb-false b u q.1)

-- where there is room for more, there is for fewer
room-fewer : (n m u v i b : ℕ) → n ≤ m → u ≤ v → too_short m v i b ≡ false → false ≡ too_short n u i b
room-fewer n m u v i b h f e =
    let r = room_of m v i b e in
    rw (le-ltb i n (omega arith), le-ltb b u (omega arith)) refl

-- where there is room for `most` entries, each as long, there is for those that are kept
pub room_most : (b : List ℕ) (g : ℕ) (k : SignalEncoding) (c most size i j : ℕ) → Sized b g → k ≡ kind_at (image_in b) g → c ≡ (loads g (image_in b).blocks).class → size ≡ entry_length k c
    → length (loads g (image_in b).blocks).entries ≤ most → too_short most (most * size) i j ≡ false
    → false ≡ too_short (length (loads g (image_in b).blocks).entries) (length (entries_bytes (kind_at (image_in b) g) c (loads g (image_in b).blocks).entries)) i j
room_most b g k c most size i j z e m s h t =
    let es : List Entry = (loads g (image_in b).blocks).entries in
    let held : length (entries_bytes (kind_at (image_in b) g) c es) ≡ length es * size = rw (s, e, m) z.bytes in
    let f : length es * size ≤ most * size = mul-le-mul h (omega arith) in
    room-fewer (length es) most (length (entries_bytes (kind_at (image_in b) g) c es)) (most * size) i j h (omega arith) t

pub class-other : (n c : ℕ) → (n ≡ 0 → ⊥) → c ≡ class_answered n c
class-other zero c z = absurd (z refl)
class-other (suc n) c z = refl

-- ---- the answers

unknown-absent : (x : Image) (g : ℕ) (t : Bool) → leb (length x.kinds) g ≡ t → t || absent (kind_at x g) ≡ absent (kind_at x g)
unknown-absent x g true e = sym (ap absent (get_or-eq_default x.kinds Absent (leb-true (length x.kinds) g e)))
unknown-absent x g false e = refl

module _ (x : Image) (g : ℕ) (k : SignalEncoding) (index bytes : List ℕ) (e : k ≡ kind_at x g) where
  unknown-is : unknown_signal x g ≡ absent k
  unknown-is = unknown-absent x g (leb (length x.kinds) g) refl ∙ sym (ap absent e)

  pub answer-unknown : (t : Bool) → t ≡ absent k → t ≡ true → load_after (refuse 4) index bytes ≡ load_in x g index bytes
  unfolding load_in
  answer-unknown t f h = rw (unknown-is, ← f, h) refl

-- after a pass that counts
pub counted-short : (b : List ℕ) (g c : ℕ) (index bytes : List ℕ) (s : Loading) (i j : List ℕ) (t : Bool)
    → output_as (kind_at (image_in b) g) b s i j ≡ holding (kind_at (image_in b) g) c false index bytes (loads g (image_in b).blocks).entries
    → t ≡ too_short s.count s.used (length i) (length j)
    → (t ≡ too_short (length (loads g (image_in b).blocks).entries) (length (entries_bytes (kind_at (image_in b) g) c (loads g (image_in b).blocks).entries)) (length index) (length bytes))
    × (i ≡ index) × (j ≡ bytes)
counted-short b g c index bytes s i j t q f =
    let n : s.count ≡ length (loads g (image_in b).blocks).entries = ap (λ (o : Output). o.count) q in
    let u : s.used ≡ length (entries_bytes (kind_at (image_in b) g) c (loads g (image_in b).blocks).entries) = ap (λ (o : Output). o.used) q in
    let p : i ≡ index = ap (λ (o : Output). o.index) q in
    let r : j ≡ bytes = ap (λ (o : Output). o.bytes) q in
    (f ∙ rw (n, u, p, r) refl, p, r)

-- after the test of the outputs, in the class c of the blocks
module _ (b : List ℕ) (g : ℕ) (k : SignalEncoding) (index bytes : List ℕ) (c : ℕ) (i j : List ℕ) (e : k ≡ kind_at (image_in b) g) (z : Sized b g)
    (m : c ≡ (loads g (image_in b).blocks).class) (same_index : i ≡ index) (same_bytes : j ≡ bytes) (u : Bool) (a : u ≡ absent k) (d : u ≡ false)
    (t : Bool)
    (f : t ≡ too_short (length (loads g (image_in b).blocks).entries) (length (entries_bytes (kind_at (image_in b) g) c (loads g (image_in b).blocks).entries)) (length index) (length bytes)) where
  abbrev l : Load
  l = loads g (image_in b).blocks

  test : (ltb (length index) (length l.entries) || ltb (length bytes) (length (entries_bytes (kind_at (image_in b) g) (signal_class l) l.entries))) ≡ t
  test = rw (z.same, ← m) (sym f)

  here : unknown_signal (image_in b) g ≡ false
  here = unknown-is (image_in b) g k index bytes e ∙ sym a ∙ d

  pub answer-short : t ≡ true → load_after (refuse 9) i j ≡ load_in (image_in b) g index bytes
  unfolding load_in
  answer-short h = rw (here, test, h, same_index, same_bytes) refl

  pub room-all : t ≡ false → Room true (holding (kind_at (image_in b) g) c true i j l.entries) (length i) (length j)
  room-all h =
      let q = room_of (length l.entries) (length (entries_bytes (kind_at (image_in b) g) c l.entries)) (length index) (length bytes) (sym f ∙ h) in
      λ w. (omega (arith, q.0, ap length same_index), omega (arith, q.1, ap length same_bytes))

  pub answer-loaded : (s : Loading) (n : ℕ) (i' j' : List ℕ) → t ≡ false → n ≡ class_answered s.count c
      → output_as (kind_at (image_in b) g) b s i' j' ≡ holding (kind_at (image_in b) g) c true i j l.entries
      → load_after (loaded s.count n) i' j' ≡ load_in (image_in b) g index bytes
  unfolding load_in
  answer-loaded s n i' j' h r q =
      let count : s.count ≡ length l.entries = ap (λ (o : Output). o.count) q in
      let class : n ≡ signal_class l = r ∙ ap (λ (v : ℕ). class_answered v c) count ∙ answered-nine l.entries c ∙ ap (or_nine l.entries) m in
      let p : i' ≡ sets index 0 (map index_in l.entries) = ap (λ (o : Output). o.index) q ∙ ap (λ (v : List ℕ). sets v 0 (map index_in l.entries)) same_index in
      let w : j' ≡ sets bytes 0 (entries_bytes (kind_at (image_in b) g) (signal_class l) l.entries) =
      ap (λ (o : Output). o.bytes) q ∙ rw (same_bytes, z.same, m) refl in
      rw (here, test, h, p, w, count, class) refl
