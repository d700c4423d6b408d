-- Images of which nothing differs have the same B and kinds, so the blocks of a join are those of both. What a join that is not refused leaves is
-- valid. An empty second image gives the first.
-- Assumes nothing.
use Prim.Native.Nat.{ℕ, ◌+◌, ◌≤◌}
use mathlib.Core.Path.{◌≡◌, refl, sym, ap, ap₂, ◌∙◌, subst}
use mathlib.Core.Bool.{true, false, not}
use mathlib.Core.List.{List, [], ◌∷◌, ◌++◌, map, append-nil}
use mathlib.Core.Option.{Option, some, none}
use native.Mathlib.Omega.{arith}
use borrow.Author.Tests.{not-false, eqb-true, le-ltb, ltb-false}
use lib.ListN.{length, get_or, take, drop, length-append}
use lib.Seq.{sets}
use lib.Dec.{ltb, eqb}
use Rattle.lists.specs.Bytes.{Bytes}
use Rattle.lists.specs.Same.{same}
use Rattle.lists.proofs.ChoiceLaws.{none-holds}
use Rattle.lists.proofs.SameLaws.{same_true}
use Rattle.lists.proofs.SetsLaws.{taken_back}
use Rattle.signal.specs.declared.kind.SignalEncoding.{SignalEncoding}
use Rattle.signal.specs.Kind.{known_kind}
use Rattle.stream.specs.Entries.{Entry}
use Rattle.image.specs.Block.{Block}
use Rattle.image.specs.Head.{kind_number, kind_from, head_size, image_limit}
use Rattle.image.proofs.KindLaws.{kind-back}
use Rattle.image.specs.Image.{Image, blocks_bytes, image_bytes}
use Rattle.codec.specs.Valid.{KnownKinds, BlocksFit, Valid}
use Rattle.codec.specs.Ends.{end_after}
use Rattle.codec.specs.Parse.{parse}
use Rattle.codec.proofs.Growth.{blocks-append, blocks-join}
use Rattle.codec.proofs.ImageFits.{image-size}
use Rattle.codec.proofs.Trip.{parse-is}
use Rattle.recording.specs.Memory.{guarded}
use Rattle.recording.proofs.TestsLaws.{AllFalse, guarded-past, guarded-only}
use Rattle.joined.specs.Join.{JoinReply, refuse, joined, JoinAfter, join_after, joined_image, differs, no_block, early, join_tests, join_in, join_by, join_of}

-- ---- the same B and kinds

-- known kinds with the same number are the same
kind-same : (k l : SignalEncoding) → known_kind k ≡ true → known_kind l ≡ true → kind_number k ≡ kind_number l → k ≡ l
kind-same k l h g e = sym (kind-back k h) ∙ ap kind_from e ∙ kind-back l g

kinds-same : (ks ls : List SignalEncoding) → KnownKinds ks → KnownKinds ls → map kind_number ks ≡ map kind_number ls → ks ≡ ls
kinds-same [] [] h g e = refl
kinds-same [] (l ∷ ls) h g e = absurd (omega (arith, ap length e))
kinds-same (k ∷ ks) [] h g e = absurd (omega (arith, ap length e))
kinds-same (k ∷ ks) (l ∷ ls) h g e =
    ap₂ (λ (a : SignalEncoding) (b : List SignalEncoding). a ∷ b) (kind-same k l h.0 g.0 (ap (λ (n : List ℕ). get_or n 0 0) e))
    (kinds-same ks ls h.1 g.1 (ap (drop 1) e))

pub record Alike (x y : Image) : Type 0 where
  pub limit : x.limit ≡ y.limit
  pub kinds : x.kinds ≡ y.kinds

pub alike : (x y : Image) → Valid x → Valid y → differs x y ≡ false → Alike x y
alike x y v w e =
    let d = none-holds (not (eqb x.limit y.limit)) (not (same (map kind_number x.kinds) (map kind_number y.kinds))) e in
    record {
      limit = eqb-true x.limit y.limit (not-false (eqb x.limit y.limit) d.0);
      kinds = kinds-same x.kinds y.kinds v.kinds w.kinds (same_true (map kind_number x.kinds) (map kind_number y.kinds) (not-false _ d.1));
    }

-- ---- the bytes of both

pub joined-blocks : (x y : Image) → Alike x y → blocks_bytes x.kinds (x.blocks ++ y.blocks) ≡ blocks_bytes x.kinds x.blocks ++ blocks_bytes y.kinds y.blocks
joined-blocks x y a =
    blocks-append x.kinds x.blocks y.blocks
    ∙ ap (λ (ks : List SignalEncoding). blocks_bytes x.kinds x.blocks ++ blocks_bytes ks y.blocks) a.kinds

-- less one head
pub joined-size : (x y : Image) → Alike x y → length (image_bytes (joined_image x y)) + head_size (length y.kinds) ≡ length (image_bytes x) + length (image_bytes y)
joined-size x y a =
    omega (
      arith,
      image-size x,
      image-size y,
      image-size (joined_image x y),
      ap length (joined-blocks x y a),
      length-append (blocks_bytes x.kinds x.blocks) (blocks_bytes y.kinds y.blocks),
    )

-- ---- what a join that is not refused has passed, and what it leaves

pub record Passes (x y : Image) (most : ℕ) : Type 0 where
  pub same : differs x y ≡ false
  pub some_block : no_block x.blocks ≡ false
  pub in_order : early (end_after none x.blocks) y.blocks ≡ false
  pub few : length (image_bytes (joined_image x y)) ≤ image_limit
  pub room : length (image_bytes (joined_image x y)) ≤ most

pub passes : (x y : Image) (room : ℕ) → AllFalse (join_tests x y room) → Passes x y room
passes x y room p =
    let n : ℕ = length (image_bytes (joined_image x y)) in
    let z = none-holds (ltb image_limit n) (ltb room n) p.1.1.1.0 in
    record { same = p.0; some_block = p.1.0; in_order = p.1.1.0; few = ltb-false image_limit n z.0; room = ltb-false room n z.1 }

not-joined : (n size : ℕ) → refuse n ≡ joined size → ⊥
not-joined n size e = let z : ◌≡◌ {A = ℕ} 0 1 = cc in absurd (omega arith)

total-is : (n m : ℕ) → ◌≡◌ {A = JoinReply} (joined n) (joined m) → n ≡ m
total-is n m q = cc

pub record Joins (x y : Image) (out : List ℕ) (size : ℕ) : Type 0 where
  pub passes : Passes x y (length out)
  pub image : take size (join_in x y out).out ≡ image_bytes (joined_image x y)

pub joins : (x y : Image) (out : List ℕ) (size : ℕ) → (join_in x y out).reply ≡ joined size → Joins x y out size
unfolding join_in
joins x y out size e =
    let bytes : List ℕ = image_bytes (joined_image x y) in
    let done : JoinAfter = join_after (joined (length bytes)) (sets out 0 bytes) in
    -- what is joined is refused by no test
    let p = (guarded-only (λ (r : JoinAfter). r.reply ≡ joined size) (join_tests x y (length out)) (λ n. join_after (refuse n) out) done (λ n. not-joined n size) e).0 in
    let g : guarded (join_tests x y (length out)) (λ n. join_after (refuse n) out) done ≡ done = guarded-past (join_tests x y (length out)) (λ n. join_after (refuse n) out) done p in
    let n : size ≡ length bytes = sym (total-is (length bytes) size (ap (λ (r : JoinAfter). r.reply) (sym g) ∙ e)) in
    let z = passes x y (length out) p in
    record { passes = z; image = ap (λ (r : JoinAfter). take size r.out) g ∙ taken_back bytes out size n (omega (arith, n, z.room)) }

-- ---- what it leaves is valid

starts-on : (limit : ℕ) (ks : List SignalEncoding) (end : Option ℕ) (bs : List (Block (List Entry))) → early end bs ≡ false → BlocksFit limit ks none bs → BlocksFit limit ks end bs
starts-on limit ks none bs e f = f
starts-on limit ks (some t) [] e f = tt
starts-on limit ks (some t) (b ∷ bs) e f = (ltb-false (get_or b.times 0 0) t e, f.1)

pub join-valid : (x y : Image) → Valid x → Valid y → differs x y ≡ false → early (end_after none x.blocks) y.blocks ≡ false
    → length (image_bytes (joined_image x y)) ≤ image_limit → Valid (joined_image x y)
join-valid x y v w d e n =
    let a = alike x y v w d in
    let fit : BlocksFit x.limit x.kinds none y.blocks =
    subst (λ (l : ℕ). BlocksFit l x.kinds none y.blocks) (sym a.limit) (subst (λ (k : List SignalEncoding). BlocksFit y.limit k none y.blocks) (sym a.kinds) w.blocks) in
    record {
      low = v.low;
      high = v.high;
      signals = v.signals;
      kinds = v.kinds;
      total = n;
      blocks = blocks-join x.limit x.kinds none x.blocks y.blocks v.blocks (starts-on x.limit x.kinds (end_after none x.blocks) y.blocks e fit);
    }

-- ---- "An empty second image changes nothing"

never-early : (end : Option ℕ) → early end [] ≡ false
never-early none = refl
never-early (some t) = refl

-- of images
empty-joined : (x y : Image) (out : List ℕ) → differs x y ≡ false → no_block x.blocks ≡ false → y.blocks ≡ [] → length (image_bytes x) ≤ image_limit → length (image_bytes x) ≤ length out
    → join_in x y out ≡ join_after (joined (length (image_bytes x))) (sets out 0 (image_bytes x))
unfolding join_in
empty-joined x y out d n e few room =
    rw (d, n, e, never-early (end_after none x.blocks), append-nil x.blocks, le-ltb image_limit (length (image_bytes x)) few, le-ltb (length out) (length (image_bytes x)) room) refl

-- of bytes: the first is written, and its length answered
pub empty-second-joined : (a b out : List ℕ) (x y : Image) → Bytes a → parse a ≡ some x → parse b ≡ some y → differs x y ≡ false → no_block x.blocks ≡ false → y.blocks ≡ [] → length a ≤ length out
    → join_of a b out ≡ join_after (joined (length a)) (sets out 0 a)
empty-second-joined a b out x y bytes p q d n e room =
    let m = parse-is a x bytes p in
    let l : length (image_bytes x) ≡ length a = ap length m.bytes in
    ap₂ (λ (o r : Option Image). join_by o r out) p q ∙ empty-joined x y out d n e m.valid.total (omega (arith, l))
    ∙ ap (λ (i : List ℕ). join_after (joined (length i)) (sets out 0 i)) m.bytes
