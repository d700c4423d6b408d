-- Every byte string that the opener accepts is left by some list of calls, in memory that can be lent, or joined from such strings.
-- Assumes nothing.
use Prim.Native.Nat.{ℕ, zero, suc, ◌+◌, ◌*◌, ◌≤◌, ◌<◌, ◌^◌}
use mathlib.Core.Path.{◌≡◌, refl, sym, ap, ap₂, ◌∙◌, subst}
use mathlib.Core.Bool.{true, false}
use mathlib.Core.List.{List, [], ◌∷◌, map}
use mathlib.Core.Option.{Option, some, none}
use native.Mathlib.Omega.{arith}
use borrow.Author.Tests.{leb-true, eq-eqb, le-ltb}
use lib.ListN.{length, get_or, take, replicate, length-append, length-replicate, length-map}
use lib.Seq.{sets}
use Rattle.lists.specs.Bytes.{Bytes}
use Rattle.lists.specs.Choice.{is_some}
use Rattle.lists.specs.Last.{last_or}
use Rattle.lists.proofs.SameLaws.{same_self}
use Rattle.lists.proofs.SetsLaws.{taken_back}
use Rattle.history.specs.History.{History}
use Rattle.history.specs.Followed.{followed}
use Rattle.lists.proofs.BytesLaws.{zeros-at}
use Rattle.value.specs.declared.states.States.TheVariants.{Two}
use Rattle.signal.specs.declared.kind.SignalEncoding.{SignalEncoding}
use Rattle.signal.specs.declared.kind.SignalEncoding.TheVariants.{BitVector, Real, Absent}
use Rattle.signal.specs.Kind.{width_of, known_kind}
use Rattle.stream.specs.Entries.{Entry}
use Rattle.image.specs.Block.{Block, block_bytes}
use Rattle.image.specs.Head.{kind_number, head_size, image_limit}
use Rattle.image.specs.Image.{Image, image, streamed, blocks_bytes, image_bytes}
use Rattle.codec.specs.Valid.{KnownKinds, BlocksFit, Valid}
use Rattle.codec.specs.Ends.{end_after}
use Rattle.codec.proofs.Growth.{blocks-one, blocks-first}
use Rattle.codec.specs.Parse.{parse}
use Rattle.codec.proofs.ImageFits.{image-size, known_at}
use Rattle.codec.proofs.Trip.{parse-of, parse-is}
use Rattle.recording.specs.declared.Settings.{Settings}
use Rattle.recording.specs.declared.SignalRecord.{SignalRecord}
use Rattle.recording.specs.Calls.{Call, Slice, Fitting}
use Rattle.recording.specs.Memory.{Memory, memory, After, record_of}
use Rattle.recording.specs.Refusals.{any_bad}
use Rattle.recording.specs.State.{closed_state, settings_of}
use Rattle.recording.specs.Step.{kinds_of}
use Rattle.loaded.specs.Opener.{open_of}
use Rattle.model.proofs.Rebuild.{imageCalls}
use Rattle.recording.proofs.StartLaws.{StartableIn, start_fits}
use Rattle.follow.proofs.ChangeLaws.{most_bytes}
use Rattle.follow.proofs.RebuiltFits.{image-fit}
use Rattle.follow.proofs.RebuiltCount.{image-count}
use Rattle.follow.proofs.Left.{blocks_in, OneFits, left}
use Rattle.joined.specs.Join.{JoinAfter, join_after, joined, differs, early, join_in, join_by, join_of}
use Rattle.demand.specs.Demand3.{StateFits, RecordsFit, Lent, Recorded, left_by, history_of, Tells}
use Rattle.demand.specs.Demand3 as demand

-- ---- memory of zeros

abbrev zeros : ℕ → List ℕ
zeros n = replicate n 0

zero-slice : (n : ℕ) → n < 2 ^ 63 → Slice (zeros n)
zero-slice n h = ((λ i. rw (zeros-at n i) (omega arith)), rw (length-replicate {A = ℕ} n 0) h)

abbrev record_for : SignalEncoding → SignalRecord
record_for k = record_of k 0 Two 0

-- with room for B times, for n changes in the work buffer, and for `size` bytes of image
abbrev room_for : (limit n size : ℕ) → List SignalEncoding → Memory
room_for limit n size ks =
    memory closed_state (map record_for ks) (zeros limit) (zeros (n * most_bytes)) (zeros size)

-- a known width has 32 bits
width_small : (k : SignalEncoding) → known_kind k ≡ true → width_of k < 2 ^ 32
width_small (BitVector w) e = omega (arith, leb-true w 65536 e)
width_small Real e = omega arith
width_small Absent e = omega arith

records-room : (ks : List SignalEncoding) → KnownKinds ks → RecordsFit (map record_for ks)
unfolding RecordsFit
records-room [] k = tt
records-room (x ∷ ks) k = ((width_small x k.0, omega arith, omega arith), records-room ks k.1)

closed-fits : StateFits closed_state
closed-fits = record {
  limit = omega arith;
  signals = omega arith;
  held = omega arith;
  work = omega arith;
  image = omega arith;
  blocks = omega arith;
  edition = omega arith;
  zero = omega arith;
  one = omega arith;
}

room-lent : (limit n size : ℕ) (ks : List SignalEncoding) → KnownKinds ks → limit ≤ 65535 → n ≤ image_limit → size ≤ image_limit → Lent (room_for limit n size ks)
room-lent limit n size ks known l h k = record {
  state = closed-fits;
  records = records-room ks known;
  work = zero-slice (n * most_bytes) (omega arith);
  image = zero-slice size (omega arith);
  times = λ i. rw (zeros-at limit i) (omega arith);
  long = rw (length-replicate {A = ℕ} limit 0) (omega arith);
}

kinds-room : (ks : List SignalEncoding) → kinds_of (map record_for ks) ≡ ks
kinds-room [] = refl
kinds-room (k ∷ ks) = ap (λ (l : List SignalEncoding). k ∷ l) (kinds-room ks)

known-room : (ks : List SignalEncoding) → KnownKinds ks → any_bad (map record_for ks) ≡ false
unfolding any_bad
known-room [] k = refl
known-room (x ∷ ks) k = rw (k.0, known-room ks k.1) refl

own_room : (ks : List SignalEncoding) (g : ℕ) → (get_or (map record_for ks) g (record_of Absent 0 Two 0)).probe ≡ 0
own_room [] g = refl
own_room (k ∷ ks) zero = refl
own_room (k ∷ ks) (suc g) = own_room ks g

-- ---- a valid image of one block, or of none

module _ (limit : ℕ) (ks : List SignalEncoding) (o : Option (Block (List Entry))) (v : Valid (image limit ks (blocks_in o))) where
  abbrev x : Image
  x = image limit ks (blocks_in o)

  abbrev imageSize : ℕ
  imageSize = head_size (length ks) + length (blocks_bytes ks (blocks_in o))

  abbrev lentRoom : Memory
  lentRoom = room_for limit (length (imageCalls ks o)) imageSize ks

  size_small : imageSize ≤ image_limit
  size_small = omega (arith, image-size x, v.total)

  -- any edition would do
  abbrev chosen : Settings
  chosen = settings_of limit (length ks) 1

  startable : StartableIn chosen lentRoom
  startable = record {
    low = v.low;
    high = v.high;
    early = omega arith;
    late = omega arith;
    table = omega (arith, length-replicate {A = ℕ} limit 0);
    few = v.signals;
    all = sym (length-map ks record_for);
    known = known-room ks v.kinds;
    room = omega (arith, length-replicate {A = ℕ} imageSize 0);
    short = omega (arith, length-replicate {A = ℕ} imageSize 0, size_small);
  }

  one-fits : (o : Option (Block (List Entry))) → BlocksFit limit ks none (blocks_in o) → OneFits limit ks o
  one-fits none f = tt
  one-fits (some s) f = f.1.0

  fitting : Fitting (imageCalls ks o)
  fitting = go o (one-fits o v.blocks)
    where
      go : (o : Option (Block (List Entry))) → OneFits limit ks o → Fitting (imageCalls ks o)
      go none f = unfold Fitting in tt
      go (some s) f = image-fit ks v.signals (λ i h. known_at ks i v.kinds) limit s f

  calls-few : length (imageCalls ks o) ≤ length (blocks_bytes ks (blocks_in o))
  calls-few = go o (one-fits o v.blocks)
    where
      go : (o : Option (Block (List Entry))) → OneFits limit ks o → length (imageCalls ks o) ≤ length (blocks_bytes ks (blocks_in o))
      go none f = omega arith
      go (some s) f = rw (blocks-one ks s) (image-count ks limit s f)

  lent : Lent lentRoom
  lent = room-lent limit (length (imageCalls ks o)) imageSize ks v.kinds v.high (omega (arith, calls-few, size_small)) size_small

  pub tells-one : (h : History) × Tells ks h (image_bytes x)
  tells-one =
      let m : Memory = lentRoom in
      let e = kinds-room ks in
      let s = startable in
      let w : length (imageCalls ks o) * most_bytes ≤ length m.work = omega (arith, length-replicate {A = ℕ} (length (imageCalls ks o) * most_bytes) 0) in
      let h : imageSize ≤ length m.image = omega (arith, length-replicate {A = ℕ} imageSize 0) in
      let b = left chosen m o s (own_room ks) (subst (λ (y : List SignalEncoding). OneFits limit y o) (sym e) (one-fits o v.blocks))
      (subst (λ (y : List SignalEncoding). Fitting (imageCalls y o)) (sym e) fitting)
      (subst (λ (y : List SignalEncoding). head_size (length y) + length (blocks_bytes y (blocks_in o)) ≤ length m.image) (sym e) h)
      (subst (λ (y : List SignalEncoding). length (imageCalls y o) * most_bytes ≤ length m.work) (sym e) w) in
      let calls : List Call = imageCalls (kinds_of m.records) o in
      let r : Recorded chosen m calls b.size = record {
        lent = lent;
        fitting = subst (λ (y : List SignalEncoding). Fitting (imageCalls y o)) (sym e) fitting;
        start = ap (λ (y : After). y.reply) (start_fits chosen m s);
        end = b.end;
      } in (
        (history_of chosen m calls).last,
        subst (λ (c : List ℕ). Tells ks (history_of chosen m calls).last c) (b.bytes ∙ ap (λ (y : List SignalEncoding). image_bytes (image limit y (blocks_in o))) e)
            (subst (λ (y : List SignalEncoding). Tells y (history_of chosen m calls).last (left_by chosen m calls b.size)) e
            (demand.left chosen m calls b.size r)),
      )

-- ---- any valid image: its first block, and the others joined to it

blocks-longer : (limit : ℕ) (ks : List SignalEncoding) (b : Block (List Entry)) (bs : List (Block (List Entry)))
    → (length (image_bytes (image limit ks (b ∷ []))) ≤ length (image_bytes (image limit ks (b ∷ bs)))) × (length (image_bytes (image limit ks bs)) ≤ length (image_bytes (image limit ks (b ∷ bs))))
unfolding blocks_bytes
blocks-longer limit ks b bs =
    let e = image-size (image limit ks (b ∷ bs)) in
    let f = image-size (image limit ks (b ∷ [])) in
    let g = image-size (image limit ks bs) in
    let l = length-append (block_bytes (streamed ks b)) (blocks_bytes ks bs) in
    let k = length-append (block_bytes (streamed ks b)) [] in
    (omega arith, omega arith)

same-kinds : (limit : ℕ) (ks : List SignalEncoding) (bs cs : List (Block (List Entry))) → differs (image limit ks bs) (image limit ks cs) ≡ false
same-kinds limit ks bs cs = rw (eq-eqb limit limit refl, same_self (map kind_number ks)) refl

not-early : (limit : ℕ) (ks : List SignalEncoding) (end : Option ℕ) (bs : List (Block (List Entry))) → BlocksFit limit ks end bs → early end bs ≡ false
not-early limit ks none bs f = refl
not-early limit ks (some t) [] f = refl
not-early limit ks (some t) (b ∷ bs) f = le-ltb (get_or b.times 0 0) t f.0

tells-valid : (limit : ℕ) (ks : List SignalEncoding) (bs : List (Block (List Entry))) → Valid (image limit ks bs) → (h : History) × Tells ks h (image_bytes (image limit ks bs))
unfolding end_after join_in
tells-valid limit ks [] v = tells-one limit ks none v
tells-valid limit ks (b ∷ []) v = tells-one limit ks (some b) v
tells-valid limit ks (b ∷ c ∷ bs) v =
    let n = blocks-longer limit ks b (c ∷ bs) in
    let x : Image = image limit ks (b ∷ []) in
    let y : Image = image limit ks (c ∷ bs) in
    let vx : Valid x = record { low = v.low; high = v.high; signals = v.signals; kinds = v.kinds; total = omega (arith, n.0, v.total); blocks = (tt, (v.blocks.1.0, tt)) } in
    let vy : Valid y = record {
      low = v.low;
      high = v.high;
      signals = v.signals;
      kinds = v.kinds;
      total = omega (arith, n.1, v.total);
      blocks = blocks-first limit ks
          (some (last_or 0 b.times)) (c ∷ bs) v.blocks.1.1;
    } in
    let s = tells-one limit ks (some b) vx in
    let t = tells-valid limit ks (c ∷ bs) vy in
    let bytes : List ℕ = image_bytes (image limit ks (b ∷ c ∷ bs)) in
    let p : join_of (image_bytes x) (image_bytes y) bytes ≡ join_after (joined (length bytes)) (sets bytes 0 bytes) =
    ap₂ (λ (o q : Option Image). join_by o q bytes) (parse-of x vx) (parse-of y vy)
    ∙ rw (
      same-kinds limit ks (b ∷ []) (c ∷ bs),
      not-early limit ks (some (last_or 0 b.times)) (c ∷ bs) v.blocks.1.1,
      le-ltb image_limit (length bytes) v.total,
      le-ltb (length bytes) (length bytes) (omega arith),
    ) refl in
    let e : take (length bytes) (join_of (image_bytes x) (image_bytes y) bytes).out ≡ bytes =
    ap (λ (r : JoinAfter). take (length bytes) r.out) p ∙ taken_back bytes bytes (length bytes) refl (omega arith) in (
      followed s.0 t.0,
      subst (Tells ks (followed s.0 t.0)) e
          (demand.join ks ks s.0 t.0 (image_bytes x) (image_bytes y) bytes (length bytes) s.1 t.1 (ap (λ (r : JoinAfter). r.reply) p)),
    )

-- ---- the opener

opened : (b : List ℕ) (o : Option Image) → Bytes b → parse b ≡ o → is_some o ≡ true → (ks : List SignalEncoding) × (h : History) × Tells ks h b
opened b none y e h = let z : ◌≡◌ {A = ℕ} 0 1 = cc in absurd (omega arith)
opened b (some x) y e h =
    let k = parse-is b x y e in
    let t = tells-valid x.limit x.kinds x.blocks k.valid in
    (x.kinds, t.0, subst (Tells x.kinds t.0) k.bytes t.1)

pub accepted-tells : (b : List ℕ) → Bytes b → open_of b ≡ true → (ks : List SignalEncoding) × (h : History) × Tells ks h b
accepted-tells b y h = opened b (parse b) y refl h
