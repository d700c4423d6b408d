-- Joins in either grouping: the blocks are the same, and so are the tests, in another order.
-- Assumes nothing.
use Prim.Native.Nat.{ℕ, ◌+◌, ◌*◌, ◌≤◌, ◌<◌}
use mathlib.Core.Path.{◌≡◌, refl, sym, ap, ap₂, ◌∙◌, subst}
use mathlib.Core.Bool.{Bool, true, false, ◌||◌, not}
use mathlib.Core.List.{List, [], ◌∷◌, ◌++◌, append_assoc}
use mathlib.Core.Option.{Option, some, none}
use native.Mathlib.Omega.{arith}
use borrow.Author.Tests.{le-ltb}
use lib.ListN.{length}
use lib.Seq.{sets}
use lib.Dec.{ltb}
use Rattle.lists.specs.Bytes.{Bytes}
use Rattle.lists.specs.Choice.{pick}
use Rattle.lists.proofs.SetsLaws.{taken_back}
use Rattle.signal.specs.declared.kind.SignalEncoding.{SignalEncoding}
use Rattle.stream.specs.Entries.{Entry}
use Rattle.image.specs.Block.{Block}
use Rattle.image.specs.Head.{head_size, image_limit}
use Rattle.image.specs.Image.{Image, image, image_bytes}
use Rattle.codec.specs.Valid.{Valid}
use Rattle.codec.specs.Ends.{end_after}
use Rattle.codec.specs.Parse.{parse}
use Rattle.codec.proofs.Trip.{parse-of, parse-is}
use Rattle.recording.specs.Memory.{Tests, guarded}
use Rattle.recording.proofs.TestsLaws.{AllFalse, guarded-map, guarded-same, guarded-only}
use Rattle.joined.specs.Join.{refuse, joined, JoinAfter, join_after, joined_image, differs, no_block, early, join_tests, join_in, join_by}
use Rattle.joined.specs.Groupings.{Result, refused, made, result_of, result, and_then, grouped_left, grouped_right, succeeds, for14_or16, HasRoom, Accepted, Groupings}
use Rattle.joined.proofs.JoinLaws.{alike, joined-size, Passes, passes, join-valid}
use Rattle.lists.specs.Last.{last_or}

-- ---- tests, and what is done where none holds

not_made : {A : Type 0} (n : ℕ) (u : List ℕ) → refused n ≡ made u → A
not_made n u e = let z : ◌≡◌ {A = ℕ} 0 1 = cc in absurd (omega arith)

same_bytes : (u v : List ℕ) → made u ≡ made v → u ≡ v
same_bytes u v e = cc

-- where something was made no test held
guarded-made : (ts : Tests) (e : Result) (u : List ℕ) → guarded ts refused e ≡ made u → AllFalse ts × (e ≡ made u)
guarded-made ts e u = guarded-only (λ (r : Result). r ≡ made u) ts refused e (λ n. not_made n u)

-- ---- a join of images, by its tests

-- bytes, and the image that they are
record Reads (b : List ℕ) (x : Image) : Type 0 where
  accepted : parse b ≡ some x
  valid : Valid x
  size : length (image_bytes x) ≡ length b

reads : (b : List ℕ) (x : Image) → Bytes b → parse b ≡ some x → Reads b x
reads b x y e = let m = parse-is b x y e in record { accepted = e; valid = m.valid; size = ap length m.bytes }

reads-joined : (x y : Image) (room : ℕ) → Valid x → Valid y → Passes x y room → Reads (image_bytes (joined_image x y)) (joined_image x y)
reads-joined x y room v w p =
    let j = join-valid x y v w p.same p.in_order p.few in
    record { accepted = parse-of (joined_image x y) j; valid = j; size = refl }

tested : (a b out : List ℕ) (x y : Image) → Reads a x → Reads b y → result a b out ≡ guarded (join_tests x y (length out)) refused (made (image_bytes (joined_image x y)))
unfolding join_in
tested a b out x y s t =
    let bytes : List ℕ = image_bytes (joined_image x y) in
    ap₂ (λ (o q : Option Image). result_of (join_by o q out).reply (join_by o q out).out) s.accepted t.accepted
    ∙ guarded-map (λ (r : JoinAfter). result_of r.reply r.out) (join_tests x y (length out)) (λ n. join_after (refuse n) out) (join_after (joined (length bytes)) (sets out 0 bytes))
    ∙ guarded-same (join_tests x y (length out)) refused _ _ (λ n. ap made (taken_back bytes out (length bytes) refl (passes x y (length out) n).room))

-- ---- ends and starts of joined blocks

end-joined : (end : Option ℕ) (bs cs : List (Block (List Entry))) → no_block cs ≡ false → end_after end (bs ++ cs) ≡ end_after none cs
unfolding end_after
end-joined end [] [] n = let z : ◌≡◌ {A = ℕ} 0 1 = cc in absurd (omega arith)
end-joined end [] (c ∷ cs) n = refl
end-joined end (b ∷ bs) cs n = end-joined (some (last_or 0 b.times)) bs cs n

early-joined : (end : Option ℕ) (bs cs : List (Block (List Entry))) → no_block bs ≡ false → early end (bs ++ cs) ≡ early end bs
early-joined none bs cs n = refl
early-joined (some t) [] cs n = let z : ◌≡◌ {A = ℕ} 0 1 = cc in absurd (omega arith)
early-joined (some t) (b ∷ bs) cs n = refl

some-joined : (bs cs : List (Block (List Entry))) → no_block bs ≡ false → no_block (bs ++ cs) ≡ false
some-joined [] cs n = let z : ◌≡◌ {A = ℕ} 0 1 = cc in absurd (omega arith)
some-joined (b ∷ bs) cs n = refl

-- ---- two joins by the tests that remain where the first two have a block

-- 14, 16 and 8 of one join, then what is done
abbrev after : (unlike early full : Bool) → Result → Result
after u e f r = pick u (refused 14) (pick e (refused 16) (pick f (refused 8) r))

-- with room they end in 14, in 16, or in what is made
otherwise : (u e i u' e' o : Bool) (whole : List ℕ) → HasRoom (after u e i (after u' e' o (made whole)))
    → succeeds (after u e i (after u' e' o (made whole))) ≡ not (for14_or16 (after u e i (after u' e' o (made whole))))
otherwise true e i u' e' o w h = refl
otherwise false true i u' e' o w h = refl
otherwise false false true u' e' o w h = absurd (h refl)
otherwise false false false true e' o w h = refl
otherwise false false false false true o w h = refl
otherwise false false false false false true w h = absurd (h refl)
otherwise false false false false false false w h = refl

-- u, u', u'': the first and second are unlike, the second and third, the first and third; e, e': the second is early, the third is; i, o, i', o':
-- no room in the inner and the outer join of the left, then of the right
agree : (u u' u'' e e' i o i' o' : Bool) (whole : List ℕ) → (u ≡ false → u'' ≡ u')
    → HasRoom (after u e i (after u'' e' o (made whole))) → HasRoom (after u' e' i' (after u e o' (made whole)))
    → for14_or16 (after u e i (after u'' e' o (made whole))) ≡ for14_or16 (after u' e' i' (after u e o' (made whole)))
agree true true u'' e e' i o i' o' w h l r = refl
agree true false u'' e true i o i' o' w h l r = refl
agree true false u'' e false i o true o' w h l r = absurd (r refl)
agree true false u'' e false i o false o' w h l r = refl
agree false true u'' true e' i o i' o' w h l r = refl
agree false false u'' true true i o i' o' w h l r = refl
agree false false u'' true false i o true o' w h l r = absurd (r refl)
agree false false u'' true false i o false o' w h l r = refl
agree false u' u'' false e' true o i' o' w h l r = absurd (l refl)
agree false true true false e' false o i' o' w h l r = refl
agree false true false false e' false o i' o' w h l r = let z : ◌≡◌ {A = Bool} false true = h refl in cc
agree false false true false e' false o i' o' w h l r = let z : ◌≡◌ {A = Bool} true false = h refl in cc
agree false false false false true false o i' o' w h l r = refl
agree false false false false false false true i' o' w h l r = absurd (l refl)
agree false false false false false false false true o' w h l r = absurd (r refl)
agree false false false false false false false false true w h l r = absurd (r refl)
agree false false false false false false false false false w h l r = refl

-- ---- outputs that are long enough

other-number : (n : ℕ) → 8 < n → HasRoom (refused n)
other-number n h e = let z : ◌≡◌ {A = ℕ} n 8 = cc in absurd (omega arith)

-- a join within the limit and with room for its total, then what has room
join-room : (x y : Image) (out : List ℕ) (e : Result) → Valid x → Valid y → length (image_bytes x) + length (image_bytes y) ≤ image_limit
    → (differs x y ≡ false → length (image_bytes (joined_image x y)) ≤ length out)
    → (AllFalse (join_tests x y (length out)) → HasRoom e) → HasRoom (guarded (join_tests x y (length out)) refused e)
join-room x y out e v w few room h = by (differs x y) (no_block x.blocks) (early (end_after none x.blocks) y.blocks) refl refl refl
  where
    n : ℕ
    n = length (image_bytes (joined_image x y))

    by : (d b t : Bool) → differs x y ≡ d → no_block x.blocks ≡ b → early (end_after none x.blocks) y.blocks ≡ t → HasRoom (guarded (join_tests x y (length out)) refused e)
    by true b t f g k = rw f (other-number 14 (omega arith))
    by false true t f g k = rw (f, g) (other-number 15 (omega arith))
    by false false true f g k = rw (f, g, k) (other-number 16 (omega arith))
    by false false false f g k =
        let l = joined-size x y (alike x y v w f) in
        let full : ltb image_limit n || ltb (length out) n ≡ false = rw (le-ltb image_limit n (omega arith), le-ltb (length out) n (room f)) refl in
        rw (f, g, k, full) (h (f, (g, (k, (full, tt)))))

same_head : (x y : Image) → Valid x → Valid y → differs x y ≡ false → head_size (length x.kinds) ≡ head_size (length y.kinds)
same_head x y v w d = ap (λ (l : List SignalEncoding). head_size (length l)) (alike x y v w d).kinds

-- ---- both groupings

module _ {a b c : List ℕ} {x y z : Image} (rx : Reads a x) (ry : Reads b y) (rz : Reads c z) where
  left-inner : (p q : List ℕ) → grouped_left a b c p q ≡ guarded (join_tests x y (length p)) refused (result (image_bytes (joined_image x y)) c q)
  left-inner p q =
      ap (λ (r : Result). and_then r (λ ab. result ab c q)) (tested a b p x y rx ry)
      ∙ guarded-map (λ (r : Result). and_then r (λ ab. result ab c q)) (join_tests x y (length p)) refused (made (image_bytes (joined_image x y)))

  left-outer : (p q : List ℕ) → AllFalse (join_tests x y (length p))
      → result (image_bytes (joined_image x y)) c q ≡ guarded (join_tests (joined_image x y) z (length q)) refused (made (image_bytes (joined_image (joined_image x y) z)))
  left-outer p q t =
      tested (image_bytes (joined_image x y)) c q (joined_image x y) z (reads-joined x y (length p) rx.valid ry.valid (passes x y (length p) t)) rz

  right-inner : (r s : List ℕ) → grouped_right a b c r s ≡ guarded (join_tests y z (length r)) refused (result a (image_bytes (joined_image y z)) s)
  right-inner r s =
      ap (λ (r : Result). and_then r (λ bc. result a bc s)) (tested b c r y z ry rz)
      ∙ guarded-map (λ (r : Result). and_then r (λ bc. result a bc s)) (join_tests y z (length r)) refused (made (image_bytes (joined_image y z)))

  right-outer : (r s : List ℕ) → AllFalse (join_tests y z (length r))
      → result a (image_bytes (joined_image y z)) s ≡ guarded (join_tests x (joined_image y z) (length s)) refused (made (image_bytes (joined_image x (joined_image y z))))
  right-outer r s t =
      tested a (image_bytes (joined_image y z)) s x (joined_image y z) rx (reads-joined y z (length r) ry.valid rz.valid (passes y z (length r) t))

  -- ---- equal bytes when both succeed

  abbrev whole : List ℕ
  whole = image_bytes (image x.limit x.kinds (x.blocks ++ (y.blocks ++ z.blocks)))

  left-made : (p q left : List ℕ) → grouped_left a b c p q ≡ made left → whole ≡ left
  left-made p q left e =
      let i = guarded-made (join_tests x y (length p)) _ left (sym (left-inner p q) ∙ e) in
      let o = guarded-made (join_tests (joined_image x y) z (length q)) _ left (sym (left-outer p q i.0) ∙ i.1) in
      ap (λ (bs : List (Block (List Entry))). image_bytes (image x.limit x.kinds bs)) (sym (append_assoc x.blocks y.blocks z.blocks))
      ∙ same_bytes _ left o.1

  right-made : (r s right : List ℕ) → grouped_right a b c r s ≡ made right → whole ≡ right
  right-made r s right e =
      let i = guarded-made (join_tests y z (length r)) _ right (sym (right-inner r s) ∙ e) in
      let o = guarded-made (join_tests x (joined_image y z) (length s)) _ right (sym (right-outer r s i.0) ∙ i.1) in
      same_bytes whole right o.1

  -- ---- by their tests, where the first and the second have a block

  module _ (nx : no_block x.blocks ≡ false) (ny : no_block y.blocks ≡ false) where
    abbrev full : (out image : List ℕ) → Bool
    full out i = ltb image_limit (length i) || ltb (length out) (length i)

    abbrev secondEarly : Bool
    secondEarly = early (end_after none x.blocks) y.blocks

    abbrev thirdEarly : Bool
    thirdEarly = early (end_after none y.blocks) z.blocks

    left_is : (p q : List ℕ)
        → grouped_left a b c p q ≡ after (differs x y) secondEarly (full p (image_bytes (joined_image x y))) (after (differs x z) thirdEarly (full q whole) (made whole))
    left_is p q =
        left-inner p q
        ∙ guarded-same (join_tests x y (length p)) refused _ _ (left-outer p q)
        ∙ rw (nx, some-joined x.blocks y.blocks nx, end-joined none x.blocks y.blocks ny, append_assoc x.blocks y.blocks z.blocks) refl

    right_is : (r s : List ℕ)
        → grouped_right a b c r s ≡ after (differs y z) thirdEarly (full r (image_bytes (joined_image y z))) (after (differs x y) secondEarly (full s whole) (made whole))
    right_is r s =
        right-inner r s
        ∙ guarded-same (join_tests y z (length r)) refused _ _ (right-outer r s)
        ∙ rw (nx, ny, early-joined (end_after none x.blocks) y.blocks z.blocks ny) refl

    left-ends : (p q : List ℕ) → HasRoom (grouped_left a b c p q) → succeeds (grouped_left a b c p q) ≡ not (for14_or16 (grouped_left a b c p q))
    left-ends p q = rw (left_is p q) (otherwise (differs x y) secondEarly (full p (image_bytes (joined_image x y))) (differs x z) thirdEarly (full q whole) whole)

    right-ends : (r s : List ℕ) → HasRoom (grouped_right a b c r s) → succeeds (grouped_right a b c r s) ≡ not (for14_or16 (grouped_right a b c r s))
    right-ends r s = rw (right_is r s) (otherwise (differs y z) thirdEarly (full r (image_bytes (joined_image y z))) (differs x y) secondEarly (full s whole) whole)

    third-unlike : differs x y ≡ false → differs x z ≡ differs y z
    third-unlike d = let k = alike x y rx.valid ry.valid d in rw (k.limit, k.kinds) refl

    both-agree : (p q r s : List ℕ) → HasRoom (grouped_left a b c p q) → HasRoom (grouped_right a b c r s) → for14_or16 (grouped_left a b c p q) ≡ for14_or16 (grouped_right a b c r s)
    both-agree p q r s =
        rw (left_is p q, right_is r s)
        (agree (differs x y) (differs y z) (differs x z) secondEarly thirdEarly (full p (image_bytes (joined_image x y))) (full q whole) (full r (image_bytes (joined_image y z))) (full s whole)
        whole third-unlike)

  -- ---- with room

  abbrev head_length : ℕ
  head_length = head_size (length y.kinds)

  left-long : (p q : List ℕ) → length a + length b + length c ≤ image_limit → length a + length b ≤ length p + head_length
      → length a + length b + length c ≤ length q + 2 * head_length → HasRoom (grouped_left a b c p q)
  left-long p q few h k =
      let size : (differs x y ≡ false → length (image_bytes (joined_image x y)) + head_length ≡ length a + length b) =
      λ d. joined-size x y (alike x y rx.valid ry.valid d) ∙ ap₂ (λ (m n : ℕ). m + n) rx.size ry.size in
      subst HasRoom (sym (left-inner p q))
      (join-room x y p _ rx.valid ry.valid (omega (arith, rx.size, ry.size)) (λ d. omega (arith, size d)) (λ t.
      let v = (reads-joined x y (length p) rx.valid ry.valid (passes x y (length p) t)).valid in
      subst HasRoom (sym (left-outer p q t))
      (join-room (joined_image x y) z q _ v rz.valid (omega (arith, size t.0, rz.size)) (λ d.
      let m = joined-size (joined_image x y) z (alike (joined_image x y) z v rz.valid d) in
      omega (arith, size t.0, rz.size, same_head (joined_image x y) z v rz.valid d, same_head x y rx.valid ry.valid t.0))
      (λ u e. not_made 8 _ (sym e)))))

  right-long : (r s : List ℕ) → length a + length b + length c ≤ image_limit → length b + length c ≤ length r + head_length
      → length a + length b + length c ≤ length s + 2 * head_length → HasRoom (grouped_right a b c r s)
  right-long r s few h k =
      let size : (differs y z ≡ false → length (image_bytes (joined_image y z)) + head_length ≡ length b + length c) =
      λ d. ap (λ (n : ℕ). length (image_bytes (joined_image y z)) + n) (same_head y z ry.valid rz.valid d)
      ∙ joined-size y z (alike y z ry.valid rz.valid d) ∙ ap₂ (λ (m n : ℕ). m + n) ry.size rz.size in
      subst HasRoom (sym (right-inner r s))
      (join-room y z r _ ry.valid rz.valid (omega (arith, ry.size, rz.size)) (λ d. omega (arith, size d)) (λ t.
      let v = (reads-joined y z (length r) ry.valid rz.valid (passes y z (length r) t)).valid in
      subst HasRoom (sym (right-outer r s t))
      (join-room x (joined_image y z) s _ rx.valid v (omega (arith, size t.0, rx.size)) (λ d.
      let m = joined-size x (joined_image y z) (alike x (joined_image y z) rx.valid v d) in
      omega (arith, size t.0, rx.size))
      (λ u e. not_made 8 _ (sym e)))))

-- ---- of bytes

record Both (a b : List ℕ) : Type 0 where
  first : Image
  second : Image
  at_first : parse a ≡ some first
  at_second : parse b ≡ some second

-- what was made was made of accepted images
both-accepted : (a b out u : List ℕ) (f : List ℕ → Result) → and_then (result a b out) f ≡ made u → Both a b
both-accepted a b out u f e = by (parse a) (parse b) refl refl e
  where
    by : (o q : Option Image) → parse a ≡ o → parse b ≡ q → and_then (result_of (join_by o q out).reply (join_by o q out).out) f ≡ made u → Both a b
    by none q g h e = not_made 11 u e
    by (some x) none g h e = not_made 11 u e
    by (some x) (some y) g h e = record { first = x; second = y; at_first = g; at_second = h }

equal-bytes : (a b c p q r s left right : List ℕ) → Bytes a → Bytes b → Bytes c
    → grouped_left a b c p q ≡ made left → grouped_right a b c r s ≡ made right → left ≡ right
equal-bytes a b c p q r s left right byte-a byte-b byte-c e f =
    let ab = both-accepted a b p left (λ ab. result ab c q) e in
    let bc = both-accepted b c r right (λ bc. result a bc s) f in
    let rx = reads a ab.first byte-a ab.at_first in
    let ry = reads b ab.second byte-b ab.at_second in
    let rz = reads c bc.second byte-c bc.at_second in
    sym (left-made rx ry rz p q left e) ∙ right-made rx ry rz r s right f

opened : {b : List ℕ} (i : Accepted b) → Reads b i.image
opened {b} i = reads b i.image i.bytes i.opens

pub groupings : Groupings
groupings = record {
  equal = equal-bytes;
  refusals = λ a b c p q r s t. both-agree (opened t.first) (opened t.second) (opened t.third) t.first_block t.second_block p q r s;
  left-otherwise = λ a b c p q t. left-ends (opened t.first) (opened t.second) (opened t.third) t.first_block t.second_block p q;
  right-otherwise = λ a b c r s t. right-ends (opened t.first) (opened t.second) (opened t.third) t.first_block t.second_block r s;
  left-room = λ a b c p q t. left-long (opened t.first) (opened t.second) (opened t.third) p q;
  right-room = λ a b c r s t. right-long (opened t.first) (opened t.second) (opened t.third) r s;
}
