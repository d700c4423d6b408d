-- A buffer of records divides into them, and a signal's stream is that of its records; what a store in a buffer leaves in its used front.
-- Assumes nothing.
use Prim.Native.Nat.{ℕ, zero, suc, ◌+◌, ◌-◌, ◌≤◌, ◌<◌}
use mathlib.Core.Path.{◌≡◌, refl, sym, ◌∙◌}
use mathlib.Core.Bool.{true}
use mathlib.Core.List.{List, [], ◌∷◌, ◌++◌, append_assoc, append-nil}
use mathlib.Core.Option.{Option, some, none}
use native.Mathlib.Omega.{arith}
use borrow.Author.Tests.{le-leb, lt-ltb}
use lib.ListN.{length, take, drop, length-append}
use lib.Seq.{take_at, drop_at, drop-drop, sets, sets-eq, length-take-le}
use lib.Dec.{ltb, leb, eqb}
use Rattle.lists.specs.Choice.{pick, bind}
use Rattle.numbers.specs.LittleEndian.{le}
use Rattle.numbers.proofs.LittleEndianLaws.{length-le, unle-le}
use Rattle.recording.specs.Work.{Item, item, item_bytes, signal_at, size_at, whole, items_of, gather}
use Rattle.follow.specs.Records.{work_bytes, Fits}

pub length-item : (r : Item) → length (item_bytes r) ≡ 8 + length r.bytes
length-item r = simp (length-append, length-le) (omega arith)

-- ---- a record in front

front-is : (r : Item) (rest : List ℕ) → item_bytes r ++ rest ≡ le 4 r.signal ++ (le 4 (length r.bytes) ++ (r.bytes ++ rest))
front-is r rest = simp append_assoc

record Front (r : Item) (rest w : List ℕ) : Type 0 where
  signal : signal_at w ≡ r.signal
  size : size_at w ≡ length r.bytes
  body : take (length r.bytes) (drop 8 w) ≡ r.bytes
  after : drop (8 + length r.bytes) w ≡ rest
  long : length w ≡ 8 + length r.bytes + length rest

front : (r : Item) (rest : List ℕ) → r.signal < 4294967296 → length r.bytes < 4294967296 → Front r rest (item_bytes r ++ rest)
front r rest h k =
    let x : List ℕ = r.bytes ++ rest in
    let y : List ℕ = le 4 (length r.bytes) ++ x in
    let w : List ℕ = item_bytes r ++ rest in
    let d4 : drop 4 w ≡ y = rw (front-is r rest) (drop_at (le 4 r.signal) y 4 (length-le 4 r.signal)) in
    let d8 : drop 8 w ≡ x = sym (drop-drop 4 4 w) ∙ rw d4 (drop_at (le 4 (length r.bytes)) x 4 (length-le 4 (length r.bytes))) in
    record {
      signal = rw (front-is r rest, take_at (le 4 r.signal) y 4 (length-le 4 r.signal)) (unle-le 4 r.signal h);
      size = rw (d4, take_at (le 4 (length r.bytes)) x 4 (length-le 4 (length r.bytes))) (unle-le 4 (length r.bytes) k);
      body = rw d8 (take_at r.bytes rest (length r.bytes) refl);
      after = sym (drop-drop (length r.bytes) 8 w) ∙ rw d8 (drop_at r.bytes rest (length r.bytes) refl);
      long = length-append (item_bytes r) rest ∙ rw (length-item r) refl;
    }

-- a record, and those behind it where these divide
abbrev with : Item → Option (List Item) → Option (List Item)
with r o = bind o (λ rs. some (r ∷ rs))

items_more : (k n : ℕ) (w : List ℕ) → 0 < length w
    → items_of (suc k) n w ≡ pick (whole n w) (with (item (signal_at w) (take (size_at w) (drop 8 w))) (items_of k n (drop (8 + size_at w) w))) none
unfolding items_of
items_more k n [] h = absurd (omega arith)
items_more k n (x ∷ w) h = refl

items-one : (k n : ℕ) (r : Item) (rest : List ℕ) → n ≤ 65536 → r.signal < n → length r.bytes < 4294967296
    → items_of (suc k) n (item_bytes r ++ rest) ≡ with r (items_of k n rest)
items-one k n r rest s h l =
    let f = front r rest (omega arith) l in
    let w : List ℕ = item_bytes r ++ rest in
    let any : 0 < length w = omega (arith, f.long) in
    let e1 : leb 8 (length w) ≡ true = le-leb 8 (length w) (omega (arith, f.long)) in
    let e2 : leb (size_at w) (length w - 8) ≡ true = le-leb (size_at w) (length w - 8) (omega (arith, f.long, f.size)) in
    let e3 : ltb (signal_at w) n ≡ true = lt-ltb (signal_at w) n (omega (arith, f.signal)) in
    items_more k n w any ∙ rw (e1, e2, e3, f.size, f.signal, f.body, f.after) refl

-- ---- lists of records

pub fits-append : (n : ℕ) (a b : List Item) → Fits n a → Fits n b → Fits n (a ++ b)
fits-append n [] b f g = g
fits-append n (r ∷ a) b f g = (f.0, f.1, fits-append n a b f.2 g)

-- a buffer of records divides into them
pub items-of : (k n : ℕ) (rs : List Item) → n ≤ 65536 → Fits n rs → length (work_bytes rs) ≤ k → items_of k n (work_bytes rs) ≡ some rs
unfolding work_bytes items_of
items-of zero n [] s f l = refl
items-of (suc k) n [] s f l = refl
items-of zero n (r ∷ rs) s f l = absurd (omega (arith, l, length-append (item_bytes r) (work_bytes rs), length-item r))
items-of (suc k) n (r ∷ rs) s f l =
    let l' : length (work_bytes rs) ≤ k = omega (arith, l, length-append (item_bytes r) (work_bytes rs), length-item r) in
    items-one k n r (work_bytes rs) s f.0 f.1 ∙ rw (items-of k n rs s f.2 l') refl

pub work-append : (a b : List Item) → work_bytes (a ++ b) ≡ work_bytes a ++ work_bytes b
unfolding work_bytes
work-append [] b = refl
work-append (r ∷ a) b = rw (work-append a b) (sym (append_assoc (item_bytes r) (work_bytes a) (work_bytes b)))

pub work-one : (r : Item) → work_bytes (r ∷ []) ≡ item_bytes r
unfolding work_bytes
work-one r = append-nil (item_bytes r)

-- one signal's stream of joined lists
pub gather_append : (g : ℕ) (a b : List Item) → gather g (a ++ b) ≡ gather g a ++ gather g b
unfolding gather
gather_append g [] b = refl
gather_append g (r ∷ a) b = rw (gather_append g a b) (sym (append_assoc (pick (eqb r.signal g) r.bytes []) (gather g a) (gather g b)))

-- ---- stores

pub take-sets : (u : ℕ) (l vs : List ℕ) → u + length vs ≤ length l → take (u + length vs) (sets l u vs) ≡ take u l ++ vs
take-sets u l vs h =
    let e : length (take u l ++ vs) ≡ u + length vs = length-append (take u l) vs ∙ rw (length-take-le u l (omega arith)) refl in
    rw (sets-eq vs l u h) (take_at (take u l ++ vs) (drop (u + length vs) l) (u + length vs) e)

pub sets-mid : (p m v q : List ℕ) (n : ℕ) → length p ≡ n → length v ≡ length m → sets (p ++ (m ++ q)) n v ≡ p ++ (v ++ q)
sets-mid p m v q n h k =
    let l1 : length (p ++ (m ++ q)) ≡ n + (length m + length q) = simp length-append (omega arith) in
    let d : drop (n + length v) (p ++ (m ++ q)) ≡ q =
    rw (k, ← (drop-drop (length m) n (p ++ (m ++ q))), drop_at p (m ++ q) n h) (drop_at m q (length m) refl) in
    sets-eq v (p ++ (m ++ q)) n (omega (arith, l1)) ∙ rw (d, take_at p (m ++ q) n h, append_assoc) refl
