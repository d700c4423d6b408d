-- Laws of the work buffer's records: what a turn of a loop over them wants, and what holds of all of them.
-- Assumes nothing.
use Prim.Native.Nat.{ℕ, zero, suc, ◌+◌, ◌-◌, ◌*◌, ◌≤◌, ◌<◌}
use mathlib.Core.Path.{◌≡◌, refl, sym, ◌∙◌}
use mathlib.Core.Bool.{Bool, true, false, and-false}
use mathlib.Core.List.{List, [], ◌∷◌}
use mathlib.Core.Option.{Option, some, none}
use native.Mathlib.Omega.{arith}
use native.Mathlib.Numerals.{sub-one}
use borrow.Author.Tests.{leb-true, ltb-true, le-leb, lt-leb, lt-ltb, le-ltb}
use lib.ListN.{length, take, drop, length-drop, length-take}
use lib.Seq.{drop-drop, drop-length}
use lib.Dec.{leb}
use Rattle.lists.specs.Choice.{pick, bind}
use Rattle.lists.proofs.ChoiceLaws.{Where, where-some, where-pick, where-bind, both_hold}
use Rattle.numbers.specs.LittleEndian.{unle}
use Rattle.recording.specs.Work.{Item, item, signal_at, size_at, whole, items_of}
use Rattle.work.specs.Counting.{total}

-- the parts of a whole record at the front
pub record Front (n : ℕ) (w : List ℕ) : Type 0 where
  pub head : 8 ≤ length w
  pub body : 8 + size_at w ≤ length w
  pub below : signal_at w < n

pub front : (n : ℕ) (w : List ℕ) → whole n w ≡ true → Front n w
front n w e =
    let p = both_hold _ _ e in
    let q = both_hold _ _ p.1 in
    let h : 8 ≤ length w = leb-true 8 (length w) p.0 in
    let b : size_at w ≤ length w - 8 = leb-true (size_at w) (length w - 8) q.0 in
    record { head = h; body = omega arith; below = ltb-true (signal_at w) n q.1 }

pub front-whole : (n : ℕ) (w : List ℕ) → Front n w → whole n w ≡ true
front-whole n w f =
    let b : size_at w ≤ length w - 8 = omega (arith, f.body) in
    rw (le-leb 8 (length w) f.head, le-leb (size_at w) (length w - 8) b, lt-ltb (signal_at w) n f.below) refl

-- where no whole record stands
pub short-head : (n : ℕ) (w : List ℕ) → length w < 8 → whole n w ≡ false
short-head n w h = rw (lt-leb 8 (length w) h) refl

pub short-body : (n : ℕ) (w : List ℕ) → length w < 8 + size_at w → 8 ≤ length w → whole n w ≡ false
short-body n w h l =
    let b : length w - 8 < size_at w = omega arith in
    rw (lt-leb (size_at w) (length w - 8) b) (and-false (leb 8 (length w)))

pub not-below : (n : ℕ) (w : List ℕ) → n ≤ signal_at w → whole n w ≡ false
not-below n w h = rw (le-ltb (signal_at w) n h, and-false (leb (size_at w) (length w - 8))) (and-false (leb 8 (length w)))

-- the first record and those after it, where these divide
abbrev pub with_first : (w : List ℕ) → Option (List Item) → Option (List Item)
with_first w o = bind o (λ rs. some (item (signal_at w) (take (size_at w) (drop 8 w)) ∷ rs))

pub items-some : (k n : ℕ) (w : List ℕ) → 0 < k → 0 < length w
    → items_of k n w ≡ pick (whole n w) (with_first w (items_of (k - 1) n (drop (8 + size_at w) w))) none
unfolding items_of
items-some k n [] p h = absurd (omega arith)
items-some zero n (x ∷ w) p h = absurd (omega arith)
items-some (suc k) n (x ∷ w) p h = simp sub-one

pub items-nothing : (k n : ℕ) → items_of k n [] ≡ some []
unfolding items_of
items-nothing zero n = refl
items-nothing (suc k) n = refl

pub items-fuel : (k n : ℕ) (w : List ℕ) (is : List Item) → 0 < length w → items_of k n w ≡ some is → 0 < k
unfolding items_of
items-fuel k n [] is h e = absurd (omega arith)
items-fuel zero n (x ∷ w) is h e = let z : ◌≡◌ {A = ℕ} 0 1 = cc in absurd (omega arith)
items-fuel (suc k) n (x ∷ w) is h e = omega arith

-- at the end of the work
pub end : (k n : ℕ) (w : List ℕ) (is : List Item) → items_of k n (drop (length w) w) ≡ some is → is ≡ []
end k n w is e =
    let q : some [] ≡ some is = sym (items-nothing k n) ∙ rw (drop-length w) at e in
    cc

taken : {A : Type 0} (t : Bool) (o : Option A) (x : A) → pick t o none ≡ some x → (t ≡ true) × (o ≡ some x)
taken true o x e = (refl, e)
taken false o x e = let z : ◌≡◌ {A = ℕ} 0 1 = cc in absurd (omega arith)

behind : (w : List ℕ) (o : Option (List Item)) (is : List Item) → with_first w o ≡ some is
    → (rs : List Item) × (o ≡ some rs) × (is ≡ item (signal_at w) (take (size_at w) (drop 8 w)) ∷ rs)
behind w none is e = let z : ◌≡◌ {A = ℕ} 0 1 = cc in absurd (omega arith)
behind w (some rs) is e = (rs, refl, cc)

-- the record at place p: its size, the place after it, and its laws
pub record At (p : ℕ) (w : List ℕ) : Type 0 where
  pub size : size_at (drop p w) ≡ unle (take 4 (drop (p + 4) w))
  pub stream : drop 8 (drop p w) ≡ drop (p + 8) w
  pub jump : drop (8 + size_at (drop p w)) (drop p w) ≡ drop (p + 8 + unle (take 4 (drop (p + 4) w))) w

pub at_place : (p : ℕ) (w : List ℕ) → At p w
at_place p w =
    let n : ℕ = unle (take 4 (drop (p + 4) w)) in
    let s : size_at (drop p w) ≡ n = rw drop-drop refl in
    let e : p + (8 + n) ≡ p + 8 + n = omega arith in
    record { size = s; stream = drop-drop 8 p w; jump = rw (s, drop-drop, e) refl }

-- work that divides: the record at p and those after it
pub record Turn (k n p : ℕ) (w : List ℕ) (is : List Item) : Type 0 where
  pub head : p + 8 ≤ length w
  pub body : p + 8 + unle (take 4 (drop (p + 4) w)) ≤ length w
  pub below : unle (take 4 (drop p w)) < n
  pub rest : List Item
  pub more : is ≡ item (unle (take 4 (drop p w))) (take (unle (take 4 (drop (p + 4) w))) (drop (p + 8) w)) ∷ rest
  pub again : items_of (k - 1) n (drop (p + 8 + unle (take 4 (drop (p + 4) w))) w) ≡ some rest

-- the same of what is left
left-turn : (k n p : ℕ) (w : List ℕ) (is rs : List Item) → Front n (drop p w)
    → items_of (k - 1) n (drop (8 + size_at (drop p w)) (drop p w)) ≡ some rs
    → is ≡ item (signal_at (drop p w)) (take (size_at (drop p w)) (drop 8 (drop p w))) ∷ rs → Turn k n p w is
left-turn k n p w is rs f e m =
    let a = at_place p w in
    record {
      head = omega (arith, f.head, length-drop p w);
      body = omega (arith, f.head, f.body, length-drop p w, a.size);
      below = f.below;
      rest = rs;
      more = m ∙ rw (a.size, a.stream) refl;
      again = rw a.jump at e;
    }

pub turn : (k n p : ℕ) (w : List ℕ) (is : List Item) → p < length w → items_of k n (drop p w) ≡ some is → Turn k n p w is
turn k n p w is h e =
    let here : 0 < length (drop p w) = rw length-drop (omega arith) in
    let rest : Option (List Item) = items_of (k - 1) n (drop (8 + size_at (drop p w)) (drop p w)) in
    let m = items-some k n (drop p w) (items-fuel k n (drop p w) is here e) here in
    let t = taken (whole n (drop p w)) (with_first (drop p w) rest) is (sym m ∙ e) in
    let b = behind (drop p w) rest is t.1 in
    left-turn k n p w is b.0 (front n (drop p w) t.0) b.1 b.2

-- any work, with fuel for what is left of it: where a whole record stands at p, it and what comes of the rest; else none
pub turn-whole : (k n p : ℕ) (w : List ℕ) → p + 8 ≤ length w → p + 8 + unle (take 4 (drop (p + 4) w)) ≤ length w → unle (take 4 (drop p w)) < n
    → length w - p ≤ k
    → items_of k n (drop p w) ≡ with_first (drop p w) (items_of (k - 1) n (drop (p + 8 + unle (take 4 (drop (p + 4) w))) w))
turn-whole k n p w h b l f =
    let a = at_place p w in
    let r : Front n (drop p w) = record {
      head = rw length-drop (omega arith);
      body = rw (length-drop, a.size) (omega arith);
      below = l;
    } in
    rw (items-some k n (drop p w) (omega arith) (rw length-drop (omega arith)), front-whole n (drop p w) r, a.jump) refl

pub turn-none : (k n p : ℕ) (w : List ℕ) → p < length w → length w - p ≤ k → whole n (drop p w) ≡ false → items_of k n (drop p w) ≡ none
turn-none k n p w h f e = rw (items-some k n (drop p w) (omega arith) (rw length-drop (omega arith)), e) refl

-- its three cases
pub turn-short-head : (k n p : ℕ) (w : List ℕ) → p < length w → length w - p ≤ k → length w - p < 8 → items_of k n (drop p w) ≡ none
turn-short-head k n p w h f l = turn-none k n p w h f (short-head n (drop p w) (rw length-drop l))

pub turn-short-body : (k n p : ℕ) (w : List ℕ) → p + 8 ≤ length w → length w - p ≤ k → length w - (p + 8) < unle (take 4 (drop (p + 4) w))
    → items_of k n (drop p w) ≡ none
turn-short-body k n p w h f l =
    let a = at_place p w in
    turn-none k n p w (omega arith) f (short-body n (drop p w) (rw (length-drop, a.size) (omega arith)) (rw length-drop (omega arith)))

pub turn-not-below : (k n p : ℕ) (w : List ℕ) → p < length w → length w - p ≤ k → n ≤ unle (take 4 (drop p w)) → items_of k n (drop p w) ≡ none
turn-not-below k n p w h f l = turn-none k n p w h f (not-below n (drop p w) l)

-- every signal is below n
abbrev pub Below : (n : ℕ) → List Item → Type 0
Below n [] = Unit {0}
Below n (r ∷ rs) = (r.signal < n) × Below n rs

below_all : (k n : ℕ) (w : List ℕ) → Where (Below n) (items_of k n w)
unfolding items_of
below_all zero n [] = tt
below_all zero n (x ∷ w) = tt
below_all (suc k) n [] = tt
below_all (suc k) n (x ∷ w) =
    where-pick (Below n) (whole n (x ∷ w)) _ none
    (λ t. where-bind (Below n) (items_of k n (drop (8 + size_at (x ∷ w)) (x ∷ w))) _
    (λ rs e. ((front n (x ∷ w) t).below, where-some (Below n) _ (below_all k n (drop (8 + size_at (x ∷ w)) (x ∷ w))) e)))
    (λ t. tt)

pub items-below : (k n : ℕ) (w : List ℕ) (is : List Item) → items_of k n w ≡ some is → Below n is
items-below k n w is e = where-some (Below n) (items_of k n w) (below_all k n w) e

abbrev Fits : List ℕ → List Item → Type 0
Fits w is = total is + 8 * length is ≤ length w

fits_all : (k n : ℕ) (w : List ℕ) → Where (Fits w) (items_of k n w)
unfolding items_of total
fits_all zero n [] = omega arith
fits_all zero n (x ∷ w) = tt
fits_all (suc k) n [] = omega arith
fits_all (suc k) n (x ∷ w) =
    let l : List ℕ = x ∷ w in
    let m : ℕ = 8 + size_at l in
    where-pick (Fits l) (whole n l) _ none
    (λ t. where-bind (Fits l) (items_of k n (drop m l)) _
    (λ rs e.
    let f = front n l t in
    let ih = where-some (Fits (drop m l)) (items_of k n (drop m l)) (fits_all k n (drop m l)) e in
    omega (arith, f.body, length-drop m l, length-take (size_at l) (drop 8 l), length-drop 8 l)))
    (λ t. tt)

-- the streams and the eight bytes before each lie in the work
pub items-bytes : (k n : ℕ) (w : List ℕ) (is : List Item) → items_of k n w ≡ some is → total is + 8 * length is ≤ length w
items-bytes k n w is e = where-some (Fits w) (items_of k n w) (fits_all k n w) e
