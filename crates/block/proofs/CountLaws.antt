-- The first two passes: 0 is kept for each signal, then how many bytes its stream has.
-- Assumes nothing.
use Prim.Native.Nat.{ℕ, zero, suc, ◌+◌, ◌*◌, ◌≤◌, ◌<◌}
use mathlib.Core.Path.{◌≡◌, refl, sym, ap, ◌∙◌}
use mathlib.Core.List.{List, [], ◌∷◌, ◌++◌, map, append_assoc}
use native.Mathlib.Nat.{zero-add, add-zero, suc-add, add-suc}
use native.Mathlib.Omega.{arith}
use native.Mathlib.Decide.{ℕ_discrete}
use lib.ListN.{length, take, drop, get_or, set, replicate, take-append-drop, get_or-replicate}
use lib.ListN.{length-append, length-set, length-map, length-drop, length-replicate}
use lib.Seq.{sets, ext_get_or, get_or-set_same, get_or-set_other, length-take-le}
use Rattle.numbers.specs.LittleEndian.{le}
use Rattle.numbers.proofs.LittleEndianLaws.{length-le}
use Rattle.image.specs.Block.{les}
use Rattle.recording.specs.Work.{Item, gather}
use Rattle.recording.proofs.GatherLaws.{length-own, gather-other}
use Rattle.work.specs.Measure.{part_length, data_length}
use Rattle.work.proofs.WorkLaws.{Below}
use Rattle.block.specs.Passes.{keep, clear, count, Counts}
use Rattle.block.proofs.LayoutLaws.{raw, laid, kept-laid, keep-laid, sets-front, sets-after, sets-inside}

-- ---- the first pass

pub no-elements : (l : List ℕ) → length l ≡ 0 → l ≡ []
no-elements [] e = refl
no-elements (x ∷ l) e = absurd (omega arith)

-- the 4 bytes after p are set to 0
keep-raw : (f r p q : List ℕ) (g : ℕ) → length f ≡ 12 → length p ≡ 4 * g → 4 ≤ length q
    → keep g 0 (f ++ ((p ++ q) ++ r)) ≡ f ++ (((p ++ le 4 0) ++ drop 4 q) ++ r)
keep-raw f r p q g h a b =
    let l : 4 * g + length (le 4 0) ≤ length (p ++ q) = rw (length-le, length-append) (omega arith) in
    let z : 4 * g + 0 ≡ 4 * g = add-zero (4 * g) in
    let s : sets (p ++ q) (4 * g) (le 4 0) ≡ p ++ sets q 0 (le 4 0) = rw z at (sets-after p q (4 * g) 0 (le 4 0) a) in
    let t : sets q 0 (le 4 0) ≡ le 4 0 ++ drop 4 q =
    ap (λ (u : List ℕ). sets u 0 (le 4 0)) (sym (take-append-drop 4 q))
    ∙ sets-front (take 4 q) (drop 4 q) (le 4 0) (length-take-le 4 q b ∙ sym (length-le 4 0)) in
    sets-after f ((p ++ q) ++ r) 12 (4 * g) (le 4 0) h
    ∙ ap (λ (u : List ℕ). f ++ u)
    (sets-inside (le 4 0) (p ++ q) r (4 * g) l
    ∙ ap (λ (u : List ℕ). u ++ r) (s ∙ ap (λ (u : List ℕ). p ++ u) t ∙ sym (append_assoc p (le 4 0) (drop 4 q))))

clear-raw : (f r p q : List ℕ) (g n : ℕ) → length f ≡ 12 → length p ≡ 4 * g → length q ≡ 4 * n
    → clear g n (f ++ ((p ++ q) ++ r)) ≡ f ++ ((p ++ les 4 (replicate n 0)) ++ r)
unfolding clear les
clear-raw f r p q g zero h a b = rw (no-elements q (omega arith)) refl
clear-raw f r p q g (suc n) h a b =
    let a' : length (p ++ le 4 0) ≡ 4 * suc g = rw (length-append, length-le) (omega arith) in
    let b' : length (drop 4 q) ≡ 4 * n = rw length-drop (omega arith) in
    rw (keep-raw f r p q g h a (omega arith), clear-raw f r (p ++ le 4 0) (drop 4 q) (suc g) n h a' b', append_assoc p (le 4 0) (les 4 (replicate n 0)))
    refl

pub clear-laid : (f m e q x : List ℕ) (n : ℕ) → length f ≡ 12 → length q ≡ 4 * n → clear 0 n (raw f m e q x) ≡ laid f m e (replicate n 0) x
clear-laid f m e q x n h b = clear-raw f (m ++ (x ++ e)) [] q 0 n h refl b

-- ---- the second pass

-- the numbers it keeps
abbrev bumped : Item → List ℕ → List ℕ
bumped r os = set os r.signal (get_or os r.signal 0 + length r.bytes)

unfoldable counted : List Item → List ℕ → List ℕ
counted [] os = os
counted (r ∷ rs) os = counted rs (bumped r os)

-- a record's bytes are counted, and no longer to come
bumped-at : (r : Item) (rs : List Item) (os : List ℕ) (g : ℕ) → r.signal < length os
    → get_or (bumped r os) g 0 + length (gather g rs) ≡ get_or os g 0 + length (gather g (r ∷ rs))
bumped-at r rs os g h = go (ℕ_discrete g r.signal)
  where
    go : Dec (g ≡ r.signal) → get_or (bumped r os) g 0 + length (gather g rs) ≡ get_or os g 0 + length (gather g (r ∷ rs))
    go (yes e) =
        rw (e, get_or-set_same os r.signal (get_or os r.signal 0 + length r.bytes) 0 h, length-own r rs)
        (omega arith)
    go (no n) = rw (get_or-set_other os r.signal g (get_or os r.signal 0 + length r.bytes) 0 n, gather-other g r rs (λ q. n (sym q))) refl

counted-at : (is : List Item) (os : List ℕ) (s g : ℕ) → length os ≡ s → Below s is
    → get_or (counted is os) g 0 ≡ get_or os g 0 + length (gather g is)
unfolding counted gather
counted-at [] os s g e b = sym (add-zero (get_or os g 0))
counted-at (r ∷ rs) os s g e b =
    counted-at rs (bumped r os) s g (length-set os r.signal (get_or os r.signal 0 + length r.bytes) ∙ e) b.1
    ∙ bumped-at r rs os g (omega (arith, b.0))

length-counted : (is : List Item) (os : List ℕ) → length (counted is os) ≡ length os
unfolding counted
length-counted [] os = refl
length-counted (r ∷ rs) os = length-counted rs (bumped r os) ∙ length-set os r.signal (get_or os r.signal 0 + length r.bytes)

-- no count exceeds 32 bits
abbrev Small : List Item → List ℕ → Type 0
Small is os = (g : ℕ) → g < length os → get_or os g 0 + length (gather g is) < 4294967296

module _ (f m e : List ℕ) (h : length f ≡ 12) where
  count-step : (is : List Item) (os x : List ℕ) (s : ℕ) → length os ≡ s → Below s is → Small is os
      → Counts is (laid f m e os x) × (count is (laid f m e os x) ≡ laid f m e (counted is os) x)
  unfolding count counted Counts
  count-step [] os x s l b k = (tt, refl)
  count-step (r ∷ rs) os x s l b k =
      let i : r.signal < length os = omega (arith, b.0) in
      let v : ℕ = get_or os r.signal 0 + length r.bytes in
      let c : v < 4294967296 = omega (arith, k r.signal i, length-own r rs) in
      let q = kept-laid f m e h os x r.signal i (omega arith) in
      let o = length-set os r.signal v in
      let ih = count-step rs (bumped r os) x s (o ∙ l) b.1 (λ g a. rw (bumped-at r rs os g i) (k g (omega arith))) in
      rw (q, keep-laid f m e h os x r.signal v i) ((c, ih.0), ih.1)

-- ---- what the two leave

-- the streams of the signals g, g + 1, .., n of them
unfoldable pub streams : (g n : ℕ) → List Item → List (List ℕ)
streams g zero is = []
streams g (suc n) is = gather g is ∷ streams (suc g) n is

pub length-streams : (g n : ℕ) (is : List Item) → length (streams g n is) ≡ n
unfolding streams
length-streams g zero is = refl
length-streams g (suc n) is = ap suc (length-streams (suc g) n is)

pub streams-at : (g n : ℕ) (is : List Item) (k : ℕ) → k < n → get_or (streams g n is) k [] ≡ gather (g + k) is
unfolding streams
streams-at g zero is k h = absurd (omega arith)
streams-at g (suc n) is zero h = rw (add-zero g) refl
streams-at g (suc n) is (suc k) h = streams-at (suc g) n is k (omega arith) ∙ ap (λ (j : ℕ). gather j is) (suc-add g k ∙ sym (add-suc g k))

abbrev pub sizes : List (List ℕ) → List ℕ
sizes zs = map length zs

sizes-at : (zs : List (List ℕ)) (k : ℕ) → get_or (sizes zs) k 0 ≡ length (get_or zs k [])
sizes-at [] k = refl
sizes-at (z ∷ zs) zero = refl
sizes-at (z ∷ zs) (suc k) = sizes-at zs k

counted-all : (is : List Item) (s : ℕ) → Below s is → counted is (replicate s 0) ≡ sizes (streams 0 s is)
counted-all is s b =
    let z : List ℕ = replicate s 0 in
    let a : length (counted is z) ≡ s = length-counted is z ∙ length-replicate s 0 in
    ext_get_or 0 (counted is z) (sizes (streams 0 s is)) (a ∙ sym (length-map (streams 0 s is) length ∙ length-streams 0 s is))
    (λ k h.
    let l : k < s = omega arith in
    counted-at is z s k (length-replicate s 0) b
    ∙ rw (get_or-replicate {A = ℕ} s k 0 0 l, sizes-at (streams 0 s is) k, streams-at 0 s is k l, zero-add k) (zero-add (length (gather k is))))

-- a stream is no longer than the data
stream-fits : (g n : ℕ) (is : List Item) (k : ℕ) → k < n → length (gather (g + k) is) ≤ data_length g n is
unfolding data_length
stream-fits g zero is k h = absurd (omega arith)
stream-fits g (suc n) is zero h = rw (add-zero g) (omega (arith, whole (length (gather g is))))
  where
    whole : (c : ℕ) → c ≤ part_length c
    whole zero = omega arith
    whole (suc c) = omega arith
stream-fits g (suc n) is (suc k) h =
    let e : g + suc k ≡ suc g + k = omega arith in
    rw e (omega (arith, stream-fits (suc g) n is k (omega arith)))

pub count-laid : (f m e x : List ℕ) (is : List Item) (s : ℕ) → length f ≡ 12 → Below s is → data_length 0 s is < 4294967296
    → Counts is (laid f m e (replicate s 0) x) × (count is (laid f m e (replicate s 0) x) ≡ laid f m e (sizes (streams 0 s is)) x)
count-laid f m e x is s h b d =
    let l = length-replicate {A = ℕ} s 0 in
    let small : Small is (replicate s 0) = λ g a.
    let i : g < s = omega arith in
    rw (get_or-replicate {A = ℕ} s g 0 0 i) (omega (arith, rw zero-add at (stream-fits 0 s is g i))) in
    let c = count-step f m e h is (replicate s 0) x s l b small in
    (c.0, c.1 ∙ ap (λ (u : List ℕ). laid f m e u x) (counted-all is s b))
