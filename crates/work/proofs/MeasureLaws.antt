-- The data bytes of a block are the stream bytes of all records and one for each signal that has some; these signals are counted
-- window by window, a record at a time, each at its first record with bytes.
-- Assumes nothing.
use Prim.Native.Nat.{ℕ, zero, suc, ◌+◌, ◌-◌, ◌≤◌, ◌<◌}
use mathlib.Core.Path.{◌≡◌, refl, sym, ap, ◌∙◌}
use mathlib.Core.Bool.{Bool, true, false, ◌||◌}
use mathlib.Core.List.{List, [], ◌∷◌}
use mathlib.Core.Option.{Option, some, none}
use Rattle.std.specs.Prelude as code
use native.Mathlib.Decide.{ℕ_discrete}
use native.Mathlib.Nat.{add-zero, zero-add}
use native.Mathlib.Omega.{arith}
use borrow.Author.Tests.{eq-eqb, ne_eqb}
use lib.Dec.{eqb}
use lib.ListN.{length, take, drop, length-drop}
use lib.Seq.{length-take-le}
use Rattle.lists.specs.Choice.{pick, is_some, or_empty}
use Rattle.lists.proofs.ChoiceLaws.{some-there, pick_same}
use Rattle.numbers.specs.LittleEndian.{unle}
use Rattle.recording.specs.Work.{Item, item, signal_at, size_at, items_of, items_in, gather}
use Rattle.recording.proofs.GatherLaws.{length-own, gather-other}
use Rattle.work.specs.Measure.{part_length, data_length, measured}
use Rattle.work.specs.Counting.{total, sum, sign, changed, unmarked, sums, scanned}
use Rattle.work.specs.declared.Scanned.{Scanned}
use Rattle.work.proofs.WorkLaws.{Below, with_first, at_place, turn-whole, items-below}
use Rattle.work.proofs.SumLaws.{sum_same, sum_one, sum-add, sum-plus, sum-le, sum-zero, sum-shift}

-- ---- one record more

gather-empty : (j s : ℕ) (b : List ℕ) (is : List Item) → length b ≡ 0 → gather j (item s b ∷ is) ≡ gather j is
unfolding gather
gather-empty j s [] is h = rw (pick_same {A = List ℕ} (eqb s j) []) refl
gather-empty j s (x ∷ b) is h = absurd (omega arith)

gather-past : (n j : ℕ) (is : List Item) → Below n is → n ≤ j → gather j is ≡ []
unfolding gather
gather-past n j [] h l = refl
gather-past n j (r ∷ rs) h l =
    let q : r.signal < n = h.0 in
    gather-other j r rs (λ e. absurd (omega arith)) ∙ gather-past n j rs h.1 l

-- ---- the data bytes

total-sum : (n : ℕ) (is : List Item) → Below n is → sum (λ j. length (gather j is)) 0 n ≡ total is
unfolding total gather
total-sum n [] h = sum-zero (λ j. 0) 0 n (λ j l. refl)
total-sum n (r ∷ rs) h =
    sum_one (λ j. length (gather j (r ∷ rs))) (λ j. length (gather j rs)) r.signal (length r.bytes) 0 n (omega arith) (omega (arith, h.0))
    (length-own r rs)
    (λ j q. ap length (gather-other j r rs (λ e. q (sym e))))
    ∙ ap (λ (t : ℕ). length r.bytes + t) (total-sum n rs h.1)

part-sign : (x : ℕ) → part_length x ≡ x + sign x
part-sign zero = refl
part-sign (suc x) = omega arith

data-sum : (g n : ℕ) (is : List Item) → data_length g n is ≡ sum (λ j. part_length (length (gather j is))) g n
unfolding data_length sum
data-sum g zero is = refl
data-sum g (suc n) is = rw (data-sum (suc g) n is) refl

pub data-length : (n : ℕ) (is : List Item) → Below n is → data_length 0 n is ≡ total is + changed 0 n is
unfolding changed
data-length n is h =
    data-sum 0 n is
    ∙ sum_same (λ j. part_length (length (gather j is))) (λ j. length (gather j is) + sign (length (gather j is))) 0 n (λ j a b. part-sign (length (gather j is)))
    ∙ sum-plus (λ j. length (gather j is)) (λ j. sign (length (gather j is))) 0 n
    ∙ ap (λ (t : ℕ). t + sum (λ j. sign (length (gather j is))) 0 n) (total-sum n is h)

-- ---- counting by windows

pub changed-none : (g : ℕ) (is : List Item) → changed g 0 is ≡ 0
unfolding changed sum
changed-none g is = refl

pub changed-more : (g b n : ℕ) (is : List Item) → changed g (b + n) is ≡ changed g b is + changed (g + b) n is
unfolding changed
changed-more g b n is = sum-add (λ j. sign (length (gather j is))) g b n

sign_le : (x : ℕ) → sign x ≤ 1
sign_le zero = omega arith
sign_le (suc x) = omega arith

pub changed-le : (g n : ℕ) (is : List Item) → changed g n is ≤ n
unfolding changed
changed-le g n is = sum-le (λ j. sign (length (gather j is))) g n (λ j. sign_le (length (gather j is)))

-- past the last signal there is nothing to count
pub changed-end : (s g n b : ℕ) (is : List Item) → Below s is → s ≤ g + n → n ≤ b → changed g b is ≡ changed g n is
changed-end s g n b is h k l =
    let e : b ≡ n + (b - n) = omega arith in
    ap (λ (x : ℕ). changed g x is) e ∙ changed-more g n (b - n) is ∙ ap (λ (x : ℕ). changed g n is + x) changed-zero ∙ add-zero (changed g n is)
  where
    changed-zero : changed (g + n) (b - n) is ≡ 0
    changed-zero =
        unfold changed in
        sum-zero (λ j. sign (length (gather j is))) (g + n) (b - n) (λ j q. ap (λ (s : List ℕ). sign (length s)) (gather-past s j is h (omega arith)))

-- the first window and those after it
changed-windows : (n : ℕ) (is : List Item) → Below n is → changed 0 65536 is + changed 65536 (n - 65536) is ≡ changed 0 n is
changed-windows n is h = sym (changed-more 0 65536 (n - 65536) is) ∙ changed-end n 0 n (65536 + (n - 65536)) is h (omega arith) (omega arith)

-- ---- one window, a record at a time

pub unmarked-none : (m : ℕ → Bool) (base : ℕ) (is : List Item) → ((i : ℕ) → m i ≡ false) → unmarked m base is ≡ changed base 65536 is
unfolding unmarked changed
unmarked-none m base is h =
    sum_same (λ i. pick (m i) 0 (sign (length (gather (base + i) is)))) (λ i. sign (length (gather (base + i) is))) 0 65536
    (λ i a b. rw (h i) refl)
    ∙ sum-shift (λ j. sign (length (gather j is))) base 0 65536 ∙ simp add-zero

pub unmarked-end : (m : ℕ → Bool) (base : ℕ) → unmarked m base [] ≡ 0
unfolding unmarked gather
unmarked-end m base = sum-zero (λ i. pick (m i) 0 0) 0 65536 (λ i l. pick_same (m i) 0)

-- a record that changes nothing: without bytes, of a signal outside the window, of a signal that is marked
unmarked-same : (m : ℕ → Bool) (base s : ℕ) (b : List ℕ) (is : List Item)
    → ((i : ℕ) → i < 65536 → pick (m i) 0 (sign (length (gather (base + i) is))) ≡ pick (m i) 0 (sign (length (gather (base + i) (item s b ∷ is)))))
    → unmarked m base is ≡ unmarked m base (item s b ∷ is)
unfolding unmarked
unmarked-same m base s b is h =
    sum_same (λ i. pick (m i) 0 (sign (length (gather (base + i) is)))) (λ i. pick (m i) 0 (sign (length (gather (base + i) (item s b ∷ is))))) 0 65536
    (λ i l u. h i (omega arith))

pub unmarked-empty : (m : ℕ → Bool) (base s : ℕ) (b : List ℕ) (is : List Item) → length b ≡ 0 → unmarked m base is ≡ unmarked m base (item s b ∷ is)
unmarked-empty m base s b is h = unmarked-same m base s b is (λ i l. rw (gather-empty (base + i) s b is h) refl)

pub unmarked-outside : (m : ℕ → Bool) (base s : ℕ) (b : List ℕ) (is : List Item) → ((i : ℕ) → i < 65536 → base + i ≡ s → ⊥)
    → unmarked m base is ≡ unmarked m base (item s b ∷ is)
unmarked-outside m base s b is h = unmarked-same m base s b is (λ i l. rw (gather-other (base + i) (item s b) is (λ q. h i l (sym q))) refl)

pub unmarked-marked : (m : ℕ → Bool) (base s : ℕ) (b : List ℕ) (is : List Item) → m (s - base) ≡ true
    → unmarked m base is ≡ unmarked m base (item s b ∷ is)
unmarked-marked m base s b is h = unmarked-same m base s b is (λ i l. by_place i (ℕ_discrete (base + i) s))
  where
    by_place : (i : ℕ) → Dec (base + i ≡ s) → pick (m i) 0 (sign (length (gather (base + i) is))) ≡ pick (m i) 0 (sign (length (gather (base + i) (item s b ∷ is))))
    by_place i (yes e) =
        let q : i ≡ s - base = omega arith in
        let t : m i ≡ true = ap m q ∙ h in
        rw t refl
    by_place i (no e) = rw (gather-other (base + i) (item s b) is (λ q. e (sym q))) refl

-- the first record of a signal of the window that has bytes
pub unmarked-first : (m m' : ℕ → Bool) (base s : ℕ) (b : List ℕ) (is : List Item) → base ≤ s → s - base < 65536 → 0 < length b → m (s - base) ≡ false
    → ((j : ℕ) → m' j ≡ (eqb j (s - base) || m j)) → 1 + unmarked m' base is ≡ unmarked m base (item s b ∷ is)
unfolding unmarked
unmarked-first m m' base s b is l u p h k =
    sym (sum_one (λ i. pick (m i) 0 (sign (length (gather (base + i) (item s b ∷ is))))) (λ i. pick (m' i) 0 (sign (length (gather (base + i) is))))
    (s - base) 1 0 65536 (omega arith) (omega arith) here other)
  where
    at : base + (s - base) ≡ s
    at = omega arith

    one : (x : ℕ) → 0 < x → sign x ≡ 1
    one zero q = absurd (omega arith)
    one (suc x) q = refl

    long : 0 < length (gather s (item s b ∷ is))
    long = rw (length-own (item s b) is) (omega arith)

    in-set : m' (s - base) ≡ true
    in-set = rw (k (s - base), eq-eqb (s - base) (s - base) refl) refl

    here : pick (m (s - base)) 0 (sign (length (gather (base + (s - base)) (item s b ∷ is)))) ≡ 1 + pick (m' (s - base)) 0 (sign (length (gather (base + (s - base)) is)))
    here = rw (h, in-set, at, one (length (gather s (item s b ∷ is))) long) refl

    other : (j : ℕ) → (j ≡ s - base → ⊥) → pick (m j) 0 (sign (length (gather (base + j) (item s b ∷ is)))) ≡ pick (m' j) 0 (sign (length (gather (base + j) is)))
    other j q = rw (k j, ne_eqb j (s - base) q, gather-other (base + j) (item s b) is (λ e. q (omega arith))) refl

-- ---- the pass over the work

-- what is found at last: the bytes and signals so far, with what the rest brings of both, those signals not counted that are in the set m
abbrev pub onward : (m : ℕ → Bool) (base bytes signals : ℕ) → Option (List Item) → code.Option Scanned
onward m base a c none = code.None
onward m base a c (some is) = sums (a + total is) (c + unmarked m base is)

pub onward-start : (m : ℕ → Bool) (base : ℕ) (o : Option (List Item)) → ((i : ℕ) → m i ≡ false) → scanned base o ≡ onward m base 0 0 o
onward-start m base none h = refl
onward-start m base (some is) h = rw (zero-add (total is), zero-add (unmarked m base is), unmarked-none m base is h) refl

pub onward-end : (m : ℕ → Bool) (base a c : ℕ) → onward m base a c (some []) ≡ sums a c
unfolding total
onward-end m base a c = rw (unmarked-end m base, add-zero a, add-zero c) refl

-- what a record of the signal s with z bytes counts, which leaves the set m'
abbrev pub Counts : (m m' : ℕ → Bool) (base s z r : ℕ) → Type 0
Counts m m' base s z r = (stream : List ℕ) (rest : List Item) → length stream ≡ z → r + unmarked m' base rest ≡ unmarked m base (item s stream ∷ rest)

onward-first : (m m' : ℕ → Bool) (base a c r : ℕ) (w : List ℕ) (o : Option (List Item)) → 8 + size_at w ≤ length w
    → Counts m m' base (signal_at w) (size_at w) r → onward m base a c (with_first w o) ≡ onward m' base (a + size_at w) (c + r) o
unfolding total
onward-first m m' base a c r w none h q = refl
onward-first m m' base a c r w (some rs) h q =
    let b : List ℕ = take (size_at w) (drop 8 w) in
    let l : length b ≡ size_at w = length-take-le (size_at w) (drop 8 w) (rw length-drop (omega arith)) in
    let x : a + (length b + total rs) ≡ a + size_at w + total rs = omega arith in
    let y : c + unmarked m base (item (signal_at w) b ∷ rs) ≡ c + r + unmarked m' base rs = omega (arith, q b rs l) in
    rw (x, y) refl

-- a turn past a whole record of the signal s, of size z
pub onward-turn : (m m' : ℕ → Bool) (k n p base a c s z r : ℕ) (w : List ℕ) → s ≡ unle (take 4 (drop p w)) → z ≡ unle (take 4 (drop (p + 4) w))
    → p + 8 ≤ length w → p + 8 + z ≤ length w → s < n → length w - p ≤ k → Counts m m' base s z r
    → onward m base a c (items_of k n (drop p w)) ≡ onward m' base (a + z) (c + r) (items_of (k - 1) n (drop (p + 8 + z) w))
onward-turn m m' k n p base a c s z r w es ez h b l f q =
    let t = at_place p w in
    let inside : 8 + size_at (drop p w) ≤ length (drop p w) = rw (length-drop, t.size, ← ez) (omega arith) in
    let counts : Counts m m' base (signal_at (drop p w)) (size_at (drop p w)) r = rw (t.size, ← ez, ← es) q in
    let body : p + 8 + unle (take 4 (drop (p + 4) w)) ≤ length w = rw (← ez) b in
    let below : unle (take 4 (drop p w)) < n = rw (← es) l in
    ap (onward m base a c) (turn-whole k n p w h body below f)
    ∙ onward-first m m' base a c r (drop p w) (items_of (k - 1) n (drop (p + 8 + unle (take 4 (drop (p + 4) w))) w)) inside counts
    ∙ rw (t.size, ez) refl

-- ---- the records of work that divides

pub records-below : (n : ℕ) (w : List ℕ) → is_some (items_of (length w) n w) ≡ true → Below n (items_in n w)
records-below n w h = items-below (length w) n w (items_in n w) (some-there (items_of (length w) n w) h)

-- ---- the answer

pub scan-divides : (x y base : ℕ) (o : Option (List Item)) → sums x y ≡ scanned base o → is_some o ≡ true
scan-divides x y base none e = let z : ◌≡◌ {A = ℕ} 0 1 = cc in absurd (omega arith)
scan-divides x y base (some is) e = refl

pub scan-sums : (x y base : ℕ) (o : Option (List Item)) → sums x y ≡ scanned base o → (x ≡ total (or_empty o)) × (y ≡ changed base 65536 (or_empty o))
scan-sums x y base none e = let z : ◌≡◌ {A = ℕ} 0 1 = cc in absurd (omega arith)
scan-sums x y base (some is) e =
    let r : ◌≡◌ {A = Scanned} (record { bytes = x; signals = y }) (record { bytes = total is; signals = changed base 65536 is }) = cc in
    (ap (λ (s : Scanned). s.bytes) r, ap (λ (s : Scanned). s.signals) r)

pub scan-damaged : (base : ℕ) (o : Option (List Item)) → code.None ≡ scanned base o → is_some o ≡ true → ⊥
scan-damaged base none e h = let z : ◌≡◌ {A = ℕ} 0 1 = cc in absurd (omega arith)
scan-damaged base (some is) e h = let z : ◌≡◌ {A = ℕ} 0 1 = cc in absurd (omega arith)

pub measured-data : (n x y z : ℕ) (o : Option (List Item)) → sums x y ≡ scanned 0 o → z ≡ changed 65536 (n - 65536) (or_empty o) → Below n (or_empty o)
    → code.Some (x + y + z) ≡ measured n o
measured-data n x y z none e f h = let z : ◌≡◌ {A = ℕ} 0 1 = cc in absurd (omega arith)
measured-data n x y z (some is) e f h =
    let q = scan-sums x y 0 (some is) e in
    let d : x + y + z ≡ data_length 0 n is = omega (arith, q.0, q.1, f, changed-windows n is h, data-length n is h) in
    rw d refl

pub measured-damaged : (n : ℕ) (o : Option (List Item)) → code.None ≡ scanned 0 o → code.None ≡ measured n o
measured-damaged n none e = refl
measured-damaged n (some is) e = let z : ◌≡◌ {A = ℕ} 0 1 = cc in absurd (omega arith)
