-- The data while it is made: for each signal a slot, which has what is written already and what is still to be overwritten. What a
-- record's bytes do to the slots, and to the places and the data that these stand for.
-- Assumes nothing.
use Prim.Native.Nat.{ℕ, zero, suc, ◌+◌, ◌-◌, ◌≤◌, ◌<◌}
use mathlib.Core.Path.{◌≡◌, refl, sym, ap, subst, ◌∙◌}
use mathlib.Core.List.{List, [], ◌∷◌, ◌++◌, append_assoc, append-nil}
use native.Mathlib.Nat.{add-zero}
use native.Mathlib.Omega.{arith}
use native.Mathlib.Decide.{ℕ_discrete}
use lib.ListN.{length, take, drop, get_or, set, length-append, length-set, length-drop, take-append-drop}
use lib.Seq.{sets, drop-drop, get_or-set_same, get_or-set_other, length-take-le}
use Rattle.recording.specs.Work.{Item, gather}
use Rattle.work.proofs.WorkLaws.{Below}
use Rattle.block.proofs.LayoutLaws.{sets-front, sets-after, sets-inside}
use Rattle.recording.proofs.GatherLaws.{gather-own, gather-other}

-- a signal without stream bytes has no part
pub data Slot : Type 0 where
  empty : Slot
  filled : (top : ℕ) → (written left : List ℕ) → Slot

abbrev pub slot_bytes : Slot → List ℕ
slot_bytes empty = []
slot_bytes (filled c w l) = c ∷ (w ++ l)

abbrev pub room : Slot → ℕ
room empty = 0
room (filled c w l) = length l

-- where the next byte goes, for a slot that begins at a place
abbrev pub mark : ℕ → Slot → ℕ
mark at empty = 0
mark at (filled c w l) = at + suc (length w)

unfoldable pub marks : ℕ → List Slot → List ℕ
marks at [] = []
marks at (s ∷ ss) = mark at s ∷ marks (at + length (slot_bytes s)) ss

unfoldable pub filling : List Slot → List ℕ
filling [] = []
filling (s ∷ ss) = slot_bytes s ++ filling ss

abbrev pub advance : Slot → List ℕ → Slot
advance empty b = empty
advance (filled c w l) b = filled c (w ++ b) (drop (length b) l)

pub length-marks : (at : ℕ) (ss : List Slot) → length (marks at ss) ≡ length ss
unfolding marks
length-marks at [] = refl
length-marks at (s ∷ ss) = ap suc (length-marks (at + length (slot_bytes s)) ss)

-- ---- a slot advances

length-advance : (s : Slot) (b : List ℕ) → length b ≤ room s → length (slot_bytes (advance s b)) ≡ length (slot_bytes s)
length-advance empty b h = refl
length-advance (filled c w l) b h = simp (length-append, length-drop) (omega arith)

advance-more : (s : Slot) (a b : List ℕ) → advance (advance s a) b ≡ advance s (a ++ b)
advance-more empty a b = refl
advance-more (filled c w l) a b = rw (append_assoc w a b, drop-drop (length b) (length a) l, length-append a b) refl

advance-none : (s : Slot) → advance s [] ≡ s
advance-none empty = refl
advance-none (filled c w l) = rw (append-nil w) refl

pub room-advance : (s : Slot) (b : List ℕ) → room (advance s b) ≡ room s - length b
room-advance empty b = omega arith
room-advance (filled c w l) b = length-drop (length b) l

mark-advance : (at : ℕ) (s : Slot) (b : List ℕ) → length b ≤ room s → mark at s + length b ≡ mark at (advance s b)
mark-advance at empty b h = omega arith
mark-advance at (filled c w l) b h = rw length-append (omega arith)

-- the bytes are stored over what was left
store-advance : (p q : List ℕ) (s : Slot) (b : List ℕ) → length b ≤ room s
    → sets (p ++ (slot_bytes s ++ q)) (mark (length p) s) b ≡ p ++ (slot_bytes (advance s b) ++ q)
store-advance p q empty [] h = refl
store-advance p q empty (x ∷ b) h = absurd (omega arith)
store-advance p q (filled c w l) b h =
    sets-after p ((c ∷ (w ++ l)) ++ q) (length p) (suc (length w)) b refl
    ∙ ap (λ (u : List ℕ). p ++ u)
    (sets-inside b (c ∷ (w ++ l)) q (suc (length w)) (simp length-append (omega arith))
    ∙ ap (λ (u : List ℕ). u ++ q) (inner ∙ ap (λ (u : List ℕ). c ∷ u) (sym (append_assoc w b (drop (length b) l)))))
  where
    over : sets l 0 b ≡ b ++ drop (length b) l
    over =
        ap (λ (u : List ℕ). sets u 0 b) (sym (take-append-drop (length b) l))
        ∙ sets-front (take (length b) l) (drop (length b) l) b (length-take-le (length b) l h)

    inner : sets (c ∷ (w ++ l)) (suc (length w)) b ≡ c ∷ (w ++ (b ++ drop (length b) l))
    inner = rw (add-zero (suc (length w))) at (sets-after (c ∷ w) l (suc (length w)) 0 b refl) ∙ ap (λ (u : List ℕ). c ∷ (w ++ u)) over

-- ---- one of several slots advances

abbrev pub next_slot : List Slot → ℕ → List ℕ → Slot
next_slot ss k b = advance (get_or ss k empty) b

abbrev pub advanced : List Slot → ℕ → List ℕ → List Slot
advanced ss k b = set ss k (next_slot ss k b)

pub marks-advanced : (ss : List Slot) (k at : ℕ) (b : List ℕ) → length b ≤ room (get_or ss k empty)
    → set (marks at ss) k (get_or (marks at ss) k 0 + length b) ≡ marks at (advanced ss k b)
unfolding marks
marks-advanced [] k at b h = refl
marks-advanced (s ∷ ss) zero at b h = rw (mark-advance at s b h, length-advance s b h) refl
marks-advanced (s ∷ ss) (suc k) at b h = ap (λ (u : List ℕ). mark at s ∷ u) (marks-advanced ss k (at + length (slot_bytes s)) b h)

filling-from : (ss : List Slot) (k : ℕ) (p b : List ℕ) → k < length ss → length b ≤ room (get_or ss k empty)
    → sets (p ++ filling ss) (get_or (marks (length p) ss) k 0) b ≡ p ++ filling (advanced ss k b)
unfolding marks filling
filling-from [] k p b i h = absurd (omega arith)
filling-from (s ∷ ss) zero p b i h = store-advance p (filling ss) s b h
filling-from (s ∷ ss) (suc k) p b i h =
    rw (← (append_assoc p (slot_bytes s) (filling ss)), ← (length-append p (slot_bytes s)))
    (filling-from ss k (p ++ slot_bytes s) b (omega arith) h ∙ append_assoc p (slot_bytes s) (filling (advanced ss k b)))

pub filling-advanced : (ss : List Slot) (k : ℕ) (b : List ℕ) → k < length ss → length b ≤ room (get_or ss k empty)
    → sets (filling ss) (get_or (marks 0 ss) k 0) b ≡ filling (advanced ss k b)
filling-advanced ss k b i h = filling-from ss k [] b i h

pub mark-fits : (ss : List Slot) (k at n : ℕ) → n ≤ room (get_or ss k empty) → get_or (marks at ss) k 0 + n ≤ at + length (filling ss)
unfolding marks filling
mark-fits [] k at n h = omega arith
mark-fits (empty ∷ ss) zero at n h = omega arith
mark-fits (filled c w l ∷ ss) zero at n h = simp length-append (omega arith)
mark-fits (s ∷ ss) (suc k) at n h = simp length-append (omega (arith, mark-fits ss k (at + length (slot_bytes s)) n h))

-- ---- all records in order

unfoldable pub moved : List Item → List Slot → List Slot
moved [] ss = ss
moved (r ∷ rs) ss = moved rs (advanced ss r.signal r.bytes)

pub moved_at : (is : List Item) (ss : List Slot) (s g : ℕ) → length ss ≡ s → Below s is
    → get_or (moved is ss) g empty ≡ advance (get_or ss g empty) (gather g is)
unfolding moved gather
moved_at [] ss s g e b = sym (advance-none (get_or ss g empty))
moved_at (r ∷ rs) ss s g e b =
    moved_at rs (advanced ss r.signal r.bytes) s g (length-set ss r.signal (next_slot ss r.signal r.bytes) ∙ e) b.1
    ∙ go (ℕ_discrete g r.signal)
  where
    go : Dec (g ≡ r.signal)
        → advance (get_or (advanced ss r.signal r.bytes) g empty) (gather g rs) ≡ advance (get_or ss g empty) (gather g (r ∷ rs))
    go (yes q) =
        subst
        (λ (h : ℕ). advance (get_or (advanced ss r.signal r.bytes) h empty) (gather h rs) ≡ advance (get_or ss h empty) (gather h (r ∷ rs)))
        (sym q)
        (ap (λ (x : Slot). advance x (gather r.signal rs)) (get_or-set_same ss r.signal (next_slot ss r.signal r.bytes) empty (omega (arith, b.0)))
        ∙ advance-more (get_or ss r.signal empty) r.bytes (gather r.signal rs)
        ∙ ap (advance (get_or ss r.signal empty)) (sym (gather-own r rs)))
    go (no n) =
        rw (get_or-set_other ss r.signal g (next_slot ss r.signal r.bytes) empty n)
        (ap (advance (get_or ss g empty)) (sym (gather-other g r rs (λ q. n (sym q)))))

pub length_moved : (is : List Item) (ss : List Slot) → length (moved is ss) ≡ length ss
unfolding moved
length_moved [] ss = refl
length_moved (r ∷ rs) ss =
    length_moved rs (advanced ss r.signal r.bytes) ∙ length-set ss r.signal (next_slot ss r.signal r.bytes)
