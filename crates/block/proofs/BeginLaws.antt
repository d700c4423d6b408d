-- The third pass: from the sizes of the streams, a slot for each signal, in which the class byte is written.
-- Assumes nothing.
use Prim.Native.Nat.{ℕ, zero, suc, ◌+◌, ◌*◌, ◌≤◌, ◌<◌}
use mathlib.Core.Path.{◌≡◌, refl, sym, ap, ◌∙◌}
use mathlib.Core.List.{List, [], ◌∷◌, ◌++◌, append_assoc}
use native.Mathlib.Nat.{add-zero}
use native.Mathlib.Omega.{arith}
use borrow.Author.Tests.{ne_eqb}
use lib.ListN.{length, take, drop, get_or, set, length-append, length-map, length-drop, take-append-drop}
use lib.Seq.{set_at, get_or_at, append_snoc, length-take-le}
use Rattle.recording.specs.Work.{Item, gather}
use Rattle.work.specs.Measure.{part_length, data_length}
use Rattle.block.specs.Passes.{kept_at, begun, next_part, begin, Begins}
use Rattle.block.proofs.LayoutLaws.{laid, kept-laid, keep-laid, write-laid, length-laid}
use Rattle.block.proofs.CountLaws.{no-elements, streams, sizes}
use Rattle.block.proofs.SlotLaws.{Slot, empty, filled, room, marks, filling}

-- the bytes of the parts of some streams
unfoldable pub extent : List (List ℕ) → ℕ
extent [] = 0
extent (z ∷ zs) = part_length (length z) + extent zs

pub extent-streams : (g n : ℕ) (is : List Item) → extent (streams g n is) ≡ data_length g n is
unfolding extent streams data_length
extent-streams g zero is = refl
extent-streams g (suc n) is = ap (λ (k : ℕ). part_length (length (gather g is)) + k) (extent-streams (suc g) n is)

-- the slots that the data x is divided into
unfoldable pub slots_of : (tops : List ℕ) → List (List ℕ) → List ℕ → List Slot
slots_of [] zs x = []
slots_of (c ∷ cs) [] x = []
slots_of (c ∷ cs) ([] ∷ zs) x = empty ∷ slots_of cs zs x
slots_of (c ∷ cs) ((b ∷ s) ∷ zs) x = filled c [] (take (suc (length s)) (drop 1 x)) ∷ slots_of cs zs (drop (suc (length s)) (drop 1 x))

-- ---- one signal, without stream bytes and with some

module _ (f m e : List ℕ) (h : length f ≡ 12) (os x : List ℕ) (d o g c : ℕ) (i : g < length os) (small : get_or os g 0 < 4294967296) where
  kept : kept_at g (laid f m e os x) ≡ get_or os g 0
  kept = kept-laid f m e h os x g i small

  record Without : Type 0 where
    place : next_part o g (laid f m e os x) ≡ o
    bytes : begun d o g c (laid f m e os x) ≡ laid f m e os x

  without-bytes : get_or os g 0 ≡ 0 → Without
  without-bytes z = record { place = rw (kept, z) refl; bytes = rw (kept, z) refl }

  record With : Type 0 where
    place : next_part o g (laid f m e os x) ≡ o + 1 + get_or os g 0
    bytes : begun d o g c (laid f m e os x) ≡ laid f m e (set os g (o + 1)) (set x o c)

  with-bytes : 0 < get_or os g 0 → d ≡ 12 + 4 * length os + length m → o < length x → With
  with-bytes z s l =
      let n = ne_eqb (get_or os g 0) 0 (λ q. omega arith) in
      record {
        place = rw (kept, n) refl;
        bytes = rw (kept, n, write-laid f m e h os x d o (c ∷ []) s (omega arith)) (keep-laid f m e h os (set x o c) g (o + 1) i);
      }

-- ---- all signals

begin-one : (d o g c : ℕ) (cs t t' : List ℕ) (o' : ℕ) → next_part o g t ≡ o' → begun d o g c t ≡ t' → d + o' ≤ length t → o' < 4294967296
    → Begins d o' (suc g) cs t' → Begins d o g (c ∷ cs) t × (begin d o g (c ∷ cs) t ≡ begin d o' (suc g) cs t')
unfolding begin Begins
begin-one d o g c cs t t' o' p b i l n = rw (p, b) ((i, l, n), refl)

module _ (f m e : List ℕ) (h : length f ≡ 12) (d : ℕ) where
  -- the signals before g are begun, p; their slots are u
  record Begun (o g : ℕ) (tops : List ℕ) (zs : List (List ℕ)) (p u x : List ℕ) : Type 0 where
    pub begins : Begins d o g tops (laid f m e (p ++ sizes zs) (u ++ x))
    pub begun-is :
        begin d o g tops (laid f m e (p ++ sizes zs) (u ++ x))
        ≡ laid f m e (p ++ marks o (slots_of tops zs x)) (u ++ filling (slots_of tops zs x))

  begin-step : (tops : List ℕ) (zs : List (List ℕ)) (o g : ℕ) (p u x : List ℕ) → length p ≡ g → length u ≡ o → length tops ≡ length zs
      → length x ≡ extent zs → d ≡ 12 + 4 * (g + length zs) + length m → d + (o + extent zs) < 4294967296 → Begun o g tops zs p u x
  unfolding begin Begins extent slots_of marks filling
  begin-step [] [] o g p u x a b t l s n = record { begins = tt; begun-is = rw (no-elements x l) refl }
  begin-step [] (z ∷ zs) o g p u x a b t l s n = absurd (omega arith)
  begin-step (c ∷ cs) [] o g p u x a b t l s n = absurd (omega arith)
  begin-step (c ∷ cs) ([] ∷ zs) o g p u x a b t l s n =
      let os : List ℕ = p ++ 0 ∷ sizes zs in
      let lo : length os ≡ g + suc (length zs) = simp (length-append, length-map) (omega arith) in
      let z : get_or os g 0 ≡ 0 = get_or_at p 0 (sizes zs) 0 g a in
      let q = without-bytes f m e h os (u ++ x) d o g c (omega arith) (omega arith) z in
      let lp' : length (p ++ (0 ∷ [])) ≡ suc g = rw length-append (omega arith) in
      let ih = begin-step cs zs o (suc g) (p ++ (0 ∷ [])) u x lp' b (omega arith) (omega arith) (omega arith) (omega arith) in
      let k : d + o ≤ length (laid f m e os (u ++ x)) = omega (arith, length-laid f m e h os (u ++ x), length-append u x) in
      let r = begin-one d o g c cs (laid f m e os (u ++ x)) (laid f m e ((p ++ (0 ∷ [])) ++ sizes zs) (u ++ x)) o q.place
      (q.bytes ∙ ap (λ (w : List ℕ). laid f m e w (u ++ x)) (sym (append_snoc p 0 (sizes zs)))) k (omega arith) ih.begins in
      record {
        begins = r.0;
        begun-is = r.1 ∙ ih.begun-is ∙ rw (append_snoc p 0 (marks o (slots_of cs zs x)), add-zero o) refl;
      }
  begin-step (c ∷ cs) ((y ∷ z) ∷ zs) o g p u [] a b t l s n = absurd (omega arith)
  begin-step (c ∷ cs) ((y ∷ z) ∷ zs) o g p u (v ∷ x) a b t l s n =
      let k : ℕ = suc (length z) in
      let os : List ℕ = p ++ k ∷ sizes zs in
      let lo : length os ≡ g + suc (length zs) = simp (length-append, length-map) (omega arith) in
      let w : get_or os g 0 ≡ k = get_or_at p k (sizes zs) 0 g a in
      let lu = length-append u (v ∷ x) in
      let q = with-bytes f m e h os (u ++ v ∷ x) d o g c (omega arith) (omega arith) (omega arith) (omega arith) (omega arith) in
      let lt : length (take k x) ≡ k = length-take-le k x (omega arith) in
      let u' : List ℕ = u ++ c ∷ take k x in
      let lu' : length u' ≡ o + 1 + k = rw length-append (omega arith) in
      let p' : List ℕ = p ++ ((o + 1) ∷ []) in
      let lp' : length p' ≡ suc g = rw length-append (omega arith) in
      let lx' : length (drop k x) ≡ extent zs = rw length-drop (omega arith) in
      let ih = begin-step cs zs (o + 1 + k) (suc g) p' u' (drop k x) lp' lu' (omega arith) lx' (omega arith) (omega arith) in
      let i : d + (o + 1 + k) ≤ length (laid f m e os (u ++ v ∷ x)) = omega (arith, length-laid f m e h os (u ++ v ∷ x)) in
      let eo : set os g (o + 1) ≡ p' ++ sizes zs = set_at p k (sizes zs) (o + 1) g a ∙ sym (append_snoc p (o + 1) (sizes zs)) in
      let ex : set (u ++ v ∷ x) o c ≡ u' ++ drop k x =
      set_at u v x c o b ∙ sym (append_assoc u (c ∷ take k x) (drop k x) ∙ ap (λ (w : List ℕ). u ++ c ∷ w) (take-append-drop k x)) in
      let ss : List Slot = slots_of cs zs (drop k x) in
      let eo' : o + suc (length (take k x)) ≡ o + 1 + k = omega arith in
      let r = begin-one d o g c cs (laid f m e os (u ++ v ∷ x)) (laid f m e (p' ++ sizes zs) (u' ++ drop k x)) (o + 1 + k) (rw w at q.place)
      (q.bytes ∙ rw (eo, ex) refl) i (omega arith) ih.begins in
      record {
        begins = r.0;
        begun-is = r.1 ∙ ih.begun-is ∙ rw (append_snoc p (o + 1) (marks (o + 1 + k) ss), append_assoc u (c ∷ take k x) (filling ss), eo') refl;
      }

  -- from the first signal and the start of the data
  pub begin-laid : (tops : List ℕ) (zs : List (List ℕ)) (x : List ℕ) → length tops ≡ length zs → length x ≡ extent zs
      → d ≡ 12 + 4 * length zs + length m → d + extent zs < 4294967296
      → Begins d 0 0 tops (laid f m e (sizes zs) x)
      × (begin d 0 0 tops (laid f m e (sizes zs) x) ≡ laid f m e (marks 0 (slots_of tops zs x)) (filling (slots_of tops zs x)))
  begin-laid tops zs x t l s n =
      let b = begin-step tops zs 0 0 [] [] x refl refl t l (omega arith) (omega arith) in
      (b.begins, b.begun-is)

-- ---- the slots

pub length-slots : (tops : List ℕ) (zs : List (List ℕ)) (x : List ℕ) → length tops ≡ length zs → length (slots_of tops zs x) ≡ length zs
unfolding slots_of
length-slots [] [] x e = refl
length-slots [] (z ∷ zs) x e = absurd (omega arith)
length-slots (c ∷ cs) [] x e = refl
length-slots (c ∷ cs) ([] ∷ zs) x e = ap suc (length-slots cs zs x (omega arith))
length-slots (c ∷ cs) ((b ∷ s) ∷ zs) x e = ap suc (length-slots cs zs (drop (suc (length s)) (drop 1 x)) (omega arith))

pub length-filling : (tops : List ℕ) (zs : List (List ℕ)) (x : List ℕ) → length tops ≡ length zs → length x ≡ extent zs
    → length (filling (slots_of tops zs x)) ≡ extent zs
unfolding slots_of filling extent
length-filling [] [] x e l = refl
length-filling [] (z ∷ zs) x e l = absurd (omega arith)
length-filling (c ∷ cs) [] x e l = refl
length-filling (c ∷ cs) ([] ∷ zs) x e l = length-filling cs zs x (omega arith) (omega arith) ∙ omega arith
length-filling (c ∷ cs) ((b ∷ s) ∷ zs) [] e l = absurd (omega arith)
length-filling (c ∷ cs) ((b ∷ s) ∷ zs) (y ∷ x) e l =
    let ih = length-filling cs zs (drop (suc (length s)) x) (omega arith) (rw length-drop (omega arith)) in
    simp (length-append, ih) (omega (arith, length-take-le (suc (length s)) x (omega arith)))

-- each has room for its stream
pub room-slots : (tops : List ℕ) (zs : List (List ℕ)) (x : List ℕ) (k : ℕ) → length tops ≡ length zs → length x ≡ extent zs
    → room (get_or (slots_of tops zs x) k empty) ≡ length (get_or zs k [])
unfolding slots_of extent
room-slots [] [] x k e l = refl
room-slots [] (z ∷ zs) x k e l = absurd (omega arith)
room-slots (c ∷ cs) [] x k e l = refl
room-slots (c ∷ cs) ([] ∷ zs) x zero e l = refl
room-slots (c ∷ cs) ([] ∷ zs) x (suc k) e l = room-slots cs zs x k (omega arith) (omega arith)
room-slots (c ∷ cs) ((b ∷ s) ∷ zs) [] k e l = absurd (omega arith)
room-slots (c ∷ cs) ((b ∷ s) ∷ zs) (y ∷ x) zero e l = length-take-le (suc (length s)) x (omega arith)
room-slots (c ∷ cs) ((b ∷ s) ∷ zs) (y ∷ x) (suc k) e l =
    room-slots cs zs (drop (suc (length s)) x) k (omega arith) (rw length-drop (omega arith))
