-- Offsets and lengths are inverse, and those of a block are those of its parts.
-- Assumes nothing.
use Prim.Native.Nat.{ℕ, zero, suc, ◌+◌, ◌-◌, ◌≤◌, ◌<◌}
use mathlib.Core.Path.{◌≡◌, refl, ap, ◌∙◌}
use mathlib.Core.Bool.{Bool, true, false}
use mathlib.Core.List.{List, [], ◌∷◌}
use mathlib.Core.Option.{Option, some, none}
use native.Mathlib.Nat.{add-zero}
use native.Mathlib.Omega.{arith}
use borrow.Author.Tests.{lt-ltb, ltb-true, leb-true, eqb-true}
use lib.Dec.{leb, ltb, eqb}
use lib.ListN.{length, length-append}
use Rattle.lists.specs.Choice.{pick}
use Rattle.image.specs.Block.{Part, part_bytes, data_of, offsets_from, block_size}
use Rattle.form.specs.Form.{repeat, uint}
use Rattle.form.proofs.FormLaws.{Laws, via-laws, pair-laws, repeat-laws, uint_laws}
use Rattle.form.proofs.WholeLaws.{none-some, some_is, by-if}
use Rattle.codec.specs.Layout.{lengths_in, offsets, data_size, Laid, ill, laid, without, starting, lengths, Layout, layout, Front, front_of, from_zero, layout_from, layout_form}

-- ---- lengths of offsets

pub lengths-of : (a : ℕ) (l : List (Option ℕ)) → lengths (a + data_size l) (offsets a l) ≡ laid a l
unfolding offsets data_size lengths
lengths-of a [] = rw add-zero refl
lengths-of a (none ∷ l) = rw (lengths-of a l) refl
lengths-of a (some m ∷ l) =
    let e : a + (suc m + data_size l) ≡ a + suc m + data_size l = omega arith in
    let d : a + suc m - suc a ≡ m = omega arith in
    ap (λ (n : ℕ). starting a (lengths n (offsets (a + suc m) l))) e ∙ rw (lengths-of (a + suc m) l, lt-ltb a (a + suc m) (omega arith), d) refl

pub record Laying (n : ℕ) (os : List ℕ) (a : ℕ) (l : List (Option ℕ)) : Type 0 where
  pub same : offsets a l ≡ os
  pub sum : a + data_size l ≡ n

ill-laid : {B : Type 0} {a : ℕ} {l : List (Option ℕ)} → ill ≡ laid a l → B
ill-laid e = let z : ◌≡◌ {A = ℕ} 0 1 = cc in absurd (omega arith)

laying-eq : {n a b : ℕ} {os : List ℕ} {l m : List (Option ℕ)} → laid a l ≡ laid b m → Laying n os a l → Laying n os b m
laying-eq {a} {b} {l} {m} e w = let a' : a ≡ b = cc in let l' : l ≡ m = cc in rw (← a', ← l') w

more-none : (n a : ℕ) (os : List ℕ) (l : List (Option ℕ)) → Laying n os a l → Laying n (0 ∷ os) a (none ∷ l)
unfolding offsets data_size
more-none n a os l w = record { same = ap (λ (t : List ℕ). 0 ∷ t) w.same; sum = w.sum }

more-some : (n a e : ℕ) (os : List ℕ) (l : List (Option ℕ)) → a < e → Laying n os e l → Laying n (suc a ∷ os) a (some (e - suc a) ∷ l)
unfolding offsets data_size
more-some n a e os l h w =
    let q : a + suc (e - suc a) ≡ e = omega arith in
    record { same = rw (q, w.same) refl; sum = omega (arith, w.sum) }

pub lengths-is : (n : ℕ) (os : List ℕ) (a : ℕ) (l : List (Option ℕ)) → lengths n os ≡ laid a l → Laying n os a l
unfolding offsets data_size lengths
lengths-is n [] a l e = laying-eq e (record { same = refl; sum = add-zero n })
lengths-is n (zero ∷ os) a l e = by-rest (lengths n os) refl e (λ b m q. lengths-is n os b m q)
  where
    by-rest : (d : Laid) → lengths n os ≡ d → without d ≡ laid a l → ((b : ℕ) (m : List (Option ℕ)) → lengths n os ≡ laid b m → Laying n os b m) → Laying n (0 ∷ os) a l
    by-rest ill q e ih = ill-laid e
    by-rest (laid b m) q e ih = laying-eq e (more-none n b os m (ih b m q))
lengths-is n (suc s ∷ os) a l e = by-rest (lengths n os) refl e (λ b m q. lengths-is n os b m q)
  where
    by_place : (b : ℕ) (m : List (Option ℕ)) (t : Bool) → ltb s b ≡ t → pick t (laid s (some (b - suc s) ∷ m)) ill ≡ laid a l → Laying n os b m → Laying n (suc s ∷ os) a l
    by_place b m false t e w = ill-laid e
    by_place b m true t e w = laying-eq e (more-some n s b os m (ltb-true s b t) w)

    by-rest : (d : Laid) → lengths n os ≡ d → starting s d ≡ laid a l → ((b : ℕ) (m : List (Option ℕ)) → lengths n os ≡ laid b m → Laying n os b m) → Laying n (suc s ∷ os) a l
    by-rest ill q e ih = ill-laid e
    by-rest (laid b m) q e ih = by_place b m (ltb s b) refl e (ih b m q)

-- ---- the front of a block

by_zero : {P : Type 0} {y : Layout} (t : ℕ) (l : Laid) → from_zero t l ≡ some y → ((m : List (Option ℕ)) → l ≡ laid 0 m → layout t m ≡ y → P) → P
by_zero t ill e f = none-some e
by_zero {P} {y} t (laid a m) e f = by-if (eqb a 0) (some (layout t m)) e (λ z q.
    let a' : a ≡ 0 = eqb-true a 0 z in f m (ap (λ (a : ℕ). laid a m) a') (some_is q))

-- the layout that was read from a front, written again
same-front : (s : ℕ) (r : Front) (m : List (Option ℕ)) → s ≡ r.1.1.0 → block_size s r.1.0 0 ≤ r.0
    → Laying (r.0 - block_size s r.1.0 0) r.1.1.1 0 m → front_of s (layout r.1.0 m) ≡ r
same-front s r m e h w =
    let size : block_size s r.1.0 (data_size m) ≡ r.0 = omega (arith, w.sum) in
    rw (size, w.same, e) refl

layout-undo : (s : ℕ) (r : Front) (l : Layout) → layout_from s r ≡ some l → front_of s l ≡ r
layout-undo s r l e =
    by-if (eqb s r.1.1.0) _ e (λ t1 e1.
    by-if (leb (block_size s r.1.0 0) r.0) _ e1 (λ t2 e2.
    by_zero r.1.0 (lengths (r.0 - block_size s r.1.0 0) r.1.1.1) e2 (λ m q w.
    rw (← w) (same-front s r m (eqb-true s r.1.1.0 t1) (leb-true (block_size s r.1.0 0) r.0 t2) (lengths-is _ r.1.1.1 0 m q)))))

pub layout-laws : (s : ℕ) → Laws (layout_form s)
unfolding layout_form
layout-laws s = via-laws _ (layout_from s) (front_of s)
    (pair-laws (uint 4) _ (uint_laws 4) (pair-laws (uint 4) _ (uint_laws 4) (pair-laws (uint 4) (repeat s (uint 4)) (uint_laws 4) (repeat-laws s (uint 4) (uint_laws 4)))))
    (λ r l o e. layout-undo s r l e)

-- ---- of a block's parts

pub offsets-parts : (a : ℕ) (ps : List (Option (Part (List ℕ)))) → offsets_from a ps ≡ offsets a (lengths_in ps)
unfolding offsets_from offsets lengths_in
offsets-parts a [] = refl
offsets-parts a (none ∷ ps) = ap (λ (l : List ℕ). 0 ∷ l) (offsets-parts a ps)
offsets-parts a (some p ∷ ps) = ap (λ (l : List ℕ). suc a ∷ l) (offsets-parts (a + suc (length p.stream)) ps)

pub size-parts : (ps : List (Option (Part (List ℕ)))) → length (data_of ps) ≡ data_size (lengths_in ps)
unfolding data_of data_size lengths_in
size-parts [] = refl
size-parts (none ∷ ps) = size-parts ps
size-parts (some p ∷ ps) = omega (arith, length-append (part_bytes (some p)) (data_of ps), size-parts ps)

pub count-parts : (ps : List (Option (Part (List ℕ)))) → length (lengths_in ps) ≡ length ps
unfolding lengths_in
count-parts [] = refl
count-parts (p ∷ ps) = ap suc (count-parts ps)

pub count-offsets : (a : ℕ) (l : List (Option ℕ)) → length (offsets a l) ≡ length l
unfolding offsets
count-offsets a [] = refl
count-offsets a (none ∷ l) = ap suc (count-offsets a l)
count-offsets a (some n ∷ l) = ap suc (count-offsets (a + suc n) l)
