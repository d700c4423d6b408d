-- What one more turn of each pass does: the clauses of specs/Passes as equations that fit the code's loops; and what clearing, counting and
-- beginning a part leave keeps its length.
-- Assumes nothing.
use Prim.Native.Nat.{ℕ, zero, suc, ◌+◌, ◌-◌, ◌*◌, ◌≤◌, ◌<◌}
use mathlib.Core.Path.{◌≡◌, refl, sym, ◌∙◌}
use mathlib.Core.Bool.{Bool, true, false}
use mathlib.Core.List.{List, [], ◌∷◌}
use mathlib.Core.Option.{some}
use native.Mathlib.Numerals.{add-one}
use native.Mathlib.Omega.{arith}
use lib.ListN.{length, take, drop, get_or, set, length-take, length-drop}
use lib.Seq.{sets, length-sets, drop-cons}
use lib.Dec.{eqb}
use borrow.Author.Tests.{eq-eqb, ne_eqb}
use Rattle.lists.specs.Choice.{pick}
use Rattle.lists.proofs.SetsLaws.{sets-append, part-more}
use Rattle.numbers.specs.LittleEndian.{le, unle}
use Rattle.numbers.proofs.LittleEndianLaws.{length-le}
use Rattle.value.specs.Class.{class_number}
use Rattle.value.specs.declared.states.States.TheVariants.{Two}
use Rattle.signal.specs.declared.kind.SignalEncoding.TheVariants.{Absent}
use Rattle.image.specs.Block.{les}
use Rattle.recording.specs.declared.SignalRecord.{SignalRecord}
use Rattle.recording.specs.Work.{Item, item, items_of}
use Rattle.recording.specs.Memory.{record_of}
use Rattle.work.proofs.WorkLaws.{Turn}
use Rattle.block.specs.Given.{tops_of}
use Rattle.block.specs.Passes.{kept_at, keep, clear, count, begun, next_part, begin, scatter, settled, end_of, settle, Counts, Begins, Scatters, Settles}

pub les-none : les 8 [] ≡ []
unfolding les
les-none = refl

-- a time, and the times after it
pub les-more : (n i at : ℕ) (s t : List ℕ) → i < length s
    → sets (sets t at (le 8 (get_or s i 0))) (at + 8) (les 8 (take n (drop (i + 1) s))) ≡ sets t at (les 8 (take (suc n) (drop i s)))
unfolding les
les-more n i at s t h =
    rw (add-one i, part-more n i s h, sets-append (le 8 (get_or s i 0)) (les 8 (take n (drop (suc i) s))) t at, length-le) refl

-- ---- clear

pub clear_none : (g : ℕ) (t : List ℕ) → clear g 0 t ≡ t
unfolding clear
clear_none g t = refl

pub clear-turn : (g n : ℕ) (t t' : List ℕ) → g < n → t' ≡ keep g 0 t → clear (g + 1) (n - (g + 1)) t' ≡ clear g (n - g) t
unfolding clear
clear-turn g n t t' h e =
    let n1 : n - g ≡ suc (n - (g + 1)) = omega arith in
    rw (n1, e, add-one g) refl

-- ---- count

pub count_none : (t : List ℕ) → count [] t ≡ t
unfolding count
count_none t = refl

-- a record's signal s and the number n of its bytes
pub record CountTurn (is rest : List Item) (s n : ℕ) (t : List ℕ) : Type 0 where
  pub fits : kept_at s t + n < 4294967296
  pub again : Counts rest (keep s (kept_at s t + n) t)
  pub same : count is t ≡ count rest (keep s (kept_at s t + n) t)

pub count_turn : (is rest : List Item) (s n : ℕ) (b t : List ℕ) → is ≡ item s b ∷ rest → length b ≡ n → Counts is t → CountTurn is rest s n t
unfolding count Counts
count_turn is rest s n b t e l h = let c = rw e at h in rw (e, ← l) (record { fits = c.0; again = c.1; same = refl })

-- the record at place p of the work, whose signal s and number m of bytes were read there
module _ (k n p s m : ℕ) (w : List ℕ) (is : List Item) (u : Turn k n p w is) (f : s ≡ unle (take 4 (drop p w))) (l : m ≡ unle (take 4 (drop (p + 4) w))) where
  pub record-inside : p + 8 + m ≤ length w
  record-inside = rw l u.body

  pub record-below : s < n
  record-below = rw f u.below

  pub record-length : length (take m (drop (p + 8) w)) ≡ m
  record-length = let h = record-inside in simp (length-take, length-drop) (omega arith)

  pub record-here : is ≡ item s (take m (drop (p + 8) w)) ∷ u.rest
  record-here = rw (f, l) u.more

  pub record-again : items_of (k - 1) n (drop (p + 8 + m) w) ≡ some u.rest
  record-again = rw l u.again

  pub record-count : (t : List ℕ) → Counts is t → CountTurn is u.rest s m t
  record-count t h = count_turn is u.rest s m (take m (drop (p + 8) w)) t record-here record-length h

-- ---- begin

pub begin-none : (d o g : ℕ) (t : List ℕ) → begin d o g [] t ≡ t
unfolding begin
begin-none d o g t = refl

-- a signal without stream bytes
pub begun-absent : (d o g top n : ℕ) (t : List ℕ) → n ≡ kept_at g t → n ≡ 0 → (o ≡ next_part o g t) × (t ≡ begun d o g top t)
begun-absent d o g top n t e z = let q = eq-eqb (kept_at g t) 0 (sym e ∙ z) in (rw q refl, rw q refl)

-- one with n of them
pub next-part : (o g n : ℕ) (t : List ℕ) → n ≡ kept_at g t → (n ≡ 0 → ⊥) → next_part o g t ≡ o + 1 + n
next-part o g n t e z = let q = ne_eqb (kept_at g t) 0 (λ h. z (e ∙ h)) in rw (q, e) refl

pub begun-part : (d o g top n : ℕ) (t t' : List ℕ) → n ≡ kept_at g t → (n ≡ 0 → ⊥) → t' ≡ keep g (o + 1) (set t (d + o) top)
    → t' ≡ begun d o g top t
begun-part d o g top n t t' e z p = let q = ne_eqb (kept_at g t) 0 (λ h. z (e ∙ h)) in rw (q, p) refl

-- the first of the signals that are left, by their records
pub begins-here : (d o g : ℕ) (rs : List SignalRecord) (t : List ℕ) → g < length rs → Begins d o g (tops_of (drop g rs)) t
    → (d + next_part o g t ≤ length t) × (next_part o g t < 4294967296)
unfolding Begins
begins-here d o g rs t h b =
    let b' = rw (drop-cons rs g (record_of Absent 0 Two 0) h) at b in
    (b'.0, b'.1)

module _ (d o g : ℕ) (rs : List SignalRecord) (t : List ℕ) (h : g < length rs) where
  abbrev top : ℕ
  top = class_number (get_or rs g (record_of Absent 0 Two 0)).top

  pub begin-turn : begin d (next_part o g t) (suc g) (tops_of (drop (suc g) rs)) (begun d o g top t) ≡ begin d o g (tops_of (drop g rs)) t
  unfolding begin
  begin-turn = rw (drop-cons rs g (record_of Absent 0 Two 0) h) refl

  pub begins-turn : Begins d o g (tops_of (drop g rs)) t → Begins d (next_part o g t) (suc g) (tops_of (drop (suc g) rs)) (begun d o g top t)
  unfolding Begins
  begins-turn b =
      let b' = rw (drop-cons rs g (record_of Absent 0 Two 0) h) at b in
      b'.2

-- ---- scatter

pub scatter-none : (d : ℕ) (t : List ℕ) → scatter d [] t ≡ t
unfolding scatter
scatter-none d t = refl

pub record ScatterTurn (d : ℕ) (is rest : List Item) (s n : ℕ) (b t : List ℕ) : Type 0 where
  pub room : d + kept_at s t + n ≤ length t
  pub fits : kept_at s t + n < 4294967296
  pub again : Scatters d rest (keep s (kept_at s t + n) (sets t (d + kept_at s t) b))
  pub same : scatter d is t ≡ scatter d rest (keep s (kept_at s t + n) (sets t (d + kept_at s t) b))

pub scatter-turn : (d : ℕ) (is rest : List Item) (s n : ℕ) (b t : List ℕ) → is ≡ item s b ∷ rest → length b ≡ n → Scatters d is t
    → ScatterTurn d is rest s n b t
unfolding scatter Scatters
scatter-turn d is rest s n b t e l h =
    let c = rw e at h in
    rw (e, ← l) (record { room = c.0; fits = c.1; again = c.2; same = refl })

pub record-scatter : (k n p s m d : ℕ) (w : List ℕ) (is : List Item) (u : Turn k n p w is) → s ≡ unle (take 4 (drop p w))
    → m ≡ unle (take 4 (drop (p + 4) w)) → (t : List ℕ) → Scatters d is t → ScatterTurn d is u.rest s m (take m (drop (p + 8) w)) t
record-scatter k n p s m d w is u f l t h =
    scatter-turn d is u.rest s m (take m (drop (p + 8) w)) t (record-here k n p s m w is u f l) (record-length k n p s m w is u f l) h

-- ---- settle

pub settle-none : (o g : ℕ) (t : List ℕ) → settle o g 0 t ≡ t
unfolding settle
settle-none o g t = refl

-- a signal without a part, and one whose part ends at e
pub settled-absent : (o g e : ℕ) (t : List ℕ) → e ≡ kept_at g t → e ≡ 0 → (o ≡ end_of o g t) × (t ≡ settled o g t)
settled-absent o g e t k z = let q = eq-eqb (kept_at g t) 0 (sym k ∙ z) in (rw q refl, rw q refl)

pub settled-part : (o g e v : ℕ) (t t' : List ℕ) → e ≡ kept_at g t → (e ≡ 0 → ⊥) → v ≡ o + 1 → t' ≡ keep g v t
    → (e ≡ end_of o g t) × (t' ≡ settled o g t)
settled-part o g e v t t' k z p r = let q = ne_eqb (kept_at g t) 0 (λ h. z (k ∙ h)) in (rw (q, k) refl, rw (q, r, p) refl)

pub settles-here : (o g n : ℕ) (t : List ℕ) → g < n → Settles o g (n - g) t → o + 1 < 4294967296
unfolding Settles
settles-here o g n t h s =
    let n1 : n - g ≡ suc (n - (g + 1)) = omega arith in
    let s' = rw n1 at s in
    s'.0

module _ (o g n : ℕ) (t : List ℕ) (o' : ℕ) (t' : List ℕ) (h : g < n) (p : o' ≡ end_of o g t) (e : t' ≡ settled o g t) where
  pub settle-turn : settle o' (g + 1) (n - (g + 1)) t' ≡ settle o g (n - g) t
  unfolding settle
  settle-turn =
      let n1 : n - g ≡ suc (n - (g + 1)) = omega arith in
      rw (n1, p, e, add-one g) refl

  pub settles-turn : Settles o g (n - g) t → Settles o' (g + 1) (n - (g + 1)) t'
  unfolding Settles
  settles-turn s =
      let n1 : n - g ≡ suc (n - (g + 1)) = omega arith in
      let s' = rw n1 at s in
      rw (p, e) (rw (← (add-one g)) at s'.1)

-- ---- lengths

pub length-keep : (g v : ℕ) (t : List ℕ) → length (keep g v t) ≡ length t
length-keep g v t = length-sets t (12 + 4 * g) (le 4 v)

pub length-clear : (g n : ℕ) (t : List ℕ) → length (clear g n t) ≡ length t
unfolding clear
length-clear g zero t = refl
length-clear g (suc n) t = length-clear (suc g) n (keep g 0 t) ∙ length-keep g 0 t

pub length-count : (is : List Item) (t : List ℕ) → length (count is t) ≡ length t
unfolding count
length-count [] t = refl
length-count (r ∷ rs) t = length-count rs _ ∙ length-keep r.signal (kept_at r.signal t + length r.bytes) t

length-pick : (b : Bool) (x y t : List ℕ) → length x ≡ length t → length y ≡ length t → length (pick b x y) ≡ length t
length-pick true x y t p q = p
length-pick false x y t p q = q

pub length-begun : (d o g top : ℕ) (t : List ℕ) → length (begun d o g top t) ≡ length t
length-begun d o g top t =
    length-pick (eqb (kept_at g t) 0) t (keep g (o + 1) (sets t (d + o) (top ∷ []))) t refl
    (length-keep g (o + 1) (sets t (d + o) (top ∷ [])) ∙ length-sets t (d + o) (top ∷ []))
