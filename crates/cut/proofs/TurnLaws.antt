-- The loop of a cut over the signals' records: its turns one by one, and all of them together, in the part of the image that follows the
-- used bytes.
-- Assumes nothing.
use Prim.Native.Nat.{ℕ, zero, suc, ◌+◌, ◌-◌, ◌*◌, ◌≤◌, ◌<◌}
use mathlib.Core.Path.{◌≡◌, refl, sym, ap, ◌∙◌}
use mathlib.Core.List.{List, [], ◌∷◌, ◌++◌, map, append-nil}
use native.Mathlib.Numerals.{add-one}
use native.Mathlib.Omega.{arith}
use borrow.Rule.Slice.PartMut.{put_mid, mid_of, Post-is}
use lib.ListN.{length, take, drop, get_or, set, length-append, length-drop, take-append-drop, drop_of_length-le}
use lib.Seq.{length-take-le, take_all, take-append_seam, drop-append_seam}
use Rattle.value.specs.Class.{class_number}
use Rattle.value.specs.declared.states.States.TheVariants.{Two}
use Rattle.signal.specs.declared.kind.SignalEncoding.TheVariants.{Absent}
use Rattle.recording.specs.declared.SignalRecord.{SignalRecord}
use Rattle.recording.specs.Memory.{record_of}
use Rattle.block.specs.Given.{tops_of}
use Rattle.block.specs.Passes.{begun, next_part, begin, Begins}
use Rattle.block.proofs.PassLaws.{begin-none, begins-here, begin-turn, begins-turn, length-begun}
use Rattle.cut.specs.Cut.{in_tail}
use Rattle.cut.specs.Turns.{first_by, Place, placed, turned, cut_turns, TurnsFit}

-- ---- the part of the image that follows the used bytes

-- what a callee made of that part, lent to it
pub tail-back : (u : ℕ) (i x : List ℕ) → u ≤ length i → put_mid u (length i - u) i x ≡ take u i ++ x
tail-back u i x h =
    ap (λ (y : List ℕ). take u i ++ (x ++ y)) (Post-is u (length i) i h ∙ drop_of_length-le i {i = length i} (omega arith))
    ∙ ap (λ (y : List ℕ). take u i ++ y) (append-nil x)

pub tail-lent : (u : ℕ) (i : List ℕ) → u ≤ length i → mid_of u (length i - u) i ≡ drop u i
tail-lent u i h = take_all (length i - u) (drop u i) (rw length-drop (omega arith))

module _ (u : ℕ) (i x : List ℕ) (h : u ≤ length i) where
  pub front_same : take u (take u i ++ x) ≡ take u i
  front_same = rw (length-take-le u i h) at (take-append_seam (take u i) x)

  pub tail-same : drop u (take u i ++ x) ≡ x
  tail-same = rw (length-take-le u i h) at (drop-append_seam (take u i) x)

  pub length-parts : length x ≡ length (drop u i) → length (take u i ++ x) ≡ length i
  length-parts e = length-append (take u i) x ∙ rw (length-take-le u i h, e, length-drop) (omega arith)

-- ---- records changed one after the other

module _ (f : SignalRecord → SignalRecord) where
  pub first-none : (rs : List SignalRecord) → first_by f 0 rs ≡ rs
  unfolding first_by
  first-none rs = refl

  pub first-all : (rs : List SignalRecord) → first_by f (length rs) rs ≡ map f rs
  unfolding first_by
  first-all [] = refl
  first-all (r ∷ rs) = ap (λ (l : List SignalRecord). f r ∷ l) (first-all rs)

  pub first-length : (n : ℕ) (rs : List SignalRecord) → length (first_by f n rs) ≡ length rs
  unfolding first_by
  first-length zero rs = refl
  first-length (suc n) [] = refl
  first-length (suc n) (r ∷ rs) = ap suc (first-length n rs)

  -- a record not yet visited
  pub first-get : (n i : ℕ) (rs : List SignalRecord) (e : SignalRecord) → n ≤ i → get_or (first_by f n rs) i e ≡ get_or rs i e
  unfolding first_by
  first-get zero i rs e h = refl
  first-get (suc n) i [] e h = refl
  first-get (suc n) zero (r ∷ rs) e h = absurd (omega arith)
  first-get (suc n) (suc i) (r ∷ rs) e h = first-get n i rs e (omega arith)

  next-first : (i : ℕ) (rs : List SignalRecord) (e : SignalRecord) → i < length rs → set (first_by f i rs) i (f (get_or rs i e)) ≡ first_by f (suc i) rs
  unfolding first_by
  next-first i [] e h = absurd (omega arith)
  next-first zero (r ∷ rs) e h = refl
  next-first (suc i) (r ∷ rs) e h = ap (λ (l : List SignalRecord). f r ∷ l) (next-first i rs e (omega arith))

  pub first_next : (i : ℕ) (rs : List SignalRecord) (e : SignalRecord) → i < length rs → set (first_by f i rs) i (f (get_or rs i e)) ≡ first_by f (i + 1) rs
  first_next i rs e h = rw (add-one i) (next-first i rs e h)

-- ---- turns

pub turns-none : (u d : ℕ) (rs : List SignalRecord) (i : List ℕ) → cut_turns u d 0 rs i ≡ placed 0 i
unfolding cut_turns
turns-none u d rs i = refl

pub turns_next : (u d n : ℕ) (rs : List SignalRecord) (i : List ℕ)
    → cut_turns u d (n + 1) rs i ≡ turned u d n (get_or rs n (record_of Absent 0 Two 0)) (cut_turns u d n rs i)
unfolding cut_turns
turns_next u d n rs i = rw (add-one n) refl

module _ (u d : ℕ) (rs : List SignalRecord) (i : List ℕ) (h : u ≤ length i) where
  abbrev at : ℕ → Place
  at n = cut_turns u d n rs i

  abbrev top : ℕ → ℕ
  top n = class_number (get_or rs n (record_of Absent 0 Two 0)).top

  abbrev tail : ℕ → List ℕ
  tail n = drop u (at n).image

  -- the front stays, and the length
  record Kept (n : ℕ) : Type 0 where
    pub front : take u (at n).image ≡ take u i
    pub long : length (at n).image ≡ length i

  kept : (n : ℕ) → Kept n
  unfolding cut_turns
  kept zero = record { front = refl; long = refl }
  kept (suc n) =
      let k = kept n in
      let l : u ≤ length (at n).image = rw k.long h in
      let b : List ℕ = begun d (at n).place n (top n) (tail n) in
      record {
        front = front_same u (at n).image b l ∙ k.front;
        long = length-parts u (at n).image b l (length-begun d (at n).place n (top n) (tail n)) ∙ k.long;
      }

  pub turns-length : (n : ℕ) → length (at n).image ≡ length i
  turns-length n = (kept n).long

  next-tail : (n : ℕ) → tail (suc n) ≡ begun d (at n).place n (top n) (tail n)
  unfolding cut_turns
  next-tail n = tail-same u (at n).image (begun d (at n).place n (top n) (tail n)) (rw (kept n).long h)

  next_place : (n : ℕ) → (at (suc n)).place ≡ next_part (at n).place n (tail n)
  unfolding cut_turns
  next_place n = refl

  start-tail : (tail 0 ≡ drop u i) × ((at 0).place ≡ 0)
  unfolding cut_turns
  start-tail = (refl, refl)

  -- what is left to begin gives what all of it gives
  left : (n : ℕ) → n ≤ length rs → begin d (at n).place n (tops_of (drop n rs)) (tail n) ≡ begin d 0 0 (tops_of rs) (drop u i)
  left zero l = rw (start-tail.0, start-tail.1) refl
  left (suc n) l =
      rw (next-tail n, next_place n) (begin-turn d (at n).place n rs (tail n) (omega arith)) ∙ left n (omega arith)

  pub turns-all : (cut_turns u d (length rs) rs i).image ≡ in_tail u (begin d 0 0 (tops_of rs)) i
  turns-all =
      let n = length rs in
      let e : tail n ≡ begin d 0 0 (tops_of rs) (drop u i) =
      sym (begin-none d (at n).place n (tail n)) ∙ rw (drop_of_length-le rs {i = length rs} (omega arith)) at (left n (omega arith)) in
      sym (take-append-drop u (at n).image) ∙ rw ((kept n).front, e) refl

  begins : Begins d 0 0 (tops_of rs) (drop u i) → (n : ℕ) → n ≤ length rs → Begins d (at n).place n (tops_of (drop n rs)) (tail n)
  begins b zero l = rw (start-tail.0, start-tail.1) b
  begins b (suc n) l = rw (next-tail n, next_place n) (begins-turn d (at n).place n rs (tail n) (omega arith) (begins b n (omega arith)))

  pub turns_fit : 12 + 4 * length rs ≤ d → Begins d 0 0 (tops_of rs) (drop u i) → TurnsFit u d (length rs) rs i
  turns_fit l b =
      record {
        few = omega arith;
        each = λ n k.
            let f = begins-here d (at n).place n rs (tail n) k (begins b n (omega arith)) in
            record { lent = rw (kept n).long h; slot = omega arith; room = f.0; small = f.1 };
      }
