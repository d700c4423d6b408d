-- The words of a line, byte by byte and word by word.
-- Assumes nothing.
use Prim.Native.Nat.{ℕ, zero, suc, ◌-◌, ◌<◌}
use mathlib.Core.Path.{◌≡◌, refl, sym, ap, ◌∙◌}
use mathlib.Core.Bool.{Bool, true, false}
use mathlib.Core.List.{List, [], ◌∷◌}
use native.Mathlib.Omega.{arith}
use native.Mathlib.Numerals.{sub-one}
use lib.Dec.{eqb}
use lib.ListN.{length, take, drop, drop_of_length-le}
use lib.Dec.{ltb}
use borrow.Author.Tests.{ltb-true, ltb-false}
use Rattle.std.specs.Prelude.{◌+◌, Some, None, cond, not, ◌&&◌, ◌==◌, position, bytes_eq, count_by}
use Rattle.std.specs.List.{position_or_len}
use Rattle.std.proofs.lemmas.List.Sums.{sum_by-cons}
use lib.Seq.{take_all}
use Rattle.lists.specs.Choice.{pick}
use Rattle.lists.specs.Same.{same}
use Rattle.line.specs.Words.{word_of, past_word, after, word, in_front, words_of}

-- ---- the first word and what follows it, by the first space

abbrev pub Space : ℕ → Bool
Space = λ b. b == 32

space-place : (s : List ℕ) → (take (position_or_len Space s) s ≡ word_of s) × (drop (suc (position_or_len Space s)) s ≡ past_word s)
unfolding word_of past_word
space-place [] = (refl, refl)
space-place (b ∷ l) = by (eqb b 32) (space-place l)
  where
    by : (t : Bool) → (take (position_or_len Space l) l ≡ word_of l) × (drop (suc (position_or_len Space l)) l ≡ past_word l)
        → (take (cond (not t) (1 + position_or_len Space l) 0) (b ∷ l) ≡ pick t [] (b ∷ word_of l))
        × (drop (suc (cond (not t) (1 + position_or_len Space l) 0)) (b ∷ l) ≡ pick t l (past_word l))
    by true h = (refl, refl)
    by false h =
        let e : 1 + position_or_len Space l ≡ suc (position_or_len Space l) = omega arith in
        (rw e (ap (λ (w : List ℕ). b ∷ w) h.0), rw e h.1)

pub space-there : (s : List ℕ) (k : ℕ) → position Space s ≡ Some k → (take k s ≡ word_of s) × (drop (suc k) s ≡ past_word s) × (k < length s)
space-there s k e = by (ltb (position_or_len Space s) (length s)) refl e
  where
    by : (t : Bool) → ltb (position_or_len Space s) (length s) ≡ t → cond t (Some (position_or_len Space s)) None ≡ Some k
        → (take k s ≡ word_of s) × (drop (suc k) s ≡ past_word s) × (k < length s)
    by true h e =
        let q : position_or_len Space s ≡ k = cc in
        let p = space-place s in
        (rw q at p.0, rw q at p.1, rw q at (ltb-true (position_or_len Space s) (length s) h))
    by false h e = let z : ◌≡◌ {A = ℕ} 0 1 = cc in absurd (omega arith)

pub space_none : (s : List ℕ) → position Space s ≡ None → (s ≡ word_of s) × ([] ≡ past_word s)
space_none s e = by (ltb (position_or_len Space s) (length s)) refl e
  where
    by : (t : Bool) → ltb (position_or_len Space s) (length s) ≡ t → cond t (Some (position_or_len Space s)) None ≡ None
        → (s ≡ word_of s) × ([] ≡ past_word s)
    by true h e = let z : ◌≡◌ {A = ℕ} 0 1 = cc in absurd (omega arith)
    by false h e =
        let p = space-place s in
        let g = ltb-false (position_or_len Space s) (length s) h in
        (sym (take_all (position_or_len Space s) s g) ∙ p.0, sym (drop_of_length-le s {i = suc (position_or_len Space s)} (omega arith)) ∙ p.1)

-- ---- what follows some words

pub after_none : (k : ℕ) (l : List ℕ) → k ≡ 0 → after k l ≡ l
unfolding after
after_none zero l e = refl
after_none (suc k) l e = absurd (omega arith)

pub after_suc : (k : ℕ) (l : List ℕ) → after (suc k) l ≡ past_word (after k l)
unfolding after
after_suc zero l = refl
after_suc (suc k) l = after_suc k (past_word l)

pub after_more : (k : ℕ) (l : List ℕ) → 0 < k → after k l ≡ after (k - 1) (past_word l)
unfolding after
after_more zero l h = absurd (omega arith)
after_more (suc k) l h = simp sub-one

-- ---- all words

-- the words after the first
unfoldable more_words : List ℕ → List (List ℕ)
more_words [] = []
more_words (b ∷ l) = pick (eqb b 32) (words_of l) (more_words l)

words-cons : (l : List ℕ) → words_of l ≡ word_of l ∷ more_words l
unfolding word_of words_of more_words
words-cons [] = refl
words-cons (b ∷ l) = by (eqb b 32) (words-cons l)
  where
    by : (t : Bool) → words_of l ≡ word_of l ∷ more_words l
        → pick t ([] ∷ words_of l) (in_front b (words_of l)) ≡ pick t [] (b ∷ word_of l) ∷ pick t (words_of l) (more_words l)
    by true e = refl
    by false e = ap (in_front b) e

more-past : (l : List ℕ) → 0 < length (more_words l) → more_words l ≡ words_of (past_word l)
unfolding past_word more_words
more-past [] h = absurd (omega arith)
more-past (b ∷ l) h = by (eqb b 32) (more-past l) h
  where
    by : (t : Bool) → (0 < length (more_words l) → more_words l ≡ words_of (past_word l)) → 0 < length (pick t (words_of l) (more_words l))
        → pick t (words_of l) (more_words l) ≡ words_of (pick t l (past_word l))
    by true f g = refl
    by false f g = f g

pub word_at : (k : ℕ) (l : List ℕ) → k < length (words_of l) → drop k (words_of l) ≡ word k l ∷ drop (suc k) (words_of l)
unfolding after
word_at zero l h = rw (words-cons l) refl
word_at (suc k) l h =
    let e = words-cons l in
    let n : suc k < suc (length (more_words l)) = rw e at h in
    let p = more-past l (omega arith) in
    let m : k < length (more_words l) = omega arith in
    rw (e, p) (word_at k (past_word l) (rw p at m))

pub words-count : (l : List ℕ) → length (words_of l) ≡ count_by Space l + 1
unfolding words_of
words-count [] = refl
words-count (b ∷ l) = rw (sum_by-cons (λ (x : ℕ). cond (Space x) 1 0) b l) (by (eqb b 32) (words-count l))
  where
    by : (t : Bool) → length (words_of l) ≡ count_by Space l + 1
        → length (pick t ([] ∷ words_of l) (in_front b (words_of l))) ≡ cond t 1 0 + count_by Space l + 1
    by true e = omega arith
    by false e = rw (words-cons l) (omega (arith, ap length (words-cons l)))

-- ---- a word that is compared

pub same_as : (a b : List ℕ) → bytes_eq a b ≡ same a b
unfolding same
same_as [] [] = refl
same_as [] (y ∷ b) = refl
same_as (x ∷ a) [] = refl
same_as (x ∷ a) (y ∷ b) = ap (λ (t : Bool). eqb x y && t) (same_as a b)
