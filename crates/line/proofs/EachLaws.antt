-- What is read of each word of a line from one on, word by word.
-- Assumes nothing.
use Prim.Native.Nat.{ℕ, suc, ◌+◌, ◌<◌, ◌≤◌}
use mathlib.Core.Path.{◌≡◌, refl, sym, ap, ◌∙◌}
use mathlib.Core.Bool.{Bool, true, false}
use mathlib.Core.List.{List, [], ◌∷◌}
use Rattle.std.specs.Prelude.{Option, Some, None, is_some, unwrap_or}
use native.Mathlib.Omega.{arith}
use borrow.Author.Tests.{le-leb, lt-leb, leb-true}
use lib.Dec.{leb}
use lib.ListN.{length, drop, drop_of_length-le}
use Rattle.lists.specs.Choice.{pick}
use Rattle.digits.specs.Numbers.{bind}
use Rattle.line.proofs.MaybeLaws.{Some-there, None-there}
use Rattle.line.specs.Words.{word, words_of, each_of, each_in}
use Rattle.line.proofs.WordLaws.{word_at}

module _ {A : Type 0} (f : List ℕ → Option A) (k : ℕ) (l : List ℕ) where
  -- ---- from the word k on

  pub each-end : length (words_of l) ≤ k → each_of f (drop k (words_of l)) ≡ Some []
  unfolding each_of
  each-end h = rw (drop_of_length-le (words_of l) h) refl

  each_next : k < length (words_of l)
      → each_of f (drop k (words_of l)) ≡ bind (f (word k l)) (λ x. bind (each_of f (drop (suc k) (words_of l))) (λ xs. Some (x ∷ xs)))
  unfolding each_of
  each_next h = ap (each_of f) (word_at k l h)

  pub each-other : k < length (words_of l) → is_some (f (word k l)) ≡ false → is_some (each_of f (drop k (words_of l))) ≡ false
  each-other h e = rw (each_next h) (by (f (word k l)) e)
    where
      by : (o : Option A) → is_some o ≡ false → is_some (bind o (λ x. bind (each_of f (drop (suc k) (words_of l))) (λ xs. Some (x ∷ xs)))) ≡ false
      by None e = refl
      by (Some x) e = cc

  pub each_more : k < length (words_of l) → is_some (f (word k l)) ≡ true
      → is_some (each_of f (drop k (words_of l))) ≡ is_some (each_of f (drop (suc k) (words_of l)))
  each_more h e = rw (each_next h) (by (f (word k l)) (each_of f (drop (suc k) (words_of l))) e)
    where
      by : (o : Option A) (p : Option (List A)) → is_some o ≡ true → is_some (bind o (λ x. bind p (λ xs. Some (x ∷ xs)))) ≡ is_some p
      by None p e = cc
      by (Some x) None e = refl
      by (Some x) (Some xs) e = refl

  -- ---- of the words after the first k

  pub each-many : k + 256 < length (words_of l) → each_in f k l ≡ None
  unfolding each_in
  each-many h = rw (lt-leb (length (words_of l)) (k + 256) h) refl

  pub each-few : length (words_of l) ≤ k + 256 → each_in f k l ≡ each_of f (drop k (words_of l))
  unfolding each_in
  each-few h = rw (le-leb (length (words_of l)) (k + 256) h) refl

  pub each-some : is_some (each_in f k l) ≡ true → (length (words_of l) ≤ k + 256) × (each_of f (drop k (words_of l)) ≡ Some (unwrap_or (each_in f k l) []))
  unfolding each_in
  each-some e = by (leb (length (words_of l)) (k + 256)) refl e
    where
      by : (t : Bool) → leb (length (words_of l)) (k + 256) ≡ t → is_some (pick t (each_of f (drop k (words_of l))) None) ≡ true
          → (length (words_of l) ≤ k + 256) × (each_of f (drop k (words_of l)) ≡ Some (unwrap_or (pick t (each_of f (drop k (words_of l))) None) []))
      by true q e = (leb-true (length (words_of l)) (k + 256) q, Some-there (each_of f (drop k (words_of l))) e)
      by false q e = let z : ◌≡◌ {A = ℕ} 0 1 = cc in absurd (omega arith)

  pub each_none : is_some (each_in f k l) ≡ false → unwrap_or (each_in f k l) [] ≡ []
  each_none e = ap (λ (o : Option (List A)). unwrap_or o []) (None-there (each_in f k l) e)

-- what is read of the word k, where xs are read from there on
pub record Turn {A : Type 0} (f : List ℕ → Option A) (k : ℕ) (l : List ℕ) (xs : List A) : Type 0 where
  pub first : A
  pub rest : List A
  pub read : f (word k l) ≡ Some first
  pub more : each_of f (drop (suc k) (words_of l)) ≡ Some rest
  pub all : xs ≡ first ∷ rest

pub turn_at : {A : Type 0} (f : List ℕ → Option A) (k : ℕ) (l : List ℕ) (xs : List A) → k < length (words_of l)
    → each_of f (drop k (words_of l)) ≡ Some xs → Turn f k l xs
turn_at {A} f k l xs h e = by (f (word k l)) refl (each_of f (drop (suc k) (words_of l))) refl (sym (each_next f k l h) ∙ e)
  where
    by : (o : Option A) → f (word k l) ≡ o → (p : Option (List A)) → each_of f (drop (suc k) (words_of l)) ≡ p
        → bind o (λ x. bind p (λ r. Some (x ∷ r))) ≡ Some xs → Turn f k l xs
    by None a p b t = let z : ◌≡◌ {A = ℕ} 0 1 = cc in absurd (omega arith)
    by (Some x) a None b t = let z : ◌≡◌ {A = ℕ} 0 1 = cc in absurd (omega arith)
    by (Some x) a (Some r) b t = record { first = x; rest = r; read = a; more = b; all = cc }
