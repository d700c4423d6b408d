-- The words of a line, which are parted by exactly one space: two spaces in a row part an empty word.
-- Assumes nothing.
use Rattle.std.specs.Prelude.{ℕ, zero, suc, ◌+◌, List, [], ◌∷◌, eqb, leb, length, drop, Option, Some, None}
use Rattle.lists.specs.Choice.{pick}
use Rattle.digits.specs.Numbers.{bind}

-- the first word: what stands before the first space
unfoldable pub word_of : List ℕ → List ℕ
word_of [] = []
word_of (b ∷ l) = pick (eqb b 32) [] (b ∷ word_of l)

-- what stands after the first space; nothing where there is none
unfoldable pub past_word : List ℕ → List ℕ
past_word [] = []
past_word (b ∷ l) = pick (eqb b 32) l (past_word l)

-- what stands after the first k words and the space behind each
unfoldable pub after : (k : ℕ) → List ℕ → List ℕ
after zero l = l
after (suc k) l = after k (past_word l)

-- word k, counted from 0; an empty one where there are fewer
abbrev pub word : (k : ℕ) → List ℕ → List ℕ
word k l = word_of (after k l)

-- a byte in front of the first word
abbrev pub in_front : ℕ → List (List ℕ) → List (List ℕ)
in_front b [] = (b ∷ []) ∷ []
in_front b (w ∷ ws) = (b ∷ w) ∷ ws

-- all words
unfoldable pub words_of : List ℕ → List (List ℕ)
words_of [] = [] ∷ []
words_of (b ∷ l) = pick (eqb b 32) ([] ∷ words_of l) (in_front b (words_of l))

-- what f reads of each word, where it reads all
unfoldable pub each_of : {A : Type 0} → (List ℕ → Option A) → List (List ℕ) → Option (List A)
each_of f [] = Some []
each_of f (w ∷ ws) = bind (f w) (λ x. bind (each_of f ws) (λ xs. Some (x ∷ xs)))

-- so of the words after the first k; they are at most 256
unfoldable pub each_in : {A : Type 0} → (List ℕ → Option A) → (k : ℕ) → List ℕ → Option (List A)
each_in f k l = pick (leb (length (words_of l)) (k + 256)) (each_of f (drop k (words_of l))) None
