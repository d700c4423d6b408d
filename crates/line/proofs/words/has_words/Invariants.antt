-- The invariant: the words from k on are all such where all from the first on are; rest begins with the word k.
-- Assumes nothing.
use Rattle.std.proofs.Common.{◌≡◌, drop, is_some}
use Rattle.line.specs.Words.{words_of, each_of, each_in, after}
use Rattle.line.proofs.words.has_words.Given as goal

abbrev pub invariant-loop-k : goal.invariant-loop-k
invariant-loop-k g l =
    (is_some (each_of g.T.FromWord.of_word (drop l.k (words_of l.line))) ≡ is_some (each_in g.T.FromWord.of_word l.first l.line))
    × (l.rest ≡ after l.k l.line)
