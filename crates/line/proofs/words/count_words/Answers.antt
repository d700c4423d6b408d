use Rattle.std.proofs.Common.{arith}
use Rattle.std.proofs.lemmas.List.Sums.{count_by-le-length}
use Rattle.line.proofs.WordLaws.{Space, words-count}
use Rattle.line.proofs.words.count_words.Goals as goal

pub overflow_add-result : goal.overflow_add-result
overflow_add-result c = let h = count_by-le-length Space c.args.s.now in omega arith

pub returns : goal.returns
returns c = let h = words-count c.args.s.now in omega arith
