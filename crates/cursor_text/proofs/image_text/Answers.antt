-- The array is as long as the widest vector.
-- Assumes nothing.
use borrow.Author.Rules.{rules}
use Rattle.cursor_text.proofs.image_text.Goals as goal

pub put_signals-requires : goal.put_signals-requires
put_signals-requires c = let s = c in (s.requires.0, search rules, s.requires.1)
