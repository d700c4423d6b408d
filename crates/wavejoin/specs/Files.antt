-- What the program answers to the bytes of two files.
-- Assumes nothing.
use Rattle.std.specs.Prelude.{ℕ, ◌||◌, List, length, ltb}
use Rattle.lists.specs.Choice.{pick}
use Rattle.joined.specs.Join.{JoinAfter, refuse, join_after, join_of}

abbrev pub file_limit : ℕ
file_limit = 1048576

-- their join; a file that is longer than the limit counts as one that is no image
unfoldable pub files_of : (first second out : List ℕ) → JoinAfter
files_of a b out = pick (ltb file_limit (length a) || ltb file_limit (length b)) (join_after (refuse 11) out) (join_of a b out)
