-- The join of two files: one law for each return.
-- Assumes nothing.
use Prim.Native.Nat.{ℕ, ◌≤◌, ◌<◌}
use mathlib.Core.Path.{◌≡◌, refl}
use mathlib.Core.List.{List}
use borrow.Author.Tests.{lt-ltb, le-ltb}
use lib.ListN.{length}
use Rattle.joined.specs.Join.{refuse, join_after, join_of}
use Rattle.wavejoin.specs.Files.{file_limit, files_of}

pub first-long : (a b out : List ℕ) → file_limit < length a → join_after (refuse 11) out ≡ files_of a b out
unfolding files_of
first-long a b out h = rw (lt-ltb file_limit (length a) h) refl

pub second-long : (a b out : List ℕ) → length a ≤ file_limit → file_limit < length b → join_after (refuse 11) out ≡ files_of a b out
unfolding files_of
second-long a b out h k = rw (le-ltb file_limit (length a) h, lt-ltb file_limit (length b) k) refl

pub neither-long : (a b out : List ℕ) → length a ≤ file_limit → length b ≤ file_limit → join_of a b out ≡ files_of a b out
unfolding files_of
neither-long a b out h k = rw (le-ltb file_limit (length a) h, le-ltb file_limit (length b) k) refl
