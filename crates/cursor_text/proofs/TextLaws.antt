-- The whole text: refused, or of an accepted image; and as it was written.
-- Assumes nothing.
use Prim.Native.Nat.{ℕ, ◌≤◌, ◌<◌}
use mathlib.Core.Path.{◌≡◌, refl}
use mathlib.Core.List.{List}
use mathlib.Core.Option.{none}
use native.Mathlib.Omega.{arith}
use borrow.Author.Tests.{lt-leb, le-leb}
use lib.Dec.{leb}
use lib.ListN.{length}
use Rattle.lists.specs.Bytes.{Bytes}
use Rattle.lists.proofs.ChoiceLaws.{pick_same}
use Rattle.ascii.specs.Ascii.{ascii}
use Rattle.ascii.specs.Put.{Room, Puts}
use Rattle.ascii.proofs.PutLaws.{TextRead, text-read}
use Rattle.codec.specs.Parse.{parse}
use Rattle.walk.specs.Walk.{image_in}
use Rattle.walk.proofs.OpenLaws.{parse-opened}
use Rattle.listing_text.specs.Listing.{input_limit}
use Rattle.listing_text.specs.Written.{Taken}
use Rattle.cursor_text.specs.At.{at_lines, at_text, at_of, at_limit}
use Rattle.cursor_text.proofs.BoundLaws.{at-fits}

-- a longer input is refused, and bytes that are no image
pub long-refused : (b : List ℕ) (t : ℕ) → input_limit < length b → at_of b t ≡ ascii "refused 11\n"
unfolding at_of
long-refused b t h = rw (lt-leb (length b) input_limit h) refl

pub other-refused : (b : List ℕ) (t : ℕ) → parse b ≡ none → at_of b t ≡ ascii "refused 11\n"
unfolding at_of
other-refused b t e = rw e (pick_same (leb (length b) input_limit) (at_text none t))

pub at-opened : (b : List ℕ) (t : ℕ) → Taken b → at_lines (image_in b) t 0 (image_in b).kinds ≡ at_of b t
unfolding at_of
at-opened b t o = rw (le-leb (length b) input_limit o.1, parse-opened b o.0) refl

pub at_room : (b : List ℕ) (t : ℕ) (out : List ℕ) → Bytes b → at_limit ≤ length out → Room (at_of b t) 0 out
at_room b t out y h = record { inside = omega (arith, at-fits b t y) }

-- of n bytes, as it was written into a buffer
pub at_read : (b : List ℕ) (t : ℕ) (out : List ℕ) (n : ℕ) (made : List ℕ) → Bytes b → at_limit ≤ length out → Puts (at_of b t) 0 out n made → TextRead (at_of b t) n made
at_read b t out n made y h x = text-read (at_of b t) out n made (omega (arith, at-fits b t y)) x
