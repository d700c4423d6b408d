-- The whole listing, and into a lent buffer.
-- Assumes nothing.
use Prim.Native.Nat.{ℕ, ◌≤◌, ◌<◌}
use mathlib.Core.Path.{◌≡◌, refl}
use mathlib.Core.List.{List}
use mathlib.Core.Option.{none}
use native.Mathlib.Omega.{arith}
use borrow.Author.Tests.{lt-leb, le-leb}
use lib.Dec.{leb}
use lib.ListN.{length}
use lib.Seq.{sets}
use Rattle.lists.specs.Bytes.{Bytes}
use Rattle.lists.proofs.ChoiceLaws.{pick_same}
use Rattle.ascii.specs.Ascii.{ascii}
use Rattle.ascii.specs.Put.{Room, Puts}
use Rattle.ascii.proofs.PutLaws.{TextRead, text-read}
use Rattle.codec.specs.Parse.{parse}
use Rattle.walk.specs.Walk.{image_in}
use Rattle.walk.proofs.OpenLaws.{parse-opened}
use Rattle.listing_text.specs.Listing.{image_text, text_of, input_limit, listing_of, listing_limit}
use Rattle.listing_text.specs.Written.{Taken}
use Rattle.listing_text.proofs.BoundLaws.{listing-fits}
use Rattle.listing.specs.Into.{listing_after, written, too_short, into}

-- ---- the whole

-- a longer input is refused, and bytes that are no image
pub long-refused : (b : List ℕ) → input_limit < length b → listing_of b ≡ ascii "refused 11\n"
unfolding listing_of
long-refused b h = rw (lt-leb (length b) input_limit h) refl

pub other-refused : (b : List ℕ) → parse b ≡ none → listing_of b ≡ ascii "refused 11\n"
unfolding listing_of
other-refused b e = rw e (pick_same (leb (length b) input_limit) (text_of none))

pub listing-opened : (b : List ℕ) → Taken b → image_text (image_in b) ≡ listing_of b
unfolding listing_of
listing-opened b o = rw (le-leb (length b) input_limit o.1, parse-opened b o.0) refl

pub listing-room : (b : List ℕ) (out : List ℕ) → Bytes b → listing_limit ≤ length out → Room (listing_of b) 0 out
listing-room b out y h = record { inside = omega (arith, listing-fits b y) }

-- ---- into a buffer

pub into-short : (t out : List ℕ) → length out < length t → listing_after too_short out ≡ into t out
into-short t out h = rw (lt-leb (length t) (length out) h) refl

pub into-long : (t out after : List ℕ) (n : ℕ) → n ≡ length t → n ≤ length out → after ≡ sets out 0 t → listing_after (written n) after ≡ into t out
into-long t out after n e h a = rw (le-leb (length t) (length out) (omega arith), e, a) refl

-- ---- the text as it was made, of n bytes

pub listing-read : (b text : List ℕ) (n : ℕ) (made : List ℕ) → Bytes b → listing_limit ≤ length text → Puts (listing_of b) 0 text n made → TextRead (listing_of b) n made
listing-read b text n made y h x = text-read (listing_of b) text n made (omega (arith, listing-fits b y)) x
