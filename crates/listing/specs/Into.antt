-- Document 01, 'Bench sheet': a listing goes into a lent buffer, and its length is answered.
-- Assumes nothing.
use Rattle.std.specs.Prelude.{ℕ, List, length, leb, Option, Some, None}
use Rattle.std.proofs.lemmas.List.Edits.{sets}
use Rattle.lists.specs.Choice.{pick}

pub data ListingReply : Type 0 where
  written : (length : ℕ) → ListingReply
  too_short : ListingReply

-- the answer, and the lent buffer afterwards
pub record ListingAfter : Type 0 where
  pub reply : ListingReply
  pub out : List ℕ

abbrev pub listing_after : ListingReply → List ℕ → ListingAfter
listing_after r o = record { reply = r; out = o }

-- the text stands at the start of the buffer, and its length is answered; nothing is written into a buffer that is too short
abbrev pub into : (text out : List ℕ) → ListingAfter
into text out = pick (leb (length text) (length out)) (listing_after (written (length text)) (sets out 0 text)) (listing_after too_short out)

-- the answer of the code
abbrev pub listed_reply : Option ℕ → ListingReply
listed_reply (Some n) = written n
listed_reply None = too_short
