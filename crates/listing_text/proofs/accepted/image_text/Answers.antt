-- The arrays are as long as no image exceeds.
use borrow.Author.Rules.{rules}
use Rattle.listing_text.proofs.accepted.image_text.Goals as goal

pub put_image-requires : goal.put_image-requires
put_image-requires c = let s = c in (s.requires.0, search rules, (search rules, search rules, search rules), s.requires.1)
