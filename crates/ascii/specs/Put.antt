-- Text in a buffer from a place on.
-- Laws: proofs/PutLaws.
-- Assumes nothing.
use Rattle.std.specs.Prelude.{ℕ, ◌+◌, ◌≤◌, ◌≡◌, List, length}
use Rattle.std.proofs.lemmas.List.Edits.{sets}

-- a text has room in a buffer from a place on
pub record Room (text : List ℕ) (at : ℕ) (buffer : List ℕ) : Type 0 where
  pub inside : at + length text ≤ length buffer

-- put there, it ends at a place, and leaves the buffer so
pub record Puts (text : List ℕ) (at : ℕ) (buffer : List ℕ) (end : ℕ) (left : List ℕ) : Type 0 where
  pub place : end ≡ at + length text
  pub held : left ≡ sets buffer at text
