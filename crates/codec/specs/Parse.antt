-- Document 01, 'Block and image' ("An image is its total bytes and none after. Opener: accepts exactly what the third demand says"), with the
-- opener's rule of document 02, 'Joining two recordings': what bytes mean as an image.
-- Laws (proofs/Trip): a valid image is read back from its bytes, and bytes that are read are those of a valid image.
-- Assumes nothing.
use Rattle.std.specs.Prelude.{ℕ, List}
use Rattle.std.proofs.Math.Option.{Option}
use Rattle.image.specs.Image.{Image}
use Rattle.form.specs.Form.{Whole, closed, such}
use Rattle.codec.specs.ImageForm.{image_form}
use Rattle.codec.specs.Valid.{Valid, valid?}

-- all of the bytes, and valid
abbrev pub valid_image : Whole Image
valid_image = such (closed image_form) Valid valid?

-- nothing, or the one valid image whose bytes they are
unfoldable pub parse : List ℕ → Option Image
parse b = valid_image.read b
