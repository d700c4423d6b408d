-- Bytes and images are one to one: a valid image is read back from its bytes, and bytes that are read as an image are that valid image's
-- bytes.
-- Assumes nothing.
use Prim.Native.Nat.{ℕ}
use mathlib.Core.Path.{◌≡◌, sym, ap, ◌∙◌}
use mathlib.Core.List.{List}
use mathlib.Core.Option.{some, none}
use Rattle.lists.specs.Bytes.{Bytes}
use Rattle.image.specs.Image.{Image, image_bytes}
use Rattle.form.specs.Form.{closed}
use Rattle.form.proofs.WholeLaws.{WholeLaws, closed-laws, such-laws, none-some, some_is}
use Rattle.codec.specs.ImageForm.{image_form}
use Rattle.codec.specs.Valid.{Valid, valid?}
use Rattle.codec.specs.Parse.{valid_image, parse}
use Rattle.codec.proofs.WrittenOut.{image-written}
use Rattle.codec.proofs.ImageLaws.{image-laws}
use Rattle.codec.proofs.ImageFits.{image-fits}

pub laws : WholeLaws valid_image
laws = such-laws (closed image_form) Valid valid? (closed-laws image_form image-laws)

pub parse-of : (x : Image) → Valid x → parse (image_bytes x) ≡ some x
unfolding parse
parse-of x v = ap valid_image.read (sym (image-written x)) ∙ laws.there x (image-fits x v, v)

pub record Means (b : List ℕ) (x : Image) : Type 0 where
  pub valid : Valid x
  pub bytes : image_bytes x ≡ b

pub parse-is : (b : List ℕ) (x : Image) → Bytes b → parse b ≡ some x → Means b x
unfolding parse
parse-is b x y e = let w = laws.back b x y e in record { valid = w.fit.1; bytes = sym (w.all ∙ image-written x) }

-- bytes that are no image's: no valid image has them
pub parse-none : (b : List ℕ) (x : Image) → parse b ≡ none → Means b x → ⊥
parse-none b x e m = none-some (sym e ∙ ap parse (sym m.bytes) ∙ parse-of x m.valid)

-- two valid images with the same bytes are the same
pub bytes-once : (x y : Image) → Valid x → Valid y → image_bytes x ≡ image_bytes y → x ≡ y
bytes-once x y v w e = some_is (sym (parse-of x v) ∙ ap parse e ∙ parse-of y w)
