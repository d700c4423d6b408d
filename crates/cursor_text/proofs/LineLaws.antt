-- The lines part by part.
-- Assumes nothing.
use Prim.Native.Nat.{ℕ, suc, ◌≤◌, ◌<◌}
use mathlib.Core.Path.{◌≡◌, refl, ap, ◌∙◌}
use mathlib.Core.List.{List, [], ◌++◌, append_assoc}
use lib.ListN.{length, drop, drop_of_length-le}
use lib.Seq.{drop-cons}
use Rattle.ascii.specs.Ascii.{ascii, decimal}
use Rattle.signal.specs.declared.kind.SignalEncoding.{SignalEncoding}
use Rattle.signal.specs.declared.kind.SignalEncoding.TheVariants.{Absent}
use Rattle.image.specs.Image.{Image}
use Rattle.loaded.specs.Opener.{kind_at}
use Rattle.loaded.specs.Loading.{Load, loads}
use Rattle.listing_text.specs.Listing.{line_end}
use Rattle.cursor_text.specs.At.{signal_words, at_line, at_lines}

pub found-parts : (n t : ℕ) (w : List ℕ) → ascii "entry " ++ decimal n ++ ascii " time " ++ decimal t ++ w ≡ (ascii "entry " ++ decimal n) ++ ((ascii " time " ++ decimal t) ++ w)
found-parts n t w = simp append_assoc

words-parts : (g : ℕ) (w : List ℕ) → ascii "signal " ++ decimal g ++ ascii " " ++ w ++ line_end ≡ (ascii "signal " ++ decimal g) ++ (ascii " " ++ (w ++ line_end))
words-parts g w = simp append_assoc

-- the words being named in another way
pub line-parts : (g : ℕ) (k : SignalEncoding) (l : Load) (t : ℕ) {w : List ℕ} → signal_words k l t ≡ w
    → at_line g k l t ≡ (ascii "signal " ++ decimal g) ++ (ascii " " ++ (w ++ line_end))
line-parts g k l t {w} e = ap (λ (v : List ℕ). ascii "signal " ++ decimal g ++ ascii " " ++ v ++ line_end) e ∙ words-parts g w

-- one line more, and none left

pub lines_more : (x : Image) (t g : ℕ) → g < length x.kinds
    → at_lines x t g (drop g x.kinds) ≡ at_line g (kind_at x g) (loads g x.blocks) t ++ at_lines x t (suc g) (drop (suc g) x.kinds)
unfolding at_lines
lines_more x t g h = rw (drop-cons x.kinds g Absent h) refl

pub lines_none : (x : Image) (t g : ℕ) → length x.kinds ≤ g → at_lines x t g (drop g x.kinds) ≡ []
unfolding at_lines
lines_none x t g h = rw (drop_of_length-le x.kinds {i = g} h) refl
