-- What the cursor (documents 01 and 02, (a)) shows of every signal of an image at a time, as text of our own, which `waveat` prints: a line for each signal.
-- Assumes nothing.
use Rattle.std.specs.Prelude.{ℕ, suc, List, [], ◌∷◌, ◌++◌, length, get_or, leb}
use Rattle.std.proofs.Math.Option.{Option, some, none}
use Rattle.lists.specs.Choice.{pick}
use Rattle.ascii.specs.Ascii.{ascii, decimal}
use Rattle.signal.specs.declared.kind.SignalEncoding.{SignalEncoding}
use Rattle.signal.specs.Kind.{absent}
use Rattle.stream.specs.Entries.{Entry}
use Rattle.image.specs.Image.{Image}
use Rattle.codec.specs.Parse.{parse}
use Rattle.loaded.specs.Loading.{Load, loads}
use Rattle.loaded.specs.Reader.{entry_at}
use Rattle.listing_text.specs.Listing.{line_end, content_words, input_limit}

-- `none`, or `entry E time T` and, but for an event, a space and the content as the listing has it
abbrev pub entry_words : (times : List ℕ) → Option (ℕ × Entry) → List ℕ
entry_words ts none = ascii "none"
entry_words ts (some q) =
    let e = q.1 in
    ascii "entry " ++ decimal q.0 ++ ascii " time " ++ decimal (get_or ts e.index 0) ++ content_words e.content

-- `absent`, or what the cursor shows at t
abbrev pub signal_words : SignalEncoding → Load → (t : ℕ) → List ℕ
signal_words k l t = pick (absent k) (ascii "absent") (entry_words l.times (entry_at l t))

-- `signal N absent`, `signal N none`, or `signal N entry E time T` and the content
abbrev pub at_line : (signal : ℕ) → SignalEncoding → Load → (t : ℕ) → List ℕ
at_line g k l t = ascii "signal " ++ decimal g ++ ascii " " ++ signal_words k l t ++ line_end

-- those of an image's signals from number g on
unfoldable pub at_lines : Image → (t g : ℕ) → List SignalEncoding → List ℕ
at_lines x t g [] = []
at_lines x t g (k ∷ ks) = at_line g k (loads g x.blocks) t ++ at_lines x t (suc g) ks

-- bytes that are no image print `refused 11`
abbrev pub at_text : Option Image → (t : ℕ) → List ℕ
at_text none t = ascii "refused 11\n"
at_text (some x) t = at_lines x t 0 x.kinds

-- a longer input is refused too
unfoldable pub at_of : (input : List ℕ) (t : ℕ) → List ℕ
at_of b t = pick (leb (length b) input_limit) (at_text (parse b) t) (at_text none t)

-- what every such text fits into
abbrev pub at_limit : ℕ
at_limit = 524288
