-- Document 01, 'Bench sheet': the listing of an image, which `wavelist` prints.
-- Assumes nothing.
use Rattle.std.specs.Prelude.{ℕ, zero, suc, List, [], ◌∷◌, ◌++◌, map, length, get_or, leb}
use Rattle.std.proofs.Math.Option.{Option, some, none}
use Rattle.lists.specs.Choice.{pick}
use Rattle.ascii.specs.Ascii.{ascii, decimal, hexadecimal}
use Rattle.value.specs.Symbol.{letters}
use Rattle.signal.specs.declared.kind.SignalEncoding.{SignalEncoding}
use Rattle.signal.specs.declared.kind.SignalEncoding.TheVariants.{BitVector, Real, Absent}
use Rattle.signal.specs.Content.{Content, happened, symbols, bits}
use Rattle.stream.specs.Entries.{Entry}
use Rattle.image.specs.Image.{Image}
use Rattle.codec.specs.Parse.{parse}
use Rattle.loaded.specs.Loading.{Load, loads, table_from, signal_class}

-- each line is ended by a line feed
abbrev pub line_end : List ℕ
line_end = ascii "\n"

-- `signals S times T blocks N`
abbrev pub head_line : (signals times blocks : ℕ) → List ℕ
head_line s t n = ascii "signals " ++ decimal s ++ ascii " times " ++ decimal t ++ ascii " blocks " ++ decimal n ++ line_end

-- times: index, value
abbrev pub time_line : (index time : ℕ) → List ℕ
time_line i t = ascii "time " ++ decimal i ++ ascii " " ++ decimal t ++ line_end

-- those of a table from index i on
unfoldable pub time_lines : (i : ℕ) → List ℕ → List ℕ
time_lines i [] = []
time_lines i (t ∷ ts) = time_line i t ++ time_lines (suc i) ts

-- `event`, or `width N class C`
abbrev pub vector_words : (width class : ℕ) → List ℕ
vector_words zero c = ascii "event"
vector_words (suc w) c = ascii "width " ++ decimal (suc w) ++ ascii " class " ++ decimal c

-- kind and kept entries; `absent` ends its line
abbrev pub kind_words : SignalEncoding → (class changes : ℕ) → List ℕ
kind_words (BitVector w) c n = vector_words w c ++ ascii " changes " ++ decimal n
kind_words Real c n = ascii "real changes " ++ decimal n
kind_words Absent c n = ascii "absent"

-- signals: number, kind, kept entries
abbrev pub signal_line : (signal : ℕ) → SignalEncoding → (class changes : ℕ) → List ℕ
signal_line g k c n = ascii "signal " ++ decimal g ++ ascii " " ++ kind_words k c n ++ line_end

-- a symbol as its letter
abbrev pub letter_of : ℕ → ℕ
letter_of s = get_or letters s 0

-- symbols, 16 lowercase hex digits of a real's bits (highest first), or nothing of an event
abbrev pub content_words : Content → List ℕ
content_words happened = []
content_words (symbols s) = ascii " " ++ map letter_of s
content_words (bits b) = ascii " " ++ hexadecimal 16 b

-- then index and content of each kept entry
abbrev pub entry_line : Entry → List ℕ
entry_line e = decimal e.index ++ content_words e.content ++ line_end

unfoldable pub entry_lines : List Entry → List ℕ
entry_lines [] = []
entry_lines (e ∷ es) = entry_line e ++ entry_lines es

-- an absent signal has no entries
abbrev pub signal_lines : (signal : ℕ) → SignalEncoding → Load → List ℕ
signal_lines g k l = signal_line g k (signal_class l) (length l.entries) ++ entry_lines l.entries

-- those of an image's signals from number g on
unfoldable pub signals_from : Image → (g : ℕ) → List SignalEncoding → List ℕ
signals_from x g [] = []
signals_from x g (k ∷ ks) = signal_lines g k (loads g x.blocks) ++ signals_from x (suc g) ks

unfoldable pub image_text : Image → List ℕ
image_text x =
    let ts = table_from [] x.blocks in
    head_line (length x.kinds) (length ts) (length x.blocks) ++ time_lines 0 ts ++ signals_from x 0 x.kinds

-- a refusal prints `refused 11`
abbrev pub text_of : Option Image → List ℕ
text_of none = ascii "refused 11\n"
text_of (some x) = image_text x

-- at most 16,384 bytes are read
abbrev pub input_limit : ℕ
input_limit = 16384

-- a longer input is refused too
unfoldable pub listing_of : (input : List ℕ) → List ℕ
listing_of b = pick (leb (length b) input_limit) (text_of (parse b)) (text_of none)

-- what every listing fits into
abbrev pub listing_limit : ℕ
listing_limit = 262144
