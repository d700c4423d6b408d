-- A signal's line has at most 64 bytes more than the listing's lines of the signal, so the text has at most 524,288 bytes.
-- Assumes nothing.
use Prim.Native.Nat.{ℕ, suc, ◌+◌, ◌*◌, ◌≤◌}
use mathlib.Core.Path.{◌≡◌, refl, ap}
use mathlib.Core.Bool.{Bool, true, false}
use mathlib.Core.List.{List, [], ◌∷◌, ◌++◌}
use mathlib.Core.Option.{Option, some, none}
use native.Mathlib.Omega.{arith}
use borrow.Author.Tests.{leb-true}
use lib.Dec.{leb}
use lib.ListN.{length, get_or, length-append}
use Rattle.lists.specs.Choice.{pick}
use Rattle.lists.specs.Bytes.{Bytes}
use Rattle.ascii.specs.Ascii.{ascii, decimal}
use Rattle.signal.specs.declared.kind.SignalEncoding.{SignalEncoding}
use Rattle.signal.specs.Kind.{absent}
use Rattle.stream.specs.Entries.{Entry}
use Rattle.image.specs.Image.{Image}
use Rattle.codec.specs.Valid.{Valid}
use Rattle.codec.specs.Parse.{parse}
use Rattle.codec.proofs.Trip.{parse-is}
use Rattle.loaded.specs.Loading.{Load, loads, table_from, signal_class}
use Rattle.loaded.specs.Reader.{entry_at}
use Rattle.loaded.proofs.CursorLaws.{Each, Holds, last-holds}
use Rattle.listing_text.specs.Listing.{line_end, head_line, time_lines, kind_words, signal_line, content_words, entry_line, entry_lines, signal_lines, signals_from, input_limit}
use Rattle.listing_text.proofs.LengthLaws.{decimal-most}
use Rattle.listing_text.proofs.LineLaws.{image-parts}
use Rattle.listing_text.proofs.BoundLaws.{Small, signals-few, text-fits}
use Rattle.cursor_text.specs.At.{entry_words, signal_words, at_line, at_lines, at_text, at_of, at_limit}

-- ---- the words

abbrev Short : (m : ℕ) → Entry → Type 0
Short m e = length (content_words e.content) ≤ m

-- the content of an entry stands in the listing's line of it
each-short : (m : ℕ) (es : List Entry) → length (entry_lines es) ≤ m → Each (Short m) es
unfolding entry_lines
each-short m [] h = tt
each-short m (e ∷ es) h =
    let both = length-append (entry_line e) (entry_lines es) in (
      omega (arith, both, length-append (decimal e.index ++ content_words e.content) line_end, length-append (decimal e.index) (content_words e.content)),
      each-short m es (omega (arith, both)),
    )

entry-words : (m : ℕ) (ts : List ℕ) (q : Option (ℕ × Entry)) → Holds (Short m) q → length (entry_words ts q) ≤ 52 + m
entry-words m ts none h = omega arith
entry-words m ts (some q) h =
    let n : List ℕ = decimal q.0 in
    let t : List ℕ = decimal (get_or ts q.1.index 0) in
    let w : List ℕ = content_words q.1.content in
    omega (
      arith,
      length-append (n ++ ascii " time " ++ t) w,
      length-append (n ++ ascii " time ") t,
      length-append n (ascii " time "),
      decimal-most q.0,
      decimal-most (get_or ts q.1.index 0),
      h,
    )

signal-words : (k : SignalEncoding) (l : Load) (t : ℕ) → length (signal_words k l t) ≤ 52 + length (entry_lines l.entries)
signal-words k l t = by (absent k)
  where
    by : (a : Bool) → length (pick a (ascii "absent") (entry_words l.times (entry_at l t))) ≤ 52 + length (entry_lines l.entries)
    by true = omega arith
    by false =
        let m : ℕ = length (entry_lines l.entries) in
        entry-words m l.times (entry_at l t) (last-holds (Short m) l.times t none 0 l.entries tt (each-short m l.entries (omega arith)))

-- ---- the lines

-- the listing's line of the signal begins with the same words and the number
at-line : (g : ℕ) (k : SignalEncoding) (l : Load) (t : ℕ) → length (at_line g k l t) ≤ 64 + length (signal_lines g k l)
at-line g k l t =
    let c : ℕ = signal_class l in
    let n : ℕ = length l.entries in
    omega (
      arith,
      length-append (decimal g ++ ascii " " ++ signal_words k l t) line_end,
      length-append (decimal g ++ ascii " ") (signal_words k l t),
      length-append (signal_line g k c n) (entry_lines l.entries),
      length-append (decimal g ++ ascii " " ++ kind_words k c n) line_end,
      length-append (decimal g ++ ascii " ") (kind_words k c n),
      signal-words k l t,
    )

at-lines : (x : Image) (t g : ℕ) (ks : List SignalEncoding) → length (at_lines x t g ks) ≤ 64 * length ks + length (signals_from x g ks)
unfolding at_lines signals_from
at-lines x t g [] = omega arith
at-lines x t g (k ∷ ks) =
    let l : Load = loads g x.blocks in
    omega (
      arith,
      length-append (at_line g k l t) (at_lines x t (suc g) ks),
      length-append (signal_lines g k l) (signals_from x (suc g) ks),
      at-line g k l t,
      at-lines x t (suc g) ks,
    )

lines_fit : (x : Image) (t : ℕ) → Valid x → Small x → length (at_lines x t 0 x.kinds) ≤ at_limit
lines_fit x t v z =
    let h : List ℕ = head_line (length x.kinds) (length (table_from [] x.blocks)) (length x.blocks) in
    let ts : List ℕ = time_lines 0 (table_from [] x.blocks) in
    let s : List ℕ = signals_from x 0 x.kinds in
    omega (
      arith,
      at-lines x t 0 x.kinds,
      signals-few x z,
      text-fits x v z,
      ap length (image-parts x),
      length-append h (ts ++ s),
      length-append ts s,
    )

-- for any bytes, the refusal included
pub at-fits : (b : List ℕ) (t : ℕ) → Bytes b → length (at_of b t) ≤ at_limit
unfolding at_of
at-fits b t y = by (leb (length b) input_limit) (parse b) refl refl
  where
    by : (a : Bool) (p : Option Image) → leb (length b) input_limit ≡ a → parse b ≡ p → length (pick a (at_text p t) (at_text none t)) ≤ at_limit
    by true none e f = omega arith
    by true (some x) e f = let m = parse-is b x y f in lines_fit x t m.valid (omega (arith, leb-true (length b) input_limit e, ap length m.bytes))
    by false p e f = omega arith
