-- How long the lines of a listing are: a time's against its 8 bytes in an image, a signal's against the 4 bytes of its kind, an entry's
-- against the bytes of its change in a stream.
-- Assumes nothing.
use Prim.Native.Nat.{ℕ, zero, suc, ◌+◌, ◌*◌, ◌/◌, ◌%◌, ◌≤◌, ◌<◌, ◌^◌}
use mathlib.Core.Path.{◌≡◌, ◌∙◌}
use mathlib.Core.Bool.{Bool, true, false}
use mathlib.Core.List.{List, [], ◌∷◌, ◌++◌}
use native.Mathlib.Nat.{pow-suc}
use native.Mathlib.Omega.{arith}
use borrow.Author.Tests.{leb-true, lt-ltb}
use lib.Dec.{ltb}
use lib.ListN.{length, length-append, length-map}
use Rattle.lists.specs.Choice.{pick}
use Rattle.ascii.specs.Ascii.{ascii, digit_code, decimal_in, decimal, hexadecimal}
use Rattle.signal.specs.declared.kind.SignalEncoding.{SignalEncoding}
use Rattle.signal.specs.declared.kind.SignalEncoding.TheVariants.{BitVector, Real, Absent}
use Rattle.signal.specs.Kind.{known_kind}
use Rattle.signal.specs.Content.{Content, happened, symbols, bits, ContentFits}
use Rattle.stream.specs.Entries.{Entry}
use Rattle.loader_measure.specs.Least.{least_length}
use Rattle.listing_text.specs.Listing.{line_end, head_line, time_line, time_lines, vector_words, kind_words, signal_line, letter_of, content_words, entry_line}

-- ---- numbers

one-digit : (t : Bool) (l : List ℕ) (d m : ℕ) → length l ≤ m → length (pick t [] l ++ d ∷ []) ≤ suc m
one-digit true l d m h = omega arith
one-digit false l d m h = omega (arith, length-append l (d ∷ []))

places-most : (k n : ℕ) → length (decimal_in k n) ≤ k
unfolding decimal_in
places-most zero n = omega arith
places-most (suc k) n = one-digit (ltb n 10) (decimal_in k (n / 10)) (digit_code (n % 10)) k (places-most k (n / 10))

pub decimal-most : (n : ℕ) → length (decimal n) ≤ 20
decimal-most n = places-most 20 n

digits-few : (j k n : ℕ) → n < 10 ^ suc j → length (decimal_in k n) ≤ suc j
unfolding decimal_in
digits-few zero zero n h = omega arith
digits-few zero (suc k) n h = rw (lt-ltb n 10 h) (omega arith)
digits-few (suc j) zero n h = omega arith
digits-few (suc j) (suc k) n h =
    one-digit (ltb n 10) (decimal_in k (n / 10)) (digit_code (n % 10)) (suc j) (digits-few j k (n / 10) (omega (arith, pow-suc 10 (suc j))))

pub decimal-five : (n : ℕ) → n < 100000 → length (decimal n) ≤ 5
decimal-five n h = digits-few 4 20 n h

length-hexadecimal : (k n : ℕ) → length (hexadecimal k n) ≡ k
unfolding hexadecimal
length-hexadecimal zero n = omega arith
length-hexadecimal (suc k) n = length-append (hexadecimal k (n / 16)) (digit_code (n % 16) ∷ []) ∙ omega (arith, length-hexadecimal k (n / 16))

-- ---- the head and the times

pub head-line : (s t n : ℕ) → length (head_line s t n) ≤ 84
head-line s t n = simp length-append (omega (arith, decimal-most s, decimal-most t, decimal-most n))

time-line : (i t : ℕ) → length (time_line i t) ≤ 47
time-line i t = simp length-append (omega (arith, decimal-most i, decimal-most t))

pub time-lines : (i : ℕ) (ts : List ℕ) → length (time_lines i ts) ≤ 47 * length ts
unfolding time_lines
time-lines i [] = omega arith
time-lines i (t ∷ ts) = omega (arith, length-append (time_line i t) (time_lines (suc i) ts), time-line i t, time-lines (suc i) ts)

-- ---- a signal's line

vector-words : (w c : ℕ) → w ≤ 65536 → c ≤ 2 → length (vector_words w c) ≤ 23
vector-words zero c h z = omega arith
vector-words (suc w) c h z = simp length-append (omega (arith, decimal-five (suc w) (omega arith), decimal-five c (omega arith)))

kind-words : (k : SignalEncoding) (c n : ℕ) → known_kind k ≡ true → c ≤ 2 → n < 100000 → length (kind_words k c n) ≤ 37
kind-words (BitVector w) c n h z m =
    let v = vector-words w c (leb-true w 65536 h) z in
    omega (arith, length-append (vector_words w c ++ ascii " changes ") (decimal n), length-append (vector_words w c) (ascii " changes "), decimal-five n m)
kind-words Real c n h z m = omega (arith, decimal-five n m)
kind-words Absent c n h z m = omega arith

pub signal-line : (g : ℕ) (k : SignalEncoding) (c n : ℕ) → g < 100000 → known_kind k ≡ true → c ≤ 2 → n < 100000 → length (signal_line g k c n) ≤ 64
signal-line g k c n f h z m =
    omega (
      arith,
      length-append (decimal g ++ ascii " " ++ kind_words k c n) line_end,
      length-append (decimal g ++ ascii " ") (kind_words k c n),
      length-append (decimal g) (ascii " "),
      decimal-five g f,
      kind-words k c n h z m,
    )

-- ---- a change, its entry and its line

-- an entry's line has at most sixteen times the bytes of its change
content-words : (k : SignalEncoding) (c : Content) → ContentFits k c → length (content_words c) + 6 ≤ 16 * least_length k
content-words (BitVector zero) happened f = omega arith
content-words (BitVector zero) (symbols s) f = absurd f
content-words (BitVector zero) (bits b) f = absurd f
content-words (BitVector (suc w)) happened f = absurd f
content-words (BitVector (suc zero)) (symbols s) f = omega (arith, length-map s letter_of, f.0)
content-words (BitVector (suc (suc w))) (symbols s) f = omega (arith, length-map s letter_of, f.0)
content-words (BitVector (suc w)) (bits b) f = absurd f
content-words Real happened f = absurd f
content-words Real (symbols s) f = absurd f
content-words Real (bits b) f = omega (arith, length-hexadecimal 16 b)
content-words Absent c f = absurd f

pub entry-line : (k : SignalEncoding) (e : Entry) → ContentFits k e.content → e.index < 100000 → length (entry_line e) ≤ 16 * least_length k
entry-line k e f h =
    omega (
      arith,
      length-append (decimal e.index ++ content_words e.content) line_end,
      length-append (decimal e.index) (content_words e.content),
      decimal-five e.index h,
      content-words k e.content f,
    )
