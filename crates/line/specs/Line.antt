-- What a line of a sheet of calls says, the line being given without its line feed.
-- Assumes nothing.
use Rattle.std.specs.Prelude.{ℕ, min, List, [], ◌∷◌, eqb, Option, Some, None}
use Rattle.lists.specs.Choice.{pick}
use Rattle.lists.specs.Same.{same}
use Rattle.ascii.specs.Ascii.{ascii}
use Rattle.signal.specs.declared.kind.SignalEncoding.{SignalEncoding}
use Rattle.signal.specs.declared.kind.SignalEncoding.TheVariants.{BitVector, Real, Absent}
use Rattle.digits.specs.Numbers.{bind, number_to, hex_bytes, bits_of}
use Rattle.line.specs.Words.{after, word, each_in}

pub data Line : Type 0 where
  -- a comment or an empty line
  nothing : Line
  lend : (times work image : ℕ) → Line
  edition : ℕ → Line
  probes : List ℕ → Line
  sender : ℕ → Line
  start : (signals limit : ℕ) → List SignalEncoding → Line
  time : ℕ → Line
  vcd : (signal : ℕ) → (text : List ℕ) → Line
  raw : (signal claim : ℕ) → (bytes : List ℕ) → Line
  real : (signal bits : ℕ) → Line
  finish : Line
  notUnderstood : Line

abbrev pub understood : Option Line → Line
understood None = notUnderstood
understood (Some l) = l

-- edition, probes, sender, signal, claim, S, B and widths have 32 bits
abbrev pub number32 : List ℕ → Option ℕ
number32 w = number_to 4294967295 w

-- ---- lend TIMES WORK IMAGE: at most 65535, 1048576, 1048576. A last argument is the whole rest of the line: a number has no space

unfoldable pub lend_of : List ℕ → Line
lend_of l =
    understood
    (bind (number_to 65535 (word 1 l)) (λ t.
    bind (number_to 1048576 (word 2 l)) (λ w.
    bind (number_to 1048576 (after 3 l)) (λ i.
    Some (lend t w i)))))

-- ---- edition N: chosen for the starts after it

unfoldable pub edition_of : List ℕ → Line
edition_of l = understood (bind (number32 (after 1 l)) (λ n. Some (edition n)))

-- ---- probes P P ...: named by the records of the starts after it, in order

-- the Ps are the words after the first, at most 256; there may be none
abbrev pub probes_in : List ℕ → Option (List ℕ)
probes_in l = each_in number32 1 l

unfoldable pub probes_of : List ℕ → Line
probes_of l = understood (bind (probes_in l) (λ ps. Some (probes ps)))

-- ---- sender N: of the times and changes after it

unfoldable pub sender_of : List ℕ → Line
sender_of l = understood (bind (number32 (after 1 l)) (λ n. Some (sender n)))

-- ---- start S B KIND KIND ...

-- a width, 0 being the event. One over 65,536 is handed to start, which refuses it: as 65,537, since the numbers FFFFFFFE and FFFFFFFF
-- stand for real and absent where a kind is stored
abbrev pub vector : ℕ → SignalEncoding
vector n = BitVector (min n 65537)

unfoldable pub kind_of : List ℕ → Option SignalEncoding
kind_of w =
    pick (same w (ascii "event")) (Some (BitVector 0))
    (pick (same w (ascii "real")) (Some Real)
    (pick (same w (ascii "absent")) (Some Absent)
    (bind (number32 w) (λ n. Some (vector n)))))

-- the KINDs are the words after the third, at most 256
abbrev pub kinds_in : List ℕ → Option (List SignalEncoding)
kinds_in l = each_in kind_of 3 l

unfoldable pub start_of : List ℕ → Line
start_of l =
    understood
    (bind (number32 (word 1 l)) (λ s.
    bind (number32 (word 2 l)) (λ b.
    bind (kinds_in l) (λ ks.
    Some (start s b ks)))))

-- ---- the other calls

-- time N: 64 bits
unfoldable pub time_of : List ℕ → Line
time_of l = understood (bind (number_to 18446744073709551615 (after 1 l)) (λ n. Some (time n)))

-- vcd SIGNAL TEXT: the rest of the line after one space, any bytes; empty, with or without the space, is the empty value
unfoldable pub vcd_of : List ℕ → Line
vcd_of l = understood (bind (number32 (word 1 l)) (λ g. Some (vcd g (after 2 l))))

-- raw SIGNAL CLAIM HEX: HEX may be empty or left out
unfoldable pub raw_of : List ℕ → Line
raw_of l =
    understood
    (bind (number32 (word 1 l)) (λ g.
    bind (number32 (word 2 l)) (λ c.
    bind (hex_bytes (after 3 l)) (λ s.
    Some (raw g c s)))))

-- real SIGNAL HEX16
unfoldable pub real_of : List ℕ → Line
real_of l =
    understood
    (bind (number32 (word 1 l)) (λ g.
    bind (bits_of (after 2 l)) (λ n.
    Some (real g n))))

-- ---- the line

-- the first word says which change; nothing follows `finish`
unfoldable pub change_of : List ℕ → Line
change_of l =
    pick (same (word 0 l) (ascii "vcd")) (vcd_of l)
    (pick (same (word 0 l) (ascii "raw")) (raw_of l)
    (pick (same (word 0 l) (ascii "real")) (real_of l)
    (pick (same l (ascii "finish")) finish
    notUnderstood)))

-- the first word says what is chosen for lines after it; any other is left to the changes
unfoldable pub choice_of : List ℕ → Line
choice_of l =
    pick (same (word 0 l) (ascii "edition")) (edition_of l)
    (pick (same (word 0 l) (ascii "probes")) (probes_of l)
    (pick (same (word 0 l) (ascii "sender")) (sender_of l)
    (change_of l)))

-- the first word says which; any other is left to the choices
unfoldable pub call_of : List ℕ → Line
call_of l =
    pick (same (word 0 l) (ascii "lend")) (lend_of l)
    (pick (same (word 0 l) (ascii "start")) (start_of l)
    (pick (same (word 0 l) (ascii "time")) (time_of l)
    (choice_of l)))

-- an empty line has no byte; a comment has `#` in its first column
unfoldable pub line_of : List ℕ → Line
line_of [] = nothing
line_of (b ∷ l) = pick (eqb b 35) nothing (call_of (b ∷ l))
