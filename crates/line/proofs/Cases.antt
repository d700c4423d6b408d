-- Lines of each kind, understood and not, computed.
-- Assumes nothing.
use mathlib.Core.Path.{◌≡◌, refl}
use mathlib.Core.List.{List, [], ◌∷◌, ◌++◌, map}
use Prim.Native.Nat.{ℕ}
use lib.ListN.{length, replicate}
use Rattle.lists.specs.Same.{same}
use Rattle.ascii.specs.Ascii.{ascii}
use Rattle.signal.specs.declared.kind.SignalEncoding.TheVariants.{BitVector, Real, Absent}
use Rattle.digits.specs.Numbers.{digit_of, digits_from, number_of, number_to, hex_bytes, bits_of}
use Rattle.line.specs.Words.{word_of, past_word, after, words_of, each_of, each_in}
use Rattle.line.specs.Line.{Line, nothing, lend, edition, probes, sender, start, time, vcd, raw, real, finish, notUnderstood}
use Rattle.line.specs.Line.{lend_of, edition_of, probes_of, sender_of, kind_of, start_of, time_of, vcd_of, raw_of, real_of, change_of, choice_of, call_of, line_of}

-- lines, each with what it says; a carriage return is a byte of its line
unfoldable pub understood : List (List ℕ × Line)
understood =
    (ascii "", nothing)
    ∷ (ascii "# any text", nothing)
    ∷ (ascii "#", nothing)
    ∷ (ascii "lend 65535 1048576 1048576", lend 65535 1048576 1048576)
    ∷ (ascii "lend 007 0 12", lend 7 0 12)
    ∷ (ascii "edition 2", edition 2)
    ∷ (ascii "edition 0", edition 0)
    ∷ (ascii "edition 4294967295", edition 4294967295)
    ∷ (ascii "edition 002", edition 2)
    ∷ (ascii "probes", probes [])
    ∷ (ascii "probes 0 1 001", probes (0 ∷ 1 ∷ 1 ∷ []))
    ∷ (ascii "probes 256 4294967295", probes (256 ∷ 4294967295 ∷ []))
    ∷ (ascii "sender 0", sender 0)
    ∷ (ascii "sender 01", sender 1)
    ∷ (ascii "sender 4294967295", sender 4294967295)
    ∷ (ascii "start 5 4 1 0 event real absent", start 5 4 (BitVector 1 ∷ BitVector 0 ∷ BitVector 0 ∷ Real ∷ Absent ∷ []))
    ∷ (ascii "start 0 4", start 0 4 [])
    ∷ (ascii "start 3 2 65536 65537 4294967294", start 3 2 (BitVector 65536 ∷ BitVector 65537 ∷ BitVector 65537 ∷ []))
    ∷ (ascii "time 18446744073709551615", time 18446744073709551615)
    ∷ (ascii "time 000000000000000000000000000000010", time 10)
    ∷ (ascii "vcd 3 b1x", vcd 3 (98 ∷ 49 ∷ 120 ∷ []))
    ∷ (ascii "vcd 3  a ", vcd 3 (32 ∷ 97 ∷ 32 ∷ []))
    ∷ (ascii "vcd 3", vcd 3 [])
    ∷ (ascii "vcd 3 ", vcd 3 [])
    ∷ (ascii "raw 4294967295 2 0aFf", raw 4294967295 2 (10 ∷ 255 ∷ []))
    ∷ (ascii "raw 1 0", raw 1 0 [])
    ∷ (ascii "raw 1 0 ", raw 1 0 [])
    ∷ (ascii "real 1 3FF00000000000ab", real 1 0x3ff00000000000ab)
    ∷ (ascii "finish", finish)
    ∷ (ascii "vcd 1 1" ++ (13 ∷ []), vcd 1 (49 ∷ 13 ∷ []))
    ∷ []

pub all-understood : map (λ (r : List ℕ × Line). line_of r.0) understood ≡ map (λ (r : List ℕ × Line). r.1) understood
unfolding word_of past_word after words_of each_of each_in digit_of digits_from number_of number_to hex_bytes bits_of same lend_of edition_of probes_of sender_of kind_of start_of
    time_of vcd_of raw_of real_of change_of choice_of call_of line_of understood
all-understood = refl

-- lines that are none of these
unfoldable pub strange : List (List ℕ)
strange =
    ascii " "
    ∷ ascii " # no comment"
    ∷ ascii "lend 65536 0 0"
    ∷ ascii "lend 0 1048577 0"
    ∷ ascii "lend 0 0 1048577"
    ∷ ascii "lend 1 2"
    ∷ ascii "lend 1 2 3 4"
    ∷ ascii "lend 1 2 3 "
    ∷ ascii "edition"
    ∷ ascii "edition "
    ∷ ascii "edition 4294967296"
    ∷ ascii "edition 1 "
    ∷ ascii "edition 1 2"
    ∷ ascii "Edition 1"
    ∷ ascii "probes "
    ∷ ascii "probes 0 "
    ∷ ascii "probes  0"
    ∷ ascii "probes 0  1"
    ∷ ascii "probes one"
    ∷ ascii "probes 0 4294967296"
    ∷ ascii "probe 0"
    ∷ ascii "sender"
    ∷ ascii "sender "
    ∷ ascii "sender 0 "
    ∷ ascii "sender 0 1"
    ∷ ascii "sender 4294967296"
    ∷ ascii "sender -1"
    ∷ ascii "senders 0"
    ∷ ascii "start"
    ∷ ascii "start 1"
    ∷ ascii "start 1 4 "
    ∷ ascii "start 1 4  1"
    ∷ ascii "start 1 4 1 "
    ∷ ascii "start 1 4 wire"
    ∷ ascii "start 1 4 4294967296"
    ∷ ascii "start 4294967296 4 1"
    ∷ ascii "time"
    ∷ ascii "time "
    ∷ ascii "time 18446744073709551616"
    ∷ ascii "time 10 "
    ∷ ascii "time +1"
    ∷ ascii "time 0x1"
    ∷ ascii "time 1 2"
    ∷ ascii "Time 1"
    ∷ ascii "vcd"
    ∷ ascii "vcd "
    ∷ ascii "vcd x 1"
    ∷ ascii "vcd  1"
    ∷ ascii "raw 1"
    ∷ ascii "raw 1 0 0"
    ∷ ascii "raw 1 0 0g"
    ∷ ascii "raw 1 0 00 "
    ∷ ascii "raw 1 0 00 00"
    ∷ ascii "real 1"
    ∷ ascii "real 1 3ff00000000000a"
    ∷ ascii "real 1 3ff00000000000abc"
    ∷ ascii "real 1 3ff00000000000ag"
    ∷ ascii "real 1 3ff00000000000ab "
    ∷ ascii "finish "
    ∷ ascii "finish now"
    ∷ ascii "finished"
    ∷ ascii "stop"
    ∷ (ascii "time 1" ++ (13 ∷ []))
    ∷ []

pub none-understood : map line_of strange ≡ replicate (length strange) notUnderstood
unfolding word_of past_word after words_of each_of each_in digit_of digits_from number_of number_to hex_bytes bits_of same lend_of edition_of probes_of sender_of kind_of start_of
    time_of vcd_of raw_of real_of change_of choice_of call_of line_of strange
none-understood = refl
