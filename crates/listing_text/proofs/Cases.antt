-- The bench sheet's image and its listing, whole; and a listing with every other kind of line, computed.
-- Assumes nothing.
use mathlib.Core.Path.{◌≡◌, refl, ap}
use mathlib.Core.Bool.{true}
use mathlib.Core.List.{[], ◌∷◌}
use mathlib.Core.Option.{some, none}
use lib.ListN.{length}
use Rattle.lists.specs.Last.{last_or}
use Rattle.lists.specs.Same.{same}
use Rattle.ascii.specs.Ascii.{ascii, decimal_in, hexadecimal}
use Rattle.numbers.specs.Leb128.{groups, leb_of}
use Rattle.numbers.specs.LittleEndian.{le}
use Rattle.value.specs.Class.{class_of_all, all_symbols}
use Rattle.packed.specs.Packed.{number_of, digits, packed}
use Rattle.signal.specs.declared.kind.SignalEncoding.TheVariants.{BitVector, Real, Absent}
use Rattle.signal.specs.Content.{happened, symbols, bits}
use Rattle.stream.specs.Stream.{change_bytes}
use Rattle.stream.specs.Entries.{entry, stream_bytes}
use Rattle.image.specs.Block.{part, block, les, data_of, offsets_from, block_bytes}
use Rattle.image.specs.Head.{head_bytes}
use Rattle.image.specs.Image.{Image, image, streamed_parts, blocks_bytes, image_bytes}
use Rattle.form.specs.Decide.{false-true}
use Rattle.codec.specs.Valid.{Valid, rising_from?, rising?, each_below?, known_kinds?, content_fits?, entry_fits?, entries_fit?, part_fits?, parts_fit?, starts?, block_fits?, blocks_fit?, valid?}
use Rattle.codec.proofs.Trip.{parse-of}
use Rattle.loaded.specs.Loading.{table_from, moved, repeats_last, pushed, load_from}
use Rattle.loaded.proofs.BenchLoads.{bench_bytes, bench-parse}
use Rattle.reading.specs.Decided.{is_yes}
use Rattle.listing_text.specs.Listing.{time_lines, entry_lines, signals_from, image_text, text_of, listing_of}

pub bench-listing : listing_of bench_bytes ≡ ascii "signals 2 times 2 blocks 1\ntime 0 10\ntime 1 20\nsignal 0 width 1 class 0 changes 1\n0 1\nsignal 1 width 4 class 1 changes 2\n0 001x\n1 0001\n"
unfolding listing_of image_text time_lines signals_from entry_lines decimal_in table_from load_from pushed repeats_last moved same last_or
bench-listing = ap text_of bench-parse

-- an event, a real, an absent signal, a vector of class Nine, a vector without changes; B 2, times 5 7 and 7 with the largest one. The real
-- is 0.0, then -0.0, which the second block repeats
abbrev pub all_kinds : Image
all_kinds =
    image 2 (BitVector 0 ∷ Real ∷ Absent ∷ BitVector 3 ∷ BitVector 1 ∷ [])
    (block (5 ∷ 7 ∷ [])
    (some (part 0 (entry 1 happened ∷ []))
    ∷ some (part 0 (entry 0 (bits 0) ∷ entry 1 (bits 0x8000000000000000) ∷ []))
    ∷ none
    ∷ some (part 2 (entry 0 (symbols (1 ∷ 8 ∷ 2 ∷ [])) ∷ []))
    ∷ none ∷ [])
    ∷ block (7 ∷ 0xffffffffffffffff ∷ [])
    (some (part 0 (entry 1 happened ∷ []))
    ∷ some (part 0 (entry 1 (bits 0x8000000000000000) ∷ []))
    ∷ none
    ∷ some (part 2 (entry 1 (symbols (1 ∷ 0 ∷ 1 ∷ [])) ∷ []))
    ∷ none ∷ []) ∷ [])

decided : {A : Type 0} (d : Dec A) → is_yes d ≡ true → A
decided (yes a) e = a
decided (no n) e = absurd (false-true e)

pub kinds-valid : Valid all_kinds
unfolding valid? blocks_fit? block_fits? starts? rising? rising_from? each_below? parts_fit? part_fits? entries_fit? entry_fits? content_fits? known_kinds? last_or class_of_all all_symbols
    image_bytes blocks_bytes streamed_parts stream_bytes head_bytes block_bytes les data_of offsets_from le leb_of groups change_bytes packed digits number_of
kinds-valid = decided (valid? all_kinds) refl

pub kinds-bytes : length (image_bytes all_kinds) ≡ 172
unfolding image_bytes blocks_bytes streamed_parts stream_bytes head_bytes block_bytes les data_of offsets_from le leb_of groups change_bytes packed digits number_of class_of_all
kinds-bytes = refl

pub kinds-listing : listing_of
    (image_bytes all_kinds) ≡ ascii "signals 5 times 3 blocks 2\ntime 0 5\ntime 1 7\ntime 2 18446744073709551615\nsignal 0 event changes 2\n1\n2\nsignal 1 real changes 2\n0 0000000000000000\n1 8000000000000000\nsignal 2 absent\nsignal 3 width 3 class 2 changes 2\n0 1-x\n2 101\nsignal 4 width 1 class 2 changes 0\n"
unfolding listing_of image_text time_lines signals_from entry_lines decimal_in hexadecimal table_from load_from pushed repeats_last moved same last_or
kinds-listing = rw kinds-bytes (ap text_of (parse-of all_kinds kinds-valid))
