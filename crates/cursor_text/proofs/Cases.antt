-- The bench sheet's image and one with every kind of signal, at times before, at and after their changes; and bytes that are no image, computed.
-- Assumes nothing.
use mathlib.Core.Path.{◌≡◌, refl, ap}
use mathlib.Core.List.{[]}
use mathlib.Core.Option.{Option}
use Rattle.lists.specs.Last.{last_or}
use Rattle.lists.specs.Same.{same}
use Rattle.ascii.specs.Ascii.{ascii, decimal_in, hexadecimal}
use Rattle.numbers.specs.LittleEndian.{unle}
use Rattle.image.specs.Image.{Image, image_bytes}
use Rattle.form.specs.Form.{repeat, each, get_chain}
use Rattle.codec.specs.ImageForm.{head_form, image_form}
use Rattle.codec.specs.Parse.{parse}
use Rattle.codec.proofs.Trip.{parse-of}
use Rattle.loaded.specs.Loading.{moved, repeats_last, pushed, load_from}
use Rattle.loaded.specs.Reader.{last_up_to}
use Rattle.loaded.proofs.BenchLoads.{bench_bytes, bench-parse}
use Rattle.listing_text.proofs.Cases.{all_kinds, kinds-valid, kinds-bytes}
use Rattle.cursor_text.specs.At.{at_lines, at_text, at_of}

-- before the first change, at it, one before the second, at it
pub bench-at : (at_of bench_bytes 9 ≡ ascii "signal 0 none\nsignal 1 none\n")
    × (at_of bench_bytes 10 ≡ ascii "signal 0 entry 0 time 10 1\nsignal 1 entry 0 time 10 001x\n")
    × (at_of bench_bytes 19 ≡ ascii "signal 0 entry 0 time 10 1\nsignal 1 entry 0 time 10 001x\n")
    × (at_of bench_bytes 20 ≡ ascii "signal 0 entry 0 time 10 1\nsignal 1 entry 1 time 20 0001\n")
unfolding at_of at_lines decimal_in load_from pushed repeats_last moved same last_or last_up_to
bench-at = (
  ap (λ (x : Option Image). at_text x 9) bench-parse,
  ap (λ (x : Option Image). at_text x 10) bench-parse,
  ap (λ (x : Option Image). at_text x 19) bench-parse,
  ap (λ (x : Option Image). at_text x 20) bench-parse,
)

-- an event, a real, an absent signal, a vector of class Nine, a vector without changes; times 5, 7 and the largest. The real is 0.0, then -0.0
pub kinds-at : (at_of (image_bytes all_kinds) 6 ≡ ascii "signal 0 none\nsignal 1 entry 0 time 5 0000000000000000\nsignal 2 absent\nsignal 3 entry 0 time 5 1-x\nsignal 4 none\n")
    × (at_of (image_bytes all_kinds) 7 ≡ ascii "signal 0 entry 0 time 7\nsignal 1 entry 1 time 7 8000000000000000\nsignal 2 absent\nsignal 3 entry 0 time 5 1-x\nsignal 4 none\n")
    × (at_of (image_bytes all_kinds) 0xffffffffffffffff ≡ ascii "signal 0 entry 1 time 18446744073709551615\nsignal 1 entry 1 time 7 8000000000000000\nsignal 2 absent\nsignal 3 entry 1 time 18446744073709551615 101\nsignal 4 none\n")
unfolding at_of at_lines decimal_in hexadecimal load_from pushed repeats_last moved same last_or last_up_to
kinds-at = (
  rw kinds-bytes (ap (λ (x : Option Image). at_text x 6) (parse-of all_kinds kinds-valid)),
  rw kinds-bytes (ap (λ (x : Option Image). at_text x 7) (parse-of all_kinds kinds-valid)),
  rw kinds-bytes (ap (λ (x : Option Image). at_text x 0xffffffffffffffff) (parse-of all_kinds kinds-valid)),
)

pub none-at : at_of [] 0 ≡ ascii "refused 11\n"
unfolding at_of parse image_form head_form repeat each unle get_chain
none-at = refl
