-- No change takes fewer bytes in a stream than the least of its kind, so a stream has room for no more changes than that.
-- Assumes nothing.
use Prim.Native.Nat.{ℕ, zero, suc, ◌+◌, ◌-◌, ◌*◌, ◌≤◌, ◌<◌}
use mathlib.Core.Path.{◌≡◌, refl, ap, ◌∙◌}
use mathlib.Core.List.{List, [], ◌∷◌, ◌++◌}
use mathlib.Core.Option.{Option, some, none}
use native.Mathlib.Omega.{arith}
use lib.ListN.{length, length-append}
use Rattle.lists.proofs.ChoiceLaws.{pick-one}
use Rattle.numbers.specs.Leb128.{leb_of}
use Rattle.numbers.specs.LittleEndian.{le}
use Rattle.numbers.proofs.Leb128Laws.{leb-any}
use Rattle.numbers.proofs.LittleEndianLaws.{length-le}
use Rattle.value.specs.Class.{class_of_all}
use Rattle.value.proofs.ClassLaws.{class-all-small}
use Rattle.packed.specs.Packed.{packed_length, packed}
use Rattle.packed.proofs.PackedLaws.{length-packed}
use Rattle.signal.specs.declared.kind.SignalEncoding.{SignalEncoding}
use Rattle.signal.specs.declared.kind.SignalEncoding.TheVariants.{BitVector, Real, Absent}
use Rattle.signal.specs.Content.{Content, happened, symbols, bits, symbols_of, ContentFits}
use Rattle.stream.specs.Stream.{change_bytes}
use Rattle.stream.specs.Entries.{Entry, stream_bytes}
use Rattle.image.specs.Block.{Part}
use Rattle.codec.specs.Valid.{EntriesFit, OptionFits}
use Rattle.loaded.specs.Opener.{stream_in}
use Rattle.loaded.specs.Loading.{entries_in}
use Rattle.loaded.specs.EntryBytes.{entry_bytes}
use Rattle.entry.specs.Length.{class_byte, wide_length, entry_length}
use Rattle.entry.proofs.LengthLaws.{packed-fewer, entry_length_lem}
use Rattle.loader_measure.specs.Least.{least_length}

pub least-any : (k : SignalEncoding) → 1 ≤ least_length k
least-any (BitVector zero) = omega arith
least-any (BitVector (suc zero)) = omega arith
least-any (BitVector (suc (suc w))) = omega arith
least-any Real = omega arith
least-any Absent = omega arith

-- what the code answers, by the width
pub least-narrow : (k : SignalEncoding) (w : ℕ) → k ≡ BitVector w → w < 2 → 1 ≡ least_length k
least-narrow k zero e h = rw e refl
least-narrow k (suc zero) e h = rw e refl
least-narrow k (suc (suc w)) e h = absurd (omega arith)

pub least-wide : (k : SignalEncoding) (w n : ℕ) → k ≡ BitVector w → 1 < w → n ≡ packed_length w 0 → 1 + n ≡ least_length k
least-wide k zero n e h q = absurd (omega arith)
least-wide k (suc zero) n e h q = absurd (omega arith)
least-wide k (suc (suc w)) n e h q = rw e (ap (λ (v : ℕ). 1 + v) q)

wide-least : (w n c : ℕ) (s : List ℕ) → length s ≡ w → c ≡ class_of_all s → 1 + packed_length w 0 ≤ length (leb_of n ++ packed c s)
wide-least w n c s e f =
    let p : length (packed c s) ≡ packed_length w c = length-packed c s ∙ ap (λ (v : ℕ). packed_length v c) e in
    let q : c ≤ 2 = omega (arith, class-all-small s) in
    omega (arith, length-append (leb_of n) (packed c s), leb-any n, packed-fewer w 0 c (omega arith) q)

pub change-least : (k : SignalEncoding) (d : ℕ) (c : Content) → ContentFits k c → least_length k ≤ length (change_bytes k d c)
unfolding change_bytes
change-least (BitVector zero) d c f = omega (arith, leb-any d)
change-least (BitVector (suc w)) d happened f = absurd f
change-least (BitVector (suc zero)) d (symbols s) f = leb-any _
change-least (BitVector (suc (suc w))) d (symbols s) f = wide-least (suc (suc w)) _ (class_of_all s) s f.0 refl
change-least (BitVector (suc w)) d (bits b) f = absurd f
change-least Real d happened f = absurd f
change-least Real d (symbols s) f = absurd f
change-least Real d (bits b) f = omega (arith, length-append (leb_of d) (le 8 b), leb-any d, length-le 8 b)
change-least Absent d c f = absurd f

stream-least : (k : SignalEncoding) (n j i top : ℕ) (es : List Entry) → EntriesFit k n i top es → length es * least_length k ≤ length (stream_bytes k j es)
unfolding stream_bytes
stream-least k n j i top [] f = omega arith
stream-least k n j i top (e ∷ es) f =
    let c = change-least k (e.index - j) e.content f.0.content in
    let r = stream-least k n e.index e.index top es f.1 in
    omega (arith, length-append (change_bytes k (e.index - j) e.content) (stream_bytes k e.index es))

pub part-least : (k : SignalEncoding) (n : ℕ) (p : Option (Part (List Entry))) → OptionFits k n p → length (entries_in p) * least_length k ≤ length (stream_in k p)
part-least k n none f = omega arith
part-least k n (some p) f = stream-least k n 0 0 p.top p.stream f.entries

-- ---- an entry has at most four times the bytes of its change

wide-most : (w c : ℕ) → c ≤ 2 → wide_length w c ≤ 4 * (1 + packed_length w 0)
wide-most w zero z = omega (arith, pick-one (class_byte w 0))
wide-most w (suc zero) z = omega (arith, pick-one (class_byte w 1))
wide-most w (suc (suc zero)) z = omega (arith, pick-one (class_byte w 2))
wide-most w (suc (suc (suc c))) z = absurd (omega arith)

pub entry-most : (k : SignalEncoding) (c : ℕ) → c ≤ 2 → entry_length k c ≤ 4 * least_length k
unfolding entry_length
entry-most (BitVector zero) c z = omega arith
entry-most (BitVector (suc zero)) c z = omega arith
entry-most (BitVector (suc (suc w))) c z = wide-most (suc (suc w)) c z
entry-most Real c z = omega arith
entry-most Absent c z = omega arith

pub entry-change : (k : SignalEncoding) (c d : ℕ) (a : Content) → ContentFits k a → class_of_all (symbols_of a) ≤ c → c ≤ 2 → length (entry_bytes k c a) ≤ 4 * length (change_bytes k d a)
entry-change k c d a f l h = omega (arith, entry_length_lem k c a f l h, entry-most k c h, change-least k d a f)
