-- What the calls of the bench sheet's skip say: the same answers and count as the recorder's (recording/proofs/Cases: skip-stands).
-- Assumes nothing.
use mathlib.Core.Path.{◌≡◌, refl}
use mathlib.Core.Bool.{Bool, true, false}
use mathlib.Core.List.{List, [], ◌∷◌}
use mathlib.Core.Option.{some, none}
use lib.ListN.{replicate}
use Rattle.lists.specs.Last.{last_or}
use Rattle.lists.specs.Same.{same}
use Rattle.value.specs.Symbol.{symbol_of}
use Rattle.value.specs.Class.{class_of_all, all_symbols}
use Rattle.vcd.specs.Vcd.{symbols_in, vcd_bit}
use Rattle.packed.specs.Packed.{number_of, digits, unpacked}
use Rattle.packed.specs.Raw.{raw_symbols}
use Rattle.signal.specs.Content.{vcd, raw, symbols, bits, real, happened, decode}
use Rattle.signal.specs.declared.kind.SignalEncoding.{SignalEncoding}
use Rattle.signal.specs.declared.kind.SignalEncoding.TheVariants.{BitVector, Real, Absent}
use Rattle.stream.specs.Entries.{entry}
use Rattle.recording.specs.Calls.{time, change, way_of, taken, back, recorded, skipped, silent}
use Rattle.recording.specs.Calls as calls
use Rattle.recording.specs.Runs.{skips, sames, two_probes, returns}
use Rattle.history.specs.History.{no_history, tell, tell_all, list_of, kept_after, kept, kept_of, top_of, class_of, newest_up_to, shown_at}

-- the history of `skips`, none refused: the same answers and count; the second 1 repeats the first and is not kept
abbrev none-refused : List Bool
none-refused = false ∷ false ∷ false ∷ false ∷ false ∷ false ∷ false ∷ false ∷ []

pub history-answers : (tell_all (BitVector 1 ∷ []) 1 no_history skips none-refused).answers
    ≡ taken ∷ recorded ∷ back ∷ skipped ∷ calls.same ∷ skipped ∷ taken ∷ recorded ∷ []
unfolding symbol_of class_of_all symbols_in last_or vcd_bit decode way_of tell tell_all
history-answers = refl

pub history-keeps : let h = (tell_all (BitVector 1 ∷ []) 1 no_history skips none-refused).last in
    (h.times ≡ 10 ∷ 11 ∷ []) × (h.skips.zero.count ≡ 2) × (kept_of h 0 ≡ entry 0 (symbols (1 ∷ [])) ∷ []) × (class_of h 0 ≡ 0) × (class_of h 1 ≡ 2)
unfolding symbol_of class_of_all symbols_in last_or vcd_bit decode way_of tell tell_all same list_of kept_after kept top_of
history-keeps = (refl, refl, refl, refl, refl)

-- document 02, (j): an equal time leaves the skip in edition 1, and ends it in edition 2, by the same answers and counts as the recorder's
-- (recording/proofs/Cases: same-stands, same_ends)
pub same-told : let h = tell_all (BitVector 1 ∷ []) 1 no_history sames (replicate 10 false) in
    (h.answers ≡ taken ∷ back ∷ skipped ∷ calls.same ∷ skipped ∷ calls.same ∷ skipped ∷ back ∷ back ∷ skipped ∷ [])
    × (h.last.times ≡ 10 ∷ []) × (h.last.skips.zero.count ≡ 4) × (kept_of h.last 0 ≡ [])
unfolding symbol_of class_of_all symbols_in last_or vcd_bit decode way_of tell tell_all list_of kept
same-told = (refl, refl, refl, refl)

pub same-told-in-two : let h = tell_all (BitVector 1 ∷ []) 2 no_history sames (replicate 10 false) in
    (h.answers ≡ taken ∷ back ∷ skipped ∷ calls.same ∷ recorded ∷ calls.same ∷ recorded ∷ back ∷ back ∷ skipped ∷ [])
    × (h.last.times ≡ 10 ∷ []) × (h.last.skips.zero.count ≡ 2) × (kept_of h.last 0 ≡ entry 0 (symbols (0 ∷ [])) ∷ entry 0 (symbols (1 ∷ [])) ∷ [])
unfolding symbol_of class_of_all symbols_in last_or vcd_bit decode way_of tell tell_all same list_of kept_after kept
same-told-in-two = (refl, refl, refl, refl)

-- document 02, (k): a skip and a count for each probe, by the same answers and counts as the recorder's (recording/proofs/ProbeCases: probes-apart,
-- returns-apart), fed which calls are refused
abbrev two_kinds : List SignalEncoding
two_kinds = BitVector 1 ∷ BitVector 1 ∷ Absent ∷ []

pub probes-told : let f = false in
    let r = true in
    let h = tell_all two_kinds 1 no_history two_probes (r ∷ f ∷ f ∷ f ∷ f ∷ f ∷ f ∷ f ∷ r ∷ f ∷ f ∷ f ∷ r ∷ r ∷ r ∷ f ∷ []) in
    (h.answers
    ≡ silent ∷ taken ∷ calls.same ∷ back ∷ skipped ∷ skipped ∷ taken ∷ skipped ∷ silent ∷ skipped ∷ calls.same ∷ taken ∷ silent ∷ silent ∷ silent ∷ recorded ∷ [])
    × (h.last.times ≡ 5 ∷ 6 ∷ 7 ∷ []) × (h.last.skips.zero.count ≡ 0) × (h.last.skips.one.count ≡ 4)
    × (kept_of h.last 0 ≡ []) × (kept_of h.last 1 ≡ entry 2 (symbols (1 ∷ [])) ∷ [])
unfolding symbol_of class_of_all symbols_in last_or vcd_bit decode way_of tell tell_all list_of kept_after kept
probes-told = (refl, refl, refl, refl, refl, refl)

pub returns-told : let one = tell_all two_kinds 1 no_history returns (replicate 9 false) in
    let two = tell_all two_kinds 2 no_history returns (replicate 9 false) in
    (one.answers ≡ taken ∷ back ∷ calls.same ∷ skipped ∷ taken ∷ skipped ∷ calls.same ∷ skipped ∷ recorded ∷ [])
    × (two.answers ≡ taken ∷ back ∷ calls.same ∷ skipped ∷ taken ∷ skipped ∷ calls.same ∷ recorded ∷ recorded ∷ [])
    × (one.last.skips.one.count ≡ 3) × (two.last.skips.one.count ≡ 2)
unfolding symbol_of class_of_all symbols_in last_or vcd_bit decode way_of tell tell_all
returns-told = (refl, refl, refl, refl)

-- -0.0 and 0.0 are two contents; an event after an event is kept
pub zeros_differ : let h =
    (tell_all (Real ∷ BitVector 0 ∷ []) 1 no_history (time 0 1 ∷ change 0 0 (real 0) ∷ change 0 0 (real 0x8000000000000000) ∷ change 0 1 (vcd []) ∷ change 0 1 (vcd []) ∷ [])
    (false ∷ false ∷ false ∷ false ∷ false ∷ [])).last in
    (kept_of h 0 ≡ entry 0 (bits 0) ∷ entry 0 (bits 0x8000000000000000) ∷ []) × (kept_of h 1 ≡ entry 0 happened ∷ entry 0 happened ∷ [])
unfolding last_or decode way_of tell tell_all same list_of kept_after kept
zeros_differ = (refl, refl)

-- a raw value that repeats the change before it is not kept, and its claim counts for the class
pub claim-counts : let h =
    (tell_all (BitVector 1 ∷ []) 1 no_history (time 0 1 ∷ change 0 0 (vcd (49 ∷ [])) ∷ time 0 2 ∷ change 0 0 (raw 2 (0x01 ∷ [])) ∷ []) (false ∷ false ∷ false ∷ false ∷ [])).last in
    (kept_of h 0 ≡ entry 0 (symbols (1 ∷ [])) ∷ []) × (class_of h 0 ≡ 2)
unfolding symbol_of class_of_all symbols_in last_or vcd_bit number_of digits unpacked raw_symbols all_symbols decode way_of tell tell_all same list_of kept_after kept top_of
claim-counts = (refl, refl)

-- two times, an event at the first and two at the second: before the first none, at its time it, from the second time on the last
pub events-shown : let h =
    (tell_all (BitVector 0 ∷ []) 1 no_history (time 0 5 ∷ change 0 0 (vcd []) ∷ time 0 7 ∷ change 0 0 (vcd []) ∷ change 0 0 (vcd []) ∷ []) (false ∷ false ∷ false ∷ false ∷ false ∷ [])).last in
    (shown_at h 0 4 ≡ none) × (shown_at h 0 5 ≡ some (0, entry 0 happened)) × (shown_at h 0 6 ≡ some (0, entry 0 happened)) × (shown_at h 0 7 ≡ some (2, entry 1 happened))
unfolding last_or decode way_of tell tell_all same list_of kept_after kept newest_up_to
events-shown = (refl, refl, refl, refl)

-- a repeat is not kept: from its time on the change that it repeats is shown still
pub repeat-shown : let h =
    (tell_all (BitVector 1 ∷ []) 1 no_history (time 0 5 ∷ change 0 0 (vcd (49 ∷ [])) ∷ time 0 7 ∷ change 0 0 (vcd (49 ∷ [])) ∷ []) (false ∷ false ∷ false ∷ false ∷ [])).last in
    (shown_at h 0 4 ≡ none) × (shown_at h 0 7 ≡ some (0, entry 0 (symbols (1 ∷ []))))
unfolding symbol_of class_of_all symbols_in last_or vcd_bit decode way_of tell tell_all same list_of kept_after kept newest_up_to
repeat-shown = (refl, refl)
