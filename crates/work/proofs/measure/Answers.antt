-- The stream bytes and the count of signals that have some, of the first window and later ones, are the data length (`measured-data`).
use Prim.Native.Nat.{ℕ, ◌+◌, ◌-◌, ◌≤◌}
use mathlib.Core.Path.{◌≡◌, sym, ◌∙◌}
use mathlib.Core.Bool.{true}
use mathlib.Core.Option.{Option}
use mathlib.Core.List.{List}
use native.Mathlib.Omega.{arith}
use lib.ListN.{length}
use Rattle.lists.specs.Choice.{is_some}
use Rattle.lists.proofs.ChoiceLaws.{some-there}
use Rattle.recording.specs.Work.{Item, items_of, items_in}
use Rattle.work.specs.Counting.{sums, scanned}
use Rattle.work.proofs.WorkLaws.{items-bytes}
use Rattle.work.proofs.MeasureLaws.{scan-divides, scan-sums, records-below, changed-le, measured-data}
use Rattle.work.proofs.measure.Goals as goal
use Rattle.work.proofs.measure.Goals.{In_ok-found}

abbrev items : (signals : ℕ) (work : List ℕ) → Option (List Item)
items n w = items_of (length w) n w

-- what the pass found
found : (c : goal.In_ok-found) → let a = c.args in sums c.in_ok-found.found.bytes c.in_ok-found.found.signals ≡ scanned 0 (items a.signals a.work.now)
found c = sym c.in_ok-found.was ∙ c.scan.ensures

divides : (c : goal.In_ok-found) → let a = c.args in is_some (items a.signals a.work.now) ≡ true
divides c = let a = c.args in scan-divides _ _ 0 (items a.signals a.work.now) (found c)

-- it lies in the work, but for the signals of a window
small : (c : goal.In_ok-found) → c.in_ok-found.found.bytes + c.in_ok-found.found.signals ≤ length c.args.work.now + 65536
small c =
    let a = c.args in
    let o = items a.signals a.work.now in
    let s = scan-sums _ _ 0 o (found c) in
    let b = items-bytes (length a.work.now) a.signals a.work.now (items_in a.signals a.work.now) (some-there o (divides c)) in
    omega (arith, s.0, s.1, b, changed-le 0 65536 (items_in a.signals a.work.now))

pub overflow_add-result : goal.overflow_add-result
overflow_add-result c = omega (arith, small (goal.at.overflow_add-result c).In_ok-found)

pub overflow_add-result-2 : goal.overflow_add-result-2
overflow_add-result-2 c =
    let a = c.args in
    omega (arith, small (goal.at.overflow_add-result-2 c).In_ok-found, c.count_later.ensures, changed-le 65536 (a.signals - 65536) (items_in a.signals a.work.now))

pub returns : goal.returns
returns c =
    let a = c.args in
    measured-data a.signals _ _ _ (items a.signals a.work.now) (found (goal.at.returns c).In_ok-found) c.count_later.ensures
    (records-below a.signals a.work.now (divides (goal.at.returns c).In_ok-found))
