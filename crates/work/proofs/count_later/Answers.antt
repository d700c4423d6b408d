-- The windows passed are counted (`changed-more`); past the last signal there is nothing to count (`changed-end`).
use Prim.Native.Nat.{ℕ, ◌+◌, ◌-◌, ◌*◌}
use mathlib.Core.Path.{◌≡◌, sym, ap, ◌∙◌}
use native.Mathlib.Omega.{arith}
use Rattle.recording.specs.Work.{items_in}
use Rattle.work.specs.Counting.{changed}
use Rattle.work.proofs.MeasureLaws.{records-below, changed-none, changed-more, changed-le, changed-end}
use Rattle.work.proofs.count_later.Goals as goal
use Rattle.work.proofs.count_later.Goals.{After-count_window-count}

-- what the window counts
counted : (c : goal.After-count_window-count) → let a = c.args in let d = 65536 * c.loop-window.window - 65536 in
    c.count_window-count.result ≡ changed (65536 + d) 65536 (items_in a.signals a.work.now)
counted c =
    let a = c.args in
    let l = c.loop-window in
    let b : l.window * 65536 ≡ 65536 + (65536 * l.window - 65536) = omega (arith, l.invariant.0) in
    c.count_window-count.ensures ∙ ap (λ (b : ℕ). changed b 65536 (items_in a.signals a.work.now)) b

pub loop-window-init : goal.loop-window-init
loop-window-init c = (omega arith, sym (changed-none _ _))

pub overflow_add-count : goal.overflow_add-count
overflow_add-count c =
    let l = c.loop-window in
    let a = c.args in
    let is = items_in a.signals a.work.now in
    let d : ℕ = 65536 * l.window - 65536 in
    omega (arith, l.invariant.1, counted c, changed-le 65536 d is, changed-le (65536 + d) 65536 is)

pub loop-window-preserved : goal.loop-window-preserved
loop-window-preserved c =
    let l = c.loop-window in
    let a = c.args in
    let d : ℕ = 65536 * l.window - 65536 in
    let is = items_in a.signals a.work.now in
    let e : 65536 * (l.window + 1) - 65536 ≡ d + 65536 = omega (arith, l.invariant.0) in
    (omega arith, omega (arith, l.invariant.1, counted c, changed-more 65536 d 65536 is, ap (λ (k : ℕ). changed 65536 k is) e))

pub returns : goal.returns
returns c =
    let l = c.loop-window in
    let a = c.args in
    let n : ℕ = a.signals in
    let w = c.div_ceil-windows.ensures in
    l.invariant.1
    ∙ changed-end n 65536 (n - 65536) (65536 * l.window - 65536) (items_in n a.work.now) (records-below n a.work.now c.requires) (omega arith)
    (omega (arith, l.invariant.0, c.from.ensures, w))
