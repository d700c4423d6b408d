-- A record counts where it is the first with bytes of a signal of the window: `unmarked` without it is one less, and else the same.
use Prim.Native.Nat.{◌-◌}
use mathlib.Core.Path.{◌≡◌, ◌∙◌}
use mathlib.Core.Bool.{true}
use native.Mathlib.Nat.{zero-add}
use native.Mathlib.Omega.{arith}
use Rattle.marks.specs.Marks.{mark_at}
use Rattle.work.proofs.MeasureLaws.{unmarked-empty, unmarked-outside, unmarked-marked, unmarked-first}
use Rattle.work.proofs.count_record.Goals as goal
use Rattle.work.proofs.count_record.Goals.{then-signal-base-via-then-signal-base, then-signal-base-via-else-signal-base+then-signal-base-ge-WINDOW}

pub returns-then-size-eq0 : goal.returns-then-size-eq0
returns-then-size-eq0 c =
    let s = c in
    let a = s.args in
    (s.requires, omega arith, λ stream rest e. zero-add _ ∙ unmarked-empty (mark_at a.map.now) a.base a.signal stream rest (e ∙ c.if-size-eq0.true))

pub returns-then-signal-base : goal.returns-then-signal-base
returns-then-signal-base c =
    let a = c.args in
    let same = c.from-signal.ensures in (
      c.requires,
      omega arith,
      elim c.then-signal-base.branch [
        | then-signal-base-via-then-signal-base w ↦
            λ stream rest e. zero-add _ ∙ unmarked-outside (mark_at a.map.now) a.base a.signal stream rest (λ i l q. omega (arith, same))
        | then-signal-base-via-else-signal-base+then-signal-base-ge-WINDOW w ↦
            λ stream rest e. zero-add _ ∙ unmarked-outside (mark_at a.map.now) a.base a.signal stream rest (λ i l q. omega (arith, same))
      ],
    )

pub returns-then-is_marked : goal.returns-then-is_marked
returns-then-is_marked c =
    let s = c in
    let a = s.args in
    let same = c.from-signal.ensures in
    let there : mark_at a.map.now (c.from-signal.result - a.base) ≡ true = cc in
    (s.requires, omega arith, λ stream rest e. zero-add _ ∙ unmarked-marked (mark_at a.map.now) a.base a.signal stream rest (rw same at there))

pub returns : goal.returns
returns c =
    let s = c in
    let a = s.args in
    let same = c.from-signal.ensures in
    let m = c.mark in (
      m.ensures.0 ∙ s.requires,
      omega arith,
      λ stream rest e.
          unmarked-first (mark_at a.map.now) (mark_at m.new.map) a.base a.signal stream rest (omega (arith, same)) (omega (arith, same)) (omega arith) (cc)
          (rw same at m.ensures.1),
    )
