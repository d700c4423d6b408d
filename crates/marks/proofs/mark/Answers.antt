-- `marks::mark` meets its contract: a weight is added to a byte that lacks it (`mark-added`), and where the byte has it nothing changes
-- (`mark-again`).
-- Assumes nothing.
use Prim.Native.Nat.{◌/◌, ◌%◌}
use mathlib.Core.Path.{refl}
use native.Mathlib.Omega.{arith}
use lib.ListN.{get_or, length-set}
use lib.Pow.{pow_pos}
use Rattle.marks.proofs.MarksLaws.{bit-fits, mark-added, mark-again}
use Rattle.marks.proofs.mark.Goals as goal

pub nonzero_div-byte-2 : goal.nonzero_div-byte-2
nonzero_div-byte-2 c = rw c.weight-bit.ensures (pow_pos (c.args.i % 8))

pub overflow_add-map : goal.overflow_add-map
overflow_add-map c =
    let a = c.args in
    let byte = (c.slice_known-2-1.given (a.i / 8)).fits in
    record { fits = rw c.weight-bit.ensures (bit-fits (get_or a.map.now (a.i / 8) 0) (a.i % 8) byte (omega arith) (rw c.weight-bit.ensures at c.if-byte-bit-eq0.true)) }

pub returns-then-byte-bit-eq0 : goal.returns-then-byte-bit-eq0
returns-then-byte-bit-eq0 c =
    let s = c in
    let a = s.args in
    let e = c.weight-bit.ensures in
    (simp length-set, λ j. rw e (mark-added a.map.now a.i j s.requires (rw e at c.if-byte-bit-eq0.true)))

pub returns-else-byte-bit-eq0 : goal.returns-else-byte-bit-eq0
returns-else-byte-bit-eq0 c =
    let a = c.args in
    (refl, λ j. mark-again a.map.now a.i j (rw c.weight-bit.ensures at c.if-byte-bit-eq0.false))
