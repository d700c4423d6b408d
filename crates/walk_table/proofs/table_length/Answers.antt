-- n and what the blocks from this number on add is the length.
use Prim.Native.Nat.{ℕ}
use mathlib.Core.Path.{◌≡◌, ap, ◌∙◌}
use native.Mathlib.Numerals.{add-one}
use native.Mathlib.Omega.{arith}
use lib.ListN.{length, drop}
use Rattle.walk.specs.Walk.{end_held, added_times}
use Rattle.walk.specs.Open.{image_of}
use Rattle.walk_table.proofs.TableLaws.{Turn, turn_at, table-in, joined_end}
use Rattle.walk_table.proofs.table_length.Goals as goal
use Rattle.walk_table.proofs.table_length.Goals.{After-block_count-number-end, In-loop-number}

turn : (c : goal.In-loop-number) → Turn (end_held c.loop-number.end) c.loop-number.number c.args.image.bytes.now
turn c =
    let a = c.args.image in
    turn_at (end_held c.loop-number.end) c.loop-number.number a.bytes.now a.fits a.opened (omega (arith, c.block_count-number-end.ensures))

pub overflow_add-n : goal.overflow_add-n
overflow_add-n c =
    let t = turn (goal.at.overflow_add-n c).In-loop-number in
    omega (arith, t.count, t.small, c.loop-number.invariant.1, c.time_count.ensures, c.shared.ensures)

pub loop-number-preserved : goal.loop-number-preserved
loop-number-preserved c =
    let l = c.loop-number in
    let t = turn (goal.at.loop-number-preserved c).In-loop-number in (
      rw (add-one l.number) c.end-at.ensures,
      rw (add-one l.number, c.last_time.ensures) (omega (arith, t.count, l.invariant.1, c.time_count.ensures, c.shared.ensures)),
    )

pub returns : goal.returns
returns c =
    let l = c.loop-number in
    let a = c.args.image in
    let bs = (image_of a).blocks in
    let e : l.number ≡ length bs = omega (arith, c.block_count-number-end.ensures) in
    let z : length (added_times (end_held l.end) (drop l.number bs)) ≡ 0 = ap length
    (ap (λ (k : ℕ). added_times (end_held l.end) (drop k bs)) e ∙ joined_end (end_held l.end) bs) in
    omega (arith, ap length (table-in a.bytes.now a.fits a.opened))
