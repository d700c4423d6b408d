-- What the blocks from this number on add, written from p on, gives what the whole table gives.
use Prim.Native.Nat.{ℕ}
use mathlib.Core.Path.{◌≡◌, sym, ap, ◌∙◌}
use mathlib.Core.List.{[]}
use native.Mathlib.Numerals.{add-one}
use native.Mathlib.Omega.{arith}
use lib.ListN.{length, drop}
use lib.Seq.{sets}
use Rattle.walk.specs.Walk.{end_held, added_times}
use Rattle.walk.specs.Open.{image_of}
use Rattle.walk_table.proofs.TableLaws.{Turn, turn_at, table-in, joined_end, joined-sets}
use Rattle.walk_table.proofs.put_table.Goals as goal
use Rattle.walk_table.proofs.put_table.Goals.{In-loop-number}

turn : (c : goal.In-loop-number) → Turn (end_held c.loop-number.end) c.loop-number.number c.args.image.bytes.now
turn c =
    let a = c.args.image in
    turn_at (end_held c.loop-number.end) c.loop-number.number a.bytes.now a.fits a.opened (omega (arith, c.block_count-number-end.ensures))

pub put_times-p-requires : goal.put_times-p-requires
put_times-p-requires c =
    let l = c.loop-number in
    let a = c.args.image in
    let t = turn (goal.at.put_times-p-requires c).In-loop-number in
    let e = c.shared.ensures in (
      omega (arith, t.few, e),
      omega (arith, t.count, l.invariant.1, l.invariant.2, c.requires, ap length (table-in a.bytes.now a.fits a.opened), e),
    )

pub loop-number-preserved : goal.loop-number-preserved
loop-number-preserved c =
    let l = c.loop-number in
    let t = turn (goal.at.loop-number-preserved c).In-loop-number in
    let d = c.put_times-p in
    let bs = (image_of c.args.image).blocks in (
      rw (add-one l.number) c.end-at.ensures,
      d.auto.out ∙ l.invariant.1,
      rw (add-one l.number, c.last_time.ensures) (omega (arith, t.count, l.invariant.2, d.ensures.0, c.shared.ensures)),
      rw (add-one l.number)
          (joined-sets (end_held l.end) l.number l.p d.result _ _ bs l.out _ (omega (arith, c.block_count-number-end.ensures)) c.shared.ensures
          c.last_time.ensures d.ensures.0 d.ensures.1
          ∙ l.invariant.3),
    )

pub returns : goal.returns
returns c =
    let l = c.loop-number in
    let a = c.args.image in
    let bs = (image_of a).blocks in
    let e : l.number ≡ length bs = omega (arith, c.block_count-number-end.ensures) in
    let z : added_times (end_held l.end) (drop l.number bs) ≡ [] = ap (λ (k : ℕ). added_times (end_held l.end) (drop k bs)) e ∙ joined_end (end_held l.end) bs in
    ap (sets l.out l.p) (sym z) ∙ l.invariant.3 ∙ ap (sets c.args.out.now 0) (sym (table-in a.bytes.now a.fits a.opened))
