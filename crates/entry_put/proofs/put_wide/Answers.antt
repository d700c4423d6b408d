-- Zeros, then the packed bytes, then the class.
use Prim.Native.Nat.{◌+◌}
use mathlib.Core.Path.{◌≡◌}
use native.Mathlib.Omega.{arith}
use lib.Seq.{sets}
use Rattle.value.specs.Class.{class_number}
use Rattle.value.proofs.ClassLaws.{number_small}
use Rattle.loaded.specs.EntryBytes.{filled_to}
use Rattle.entry.specs.Length.{wide_length}
use Rattle.entry.specs.Read.{packed_before}
use Rattle.entry.proofs.WideLaws.{own-fewer}
use Rattle.entry_put.proofs.PutLaws.{part_room, zeros-then, carry-room, carry-then}
use Rattle.entry_put.proofs.put_wide.Goals as goal
use Rattle.entry_put.proofs.put_wide.Goals.{After-put_part-end}

-- what stands after both writings
both : (c : goal.After-put_part-end) →
    let a = c.args in
    (c.put_part-end.result ≡ a.at + wide_length a.width (class_number a.class))
    × (c.put_part-end.new.out ≡ sets a.out.now a.at (filled_to (wide_length a.width (class_number a.class)) (packed_before a.width (class_number a.states) a.next a.stream.now)))
both c =
    let p = c in
    let a = p.args in
    zeros-then a.width (class_number a.class) (class_number a.states) a.next a.stream.now p.requires.width_nonzero.0 p.requires.width_nonzero.1 (number_small a.class) p.requires.width_nonzero.2
    a.out.now a.at p.requires.class_in_bounds
    _ _ _ _ _ _ c.bytes_required-own.ensures c.wide_len-size.ensures
    c.put_same-start.ensures.0 c.put_same-start.ensures.1 c.put_part-end.ensures.0 c.put_part-end.ensures.1

pub overflow_sub-size : goal.overflow_sub-size
overflow_sub-size c =
    let p = c in
    let a = p.args in
    omega (
      arith,
      own-fewer a.width (class_number a.class) (class_number a.states) a.next a.stream.now p.requires.width_nonzero.0 p.requires.width_nonzero.1
          (number_small a.class) p.requires.width_nonzero.2,
    )

pub put_part-end-requires : goal.put_part-end-requires
put_part-end-requires c =
    let p = c in
    let a = p.args in
    part_room a.width (class_number a.class) (class_number a.states) a.next a.stream.now p.requires.width_nonzero.0 p.requires.width_nonzero.1 (number_small a.class) p.requires.width_nonzero.2
    a.out.now a.at p.requires.class_in_bounds
    _ _ _ _ c.bytes_required-own.ensures c.wide_len-size.ensures
    c.put_same-start.ensures.0 c.put_same-start.ensures.1

pub carry_class-requires : goal.carry_class-requires
carry_class-requires c =
    let p = c in
    let a = p.args in
    carry-room a.width (class_number a.class) (class_number a.states) a.next a.stream.now p.requires.width_nonzero.0 p.requires.width_nonzero.1 (number_small a.class) p.requires.width_nonzero.2
    a.out.now a.at p.requires.class_in_bounds _ (both (goal.at.carry_class-requires c).After-put_part-end).1

pub returns : goal.returns
returns c =
    let p = c in
    let a = p.args in (
      (both (goal.at.returns c).After-put_part-end).0,
      carry-then a.width (class_number a.class) (class_number a.states) a.next a.stream.now p.requires.width_nonzero.0 p.requires.width_nonzero.1 (number_small a.class) p.requires.width_nonzero.2
          a.out.now a.at p.requires.class_in_bounds _ _ (both (goal.at.returns c).After-put_part-end).1 c.carry_class.ensures,
    )
