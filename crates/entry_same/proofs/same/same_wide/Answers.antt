-- By the class, then by the bytes.
use Prim.Native.Nat.{◌+◌, ◌-◌, ◌≤◌}
use mathlib.Core.Path.{◌≡◌, ◌∙◌, sym}
use mathlib.Core.Bool.{Bool}
use native.Mathlib.Omega.{arith}
use lib.ListN.{length, take, drop}
use Rattle.lists.specs.Same.{same}
use Rattle.value.specs.Class.{class_number}
use Rattle.entry.specs.Read.{wide_read}
use Rattle.entry_same.proofs.SameLaws.{wide-differs, both-inside, parts_same, same_none, last_differs, one_same}
use Rattle.entry_same.proofs.same.same_wide.Goals as goal
use Rattle.entry_same.proofs.same.same_wide.Goals.{After-bytes_required-size}

-- the values have one class
one-class : (c : goal.After-bytes_required-size) → class_number c.args.top ≡ class_number c.args.states
one-class c = sym c.number.ensures ∙ c.if-number.false ∙ c.number-2.ensures

-- both stand in the image
inside : (c : goal.After-bytes_required-size) → let a = c.args in let s = c.bytes_required-size.result in
    ((a.end - s + s ≤ length a.image.now) × (a.next - s + s ≤ length a.image.now)) × (s ≤ a.end) × (s ≤ a.next)
inside c =
    let p = c in
    let a = p.args in
    both-inside a.width (class_number a.top) (class_number a.states) a.end a.next a.image.now a.image.now p.requires.0 p.requires.1 c.bytes_required-size.result
    (one-class c) c.bytes_required-size.ensures

-- what is found of the bytes holds of the symbols
found : (c : goal.After-bytes_required-size) (r : Bool) → let a = c.args in let s = c.bytes_required-size.result in
    r ≡ same (take s (drop (a.end - s) a.image.now)) (take s (drop (a.next - s) a.image.now))
    → r ≡ same (wide_read a.width (class_number a.top) a.end a.image.now) (wide_read a.width (class_number a.states) a.next a.image.now)
found c r =
    let p = c in
    let a = p.args in
    parts_same a.width (class_number a.top) (class_number a.states) a.end a.next a.image.now a.image.now p.requires.0 p.requires.1 c.bytes_required-size.result r
    (one-class c) c.bytes_required-size.ensures

pub returns-then-number : goal.returns-then-number
returns-then-number c =
    let p = c in
    let a = p.args in
    wide-differs a.width (class_number a.top) (class_number a.states) a.end a.next a.image.now a.image.now p.requires.0 p.requires.1
    (λ e. c.if-number.true (c.number.ensures ∙ e ∙ sym c.number-2.ensures))

pub returns-then-size-eq0 : goal.returns-then-size-eq0
returns-then-size-eq0 c =
    let a = c.args in
    let z = c.if-size-eq0.true in
    found (goal.at.returns-then-size-eq0 c).After-bytes_required-size _ (rw z (sym (same_none (a.end - 0) (a.next - 0) a.image.now a.image.now)))

pub overflow_sub-end : goal.overflow_sub-end
overflow_sub-end c = let i = inside (goal.at.overflow_sub-end c).After-bytes_required-size in omega (arith, i.1, c.if-size-eq0.false)

pub returns-then-image-end : goal.returns-then-image-end
returns-then-image-end c =
    let a = c.args in
    let d = (goal.at.returns-then-image-end c).After-bytes_required-size in
    let i = inside d in
    found d _ (last_differs c.bytes_required-size.result a.end a.next a.image.now (omega (arith, c.if-size-eq0.false)) i.1 i.2 c.if-image-end.true)

pub returns-then-size-eq1 : goal.returns-then-size-eq1
returns-then-size-eq1 c =
    let a = c.args in
    let d = (goal.at.returns-then-size-eq1 c).After-bytes_required-size in
    let i = inside d in
    let o = c.if-size-eq1.true in
    found d _ (rw o (one_same a.end a.next a.image.now (omega (arith, i.1, o)) (omega (arith, i.0.0, i.1)) (omega (arith, i.2, o)) (omega (arith, i.0.1, i.2)) c.if-image-end.false))

pub same_few-requires : goal.same_few-requires
same_few-requires c =
    let r = c.requires in record {
      few = (omega arith, omega arith);
      places = (omega arith, omega (arith, r.0.within), omega arith, omega (arith, r.1.within));
    }

pub returns-then-next-ge8 : goal.returns-then-next-ge8
returns-then-next-ge8 c = found (goal.at.returns-then-next-ge8 c).After-bytes_required-size _ c.same_few.ensures

pub same_part-requires : goal.same_part-requires
same_part-requires c = (inside (goal.at.same_part-requires c).After-bytes_required-size).0

pub returns : goal.returns
returns c = found (goal.at.returns c).After-bytes_required-size _ c.same_part.ensures
