-- The bytes of the source, of which the first loses the bits above the symbols.
use Prim.Native.Nat.{ℕ, ◌-◌, ◌*◌, ◌%◌, ◌^◌, ◌<◌}
use mathlib.Core.Path.{◌≡◌, refl, ap₂, ◌∙◌}
use mathlib.Core.List.{List}
use native.Mathlib.Nat.{mul-le-mul_left}
use native.Mathlib.Numerals.{add-one}
use native.Mathlib.Omega.{arith}
use lib.ListN.{length, get_or, length-set}
use Rattle.value.specs.Class.{class_number, bits_of}
use Rattle.packed.specs.Packed.{packed_length}
use Rattle.packer_copy.proofs.CopyLaws.{copy-full, copy-part}
use Rattle.packer_copy.proofs.copied.Goals as goal
use Rattle.packer_copy.proofs.copied.Goals.{Else-used-eq0}

-- the first byte is there, and has bits above the symbols
part : (c : goal.Else-used-eq0) → let a = c.args in
    (0 < packed_length a.width (class_number a.states)) × (a.width * bits_of (class_number a.states) % 8 ≡ 0 → ⊥)
part c =
    let a = c.args in
    let h : a.width * bits_of (class_number a.states) % 8 ≡ 0 → ⊥ = λ e. c.if-used-eq0.false (rw c.bits.ensures.0 e) in
    (omega arith, h)

pub overflow_mul-used : goal.overflow_mul-used
overflow_mul-used c = omega (arith, mul-le-mul_left c.args.width c.bits.ensures.1)

pub returns-then-used-eq0 : goal.returns-then-used-eq0
returns-then-used-eq0 c =
    let p = c in
    let t = p in
    let n = t.bytes_required-count.ensures in
    let s = t in
    let a = s.args in
    let full = copy-full a.width (class_number a.states) a.src.now (λ j. (t.shared_slice_known-1.given j).fits) s.requires.states_in_bounds
    (rw t.bits.ensures.0 at t.if-used-eq0.true) in
    (rw n at p.put_part.ensures.0, rw (full, ← n) p.put_part.ensures.1)

pub bounds-src-start : goal.bounds-src-start
bounds-src-start c = let p = part (goal.at.bounds-src-start c).Else-used-eq0 in omega arith

pub bounds-out-at : goal.bounds-out-at
bounds-out-at c = let p = part (goal.at.bounds-out-at c).Else-used-eq0 in omega arith

pub overflow_sub-count : goal.overflow_sub-count
overflow_sub-count c = let p = part (goal.at.overflow_sub-count c).Else-used-eq0 in omega arith

pub put_part-requires-2 : goal.put_part-requires-2
put_part-requires-2 c = let p = part (goal.at.put_part-requires-2 c).Else-used-eq0 in (simp length-set (omega arith), omega arith)

pub returns : goal.returns
returns c =
    let p = c in
    let q = p in
    let e = q in
    let n = e.bytes_required-count.ensures in
    let s = e in
    let a = s.args in
    let k : ℕ = class_number a.states in
    let b : List ℕ = a.src.now in
    let h = part (goal.at.returns c).Else-used-eq0 in
    let cut = copy-part a.width k b (λ j. (q.shared_slice_known-2-1.given j).fits) s.requires.states_in_bounds h.1 in
    let first = q.low_bits.ensures ∙ ap₂ (λ (i u : ℕ). get_or b (length b - i) 0 % 2 ^ (a.width * u % 8)) n e.bits.ensures.0 in
    (omega arith, p.put_part-2.ensures.1 ∙ rw (cut, add-one a.at, first, n) refl)
