-- The number, then the packed value.
use Prim.Native.Nat.{ℕ, ◌+◌, ◌*◌}
use mathlib.Core.Path.{◌≡◌, ◌∙◌, ap, sym}
use mathlib.Core.List.{List}
use native.Mathlib.Omega.{arith}
use lib.ListN.{length}
use lib.Seq.{sets}
use Rattle.numbers.specs.Leb128.{leb_of}
use Rattle.value.specs.Class.{class_number, class_of_all}
use Rattle.packed.specs.Packed.{packed, packed_length}
use Rattle.packer.specs.Notation.{symbols_from}
use Rattle.stream.proofs.WriteLaws.{two-writes, room-front, room_back, wide-bytes}
use Rattle.stream_write.proofs.SaysLaws.{sized}
use Rattle.stream_write.proofs.put_vector.Goals as goal
use Rattle.stream_write.proofs.put_vector.Goals.{After-put_leb128-next}

-- what the number's writing left, by the symbols' class
number-then : (c : goal.After-put_leb128-next) →
    let p = c in let a = p.args in
    let s = symbols_from a.notation a.width a.src.now in
    (c.put_leb128-next.result ≡ a.at + length (leb_of (a.d * 4 + class_of_all s)))
    × (c.put_leb128-next.new.buf ≡ sets a.out.now a.at (leb_of (a.d * 4 + class_of_all s)))
number-then c =
    let p = c in
    let x = c.change_number.ensures ∙ ap (λ (n : ℕ). p.args.d * 4 + n) (sym p.requires.src_value.1) in
    let e = c.put_leb128-next.ensures in
    rw x at e

pub put_leb128-next-requires : goal.put_leb128-next-requires
put_leb128-next-requires c =
    let p = c in
    let a = p.args in
    let s : List ℕ = symbols_from a.notation a.width a.src.now in
    let x : c.change_number.result ≡ a.d * 4 + class_of_all s = c.change_number.ensures ∙ ap (λ (n : ℕ). a.d * 4 + n) (sym p.requires.src_value.1) in
    rw x (room-front (leb_of (a.d * 4 + class_of_all s)) (packed (class_of_all s) s) a.at _ (rw (wide-bytes a.width a.d s p.requires.d_le_max_delta.1) at p.requires.src_in_bounds))

pub pack-requires : goal.pack-requires
pack-requires c =
    let p = c in
    let a = p.args in
    let s : List ℕ = symbols_from a.notation a.width a.src.now in
    let e = number-then (goal.at.pack-requires c).After-put_leb128-next in
    let size : packed_length a.width (class_number a.states) ≡ length (packed (class_of_all s) s) =
    sized a.notation a.width a.src.now a.states p.requires.d_le_max_delta.2 p.requires.src_value.1 in
    record {
      readable = p.requires.d_le_max_delta.2;
      src_value =
          (p.requires.src_value.0, omega (arith, p.requires.src_value.1));
      states_in_bounds = room_back (leb_of (a.d * 4 + class_of_all s))
          (packed (class_of_all s) s) a.out.now _ a.at _ _ (rw (wide-bytes a.width a.d s p.requires.d_le_max_delta.1) at p.requires.src_in_bounds) e.0 e.1 size;
    }

pub returns : goal.returns
returns c =
    let p = c in
    let a = p.args in
    let s : List ℕ = symbols_from a.notation a.width a.src.now in
    let e = number-then (goal.at.returns c).After-put_leb128-next in
    let f = c.pack.ensures in
    let cls = p.requires.src_value.1 in
    let size : packed_length a.width (class_number a.states) ≡ length (packed (class_of_all s) s) = sized a.notation a.width a.src.now a.states p.requires.d_le_max_delta.2 cls in
    rw (wide-bytes a.width a.d s p.requires.d_le_max_delta.1)
    (two-writes (leb_of (a.d * 4 + class_of_all s)) (packed (class_of_all s) s) a.out.now _ _ a.at _ _ e.0 e.1
    (f.0 ∙ ap (λ (n : ℕ). c.put_leb128-next.result + n) size)
    (f.1 ∙ ap (λ (k : ℕ). sets c.put_leb128-next.new.buf c.put_leb128-next.result
    (packed k s)) (sym cls)))
