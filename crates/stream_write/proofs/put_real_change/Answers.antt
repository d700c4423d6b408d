-- The number, then the eight bytes.
use Prim.Native.Nat.{ℕ, ◌+◌}
use mathlib.Core.Path.{◌∙◌, ap, sym}
use Rattle.numbers.specs.Leb128.{leb_of}
use Rattle.numbers.specs.LittleEndian.{le}
use Rattle.numbers.proofs.LittleEndianLaws.{length-le}
use Rattle.stream.specs.Stream.{change_bytes}
use Rattle.stream.proofs.WriteLaws.{two-writes, room-front, room_back}
use Rattle.stream_write.proofs.put_real_change.Goals as goal

pub put_leb128-next-requires : goal.put_leb128-next-requires
unfolding change_bytes
put_leb128-next-requires c =
    let p = c in
    room-front (leb_of p.args.d) (le 8 p.args.real) p.args.at _ p.requires

pub put_u64-requires : goal.put_u64-requires
unfolding change_bytes
put_u64-requires c =
    let p = c in
    let e = c.put_leb128-next.ensures in
    room_back (leb_of p.args.d) (le 8 p.args.real) p.args.out.now _ p.args.at _ 8 p.requires e.0 e.1 (sym (length-le 8 p.args.real))

pub returns : goal.returns
unfolding change_bytes
returns c =
    let a = c.args in
    let e = c.put_leb128-next.ensures in
    let f = c.put_u64.ensures in
    two-writes (leb_of a.d) (le 8 a.real) a.out.now _ _ a.at _ _ e.0 e.1
    (f.0 ∙ ap (λ (n : ℕ). c.put_leb128-next.result + n) (sym (length-le 8 a.real))) f.1
