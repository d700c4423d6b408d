-- Three parts written in a row are the joined image.
-- Assumes nothing.
use Prim.Native.Nat.{◌+◌, ◌-◌, ◌≤◌}
use mathlib.Core.Path.{◌≡◌, refl, sym, ap, ◌∙◌}
use mathlib.Core.List.{◌++◌}
use native.Mathlib.Omega.{arith}
use lib.ListN.{length, take, drop}
use lib.Seq.{sets}
use Rattle.numbers.specs.LittleEndian.{le}
use Rattle.walk.specs.Walk.{image_in}
use Rattle.walk.specs.Open.{image_of}
use Rattle.walk.proofs.BlockLaws.{first-place}
use Rattle.join.proofs.BytesLaws.{Sizes, sizes-of, joined_bytes, three-sets}
use Rattle.join.proofs.put.put_joined.Goals as goal
use Rattle.join.proofs.put.put_joined.Goals.{After-block_count-2, After-first_block-head}

abbrev sized : (c : goal.After-block_count-2) → let a = c.args in Sizes a.first.bytes.now a.second.bytes.now
sized c =
    let a = c.args in
    sizes-of a.first.bytes.now a.second.bytes.now a.first.fits a.second.fits a.first.opened a.second.opened c.requires.alike

-- the second's head is inside it
past : (c : goal.After-first_block-head) → let a = c.args in c.first_block-head.result ≤ length a.second.bytes.now
past c =
    let a = c.args in
    omega (
      arith,
      (sizes-of a.first.bytes.now a.second.bytes.now a.first.fits a.second.fits a.first.opened a.second.opened c.requires.alike).past,
      c.first_block-head.ensures ∙ first-place (image_of a.second),
    )

pub overflow_add-n : goal.overflow_add-n
overflow_add-n c = let z = sized c in omega (arith, z.few, z.few-more, c.block_count.ensures, c.block_count-2.ensures)

pub put_numbers-p-requires : goal.put_numbers-p-requires
put_numbers-p-requires c =
    let z = sized (goal.at.put_numbers-p-requires c).After-block_count-2 in
    let s = c in
    (z.head, omega (arith, z.head, z.total, s.requires.total_value.0, s.requires.total_value.2))

pub overflow_sub-first : goal.overflow_sub-first
overflow_sub-first c = (sized (goal.at.overflow_sub-first c).After-block_count-2).head

pub put_part-q-requires : goal.put_part-q-requires
put_part-q-requires c =
    let k = c in
    let z = sized (goal.at.put_part-q-requires c).After-block_count-2 in
    let s = k in
    let e = c.put_numbers-p in
    (omega (arith, z.head, z.total, s.requires.total_value.0, s.requires.total_value.2, e.ensures.0, e.auto.out), omega (arith, z.head))

pub overflow_sub-second : goal.overflow_sub-second
overflow_sub-second c = let p = past (goal.at.overflow_sub-second c).After-first_block-head in omega (arith, p)

pub put_part-requires : goal.put_part-requires
put_part-requires c =
    let b = c in
    let z = sized (goal.at.put_part-requires c).After-block_count-2 in
    let s = b in
    let e = c.put_numbers-p in
    let f = c.put_part-q in
    let p = past (goal.at.put_part-requires c).After-first_block-head in
    let h = b.first_block-head.ensures ∙ first-place (image_of s.args.second) in
    (omega (arith, z.head, z.past, z.total, h, s.requires.total_value.0, s.requires.total_value.2, e.ensures.0, e.auto.out, f.ensures.0, f.auto.out), omega (arith, p))

pub returns : goal.returns
returns c =
    let e3 = c.put_part.ensures in
    let e2 = c.put_part-q.ensures in
    let e1 = c.put_numbers-p.ensures in
    let f = c in
    let k = f in
    let z = sized (goal.at.returns c).After-block_count-2 in
    let s = k in
    let a = s.args.first.bytes.now in
    let b = s.args.second.bytes.now in
    let n = k.block_count.result + k.block_count-2.result in
    let h = f.first_block-head.result in
    let t = s.args.total in
    let sums : k.block_count.result + k.block_count-2.result ≡ length (image_in a).blocks + length (image_in b).blocks =
    omega (arith, k.block_count.ensures, k.block_count-2.ensures) in
    rw (e3.1, e2.1, e1.1)
    (three-sets (take 8 a ++ (le 4 n ++ le 4 t)) (take (length a - 16) (drop 16 a)) (take (length b - h) (drop h b)) s.args.out.now 0 _ _ refl
    (omega (arith, e1.0, z.numbers n t)) (omega (arith, e2.0, z.rest))
    ∙ ap (sets s.args.out.now 0)
    (sym (joined_bytes a b s.args.first.fits s.args.second.fits s.args.first.opened s.args.second.opened s.requires.alike n h t sums (f.first_block-head.ensures ∙ first-place (image_in
    b)) s.requires.total_value.0)))
