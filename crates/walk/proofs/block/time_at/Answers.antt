-- The times follow the offsets.
use Prim.Native.Nat.{ℕ, ◌+◌, ◌*◌}
use mathlib.Core.Path.{ap, ◌∙◌}
use native.Mathlib.Omega.{arith}
use lib.ListN.{get_or, take, drop}
use Rattle.numbers.specs.LittleEndian.{unle}
use Rattle.loaded.specs.Opener.{block_at}
use Rattle.walk.specs.Walk.{image_in, BlockHere}
use Rattle.walk.proofs.StandLaws.{Number}
use Rattle.walk.proofs.BlockLaws.{time-read}
use Rattle.walk.proofs.block.time_at.Goals as goal
use Rattle.walk.proofs.block.time_at.Goals.{After-times_place}

found : (c : goal.After-times_place) (n : ℕ) → BlockHere n c.args.at c.args.image.now
    → Number c.args.image.now (c.args.at + c.times_place.result + 8 * c.args.i) 8
    (get_or (block_at (image_in c.args.image.now) n).times c.args.i 0)
found c n h =
    let s = c in
    let p = s.requires.1 in
    rw c.times_place.ensures
    (time-read p.0 n s.args.at s.args.i c.signal_count-signals.result s.args.image.now (λ j. (c.shared_slice_known-1.given j).fits) s.requires.0 p.1 p.2 h
    (rw c.opened.ensures at c.signal_count-signals.ensures))

pub overflow_add-at : goal.overflow_add-at
overflow_add-at c = let p = c.requires.1 in omega (arith, (found c p.0 p.1).inside)

pub overflow_add-at-2 : goal.overflow_add-at-2
overflow_add-at-2 c = let p = c.requires.1 in omega (arith, (found c p.0 p.1).inside)

pub get_u64-requires : goal.get_u64-requires
get_u64-requires c = let p = c.requires.1 in omega (arith, (found (goal.at.get_u64-requires c).After-times_place p.0 p.1).inside)

pub returns : goal.returns
returns c n h =
    c.get_u64.ensures ∙ ap (λ (p : ℕ). unle (take 8 (drop p c.args.image.now))) (omega arith) ∙ (found (goal.at.returns c).After-times_place n h).value
