-- The invariant: the lines from number i on, put from p on, give what all of them give.
use native.Mathlib.Omega.{arith}
use native.Mathlib.Numerals.{add-one}
use Rattle.ascii.proofs.PutLaws.{left-all, left_as, left-room, left_step, left_end}
use Rattle.listing_text.proofs.LineLaws.{times_more, times_none}
use Rattle.listing_text.proofs.lines.put_times.Goals as goal

pub loop-i-init : goal.loop-i-init
loop-i-init c = left-all

pub put_time-p-requires : goal.put_time-p-requires
put_time-p-requires c =
    let l = c.loop-i in let ts = c.args.times.now in
    left-room _ (left_as (times_more l.i ts (omega arith)) l.invariant) c.requires

pub loop-i-preserved : goal.loop-i-preserved
loop-i-preserved c =
    let l = c.loop-i in let ts = c.args.times.now in
    rw (add-one l.i) (left_step (left_as (times_more l.i ts (omega arith)) l.invariant) c.put_time-p.ensures)

pub returns : goal.returns
returns c = let l = c.loop-i in left_end (left_as (times_none l.i c.args.times.now (omega arith)) l.invariant)
