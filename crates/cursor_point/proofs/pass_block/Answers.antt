-- The entries that are left, passed, give what all entries of the block give.
use mathlib.Core.Path.{sym, ◌∙◌}
use native.Mathlib.Omega.{arith}
use Rattle.stream.specs.Answer.{change_at, IsChange}
use Rattle.walk.proofs.OpenBlock.{standing}
use Rattle.cursor_point.proofs.BlockLaws.{Turn, passing_begins, passing-turn, passing-bad, passing-ends}
use Rattle.cursor_point.proofs.pass_block.Goals as goal
use Rattle.cursor_point.proofs.pass_block.Goals.{In-loop-p, In-Some}

-- in the loop a change is read
turn : (c : goal.In-Some) →
    let a = c.args in
    let b = a.block in
    let l = c.loop-p in
    Turn a.kind b.image.bytes.now b.number a.signal b.at c.part_in-part.result.to a.t a.state l.held l.p l.i c.in-Some.read.delta c.in-Some.read.value c.in-Some.read.next
turn c =
    let a = c.args in
    let b = a.block in
    let l = c.loop-p in
    passing-turn a.kind b.image.bytes.now b.number a.signal b.at c.part_in-part.result.to a.t a.state l.held l.p l.i
    b.image.fits b.image.opened l.invariant _ _ _ c.loop-p-test.true (sym c.known_change.ensures ∙ c.in-Some.is)

-- a change stands where the loop is
there : (c : goal.In-loop-p) → let a = c.args in IsChange (change_at a.kind a.block.image.bytes.now c.loop-p.p)
there c =
    let a = c.args in
    let b = a.block in
    let l = c.loop-p in
    passing-bad a.kind b.image.bytes.now b.number a.signal b.at c.part_in-part.result.to a.t a.state l.held l.p l.i
    b.image.fits b.image.opened l.invariant c.loop-p-test.true

pub loop-p-init : goal.loop-p-init
loop-p-init c =
    let a = c.args in
    let b = a.block in
    let r = c.part_in-part.result in
    passing_begins b.number a.kind b.image.bytes.now a.signal b.at r.from r.to r.top a.t a.state
    b.image.fits b.image.opened (standing b) c.requires.0 c.part_in-part.ensures c.requires.1 c.requires.2

pub known_change-requires : goal.known_change-requires
known_change-requires c = there c

pub overflow_add-i : goal.overflow_add-i
overflow_add-i c = let h = (turn (goal.at.overflow_add-i c).In-Some).small in record { fits = omega arith }

pub time-time-requires : goal.time-time-requires
time-time-requires c = (turn (goal.at.time-time-requires c).In-Some).time

-- times rise: after t there is nothing to keep
pub returns-then-t-time : goal.returns-then-t-time
returns-then-t-time c = record {
  reads = c.loop-p.invariant.reads;
  passed = (turn (goal.at.returns-then-t-time c).In-Some).stops c.time-time.result c.time-time.ensures (omega (arith, c.if-t-time.true));
}

pub keep_change-held-requires : goal.keep_change-held-requires
keep_change-held-requires c = let g = turn (goal.at.keep_change-held-requires c).In-Some in (c.loop-p.invariant.reads, g.reads, g.count)

pub loop-p-smaller : goal.loop-p-smaller
loop-p-smaller c = let g = turn (goal.at.loop-p-smaller c).In-Some in omega (arith, g.more, g.most)

pub loop-p-preserved : goal.loop-p-preserved
loop-p-preserved c =
    (turn (goal.at.loop-p-preserved c).In-Some).again c.keep_change-held.result c.time-time.result c.time-time.ensures (omega (arith, c.if-t-time.false))
    c.keep_change-held.ensures.0 c.keep_change-held.ensures.1

pub returns-in-None : goal.returns-in-None
returns-in-None c = absurd (there (goal.at.returns-in-None c).In-loop-p (sym c.known_change.ensures ∙ c.in-None.is))

pub returns : goal.returns
returns c =
    let a = c.args in
    let b = a.block in
    let l = c.loop-p in record {
      reads = l.invariant.reads;
      passed = passing-ends a.kind b.image.bytes.now b.number a.signal b.at c.part_in-part.result.to a.t a.state l.held l.p l.i
          b.image.fits b.image.opened l.invariant c.loop-p-test.false;
    }
