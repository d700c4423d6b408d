-- The invariant: the lines of the entries from number i on, whose bytes begin at `from`, put from p on, give what all of them give.
use Prim.Native.Nat.{◌+◌, ◌-◌}
use mathlib.Core.Path.{◌≡◌, refl, ◌∙◌}
use native.Mathlib.Omega.{arith}
use native.Mathlib.Numerals.{add-one}
use lib.ListN.{length, drop}
use borrow.Author.Rules.{rules}
use Rattle.ascii.proofs.PutLaws.{left-all, left_as, left-room, left_step, left_end}
use Rattle.value.specs.Class.{class_number}
use Rattle.listing_text.proofs.EntryLaws.{Turn, turn, read_none}
use Rattle.listing_text.proofs.entries.put_entries.Goals as goal
use Rattle.listing_text.proofs.entries.put_entries.Goals.{In-loop-number}

-- the entry at number i
at_turn : (t : goal.In-loop-number) →
    let l = t.loop-number in
    let a = t.args in
    Turn a.kind (class_number a.class) (l.from + t.entry_len-size.result - l.from) t.entry_len-size.result a.index.now l.number-index a.bytes.now l.from
at_turn t =
    let l = t.loop-number in
    let a = t.args in
    let n = t.entry_len-size in
    turn a.kind (class_number a.class) (l.from + n.result - l.from) n.result a.index.now l.number-index a.bytes.now l.from (omega arith) n.ensures (omega arith)
    l.invariant.0 l.invariant.2

pub loop-number-init : goal.loop-number-init
loop-number-init c = (omega arith, refl, c.requires.0, left-all)

pub overflow_add-to : goal.overflow_add-to
overflow_add-to c = let t = at_turn c in omega (arith, t.inside)

pub slice_bounds-put_entry-end : goal.slice_bounds-put_entry-end
slice_bounds-put_entry-end c = let t = at_turn (goal.at.slice_bounds-put_entry-end c).In-loop-number in search (rules, t.inside)

pub put_entry-p-requires : goal.put_entry-p-requires
put_entry-p-requires c =
    let l = c.loop-number in let t = at_turn (goal.at.put_entry-p-requires c).In-loop-number in (
      t.is,
      omega (arith, l.invariant.1, c.requires.1),
      left-room _ (left_as t.lines l.invariant.3) c.requires.2,
    )

pub loop-number-preserved : goal.loop-number-preserved
loop-number-preserved c =
    let l = c.loop-number in
    let t = at_turn (goal.at.loop-number-preserved c).In-loop-number in
    let kept : length c.put_entry-p.new.symbols ≡ length l.symbols = search rules in (
      t.inside,
      kept ∙ l.invariant.1,
      rw (add-one l.number-index) t.rest,
      rw (add-one l.number-index) (left_step (left_as t.lines l.invariant.3) c.put_entry-p.ensures),
    )

pub returns : goal.returns
returns c =
    let l = c.loop-number in let a = c.args in
    left_end (left_as (read_none a.kind (class_number a.class) a.index.now l.number-index (drop l.from a.bytes.now) (omega arith)) l.invariant.3)
