-- The invariant: the letters from number i on, put from at + i on, give what all of them give.
use Rattle.std.proofs.Common.{◌≡◌, ◌+◌, add-one, add-zero, arith}
use lib.ListN.{length}
use Rattle.ascii.proofs.PutLaws.{left-all, left_as, left_step, left_end, puts_one}
use Rattle.listing_text.proofs.EntryLaws.{symbol-at, letters-more, letters-none}
use Rattle.listing_text.proofs.entries.put_letters.Goals as goal

pub loop-i-init : goal.loop-i-init
loop-i-init c = rw (add-zero c.args.at) left-all

pub letter-requires : goal.letter-requires
letter-requires c = symbol-at c.args.symbols.now c.loop-i.i c.requires.0 (omega arith)

pub loop-i-preserved : goal.loop-i-preserved
loop-i-preserved c =
    let l = c.loop-i in
    let e : c.args.at + (l.i + 1) ≡ c.args.at + l.i + 1 = omega arith in
    rw (e, add-one l.i) (left_step (left_as (letters-more c.args.symbols.now l.i (omega arith)) l.invariant) (puts_one c.letter.ensures))

pub returns : goal.returns
returns c =
    let l = c.loop-i in
    let e : length c.args.symbols.now ≡ l.i = omega arith in
    rw e (left_end (left_as (letters-none c.args.symbols.now l.i (omega arith)) l.invariant))
