-- The invariant: the lines of the signals from number g on, put from p on, give what all of them give.
-- Assumes nothing.
use mathlib.Core.Path.{◌≡◌, refl, ◌∙◌}
use native.Mathlib.Omega.{arith}
use native.Mathlib.Numerals.{add-one}
use lib.ListN.{length}
use Rattle.ascii.proofs.PutLaws.{left-all, left_as, left-room, left_step, left_end}
use Rattle.walk.specs.Walk.{image_in}
use Rattle.cursor_text.proofs.LineLaws.{lines_more, lines_none}
use borrow.Author.Rules.{rules}
use Rattle.cursor_text.proofs.signals.put_signals.Goals as goal

pub loop-g-init : goal.loop-g-init
loop-g-init c = (refl, left-all)

pub put_signal-p-requires : goal.put_signal-p-requires
put_signal-p-requires c =
    let l = c.loop-g in
    let s = c in
    let n = c.signal_count-g-end.ensures in
    let m = lines_more (image_in s.args.image.now) s.args.t l.g (omega (arith, n)) in
    (s.requires.0, omega (arith, n), omega (arith, l.invariant.0, s.requires.1), left-room _ (left_as m l.invariant.1) s.requires.2)

pub loop-g-preserved : goal.loop-g-preserved
loop-g-preserved c =
    let l = c.loop-g in
    let s = c in
    let n = c.signal_count-g-end.ensures in
    let v = c.put_signal-p in
    let m = lines_more (image_in s.args.image.now) s.args.t l.g (omega (arith, n)) in
    let k : length c.put_signal-p.new.symbols ≡ length l.symbols = search rules in
    (k ∙ l.invariant.0, rw (add-one l.g) (left_step (left_as m l.invariant.1) v.ensures))

pub returns : goal.returns
returns c =
    let l = c.loop-g in
    let a = c.args in
    left_end (left_as (lines_none (image_in a.image.now) a.t l.g (omega (arith, c.signal_count-g-end.ensures))) l.invariant.1)
