-- The invariant: the lines of the signals from number g on, put from p on, give what all of them give.
use mathlib.Core.Path.{◌≡◌, refl, ◌∙◌}
use native.Mathlib.Omega.{arith}
use native.Mathlib.Numerals.{add-one}
use lib.ListN.{length}
use borrow.Author.Rules.{rules}
use Rattle.ascii.proofs.PutLaws.{left-all, left_as, left-room, left_step, left_end}
use Rattle.walk.specs.Walk.{image_in}
use Rattle.listing_text.proofs.LineLaws.{signals-more, signals-none}
use Rattle.listing_text.proofs.signals.put_signals.Goals as goal

pub loop-g-init : goal.loop-g-init
loop-g-init c = (refl, refl, refl, left-all)

pub put_signal-p-requires : goal.put_signal-p-requires
put_signal-p-requires c =
    let l = c.loop-g in let s = c in
    let x = image_in s.args.image.now in let m = signals-more x l.g (omega (arith, c.signal_count-g-end.ensures)) in (
      s.requires.0,
      omega (arith, c.signal_count-g-end.ensures),
      (omega (arith, l.invariant.0, s.requires.1.0), omega (arith, l.invariant.1, s.requires.1.1), omega (arith, l.invariant.2, s.requires.1.2)),
      left-room _ (left_as m l.invariant.3) s.requires.2,
    )

pub loop-g-preserved : goal.loop-g-preserved
loop-g-preserved c =
    let l = c.loop-g in
    let s = c in
    let x = image_in s.args.image.now in
    let m = signals-more x l.g
    (omega (arith, c.signal_count-g-end.ensures)) in
    let ki : length c.put_signal-p.new.index ≡ length l.index = search rules in
    let kb : length c.put_signal-p.new.bytes ≡ length l.bytes = search rules in
    let ks : length c.put_signal-p.new.symbols ≡ length l.symbols = search rules in (
      ki ∙ l.invariant.0,
      kb ∙ l.invariant.1,
      ks ∙ l.invariant.2,
      rw (add-one l.g) (left_step (left_as m l.invariant.3) c.put_signal-p.ensures),
    )

pub returns : goal.returns
returns c =
    let l = c.loop-g in
    left_end (left_as (signals-none (image_in c.args.image.now) l.g
    (omega (arith, c.signal_count-g-end.ensures))) l.invariant.3)
