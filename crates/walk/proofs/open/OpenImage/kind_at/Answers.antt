-- The kind's number stands in the head.
use Prim.Native.Nat.{◌<◌}
use mathlib.Core.Path.{◌∙◌}
use native.Mathlib.Omega.{arith}
use lib.ListN.{length}
use Rattle.codec.proofs.Trip.{Means}
use Rattle.walk.specs.Walk.{image_in}
use Rattle.walk.proofs.HeadLaws.{means, kind-number-at, kind-read, kind-past}
use Rattle.walk.proofs.open.OpenImage.kind_at.Goals as goal
use Rattle.walk.proofs.open.OpenImage.kind_at.Goals.{Else-signal_count-signal}

meant : (c : goal.Else-signal_count-signal) → Means c.args.self.bytes.now (image_in c.args.self.bytes.now)
meant c = means c.args.self.bytes.now c.args.self.fits c.args.self.opened

below : (c : goal.Else-signal_count-signal) → c.args.signal < length (image_in c.args.self.bytes.now).kinds
below c = omega (arith, c.if-signal_count-signal.false, c.signal_count.ensures)

pub returns-then-signal_count-signal : goal.returns-then-signal_count-signal
returns-then-signal_count-signal c =
    let a = c.args in
    kind-past (image_in a.self.bytes.now) a.signal (omega (arith, c.if-signal_count-signal.true, c.signal_count.ensures))

pub get_u32-requires : goal.get_u32-requires
get_u32-requires c = rw c.kind_place.ensures (kind-number-at _ _ _ (meant (goal.at.get_u32-requires c).Else-signal_count-signal) (below (goal.at.get_u32-requires c).Else-signal_count-signal)).inside

pub returns : goal.returns
returns c =
    let g = c in
    c.kind_from.ensures
    ∙ kind-read _ _ _ c.get_u32.result (meant (goal.at.returns c).Else-signal_count-signal) (below (goal.at.returns c).Else-signal_count-signal) (rw c.kind_place.ensures at c.get_u32.ensures)
