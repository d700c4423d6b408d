-- The opener first.
-- Assumes nothing.
use Rattle.std.proofs.Common.{◌≡◌, false, sym, ◌∙◌, arith}
use Rattle.loaded.specs.Opener.{open_of}
use Rattle.walk.proofs.OpenLaws.{stream-closed, place-closed}
use Rattle.interface.proofs.bytes.wejumo_stream.Goals as goal
use Rattle.interface.proofs.bytes.wejumo_stream.Goals.{Then-not-open}

closed : (c : goal.Then-not-open) → open_of c.args.image.now ≡ false
closed c = sym c.open.ensures ∙ c.if-not-open.true

pub returns-then-not-open : goal.returns-then-not-open
returns-then-not-open c = let a = c.args in (stream-closed a.image.now a.block a.signal (closed c), omega arith, place-closed a.image.now a.block a.signal (closed c))

pub wejumo_opened_stream-requires : goal.wejumo_opened_stream-requires
wejumo_opened_stream-requires c = sym c.open.ensures ∙ c.if-not-open.false
