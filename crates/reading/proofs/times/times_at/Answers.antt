use Rattle.reading.proofs.TimesLaws.{times-starts, times-rising}
use Rattle.reading.proofs.times.times_at.Goals as goal

pub returns-then-not-starts : goal.returns-then-not-starts
returns-then-not-starts c = times-starts _ _ _ _ _ c.requires c.starts.ensures (c.if-not-starts.true)

pub returns : goal.returns
returns c = times-rising _ _ _ _ _ _ c.requires c.starts.ensures (c.if-not-starts.false) c.rising.ensures
