-- A block has a time.
use mathlib.Core.Path.{sym, ap, ◌∙◌}
use Rattle.std.specs.Prelude.{Option}
use Prim.Native.Nat.{ℕ}
use Rattle.walk.specs.Walk.{end_held, shared_times}
use Rattle.walk.specs.Open.{block_of}
use Rattle.walk.proofs.OpenBlock.{fits_of}
use Rattle.walk_table.proofs.TableLaws.{shared_end}
use Rattle.walk_table.proofs.shared.Goals as goal

pub time-requires : goal.time-requires
time-requires c = (fits_of c.args.block).any

pub returns-in-Some : goal.returns-in-Some
returns-in-Some c =
    let ts = (block_of c.args.block).times in
    c.from.ensures ∙ shared_end c.time.result c.in-Some.end ts (fits_of c.args.block).any c.time.ensures
    ∙ ap (λ (e : Option ℕ). shared_times (end_held e) ts) (sym c.in-Some.is)
