-- Each record is tested in turn.
use Rattle.std.proofs.Common.{rules, ◌∙◌}
use Rattle.std.proofs.lemmas.Iterator.{YieldsList-from_slice}
use Rattle.std.proofs.lemmas.Iterator.Search.{any_from_yields_List}
use Rattle.recording.specs.Refusals.{bad_record}
use Rattle.records.proofs.BadLaws.{any-bad}
use Rattle.records.proofs.has_bad_record.Goals as goal

pub returns : goal.returns
returns g c =
    let stands_for = g.T.StoredRecord.stands_for in
    let xs = c.args.records.now in
    any_from_yields_List (λ x. bad_record (stands_for x)) _ _ _ c.any.ensures.ran (YieldsList-from_slice xs cc) (λ x b q k. search rules)
    ∙ any-bad stands_for xs
