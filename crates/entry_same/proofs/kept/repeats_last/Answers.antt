-- By whether a change is kept already.
use mathlib.Core.Path.{sym, ap, ◌∙◌, subst}
use Rattle.entry.specs.Read.{content_read}
use Rattle.entry_same.specs.Kept.{repeats_kept, kept_content, KeptReads}
use Rattle.std.specs.Prelude.{Option}
use Rattle.entry.specs.declared.read.PlacedChange.{PlacedChange}
use Rattle.entry_same.proofs.kept.repeats_last.Goals as goal

pub same_content-requires : goal.same_content-requires
same_content-requires c =
    let p = c in
    let a = p.args in
    (subst (λ (l : Option PlacedChange). KeptReads a.kind a.image.now l) c.in-Some.is p.requires.0, p.requires.1)

pub returns-in-Some : goal.returns-in-Some
returns-in-Some c =
    let a = c.args in
    c.same_content.ensures
    ∙ ap (λ (l : Option PlacedChange). repeats_kept (kept_content a.kind a.image.now l) (content_read a.kind a.image.now a.change.value a.change.next)) (sym c.in-Some.is)
