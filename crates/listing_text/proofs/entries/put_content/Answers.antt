-- An entry is always answered: by what is answered and written.
use Prim.Native.Nat.{ℕ}
use mathlib.Core.Path.{◌≡◌, sym, ap, ◌∙◌}
use native.Mathlib.Omega.{arith}
use Rattle.value.specs.Class.{class_number}
use Rattle.loaded.specs.EntryBytes.{entry_of}
use Rattle.loaded.specs.Reader.{entry_reply, shown_as}
use Rattle.std.specs.Prelude.{Option, Result, Ok, Err, Some, None}
use Rattle.refusal.specs.declared.Refusal.{Refusal}
use Rattle.value.specs.declared.real.Entry.{Entry}
use Rattle.refusal.specs.Refusal.{refusal_number}
use Rattle.entry_answer.specs.Answer.{answer_reply, entry_after, noEntry, refuse, shown}
use Rattle.ascii.proofs.PutLaws.{puts-as, room_as}
use Rattle.listing_text.proofs.EntryLaws.{Shows, shows, always-shown}
use Rattle.listing_text.proofs.entries.put_content.Goals as goal
use Rattle.listing_text.proofs.entries.put_content.Goals.{After-width-width}

shown-here : (t : goal.After-width-width) →
    let s = t in
    Shows s.args.kind (class_number s.args.class) s.args.bytes.now (entry_reply t.in-Ok-Some.shown)
    t.entry_value.new.out t.width-width.result
shown-here t =
    let s = t in
    let v = t.entry_value in
    shows s.args.kind (class_number s.args.class) s.args.bytes.now s.args.symbols.now (entry_reply t.in-Ok-Some.shown) v.new.out t.width-width.result s.requires.0
    s.requires.1 t.width-width.ensures
    (ap (λ (a : Result (Option Entry) Refusal). entry_after (answer_reply a) v.new.out) (sym (rw t.in-Ok-Some.field-0-is at t.in-Ok-Some.is)) ∙ v.ensures)

pub slice_bounds-put_shown-end-in-Ok-Some : goal.slice_bounds-put_shown-end-in-Ok-Some
slice_bounds-put_shown-end-in-Ok-Some c = (shown-here (goal.at.slice_bounds-put_shown-end-in-Ok-Some c).After-width-width).size

pub put_shown-requires : goal.put_shown-requires
put_shown-requires c =
    let h = shown-here (goal.at.put_shown-requires c).After-width-width in
    (h.fine, room_as h.words c.requires.2)

pub returns-in-Ok-Some : goal.returns-in-Ok-Some
returns-in-Ok-Some c = puts-as (sym (shown-here (goal.at.returns-in-Ok-Some c).After-width-width).words) c.put_shown.ensures

pub returns-in-Ok-None : goal.returns-in-Ok-None
returns-in-Ok-None c =
    let s = c in
    let v = c.entry_value in
    let n : noEntry ≡ shown (shown_as (entry_of s.args.kind (class_number s.args.class) s.args.bytes.now)) = ap answer_reply (sym (rw c.in-Ok-None.field-0-is at c.in-Ok-None.is))
    ∙ always-shown s.args.kind (class_number s.args.class) s.args.bytes.now s.args.symbols.now (answer_reply v.result) v.new.out s.requires.0
    s.requires.1 v.ensures in
    let z : ◌≡◌ {A = ℕ} 0 1 = cc in absurd (omega arith)

pub returns-in-Err : goal.returns-in-Err
returns-in-Err c =
    let s = c in
    let v = c.entry_value in
    let n : refuse (refusal_number c.in-Err.field-0) ≡ shown (shown_as (entry_of s.args.kind (class_number s.args.class) s.args.bytes.now)) = ap answer_reply
    (sym c.in-Err.is)
    ∙ always-shown s.args.kind (class_number s.args.class) s.args.bytes.now s.args.symbols.now (answer_reply v.result) v.new.out s.requires.0
    s.requires.1 v.ensures in
    let z : ◌≡◌ {A = ℕ} 0 1 = cc in absurd (omega arith)
