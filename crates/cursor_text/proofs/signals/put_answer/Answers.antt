-- By the answer.
-- Assumes nothing.
use mathlib.Core.Path.{sym, ap, ◌∙◌, subst}
use Rattle.ascii.proofs.PutLaws.{puts-as, room_as}
use Rattle.std.specs.Prelude.{Option, Result, Ok}
use Rattle.refusal.specs.declared.Refusal.{Refusal}
use Rattle.loaded.specs.declared.Found.{Found}
use Rattle.loaded.specs.Reader.{cursor_reply}
use Rattle.cursor_text.specs.Written.{answer_words, AnswerFine}
use Rattle.cursor_text.proofs.signals.put_answer.Goals as goal

abbrev ok : Option Found → Result (Option Found) Refusal
ok o = Ok o

pub put_found-requires : goal.put_found-requires
put_found-requires c =
    let s = c in let e = (c.in-Ok-Some.is ∙ ap (λ (o : Option Found). ok o) (rw c.in-Ok-Some.is at c.in-Ok-Some.field-0-is)) in (
      subst (λ (a : Result (Option Found) Refusal). AnswerFine (cursor_reply a) s.args.symbols.now) e s.requires.0,
      room_as (ap (λ (a : Result (Option Found) Refusal). answer_words (cursor_reply a) s.args.symbols.now) e) s.requires.1,
    )

pub put_text-requires : goal.put_text-requires
put_text-requires c =
    let s = c in
    room_as (ap (λ (a : Result (Option Found) Refusal). answer_words (cursor_reply a) s.args.symbols.now) (c.in-Ok-None.is ∙ ap (λ (o : Option Found). ok o) (rw c.in-Ok-None.is at
    c.in-Ok-None.field-0-is))) s.requires.1

pub put_text-requires-in-Err : goal.put_text-requires-in-Err
put_text-requires-in-Err c =
    let s = c in
    room_as (ap (λ (a : Result (Option Found) Refusal). answer_words (cursor_reply a) s.args.symbols.now) c.in-Err.is) s.requires.1

pub returns-in-Ok-Some : goal.returns-in-Ok-Some
returns-in-Ok-Some c =
    let s = c in
    puts-as (sym (ap (λ (a : Result (Option Found) Refusal). answer_words (cursor_reply a) s.args.symbols.now) (c.in-Ok-Some.is ∙ ap (λ (o : Option Found). ok o) (rw c.in-Ok-Some.is at
    c.in-Ok-Some.field-0-is))))
    c.put_found.ensures

pub returns-in-Ok-None : goal.returns-in-Ok-None
returns-in-Ok-None c =
    let s = c in
    puts-as (sym (ap (λ (a : Result (Option Found) Refusal). answer_words (cursor_reply a) s.args.symbols.now) (c.in-Ok-None.is ∙ ap (λ (o : Option Found). ok o) (rw c.in-Ok-None.is at
    c.in-Ok-None.field-0-is))))
    c.put_text.ensures

pub returns-in-Err : goal.returns-in-Err
returns-in-Err c =
    let s = c in
    puts-as (sym (ap (λ (a : Result (Option Found) Refusal). answer_words (cursor_reply a) s.args.symbols.now) c.in-Err.is))
    c.put_text-in-Err.ensures
