-- By the value.
use mathlib.Core.Path.{sym, ap}
use Rattle.value.specs.declared.real.SignalValue.{SignalValue}
use Rattle.loaded.specs.Reader.{shown_by}
use Rattle.ascii.proofs.PutLaws.{puts_none, puts-append, puts-as, room_as, room-first, room-rest}
use Rattle.listing_text.specs.Written.{shown_words}
use Rattle.listing_text.proofs.entries.put_shown.Goals as goal

pub put_text-p-requires : goal.put_text-p-requires
put_text-p-requires c =
    let s = c in
    room-first _ (room_as (ap (λ (v : SignalValue). shown_words (shown_by v s.args.shown.bits) s.args.symbols.now) c.in-BitVec.is) s.requires.1)

pub put_letters-requires : goal.put_letters-requires
put_letters-requires c =
    let s = c in (
      s.requires.0,
      room-rest c.put_text-p.ensures
          (room_as (ap (λ (v : SignalValue). shown_words (shown_by v s.args.shown.bits) s.args.symbols.now)
          c.in-BitVec.is) s.requires.1),
    )

pub put_text-p-requires-in-Real : goal.put_text-p-requires-in-Real
put_text-p-requires-in-Real c =
    let s = c in
    room-first _ (room_as (ap (λ (v : SignalValue). shown_words (shown_by v s.args.shown.bits) s.args.symbols.now) c.in-Real.is) s.requires.1)

pub put_hex-requires : goal.put_hex-requires
put_hex-requires c =
    let s = c in
    room-rest c.put_text-p-in-Real.ensures
    (room_as (ap (λ (v : SignalValue). shown_words (shown_by v s.args.shown.bits) s.args.symbols.now)
    c.in-Real.is) s.requires.1)

pub returns-in-Event : goal.returns-in-Event
returns-in-Event c =
    let s = c in
    puts-as (sym (ap (λ (v : SignalValue). shown_words (shown_by v s.args.shown.bits) s.args.symbols.now) c.in-Event.is)) puts_none

pub returns-in-BitVec : goal.returns-in-BitVec
returns-in-BitVec c =
    let s = c in
    puts-as (sym (ap (λ (v : SignalValue). shown_words (shown_by v s.args.shown.bits) s.args.symbols.now)
    c.in-BitVec.is))
    (puts-append c.put_text-p.ensures c.put_letters.ensures)

pub returns-in-Real : goal.returns-in-Real
returns-in-Real c =
    let s = c in
    puts-as (sym (ap (λ (v : SignalValue). shown_words (shown_by v s.args.shown.bits) s.args.symbols.now)
    c.in-Real.is))
    (puts-append c.put_text-p-in-Real.ensures c.put_hex.ensures)
