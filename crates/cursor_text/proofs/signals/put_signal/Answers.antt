-- Its parts one after the other; the words are those of the cursor's answer.
-- Assumes nothing.
use mathlib.Core.Path.{◌≡◌, sym, ap, ◌∙◌}
use mathlib.Core.List.{◌++◌}
use lib.ListN.{take}
use Rattle.ascii.specs.Ascii.{ascii, decimal}
use Rattle.ascii.proofs.PutLaws.{puts-append, puts-as, room_as, room-first, room-rest}
use Rattle.signal.specs.Kind.{width_of}
use Rattle.loaded.specs.Opener.{kind_at}
use Rattle.loaded.specs.Loading.{loads}
use Rattle.loaded.specs.Reader.{cursor_reply}
use Rattle.walk.specs.Walk.{image_in}
use Rattle.listing_text.specs.Listing.{line_end}
use Rattle.cursor_text.specs.At.{signal_words, at_line}
use Rattle.cursor_text.specs.Written.{answer_words}
use Rattle.cursor_text.proofs.LineLaws.{line-parts}
use Rattle.cursor_text.proofs.AnswerLaws.{Said, signal-said}
use Rattle.cursor_text.proofs.signals.put_signal.Goals as goal
use Rattle.cursor_text.proofs.signals.put_signal.Goals.{After-cursor_in-answer}

said_here : (t : goal.After-cursor_in-answer) →
    let a = t.args in
    Said (signal_words (kind_at (image_in a.image.now) a.signal) (loads a.signal (image_in a.image.now).blocks) a.t) (cursor_reply t.cursor_in-answer.result)
    t.cursor_in-answer.new.out t.width-width.result
said_here t =
    let s = t in
    signal-said s.args.image.now s.args.signal s.args.t s.args.symbols.now (cursor_reply t.cursor_in-answer.result) t.cursor_in-answer.new.out t.width-width.result
    (λ j. (t.shared_slice_known-1.given j).fits) s.requires.0 s.requires.1 s.requires.2
    (t.width-width.ensures ∙ ap width_of t.kind_at-kind.ensures) t.cursor_in-answer.ensures

parts-here : (t : goal.After-cursor_in-answer) →
    let a = t.args in
    at_line a.signal (kind_at (image_in a.image.now) a.signal) (loads a.signal (image_in a.image.now).blocks) a.t ≡ (ascii "signal " ++ decimal a.signal)
    ++ (ascii " " ++ (answer_words (cursor_reply t.cursor_in-answer.result) (take t.width-width.result t.cursor_in-answer.new.out) ++ line_end))
parts-here t =
    let a = t.args in
    line-parts a.signal (kind_at (image_in a.image.now) a.signal) (loads a.signal (image_in a.image.now).blocks) a.t (said_here t).is

pub put_named-p-requires : goal.put_named-p-requires
put_named-p-requires c =
    let s = c in
    room-first _ (room_as (parts-here (goal.at.put_named-p-requires c).After-cursor_in-answer) s.requires.3)

pub put_text-q-requires : goal.put_text-q-requires
put_text-q-requires c =
    let s = c in
    room-first _ (room-rest c.put_named-p.ensures (room_as (parts-here (goal.at.put_text-q-requires c).After-cursor_in-answer) s.requires.3))

pub slice_bounds-put_answer-end : goal.slice_bounds-put_answer-end
slice_bounds-put_answer-end c = (said_here (goal.at.slice_bounds-put_answer-end c).After-cursor_in-answer).inside

pub slice_bounds-put_answer-end-2 : goal.slice_bounds-put_answer-end-2
slice_bounds-put_answer-end-2 c = (said_here (goal.at.slice_bounds-put_answer-end-2 c).After-cursor_in-answer).size

pub put_answer-r-requires : goal.put_answer-r-requires
put_answer-r-requires c =
    let t = c in
    let s = t in
    let named = room-rest c.put_named-p.ensures
    (room_as (parts-here (goal.at.put_answer-r-requires c).After-cursor_in-answer) s.requires.3) in
    ((said_here (goal.at.put_answer-r-requires c).After-cursor_in-answer).fine, room-first _ (room-rest c.put_text-q.ensures named))

pub put_text-requires : goal.put_text-requires
put_text-requires c =
    let t = c in
    let s = t in
    let named = room-rest c.put_named-p.ensures
    (room_as (parts-here (goal.at.put_text-requires c).After-cursor_in-answer) s.requires.3) in
    room-rest c.put_answer-r.ensures
    (room-rest c.put_text-q.ensures named)

pub returns : goal.returns
returns c =
    let t = c in
    let words = puts-append c.put_answer-r.ensures c.put_text.ensures in
    let rest = puts-append c.put_text-q.ensures words in
    puts-as (sym (parts-here (goal.at.returns c).After-cursor_in-answer))
    (puts-append c.put_named-p.ensures rest)
