-- By the answer of loading.
use mathlib.Core.Path.{◌≡◌, sym, ap, ◌∙◌}
use native.Mathlib.Omega.{arith}
use Rattle.value.specs.Class.{class_number}
use Rattle.std.specs.Prelude.{Result}
use Rattle.refusal.specs.declared.Refusal.{Refusal}
use Rattle.refusal.specs.Refusal.{refusal_number}
use Rattle.loaded.specs.declared.Loaded.{Loaded}
use Rattle.loaded.specs.Opener.{kind_at}
use Rattle.loaded.specs.Loading.{loads}
use Rattle.loaded.specs.Reader.{load_reply, load_after}
use Rattle.walk.specs.Walk.{image_in}
use Rattle.ascii.proofs.PutLaws.{puts-append, puts-as, room_as, room-first, room-rest}
use Rattle.listing_text.specs.Listing.{signal_line, signal_lines}
use Rattle.listing_text.proofs.SignalLaws.{SignalRead, signal-read, signal-absent}
use Rattle.listing_text.proofs.signals.put_signal.Goals as goal
use Rattle.listing_text.proofs.signals.put_signal.Goals.{After-number, In-Err}

-- a loaded signal
loaded-read : (t : goal.After-number) →
    let s = t in
    let v = t.load_in in
    SignalRead s.args.image.now s.args.signal t.kind_at-kind.result
    (class_number t.in-Ok.loaded.class) t.number.result t.in-Ok.loaded.count v.new.index v.new.bytes
loaded-read t =
    let s = t in
    let v = t.load_in in
    signal-read s.args.image.now s.args.signal t.kind_at-kind.result
    (class_number t.in-Ok.loaded.class) t.number.result t.in-Ok.loaded.count v.new.index v.new.bytes s.args.index.now s.args.bytes.now s.args.symbols.now
    (λ j. (t.shared_slice_known-1.given j).fits)
    s.requires.0 s.requires.2 t.kind_at-kind.ensures t.number.ensures
    (ap (λ (a : Result Loaded Refusal). load_after (load_reply a) v.new.index v.new.bytes) (sym t.in-Ok.is) ∙ v.ensures)

-- a signal that loading refuses
refused-absent : (t : goal.In-Err) →
    let s = t in
    signal_lines s.args.signal (kind_at (image_in s.args.image.now) s.args.signal) (loads s.args.signal (image_in s.args.image.now).blocks) ≡ signal_line
    s.args.signal t.kind_at-kind.result 0 0
refused-absent t =
    let s = t in
    let v = t.load_in in
    signal-absent s.args.image.now s.args.signal t.kind_at-kind.result (refusal_number t.in-Err.field-0) v.new.index
    v.new.bytes s.args.index.now s.args.bytes.now s.args.symbols.now
    (λ j. (t.shared_slice_known-1.given j).fits) s.requires.0
    s.requires.1 s.requires.2 t.kind_at-kind.ensures
    (ap (λ (a : Result Loaded Refusal). load_after (load_reply a) v.new.index v.new.bytes) (sym t.in-Err.is) ∙ v.ensures)

pub put_signal_line-p-requires : goal.put_signal_line-p-requires
put_signal_line-p-requires c =
    room-first _ (room_as (loaded-read (goal.at.put_signal_line-p-requires c).After-number).lines
    c.requires.3)

pub slice_bounds-put_entries-end : goal.slice_bounds-put_entries-end
slice_bounds-put_entries-end c = (loaded-read (goal.at.slice_bounds-put_entries-end c).After-number).inside

pub slice_bounds-put_entries-end-in-Ok : goal.slice_bounds-put_entries-end-in-Ok
slice_bounds-put_entries-end-in-Ok c = (loaded-read (goal.at.slice_bounds-put_entries-end-in-Ok c).After-number).size

pub put_entries-requires : goal.put_entries-requires
put_entries-requires c =
    let s = c in
    let h = loaded-read (goal.at.put_entries-requires c).After-number in
    (h.there, omega (arith, h.wide, s.requires.2.2), room-rest c.put_signal_line-p.ensures (room_as h.lines s.requires.3))

pub put_signal_line-requires : goal.put_signal_line-requires
put_signal_line-requires c =
    room_as (refused-absent (goal.at.put_signal_line-requires c).In-Err) c.requires.3

pub returns-in-Ok : goal.returns-in-Ok
returns-in-Ok c =
    puts-as (sym (loaded-read (goal.at.returns-in-Ok c).After-number).lines)
    (puts-append c.put_signal_line-p.ensures
    c.put_entries.ensures)

pub returns-in-Err : goal.returns-in-Err
returns-in-Err c = puts-as (sym (refused-absent (goal.at.returns-in-Err c).In-Err)) c.put_signal_line.ensures
