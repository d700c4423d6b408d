-- By the kind.
use mathlib.Core.Path.{sym, ap}
use Rattle.signal.specs.declared.kind.SignalEncoding.{SignalEncoding}
use Rattle.ascii.proofs.PutLaws.{puts-as, room_as}
use Rattle.listing_text.specs.Listing.{kind_words}
use Rattle.listing_text.proofs.lines.put_kind.Goals as goal

pub put_vector-requires : goal.put_vector-requires
put_vector-requires c =
    let s = c in
    room_as (ap (λ (k : SignalEncoding). kind_words k s.args.class s.args.changes) c.in-BitVector.is) s.requires

pub put_named-requires : goal.put_named-requires
put_named-requires c =
    let s = c in
    room_as (ap (λ (k : SignalEncoding). kind_words k s.args.class s.args.changes) c.in-Real.is) s.requires

pub put_text-requires : goal.put_text-requires
put_text-requires c =
    let s = c in
    room_as (ap (λ (k : SignalEncoding). kind_words k s.args.class s.args.changes) c.in-Absent.is) s.requires

pub returns-in-BitVector : goal.returns-in-BitVector
returns-in-BitVector c =
    let s = c in
    puts-as (sym (ap (λ (k : SignalEncoding). kind_words k s.args.class s.args.changes) c.in-BitVector.is))
    c.put_vector.ensures

pub returns-in-Real : goal.returns-in-Real
returns-in-Real c =
    let s = c in
    puts-as (sym (ap (λ (k : SignalEncoding). kind_words k s.args.class s.args.changes) c.in-Real.is))
    c.put_named.ensures

pub returns-in-Absent : goal.returns-in-Absent
returns-in-Absent c =
    let s = c in
    puts-as (sym (ap (λ (k : SignalEncoding). kind_words k s.args.class s.args.changes) c.in-Absent.is))
    c.put_text.ensures
