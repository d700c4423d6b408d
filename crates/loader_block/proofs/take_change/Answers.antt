-- By whether it repeats, and whether outputs are written.
use Prim.Native.Nat.{ℕ, ◌+◌}
use mathlib.Core.Path.{◌≡◌, sym, ap, ◌∙◌, subst}
use mathlib.Core.List.{List}
use native.Mathlib.Omega.{arith}
use lib.ListN.{length}
use Rattle.value.specs.Class.{class_number}
use Rattle.value.proofs.ClassLaws.{number_small}
use Rattle.loaded.specs.EntryBytes.{entry_bytes}
use Rattle.entry.specs.Read.{content_read}
use Rattle.entry.proofs.LengthLaws.{entry_length_lem}
use Rattle.entry.proofs.ReadThere.{reads-there}
use Rattle.entry_same.specs.Kept.{KeptReads}
use Rattle.loader_block.specs.Output.{output_as}
use Rattle.entry.specs.declared.read.PlacedChange.{PlacedChange}
use Rattle.std.specs.Prelude.{Option, Some}
use Rattle.loader_block.proofs.OutputLaws.{taken-same, taken-counts, taken-writes, taken-room, output-of}
use Rattle.loader_block.proofs.take_change.Goals as goal
use Rattle.loader_block.proofs.take_change.Goals.{After-entry_len}

-- every entry of a signal is as long
as_long : (c : goal.After-entry_len) → let a = c.args in
    c.entry_len.result ≡ length (entry_bytes a.kind (class_number a.class) (content_read a.kind a.image.now a.change.value a.change.next))
as_long c =
    let p = c in
    let a = p.args in
    let r = reads-there a.kind a.image.now a.change.value a.change.next (λ j. (c.type_inv.image j).fits) p.requires.kept_reads.1 in
    c.entry_len.ensures ∙ sym (entry_length_lem a.kind (class_number a.class) (content_read a.kind a.image.now a.change.value a.change.next) r.fits p.requires.kept_reads.2 (number_small a.class))

pub returns-then-repeats_last : goal.returns-then-repeats_last
returns-then-repeats_last c =
    let p = c in
    let a = p.args in
    let b : List ℕ = a.image.now in (
      p.requires.kept_reads.0,
      omega arith,
      omega arith,
      taken-same a.kind (class_number a.class) a.write (output_as a.kind b a.state a.index.now a.bytes.now) a.i
          (content_read a.kind b a.change.value a.change.next) _ c.repeats_last.ensures c.if-repeats_last.true,
    )

pub write_entry-used-requires : goal.write_entry-used-requires
write_entry-used-requires c =
    let p = c in
    let a = p.args in
    let b : List ℕ = a.image.now in record {
      reads = (p.requires.kept_reads.1, p.requires.kept_reads.2);
      count_in_bounds = taken-room a.kind (class_number a.class) a.write (output_as a.kind b a.state a.index.now a.bytes.now) a.i (content_read a.kind b a.change.value a.change.next)
          _ c.repeats_last.ensures (length a.index.now) (length a.bytes.now) c.if-repeats_last.false
          c.if-write.true p.requires.count_bound.2;
    }

pub returns-then-write : goal.returns-then-write
returns-then-write c =
    let q = c in
    let p = q in
    let a = p.args in
    let b : List ℕ = a.image.now in
    let w = q.write_entry-used.ensures in
    let e = c.one_more.ensures in (
      subst (λ (l : Option PlacedChange). KeptReads a.kind b l) (sym e.2) p.requires.kept_reads.1,
      omega (arith, e.0),
      omega (arith, e.1, w.0),
      output-of a.kind b c.one_more.result (a.state.count + 1) q.write_entry-used.result (Some a.change) _ _ e.0 e.1 e.2
          ∙ taken-writes a.kind (class_number a.class) a.write (output_as a.kind b a.state a.index.now a.bytes.now) a.i (content_read a.kind b a.change.value a.change.next)
          _ q.repeats_last.ensures _ _ _ q.if-repeats_last.false q.if-write.true w.0 w.1 w.2,
    )

pub overflow_add-state : goal.overflow_add-state
overflow_add-state c = omega (arith, as_long (goal.at.overflow_add-state c).After-entry_len, c.requires.count_bound.1)

pub returns : goal.returns
returns c =
    let q = c in
    let p = q in
    let a = p.args in
    let b : List ℕ = a.image.now in
    let e = c.one_more-2.ensures in
    let u = ap (λ (n : ℕ). a.state.used + n) (as_long (goal.at.returns c).After-entry_len) in (
      subst (λ (l : Option PlacedChange). KeptReads a.kind b l) (sym e.2) p.requires.kept_reads.1,
      omega (arith, e.0),
      omega (arith, e.1, u),
      output-of a.kind b c.one_more-2.result (a.state.count + 1) (a.state.used + q.entry_len.result) (Some a.change) _ _ e.0 e.1 e.2
          ∙ taken-counts a.kind (class_number a.class) a.write (output_as a.kind b a.state a.index.now a.bytes.now) a.i (content_read a.kind b a.change.value a.change.next)
          _ q.repeats_last.ensures _ q.if-repeats_last.false q.if-write.false u,
    )
