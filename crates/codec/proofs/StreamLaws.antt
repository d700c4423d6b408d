-- The form of a stream keeps the two laws, and writes `stream_bytes`: by the laws of one change (crate stream, proofs/StreamTrip). A
-- stream has a byte or more for each entry.
-- Assumes nothing.
use Prim.Native.Nat.{ℕ, ◌+◌, ◌-◌, ◌≤◌, ◌<◌}
use mathlib.Core.Path.{◌≡◌, refl, ap}
use mathlib.Core.List.{List, [], ◌∷◌, ◌++◌}
use native.Mathlib.Omega.{arith}
use lib.ListN.{length, length-append}
use Rattle.numbers.proofs.Leb128Laws.{leb-any}
use Rattle.signal.specs.declared.kind.SignalEncoding.{SignalEncoding}
use Rattle.signal.specs.Content.{Content, ContentFits}
use Rattle.signal.specs.Answer.{value_of}
use Rattle.stream.specs.Stream.{Change, change, change_bytes}
use Rattle.stream.specs.Answer.{change_number}
use Rattle.stream.specs.Entries.{Entry, entry, stream_bytes}
use Rattle.stream.proofs.StreamTrip.{read-written, written_read, WrittenAs}
use Rattle.stream.proofs.LengthLaws.{change-length}
use Rattle.form.specs.Form.{put_chain}
use Rattle.form.proofs.FormLaws.{Was, Laws, via-laws}
use Rattle.form.proofs.WholeLaws.{WholeLaws, chain_laws, some_is}
use Rattle.codec.specs.Valid.{EntriesFit}
use Rattle.codec.specs.ImageForm.{change_form, entry_form, stream}

change-back : (k : SignalEncoding) (s : List ℕ) (x : Change) (r : List ℕ) → WrittenAs k s x r → Was (change_form k) s x r
change-back k s x r w = record { ok = w.fits; form = w.form }

pub change-laws : (k : SignalEncoding) → Laws (change_form k)
change-laws k = record {
  there = λ x r o. read-written k x.d x.content r o.small o.fits;
  back = λ s x r y e. change-back k s x r (written_read k s x r y e);
}

entry-undo : (i : ℕ) (x : Change) (e : Entry) → entry (i + x.d) x.content ≡ e → change (e.index - i) e.content ≡ x
entry-undo i x e q = let d : i + x.d - i ≡ x.d = omega arith in rw (← q) (rw d refl)

pub entry-laws : (k : SignalEncoding) (i : ℕ) → Laws (entry_form k i)
entry-laws k i = via-laws (change_form k) _ (λ e. change (e.index - i) e.content) (change-laws k) (λ x e o q. entry-undo i x e (some_is q))

pub change-long : (k : SignalEncoding) (d : ℕ) (c : Content) → ContentFits k c → 0 < length (change_bytes k d c)
change-long k d c f = omega (arith, change-length k d c f, leb-any (change_number d (value_of k c)))

-- no more entries than bytes
pub stream-long : (k : SignalEncoding) (n i top j : ℕ) (l : List Entry) → EntriesFit k n i top l → length l ≤ length (stream_bytes k j l)
unfolding stream_bytes
stream-long k n i top j [] f = omega arith
stream-long k n i top j (e ∷ l) f =
    omega (
      arith,
      length-append (change_bytes k (e.index - j) e.content) (stream_bytes k e.index l),
      change-long k (e.index - j) e.content f.0.content,
      stream-long k n e.index top e.index l f.1,
    )

pub stream-laws : (k : SignalEncoding) → WholeLaws (stream k)
unfolding stream
stream-laws k = chain_laws (entry_form k) (λ e. e.index) (entry-laws k) (λ i x o. change-long k (x.index - i) x.content o.0.fits) 0

stream-from : (k : SignalEncoding) (i : ℕ) (l : List Entry) → put_chain (entry_form k) (λ e. e.index) i l ≡ stream_bytes k i l
unfolding put_chain stream_bytes
stream-from k i [] = refl
stream-from k i (e ∷ l) = ap (λ (t : List ℕ). change_bytes k (e.index - i) e.content ++ t) (stream-from k e.index l)

pub stream-written : (k : SignalEncoding) (l : List Entry) → (stream k).write l ≡ stream_bytes k 0 l
unfolding stream
stream-written k l = stream-from k 0 l
