-- A turn of a loop over the stored records: rs are the records that stood there at the start, xs what is stored after g turns.
-- Assumes nothing.
use Rattle.std.proofs.Common.{◌≡◌, sym, ap, ◌∙◌, ℕ, ◌+◌, ◌<◌, arith, List, map, length, get_or, set}
use Rattle.std.proofs.lemmas.List.{length-map, map-set, get_or-map}
use Rattle.recording.specs.declared.SignalRecord.{SignalRecord}
use Rattle.cut.specs.Turns.{first_by}
use Rattle.cut.proofs.TurnLaws.{first-length, first-get, first_next}

module _ {T : Type 0} (stands_for : T → SignalRecord) (f : SignalRecord → SignalRecord) (g : ℕ) (rs : List SignalRecord) (xs : List T)
    (done : map stands_for xs ≡ first_by f g rs) (h : g < length rs) where
  pub same-length : length xs ≡ length rs
  same-length = sym (length-map xs stands_for) ∙ ap length done ∙ first-length f g rs

  -- d and e stand past the records; the next one is as it was
  pub same-record : (d : T) (e : SignalRecord) → stands_for (get_or xs g d) ≡ get_or rs g e
  same-record d e =
      sym (get_or-map stands_for xs g d e (rw same-length h))
      ∙ ap (λ (l : List SignalRecord). get_or l g e) done
      ∙ first-get f g g rs e (omega arith)

  -- x stands for the next one, changed
  pub changed-next : (d x : T) (e : SignalRecord) → stands_for x ≡ f (stands_for (get_or xs g d)) → map stands_for (set xs g x) ≡ first_by f (g + 1) rs
  changed-next d x e q = map-set stands_for xs g x ∙ rw (q, same-record d e, done) (first_next f g rs e h)
