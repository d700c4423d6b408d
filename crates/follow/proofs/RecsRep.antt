-- Which records stand for which changes: kind, index of the signal's last change in the open block, top class of all its changes.
-- Assumes nothing.
use Prim.Native.Nat.{ℕ, zero, suc, ◌≤◌, ◌<◌, max}
use mathlib.Core.Path.{◌≡◌, refl, sym, ap, ◌∙◌, subst}
use mathlib.Core.List.{List, [], ◌∷◌, ◌++◌, map, append-nil}
use native.Mathlib.Omega.{arith}
use native.Mathlib.Decide.{ℕ_discrete}
use lib.ListN.{length, get_or, set, length-set, length-map, get_or-map}
use lib.Seq.{get_or-set_same, get_or-set_other}
use Rattle.value.specs.Class.{class_number, states_of}
use Rattle.value.proofs.ClassLaws.{number-states, number_small}
use Rattle.value.specs.declared.states.States.TheVariants.{Two}
use Rattle.signal.specs.declared.kind.SignalEncoding.{SignalEncoding}
use Rattle.signal.specs.declared.kind.SignalEncoding.TheVariants.{Absent}
use Rattle.signal.specs.Content.{Content}
use Rattle.stream.specs.Entries.{entry}
use Rattle.codec.specs.Ends.{last_index}
use Rattle.recording.specs.declared.SignalRecord.{SignalRecord}
use Rattle.recording.specs.Memory.{record_of}
use Rattle.recording.specs.Step.{rewound, fresh, kind_in, kinds_of}
use Rattle.history.specs.History.{Change, list_of, top_of}
use Rattle.follow.specs.Marked.{marked}
use Rattle.follow.proofs.ChangeLaws.{list_same, list-other, top-same, top-other, last_snoc}

abbrev pub no_record : SignalRecord
no_record = record_of Absent 0 Two 0

-- one record; cs are the open block's changes, seen those before it
pub record RecordIs (k : SignalEncoding) (r : SignalRecord) (seen cs : List Change) (i : ℕ) : Type 0 where
  pub kind : r.kind ≡ k
  pub index : r.index ≡ last_index 0 (list_of i cs)
  pub top : class_number r.top ≡ top_of i (seen ++ cs)

pub record RecsRep (ks : List SignalEncoding) (recs : List SignalRecord) (seen cs : List Change) : Type 0 where
  pub long : length recs ≡ length ks
  pub is : (i : ℕ) → i < length ks → RecordIs (get_or ks i Absent) (get_or recs i no_record) seen cs i

-- the record after a change at place m of class c
abbrev pub changed : SignalRecord → (m c : ℕ) → SignalRecord
changed r m c = record_of r.kind m (states_of (max (class_number r.top) c)) r.probe

same-record : (k : SignalEncoding) (r : SignalRecord) (seen cs : List Change) (g m c : ℕ) (a : Content) → c ≤ 2 → RecordIs k r seen cs g
    → RecordIs k (changed r m c) seen (cs ++ marked g m a c ∷ []) g
same-record k r seen cs g m c a l q = record {
  kind = q.kind;
  index = sym (ap (last_index 0) (list_same g m c a cs) ∙ last_snoc 0 (list_of g cs) (entry m a));
  top = number-states (max (class_number r.top) c) (omega (arith, number_small r.top)) ∙ ap (λ (n : ℕ). max n c) q.top ∙ sym (top-same g m c a seen cs);
}

other-record : (k : SignalEncoding) (r : SignalRecord) (seen cs : List Change) (g i m c : ℕ) (a : Content) → (g ≡ i → ⊥) → RecordIs k r seen cs i
    → RecordIs k r seen (cs ++ marked g m a c ∷ []) i
other-record k r seen cs g i m c a n q = record {
  kind = q.kind;
  index = q.index ∙ ap (last_index 0) (sym (list-other g i m c a cs n));
  top = q.top ∙ sym (top-other g i m c a seen cs n);
}

pub recs-change : (ks : List SignalEncoding) (recs : List SignalRecord) (seen cs : List Change) (g m c : ℕ) (a : Content) → g < length ks → c ≤ 2
    → RecsRep ks recs seen cs → RecsRep ks (set recs g (changed (get_or recs g no_record) m c)) seen (cs ++ marked g m a c ∷ [])
recs-change ks recs seen cs g m c a h l r = record { long = length-set recs g new ∙ r.long; is = λ i j. go i j (ℕ_discrete i g) }
  where
    new : SignalRecord
    new = changed (get_or recs g no_record) m c

    go : (i : ℕ) → i < length ks → Dec (i ≡ g) → RecordIs (get_or ks i Absent) (get_or (set recs g new) i no_record) seen (cs ++ marked g m a c ∷ []) i
    go i j (yes e) =
        let q : get_or (set recs g new) g no_record ≡ new = get_or-set_same recs g new no_record (omega (arith, r.long)) in
        subst (λ (n : ℕ). RecordIs (get_or ks n Absent) (get_or (set recs g new) n no_record) seen (cs ++ marked g m a c ∷ []) n) (sym e)
        (subst (λ (x : SignalRecord). RecordIs (get_or ks g Absent) x seen (cs ++ marked g m a c ∷ []) g) (sym q)
        (same-record (get_or ks g Absent) (get_or recs g no_record) seen cs g m c a l (r.is g h)))
    go i j (no n) =
        subst (λ (x : SignalRecord). RecordIs (get_or ks i Absent) x seen (cs ++ marked g m a c ∷ []) i) (sym (get_or-set_other recs g i new no_record n))
        (other-record (get_or ks i Absent) (get_or recs i no_record) seen cs g i m c a (λ e. n (sym e)) (r.is i j))

-- ---- a cut, a start

rewound-record : (k : SignalEncoding) (r : SignalRecord) (seen cs : List Change) (i : ℕ) → RecordIs k r seen cs i → RecordIs k (rewound r) (seen ++ cs) [] i
unfolding list_of last_index
rewound-record k r seen cs i q = record { kind = q.kind; index = refl; top = q.top ∙ ap (top_of i) (sym (append-nil (seen ++ cs))) }

pub recs-cut : (ks : List SignalEncoding) (recs : List SignalRecord) (seen cs : List Change) → RecsRep ks recs seen cs → RecsRep ks (map rewound recs) (seen ++ cs) []
recs-cut ks recs seen cs r = record {
  long = length-map recs rewound ∙ r.long;
  is = λ i h. subst (λ (x : SignalRecord). RecordIs (get_or ks i Absent) x (seen ++ cs) [] i) (sym (get_or-map rewound recs i no_record))
      (rewound-record (get_or ks i Absent) (get_or recs i no_record) seen cs i (r.is i h));
}

fresh_at : (recs : List SignalRecord) (i : ℕ) → i < length (kinds_of recs) → RecordIs (get_or (kinds_of recs) i Absent) (get_or (map fresh recs) i no_record) [] [] i
unfolding list_of last_index top_of
fresh_at [] i h = absurd (omega arith)
fresh_at (r ∷ recs) zero h = record { kind = refl; index = refl; top = refl }
fresh_at (r ∷ recs) (suc i) h = let q = fresh_at recs i (omega arith) in record { kind = q.kind; index = q.index; top = q.top }

pub recs-start : (recs : List SignalRecord) → RecsRep (kinds_of recs) (map fresh recs) [] []
recs-start recs = record { long = length-map recs fresh ∙ sym (length-map recs kind_in); is = fresh_at recs }
