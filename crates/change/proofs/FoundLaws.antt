-- What a change leaves, stage by stage, as the code meets the stages.
-- Assumes nothing.
use Prim.Native.Nat.{ℕ, zero, suc, ◌+◌, ◌-◌, ◌≤◌, ◌<◌, max}
use mathlib.Core.Path.{◌≡◌, refl, sym, ap, ◌∙◌}
use mathlib.Core.Bool.{Bool, true, false}
use mathlib.Core.List.{List, [], ◌∷◌}
use native.Mathlib.Omega.{arith}
use borrow.Author.Tests.{ltb-false}
use lib.ListN.{length}
use lib.Dec.{leb}
use Rattle.lists.specs.Choice.{pick}
use lib.Seq.{sets}
use Rattle.lists.proofs.ChoiceLaws.{none-holds, pick-by}
use Rattle.value.specs.Class.{class_number, states_of}
use Rattle.value.specs.declared.states.States.{States}
use Rattle.value.specs.declared.states.States.TheVariants.{Nine}
use Rattle.signal.specs.declared.decode.ChangeValue.{ChangeValue}
use Rattle.signal.specs.declared.decode.DecodedChange.{DecodedChange}
use Rattle.signal.specs.declared.kind.SignalEncoding.{SignalEncoding}
use Rattle.signal.specs.declared.kind.SignalEncoding.TheVariants.{BitVector, Real, Absent}
use Rattle.signal.specs.Kind.{width_of}
use Rattle.signal.specs.Content.{happened, Given, vcd, raw, real, Decoded, refuse, accept, content_of, vector_says, decode}
use Rattle.signal.specs.Answer.{decoded_to, decoded_as}
use Rattle.refusal.specs.declared.Refusal.{Refusal}
use Rattle.refusal.specs.Refusal.{refusal_number}
use Rattle.refusal.specs.Named.{refusal_from, is_refusal_number}
use Rattle.refusal.proofs.NamedLaws.{number_back}
use Rattle.stream.specs.Stream.{change_bytes}
use Rattle.stream.specs.Answer.{change_length, said_bytes}
use Rattle.recording.specs.declared.Encoder.{Encoder}
use Rattle.recording.specs.declared.SignalRecord.{SignalRecord}
use Rattle.recording.specs.declared.Answer.{Answer}
use Rattle.recording.specs.Calls.{reply_of, say, recorded, skipped}
use Rattle.recording.specs.Memory.{guarded}
use Rattle.recording.specs.Refusals.{no_probe, state_tests, early_tests, signal_tests, room_tests}
use Rattle.recording.specs.State.{skip_of}
use Rattle.recording.specs.Step.{skipped_one}
use Rattle.recording.proofs.TestsLaws.{guarded-by}
use Rattle.admission.specs.declared.Admission.{Admission}
use Rattle.admission.specs.declared.Admission.TheVariants as admission
use Rattle.std.specs.Prelude.{Result, Ok, Err}
use mathlib.Core.Option.{Option, none, some}
use Rattle.admission.specs.Stages.{numbered, working, risen, admission_of, item_start_of, item_begun}
use Rattle.admission.proofs.StageLaws.{signalled, heard}
use Rattle.change.specs.Found.{Found, found, found_refused, found_done, found_by, found_of}
use Rattle.change.proofs.NotationLaws.{item-written, given-length}

-- ---- the tests before the value

module _ (s : Encoder) (r : SignalRecord) (w : List ℕ) (p g : ℕ) (v : Given) where
  abbrev pub byAdmission : Result Admission ℕ → Found
  byAdmission (Err n) = found_refused s r w n
  byAdmission (Ok admission.Skipped) = found (say skipped) (skipped_one s p) r w
  byAdmission (Ok admission.Taken) = found_by s r w g (decode r.kind v)

  found-admitted : (records times image : ℕ) → byAdmission (admission_of s r records times (length w) image p g) ≡ found_of s r records times image w p g v
  unfolding admission_of found_of
  found-admitted records times image =
      guarded-by byAdmission (state_tests s (no_probe p) records times (length w) image) _ _ (λ n. refl)
      (guarded-by byAdmission (early_tests s) Err (heard s r p g) (λ n. refl)
      (pick-by byAdmission (skip_of s.skips p).on (Ok admission.Skipped) (signalled s r p g) refl
      (guarded-by byAdmission (signal_tests s r p g) Err (Ok admission.Taken) (λ n. refl) refl)))

  -- j is the answer that the code meets
  pub after-admitted : (records times image : ℕ) {i j : Result Admission Refusal} → numbered i ≡ admission_of s r records times (length w) image p g → i ≡ j
      → byAdmission (numbered j) ≡ found_of s r records times image w p g v
  after-admitted records times image e f = ap byAdmission (ap numbered (sym f) ∙ e) ∙ found-admitted records times image

-- ---- the value

-- decoding refuses by a refusal's number
abbrev pub Named : Decoded → Type 0
Named (refuse n) = is_refusal_number n ≡ true
Named (accept a c) = Unit {0}

event-named : (t : Bool) → Named (pick t (accept happened 0) (refuse 6))
event-named true = tt
event-named false = refl

vector-named : (o : Option (List ℕ)) (c : ℕ) → Named (vector_says o c)
vector-named none c = refl
vector-named (some s) c = tt

named : (k : SignalEncoding) (x : Given) → Named (decode k x)
unfolding decode
named (BitVector zero) (vcd v) = event-named (leb (length v) 1)
named (BitVector (suc w)) (vcd v) = vector-named _ 0
named Real (vcd v) = refl
named Absent (vcd v) = refl
named (BitVector zero) (raw c v) = refl
named (BitVector (suc w)) (raw c v) = vector-named _ c
named Real (raw c v) = refl
named Absent (raw c v) = refl
named (BitVector w) (real b) = refl
named Real (real b) = tt
named Absent (real b) = refl

pub refused_by : (s : Encoder) (r : SignalRecord) (w : List ℕ) (g : ℕ) (d : Decoded) {n : Refusal} → Named d → decoded_as r.kind d ≡ Err n
    → found_refused s r w (refusal_number n) ≡ found_by s r w g d
unfolding found_by
refused_by s r w g (refuse m) {n} p e = let q : refusal_from m ≡ n = cc in ap (found_refused s r w) (ap refusal_number (sym q) ∙ number_back m p)
refused_by s r w g (accept a c) p e = let z : ◌≡◌ {A = ℕ} 0 1 = cc in absurd (omega arith)

pub found-refused : (s : Encoder) (r : SignalRecord) (w : List ℕ) (g : ℕ) (x : Given) {n : Refusal} → decoded_as r.kind (decode r.kind x) ≡ Err n
    → found_refused s r w (refusal_number n) ≡ found_by s r w g (decode r.kind x)
found-refused s r w g x e = refused_by s r w g (decode r.kind x) (named r.kind x) e

-- ---- the record

nine : (n : ℕ) → 2 ≤ n → states_of n ≡ Nine
nine zero h = absurd (omega arith)
nine (suc zero) h = absurd (omega arith)
nine (suc (suc n)) h = refl

-- a class above 2 counts as Nine in both
max-states : (a c : ℕ) → states_of (max a c) ≡ states_of (max a (class_number (states_of c)))
max-states a zero = refl
max-states a (suc zero) = refl
max-states a (suc (suc c)) = nine (max a (suc (suc c))) (omega arith) ∙ sym (nine (max a 2) (omega arith))

abbrev written : Encoder → SignalRecord → List ℕ → ℕ → Decoded → States → Found
written s r w g d t =
    let b = change_bytes r.kind (s.held - 1 - r.index) (content_of d) in
    guarded (room_tests s r (length w) (length b)) (found_refused s r w) (found_done s r w g b (class_number t))

-- the class in a decoded change
abbrev states_in : States → Result DecodedChange Refusal → States
states_in t (Ok x) = x.states
states_in t (Err n) = t

found-written : (s : Encoder) (r : SignalRecord) (w : List ℕ) (g : ℕ) (d : Decoded) (v : ChangeValue) (t : States) → decoded_as r.kind d ≡ decoded_to v t
    → found_by s r w g d ≡ written s r w g d t
unfolding found_by
found-written s r w g (refuse n) v t e = let z : ◌≡◌ {A = ℕ} 0 1 = cc in absurd (omega arith)
found-written s r w g (accept a c) v t e = let q : states_of c ≡ t = ap (states_in t) e in rw (max-states (class_number r.top) c, q) refl

-- what holds where the record of n stream bytes begins
pub record Room (s : Encoder) (r : SignalRecord) (work : ℕ) (stream : List ℕ) (n : ℕ) : Type 0 where
  pub gap : r.index ≤ s.held - 1
  pub sized : n ≡ length stream
  pub fits : s.work + (8 + n) ≤ work
  pub small : s.work + (8 + n) < 18446744073709551616

room-left : (a b : Bool) (m n : ℕ) → guarded ((a, 10) ∷ (b, 7) ∷ []) Err (Ok m) ≡ Ok n → (a ≡ false) × (b ≡ false) × (m ≡ n)
room-left true b m n e = let z : ◌≡◌ {A = ℕ} 0 1 = cc in absurd (omega arith)
room-left false true m n e = let z : ◌≡◌ {A = ℕ} 0 1 = cc in absurd (omega arith)
room-left false false m n e = (refl, refl, (cc))

pub item_room : (s : Encoder) (r : SignalRecord) (work : ℕ) (x : Given) (v : ChangeValue) (t : States) {i : Result ℕ Refusal} {n : ℕ}
    → decoded_as r.kind (decode r.kind x) ≡ decoded_to v t → numbered i ≡ item_start_of s r work v → i ≡ Ok n → work < 18446744073709551616
    → Room s r work (said_bytes r.kind (s.held - 1 - r.index) x) n
unfolding item_start_of
item_room s r work x v t {i} {n} said e f m =
    let p = room-left _ _ _ n (sym e ∙ ap numbered f) in
    let h : s.work + (8 + n) ≤ work = rw (← p.2) (ltb-false _ _ p.1) in
    record {
      gap = ltb-false _ _ (none-holds _ _ p.0).0;
      sized = sym p.2 ∙ sym (given-length r.kind (s.held - 1 - r.index) x v (t, said));
      fits = h;
      small = omega arith;
    }

-- the tests of room come to the same by the answer's length as by the bytes
module _ (s : Encoder) (r : SignalRecord) (w : List ℕ) (g : ℕ) (x : Given) (v : ChangeValue) (t : States)
    (said : decoded_as r.kind (decode r.kind x) ≡ decoded_to v t) where
  abbrev stream : List ℕ
  stream = said_bytes r.kind (s.held - 1 - r.index) x

  abbrev byStart : Result ℕ ℕ → Found
  byStart (Err k) = found_refused s r w k
  byStart (Ok n) = found_done s r w g stream (class_number t)

  found-started : byStart (item_start_of s r (length w) v) ≡ found_by s r w g (decode r.kind x)
  unfolding item_start_of
  found-started =
      let n = change_length (width_of r.kind) (s.held - 1 - r.index) v in
      guarded-by byStart (room_tests s r (length w) n) Err (Ok n) (λ k. refl) refl
      ∙ rw (← (given-length r.kind (s.held - 1 - r.index) x v (t, said))) (sym (found-written s r w g (decode r.kind x) v t said))

  -- what is left where the record is refused, and where all of it is written
  pub item_refused : {i : Result ℕ Refusal} {k : Refusal} (w' : List ℕ) → numbered i ≡ item_start_of s r (length w) v → w' ≡ item_begun w s.work g (numbered i) → i ≡ Err k
      → found_refused s r w' (refusal_number k) ≡ found_by s r w g (decode r.kind x)
  item_refused {i} {k} w' e h f =
      ap (λ (u : List ℕ). found_refused s r u (refusal_number k)) (h ∙ ap (item_begun w s.work g) (ap numbered f)) ∙ ap byStart (ap numbered (sym f) ∙ e) ∙ found-started

  pub item-done : {i : Result ℕ Refusal} {n : ℕ} (w₁ w₂ : List ℕ) → Room s r (length w) stream n
      → numbered i ≡ item_start_of s r (length w) v → w₁ ≡ item_begun w s.work g (numbered i) → i ≡ Ok n → w₂ ≡ sets w₁ (s.work + 8) stream
      → found (say recorded) (working s (8 + n)) (risen s r (class_number t)) w₂ ≡ found_by s r w g (decode r.kind x)
  item-done {i} {n} w₁ w₂ z e h f b =
      rw (item-written w w₁ w₂ s.work g n stream z.sized (h ∙ ap (item_begun w s.work g) (ap numbered f)) b, z.sized) (ap byStart (ap numbered (sym f) ∙ e) ∙ found-started)

-- what the code answers, part by part
pub answered : (a b : Result Answer Refusal) (s s' : Encoder) (k k' : SignalRecord) (w w' : List ℕ) → a ≡ b → s ≡ s' → k ≡ k' → w ≡ w'
    → found (reply_of a) s k w ≡ found (reply_of b) s' k' w'
answered a b s s' k k' w w' e f g h = rw (e, f, g, h) refl
