-- A plan carried out, with the loop over any records rs: of a time it is `time_of`, of a finish `finish_of`; and each step's demands hold.
-- Assumes nothing.
use Prim.Native.Nat.{ℕ, ◌+◌, ◌-◌, ◌<◌}
use mathlib.Core.Path.{◌≡◌, refl, sym, ◌∙◌, subst}
use mathlib.Core.Bool.{false}
use mathlib.Core.List.{List, map}
use Rattle.std.specs.Prelude as code
use native.Mathlib.Omega.{arith}
use native.Mathlib.Decide.{ℕ_discrete}
use borrow.Author.Tests.{eq-eqb, ne_eqb}
use lib.ListN.{length, take, set, replicate, length-replicate}
use lib.Dec.{eqb}
use Rattle.lists.specs.Choice.{pick}
use Rattle.value.specs.declared.states.States.TheVariants.{Two}
use Rattle.signal.specs.declared.kind.SignalEncoding.TheVariants.{Absent}
use Rattle.std.specs.declared.option.Option.TheVariants.{None, Some}
use Rattle.std.specs.declared.result.Result.TheVariants.{Ok, Err}
use Rattle.refusal.specs.declared.Refusal.{Refusal}
use Rattle.refusal.specs.Refusal.{refusal_number}
use Rattle.refusal.specs.Named.{refusal_from}
use Rattle.recording.specs.declared.Answer.TheVariants.{Taken, Same, Back}
use Rattle.recording.specs.declared.Encoder.{Encoder}
use Rattle.recording.specs.declared.SignalRecord.{SignalRecord}
use Rattle.recording.specs.Calls.{Way, above, equal, below, way_of, reply_of}
use Rattle.recording.specs.Memory.{Memory, memory, After, after, record_of, Tests, first, refused}
use Rattle.recording.specs.Refusals.{no_probe, state_tests}
use Rattle.recording.specs.Step as step
use Rattle.recording.proofs.TestsLaws.{guarded-none, guarded-first}
use Rattle.refusals.proofs.StateLaws.{Sound, sound, state-positive}
use Rattle.cut.specs.Cut.{sized, data_start, cut_opened, next_times, CutOpens, CutCloses}
use Rattle.cut.specs.Turns.{first_by, cut_turns, TurnsFit}
use Rattle.cut.proofs.TurnLaws.{first-all}
use Rattle.cut.proofs.CutLaws.{Cuttable, Sizes, refuses, fits, sizes, made, cut-opens, cut-turns, cut-closes, cut-made}
use Rattle.recording.specs.declared.Outcome.{Outcome}
use Rattle.recording.specs.Step.{with_cut, timed_state}
use Rattle.plan_state.specs.declared.plan.Plan.{Plan}
use Rattle.plan_state.specs.Outcomes.{outcome, still, cutting, taking, closing}
use Rattle.plan.specs.Plan.{or_refused, plan_refused, time_sized, plan_by, plan_time, finish_sized, plan_finish}
use Rattle.plan.specs.Carry.{opened_by, turned_by, closed_by, times_by, carried, Completes, Carries}
use Rattle.plan.proofs.TimeLaws.{time-refused, time-passed, above-taken, above-cut}
use Rattle.plan.proofs.RefusedLaws.{first-named, state-named}
use Rattle.plan.proofs.FinishLaws as ends

-- nothing is not something
no-value : {A : Type 0} {x : ℕ} → ◌≡◌ {A = code.Option ℕ} None (Some x) → A
no-value q = let z : ◌≡◌ {A = ℕ} 0 1 = cc in absurd (omega arith)

-- what holds of a value holds of the same one
same-value : (P : ℕ → Type 0) (x y : ℕ) → ◌≡◌ {A = code.Option ℕ} (Some x) (Some y) → P x → P y
same-value P x y q h = let e : x ≡ y = cc in subst P e h

module _ (s : Encoder) (rs : List SignalRecord) (t w i : List ℕ) where
  abbrev m : Memory
  m = memory s rs t w i

  -- a plan whose steps' demands hold, carried out, is e
  record Does (p : Plan) (e : After) : Type 0 where
    pub opens : (n : ℕ) → p.cut ≡ Some n → CutOpens p.state n t w i
    pub carries : Carries p rs t w i
    pub same : carried p m ≡ e

  does-by : {p q : Plan} {e f : After} → p ≡ q → e ≡ f → Does q f → Does p e
  does-by {p} {q} {e} {f} a b d = subst (λ (x : Plan). Does x e) (sym a) (subst (λ (y : After). Does q y) (sym b) d)

  -- ---- without a cut

  no-turns : TurnsFit 0 0 0 rs i
  no-turns = record { few = omega arith; each = λ k h. absurd (omega arith) }

  still-does : (o : Outcome) → Does (still o s) (after (reply_of o.answer) (memory o.state rs t w i))
  unfolding first_by cut_turns
  still-does o =
      record {
        opens = λ n q. no-value q;
        carries = record { loop = no-turns; end = record { closes = λ n q. no-value q; counted = λ x q. no-value q; table = λ x q. no-value q } };
        same = refl;
      }

  taking-does : (o : Outcome) (x : ℕ) → 0 < o.state.held → o.state.held - 1 < length t
      → Does (taking (still o s) x) (after (reply_of o.answer) (memory o.state rs (set t (o.state.held - 1) x) w i))
  unfolding first_by cut_turns
  taking-does o x h l =
      record {
        opens = λ n q. no-value q;
        carries = record { loop = no-turns; end = record { closes = λ n q. no-value q; counted = λ x q. h; table = λ x q. l } };
        same = refl;
      }

  refusal-does : (r : Refusal) → Does (or_refused s (Err r)) (refused m (refusal_number r))
  refusal-does r = still-does (outcome (Err r) s)

  refused-does : (k : ℕ) → refusal_number (refusal_from k) ≡ k → Does (plan_refused s k) (refused m k)
  refused-does k e = subst (λ (j : ℕ). Does (plan_refused s k) (refused m j)) e (refusal-does (refusal_from k))

  -- ---- with a cut

  module _ (h : Sound s (length rs) (length t) (length w) (length i)) (size : ℕ) (c : Cuttable s rs t w i h size) (any : 0 < s.held) where
    abbrev image : List ℕ
    image = (step.cut_in m (made s rs t w i h)).image

    closes : (n : ℕ) → ◌≡◌ {A = code.Option ℕ} (Some size) (Some n) → CutCloses s n t w (cut_turns s.image (data_start s) (length rs) rs (cut_opened s size t w i)).image
    closes n q =
        same-value (λ k. CutCloses s k t w (cut_turns s.image (data_start s) (length rs) rs (cut_opened s size t w i)).image) size n q
        (cut-closes s rs t w i h size c any)

    cut-does : (o : Outcome)
        → Does (cutting o s size (length rs)) (after (reply_of o.answer) (memory o.state (map step.rewound rs) (next_times s t) w image))
    cut-does o =
        record {
          opens = λ n q. same-value (λ k. CutOpens s k t w i) size n q (cut-opens s rs t w i h size c any);
          carries = record {
            loop = cut-turns s rs t w i h size c any;
            end = record { closes = closes; counted = λ x q. no-value q; table = λ x q. no-value q };
          };
          same = rw (first-all step.rewound rs, cut-made s rs t w i h size c any) refl;
        }

    cut-takes : (o : Outcome) (x : ℕ) → 0 < o.state.held → o.state.held - 1 < length t
        → Does (taking (cutting o s size (length rs)) x)
        (after (reply_of o.answer) (memory o.state (map step.rewound rs) (set (next_times s t) (o.state.held - 1) x) w image))
    cut-takes o x k l =
        record {
          opens = λ n q. same-value (λ k. CutOpens s k t w i) size n q (cut-opens s rs t w i h size c any);
          carries = record {
            loop = cut-turns s rs t w i h size c any;
            end = record { closes = closes; counted = λ y q. k; table = λ y q. l };
          };
          same = rw (first-all step.rewound rs, cut-made s rs t w i h size c any) refl;
        }

  -- ---- a time

  module _ (p x : ℕ) where
    abbrev asked : Tests
    asked = state_tests s (no_probe p) (length rs) (length t) (length w) (length i)

    refused-still : (first asked ≡ 0 → ⊥) → step.time_of m p x ≡ refused m (first asked)
    unfolding step.time_of
    refused-still z = guarded-first asked (refused m) (step.time_by m p x (way_of (take s.held t) x)) z

    gone-on : first asked ≡ 0 → step.time_of m p x ≡ step.time_by m p x (way_of (take s.held t) x)
    unfolding step.time_of
    gone-on z =
        guarded-none asked (refused m) (step.time_by m p x (way_of (take s.held t) x)) (state-positive s (no_probe p) (length rs) (length t) (length w) (length i)) z

    module _ (h : Sound s (length rs) (length t) (length w) (length i)) where
      full-does : s.held ≡ s.limit → Does (plan_by s (length rs) w (length i) p x above) (step.time_by m p x above)
      full-does e = by (sizes s rs t w i h)
        where
          plan-is : plan_by s (length rs) w (length i) p x above ≡ time_sized s (length rs) p x (sized s w (length i))
          plan-is = above-cut s (length rs) w (length i) p x h.held (omega arith)

          time-is : step.time_by m p x above ≡ step.time_cut m p x (step.cut_of m)
          time-is = rw (eq-eqb s.held s.limit e) refl

          by : Sizes s rs t w i h → Does (plan_by s (length rs) w (length i) p x above) (step.time_by m p x above)
          by (refuses r a b) = does-by (plan-is ∙ rw a refl) (time-is ∙ rw b refl) (refusal-does r)
          by (fits n a c) =
              let o = outcome (Ok Taken) (timed_state (with_cut s n) p) in
              does-by (plan-is ∙ rw a refl) (time-is ∙ rw (c.cut, c.whole) refl)
              (cut-takes h n c (omega (arith, h.low)) o x (omega arith) (omega (arith, h.low, h.table)))

      room-does : (s.held ≡ s.limit → ⊥) → Does (plan_by s (length rs) w (length i) p x above) (step.time_by m p x above)
      room-does e =
          let less : s.held < s.limit = omega (arith, h.held, e) in
          let back : s.held + 1 - 1 ≡ s.held = omega arith in
          does-by (above-taken s (length rs) w (length i) p x less) (rw (ne_eqb s.held s.limit e, back) refl)
          (taking-does (outcome (Ok Taken) (timed_state s p)) x (omega arith) (omega (arith, h.table, less)))

      way-does : (y : Way) → Does (plan_by s (length rs) w (length i) p x y) (step.time_by m p x y)
      way-does equal = still-does (outcome (Ok Same) (step.same_time s p))
      way-does below = still-does (outcome (Ok Back) (step.skipping s p))
      way-does above = by (ℕ_discrete s.held s.limit)
        where
          by : Dec (s.held ≡ s.limit) → Does (plan_by s (length rs) w (length i) p x above) (step.time_by m p x above)
          by (yes e) = full-does e
          by (no e) = room-does e

    time-does : Does (plan_time s (length rs) t w (length i) p x) (step.time_of m p x)
    time-does = by (ℕ_discrete (first asked) 0)
      where
        by : Dec (first asked ≡ 0) → Does (plan_time s (length rs) t w (length i) p x) (step.time_of m p x)
        by (no z) =
            does-by (time-refused s (length rs) t w (length i) p x z) (refused-still z)
            (refused-does (first asked) (first-named asked (state-named s (no_probe p) (length rs) (length t) (length w) (length i)) z))
        by (yes z) =
            does-by (time-passed s (length rs) t w (length i) p x z) (gone-on z) (way-does (sound _ _ _ _ _ _ z) (way_of (take s.held t) x))

  -- ---- a finish

  abbrev tests : Tests
  tests = state_tests s false (length rs) (length t) (length w) (length i)

  abbrev going : After
  going = pick (eqb s.held 0) (step.closing m) (step.finish_cut m (step.cut_of m))

  closed-back : (first tests ≡ 0 → ⊥) → step.finish_of m ≡ refused m (first tests)
  unfolding step.finish_of
  closed-back z = guarded-first tests (refused m) going z

  closed_on : first tests ≡ 0 → step.finish_of m ≡ going
  unfolding step.finish_of
  closed_on z = guarded-none tests (refused m) going (state-positive s false (length rs) (length t) (length w) (length i)) z

  abbrev ending : Plan
  ending = plan_finish s (length rs) (length t) w (length i)

  held-does : Sound s (length rs) (length t) (length w) (length i) → first tests ≡ 0 → (s.held ≡ 0 → ⊥) → Does ending (step.finish_of m)
  held-does h z e = by (sizes s rs t w i h)
    where
      plan-is : ending ≡ finish_sized s (length rs) (sized s w (length i))
      plan-is = ends.finish-held s (length rs) (length t) w (length i) z e

      finish-is : step.finish_of m ≡ step.finish_cut m (step.cut_of m)
      finish-is = closed_on z ∙ rw (ne_eqb s.held 0 e) refl

      by : Sizes s rs t w i h → Does ending (step.finish_of m)
      by (refuses r a b) = does-by (plan-is ∙ rw a refl) (finish-is ∙ rw b refl) (refusal-does r)
      by (fits n a c) =
          does-by (plan-is ∙ rw a refl) (finish-is ∙ rw (c.cut, c.whole) refl)
          (cut-does h n c (omega (arith, e)) (closing (with_cut s n)))

  finish-does : Does ending (step.finish_of m)
  finish-does = by (ℕ_discrete (first tests) 0) (ℕ_discrete s.held 0)
    where
      by : Dec (first tests ≡ 0) → Dec (s.held ≡ 0) → Does ending (step.finish_of m)
      by (no z) d =
          does-by (ends.finish-refused s (length rs) (length t) w (length i) z) (closed-back z)
          (refused-does (first tests) (first-named tests (state-named s false (length rs) (length t) (length w) (length i)) z))
      by (yes z) (yes e) =
          does-by (ends.finish-empty s (length rs) (length t) w (length i) z e) (closed_on z ∙ rw (eq-eqb s.held 0 e) refl) (still-does (closing s))
      by (yes z) (no e) = held-does (sound s false (length rs) (length t) (length w) (length i) z) z e

  -- ---- what callers cite; n is the count of records

  module _ (n : ℕ) (e : length rs ≡ n) where
    pub time-carries : (p x : ℕ) → Carries (plan_time s n t w (length i) p x) rs t w i
    time-carries p x = subst (λ (k : ℕ). Carries (plan_time s k t w (length i) p x) rs t w i) e (time-does p x).carries

    pub time-carried : (p x : ℕ) → carried (plan_time s n t w (length i) p x) m ≡ step.time_of m p x
    time-carried p x = subst (λ (k : ℕ). carried (plan_time s k t w (length i) p x) m ≡ step.time_of m p x) e (time-does p x).same

    pub finish-carries : Carries (plan_finish s n (length t) w (length i)) rs t w i
    finish-carries = subst (λ (k : ℕ). Carries (plan_finish s k (length t) w (length i)) rs t w i) e finish-does.carries

    pub finish-carried : carried (plan_finish s n (length t) w (length i)) m ≡ step.finish_of m
    finish-carried = subst (λ (k : ℕ). carried (plan_finish s k (length t) w (length i)) m ≡ step.finish_of m) e finish-does.same

-- ---- before the loop, of any n records

module _ (s : Encoder) (n : ℕ) (t w i : List ℕ) where
  abbrev some-records : List SignalRecord
  some-records = replicate n (record_of Absent 0 Two 0)

  so-many : length some-records ≡ n
  so-many = length-replicate n (record_of Absent 0 Two 0)

  -- the block that the plan cuts can be opened
  abbrev Opening : Plan → Type 0
  Opening p = (size : ℕ) → p.cut ≡ Some size → CutOpens p.state size t w i

  pub time-opens : (p x : ℕ) → Opening (plan_time s n t w (length i) p x)
  time-opens p x = subst (λ (k : ℕ). Opening (plan_time s k t w (length i) p x)) so-many (time-does s some-records t w i p x).opens

  pub finish-opens : Opening (plan_finish s n (length t) w (length i))
  finish-opens = subst (λ (k : ℕ). Opening (plan_finish s k (length t) w (length i))) so-many (finish-does s some-records t w i).opens

-- ---- the steps in a row, as a caller meets them: p is decided to be q, and i₁, i₂ and i₃ are the images after each

module _ (rs : List SignalRecord) (t w i : List ℕ) (p q : Plan) (i₁ i₂ : List ℕ) (decided : p ≡ q) (open_is : i₁ ≡ opened_by p t w i) where
  pub loop-fits : Carries q rs t w i → TurnsFit p.used p.start p.turns rs i₁
  loop-fits c = rw (open_is, decided) c.loop

  module _ (loop-is : i₂ ≡ turned_by p rs i₁) where
    pub end_fits : Carries q rs t w i → Completes p t w i₂
    end_fits c = rw (loop-is, open_is, decided) c.end

    pub steps-carried : (s : Encoder) (rs' : List SignalRecord) (o : Outcome) (t' i₃ : List ℕ) → rs' ≡ first_by step.rewound p.turns rs → o ≡ p.outcome
        → t' ≡ times_by p t → i₃ ≡ closed_by p w i₂
        → after (reply_of o.answer) (memory o.state rs' t' w i₃) ≡ carried q (memory s rs t w i)
    steps-carried s rs' o t' i₃ a b c d = rw (a, b, c, d, loop-is, open_is, decided) refl
