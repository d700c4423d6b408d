-- A start: what holds past its tests, its cases as the code meets them, and that with its loops it is `start_of`.
-- Assumes nothing.
use Prim.Native.Nat.{ℕ}
use mathlib.Core.Path.{◌≡◌, sym}
use mathlib.Core.Bool.{Bool}
use mathlib.Core.List.{List, ◌++◌}
use native.Mathlib.Omega.{arith}
use native.Mathlib.Decide.{ℕ_discrete}
use lib.ListN.{length}
use lib.Seq.{length-sets}
use lib.Dec.{T}
use Rattle.numbers.specs.LittleEndian.{le}
use Rattle.image.specs.Head.{head_size}
use Rattle.std.specs.declared.result.Result.TheVariants.{Ok, Err}
use Rattle.refusal.specs.Named.{refusal_from}
use Rattle.recording.specs.declared.Answer.TheVariants.{Started}
use Rattle.recording.specs.declared.Encoder.{Encoder}
use Rattle.recording.specs.declared.Settings.{Settings}
use Rattle.recording.specs.declared.SignalRecord.{SignalRecord}
use Rattle.recording.specs.Calls.{reply_of}
use Rattle.recording.specs.Memory.{Memory, memory, after, Tests, first}
use Rattle.recording.specs.Refusals.{any_bad, start_tests}
use Rattle.recording.specs.Step.{fresh, start_of}
use Rattle.recording.specs.State.{start_state}
use Rattle.recording.proofs.StartLaws.{startable, asked, start_fits, start-lawful, start-refused}
use Rattle.recording.proofs.TestsLaws.{positive, guarded-none, guarded-first}
use Rattle.head.specs.Kinds.{head_numbers, kinds_put, KindsFit}
use Rattle.head.proofs.HeadLaws.{kinds-none, kinds-length, head-written}
use Rattle.cut.specs.Turns.{first_by}
use Rattle.cut.proofs.TurnLaws.{first-none, first-all}
use Rattle.plan.specs.declared.Begun.{Begun}
use Rattle.plan_state.specs.Outcomes.{outcome}
use Rattle.plan.proofs.RefusedLaws.{first-named, start-named}
use Rattle.plan.specs.Begin.{begun, begin_of, begin_in, start_carried}

-- no number in the table is 0
start-positive : (settings : Settings) (n : ℕ) (bad : Bool) (t i : ℕ) → T (positive (start_tests settings n bad t i))
unfolding start_tests
start-positive settings n bad t i = tt

-- ---- the cases

module _ (s : Encoder) (settings : Settings) (bad : Bool) (n t : ℕ) (i : List ℕ) where
  abbrev tests : Tests
  tests = start_tests settings n bad t (length i)

  pub begin-refused : (first tests ≡ 0 → ⊥)
      → (begin_of s settings bad n t (length i) ≡ begun (outcome (Err (refusal_from (first tests))) s) 0) × (begin_in settings bad n t i ≡ i)
  unfolding begin_of begin_in
  begin-refused z = (
    guarded-first tests (λ k. begun (outcome (Err (refusal_from k)) s) 0) (begun (outcome (Ok Started) (start_state settings)) n) z,
    guarded-first tests (λ k. i) (head_numbers settings.limit settings.signals i) z,
  )

  pub begin-taken : first tests ≡ 0
      → (begin_of s settings bad n t (length i) ≡ begun (outcome (Ok Started) (start_state settings)) n) × (begin_in settings bad n t i ≡ head_numbers settings.limit settings.signals i)
  unfolding begin_of begin_in
  begin-taken z =
      let p = start-positive settings n bad t (length i) in (
        guarded-none tests (λ k. begun (outcome (Err (refusal_from k)) s) 0) (begun (outcome (Ok Started) (start_state settings)) n) p z,
        guarded-none tests (λ k. i) (head_numbers settings.limit settings.signals i) p z,
      )

  -- the loop that follows stays inside the image
  pub begin-fits : (rs : List SignalRecord) → length rs ≡ n → KindsFit (begin_of s settings bad n t (length i)).turns rs (begin_in settings bad n t i)
  begin-fits rs e = by (ℕ_discrete (first tests) 0)
    where
      by : Dec (first tests ≡ 0) → KindsFit (begin_of s settings bad n t (length i)).turns rs (begin_in settings bad n t i)
      by (no z) =
          let b = begin-refused z in
          rw b.0 (record { few = omega arith; each = λ k h. absurd (omega arith) })
      by (yes z) =
          let b = begin-taken z in
          let f = startable settings n bad t (length i) z in
          rw (b.0, b.1)
          (record {
            few = omega arith;
            each = λ k h.
                rw (kinds-length k rs (head_numbers settings.limit settings.signals i))
                (omega (arith, length-sets i 0 (le 4 settings.signals ++ (le 4 settings.limit ++ (le 4 0 ++ le 4 (head_size settings.signals)))), f.all, f.room, h));
          })

-- ---- with its loops

module _ (settings : Settings) (m : Memory) where
  pub start-carried : start_carried settings m ≡ start_of settings m
  start-carried = by (ℕ_discrete (first (asked settings m)) 0)
    where
      by : Dec (first (asked settings m) ≡ 0) → start_carried settings m ≡ start_of settings m
      by (no z) =
          let b = begin-refused m.state settings (any_bad m.records) (length m.records) (length m.times) m.image z in
          rw (
            b.0,
            b.1,
            first-none fresh m.records,
            kinds-none m.records m.image,
            first-named _ (start-named settings (length m.records) (any_bad m.records) (length m.times) (length m.image)) z,
          ) (sym (start-refused settings m z))
      by (yes z) =
          let b = begin-taken m.state settings (any_bad m.records) (length m.records) (length m.times) m.image z in
          let f = start-lawful settings m z in
          rw (b.0, b.1, first-all fresh m.records, head-written m.records m.image settings.limit settings.signals (sym f.all)) (sym (start_fits settings m f))

-- ---- the steps in a row, as a caller meets them: bad tells of a bad record, n is the count of records

module _ (s : Encoder) (settings : Settings) (rs : List SignalRecord) (t w i : List ℕ) (bad : Bool) (n : ℕ) (b : Begun) (i₁ : List ℕ) (count-is : length rs ≡ n)
    (decided : b ≡ begin_of s settings bad n (length t) (length i)) (head-is : i₁ ≡ begin_in settings bad n (length t) i) where
  pub kinds-fit : KindsFit b.turns rs i₁
  kinds-fit = rw (decided, head-is) (begin-fits s settings bad n (length t) i rs count-is)

  pub start-steps : (rs' : List SignalRecord) (i₂ : List ℕ) → bad ≡ any_bad rs → rs' ≡ first_by fresh b.turns rs → i₂ ≡ kinds_put b.turns rs i₁
      → after (reply_of b.outcome.answer) (memory b.outcome.state rs' t w i₂) ≡ start_of settings (memory s rs t w i)
  start-steps rs' i₂ k c d = rw (c, d, head-is, decided, k, ← count-is) (start-carried settings (memory s rs t w i))
