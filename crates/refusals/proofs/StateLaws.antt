-- What the tests of a start and of the state say, part by part.
-- Assumes nothing.
use Prim.Native.Nat.{ℕ, ◌≤◌}
use mathlib.Core.Path.{◌≡◌, refl}
use mathlib.Core.Bool.{Bool, true, false, ◌||◌}
use borrow.Author.Tests.{ltb-false, eqb-true, not-false}
use lib.Dec.{ltb, T}
use Rattle.lists.specs.Choice.{pick}
use Rattle.lists.proofs.ChoiceLaws.{none-holds}
use Rattle.recording.specs.declared.Encoder.{Encoder}
use Rattle.recording.specs.declared.Settings.{Settings}
use Rattle.recording.specs.Memory.{first}
use Rattle.recording.specs.Refusals.{start_tests, state_tests}
use Rattle.recording.proofs.TestsLaws.{positive, none_of}
use Rattle.refusals.specs.Groups.{bad_start, altered}

-- two tests told by one number are one test
both-told : {A : Type 0} (a b : Bool) (x y : A) → pick a x (pick b x y) ≡ pick (a || b) x y
both-told true b x y = refl
both-told false b x y = refl

-- the first of a start's tests that holds is 1, where one does
pub start-told : (s : Settings) (records : ℕ) (bad : Bool) (times image : ℕ)
    → first (start_tests s records bad times image) ≡ pick (bad_start s records bad times image) 1 0
unfolding start_tests
start-told s records bad times image = simp both-told

-- past the tests of the recording and of the sender
pub state-told : (s : Encoder) (foreign : Bool) (records times work image : ℕ) → s.closed ≡ false → foreign ≡ false
    → first (state_tests s foreign records times work image) ≡ pick (altered s records times work image) 10 0
unfolding state_tests
state-told s foreign records times work image o f = rw (o, f) (simp both-told)

-- what holds where no test of the state refuses a call
pub record Sound (s : Encoder) (records times work image : ℕ) : Type 0 where
  pub low : 2 ≤ s.limit
  pub high : s.limit ≤ 65535
  pub early : 1 ≤ s.edition
  pub late : s.edition ≤ 2
  pub held : s.held ≤ s.limit
  pub table : s.limit ≤ times
  pub worked : s.work ≤ work
  pub used : s.image ≤ image
  pub short : image ≤ 1073741824
  pub blocks : s.blocks ≤ s.image
  pub signals : s.signals ≡ records

pub sound : (s : Encoder) (foreign : Bool) (records times work image : ℕ) → first (state_tests s foreign records times work image) ≡ 0
    → Sound s records times work image
unfolding state_tests
sound s foreign records times work image e =
    let f = none_of (state_tests s foreign records times work image) tt e in
    let b = none-holds (ltb s.limit 2) (ltb 65535 s.limit) f.1.1.0 in
    let d = none-holds (ltb s.edition 1) (ltb 2 s.edition) f.1.1.1.0 in
    let u = none-holds (ltb work s.work) (ltb image s.image) f.1.1.1.1.1.1.0 in
    record {
      low = ltb-false _ _ b.0;
      high = ltb-false _ _ b.1;
      early = ltb-false _ _ d.0;
      late = ltb-false _ _ d.1;
      held = ltb-false _ _ f.1.1.1.1.0;
      table = ltb-false _ _ f.1.1.1.1.1.0;
      worked = ltb-false _ _ u.0;
      used = ltb-false _ _ u.1;
      short = ltb-false _ _ f.1.1.1.1.1.1.1.0;
      blocks = ltb-false _ _ f.1.1.1.1.1.1.1.1.0;
      signals = eqb-true _ _ (not-false _ f.1.1.1.1.1.1.1.1.1.0);
    }

-- no number in the table is 0
pub state-positive : (s : Encoder) (foreign : Bool) (records times work image : ℕ)
    → T (positive (state_tests s foreign records times work image))
unfolding state_tests
state-positive s foreign records times work image = tt
