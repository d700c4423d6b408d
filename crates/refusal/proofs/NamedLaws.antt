-- Each refusal is that of its number, and a refusal's number is that of its refusal.
-- Assumes nothing.
use Prim.Native.Nat.{ℕ}
use mathlib.Core.Path.{◌≡◌, refl}
use mathlib.Core.Bool.{true}
use borrow.Author.Tests.{eqb-true}
use Rattle.refusal.specs.declared.Refusal.{Refusal}
use Rattle.refusal.specs.declared.Refusal.TheVariants.{BadStart, Closed, BeforeTime, NoSignal, WrongKind, BadValue, WorkFull, ImageFull, OutputShort, Altered, NoImage, Unlike, NoBlock}
use Rattle.refusal.specs.declared.Refusal.TheVariants.{Overlap, Foreign}
use Rattle.refusal.specs.Refusal.{refusal_number}
use Rattle.refusal.specs.Named.{refusal_from, is_refusal_number}

pub refusal_back : (r : Refusal) → refusal_from (refusal_number r) ≡ r
refusal_back BadStart = refl
refusal_back Closed = refl
refusal_back BeforeTime = refl
refusal_back NoSignal = refl
refusal_back WrongKind = refl
refusal_back BadValue = refl
refusal_back WorkFull = refl
refusal_back ImageFull = refl
refusal_back OutputShort = refl
refusal_back Altered = refl
refusal_back NoImage = refl
refusal_back Unlike = refl
refusal_back NoBlock = refl
refusal_back Overlap = refl
refusal_back Foreign = refl

pub number_back : (n : ℕ) → is_refusal_number n ≡ true → refusal_number (refusal_from n) ≡ n
number_back n e = eqb-true (refusal_number (refusal_from n)) n e
