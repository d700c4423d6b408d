-- A refusal by its number.
-- Assumes nothing.
use Rattle.std.specs.Prelude.{ℕ, Bool, List, [], ◌∷◌, eqb}
use Rattle.lists.specs.Choice.{pick}
use Rattle.refusal.specs.declared.Refusal.{Refusal}
use Rattle.refusal.specs.declared.Refusal.TheVariants.{BadStart, Closed, BeforeTime, NoSignal, WrongKind, BadValue, WorkFull, ImageFull, OutputShort, Altered, NoImage, Unlike, NoBlock}
use Rattle.refusal.specs.declared.Refusal.TheVariants.{Overlap, Foreign}
use Rattle.refusal.specs.Refusal.{refusal_number}

-- the first of these that has the number; Altered where none has
abbrev pub refusal_among : List Refusal → ℕ → Refusal
refusal_among [] n = Altered
refusal_among (r ∷ rs) n = pick (eqb (refusal_number r) n) r (refusal_among rs n)

-- proofs/NamedLaws: of each refusal's number this is that refusal
abbrev pub refusal_from : ℕ → Refusal
refusal_from =
    refusal_among
    (BadStart ∷ Closed ∷ BeforeTime ∷ NoSignal ∷ WrongKind ∷ BadValue ∷ WorkFull ∷ ImageFull ∷ OutputShort ∷ NoImage ∷ Unlike ∷ NoBlock ∷ Overlap ∷ Foreign ∷ [])

-- it is a refusal's number
abbrev pub is_refusal_number : ℕ → Bool
is_refusal_number n = eqb (refusal_number (refusal_from n)) n
