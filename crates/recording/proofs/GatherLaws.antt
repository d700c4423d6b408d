-- The stream bytes of one signal, by the first record of a work buffer: it is the signal's own, or another's.
-- Assumes nothing.
use Prim.Native.Nat.{ℕ, ◌+◌}
use mathlib.Core.Path.{◌≡◌, refl, ap, ◌∙◌}
use mathlib.Core.List.{List, ◌∷◌, ◌++◌}
use borrow.Author.Tests.{eq-eqb, ne_eqb}
use lib.ListN.{length, length-append}
use Rattle.recording.specs.Work.{Item, gather}

pub gather-own : (r : Item) (rs : List Item) → gather r.signal (r ∷ rs) ≡ r.bytes ++ gather r.signal rs
unfolding gather
gather-own r rs = rw (eq-eqb r.signal r.signal refl) refl

pub length-own : (r : Item) (rs : List Item) → length (gather r.signal (r ∷ rs)) ≡ length r.bytes + length (gather r.signal rs)
length-own r rs = ap length (gather-own r rs) ∙ length-append r.bytes (gather r.signal rs)

pub gather-other : (g : ℕ) (r : Item) (rs : List Item) → (r.signal ≡ g → ⊥) → gather g (r ∷ rs) ≡ gather g rs
unfolding gather
gather-other g r rs e = rw (ne_eqb r.signal g e) refl
