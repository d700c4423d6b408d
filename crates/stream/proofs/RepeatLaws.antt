-- A content repeats another exactly where they are equal and it is no event.
-- Assumes nothing.
use mathlib.Core.Path.{◌≡◌, refl, ap, subst}
use mathlib.Core.Bool.{Bool, true, false}
use borrow.Author.Tests.{eq-eqb, eqb-true}
use Rattle.lists.proofs.SameLaws.{same_true, same_self, false-true}
use Rattle.signal.specs.Content.{Content, happened, symbols, bits}
use Rattle.stream.specs.Entries.{repeats}

-- an event is no other content
abbrev is_event : Content → Bool
is_event happened = true
is_event (symbols s) = false
is_event (bits b) = false

no-event : {a : Content} → is_event a ≡ false → a ≡ happened → ⊥
no-event {a} f e = false-true (subst (λ (t : Bool). false ≡ t) (ap is_event e) (subst (λ (t : Bool). t ≡ is_event a) f refl))

pub repeats-equal : (p c : Content) → repeats p c ≡ true → (p ≡ c) × (p ≡ happened → ⊥)
repeats-equal happened c e = false-true e
repeats-equal (symbols a) happened e = false-true e
repeats-equal (symbols a) (symbols b) e = (ap symbols (same_true a b e), no-event refl)
repeats-equal (symbols a) (bits b) e = false-true e
repeats-equal (bits a) happened e = false-true e
repeats-equal (bits a) (symbols b) e = false-true e
repeats-equal (bits a) (bits b) e = (ap bits (eqb-true a b e), no-event refl)

pub equal-repeats : (p : Content) → (p ≡ happened → ⊥) → repeats p p ≡ true
equal-repeats happened f = absurd (f refl)
equal-repeats (symbols a) f = same_self a
equal-repeats (bits a) f = eq-eqb a a refl
