-- How the content of a change is answered, by the kind and the width.
-- Assumes nothing.
use Prim.Native.Nat.{ℕ, zero, suc, ◌-◌}
use mathlib.Core.Path.{◌≡◌, refl, sym, ap, ◌∙◌, subst}
use mathlib.Core.List.{List, [], ◌∷◌}
use native.Mathlib.Nat.{max-zero}
use native.Mathlib.Omega.{arith}
use lib.ListN.{take, drop, set}
use lib.Seq.{sets}
use Rattle.value.specs.Class.{class_number, states_of, class_of, class_of_all}
use Rattle.value.specs.Real.{real_entry}
use Rattle.value.specs.declared.states.States.{States}
use Rattle.value.specs.declared.real.Entry as declared
use Rattle.value.proofs.ClassLaws.{number-states, class-small}
use Rattle.packed.specs.Packed.{packed_length, unpacked}
use Rattle.signal.specs.declared.kind.SignalEncoding.{SignalEncoding}
use Rattle.signal.specs.declared.kind.SignalEncoding.TheVariants.{BitVector, Real, Absent}
use Rattle.signal.specs.declared.decode.ChangeValue.{ChangeValue}
use Rattle.signal.specs.Content.{Content, happened, symbols, bits}
use Rattle.loaded.specs.Reader.{entry_reply, event, vector}
use Rattle.entry.specs.Read.{bit_in, states_in, bits_in, wide_read, content_read, PackedThere}
use Rattle.cursor.specs.Shown.{Shows}

-- ---- the answers

pub bit-shows : (x : ℕ) (out new : List ℕ) (s : States) (r : declared.Entry) → s ≡ states_of (class_of x) → entry_reply r ≡ vector (class_number s) 0 → r.bits ≡ 0
    → new ≡ set out 0 x → Shows r out new (symbols (x ∷ []))
unfolding class_of_all
bit-shows x out new s r e f g h =
    let z : class_number s ≡ class_of x = ap class_number e ∙ number-states (class_of x) (class-small x) in
    (f ∙ ap (λ (y : ℕ). vector y 0) (z ∙ sym (max-zero (class_of x))), g, h)

pub wide-shows : (w n size : ℕ) (b out new : List ℕ) (s : States) (r : declared.Entry) → PackedThere w (class_number s) n b → size ≡ packed_length w (class_number s)
    → new ≡ sets out 0 (unpacked w (class_number s) (take (n - (n - size)) (drop (n - size) b))) → entry_reply r ≡ vector (class_number s) 0 → r.bits ≡ 0
    → Shows r out new (symbols (wide_read w (class_number s) n b))
wide-shows w n size b out new s r p e f g h =
    let z : n - (n - size) ≡ packed_length w (class_number s) = omega (arith, p.inside) in
    let q : take (n - (n - size)) (drop (n - size) b) ≡ take (packed_length w (class_number s)) (drop (n - packed_length w (class_number s)) b) =
    ap (λ (m : ℕ). take m (drop (n - size) b)) z ∙ ap (λ (m : ℕ). take (packed_length w (class_number s)) (drop (n - m) b)) e in
    (g ∙ ap (λ (y : ℕ). vector y 0) (sym p.class), h, f ∙ ap (λ (l : List ℕ). sets out 0 (unpacked w (class_number s) l)) q)

pub event-shows : (out : List ℕ) (r : declared.Entry) → entry_reply r ≡ event 0 → r.bits ≡ 0 → Shows r out out happened
event-shows out r e f = (e, f, refl)

pub real-shows : (out : List ℕ) (n : ℕ) (r : declared.Entry) → r ≡ real_entry n → Shows r out out (bits n)
real-shows out n r e = (ap entry_reply e, ap (λ (a : declared.Entry). a.bits) e, refl)

pub shows_same : (r : declared.Entry) (out new : List ℕ) (a c : Content) → a ≡ c → Shows r out new c → Shows r out new a
shows_same r out new a c e h = subst (λ (x : Content). Shows r out new x) (sym e) h

-- ---- the content

module _ (k : SignalEncoding) (b : List ℕ) (v : ChangeValue) (n : ℕ) where
  pub content-event : (w : ℕ) → k ≡ BitVector w → w ≡ 0 → content_read k b v n ≡ happened
  unfolding content_read
  content-event w e z = rw (e, z) refl

  pub content-bit : (w x : ℕ) → k ≡ BitVector w → w ≡ 1 → x ≡ bit_in v → content_read k b v n ≡ symbols (x ∷ [])
  unfolding content_read
  content-bit w x e z f = rw (e, z, f) refl

  wide_by : (w : ℕ) → (w ≡ 0 → ⊥) → (w ≡ 1 → ⊥) → content_read (BitVector w) b v n ≡ symbols (wide_read w (class_number (states_in v)) n b)
  unfolding content_read
  wide_by zero z one = absurd (z refl)
  wide_by (suc zero) z one = absurd (one refl)
  wide_by (suc (suc w)) z one = refl

  pub content-wide : (w : ℕ) (s : States) → k ≡ BitVector w → (w ≡ 0 → ⊥) → (w ≡ 1 → ⊥) → s ≡ states_in v → content_read k b v n ≡ symbols (wide_read w (class_number s) n b)
  content-wide w s e z one f = rw (e, f) (wide_by w z one)

  pub content-real : (x : ℕ) → k ≡ Real → x ≡ bits_in v → content_read k b v n ≡ bits x
  unfolding content_read
  content-real x e f = rw (e, f) refl

  pub content-absent : k ≡ Absent → content_read k b v n ≡ happened
  unfolding content_read
  content-absent e = rw e refl
