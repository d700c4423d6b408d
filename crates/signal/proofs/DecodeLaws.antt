-- What the code's answer for a vector's value says of its symbols, whichever way they were given.
-- Assumes nothing.
use Prim.Native.Nat.{ℕ, zero, suc, ◌≤◌, ◌<◌, ◌^◌, max}
use mathlib.Core.Path.{◌≡◌, refl, sym, ap, ◌∙◌}
use mathlib.Core.Bool.{Bool, true, false}
use mathlib.Core.List.{List, [], ◌∷◌}
use mathlib.Core.Option.{Option, some, none}
use native.Mathlib.Omega.{arith}
use lib.Dec.{leb}
use lib.ListN.{length, get_or}
use Rattle.std.specs.Prelude.{Result, Ok, Err}
use Rattle.refusal.specs.declared.Refusal.{Refusal}
use Rattle.lists.specs.Choice.{pick}
use Rattle.lists.proofs.SmallLaws.{one-element}
use Rattle.value.specs.Class.{states_of, class_number, class_of_all, all_symbols}
use Rattle.value.specs.Change.{change_of}
use Rattle.value.specs.declared.states.States.{States}
use Rattle.value.specs.declared.symbol.Bit.{Bit}
use Rattle.value.proofs.ClassLaws.{number-states, class-all-small, one_class}
use Rattle.signal.specs.declared.kind.SignalEncoding.{SignalEncoding}
use Rattle.signal.specs.declared.kind.SignalEncoding.TheVariants.{BitVector, Real, Absent}
use Rattle.signal.specs.declared.decode.ChangeValue.{ChangeValue}
use Rattle.signal.specs.declared.decode.ChangeValue.TheVariants as value
use Rattle.signal.specs.declared.decode.DecodedChange.{DecodedChange}
use Rattle.vcd.specs.Vcd.{vcd_symbols}
use Rattle.vcd.proofs.VcdLaws.{vcd-length, vcd-symbols}
use Rattle.packed.specs.Raw.{raw_symbols}
use Rattle.packed.proofs.RawSaid.{raw-said, raw-length}
use Rattle.signal.specs.Kind.{top_limit}
use Rattle.signal.specs.Content.{Content, happened, symbols, bits, symbols_of, ContentFits, Given, vcd, raw, real, GivenFits, refuse, accept, vector_says, event_says, decode}
use Rattle.signal.specs.Answer.{decoded_to, decoded_as, vector_answer}

-- symbols of a width, where there are any
abbrev pub Wide : ℕ → Option (List ℕ) → Type 0
Wide w none = Unit {0}
Wide w (some s) = length s ≡ w

-- the code's answer from the answer for the vector alone
pub vector-answer : (w : ℕ) (o : Option (List ℕ)) (c : ℕ) → Wide (suc w) o → vector_answer (change_of (suc w) o) c ≡ decoded_as (BitVector (suc w)) (vector_says o c)
vector-answer zero none c h = refl
vector-answer (suc w) none c h = refl
vector-answer zero (some s) c h = ap (λ (n : ℕ). decoded_to (value.SingleBit (record { 0 = get_or s 0 0 })) (states_of (max n c))) (sym (one_class s h))
vector-answer (suc w) (some s) c h = ap (λ (n : ℕ). decoded_to (value.MultiBit (states_of (class_of_all s))) (states_of (max n c))) (number-states (class_of_all s) (class-all-small s))

-- equal answers say the same
abbrev change_in : ChangeValue → Result DecodedChange Refusal → ChangeValue
change_in v (Ok d) = d.change
change_in v (Err r) = v

pub same-change : {v x : ChangeValue} {t u : States} → decoded_to v t ≡ decoded_to x u → v ≡ x
same-change {v} e = ap (change_in v) e

-- what an answer of each shape says of the symbols
pub no-event : {A : Type 0} (w : ℕ) (o : Option (List ℕ)) (c : ℕ) (t : States) → decoded_as (BitVector (suc w)) (vector_says o c) ≡ decoded_to value.Event t → A
no-event w none c t e = let z : ◌≡◌ {A = ℕ} 0 1 = cc in absurd (omega arith)
no-event zero (some s) c t e = let q = same-change e in let z : ◌≡◌ {A = ℕ} 0 1 = cc in absurd (omega arith)
no-event (suc w) (some s) c t e = let q = same-change e in let z : ◌≡◌ {A = ℕ} 0 1 = cc in absurd (omega arith)

pub no-real : {A : Type 0} (w : ℕ) (o : Option (List ℕ)) (c b : ℕ) (t : States) → decoded_as (BitVector (suc w)) (vector_says o c) ≡ decoded_to (value.Real b) t → A
no-real w none c b t e = let z : ◌≡◌ {A = ℕ} 0 1 = cc in absurd (omega arith)
no-real zero (some s) c b t e = let q = same-change e in let z : ◌≡◌ {A = ℕ} 0 1 = cc in absurd (omega arith)
no-real (suc w) (some s) c b t e = let q = same-change e in let z : ◌≡◌ {A = ℕ} 0 1 = cc in absurd (omega arith)

pub record OneBit (w : ℕ) (o : Option (List ℕ)) (b : Bit) : Type 0 where
  pub width : w ≡ 0
  pub said : o ≡ some (b.0 ∷ [])

pub one_bit : (w : ℕ) (o : Option (List ℕ)) (c : ℕ) (b : Bit) (t : States) → Wide (suc w) o
    → decoded_as (BitVector (suc w)) (vector_says o c) ≡ decoded_to (value.SingleBit b) t → OneBit w o b
one_bit w none c b t h e = let z : ◌≡◌ {A = ℕ} 0 1 = cc in absurd (omega arith)
one_bit zero (some s) c b t h e =
    let q = same-change e in
    let first : get_or s 0 0 ≡ b.0 = cc in
    record { width = refl; said = ap some (one-element s h ∙ ap (λ (n : ℕ). n ∷ []) first) }
one_bit (suc w) (some s) c b t h e = let q = same-change e in let z : ◌≡◌ {A = ℕ} 0 1 = cc in absurd (omega arith)

pub record ManyBits (w : ℕ) (o : Option (List ℕ)) (x : States) : Type 0 where
  pub symbols : List ℕ
  pub width : 1 < suc w
  pub said : o ≡ some symbols
  pub class : class_of_all symbols ≡ class_number x

pub many-bits : (w : ℕ) (o : Option (List ℕ)) (c : ℕ) (x t : States) → decoded_as (BitVector (suc w)) (vector_says o c) ≡ decoded_to (value.MultiBit x) t → ManyBits w o x
many-bits w none c x t e = let z : ◌≡◌ {A = ℕ} 0 1 = cc in absurd (omega arith)
many-bits zero (some s) c x t e = let q = same-change e in let z : ◌≡◌ {A = ℕ} 0 1 = cc in absurd (omega arith)
many-bits (suc w) (some s) c x t e =
    let q = same-change e in
    let same : states_of (class_of_all s) ≡ x = cc in
    record { symbols = s; width = omega arith; said = refl; class = sym (number-states (class_of_all s) (class-all-small s)) ∙ ap class_number same }

wide_by : (w : ℕ) (o : Option (List ℕ)) → ((s : List ℕ) → o ≡ some s → length s ≡ w) → Wide w o
wide_by w none f = tt
wide_by w (some s) f = f s refl

pub vcd-wide : (w : ℕ) (v : List ℕ) → Wide (suc w) (vcd_symbols (suc w) v)
vcd-wide w v = wide_by (suc w) (vcd_symbols (suc w) v) (λ s e. vcd-length (suc w) v e)

pub raw-wide : (w c : ℕ) (v : List ℕ) → Wide (suc w) (raw_symbols (suc w) c v)
raw-wide w c v = wide_by (suc w) (raw_symbols (suc w) c v) (λ s e. raw-length (suc w) c v e)

-- what is accepted fits the kind; its class is at most the one answered, and that at most the kind's limit
pub record Accepted (k : SignalEncoding) (a : Content) (c : ℕ) : Type 0 where
  pub fits : ContentFits k a
  pub class : class_of_all (symbols_of a) ≤ c
  pub limit : c ≤ top_limit k

vector-accepted : (w : ℕ) (o : Option (List ℕ)) (t : ℕ) (a : Content) (c : ℕ) → Wide (suc w) o
    → ((s : List ℕ) → o ≡ some s → (all_symbols s ≡ true) × (t ≤ 2)) → vector_says o t ≡ accept a c → Accepted (BitVector (suc w)) a c
vector-accepted w none t a c h f e = let z : ◌≡◌ {A = ℕ} 0 1 = cc in absurd (omega arith)
vector-accepted w (some s) t a c h f e =
    let p : symbols s ≡ a = cc in
    let q : max (class_of_all s) t ≡ c = cc in
    let small = class-all-small s in
    let r = f s refl in
    rw (← p, ← q) (record { fits = (h, r.0); class = omega arith; limit = omega (arith, r.1) })

event-accepted : (v : List ℕ) (a : Content) (c : ℕ) → event_says v ≡ accept a c → Accepted (BitVector zero) a c
unfolding class_of_all
event-accepted v a c e = by (leb (length v) 1) e
  where
    by : (t : Bool) → pick t (accept happened 0) (refuse 6) ≡ accept a c → Accepted (BitVector zero) a c
    by true e = let p : happened ≡ a = cc in let q : 0 ≡ c = cc in rw (← p, ← q) (record { fits = tt; class = omega arith; limit = omega arith })
    by false e = let z : ◌≡◌ {A = ℕ} 0 1 = cc in absurd (omega arith)

real-accepted : (b : ℕ) (a : Content) (c : ℕ) → b < 2 ^ 64 → accept (bits b) 0 ≡ accept a c → Accepted Real a c
unfolding class_of_all
real-accepted b a c h e = let p : bits b ≡ a = cc in let q : 0 ≡ c = cc in rw (← p, ← q) (record { fits = h; class = omega arith; limit = omega arith })

never : {A : Type 0} (n : ℕ) (a : Content) (c : ℕ) → refuse n ≡ accept a c → A
never n a c e = let z : ◌≡◌ {A = ℕ} 0 1 = cc in absurd (omega arith)

pub accepted : (k : SignalEncoding) (g : Given) (a : Content) (c : ℕ) → GivenFits g → decode k g ≡ accept a c → Accepted k a c
unfolding decode
accepted (BitVector zero) (vcd v) a c f e = event-accepted v a c e
accepted (BitVector (suc w)) (vcd v) a c f e =
    vector-accepted w (vcd_symbols (suc w) v) 0 a c (vcd-wide w v) (λ s q. (vcd-symbols (suc w) v q, omega arith)) e
accepted Real (vcd v) a c f e = never 5 a c e
accepted Absent (vcd v) a c f e = never 4 a c e
accepted (BitVector zero) (raw t v) a c f e = never 5 a c e
accepted (BitVector (suc w)) (raw t v) a c f e =
    vector-accepted w (raw_symbols (suc w) t v) t a c (raw-wide w t v) (λ s q. ((raw-said (suc w) t v q).all, (raw-said (suc w) t v q).claimed)) e
accepted Real (raw t v) a c f e = never 5 a c e
accepted Absent (raw t v) a c f e = never 4 a c e
accepted (BitVector w) (real b) a c f e = never 5 a c e
accepted Real (real b) a c f e = real-accepted b a c f e
accepted Absent (real b) a c f e = never 4 a c e
