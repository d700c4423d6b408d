-- What decoding's answer says of the bytes to be written, by the shape of the value.
-- Assumes nothing.
use Prim.Native.Nat.{ℕ, zero, suc, ◌-◌, ◌≤◌, ◌<◌}
use mathlib.Core.Path.{◌≡◌, refl, sym, ap, ap₂, ◌∙◌, subst}
use mathlib.Core.Bool.{Bool, true, false}
use mathlib.Core.List.{List, [], ◌∷◌}
use mathlib.Core.Option.{Option, some}
use native.Mathlib.Omega.{arith}
use lib.Dec.{leb}
use lib.ListN.{length, length-drop}
use Rattle.lists.specs.Choice.{pick}
use Rattle.numbers.specs.Leb128.{leb_of}
use Rattle.value.specs.Class.{states_of, class_number, class_of_all, all_symbols}
use Rattle.value.specs.declared.states.States.{States}
use Rattle.value.specs.declared.symbol.Bit.{Bit}
use Rattle.value.proofs.ClassLaws.{number-states}
use Rattle.vcd.specs.Vcd.{vcd_symbols, text_of, text_symbols}
use Rattle.vcd.proofs.VcdLaws.{vcd-symbols}
use Rattle.packed.specs.Packed.{packed, packed_length, unpacked}
use Rattle.packed.specs.Raw.{raw_symbols, last_of}
use Rattle.packed.proofs.PackedLaws.{length-packed}
use Rattle.packed.proofs.RawSaid.{raw-said}
use Rattle.packer.specs.Notation.{symbols_from, Readable}
use Rattle.packer.specs.declared.Notation.{Notation}
use Rattle.packer.specs.declared.Notation.TheVariants.{Ascii, Packed}
use Rattle.packer.proofs.NotationLaws.{length_from}
use Rattle.signal.specs.declared.kind.SignalEncoding.{SignalEncoding}
use Rattle.signal.specs.declared.kind.SignalEncoding.TheVariants.{BitVector, Real, Absent}
use Rattle.signal.specs.declared.decode.ChangeValue.{ChangeValue}
use Rattle.signal.specs.declared.decode.ChangeValue.TheVariants as value
use Rattle.signal.specs.Kind.{width_of}
use Rattle.signal.specs.Content.{happened, symbols, Given, vcd, raw, real, refuse, accept, content_of, vector_says, event_says, decode}
use Rattle.signal.specs.Answer.{decoded_to, decoded_as}
use Rattle.signal.proofs.DecodeLaws.{same-change, OneBit, one_bit, many-bits, no-event, no-real, vcd-wide, raw-wide}
use Rattle.stream.specs.Stream.{change_bytes}
use Rattle.stream.specs.Answer.{Says, said_bytes}
use Rattle.stream.proofs.StreamTrip.{first-symbol}

refused : {A : Type 0} (n : ℕ) (v : ChangeValue) (t : States) → decoded_as Absent (refuse n) ≡ decoded_to v t → A
refused n v t e = let z : ◌≡◌ {A = ℕ} 0 1 = cc in absurd (omega arith)

-- an event's value is no vector's
no-shape : {A : Type 0} (l : List ℕ) (v : ChangeValue) (t : States) → (value.Event ≡ v → A) → decoded_as (BitVector zero) (event_says l) ≡ decoded_to v t → A
no-shape {A} l v t f e = by (leb (length l) 1) e
  where
    by : (b : Bool) → decoded_as (BitVector zero) (pick b (accept happened 0) (refuse 6)) ≡ decoded_to v t → A
    by true e = f (same-change e)
    by false e = refused 6 v t e

pub says-event : (k : SignalEncoding) (d : ℕ) (l : List ℕ) → Says k (vcd l) value.Event → said_bytes k d (vcd l) ≡ change_bytes (BitVector zero) d happened
unfolding decode change_bytes
says-event (BitVector zero) d l s = refl
says-event (BitVector (suc w)) d l (t, e) = no-event w (vcd_symbols (suc w) l) 0 t e
says-event Real d l (t, e) = refused 5 value.Event t e
says-event Absent d l (t, e) = refused 4 value.Event t e

-- one symbol, however it was given
pub record BitSaid (k : SignalEncoding) (d : ℕ) (g : Given) (b : Bit) : Type 0 where
  pub symbol : b.0 ≤ 8
  pub bytes : said_bytes k d g ≡ change_bytes (BitVector 1) d (symbols (b.0 ∷ []))

bit-said : (w d c : ℕ) (o : Option (List ℕ)) (b : Bit) → OneBit w o b → (o ≡ some (b.0 ∷ []) → all_symbols (b.0 ∷ []) ≡ true)
    → (b.0 ≤ 8) × (change_bytes (BitVector (suc w)) d (content_of (vector_says o c)) ≡ change_bytes (BitVector 1) d (symbols (b.0 ∷ [])))
bit-said w d c o b x f = (first-symbol (b.0 ∷ []) (f x.said), rw (x.said, x.width) refl)

vcd-single : (k : SignalEncoding) (d : ℕ) (l : List ℕ) (b : Bit) → Says k (vcd l) (value.SingleBit b) → BitSaid k d (vcd l) b
unfolding decode
vcd-single (BitVector zero) d l b (t, e) = no-shape l (value.SingleBit b) t (λ q. let z : ◌≡◌ {A = ℕ} 0 1 = cc in absurd (omega arith)) e
vcd-single (BitVector (suc w)) d l b (t, e) =
    let p = bit-said w d 0 (vcd_symbols (suc w) l) b (one_bit w (vcd_symbols (suc w) l) 0 b t (vcd-wide w l) e) (λ q. vcd-symbols (suc w) l q) in
    record { symbol = p.0; bytes = p.1 }
vcd-single Real d l b (t, e) = refused 5 (value.SingleBit b) t e
vcd-single Absent d l b (t, e) = refused 4 (value.SingleBit b) t e

raw-single : (k : SignalEncoding) (d c : ℕ) (l : List ℕ) (b : Bit) → Says k (raw c l) (value.SingleBit b) → BitSaid k d (raw c l) b
unfolding decode
raw-single (BitVector zero) d c l b (t, e) = refused 5 (value.SingleBit b) t e
raw-single (BitVector (suc w)) d c l b (t, e) =
    let p = bit-said w d c (raw_symbols (suc w) c l) b (one_bit w (raw_symbols (suc w) c l) c b t (raw-wide w c l) e) (λ q. (raw-said (suc w) c l q).all) in
    record { symbol = p.0; bytes = p.1 }
raw-single Real d c l b (t, e) = refused 5 (value.SingleBit b) t e
raw-single Absent d c l b (t, e) = refused 4 (value.SingleBit b) t e

pub says-bit : (k : SignalEncoding) (d : ℕ) (g : Given) (b : Bit) → Says k g (value.SingleBit b) → BitSaid k d g b
unfolding decode
says-bit k d (vcd l) b s = vcd-single k d l b s
says-bit k d (raw c l) b s = raw-single k d c l b s
says-bit (BitVector w) d (real n) b (t, e) = refused 5 (value.SingleBit b) t e
says-bit Real d (real n) b (t, e) = let q = same-change e in let z : ◌≡◌ {A = ℕ} 0 1 = cc in absurd (omega arith)
says-bit Absent d (real n) b (t, e) = refused 4 (value.SingleBit b) t e

-- the symbols of a wider vector stand in the bytes src
pub record VectorSaid (k : SignalEncoding) (d : ℕ) (g : Given) (x : States) (n : Notation) (w : ℕ) (src : List ℕ) : Type 0 where
  pub width : 1 < w
  pub there : Readable n w src
  pub all : all_symbols (symbols_from n w src) ≡ true
  pub class : class_of_all (symbols_from n w src) ≡ class_number x
  pub bytes : said_bytes k d g ≡ change_bytes (BitVector w) d (symbols (symbols_from n w src))

pub says-text : (k : SignalEncoding) (d : ℕ) (l : List ℕ) (x : States) → Says k (vcd l) (value.MultiBit x) → VectorSaid k d (vcd l) x Ascii (width_of k) (text_of l)
unfolding decode
says-text (BitVector zero) d l x (t, e) = no-shape l (value.MultiBit x) t (λ q. let z : ◌≡◌ {A = ℕ} 0 1 = cc in absurd (omega arith)) e
says-text (BitVector (suc zero)) d l x (t, e) =
    let m = many-bits zero (vcd_symbols (suc zero) l) 0 x t e in
    let h = m.width in absurd (omega arith)
says-text (BitVector (suc (suc w))) d l x (t, e) =
    let m = many-bits (suc w) (vcd_symbols (suc (suc w)) l) 0 x t e in
    let q : text_symbols (suc (suc w)) (text_of l) ≡ some m.symbols = m.said in
    record {
      width = m.width;
      there = rw q refl;
      all = rw q (vcd-symbols (suc (suc w)) l q);
      class = rw q m.class;
      bytes = rw q refl;
    }
says-text Real d l x (t, e) = refused 5 (value.MultiBit x) t e
says-text Absent d l x (t, e) = refused 4 (value.MultiBit x) t e

pub record RawVector (k : SignalEncoding) (d c : ℕ) (l : List ℕ) (x : States) : Type 0 where
  pub claimed : c ≤ 2
  pub enough : packed_length (width_of k) c ≤ length l
  pub said : VectorSaid k d (raw c l) x (Packed (states_of c)) (width_of k) (last_of (packed_length (width_of k) c) l)

pub says-packed : (k : SignalEncoding) (d c : ℕ) (l : List ℕ) (x : States) → Says k (raw c l) (value.MultiBit x) → RawVector k d c l x
unfolding decode
says-packed (BitVector zero) d c l x (t, e) = refused 5 (value.MultiBit x) t e
says-packed (BitVector (suc w)) d c l x (t, e) =
    let u : ℕ = suc w in
    let m = many-bits w (raw_symbols u c l) c x t e in
    let r = raw-said u c l m.said in
    let n : class_number (states_of c) ≡ c = number-states c r.claimed in
    let part : List ℕ = last_of (packed_length u c) l in
    let same : unpacked u (class_number (states_of c)) part ≡ m.symbols = ap (λ (c : ℕ). unpacked u c part) n ∙ r.same in
    let q : raw_symbols u c l ≡ some m.symbols = m.said in
    let enough = r.enough in
    let long : packed_length u c ≤ length part = omega (arith, length-drop (length l - packed_length u c) l) in
    record {
      claimed = r.claimed;
      enough = r.enough;
      said = record {
        width = m.width;
        there = subst (λ (c : ℕ). packed_length u c ≤ length part) (sym n) long;
        all = rw same r.all;
        class = rw same m.class;
        bytes = rw (q, same) refl;
      };
    }
says-packed Real d c l x (t, e) = refused 5 (value.MultiBit x) t e
says-packed Absent d c l x (t, e) = refused 4 (value.MultiBit x) t e

-- shapes that no VCD or raw value has
pub vcd-no-real : (k : SignalEncoding) (l : List ℕ) (b : ℕ) → Says k (vcd l) (value.Real b) → ⊥
unfolding decode
vcd-no-real (BitVector zero) l b (t, e) = no-shape l (value.Real b) t (λ q. let z : ◌≡◌ {A = ℕ} 0 1 = cc in omega arith) e
vcd-no-real (BitVector (suc w)) l b (t, e) = no-real w (vcd_symbols (suc w) l) 0 b t e
vcd-no-real Real l b (t, e) = refused 5 (value.Real b) t e
vcd-no-real Absent l b (t, e) = refused 4 (value.Real b) t e

pub raw-no-real : (k : SignalEncoding) (c : ℕ) (l : List ℕ) (b : ℕ) → Says k (raw c l) (value.Real b) → ⊥
unfolding decode
raw-no-real (BitVector zero) c l b (t, e) = refused 5 (value.Real b) t e
raw-no-real (BitVector (suc w)) c l b (t, e) = no-real w (raw_symbols (suc w) c l) c b t e
raw-no-real Real c l b (t, e) = refused 5 (value.Real b) t e
raw-no-real Absent c l b (t, e) = refused 4 (value.Real b) t e

pub raw-no-event : (k : SignalEncoding) (c : ℕ) (l : List ℕ) → Says k (raw c l) value.Event → ⊥
unfolding decode
raw-no-event (BitVector zero) c l (t, e) = refused 5 value.Event t e
raw-no-event (BitVector (suc w)) c l (t, e) = no-event w (raw_symbols (suc w) c l) c t e
raw-no-event Real c l (t, e) = refused 5 value.Event t e
raw-no-event Absent c l (t, e) = refused 4 value.Event t e

-- the same as the code knows it: the value's shape, the width and the part by equations
pub event-said : (k : SignalEncoding) (d : ℕ) (l : List ℕ) (v : ChangeValue) → Says k (vcd l) v → v ≡ value.Event → said_bytes k d (vcd l) ≡ leb_of d
unfolding change_bytes
event-said k d l v s e = says-event k d l (subst (Says k (vcd l)) e s)

pub bit-written : (k : SignalEncoding) (d : ℕ) (g : Given) (v : ChangeValue) (b : Bit) → Says k g v → v ≡ value.SingleBit b
    → said_bytes k d g ≡ change_bytes (BitVector 1) d (symbols (b.0 ∷ []))
bit-written k d g v b s e = (says-bit k d g b (subst (Says k g) e s)).bytes

pub text-written : (k : SignalEncoding) (d : ℕ) (l : List ℕ) (v : ChangeValue) (x : States) (w : ℕ) (u : List ℕ) → Says k (vcd l) v → v ≡ value.MultiBit x
    → w ≡ width_of k → u ≡ text_of l → VectorSaid k d (vcd l) x Ascii w u
text-written k d l v x w u s e p q = rw (p, q) (says-text k d l x (subst (Says k (vcd l)) e s))

pub raw-claimed : (k : SignalEncoding) (d c : ℕ) (l : List ℕ) (v : ChangeValue) (x : States) → Says k (raw c l) v → v ≡ value.MultiBit x → RawVector k d c l x
raw-claimed k d c l v x s e = says-packed k d c l x (subst (Says k (raw c l)) e s)

pub packed-written : (k : SignalEncoding) (d c : ℕ) (l : List ℕ) (v : ChangeValue) (x y : States) (w : ℕ) (u : List ℕ) → Says k (raw c l) v → v ≡ value.MultiBit x
    → y ≡ states_of c → w ≡ width_of k → u ≡ last_of (packed_length w (class_number y)) l → VectorSaid k d (raw c l) x (Packed y) w u
packed-written k d c l v x y w u s e p q r =
    let a = raw-claimed k d c l v x s e in
    let n : class_number y ≡ c = rw p (number-states c a.claimed) in
    rw (r, n, q, p) a.said

-- there are enough bytes for the part that counts
pub enough-said : (k c : ℕ) (l : List ℕ) (w : ℕ) (y : States) (n : ℕ) → c ≤ 2 → packed_length k c ≤ length l → w ≡ k → y ≡ states_of c → n ≡ packed_length w (class_number y) → n ≤ length l
enough-said k c l w y n h e p q r = rw (r, p, q, number-states c h) e

pub part-said : (l u : List ℕ) (n m : ℕ) → n ≡ m → u ≡ last_of n l → u ≡ last_of m l
part-said l u n m e q = q ∙ ap (λ (k : ℕ). last_of k l) e

-- the size of a vector's symbols, packed in their class
pub sized : (n : Notation) (w : ℕ) (b : List ℕ) (x : States) → Readable n w b → class_of_all (symbols_from n w b) ≡ class_number x
    → packed_length w (class_number x) ≡ length (packed (class_of_all (symbols_from n w b)) (symbols_from n w b))
sized n w b x h e =
    sym (length-packed (class_of_all (symbols_from n w b)) (symbols_from n w b) ∙ ap₂ packed_length (length_from n w b h) e)
