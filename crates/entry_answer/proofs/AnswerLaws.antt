-- Answering one entry's bytes: one law for each return.
-- Assumes nothing.
use Prim.Native.Nat.{ℕ, zero, suc, ◌-◌, ◌%◌, ◌≤◌, ◌<◌}
use mathlib.Core.Path.{◌≡◌, refl, sym, ap, ◌∙◌, subst}
use mathlib.Core.Bool.{Bool, true, false, ◌&&◌}
use mathlib.Core.List.{List, [], ◌∷◌}
use native.Mathlib.Nat.{max-zero}
use native.Mathlib.Omega.{arith}
use borrow.Author.Tests.{lt-ltb, le-ltb, le-leb, lt-leb, eq-eqb, ne_eqb}
use lib.Dec.{leb}
use lib.ListN.{length, take, drop, get_or, set, length-drop}
use lib.Seq.{sets, take_all}
use Rattle.lists.specs.Choice.{pick}
use Rattle.numbers.specs.LittleEndian.{unle}
use Rattle.value.specs.Class.{class_number, states_of, class_of, class_of_all, all_symbols, min_states}
use Rattle.value.specs.Real.{real_entry}
use Rattle.value.specs.declared.real.Entry as declared
use Rattle.value.specs.declared.states.States.{States}
use Rattle.std.proofs.Common.{Some, None}
use Rattle.std.specs.Prelude as std
use Rattle.value.proofs.ClassLaws.{number-states, class-small, class-all-small}
use Rattle.packed.specs.Packed.{packed_length, unpacked}
use Rattle.packed.specs.Raw.{last_of}
use Rattle.signal.specs.declared.kind.SignalEncoding.{SignalEncoding}
use Rattle.signal.specs.declared.kind.SignalEncoding.TheVariants.{BitVector, Real, Absent}
use Rattle.signal.specs.Kind.{width_of}
use Rattle.signal.specs.Content.{symbols}
use Rattle.loaded.specs.EntryBytes.{own_class_in, vector_content, entry_of}
use Rattle.loaded.specs.Reader.{vector, event, entry_reply}
use Rattle.entry.specs.Length.{wide_length, vector_length, entry_length}
use Rattle.entry_answer.specs.Answer.{EntryReply, refuse, noEntry, shown, EntryAfter, entry_after, vector_holds, is_entry, content_after, entry_value_of}
use Rattle.entry.proofs.LengthLaws.{packed-fewer}

-- ---- width 1

pub bit-over : (x : ℕ) (out : List ℕ) → 8 < x → entry_after noEntry out ≡ content_after (all_symbols (x ∷ [])) (symbols (x ∷ [])) out
unfolding all_symbols
bit-over x out h = rw (lt-leb x 8 h) refl

pub bit-shown : (x : ℕ) (out : List ℕ) (y : States) (r : EntryReply) → x ≤ 8 → y ≡ states_of (class_of x) → r ≡ shown (vector (class_number y) 0)
    → entry_after r (set out 0 x) ≡ content_after (all_symbols (x ∷ [])) (symbols (x ∷ [])) out
unfolding all_symbols class_of_all
bit-shown x out y r h e f =
    let q : class_number y ≡ class_of x = ap class_number e ∙ number-states (class_of x) (class-small x) in
    rw (le-leb x 8 h, max-zero, f, q) refl

-- ---- packed symbols

some-none : {A : Type 0} (x : States) (m : std.Option States) → m ≡ Some x → m ≡ None → A
some-none x m e f = let z : ◌≡◌ {A = ℕ} 0 1 = cc in absurd (omega arith)

pub symbols-none : (s out : List ℕ) (m : std.Option States) → m ≡ min_states s → m ≡ None → entry_after noEntry out ≡ content_after (all_symbols s) (symbols s) out
unfolding min_states
symbols-none s out m e f = by (all_symbols s) (sym e ∙ f)
  where
    by : (t : Bool) → pick t (Some (states_of (class_of_all s))) None ≡ None → entry_after noEntry out ≡ content_after t (symbols s) out
    by true q = some-none (states_of (class_of_all s)) (Some (states_of (class_of_all s))) refl q
    by false q = refl

pub symbols-some : (s out new : List ℕ) (m : std.Option States) (x : States) (r : EntryReply) → m ≡ min_states s → m ≡ Some x → new ≡ sets out 0 s
    → r ≡ shown (vector (class_number x) 0) → entry_after r new ≡ content_after (all_symbols s) (symbols s) out
unfolding min_states
symbols-some s out new m x r e f g h = by (all_symbols s) (sym e ∙ f)
  where
    by : (t : Bool) → pick t (Some (states_of (class_of_all s))) None ≡ Some x → entry_after r new ≡ content_after t (symbols s) out
    by true q =
        let y : states_of (class_of_all s) ≡ x = cc in
        let c : class_number x ≡ class_of_all s = ap class_number (sym y) ∙ number-states (class_of_all s) (class-all-small s) in
        rw (h, g, c) refl
    by false q = some-none x (Some x) refl (sym q)

-- ---- a wider vector

wide-holds : (w c : ℕ) (b out : List ℕ) → 1 < w
    → content_after (leb (own_class_in c b) c && all_symbols (unpacked w (own_class_in c b) (last_of (packed_length w (own_class_in c b)) b)))
    (symbols (unpacked w (own_class_in c b) (last_of (packed_length w (own_class_in c b)) b))) out
    ≡ content_after (vector_holds w c b) (vector_content w c b) out
wide-holds zero c b out h = absurd (omega arith)
wide-holds (suc zero) c b out h = absurd (omega arith)
wide-holds (suc (suc w)) c b out h = refl

module _ (w c n own : ℕ) (b out : List ℕ) (wide : 1 < w) (e : own ≡ own_class_in c b) (f : n ≡ c) where
  pub wide-over : n < own → entry_after noEntry out ≡ content_after (vector_holds w c b) (vector_content w c b) out
  wide-over h =
      let q : leb (own_class_in c b) c ≡ false = lt-leb (own_class_in c b) c (omega arith) in
      subst (λ (x : EntryAfter). entry_after noEntry out ≡ x) (wide-holds w c b out wide) (rw q refl)

  module _ (y : States) (size : ℕ) (h : own ≤ n) (small : c ≤ 2) (g : y ≡ states_of own) (q : size ≡ packed_length w (class_number y)) where
    class-own : class_number y ≡ own_class_in c b
    class-own = ap class_number g ∙ number-states own (omega arith) ∙ e

    size-own : size ≡ packed_length w (own_class_in c b)
    size-own = q ∙ ap (packed_length w) class-own

    pub own-inside : length b ≡ wide_length w c → size ≤ length b
    own-inside l = omega (arith, size-own, packed-fewer w (own_class_in c b) c (omega arith) small)

    pub part-inside : (part : List ℕ) → length b ≡ wide_length w c → part ≡ last_of size b → packed_length w (class_number y) ≤ length part
    part-inside part l p = omega (arith, own-inside l, ap length p, length-drop (length b - size) b)

    pub wide-shown : (part : List ℕ) (x : EntryAfter) → part ≡ last_of size b
        → x ≡ content_after (all_symbols (unpacked w (class_number y) part)) (symbols (unpacked w (class_number y) part)) out
        → x ≡ content_after (vector_holds w c b) (vector_content w c b) out
    wide-shown part x p r =
        let o : ℕ = own_class_in c b in
        let t : leb o c ≡ true = le-leb o c (omega arith) in
        let s : unpacked w (class_number y) part ≡ unpacked w o (last_of (packed_length w o) b) = rw (p, size-own, class-own) refl in
        r ∙ ap (λ (u : List ℕ). content_after (all_symbols u) (symbols u) out) s
        ∙ subst (λ (z : EntryAfter). content_after (all_symbols (unpacked w o (last_of (packed_length w o) b))) (symbols (unpacked w o (last_of (packed_length w o) b))) out ≡ z)
        (wide-holds w c b out wide) (rw t refl)

-- ---- by the width

pub event-shown : (w c : ℕ) (b out : List ℕ) (r : EntryReply) → w ≡ 0 → r ≡ shown (event 0) → entry_after r out ≡ content_after (vector_holds w c b) (vector_content w c b) out
event-shown w c b out r e f = rw (e, f) refl

pub bit-held : (w c : ℕ) (b out : List ℕ) (x : EntryAfter) → w ≡ 1 → x ≡ content_after (all_symbols (get_or b 0 0 % 64 ∷ [])) (symbols (get_or b 0 0 % 64 ∷ [])) out
    → x ≡ content_after (vector_holds w c b) (vector_content w c b) out
bit-held w c b out x e f = rw e f

pub bit_length : (w c : ℕ) → w ≡ 1 → vector_length w c ≡ 1
bit_length w c e = rw e refl

pub wide-length : (w c : ℕ) → (w ≡ 0 → ⊥) → (w ≡ 1 → ⊥) → vector_length w c ≡ wide_length w c
wide-length zero c h k = absurd (h refl)
wide-length (suc zero) c h k = absurd (k refl)
wide-length (suc (suc w)) c h k = refl

-- ---- by the kind

module _ (k : SignalEncoding) (c : ℕ) (b out : List ℕ) where
  pub out-short : length out < width_of k → entry_after (refuse 9) out ≡ entry_value_of k c b out
  unfolding entry_value_of
  out-short h = rw (lt-ltb (length out) (width_of k) h) refl

  module _ (room : width_of k ≤ length out) where
    pub other_length : (length b ≡ entry_length k c → ⊥) → entry_after noEntry out ≡ entry_value_of k c b out
    unfolding entry_value_of is_entry
    other_length h = rw (le-ltb (length out) (width_of k) room, ne_eqb (length b) (entry_length k c) h) refl

    module _ (size : length b ≡ entry_length k c) where
      pub vector-shown : (w : ℕ) (x : EntryAfter) → k ≡ BitVector w → x ≡ content_after (vector_holds w c b) (vector_content w c b) out → x ≡ entry_value_of k c b out
      unfolding entry_value_of is_entry entry_of
      vector-shown w x e f = f ∙ rw (le-ltb (length out) (width_of k) room, eq-eqb (length b) (entry_length k c) size, e) refl

      pub vector-length : (w : ℕ) → k ≡ BitVector w → (length b ≡ vector_length w c) × (w ≤ length out)
      unfolding entry_length
      vector-length w e = (size ∙ rw e refl, subst (λ (k : SignalEncoding). width_of k ≤ length out) e room)

      pub real-length : k ≡ Real → length b ≡ 8
      unfolding entry_length
      real-length e = size ∙ rw e refl

      pub real-shown : (x : declared.Entry) (n : ℕ) → k ≡ Real → n ≡ unle (take 8 (drop 0 b)) → x ≡ real_entry n → entry_after (shown (entry_reply x)) out ≡ entry_value_of k c b out
      unfolding entry_value_of is_entry entry_of
      real-shown x n e f g =
          let l : length b ≤ 8 = omega (arith, real-length e) in
          rw (le-ltb (length out) (width_of k) room, eq-eqb (length b) (entry_length k c) size, e, g, f, take_all 8 b l) refl

      pub absent_none : k ≡ Absent → entry_after noEntry out ≡ entry_value_of k c b out
      unfolding entry_value_of is_entry
      absent_none e = rw (le-ltb (length out) (width_of k) room, eq-eqb (length b) (entry_length k c) size, e) refl
