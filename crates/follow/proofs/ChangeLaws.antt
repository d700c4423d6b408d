-- A change more: what it does to the list and the top class of its signal, and of every other. The bytes of a change.
-- Assumes nothing.
use Prim.Native.Nat.{ℕ, zero, suc, ◌+◌, ◌*◌, ◌≤◌, ◌<◌, max}
use mathlib.Core.Path.{◌≡◌, refl, sym, ap, ◌∙◌}
use mathlib.Core.Bool.{true, false}
use mathlib.Core.List.{List, [], ◌∷◌, ◌++◌, append_assoc, append-nil}
use native.Mathlib.Omega.{arith}
use borrow.Author.Tests.{eq-eqb, ne_eqb, leb-true}
use lib.ListN.{length, get_or, length-append}
use Rattle.numbers.specs.Leb128.{leb_of}
use Rattle.numbers.specs.LittleEndian.{le}
use Rattle.numbers.proofs.Leb128Laws.{leb-any, length-leb}
use Rattle.numbers.proofs.LittleEndianLaws.{length-le}
use Rattle.value.specs.Class.{class_of_all}
use Rattle.packed.specs.Packed.{packed, packed_length}
use Rattle.packed.proofs.PackedLaws.{length-packed}
use Rattle.signal.specs.declared.kind.SignalEncoding.{SignalEncoding}
use Rattle.signal.specs.declared.kind.SignalEncoding.TheVariants.{BitVector, Real, Absent}
use Rattle.signal.specs.Kind.{known_kind, absent}
use Rattle.signal.specs.Content.{Content, happened, symbols, bits, symbols_of, real_bits, ContentFits}
use Rattle.stream.specs.Stream.{change_bytes}
use Rattle.stream.specs.Entries.{Entry, entry}
use Rattle.codec.specs.Ends.{last_index}
use Rattle.history.specs.History.{Change, list_of, top_of}
use Rattle.model.proofs.LoadLaws.{list-append, top-append}
use Rattle.follow.specs.Marked.{marked}

-- ---- lists and top classes

pub list_same : (g m c : ℕ) (a : Content) (cs : List Change) → list_of g (cs ++ marked g m a c ∷ []) ≡ list_of g cs ++ entry m a ∷ []
unfolding list_of
list_same g m c a cs = list-append g cs (marked g m a c ∷ []) ∙ rw (eq-eqb g g refl) refl

pub list-other : (g i m c : ℕ) (a : Content) (cs : List Change) → (g ≡ i → ⊥) → list_of i (cs ++ marked g m a c ∷ []) ≡ list_of i cs
unfolding list_of
list-other g i m c a cs n = list-append i cs (marked g m a c ∷ []) ∙ rw (ne_eqb g i n) (append-nil (list_of i cs))

pub top-same : (g m c : ℕ) (a : Content) (seen cs : List Change) → top_of g (seen ++ (cs ++ marked g m a c ∷ [])) ≡ max (top_of g (seen ++ cs)) c
unfolding top_of
top-same g m c a seen cs =
    ap (top_of g) (sym (append_assoc seen cs (marked g m a c ∷ []))) ∙ top-append g (seen ++ cs) (marked g m a c ∷ []) ∙ rw (eq-eqb g g refl) (omega arith)

pub top-other : (g i m c : ℕ) (a : Content) (seen cs : List Change) → (g ≡ i → ⊥) → top_of i (seen ++ (cs ++ marked g m a c ∷ [])) ≡ top_of i (seen ++ cs)
unfolding top_of
top-other g i m c a seen cs n =
    ap (top_of i) (sym (append_assoc seen cs (marked g m a c ∷ []))) ∙ top-append i (seen ++ cs) (marked g m a c ∷ []) ∙ rw (ne_eqb g i n) (omega arith)

pub last_snoc : (i : ℕ) (l : List Entry) (e : Entry) → last_index i (l ++ e ∷ []) ≡ e.index
unfolding last_index
last_snoc i [] e = refl
last_snoc i (x ∷ l) e = last_snoc x.index l e

-- ---- the bytes of a change: some, where the signal takes changes, and few

pub change-any : (k : SignalEncoding) (d : ℕ) (a : Content) → absent k ≡ false → 0 < length (change_bytes k d a)
unfolding change_bytes
change-any (BitVector zero) d a h = leb-any d
change-any (BitVector (suc zero)) d a h = leb-any (d * 16 + get_or (symbols_of a) 0 0)
change-any (BitVector (suc (suc w))) d a h =
    let s : List ℕ = symbols_of a in
    omega (arith, length-append (leb_of (d * 4 + class_of_all s)) (packed (class_of_all s) s), leb-any (d * 4 + class_of_all s))
change-any Real d a h = omega (arith, length-append (leb_of d) (le 8 (real_bits a)), leb-any d)
change-any Absent d a h = let z : ◌≡◌ {A = ℕ} 0 1 = cc in absurd (omega arith)

pub packed-few : (w c : ℕ) → w ≤ 65536 → packed_length w c ≤ 32768
packed-few w zero h = omega arith
packed-few w (suc zero) h = omega arith
packed-few w (suc (suc c)) h = omega arith

-- the bytes of a change and the eight before it in the work buffer
abbrev pub most_bytes : ℕ
most_bytes = 40000

pub change-few : (k : SignalEncoding) (d : ℕ) (a : Content) → known_kind k ≡ true → ContentFits k a → 8 + length (change_bytes k d a) ≤ most_bytes
unfolding change_bytes
change-few (BitVector zero) d a k f = omega (arith, length-leb d)
change-few (BitVector (suc zero)) d a k f = omega (arith, length-leb (d * 16 + get_or (symbols_of a) 0 0))
change-few (BitVector (suc (suc w))) d happened k f = absurd f
change-few (BitVector (suc (suc w))) d (bits b) k f = absurd f
change-few (BitVector (suc (suc w))) d (symbols s) k f =
    let c : ℕ = class_of_all s in
    let m : suc (suc w) ≤ 65536 = leb-true (suc (suc w)) 65536 k in
    let p : length (packed c s) ≡ packed_length (suc (suc w)) c = length-packed c s ∙ ap (λ (n : ℕ). packed_length n c) f.0 in
    let q : packed_length (suc (suc w)) c ≤ 32768 = packed-few (suc (suc w)) c m in
    let e = length-append (leb_of (d * 4 + c)) (packed c s) in
    let l = length-leb (d * 4 + c) in
    let r : length (packed c s) ≤ 32768 = rw p q in
    omega (arith, e, l, r)
change-few Real d a k f = omega (arith, length-append (leb_of d) (le 8 (real_bits a)), length-leb d, length-le 8 (real_bits a))
change-few Absent d a k f = absurd f
