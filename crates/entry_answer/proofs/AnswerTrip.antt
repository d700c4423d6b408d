-- The bytes of a content that fits are answered as that content: an event, its symbols with their own class, or a real.
-- Assumes nothing.
use Prim.Native.Nat.{ℕ, zero, suc, ◌+◌, ◌-◌, ◌*◌, ◌/◌, ◌≤◌, ◌<◌}
use mathlib.Core.Path.{◌≡◌, refl, sym, ap, ◌∙◌, subst}
use mathlib.Core.Bool.{true}
use mathlib.Core.List.{List, [], ◌∷◌, ◌++◌, append-nil}
use native.Mathlib.Omega.{arith}
use borrow.Author.Tests.{le-ltb, le-leb, eq-eqb}
use lib.Dec.{leb}
use lib.ListN.{length, get_or}
use lib.Seq.{sets}
use Rattle.value.specs.Class.{class_of_all, all_symbols}
use Rattle.packed.specs.Packed.{packed}
use Rattle.signal.specs.declared.kind.SignalEncoding.{SignalEncoding}
use Rattle.signal.specs.declared.kind.SignalEncoding.TheVariants.{BitVector, Real, Absent}
use Rattle.signal.specs.Kind.{width_of}
use Rattle.signal.specs.Content.{Content, happened, symbols, bits, symbols_of, ContentFits}
use Rattle.loaded.specs.EntryBytes.{carrying, filled_to, wide_entry, entry_bytes, own_class_in, entry_of}
use Rattle.loaded.specs.Reader.{shown_as}
use Rattle.loaded.proofs.EntryLaws.{entry-trip}
use Rattle.entry.specs.Length.{wide_length, entry_length}
use Rattle.entry.specs.Read.{packed_before, PackedThere}
use Rattle.entry_answer.specs.Answer.{shown, entry_after, holds, is_entry, entry_value_of}
use Rattle.entry.proofs.LengthLaws.{wide_is, entry_length_lem}
use Rattle.entry.proofs.ReadThere.{packed-there, before-is}
use Rattle.entry.proofs.WideLaws.{first_below, filled-size, wide-some}

first-carrying : (m : ℕ) (b : List ℕ) → 0 < length b → get_or (carrying m b) 0 0 ≡ m + get_or b 0 0
first-carrying m [] h = absurd (omega arith)
first-carrying m (x ∷ b) h = refl

-- a wider vector's entry carries its own class
own-carried : (w c : ℕ) (s : List ℕ) → 0 < w → length s ≡ w → all_symbols s ≡ true → class_of_all s ≤ c → c ≤ 2 → own_class_in c (wide_entry w c s) ≤ c
own-carried w zero s z e y k h = omega arith
own-carried w (suc c) s z e y k h =
    let t : ℕ = class_of_all s in
    let l : List ℕ = packed t s in
    let n : ℕ = length l in
    let form : l ≡ [] ++ (l ++ []) = sym (append-nil l) in
    let end : n ≡ length l - length {A = ℕ} [] = omega arith in
    let there : PackedThere w t n l = packed-there w [] [] l s n e y form end in
    let b : packed_before w t n l ≡ l = before-is w [] [] l s n e y form end in
    let f : List ℕ = filled_to (wide_length w (suc c)) l in
    let low : get_or f 0 0 < 64 = subst (λ (x : List ℕ). get_or (filled_to (wide_length w (suc c)) x) 0 0 < 64) b (first_below w (suc c) t n l z k h there (omega arith)) in
    let some : 0 < length f = subst (λ (x : List ℕ). 0 < length (filled_to (wide_length w (suc c)) x)) b (omega (arith, filled-size w (suc c) t n l z k h there, wide-some w (suc c) z)) in
    let first : get_or (wide_entry w (suc c) s) 0 0 ≡ t * 64 + get_or f 0 0 = ap (λ (x : List ℕ). get_or x 0 0) (wide_is w (suc c) s e k h) ∙ first-carrying (t * 64) f some in
    rw first (divided t (get_or f 0 0) (suc c) low k)
  where
    divided : (t x c : ℕ) → x < 64 → t ≤ c → (t * 64 + x) / 64 ≤ c
    divided t x c h k = omega arith

holds-written : (k : SignalEncoding) (c : ℕ) (a : Content) → ContentFits k a → class_of_all (symbols_of a) ≤ c → c ≤ 2 → entry_of k c (entry_bytes k c a) ≡ a → holds k c (entry_bytes k c a) ≡ true
unfolding entry_of entry_bytes
holds-written (BitVector zero) c a f l h e = refl
holds-written (BitVector (suc w)) c happened f l h e = absurd f
holds-written (BitVector (suc zero)) c (symbols s) f l h e = ap (λ (a : Content). all_symbols (symbols_of a)) e ∙ f.1
holds-written (BitVector (suc (suc w))) c (symbols s) f l h e =
    let own : leb (own_class_in c (wide_entry (suc (suc w)) c s)) c ≡ true = le-leb _ _ (own-carried (suc (suc w)) c s (omega arith) f.0 f.1 l h) in
    rw own (ap (λ (a : Content). all_symbols (symbols_of a)) e ∙ f.1)
holds-written (BitVector (suc w)) c (bits b) f l h e = absurd f
holds-written Real c a f l h e = refl
holds-written Absent c a f l h e = absurd f

pub answer-trip : (k : SignalEncoding) (c : ℕ) (a : Content) (out : List ℕ) → ContentFits k a → class_of_all (symbols_of a) ≤ c → c ≤ 2 → width_of k ≤ length out
    → entry_value_of k c (entry_bytes k c a) out ≡ entry_after (shown (shown_as a)) (sets out 0 (symbols_of a))
unfolding entry_value_of is_entry
answer-trip k c a out f l h room =
    let e = entry-trip k c a f l h in
    rw (le-ltb (length out) (width_of k) room, eq-eqb (length (entry_bytes k c a)) (entry_length k c) (entry_length_lem k c a f l h), holds-written k c a f l h e, e) refl
