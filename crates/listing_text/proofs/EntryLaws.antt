-- Letters of symbols, an answered entry as text, and the entries that loading wrote, read back.
-- Assumes nothing.
use Prim.Native.Nat.{ℕ, zero, suc, ◌+◌, ◌≤◌, ◌<◌}
use mathlib.Core.Path.{◌≡◌, refl, sym, ap, ap₂, ◌∙◌, subst}
use mathlib.Core.Bool.{Bool, true, false}
use mathlib.Core.List.{List, [], ◌∷◌, ◌++◌, map, append_assoc}
use native.Mathlib.Omega.{arith}
use borrow.Author.Tests.{le-ltb, leb-true, eqb-true}
use lib.Dec.{leb, eqb}
use lib.ListN.{length, take, drop, get_or, length-take, length-drop, drop_of_length-le}
use lib.Seq.{sets, drop-cons, drop-drop, take_at, drop_at}
use Rattle.lists.proofs.ChoiceLaws.{both_hold}
use Rattle.lists.proofs.SetsLaws.{taken_back}
use Rattle.value.specs.Class.{class_of_all, all_symbols}
use Rattle.packed.proofs.PackedLaws.{length-unpacked}
use Rattle.signal.specs.declared.kind.SignalEncoding.{SignalEncoding}
use Rattle.signal.specs.declared.kind.SignalEncoding.TheVariants.{BitVector, Real, Absent}
use Rattle.signal.specs.Kind.{width_of}
use Rattle.signal.specs.Content.{Content, happened, symbols, bits, symbols_of, ContentFits}
use Rattle.stream.specs.Entries.{Entry, entry}
use Rattle.loaded.specs.EntryBytes.{entry_bytes, entries_bytes, own_class_in, vector_content, entry_of}
use Rattle.loaded.specs.Reader.{Shown, shown_as, index_in}
use Rattle.loaded.proofs.EntryLaws.{entry-trip}
use Rattle.entry.specs.Length.{entry_length}
use Rattle.entry_answer.specs.Answer.{noEntry, shown, entry_after, EntryAfter, EntryReply, holds, is_entry, entry_value_of}
use Rattle.entry.proofs.LengthLaws.{entry_length_lem}
use Rattle.entry.proofs.EntriesLaws.{EachFits}
use Rattle.entry_answer.proofs.AnswerTrip.{answer-trip}
use Rattle.listing_text.specs.Listing.{letter_of, content_words, entry_line, entry_lines}
use Rattle.listing_text.specs.Written.{shown_words, entries_read, entries_there}

-- ---- letters

pub symbol-at : (s : List ℕ) (i : ℕ) → all_symbols s ≡ true → i < length s → get_or s i 0 ≤ 8
unfolding all_symbols
symbol-at [] i h l = absurd (omega arith)
symbol-at (x ∷ s) zero h l = leb-true x 8 (both_hold (leb x 8) (all_symbols s) h).0
symbol-at (x ∷ s) (suc i) h l = symbol-at s i (both_hold (leb x 8) (all_symbols s) h).1 (omega arith)

pub letters-more : (s : List ℕ) (i : ℕ) → i < length s → map letter_of (drop i s) ≡ (letter_of (get_or s i 0) ∷ []) ++ map letter_of (drop (suc i) s)
letters-more s i h = rw (drop-cons s i 0 h) refl

pub letters-none : (s : List ℕ) (i : ℕ) → length s ≤ i → map letter_of (drop i s) ≡ []
letters-none s i h = rw (drop_of_length-le s {i = i} h) refl

-- ---- one entry

symbols-wide : (k : SignalEncoding) (c : ℕ) (b : List ℕ) → length (symbols_of (entry_of k c b)) ≡ width_of k
unfolding entry_of
symbols-wide (BitVector zero) c b = refl
symbols-wide (BitVector (suc zero)) c b = refl
symbols-wide (BitVector (suc (suc w))) c b = length-unpacked _ _ _
symbols-wide Real c b = refl
symbols-wide Absent c b = refl

symbols-fine : (k : SignalEncoding) (c : ℕ) (b : List ℕ) → holds k c b ≡ true → all_symbols (symbols_of (entry_of k c b)) ≡ true
unfolding entry_of all_symbols
symbols-fine (BitVector zero) c b h = refl
symbols-fine (BitVector (suc zero)) c b h = h
symbols-fine (BitVector (suc (suc w))) c b h = (both_hold (leb (own_class_in c b) c) (all_symbols (symbols_of (vector_content (suc (suc w)) c b))) h).1
symbols-fine Real c b h = refl
symbols-fine Absent c b h = refl

is-holds : (k : SignalEncoding) (c : ℕ) (b : List ℕ) → is_entry k c b ≡ true → (length b ≡ entry_length k c) × (holds k c b ≡ true)
unfolding is_entry
is-holds k c b h = let p = both_hold (eqb (length b) (entry_length k c)) (holds k c b) h in (eqb-true _ _ p.0, p.1)

-- an entry's bytes are answered
value-is : (k : SignalEncoding) (c : ℕ) (b out : List ℕ) → is_entry k c b ≡ true → width_of k ≤ length out
    → entry_value_of k c b out ≡ entry_after (shown (shown_as (entry_of k c b))) (sets out 0 (symbols_of (entry_of k c b)))
unfolding entry_value_of
value-is k c b out h w = rw (le-ltb (length out) (width_of k) w, h) refl

pub words_of : (a : Content) → shown_words (shown_as a) (symbols_of a) ≡ content_words a
words_of happened = refl
words_of (symbols s) = refl
words_of (bits b) = refl

-- what is answered and written of an entry's bytes says its content; w is the width as the code has it
pub record Shows (k : SignalEncoding) (c : ℕ) (b : List ℕ) (e : Shown) (s : List ℕ) (w : ℕ) : Type 0 where
  pub words : content_words (entry_of k c b) ≡ shown_words e (take w s)
  pub fine : all_symbols (take w s) ≡ true
  pub size : w ≡ length (take w s)

pub shows : (k : SignalEncoding) (c : ℕ) (b out : List ℕ) (e : Shown) (s : List ℕ) (w : ℕ) → is_entry k c b ≡ true → width_of k ≤ length out → w ≡ width_of k
    → entry_after (shown e) s ≡ entry_value_of k c b out → Shows k c b e s w
shows k c b out e s w h room we v =
    let a : Content = entry_of k c b in
    let same : entry_after (shown e) s ≡ entry_after (shown (shown_as a)) (sets out 0 (symbols_of a)) = v ∙ value-is k c b out h room in
    let se : s ≡ sets out 0 (symbols_of a) = ap (λ (x : EntryAfter). x.symbols) same in
    let re : shown e ≡ shown (shown_as a) = ap (λ (x : EntryAfter). x.reply) same in
    let ee : e ≡ shown_as a = cc in
    let wa : w ≡ length (symbols_of a) = we ∙ sym (symbols-wide k c b) in
    let te : take w s ≡ symbols_of a = ap (take w) se ∙ taken_back (symbols_of a) out w wa (omega arith) in
    record { words = sym (ap₂ shown_words ee te ∙ words_of a); fine = ap all_symbols te ∙ symbols-fine k c b (is-holds k c b h).1; size = wa ∙ sym (ap length te) }

-- so no other answer is given
pub always-shown : (k : SignalEncoding) (c : ℕ) (b out : List ℕ) (r : EntryReply) (s : List ℕ) → is_entry k c b ≡ true → width_of k ≤ length out
    → entry_after r s ≡ entry_value_of k c b out → r ≡ shown (shown_as (entry_of k c b))
always-shown k c b out r s h w v = ap (λ (x : EntryAfter). x.reply) (v ∙ value-is k c b out h w)

-- ---- entries one after the other

-- the first of those left: its bytes, and the others; m is its length n as the code has it
pub record Turn (k : SignalEncoding) (c m n : ℕ) (index : List ℕ) (i : ℕ) (bytes : List ℕ) (from : ℕ) : Type 0 where
  pub inside : from + n ≤ length bytes
  pub is : is_entry k c (take m (drop from bytes)) ≡ true
  pub rest : entries_there k c (drop (suc i) index) (drop (from + n) bytes) ≡ true
  pub lines : entry_lines (entries_read k c (drop i index) (drop from bytes)) ≡ entry_line (entry (get_or index i 0) (entry_of k c (take m (drop from bytes)))) ++ entry_lines
      (entries_read k c (drop (suc i) index) (drop (from + n) bytes))

there-more : (k : SignalEncoding) (c i : ℕ) (is b : List ℕ) → entries_there k c (i ∷ is) b ≡ true
    → (is_entry k c (take (entry_length k c) b) ≡ true) × (entries_there k c is (drop (entry_length k c) b) ≡ true)
unfolding entries_there
there-more k c i is b h = both_hold _ _ h

read_more : (k : SignalEncoding) (c i : ℕ) (is b : List ℕ)
    → entry_lines (entries_read k c (i ∷ is) b) ≡ entry_line (entry i (entry_of k c (take (entry_length k c) b))) ++ entry_lines (entries_read k c is (drop (entry_length k c) b))
unfolding entries_read entry_lines
read_more k c i is b = refl

pub turn : (k : SignalEncoding) (c m n : ℕ) (index : List ℕ) (i : ℕ) (bytes : List ℕ) (from : ℕ) → m ≡ n → n ≡ entry_length k c → i < length index → from ≤ length bytes
    → entries_there k c (drop i index) (drop from bytes) ≡ true → Turn k c m n index i bytes from
turn k c m n index i bytes from em en h f t =
    let d : drop i index ≡ get_or index i 0 ∷ drop (suc i) index = drop-cons index i 0 h in
    let p = there-more k c (get_or index i 0) (drop (suc i) index) (drop from bytes) (subst (λ (x : List ℕ). entries_there k c x (drop from bytes) ≡ true) d t) in
    let past : drop (entry_length k c) (drop from bytes) ≡ drop (from + n) bytes = drop-drop (entry_length k c) from bytes ∙ ap (λ (x : ℕ). drop (from + x) bytes) (sym en) in
    let me : m ≡ entry_length k c = em ∙ en in
    let long = (is-holds k c (take (entry_length k c) (drop from bytes)) p.0).0 in
    record {
      inside = omega (arith, long, length-take (entry_length k c) (drop from bytes), length-drop from bytes);
      is = ap (λ (x : ℕ). is_entry k c (take x (drop from bytes))) me ∙ p.0;
      rest = ap (entries_there k c (drop (suc i) index)) (sym past) ∙ p.1;
      lines = ap (λ (x : List ℕ). entry_lines (entries_read k c x (drop from bytes))) d ∙ read_more k c (get_or index i 0) (drop (suc i) index) (drop from bytes)
          ∙ ap₂ (λ (x : ℕ) (y : List ℕ). entry_line (entry (get_or index i 0) (entry_of k c (take x (drop from bytes)))) ++ entry_lines (entries_read k c (drop (suc i) index) y)) (sym me) past;
    }

pub read_none : (k : SignalEncoding) (c : ℕ) (index : List ℕ) (i : ℕ) (b : List ℕ) → length index ≤ i → entry_lines (entries_read k c (drop i index) b) ≡ []
unfolding entries_read entry_lines
read_none k c index i b h = rw (drop_of_length-le index {i = i} h) refl

-- ---- what loading wrote

none_is : (k : SignalEncoding) (c : ℕ) (b out : List ℕ) → is_entry k c b ≡ false → width_of k ≤ length out → entry_value_of k c b out ≡ entry_after noEntry out
unfolding entry_value_of
none_is k c b out h w = rw (le-ltb (length out) (width_of k) w, h) refl

is-written : (k : SignalEncoding) (c : ℕ) (a : Content) (out : List ℕ) → ContentFits k a → class_of_all (symbols_of a) ≤ c → c ≤ 2 → width_of k ≤ length out → is_entry k c (entry_bytes k c a) ≡ true
is-written k c a out f l h w = by (is_entry k c (entry_bytes k c a)) refl
  where
    by : (t : Bool) → is_entry k c (entry_bytes k c a) ≡ t → is_entry k c (entry_bytes k c a) ≡ true
    by true e = e
    by false e =
        let n : noEntry ≡ shown (shown_as a) = ap (λ (x : EntryAfter). x.reply) (sym (none_is k c (entry_bytes k c a) out e w) ∙ answer-trip k c a out f l h w) in
        let z : ◌≡◌ {A = ℕ} 0 1 = cc in absurd (omega arith)

pub record ReadBack (k : SignalEncoding) (c : ℕ) (es : List Entry) (bytes : List ℕ) : Type 0 where
  pub read : entries_read k c (map index_in es) bytes ≡ es
  pub there : entries_there k c (map index_in es) bytes ≡ true

back_none : (k : SignalEncoding) (c : ℕ) (bytes : List ℕ) → ReadBack k c [] bytes
unfolding entries_read entries_there
back_none k c bytes = record { read = refl; there = refl }

back_more : (k : SignalEncoding) (c : ℕ) (e : Entry) (es : List Entry) (bytes : List ℕ) → is_entry k c (take (entry_length k c) bytes) ≡ true
    → entry_of k c (take (entry_length k c) bytes) ≡ e.content → ReadBack k c es (drop (entry_length k c) bytes) → ReadBack k c (e ∷ es) bytes
unfolding entries_read entries_there
back_more k c e es bytes i a r = record {
  read = ap₂ (λ (x : Content) (l : List Entry). entry e.index x ∷ l) a r.read;
  there = rw (i, r.there) refl;
}

-- the indices and the bytes of entries that fit say the entries, whatever follows the bytes
pub read_back : (k : SignalEncoding) (c : ℕ) (es : List Entry) (rest out : List ℕ) → EachFits k c es → c ≤ 2 → width_of k ≤ length out → ReadBack k c es (entries_bytes k c es ++ rest)
unfolding entries_bytes
read_back k c [] rest out f h w = back_none k c rest
read_back k c (e ∷ es) rest out f h w =
    let b : List ℕ = entry_bytes k c e.content in
    let n = entry_length_lem k c e.content f.0.0 f.0.1 h in
    let s : (b ++ entries_bytes k c es) ++ rest ≡ b ++ (entries_bytes k c es ++ rest) = append_assoc b (entries_bytes k c es) rest in
    let first : take (entry_length k c) ((b ++ entries_bytes k c es) ++ rest) ≡ b = ap (take (entry_length k c)) s ∙ take_at b (entries_bytes k c es ++ rest) (entry_length k c) n in
    let others : drop (entry_length k c) ((b ++ entries_bytes k c es) ++ rest) ≡ entries_bytes k c es ++ rest = ap (drop (entry_length k c)) s
    ∙ drop_at b (entries_bytes k c es ++ rest) (entry_length k c) n in
    back_more k c e es ((b ++ entries_bytes k c es) ++ rest)
    (ap (is_entry k c) first ∙ is-written k c e.content out f.0.0 f.0.1 h w)
    (ap (entry_of k c) first ∙ entry-trip k c e.content f.0.0 f.0.1 h)
    (subst (ReadBack k c es) (sym others) (read_back k c es rest out f.1 h w))
