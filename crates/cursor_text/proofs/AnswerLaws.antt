-- What the cursor answered and wrote of a signal, as the signal's words.
-- Assumes nothing.
use Prim.Native.Nat.{ℕ, zero, suc, ◌≤◌, ◌<◌}
use mathlib.Core.Path.{◌≡◌, refl, sym, ap, ap₂, ◌∙◌, subst}
use mathlib.Core.Bool.{Bool, true, false}
use mathlib.Core.List.{List, [], ◌∷◌, ◌++◌}
use mathlib.Core.Option.{Option, some, none}
use native.Mathlib.Omega.{arith}
use borrow.Author.Tests.{lt-leb}
use lib.ListN.{length, get_or, take, length-take}
use lib.Seq.{length-sets}
use Rattle.lists.specs.Choice.{pick}
use Rattle.lists.specs.Bytes.{Bytes}
use Rattle.lists.proofs.SetsLaws.{taken_back}
use Rattle.ascii.specs.Ascii.{ascii, decimal}
use Rattle.value.specs.Class.{all_symbols}
use Rattle.signal.specs.declared.kind.SignalEncoding.{SignalEncoding}
use Rattle.signal.specs.declared.kind.SignalEncoding.TheVariants.{BitVector, Real, Absent}
use Rattle.signal.specs.Kind.{width_of, absent}
use Rattle.signal.specs.Content.{Content, happened, symbols, bits, symbols_of, ContentFits}
use Rattle.stream.specs.Entries.{Entry}
use Rattle.image.specs.Image.{Image}
use Rattle.loaded.specs.Opener.{kind_at}
use Rattle.loaded.specs.Loading.{Load, loads, signal_class}
use Rattle.loaded.specs.Reader.{shown_as, CursorReply, refuse, nothing, found, CursorAfter, cursor_after, entry_at, pointed, cursor_in}
use Rattle.loaded.proofs.CursorLaws.{cursor-known, Each, Holds, last-holds}
use Rattle.entry.proofs.EntriesLaws.{EachFits}
use Rattle.walk.specs.Walk.{image_in}
use Rattle.loader.proofs.KeptLaws.{kept-fits}
use Rattle.loader.proofs.LoadLaws.{known}
use Rattle.listing_text.specs.Listing.{content_words}
use Rattle.listing_text.specs.Written.{Taken}
use Rattle.listing_text.proofs.EntryLaws.{words_of}
use Rattle.listing_text.proofs.SignalLaws.{valid-in, wide-most}
use Rattle.cursor_text.specs.At.{entry_words, signal_words}
use Rattle.cursor_text.specs.Written.{answer_words, AnswerFine}

-- ---- a content that fits a kind

abbrev Fits : SignalEncoding → Entry → Type 0
Fits k e = ContentFits k e.content

symbols-fit : (k : SignalEncoding) (a : Content) → ContentFits k a → (length (symbols_of a) ≡ width_of k) × (all_symbols (symbols_of a) ≡ true)
unfolding all_symbols
symbols-fit (BitVector zero) happened f = (refl, refl)
symbols-fit (BitVector zero) (symbols s) f = absurd f
symbols-fit (BitVector zero) (bits b) f = absurd f
symbols-fit (BitVector (suc w)) happened f = absurd f
symbols-fit (BitVector (suc w)) (symbols s) f = f
symbols-fit (BitVector (suc w)) (bits b) f = absurd f
symbols-fit Real happened f = absurd f
symbols-fit Real (symbols s) f = absurd f
symbols-fit Real (bits b) f = (refl, refl)
symbols-fit Absent a f = absurd f

each_fits : (k : SignalEncoding) (c : ℕ) (es : List Entry) → EachFits k c es → Each (Fits k) es
each_fits k c [] f = tt
each_fits k c (e ∷ es) f = (f.0.0, each_fits k c es f.1)

-- ---- an answer and the symbol buffer s afterwards, by the entry at t

-- w is the width as the code has it
pub record Said (words : List ℕ) (r : CursorReply) (s : List ℕ) (w : ℕ) : Type 0 where
  pub is : words ≡ answer_words r (take w s)
  pub fine : AnswerFine r (take w s)
  pub inside : w ≤ length s
  pub size : w ≡ length (take w s)

pointed-said : (k : SignalEncoding) (ts : List ℕ) (q : Option (ℕ × Entry)) (out : List ℕ) (r : CursorReply) (s : List ℕ) (w : ℕ) → w ≡ width_of k → w ≤ length out
    → Holds (Fits k) q → cursor_after r s ≡ pointed ts q out → Said (entry_words ts q) r s w
pointed-said k ts none out r s w we h f e =
    let re : r ≡ nothing = ap (λ (a : CursorAfter). a.reply) e in
    let se : length s ≡ length out = ap (λ (a : CursorAfter). length a.symbols) e in
    let wide : w ≤ length s = omega arith in
    record {
      is = ap (λ (a : CursorReply). answer_words a (take w s)) (sym re);
      fine = subst (λ (a : CursorReply). AnswerFine a (take w s)) (sym re) tt;
      inside = wide;
      size = omega (arith, length-take w s);
    }
pointed-said k ts (some q) out r s w we h f e =
    let c : Content = q.1.content in
    let n : ℕ = q.0 in
    let u : ℕ = get_or ts q.1.index 0 in
    let re : r ≡ found n u (shown_as c) = ap (λ (a : CursorAfter). a.reply) e in
    let wa : w ≡ length (symbols_of c) = we ∙ sym (symbols-fit k c f).0 in
    let te : take w s ≡ symbols_of c = ap (λ (a : CursorAfter). take w a.symbols) e ∙ taken_back (symbols_of c) out w wa h in
    let said : ascii "entry " ++ decimal n ++ ascii " time " ++ decimal u ++ content_words c ≡ answer_words (found n u (shown_as c)) (symbols_of c) =
    ap (λ (l : List ℕ). ascii "entry " ++ decimal n ++ ascii " time " ++ decimal u ++ l) (sym (words_of c)) in
    record {
      is = said ∙ sym (ap₂ answer_words re te);
      fine = subst (λ (a : CursorReply). AnswerFine a (take w s)) (sym re) (ap all_symbols te ∙ (symbols-fit k c f).1);
      inside = omega (arith, ap (λ (a : CursorAfter). length a.symbols) e ∙ length-sets out 0 (symbols_of c));
      size = wa ∙ sym (ap length te);
    }

-- ---- by the kind

module _ (x : Image) (g t : ℕ) (out : List ℕ) (h : g < length x.kinds) where
  cursor-absent : absent (kind_at x g) ≡ true → cursor_in x g t out ≡ cursor_after (refuse 4) out
  unfolding cursor_in
  cursor-absent a = rw (lt-leb (length x.kinds) g h, a) refl

  cursor-there : absent (kind_at x g) ≡ false → width_of (kind_at x g) ≤ length out
      → cursor_in x g t out ≡ pointed (loads g x.blocks).times (entry_at (loads g x.blocks) t) out
  cursor-there a w = cursor-known x g t out (rw (lt-leb (length x.kinds) g h) a) w

absent-said : (words out : List ℕ) (r : CursorReply) (s : List ℕ) (w : ℕ) → w ≤ length out → words ≡ ascii "absent" → cursor_after r s ≡ cursor_after (refuse 4) out → Said words r s w
absent-said words out r s w h we e =
    let re : r ≡ refuse 4 = ap (λ (a : CursorAfter). a.reply) e in
    let se : length s ≡ length out = ap (λ (a : CursorAfter). length a.symbols) e in
    let wide : w ≤ length s = omega arith in
    record {
      is = we ∙ ap (λ (a : CursorReply). answer_words a (take w s)) (sym re);
      fine = subst (λ (a : CursorReply). AnswerFine a (take w s)) (sym re) tt;
      inside = wide;
      size = omega (arith, length-take w s);
    }

said-as : {v words : List ℕ} {r : CursorReply} {s : List ℕ} {w : ℕ} → v ≡ words → Said words r s w → Said v r s w
said-as {v} {words} {r} {s} {w} e x = subst (λ (l : List ℕ). Said l r s w) (sym e) x

-- what is said of a signal of an accepted image
pub signal-said : (b : List ℕ) (g t : ℕ) (out : List ℕ) (r : CursorReply) (s : List ℕ) (w : ℕ) → Bytes b → Taken b → g < length (image_in b).kinds → 65536 ≤ length out
    → w ≡ width_of (kind_at (image_in b) g) → cursor_after r s ≡ cursor_in (image_in b) g t out
    → Said (signal_words (kind_at (image_in b) g) (loads g (image_in b).blocks) t) r s w
signal-said b g t out r s w y o h room we e = by (absent (kind_at (image_in b) g)) refl
  where
    by : (a : Bool) → absent (kind_at (image_in b) g) ≡ a → Said (signal_words (kind_at (image_in b) g) (loads g (image_in b).blocks) t) r s w
    by true a =
        let x = image_in b in
        let l : Load = loads g x.blocks in
        let m = wide-most (kind_at x g) (known b g y o.0) in
        absent-said (signal_words (kind_at x g) l t) out r s w (omega arith) (ap (λ (z : Bool). pick z (ascii "absent") (entry_words l.times (entry_at l t))) a) (e ∙ cursor-absent x g t out h a)
    by false a =
        let x = image_in b in
        let k : SignalEncoding = kind_at x g in
        let l : Load = loads g x.blocks in
        let m = wide-most k (known b g y o.0) in
        let f : Each (Fits k) l.entries = each_fits k (signal_class l) l.entries (kept-fits x (valid-in b y o) g) in
        said-as (ap (λ (z : Bool). pick z (ascii "absent") (entry_words l.times (entry_at l t))) a)
        (pointed-said k l.times (entry_at l t) out r s w we (omega arith) (last-holds (Fits k) l.times t none 0 l.entries tt f) (e ∙ cursor-there x g t out h a (omega arith)))
