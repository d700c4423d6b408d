-- The lines of a signal, out of what loading answered and wrote.
-- Assumes nothing.
use Prim.Native.Nat.{ℕ, ◌+◌, ◌≤◌, ◌<◌}
use mathlib.Core.Path.{◌≡◌, refl, sym, ap, ap₂, ◌∙◌, subst}
use mathlib.Core.Bool.{Bool, true, false}
use mathlib.Core.List.{List, [], ◌∷◌, ◌++◌, map, append-nil}
use native.Mathlib.Omega.{arith}
use borrow.Author.Tests.{lt-leb, le-ltb, leb-true}
use lib.Dec.{ltb}
use lib.ListN.{length, take, drop, length-map}
use lib.Seq.{sets, sets-eq, length-sets}
use Rattle.lists.specs.Bytes.{Bytes}
use Rattle.lists.proofs.SetsLaws.{taken_back}
use Rattle.signal.specs.declared.kind.SignalEncoding.{SignalEncoding}
use Rattle.signal.specs.declared.kind.SignalEncoding.TheVariants.{BitVector, Real, Absent}
use Rattle.signal.specs.Kind.{width_of, absent, known_kind}
use Rattle.stream.specs.Entries.{Entry}
use Rattle.image.specs.Image.{Image}
use Rattle.codec.specs.Valid.{Valid}
use Rattle.loaded.specs.Opener.{kind_at}
use Rattle.loaded.specs.Loading.{Load, loads, signal_class}
use Rattle.loaded.specs.EntryBytes.{entries_bytes}
use Rattle.loaded.specs.Reader.{unknown_signal, LoadAfter, refuse, loaded, load_after, index_in, load_in}
use Rattle.entry.proofs.EntriesLaws.{EachFits}
use Rattle.walk.specs.Walk.{image_in}
use Rattle.walk.proofs.HeadLaws.{means}
use Rattle.loader.proofs.KeptLaws.{class-most, kept-fits}
use Rattle.loader.proofs.LoadLaws.{known}
use Rattle.listing_text.specs.Listing.{entry_lines, signal_line, signal_lines}
use Rattle.listing_text.specs.Written.{Taken, Enough, entries_read, entries_there}
use Rattle.listing_text.proofs.BoundLaws.{Small, entries-few, bytes-few}
use Rattle.listing_text.proofs.EntryLaws.{ReadBack, read_back}

pub valid-in : (b : List ℕ) → Bytes b → Taken b → Valid (image_in b)
valid-in b y o = (means b y o.0).valid

pub small-in : (b : List ℕ) → Bytes b → Taken b → Small (image_in b)
small-in b y o = omega (arith, ap length (means b y o.0).bytes, o.1)

-- ---- what loading answers: its outputs are long enough

-- how many entries are kept, their class, and the outputs with them
abbrev loaded-in : Image → (g : ℕ) → (index bytes : List ℕ) → LoadAfter
loaded-in x g index bytes =
    let l = loads g x.blocks in
    load_after (loaded (length l.entries) (signal_class l)) (sets index 0 (map index_in l.entries)) (sets bytes 0 (entries_bytes (kind_at x g) (signal_class l) l.entries))

loads-known : (x : Image) (g : ℕ) (index bytes : List ℕ) → Valid x → Small x → 16384 ≤ length index → 65536 ≤ length bytes → unknown_signal x g ≡ false
    → load_in x g index bytes ≡ loaded-in x g index bytes
unfolding load_in
loads-known x g index bytes v s hi hb u =
    let es = (loads g x.blocks).entries in
    let i : ltb (length index) (length es) ≡ false = le-ltb (length index) (length es) (omega (arith, entries-few x v s g)) in
    let b : ltb (length bytes) (length (entries_bytes (kind_at x g) (signal_class (loads g x.blocks)) es)) ≡ false = le-ltb (length bytes) _ (omega (arith, bytes-few x v s g)) in
    rw (u, i, b) refl

loads-unknown : (x : Image) (g : ℕ) (index bytes : List ℕ) → unknown_signal x g ≡ true → load_in x g index bytes ≡ load_after (refuse 4) index bytes
unfolding load_in
loads-unknown x g index bytes u = rw u refl

-- ---- a loaded signal

pub wide-most : (k : SignalEncoding) → known_kind k ≡ true → width_of k ≤ 65536
wide-most (BitVector w) h = leb-true w 65536 h
wide-most Real h = omega arith
wide-most Absent h = omega arith

-- the kind k, the class, by its number, and the count n as the code has them, and the outputs
pub record SignalRead (b : List ℕ) (g : ℕ) (k : SignalEncoding) (c number n : ℕ) (index bytes : List ℕ) : Type 0 where
  pub lines : signal_lines g (kind_at (image_in b) g) (loads g (image_in b).blocks) ≡ signal_line g k number n ++ entry_lines (entries_read k c (take n index) bytes)
  pub there : entries_there k c (take n index) bytes ≡ true
  pub wide : width_of k ≤ 65536
  pub size : n ≡ length (take n index)
  pub inside : n ≤ length index

read_same : {k q : SignalEncoding} {c d : ℕ} {i j b a : List ℕ} (es : List Entry) → k ≡ q → c ≡ d → i ≡ j → b ≡ a → entries_read q d j a ≡ es → entries_read k c i b ≡ es
read_same es ke ce ie be h = rw (ke, ce, ie, be) h

there-same : {k q : SignalEncoding} {c d : ℕ} {i j b a : List ℕ} → k ≡ q → c ≡ d → i ≡ j → b ≡ a → entries_there q d j a ≡ true → entries_there k c i b ≡ true
there-same ke ce ie be h = rw (ke, ce, ie, be) h

line_same : {k q : SignalEncoding} {c d n m : ℕ} (g : ℕ) → k ≡ q → c ≡ d → n ≡ m → signal_line g q d m ≡ signal_line g k c n
line_same g ke ce ne = rw (ke, ce, ne) refl

read_known : (b : List ℕ) (g : ℕ) (k : SignalEncoding) (c number n : ℕ) (index bytes i₀ b₀ out : List ℕ) → Bytes b → Taken b → Enough i₀ b₀ out → k ≡ kind_at (image_in b) g → number ≡ c
    → load_after (loaded n c) index bytes ≡ loaded-in (image_in b) g i₀ b₀ → SignalRead b g k c number n index bytes
read_known b g k c number n index bytes i₀ b₀ out y o room ke ne e =
    let x = image_in b in
    let v : Valid x = valid-in b y o in
    let q : SignalEncoding = kind_at x g in
    let C : ℕ = signal_class (loads g x.blocks) in
    let es : List Entry = (loads g x.blocks).entries in
    let held : List ℕ = entries_bytes q C es in
    let re : loaded n c ≡ loaded (length es) C = ap (λ (a : LoadAfter). a.reply) e in
    let ce : c ≡ C = cc in
    let le : n ≡ length es = cc in
    let few = entries-few x v (small-in b y o) g in
    let mc : n ≡ length (map index_in es) = le ∙ sym (length-map es index_in) in
    let ie : take n index ≡ map index_in es = ap (λ (a : LoadAfter). take n a.index) e ∙ taken_back (map index_in es) i₀ n mc (omega arith) in
    let be : bytes ≡ held ++ drop (0 + length held) b₀ = ap (λ (a : LoadAfter). a.bytes) e ∙ sets-eq held b₀ 0 (omega (arith, bytes-few x v (small-in b y o) g)) in
    let w : width_of q ≤ 65536 = wide-most q (known b g y o.0) in
    let r : ReadBack q C es (held ++ drop (0 + length held) b₀) = read_back q C es (drop (0 + length held) b₀) out (kept-fits x v g) (class-most x v g) (omega arith) in
    record {
      lines = ap₂ (λ (l m : List ℕ). l ++ m) (line_same g ke (ne ∙ ce) le) (ap entry_lines (sym (read_same es ke ce ie be r.read)));
      there = there-same ke ce ie be r.there;
      wide = subst (λ (a : SignalEncoding). width_of a ≤ 65536) (sym ke) w;
      size = mc ∙ sym (ap length ie);
      inside = omega (arith, ap (λ (a : LoadAfter). length a.index) e ∙ length-sets i₀ 0 (map index_in es));
    }

pub signal-read : (b : List ℕ) (g : ℕ) (k : SignalEncoding) (c number n : ℕ) (index bytes i₀ b₀ out : List ℕ) → Bytes b → Taken b → Enough i₀ b₀ out → k ≡ kind_at (image_in b) g → number ≡ c
    → load_after (loaded n c) index bytes ≡ load_in (image_in b) g i₀ b₀ → SignalRead b g k c number n index bytes
signal-read b g k c number n index bytes i₀ b₀ out y o room ke ne e = by (unknown_signal (image_in b) g) refl
  where
    by : (t : Bool) → unknown_signal (image_in b) g ≡ t → SignalRead b g k c number n index bytes
    by true u =
        let w : loaded n c ≡ refuse 4 = ap (λ (a : LoadAfter). a.reply) (e ∙ loads-unknown (image_in b) g i₀ b₀ u) in
        let z : ◌≡◌ {A = ℕ} 0 1 = cc in absurd (omega arith)
    by false u = read_known b g k c number n index bytes i₀ b₀ out y o room ke ne (e ∙ loads-known (image_in b) g i₀ b₀ (valid-in b y o) (small-in b y o) room.0 room.1 u)

-- ---- an absent one

absent-is : (k : SignalEncoding) → absent k ≡ true → k ≡ Absent
absent-is (BitVector w) h = let z : ◌≡◌ {A = ℕ} 0 1 = cc in absurd (omega arith)
absent-is Real h = let z : ◌≡◌ {A = ℕ} 0 1 = cc in absurd (omega arith)
absent-is Absent h = refl

none_kept : (c : ℕ) (es : List Entry) → EachFits Absent c es → es ≡ []
none_kept c [] f = refl
none_kept c (e ∷ es) f = absurd f.0.0

lines-absent : (g : ℕ) (k : SignalEncoding) (l : Load) → k ≡ Absent → l.entries ≡ [] → signal_lines g k l ≡ signal_line g k 0 0
unfolding entry_lines
lines-absent g k l ke ee = rw (ke, ee) (append-nil (signal_line g Absent 0 0))

-- only of an absent one is loading refused
pub signal-absent : (b : List ℕ) (g : ℕ) (k : SignalEncoding) (n : ℕ) (index bytes i₀ b₀ out : List ℕ) → Bytes b → Taken b
    → g < length (image_in b).kinds → Enough i₀ b₀ out → k ≡ kind_at (image_in b) g
    → load_after (refuse n) index bytes ≡ load_in (image_in b) g i₀ b₀ → signal_lines g (kind_at (image_in b) g) (loads g (image_in b).blocks) ≡ signal_line g k 0 0
signal-absent b g k n index bytes i₀ b₀ out y o h room ke e = by (unknown_signal (image_in b) g) refl
  where
    by : (t : Bool) → unknown_signal (image_in b) g ≡ t → signal_lines g (kind_at (image_in b) g) (loads g (image_in b).blocks) ≡ signal_line g k 0 0
    by true u =
        let x = image_in b in
        let a : kind_at x g ≡ Absent = absent-is (kind_at x g) (rw (lt-leb (length x.kinds) g h) at u) in
        let f = kept-fits x (valid-in b y o) g in
        let n : (loads g x.blocks).entries ≡ [] = none_kept _ _ (subst (λ (q : SignalEncoding). EachFits q (signal_class (loads g x.blocks)) (loads g x.blocks).entries) a f) in
        lines-absent g (kind_at x g) (loads g x.blocks) a n ∙ ap (λ (q : SignalEncoding). signal_line g q 0 0) (sym ke)
    by false u =
        let w : refuse n ≡ loaded _ _ = ap (λ (a : LoadAfter). a.reply) (e ∙ loads-known (image_in b) g i₀ b₀ (valid-in b y o) (small-in b y o) room.0 room.1 u) in
        let z : ◌≡◌ {A = ℕ} 0 1 = cc in absurd (omega arith)
