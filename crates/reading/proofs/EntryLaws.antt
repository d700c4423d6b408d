-- A change at a place of a stream, by the tests that the code makes.
-- Assumes nothing.
use Prim.Native.Nat.{ℕ, zero, suc, ◌+◌, ◌-◌, ◌≤◌, ◌<◌}
use mathlib.Core.Path.{◌≡◌, refl, sym, ap, ap₂, ◌∙◌}
use mathlib.Core.Bool.{Bool, true, false, ◌&&◌}
use mathlib.Core.List.{List}
use mathlib.Core.Option as math
use native.Mathlib.Omega.{arith}
use borrow.Author.Tests.{le-leb, lt-leb, lt-ltb, le-ltb}
use lib.Dec.{leb, ltb}
use lib.ListN.{length, drop}
use Rattle.lists.specs.Bytes.{Bytes}
use Rattle.lists.specs.Choice.{pick}
use Rattle.lists.specs.Got.{Got, bad, got}
use Rattle.lists.proofs.BytesLaws.{drop-bytes}
use Rattle.value.specs.Class.{class_of_all}
use Rattle.value.proofs.ClassLaws.{number-states, class-all-small, one_class}
use Rattle.signal.specs.declared.kind.SignalEncoding.{SignalEncoding}
use Rattle.signal.specs.declared.kind.SignalEncoding.TheVariants.{BitVector, Real, Absent}
use Rattle.signal.specs.declared.decode.ChangeValue.{ChangeValue}
use Rattle.signal.specs.Content.{Content, happened, symbols, bits, symbols_of, ContentFits}
use Rattle.signal.specs.Answer.{value_of}
use Rattle.stream.specs.declared.read.ReadChange.{ReadChange}
use Rattle.stream.specs.Stream.{Change, read_change, max_delta}
use Rattle.stream.specs.Answer.{read_of, read_as, change_at}
use Rattle.stream.specs.Entries.{Entry, entry}
use Rattle.stream.proofs.StreamTrip.{written_read}
use Rattle.form.specs.Form.{and_then, got_if, if_yes}
use Rattle.codec.specs.Valid.{entry_fits?, content_fits?}
use Rattle.reading.specs.Decided.{is_yes}
use Rattle.reading.specs.Stream.{value_class, change_to, next_of, entry_at}
use Rattle.reading.specs.declared.changes.NextChange.{NextChange}
use Rattle.std.specs.Prelude.{Option, Some, None}
use Rattle.reading.proofs.DecidedLaws.{yes_le, yes_lt, yes_both, yes-map}

-- the class of a value that was read is that of its content
pub class-value : (k : SignalEncoding) (c : Content) → ContentFits k c → value_class (value_of k c) ≡ class_of_all (symbols_of c)
class-value (BitVector zero) happened f = unfold class_of_all in refl
class-value (BitVector zero) (symbols s) f = absurd f
class-value (BitVector zero) (bits b) f = absurd f
class-value (BitVector (suc w)) happened f = absurd f
class-value (BitVector (suc zero)) (symbols s) f = sym (one_class s f.0)
class-value (BitVector (suc (suc w))) (symbols s) f = number-states (class_of_all s) (class-all-small s)
class-value (BitVector (suc w)) (bits b) f = absurd f
class-value Real happened f = absurd f
class-value Real (symbols s) f = absurd f
class-value Real (bits b) f = unfold class_of_all in refl
class-value Absent c f = absurd f

pub yes-fits : (k : SignalEncoding) (c : Content) → ContentFits k c → is_yes (content_fits? k c) ≡ true
yes-fits k c f = by (content_fits? k c)
  where
    by : (d : Dec (ContentFits k c)) → is_yes d ≡ true
    by (yes p) = refl
    by (no n) = absurd (n f)

abbrev pub by_tests : (n top index class place : ℕ) → Option NextChange
by_tests n top i c p = pick (ltb i n) (pick (leb c top) (Some (change_to i p)) None) None

in_order : (a b c d : Bool) (x : Option NextChange) → a ≡ true → c ≡ true → pick (a && (b && (c && d))) x None ≡ pick b (pick d x None) None
in_order true true true true x f e = refl
in_order true true true false x f e = refl
in_order true false true d x f e = refl
in_order false b c d x f e = let z : ◌≡◌ {A = ℕ} 0 1 = cc in absurd (omega arith)
in_order true b false d x f e = let z : ◌≡◌ {A = ℕ} 0 1 = cc in absurd (omega arith)

yes-next : {P : Type 0} (d : Dec P) (e : Entry) (n : ℕ) (q : List ℕ) → next_of n (got_if (if_yes d e) q) ≡ pick (is_yes d) (Some (change_to e.index (n - length q))) None
yes-next (yes p) c n q = refl
yes-next (no p) c n q = refl

entry_next : (k : SignalEncoding) (n least top : ℕ) (e : Entry) (m : ℕ) (q : List ℕ) → least ≤ e.index → ContentFits k e.content
    → next_of m (got_if (if_yes (entry_fits? k n least top e) e) q) ≡ by_tests n top e.index (value_class (value_of k e.content)) (m - length q)
unfolding entry_fits?
entry_next k n least top e m q g f =
    let c : ℕ = class_of_all (symbols_of e.content) in
    let t : is_yes (entry_fits? k n least top e) ≡ leb least e.index && (ltb e.index n && (is_yes (content_fits? k e.content) && leb c top))
    = simp (yes-map, yes_both, yes_le, yes_lt) in
    yes-next (entry_fits? k n least top e) e m q
    ∙ ap (λ (t : Bool). pick t (Some (change_to e.index (m - length q))) None) t
    ∙ in_order (leb least e.index) (ltb e.index n) (is_yes (content_fits? k e.content)) (leb c top) (Some (change_to e.index (m - length q))) (le-leb least e.index g) (yes-fits k e.content f)
    ∙ ap (λ (c : ℕ). by_tests n top e.index c (m - length q)) (sym (class-value k e.content f))

no_read : {B : Type 0} {d n : ℕ} {v : ChangeValue} → None ≡ read_of d v n → B
no_read e = let z : ◌≡◌ {A = ℕ} 0 1 = cc in absurd (omega arith)

-- two changes that were read
same-read : {x y : ReadChange} → Some x ≡ Some y → x ≡ y
same-read e = cc

module _ (k : SignalEncoding) (n top prev : ℕ) (s : List ℕ) (at : ℕ) (y : Bytes s) where
  pub entry-bad : (x : Option ReadChange) → x ≡ change_at k s at → x ≡ None → None ≡ entry_at k n top prev s at
  unfolding entry_at
  entry-bad x e f = by (read_change k (drop at s)) (sym e ∙ f)
    where
      by : (g : Got Change) → read_as k (length s) g ≡ None
          → None ≡ next_of (length s) (and_then (and_then g (λ x r. got_if (math.some (entry (prev + x.d) x.content)) r)) (λ e r. got_if (if_yes (entry_fits? k n prev top e) e) r))
      by bad q = refl
      by (got x r) q = no_read (sym q)

  pub entry-is : (x : Option ReadChange) (d : ℕ) (v : ChangeValue) (p : ℕ) → x ≡ change_at k s at → x ≡ read_of d v p
      → entry_at k n top prev s at ≡ by_tests n top (prev + d) (value_class v) p
  unfolding entry_at
  entry-is x d v p e f = by (read_change k (drop at s)) refl (sym e ∙ f)
    where
      by : (g : Got Change) → read_change k (drop at s) ≡ g → read_as k (length s) g ≡ read_of d v p
          → next_of (length s) (and_then (and_then g (λ x r. got_if (math.some (entry (prev + x.d) x.content)) r)) (λ e r. got_if (if_yes (entry_fits? k n prev top e) e) r))
          ≡ by_tests n top (prev + d) (value_class v) p
      by bad q e = no_read e
      by (got x r) q e =
          let w = written_read k (drop at s) x r (drop-bytes at s y) q in
          let f = same-read e in
          let a : x.d ≡ d = ap (λ (c : ReadChange). c.delta) f in
          let b : value_of k x.content ≡ v = ap (λ (c : ReadChange). c.value) f in
          let c : length s - length r ≡ p = ap (λ (c : ReadChange). c.next) f in
          entry_next k n prev top (entry (prev + x.d) x.content) (length s) r (omega arith) w.fits.fits
          ∙ ap₂ (λ (d : ℕ) (v : ChangeValue). by_tests n top (prev + d) (value_class v) (length s - length r)) a b
          ∙ ap (by_tests n top (prev + d) (value_class v)) c

  pub delta-small : (x : Option ReadChange) (d : ℕ) (v : ChangeValue) (p : ℕ) → x ≡ change_at k s at → x ≡ read_of d v p → d ≤ max_delta
  delta-small x d v p e f = by (read_change k (drop at s)) refl (sym e ∙ f)
    where
      by : (g : Got Change) → read_change k (drop at s) ≡ g → read_as k (length s) g ≡ read_of d v p → d ≤ max_delta
      by bad q e = no_read e
      by (got x r) q e = let w = written_read k (drop at s) x r (drop-bytes at s y) q in let a : x.d ≡ d = ap (λ (c : ReadChange). c.delta) (same-read e) in rw (← a) w.fits.small

  module _ (x : Option ReadChange) (d : ℕ) (v : ChangeValue) (p : ℕ) (e : x ≡ change_at k s at) (f : x ≡ read_of d v p) where
    pub entry-late : n ≤ prev + d → None ≡ entry_at k n top prev s at
    entry-late h = sym (entry-is x d v p e f ∙ ap (λ (u : Bool). pick u (pick (leb (value_class v) top) (Some (change_to (prev + d) p)) None) None) (le-ltb (prev + d) n h))

    pub entry-class : (c : ℕ) → c ≡ value_class v → prev + d < n → top < c → None ≡ entry_at k n top prev s at
    entry-class c q h i =
        sym (entry-is x d v p e f ∙ ap (λ (u : Bool). pick u (pick (leb (value_class v) top) (Some (change_to (prev + d) p)) None) None) (lt-ltb (prev + d) n h)
        ∙ ap (λ (t : Bool). pick t (Some (change_to (prev + d) p)) None) (ap (λ (c : ℕ). leb c top) (sym q) ∙ lt-leb c top i))

    pub entry-fits : (c : ℕ) → c ≡ value_class v → prev + d < n → c ≤ top → Some (change_to (prev + d) p) ≡ entry_at k n top prev s at
    entry-fits c q h i =
        sym (entry-is x d v p e f ∙ ap (λ (u : Bool). pick u (pick (leb (value_class v) top) (Some (change_to (prev + d) p)) None) None) (lt-ltb (prev + d) n h)
        ∙ ap (λ (t : Bool). pick t (Some (change_to (prev + d) p)) None) (ap (λ (c : ℕ). leb c top) (sym q) ∙ le-leb c top i))
