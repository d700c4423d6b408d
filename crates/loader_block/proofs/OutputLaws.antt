-- What taking changes makes of an output is what `pushed` makes of the entries that it holds.
-- Assumes nothing.
use Prim.Native.Nat.{ℕ, suc, ◌+◌, ◌≤◌, ◌<◌}
use mathlib.Core.Path.{◌≡◌, refl, sym, ap, ◌∙◌}
use mathlib.Core.Bool.{Bool, true, false}
use mathlib.Core.List.{List, [], ◌∷◌, ◌++◌, map, append_assoc, append-nil}
use mathlib.Core.Option.{Option, some}
use native.Mathlib.Nat.{zero-add}
use native.Mathlib.Omega.{arith}
use lib.ListN.{length, set, length-append, length-set, length-map}
use lib.Seq.{sets, length-sets}
use Rattle.lists.specs.Choice.{pick}
use Rattle.lists.proofs.SetsLaws.{sets-append}
use Rattle.signal.specs.declared.kind.SignalEncoding.{SignalEncoding}
use Rattle.signal.specs.Content.{Content}
use Rattle.stream.specs.Entries.{Entry}
use Rattle.loaded.specs.Loading.{repeats_last, pushed}
use Rattle.loaded.specs.EntryBytes.{entry_bytes, entries_bytes}
use Rattle.loaded.specs.Reader.{index_in}
use Rattle.entry_same.specs.Kept.{repeats_kept, kept_content, last_content}
use Rattle.entry_same.proofs.KeptLaws.{repeats-last, last_more, count-more}
use Rattle.loader_block.specs.Output.{Output, output, kept, taken, all_taken, Room, output_as, holding}
use Rattle.entry.specs.declared.read.PlacedChange.{PlacedChange}
use Rattle.std.specs.Prelude as std
use Rattle.loader_block.specs.declared.Loading.{Loading}

-- ---- one entry more

index-more : (es : List Entry) (e : Entry) → map index_in (es ++ e ∷ []) ≡ map index_in es ++ e.index ∷ []
index-more [] e = refl
index-more (a ∷ es) e = ap (λ (l : List ℕ). a.index ∷ l) (index-more es e)

pub bytes-append : (k : SignalEncoding) (c : ℕ) (es fs : List Entry) → entries_bytes k c (es ++ fs) ≡ entries_bytes k c es ++ entries_bytes k c fs
unfolding entries_bytes
bytes-append k c [] fs = refl
bytes-append k c (e ∷ es) fs =
    ap (λ (l : List ℕ). entry_bytes k c e.content ++ l) (bytes-append k c es fs) ∙ sym (append_assoc (entry_bytes k c e.content) (entries_bytes k c es) (entries_bytes k c fs))

bytes-more : (k : SignalEncoding) (c : ℕ) (es : List Entry) (e : Entry) → entries_bytes k c (es ++ e ∷ []) ≡ entries_bytes k c es ++ entry_bytes k c e.content
unfolding entries_bytes
bytes-more k c es e = bytes-append k c es (e ∷ []) ∙ ap (λ (l : List ℕ). entries_bytes k c es ++ l) (append-nil (entry_bytes k c e.content))

outputs-equal : (n m u v : ℕ) (l r : Option Content) (i j b d : List ℕ) → n ≡ m → u ≡ v → l ≡ r → i ≡ j → b ≡ d → output n u l i b ≡ output m v r j d
outputs-equal n m u v l r i j b d e f g h q = rw (e, f, g, h, q) refl

kept_more : (k : SignalEncoding) (c : ℕ) (w : Bool) (i b : List ℕ) (es : List Entry) (e : Entry)
    → kept k c w (holding k c w i b es) e.index e.content ≡ holding k c w i b (es ++ e ∷ [])
kept_more k c false i b es e =
    outputs-equal _ _ _ _ _ _ i i b b (sym (count-more es e)) (sym (ap length (bytes-more k c es e) ∙ length-append (entries_bytes k c es) (entry_bytes k c e.content)))
    (sym (last_more es e)) refl refl
kept_more k c true i b es e =
    let one = bytes-more k c es e in
    let old : List ℕ = entries_bytes k c es in
    let new : List ℕ = entry_bytes k c e.content in
    outputs-equal _ _ _ _ _ _ _ _ _ _ (sym (count-more es e)) (sym (ap length one ∙ length-append old new)) (sym (last_more es e))
    (sym (ap (sets i 0) (index-more es e) ∙ sets-append (map index_in es) (e.index ∷ []) i 0 ∙ rw (zero-add, length-map) refl))
    (sym (ap (sets b 0) one ∙ sets-append old new b 0 ∙ rw zero-add refl))

taken_more : (k : SignalEncoding) (c : ℕ) (w : Bool) (i b : List ℕ) (es : List Entry) (e : Entry)
    → taken k c w (holding k c w i b es) e.index e.content ≡ holding k c w i b (pick (repeats_last es e.content) es (es ++ e ∷ []))
unfolding taken
taken_more k c w i b es e = rw (last-held w ∙ repeats-last es e.content) (by (repeats_last es e.content))
  where
    last-held : (w : Bool) → repeats_kept (holding k c w i b es).last e.content ≡ repeats_kept (last_content es) e.content
    last-held false = refl
    last-held true = refl

    by : (t : Bool) → pick t (holding k c w i b es) (kept k c w (holding k c w i b es) e.index e.content) ≡ holding k c w i b (pick t es (es ++ e ∷ []))
    by true = refl
    by false = kept_more k c w i b es e

pub taken-pushed : (k : SignalEncoding) (c : ℕ) (w : Bool) (i b : List ℕ) (out es : List Entry)
    → all_taken k c w (holding k c w i b out) es ≡ holding k c w i b (pushed out es)
unfolding all_taken pushed
taken-pushed k c w i b out [] = refl
taken-pushed k c w i b out (e ∷ es) =
    ap (λ (o : Output). all_taken k c w o es) (taken_more k c w i b out e)
    ∙ taken-pushed k c w i b (pick (repeats_last out e.content) out (out ++ e ∷ [])) es

-- ---- what taking leaves

pub record Grows (o p : Output) : Type 0 where
  pub count : o.count ≤ p.count
  pub used : o.used ≤ p.used
  pub index : length p.index ≡ length o.index
  pub bytes : length p.bytes ≡ length o.bytes

pub grows_same : (o : Output) → Grows o o
grows_same o = record { count = omega arith; used = omega arith; index = refl; bytes = refl }

pub grows-both : (o p q : Output) → Grows o p → Grows p q → Grows o q
grows-both o p q f g = record { count = omega arith; used = omega arith; index = g.index ∙ f.index; bytes = g.bytes ∙ f.bytes }

kept-grows : (k : SignalEncoding) (c : ℕ) (w : Bool) (o : Output) (i : ℕ) (a : Content) → Grows o (kept k c w o i a)
kept-grows k c false o i a = record { count = omega arith; used = omega arith; index = refl; bytes = refl }
kept-grows k c true o i a = record { count = omega arith; used = omega arith; index = length-set o.index o.count i; bytes = length-sets o.bytes o.used (entry_bytes k c a) }

pub taken-grows : (k : SignalEncoding) (c : ℕ) (w : Bool) (o : Output) (i : ℕ) (a : Content) → Grows o (taken k c w o i a)
unfolding taken
taken-grows k c w o i a = by (repeats_kept o.last a)
  where
    by : (t : Bool) → Grows o (pick t o (kept k c w o i a))
    by true = grows_same o
    by false = kept-grows k c w o i a

pub all-grows : (k : SignalEncoding) (c : ℕ) (w : Bool) (o : Output) (es : List Entry) → Grows o (all_taken k c w o es)
unfolding all_taken
all-grows k c w o [] = grows_same o
all-grows k c w o (e ∷ es) =
    grows-both o (taken k c w o e.index e.content) _ (taken-grows k c w o e.index e.content) (all-grows k c w (taken k c w o e.index e.content) es)

-- there is room for the first where there is for all
pub room-first : (w : Bool) (o p : Output) (i b : ℕ) → Grows o p → Room w p i b → Room w o i b
room-first w o p i b g r = λ e. let q = r e in (omega (arith, q.0), omega (arith, q.1))

-- ---- one change, by what the code finds of it

module _ (k : SignalEncoding) (c : ℕ) (w : Bool) (o : Output) (i : ℕ) (a : Content) (r : Bool) (e : r ≡ repeats_kept o.last a) where
  pub taken-same : r ≡ true → o ≡ taken k c w o i a
  unfolding taken
  taken-same f = rw (← e, f) refl

  taken-kept : r ≡ false → taken k c w o i a ≡ kept k c w o i a
  unfolding taken
  taken-kept f = rw (← e, f) refl

  pub taken-counts : (u : ℕ) → r ≡ false → w ≡ false → u ≡ o.used + length (entry_bytes k c a) → output (o.count + 1) u (some a) o.index o.bytes ≡ taken k c w o i a
  taken-counts u f g p = outputs-equal (o.count + 1) (suc o.count) _ _ _ _ _ _ _ _ (omega arith) p refl refl refl ∙ sym (taken-kept f ∙ ap (λ (t : Bool). kept k c t o i a) g)

  pub taken-writes : (u : ℕ) (j b : List ℕ) → r ≡ false → w ≡ true → u ≡ o.used + length (entry_bytes k c a) → j ≡ set o.index o.count i
      → b ≡ sets o.bytes o.used (entry_bytes k c a) → output (o.count + 1) u (some a) j b ≡ taken k c w o i a
  taken-writes u j b f g p q s = outputs-equal (o.count + 1) (suc o.count) _ _ _ _ _ _ _ _ (omega arith) p refl q s ∙ sym (taken-kept f ∙ ap (λ (t : Bool). kept k c t o i a) g)

  pub taken-room : (n m : ℕ) → r ≡ false → w ≡ true → Room w (taken k c w o i a) n m → (o.count < n) × (o.used + length (entry_bytes k c a) ≤ m)
  taken-room n m f g h =
      let q = h g in
      let s : taken k c w o i a ≡ kept k c true o i a = taken-kept f ∙ ap (λ (t : Bool). kept k c t o i a) g in
      (omega (arith, q.0, ap (λ (p : Output). p.count) s), omega (arith, q.1, ap (λ (p : Output). p.used) s))

-- what the code holds after it
pub output-of : (k : SignalEncoding) (b : List ℕ) (r : Loading) (n u : ℕ) (l : std.Option PlacedChange) (i o : List ℕ) → r.count ≡ n → r.used ≡ u → r.last ≡ l
    → output_as k b r i o ≡ output n u (kept_content k b l) i o
output-of k b r n u l i o e f g = rw (e, f, g) refl
