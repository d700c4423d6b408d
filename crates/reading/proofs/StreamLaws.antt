-- One turn of reading a stream.
-- Assumes nothing.
use Prim.Native.Nat.{ℕ, ◌+◌, ◌-◌, ◌≤◌, ◌<◌}
use mathlib.Core.Path.{◌≡◌, refl, sym, ap, ap₂, ◌∙◌}
use mathlib.Core.Bool.{true, false}
use mathlib.Core.List.{List, [], ◌∷◌}
use mathlib.Core.Option as math
use native.Mathlib.Omega.{arith}
use borrow.Author.Tests.{lt-ltb}
use lib.Dec.{ltb}
use lib.ListN.{length, drop, length-drop, drop_of_length-le}
use Rattle.lists.specs.Bytes.{Bytes}
use Rattle.lists.specs.Choice.{bind, is_some}
use Rattle.lists.specs.Got.{Got, bad, got}
use Rattle.lists.proofs.BytesLaws.{drop-bytes}
use Rattle.signal.specs.declared.kind.SignalEncoding.{SignalEncoding}
use Rattle.stream.specs.Entries.{Entry}
use Rattle.form.specs.Form.{cons_to, more, chain, if_yes}
use Rattle.form.specs.Decide.{lt?}
use Rattle.codec.specs.Walk.{walk_entry}
use Rattle.codec.proofs.WalkBlock.{walk-entry-laws, walk-entry-long}
use Rattle.reading.specs.Decided.{is_yes}
use Rattle.reading.specs.Stream.{change_to, next_of, entry_at, is_stream, is_chain}
use Rattle.reading.specs.declared.changes.NextChange.{NextChange}
use Rattle.std.specs.Prelude.{Option, Some, None}
use Rattle.reading.proofs.DecidedLaws.{yes_lt}
use Rattle.reading.proofs.PlaceLaws.{read_at, chain-turn, chain-stop}

no-next : {B : Type 0} {i p : ℕ} → None ≡ Some (change_to i p) → B
no-next e = let z : ◌≡◌ {A = ℕ} 0 1 = cc in absurd (omega arith)

module _ (k : SignalEncoding) (n top : ℕ) where
  some-cons : (x : Entry) (o : math.Option (List Entry)) → is_some (cons_to x o) ≡ is_some o
  some-cons x math.none = refl
  some-cons x (math.some l) = refl

  Rest : Entry → List ℕ → math.Option (List Entry)
  Rest x r = (chain (walk_entry k n top) (λ e. e.index) x.index).read r

  module _ (prev : ℕ) (s : List ℕ) (at : ℕ) (y : Bytes s) (h : at < length s) where
    turn : (chain (walk_entry k n top) (λ e. e.index) prev).read (drop at s) ≡ more ((walk_entry k n top prev).get (drop at s)) Rest
    unfolding Rest
    turn = chain-turn (walk_entry k n top) (λ e. e.index) (walk-entry-laws k n top) (walk-entry-long k n top) prev (drop at s) (drop-bytes at s y) (omega (arith, length-drop at s))

    turn-bad : entry_at k n top prev s at ≡ None → is_chain k n top prev (drop at s) ≡ false
    unfolding entry_at is_chain
    turn-bad e = ap is_some turn ∙ go ((walk_entry k n top prev).get (drop at s)) e
      where
        go : (g : Got Entry) → next_of (length s) g ≡ None → is_some (more g Rest) ≡ false
        go bad e = refl
        go (got c r) e = no-next (sym e)

    pub stream-wrong : (x : Option NextChange) → x ≡ entry_at k n top prev s at → x ≡ None → false ≡ is_chain k n top prev (drop at s)
    stream-wrong x e f = sym (turn-bad (sym e ∙ f))

    pub record Turn (i p : ℕ) : Type 0 where
      pub past : at < p
      pub inside : p ≤ length s
      pub small : i < n
      pub rest : is_chain k n top prev (drop at s) ≡ is_chain k n top i (drop p s)

    pub stream-turn : (x : Option NextChange) (i p : ℕ) → x ≡ entry_at k n top prev s at → x ≡ Some (change_to i p) → Turn i p
    unfolding entry_at is_chain Rest
    stream-turn x i p f q = go ((walk_entry k n top prev).get (drop at s)) refl (sym f ∙ q)
      where
        go : (g : Got Entry) → (walk_entry k n top prev).get (drop at s) ≡ g → next_of (length s) g ≡ Some (change_to i p) → Turn i p
        go bad q e = no-next e
        go (got c r) q e =
            let w = read_at (walk_entry k n top prev) (walk-entry-laws k n top prev) s at c r y q in
            let l = walk-entry-long k n top prev c w.ok in
            let f : change_to c.index (length s - length r) ≡ change_to i p = cc in
            let j : c.index ≡ i = ap (λ (x : NextChange). x.index) f in
            let z : length s - length r ≡ p = ap (λ (x : NextChange). x.next) f in
            let m : length r ≡ length s - (at + length ((walk_entry k n top prev).put c)) = ap length w.rest ∙ length-drop _ s in
            let v = w.inside (omega arith) in
            let d : at + length ((walk_entry k n top prev).put c) ≡ p = omega arith in
            let u = w.ok.1.inside in
            record {
              past = omega arith;
              inside = omega arith;
              small = omega arith;
              rest = ap is_some (turn ∙ ap (λ (g : Got Entry). more g Rest) q)
                  ∙ some-cons c ((chain (walk_entry k n top) (λ e. e.index) c.index).read r)
                  ∙ ap₂ (λ (i : ℕ) (r : List ℕ). is_some ((chain (walk_entry k n top) (λ e. e.index) i).read r)) j (w.rest ∙ ap (λ (k : ℕ). drop k s) d);
            }

  chain-none : (prev : ℕ) → is_chain k n top prev [] ≡ true
  unfolding is_chain
  chain-none prev = ap is_some (chain-stop (walk_entry k n top) (λ e. e.index) (walk-entry-laws k n top) (walk-entry-long k n top) prev)

  stream-none : is_stream k n top [] ≡ false
  unfolding is_stream
  stream-none =
      ap (λ (o : math.Option (List Entry)). is_some (bind o (λ l. if_yes (lt? 0 (length l)) l)))
      (chain-stop (walk_entry k n top) (λ e. e.index) (walk-entry-laws k n top) (walk-entry-long k n top) 0)

  yes-some : {P : Type 0} (d : Dec P) (l : List Entry) → is_some (if_yes d l) ≡ is_yes d
  yes-some (yes p) l = refl
  yes-some (no p) l = refl

  any-more : (g : Got Entry) (f : Entry → List ℕ → math.Option (List Entry)) → is_some (bind (more g f) (λ l. if_yes (lt? 0 (length l)) l)) ≡ is_some (more g f)
  any-more bad f = refl
  any-more (got c r) f = go (f c r)
    where
      go : (o : math.Option (List Entry)) → is_some (bind (cons_to c o) (λ l. if_yes (lt? 0 (length l)) l)) ≡ is_some (cons_to c o)
      go math.none = refl
      go (math.some l) = yes-some (lt? 0 (length (c ∷ l))) (c ∷ l) ∙ yes_lt 0 (length (c ∷ l)) ∙ lt-ltb 0 (length (c ∷ l)) (omega arith)

  pub stream-any : (s : List ℕ) → Bytes s → 0 < length s → is_stream k n top s ≡ is_chain k n top 0 s
  unfolding is_stream is_chain
  stream-any s y h =
      let t = turn 0 s 0 y h in
      ap (λ (o : math.Option (List Entry)). is_some (bind o (λ l. if_yes (lt? 0 (length l)) l))) t
      ∙ any-more ((walk_entry k n top 0).get s) Rest ∙ sym (ap is_some t)

  pub stream_end : (prev : ℕ) (s : List ℕ) (at : ℕ) → Bytes s → length s ≤ at → is_chain k n top prev (drop at s) ≡ is_chain k n top 0 s
      → ltb 0 (length s) ≡ is_stream k n top s
  stream_end prev [] at y h e = sym (stream-none)
  stream_end prev (x ∷ s) at y h e =
      lt-ltb 0 (length (x ∷ s)) (omega arith) ∙ sym (chain-none prev) ∙ ap (is_chain k n top prev) (sym (drop_of_length-le (x ∷ s) h)) ∙ e ∙ sym (stream-any (x ∷ s) y (omega arith))
