-- The calls rebuilt from a block that fits are such as a caller can make: times of 64 bits, senders and signal numbers of 32, values in slices of bytes.
-- Assumes nothing.
use Prim.Native.Nat.{ℕ, zero, suc, ◌+◌, ◌≤◌, ◌<◌, ◌^◌}
use mathlib.Core.Path.{◌≡◌, sym, ap, ◌∙◌, subst}
use mathlib.Core.Bool.{true}
use mathlib.Core.List.{List, [], ◌∷◌, ◌++◌}
use mathlib.Core.Option.{Option, some, none}
use native.Mathlib.Nat.{add-zero, add-suc, suc-add, zero-add}
use native.Mathlib.Omega.{arith}
use borrow.Author.Tests.{leb-true}
use lib.ListN.{length, get_or}
use Rattle.lists.proofs.BytesLaws.{no_bytes}
use Rattle.packed.specs.Packed.{packed, packed_length}
use Rattle.packed.proofs.PackedLaws.{length-packed, packed-bytes}
use Rattle.signal.specs.declared.kind.SignalEncoding.{SignalEncoding}
use Rattle.signal.specs.declared.kind.SignalEncoding.TheVariants.{BitVector, Real, Absent}
use Rattle.signal.specs.Kind.{known_kind, top_limit}
use Rattle.signal.specs.Content.{Content, happened, symbols, bits, ContentFits}
use Rattle.signal.proofs.SayLaws.{say_of}
use Rattle.stream.specs.Entries.{Entry}
use Rattle.image.specs.Block.{Part, Block}
use Rattle.codec.specs.Valid.{EachBelow, EntriesFit, OptionFits, PartsFit, BlockFits}
use Rattle.codec.proofs.Growth.{parts-each, parts-count}
use Rattle.recording.specs.Calls.{Call, time, ValueFits, Fitting}
use Rattle.model.proofs.Rebuild.{bare, bares, front, rest_of, calls_of, roundCalls, blockCalls, firstCalls, imageCalls, All, all-front, all-behind}
use Rattle.follow.proofs.ChangeLaws.{packed-few}

fit_append : (a b : List Call) → Fitting a → Fitting b → Fitting (a ++ b)
unfolding Fitting
fit_append [] b p q = q
fit_append (c ∷ a) b p q = (p.0, fit_append a b p.1 q)

-- ---- a value

say-fits : (k : SignalEncoding) (t : ℕ) (a : Content) → known_kind k ≡ true → t ≤ top_limit k → ContentFits k a → ValueFits (say_of k t a)
unfolding say_of
say-fits (BitVector zero) t a k l f = (no_bytes, omega arith)
say-fits (BitVector (suc w)) t happened k l f = absurd f
say-fits (BitVector (suc w)) t (bits b) k l f = absurd f
say-fits (BitVector (suc w)) t (symbols s) k l f =
    let m : suc w ≤ 65536 = leb-true (suc w) 65536 k in
    let p : length (packed t s) ≡ packed_length (suc w) t = length-packed t s ∙ ap (λ (n : ℕ). packed_length n t) f.0 in
    let q : packed_length (suc w) t ≤ 32768 = packed-few (suc w) t m in
    let r : length (packed t s) ≤ 32768 = rw p q in
    (omega arith, (packed-bytes t s, omega (arith, r)))
say-fits Real t happened k l f = absurd f
say-fits Real t (symbols s) k l f = absurd f
say-fits Real t (bits b) k l f = f
say-fits Absent t a k l f = absurd f

abbrev SayFits : (k : SignalEncoding) (t : ℕ) → Entry → Type 0
SayFits k t e = ValueFits (say_of k t e.content)

abbrev Values : (k : SignalEncoding) (t : ℕ) → List Entry → Type 0
Values k t = All (SayFits k t)

entries-values : (k : SignalEncoding) (n i t : ℕ) (es : List Entry) → known_kind k ≡ true → t ≤ top_limit k → EntriesFit k n i t es → Values k t es
entries-values k n i t [] h l f = tt
entries-values k n i t (e ∷ es) h l f = (say-fits k t e.content h l f.0.content, entries-values k n e.index t es h l f.1)

module _ (ks : List SignalEncoding) where
  -- the values of the parts from signal g on
  abbrev PartsSay : (g : ℕ) → List (Part (List Entry)) → Type 0
  PartsSay g [] = Unit {0}
  PartsSay g (p ∷ ps) = (g < 2 ^ 32) × Values (get_or ks g Absent) p.top p.stream × PartsSay (suc g) ps

  rest-say : (i g : ℕ) (ps : List (Part (List Entry))) → PartsSay g ps → PartsSay g (rest_of i ps)
  unfolding rest_of
  rest-say i g [] v = tt
  rest-say i g (p ∷ ps) v = (v.0, all-behind (SayFits (get_or ks g Absent) p.top) i p.stream v.1, rest-say i (suc g) ps v.2)

  calls-fit : (g t : ℕ) (es : List Entry) → g < 2 ^ 32 → Values (get_or ks g Absent) t es → Fitting (calls_of ks g t es)
  unfolding Fitting calls_of
  calls-fit g t [] h v = tt
  calls-fit g t (e ∷ es) h v = ((omega arith, h, v.0), calls-fit g t es h v.1)

  round-fit : (i g : ℕ) (ps : List (Part (List Entry))) → PartsSay g ps → Fitting (roundCalls ks i g ps)
  unfolding Fitting roundCalls
  round-fit i g [] v = tt
  round-fit i g (p ∷ ps) v =
      fit_append (calls_of ks g p.top (front i p.stream)) (roundCalls ks i (suc g) ps)
      (calls-fit g p.top (front i p.stream) v.0 (all-front (SayFits (get_or ks g Absent) p.top) i p.stream v.1)) (round-fit i (suc g) ps v.2)

  block_fit : (ts : List ℕ) (i : ℕ) (ps : List (Part (List Entry))) → EachBelow (2 ^ 64) ts → PartsSay 0 ps → Fitting (blockCalls ks i ts ps)
  unfolding Fitting blockCalls
  block_fit [] i ps b v = round-fit i 0 ps v
  block_fit (t ∷ ts) i ps b v =
      fit_append (roundCalls ks i 0 ps) (time 0 t ∷ blockCalls ks (suc i) ts (rest_of i ps)) (round-fit i 0 ps v) ((omega arith, b.0), block_fit ts (suc i) (rest_of i ps) b.1 (rest-say i 0 ps v))

  first-fit : (ts : List ℕ) (ps : List (Part (List Entry))) → EachBelow (2 ^ 64) ts → PartsSay 0 ps → Fitting (firstCalls ks ts ps)
  unfolding Fitting firstCalls
  first-fit [] ps b v = tt
  first-fit (t ∷ ts) ps b v = ((omega arith, b.0), block_fit ts 0 ps b.1 v)

  -- ---- the parts of a valid block

  option-values : (k : SignalEncoding) (n : ℕ) (p : Option (Part (List Entry))) → known_kind k ≡ true → OptionFits k n p → Values k (bare p).top (bare p).stream
  option-values k n none h f = tt
  option-values k n (some p) h f = entries-values k n 0 p.top p.stream h f.most f.entries

  each-say : (ps : List (Option (Part (List Entry)))) (g : ℕ) → g + length ps ≤ 65536
      → ((j : ℕ) → j < length ps → Values (get_or ks (g + j) Absent) (bare (get_or ps j none)).top (bare (get_or ps j none)).stream) → PartsSay g (bares ps)
  unfolding bares
  each-say [] g h f = tt
  each-say (p ∷ ps) g h f =
      let f0 : Values (get_or ks g Absent) (bare p).top (bare p).stream = subst (λ (n : ℕ). Values (get_or ks n Absent) (bare p).top (bare p).stream) (add-zero g) (f 0 (omega arith)) in (
        omega arith,
        f0,
        each-say ps (suc g) (omega arith)
            (λ j l. subst (λ (n : ℕ). Values (get_or ks n Absent) (bare (get_or ps j none)).top (bare (get_or ps j none)).stream) (add-suc g j ∙ sym (suc-add g j)) (f (suc j) (omega arith))),
      )

  module _ (few : length ks ≤ 65536) (known : (i : ℕ) → i < length ks → known_kind (get_or ks i Absent) ≡ true) where
    block-say : (n : ℕ) (ps : List (Option (Part (List Entry)))) → PartsFit n ks ps → PartsSay 0 (bares ps)
    block-say n ps f =
        let c = parts-count n ks ps f in
        each-say ps 0 (omega arith)
        (λ j l.
        let l' : j < length ks = omega arith in
        subst (λ (x : ℕ). Values (get_or ks x Absent) (bare (get_or ps j none)).top (bare (get_or ps j none)).stream) (sym (zero-add j))
        (option-values (get_or ks j Absent) n (get_or ps j none) (known j l') (parts-each n ks ps f j)))

    pub image-fit : (limit : ℕ) (s : Block (List Entry)) → BlockFits limit ks s → Fitting (imageCalls ks (some s))
    image-fit limit s f = first-fit s.times (bares s.parts) f.small (block-say (length s.times) s.parts f.parts)
