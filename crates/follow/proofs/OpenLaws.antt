-- On memory that stands for a model no call is refused by 10: not by the first group, nor by what a value says, nor before the room.
-- Assumes nothing.
use Prim.Native.Nat.{ℕ, zero, suc, ◌+◌, ◌-◌, ◌≤◌, ◌<◌}
use mathlib.Core.Path.{◌≡◌, refl, sym, ap, ◌∙◌}
use mathlib.Core.Bool.{Bool, true, false, ◌&&◌, ◌||◌, not}
use mathlib.Core.List.{List, []}
use mathlib.Core.Option.{Option, some, none}
use native.Mathlib.Omega.{arith}
use native.Mathlib.Decide.{ℕ_discrete}
use borrow.Author.Tests.{eq-eqb, ne_eqb, le-ltb}
use lib.ListN.{length}
use lib.Dec.{ltb, leb, eqb}
use Rattle.lists.specs.Choice.{pick}
use Rattle.vcd.specs.Vcd.{vcd_symbols}
use Rattle.packed.specs.Raw.{raw_symbols}
use Rattle.signal.specs.declared.kind.SignalEncoding.{SignalEncoding}
use Rattle.signal.specs.declared.kind.SignalEncoding.TheVariants.{BitVector, Real, Absent}
use Rattle.signal.specs.Kind.{known_kind}
use Rattle.signal.specs.Content.{Given, vcd, raw, real, refuse, accept, vector_says, decode}
use Rattle.image.specs.Head.{image_limit}
use Rattle.codec.proofs.ImageFits.{blocks-count}
use Rattle.recording.specs.declared.Settings.{Settings}
use Rattle.recording.specs.Memory.{Memory, record_at, guarded}
use Rattle.recording.specs.Refusals.{outside, no_edition, state_tests, open_tests, room_tests}
use Rattle.model.specs.Model.{Model}
use Rattle.follow.proofs.ImageRep.{stored_all, length-image}
use Rattle.follow.proofs.Rep.{Rep}

pub pick-false : {A : Type 0} (b : Bool) (x y : A) → b ≡ false → pick b x y ≡ y
pick-false true x y e = let z : ◌≡◌ {A = ℕ} 0 1 = cc in absurd (omega arith)
pick-false false x y e = refl

pub or-false : (a b : Bool) → a ≡ false → b ≡ false → a || b ≡ false
or-false a b e f = rw (e, f) refl

-- work is used only where a time is held
and_no : (u h : ℕ) → (h ≡ 0 → u ≡ 0) → ltb 0 u && eqb h 0 ≡ false
and_no u h f = go (ℕ_discrete h 0)
  where
    both : (b : Bool) → b && false ≡ false
    both true = refl
    both false = refl

    go : Dec (h ≡ 0) → ltb 0 u && eqb h 0 ≡ false
    go (yes e) = rw (le-ltb 0 u (omega (arith, f e))) refl
    go (no n) = rw (ne_eqb h 0 n) (both (ltb 0 u))

module _ (settings : Settings) (ks : List SignalEncoding) where
  -- of 2, 18 of the sender and the first group of 10 only 2 and 18 can refuse a call
  pub open_is : {A : Type 0} (m : Memory) (p : Model) (b : Bool) (f : ℕ → A) (e : A) → Rep settings ks m p
      → guarded (open_tests m b) f e ≡ pick m.state.closed (f 2) (pick b (f 18) e)
  unfolding state_tests
  open_is {A = A} m p foreign f e r =
      let s = m.state in
      let n = blocks-count ks (stored_all ks p.blocks) in
      let c = length-image (length ks) p.blocks [] in
      let b : s.blocks ≤ s.image = omega (arith, r.image.count, r.image.long, n, c) in
      let k : length m.records ≡ length ks = r.recs.long in
      let z : s.held ≡ 0 → s.work ≡ 0 = λ q. r.start (omega (arith, r.times.long)) in
      ap (λ (x : A). pick s.closed (f 2) (pick foreign (f 18) x))
      (pick-false (outside s.limit) _ _
      (or-false (ltb s.limit 2) (ltb 65535 s.limit) (le-ltb s.limit 2 (omega (arith, r.low, r.bound))) (le-ltb 65535 s.limit (omega (arith, r.high, r.bound))))
      ∙ pick-false (no_edition s.edition) _ _
      (or-false (ltb s.edition 1) (ltb 2 s.edition) (le-ltb s.edition 1 (omega (arith, r.early, r.edition))) (le-ltb 2 s.edition (omega (arith, r.late, r.edition))))
      ∙ pick-false (ltb s.limit s.held) _ _ (le-ltb s.limit s.held (omega (arith, r.times.inside, r.bound)))
      ∙ pick-false (ltb (length m.times) s.limit) _ _ (le-ltb (length m.times) s.limit (omega (arith, r.times.room, r.bound)))
      ∙ pick-false (ltb (length m.work) s.work || ltb (length m.image) s.image) _ _
      (or-false (ltb (length m.work) s.work) (ltb (length m.image) s.image) (le-ltb (length m.work) s.work r.work.room)
      (le-ltb (length m.image) s.image r.image.room))
      ∙ pick-false (ltb image_limit (length m.image)) _ _ (le-ltb image_limit (length m.image) r.small)
      ∙ pick-false (ltb s.image s.blocks) _ _ (le-ltb s.image s.blocks b)
      ∙ pick-false (not (eqb s.signals (length m.records))) _ _ (ap not (eq-eqb s.signals (length m.records) (r.signals ∙ sym k)))
      ∙ pick-false (ltb 0 s.work && eqb s.held 0) _ _ (and_no s.work s.held z))

  -- of the second group of 10 and 7 only 7
  pub room-is : {A : Type 0} (m : Memory) (p : Model) (g n : ℕ) (f : ℕ → A) (e : A) → g < length ks → Rep settings ks m p
      → guarded (room_tests m.state (record_at m g) (length m.work) n) f e ≡ pick (ltb (length m.work) (m.state.work + (8 + n))) (f 7) e
  room-is m p g n f e h r =
      let q = r.recs.is g h in
      let i : (record_at m g).index ≤ m.state.held - 1 = omega (arith, q.index, r.inside g, r.times.long) in
      pick-false (ltb (m.state.held - 1) (record_at m g).index || not (known_kind (record_at m g).kind)) _ _
      (or-false (ltb (m.state.held - 1) (record_at m g).index) (not (known_kind (record_at m g).kind)) (le-ltb (m.state.held - 1) (record_at m g).index i)
      (ap (λ (k : SignalEncoding). not (known_kind k)) q.kind ∙ ap not (r.known g h)))

-- what a value says is never 10
vector-ten : (o : Option (List ℕ)) (c n : ℕ) → vector_says o c ≡ refuse n → n ≡ 10 → ⊥
vector-ten none c n e t = let q : 6 ≡ n = cc in omega arith
vector-ten (some s) c n e t = let z : ◌≡◌ {A = ℕ} 0 1 = cc in omega arith

pub decode-ten : (k : SignalEncoding) (v : Given) (n : ℕ) → decode k v ≡ refuse n → n ≡ 10 → ⊥
unfolding decode
decode-ten (BitVector zero) (vcd v) n e t = go (leb (length v) 1) e
  where
    go : (b : Bool) → pick b (accept Rattle.signal.specs.Content.happened 0) (refuse 6) ≡ refuse n → ⊥
    go true q = let z : ◌≡◌ {A = ℕ} 0 1 = cc in omega arith
    go false q = let z : 6 ≡ n = cc in omega arith
decode-ten (BitVector (suc w)) (vcd v) n e t = vector-ten (vcd_symbols (suc w) v) 0 n e t
decode-ten Real (vcd v) n e t = let q : 5 ≡ n = cc in omega arith
decode-ten Absent (vcd v) n e t = let q : 4 ≡ n = cc in omega arith
decode-ten (BitVector zero) (raw c v) n e t = let q : 5 ≡ n = cc in omega arith
decode-ten (BitVector (suc w)) (raw c v) n e t = vector-ten (raw_symbols (suc w) c v) c n e t
decode-ten Real (raw c v) n e t = let q : 5 ≡ n = cc in omega arith
decode-ten Absent (raw c v) n e t = let q : 4 ≡ n = cc in omega arith
decode-ten (BitVector w) (real b) n e t = let q : 5 ≡ n = cc in omega arith
decode-ten Real (real b) n e t = let z : ◌≡◌ {A = ℕ} 0 1 = cc in omega arith
decode-ten Absent (real b) n e t = let q : 4 ≡ n = cc in omega arith
