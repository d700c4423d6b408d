-- The calls rebuilt from a block that fits are no more than its bytes: a time takes eight, and a change one at least.
-- Assumes nothing.
use Prim.Native.Nat.{ℕ, suc, ◌+◌, ◌≤◌}
use mathlib.Core.Path.{◌≡◌, refl, ap}
use mathlib.Core.Bool.{Bool, true, false}
use mathlib.Core.List.{List, [], ◌∷◌}
use mathlib.Core.Option.{Option, some, none}
use native.Mathlib.Omega.{arith}
use lib.ListN.{length, length-append}
use lib.Dec.{eqb}
use Rattle.lists.specs.Choice.{pick}
use Rattle.signal.specs.declared.kind.SignalEncoding.{SignalEncoding}
use Rattle.stream.specs.Entries.{Entry}
use Rattle.image.specs.Block.{Part, Block, part_bytes, data_of, block_bytes}
use Rattle.image.specs.Image.{streamed_part, streamed_parts, streamed}
use Rattle.image.proofs.SizeLaws.{block_size_lem}
use Rattle.codec.specs.Valid.{OptionFits, PartsFit, BlockFits}
use Rattle.codec.proofs.StreamLaws.{stream-long}
use Rattle.recording.specs.Calls.{time}
use Rattle.model.proofs.Rebuild.{bare, bares, front, behind, rest_of, calls_of, roundCalls, blockCalls, firstCalls, imageCalls}

-- how many entries parts have
unfoldable entries_in : List (Part (List Entry)) → ℕ
entries_in [] = 0
entries_in (p ∷ ps) = length p.stream + entries_in ps

front-count : (i : ℕ) (es : List Entry) → length (front i es) + length (behind i es) ≡ length es
unfolding front behind
front-count i [] = refl
front-count i (e ∷ es) = go (eqb e.index i) (front-count i es)
  where
    go : (b : Bool) → length (front i es) + length (behind i es) ≡ length es → length (pick b (e ∷ front i es) []) + length (pick b (behind i es) (e ∷ es)) ≡ suc (length es)
    go true q = omega (arith, q)
    go false q = omega arith

module _ (ks : List SignalEncoding) where
  calls_count : (g t : ℕ) (es : List Entry) → length (calls_of ks g t es) ≡ length es
  unfolding calls_of
  calls_count g t [] = refl
  calls_count g t (e ∷ es) = ap suc (calls_count g t es)

  round-count : (i g : ℕ) (ps : List (Part (List Entry))) → length (roundCalls ks i g ps) + entries_in (rest_of i ps) ≡ entries_in ps
  unfolding roundCalls rest_of entries_in
  round-count i g [] = refl
  round-count i g (p ∷ ps) =
      omega (
        arith,
        length-append (calls_of ks g p.top (front i p.stream)) (roundCalls ks i (suc g) ps),
        calls_count g p.top (front i p.stream),
        front-count i p.stream,
        round-count i (suc g) ps,
      )

  block-calls : (ts : List ℕ) (i : ℕ) (ps : List (Part (List Entry))) → length (blockCalls ks i ts ps) ≤ length ts + entries_in ps
  unfolding blockCalls
  block-calls [] i ps = omega (arith, round-count i 0 ps)
  block-calls (t ∷ ts) i ps =
      omega (arith, length-append (roundCalls ks i 0 ps) (time 0 t ∷ blockCalls ks (suc i) ts (rest_of i ps)), round-count i 0 ps, block-calls ts (suc i) (rest_of i ps))

  first_count : (ts : List ℕ) (ps : List (Part (List Entry))) → length (firstCalls ks ts ps) ≤ length ts + entries_in ps
  unfolding firstCalls
  first_count [] ps = omega arith
  first_count (t ∷ ts) ps = omega (arith, block-calls ts 0 ps)

  -- ---- entries against bytes

  part-long : (k : SignalEncoding) (n : ℕ) (p : Option (Part (List Entry))) → OptionFits k n p → length (bare p).stream ≤ length (part_bytes (streamed_part k p))
  part-long k n none f = omega arith
  part-long k n (some p) f = omega (arith, stream-long k n 0 p.top 0 p.stream f.entries)

  parts-long : (n : ℕ) (qs : List SignalEncoding) (ps : List (Option (Part (List Entry)))) → PartsFit n qs ps → entries_in (bares ps) ≤ length (data_of (streamed_parts qs ps))
  unfolding entries_in bares data_of streamed_parts
  parts-long n [] [] f = omega arith
  parts-long n [] (p ∷ ps) f = absurd f
  parts-long n (k ∷ qs) [] f = absurd f
  parts-long n (k ∷ qs) (p ∷ ps) f =
      omega (arith, length-append (part_bytes (streamed_part k p)) (data_of (streamed_parts qs ps)), part-long k n p f.0, parts-long n qs ps f.1)

  pub image-count : (limit : ℕ) (s : Block (List Entry)) → BlockFits limit ks s → length (imageCalls ks (some s)) ≤ length (block_bytes (streamed ks s))
  image-count limit s f =
      omega (arith, first_count s.times (bares s.parts), block_size_lem (streamed ks s), parts-long (length s.times) ks s.parts f.parts)
