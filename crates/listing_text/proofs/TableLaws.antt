-- The combined table as it was written.
-- Assumes nothing.
use Prim.Native.Nat.{ℕ, ◌≤◌}
use mathlib.Core.Path.{◌≡◌, refl, sym, ap, ◌∙◌}
use mathlib.Core.List.{List, []}
use native.Mathlib.Omega.{arith}
use borrow.Author.Tests.{le-ltb}
use lib.ListN.{length, take}
use lib.Seq.{sets, length-sets}
use Rattle.lists.specs.Bytes.{Bytes}
use Rattle.lists.proofs.SetsLaws.{taken_back}
use Rattle.image.specs.Image.{Image}
use Rattle.loaded.specs.Loading.{table_from}
use Rattle.loaded.specs.Reader.{TableReply, TableAfter, counted, table_after, table_in}
use Rattle.walk.specs.Walk.{image_in}
use Rattle.listing_text.specs.Written.{Taken}
use Rattle.listing_text.proofs.BoundLaws.{table-few}
use Rattle.listing_text.proofs.SignalLaws.{small-in}

-- of n times, as the code has them

pub record TableRead (b : List ℕ) (n : ℕ) (times : List ℕ) : Type 0 where
  pub is : table_from [] (image_in b).blocks ≡ take n times
  pub inside : n ≤ length times
  pub size : n ≡ length (take n times)

table_fits : (x : Image) (out : List ℕ) → length (table_from [] x.blocks) ≤ length out
    → table_in x out ≡ table_after (counted (length (table_from [] x.blocks))) (sets out 0 (table_from [] x.blocks))
unfolding table_in
table_fits x out h = rw (le-ltb (length out) (length (table_from [] x.blocks)) h) refl

pub table-read : (b : List ℕ) (n : ℕ) (r : TableReply) (times out : List ℕ) → Bytes b → Taken b → 2048 ≤ length out → n ≡ length (table_from [] (image_in b).blocks)
    → table_after r times ≡ table_in (image_in b) out → TableRead b n times
table-read b n r times out y o h ne e =
    let x = image_in b in
    let ts = table_from [] x.blocks in
    let few : length ts ≤ length out = omega (arith, table-few x (small-in b y o)) in
    let te : times ≡ sets out 0 ts = ap (λ (a : TableAfter). a.times) (e ∙ table_fits x out few) in
    let is : take n times ≡ ts = ap (take n) te ∙ taken_back ts out n ne (omega arith) in
    record { is = sym is; inside = omega (arith, ap length te ∙ length-sets out 0 ts); size = ne ∙ sym (ap length is) }
