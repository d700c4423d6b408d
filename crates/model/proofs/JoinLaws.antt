-- Joining tables and blocks: a time more, and the end of the joined times.
-- Assumes nothing.
use Prim.Native.Nat.{ℕ, ◌+◌, ◌-◌, ◌<◌}
use mathlib.Core.Path.{◌≡◌, refl, sym, ap, ◌∙◌}
use mathlib.Core.Bool.{Bool, true, false}
use mathlib.Core.List.{List, [], ◌∷◌, ◌++◌, append_assoc}
use native.Mathlib.Omega.{arith}
use borrow.Author.Tests.{eq-eqb, eqb-true}
use lib.ListN.{length, drop}
use lib.Seq.{drop-append-le}
use lib.Dec.{eqb}
use Rattle.lists.specs.Choice.{pick}
use Rattle.lists.specs.Last.{last_or}
use Rattle.lists.proofs.LastLaws.{last-append}
use Rattle.history.specs.History.{Change}
use Rattle.loaded.specs.Loading.{overlap, join_times}
use Rattle.loaded.proofs.TableLaws.{overlap-both}
use Rattle.model.specs.Model.{Chunk, shift, shifts, join, joined}

pub shifts-append : (n : ℕ) (a b : List Change) → shifts n (a ++ b) ≡ shifts n a ++ shifts n b
unfolding shifts
shifts-append n [] b = refl
shifts-append n (c ∷ a) b = ap (λ (l : List Change). shift n c ∷ l) (shifts-append n a b)

pub joined-append : (l : Chunk) (a b : List Chunk) → joined l (a ++ b) ≡ joined (joined l a) b
unfolding joined
joined-append l [] b = refl
joined-append l (x ∷ a) b = joined-append (join l x) a b

-- one time more in the second table, which has one already
pub overlap-more : (l ts us : List ℕ) → 0 < length ts → overlap l (ts ++ us) ≡ overlap l ts
overlap-more [] ts us h = refl
overlap-more (x ∷ l) [] us h = absurd (omega arith)
overlap-more (x ∷ l) (t ∷ ts) us h = refl

pub join-time : (l ts : List ℕ) (t : ℕ) → 0 < length ts → join_times l (ts ++ t ∷ []) ≡ join_times l ts ++ t ∷ []
join-time l ts t h =
    rw (overlap-more l ts (t ∷ []) h, drop-append-le (overlap l ts) ts (t ∷ []) (overlap-both l ts).1, append_assoc) refl

-- the end of the joined times is the end of the second table
pub join_last : (d : ℕ) (l ts : List ℕ) → 0 < length ts → last_or d (join_times l ts) ≡ last_or d ts
unfolding last_or
join_last d [] ts h = refl
join_last d (x ∷ l) [] h = absurd (omega arith)
join_last d (x ∷ l) (t ∷ ts) h = go (eqb t (last_or x l)) refl
  where
    go : (b : Bool) → eqb t (last_or x l) ≡ b → last_or d ((x ∷ l) ++ drop (pick b 1 0) (t ∷ ts)) ≡ last_or d (t ∷ ts)
    go true e = last-append x l ts ∙ ap (λ (n : ℕ). last_or n ts) (sym (eqb-true t (last_or x l) e))
    go false e = last-append x l (t ∷ ts)

-- a table that begins with the end overlaps
pub overlap-cut : (l us : List ℕ) → 0 < length l → overlap l (last_or 0 l ∷ us) ≡ 1
unfolding last_or
overlap-cut [] us h = absurd (omega arith)
overlap-cut (x ∷ l) us h = rw (eq-eqb (last_or x l) (last_or x l) refl) refl
