-- A join tells one history after the other.
-- Assumes nothing.
use Prim.Native.Nat.{ℕ, ◌-◌}
use mathlib.Core.Path.{◌≡◌, refl, sym, ap, ap₂, ◌∙◌, subst}
use mathlib.Core.Bool.{Bool, true, false}
use mathlib.Core.List.{List, [], ◌∷◌, ◌++◌}
use mathlib.Core.Option.{Option, none}
use native.Mathlib.Omega.{arith}
use lib.ListN.{length, take, drop}
use lib.Dec.{eqb}
use Rattle.lists.specs.Choice.{pick}
use Rattle.lists.specs.Last.{last_or}
use Rattle.signal.specs.declared.kind.SignalEncoding.{SignalEncoding}
use Rattle.image.specs.Image.{Image, image}
use Rattle.history.specs.History.{Change, History}
use Rattle.history.specs.Followed.{times_after, start_after, placed_from, followed}
use Rattle.loaded.specs.Loading.{overlap, join_times, table_from, Load, load}
use Rattle.model.specs.Model.{chunk, shift, shifts, join, told}
use Rattle.model.proofs.LoadLaws.{all_from, view}
use Rattle.model.proofs.AfterLaws.{table-after, table-append, join_load, all_after, all_append, view-after}
use Rattle.joined.proofs.JoinLaws.{alike, Joins, joins, join-valid}
use Rattle.joined.specs.Join.{joined, JoinAfter, join_in, join_by, join_of}
use Rattle.demand.proofs.LoadsLaws.{Told, parsed}

-- ---- one history after the other is what joined blocks give

times-after : (ts us : List ℕ) → times_after ts us ≡ join_times ts us
times-after [] us = refl
times-after (t ∷ ts) [] = refl
times-after (t ∷ ts) (u ∷ us) = by (eqb u (last_or t ts))
  where
    by : (b : Bool) → (t ∷ ts) ++ pick b us (u ∷ us) ≡ (t ∷ ts) ++ drop (pick b 1 0) (u ∷ us)
    by true = refl
    by false = refl

start-after : (ts us : List ℕ) → start_after ts us ≡ length ts - overlap ts us
start-after [] us = refl
start-after (t ∷ ts) [] = omega arith
start-after (t ∷ ts) (u ∷ us) = by (eqb u (last_or t ts))
  where
    by : (b : Bool) → pick b (length (t ∷ ts) - 1) (length (t ∷ ts)) ≡ length (t ∷ ts) - pick b 1 0
    by true = refl
    by false = omega arith

placed-shifts : (n : ℕ) (cs : List Change) → placed_from n cs ≡ shifts n cs
unfolding placed_from shifts
placed-shifts n [] = refl
placed-shifts n (c ∷ cs) = ap (λ (l : List Change). shift n c ∷ l) (placed-shifts n cs)

followed-joined : (h k : History) → told (followed h k) ≡ join (told h) (told k)
unfolding join
followed-joined h k =
    ap₂ chunk (times-after h.times k.times)
    (ap (λ (l : List Change). h.changes ++ l) (ap (λ (n : ℕ). placed_from n k.changes) (start-after h.times k.times) ∙ placed-shifts _ k.changes))

-- ---- what it tells

-- of the same kinds
told-both : (ks : List SignalEncoding) (h k : History) (a b out : List ℕ) (size : ℕ) → Told ks h a → Told ks k b → (join_of a b out).reply ≡ joined size
    → Told ks (followed h k) (take size (join_of a b out).out)
told-both ks h k a b out size s t e =
    let x : Image = image s.limit ks s.blocks in
    let y : Image = image t.limit ks t.blocks in
    let p : join_of a b out ≡ join_in x y out = ap₂ (λ (o q : Option Image). join_by o q out) (parsed ks h a s) (parsed ks k b t) in
    let j : Joins x y out size = joins x y out size (ap (λ (r : JoinAfter). r.reply) (sym p) ∙ e) in
    record {
      limit = s.limit;
      blocks = s.blocks ++ t.blocks;
      valid = join-valid x y s.valid t.valid j.passes.same j.passes.in_order j.passes.few;
      bytes = sym (ap (λ (r : JoinAfter). take size r.out) p ∙ j.image);
      table = table-append [] s.blocks t.blocks ∙ ap (λ (ts : List ℕ). table_from ts t.blocks) s.table
          ∙ table-after h.times t.limit ks none t.blocks t.valid.blocks ∙ ap (join_times h.times) t.table
          ∙ sym (times-after h.times k.times);
      all = λ g i. all_append g (load [] [] 0) s.blocks t.blocks ∙ ap (λ (q : Load). all_from g q t.blocks) (s.all g i)
          ∙ all_after g t.limit ks none t.blocks (view g (told h)) t.valid.blocks ∙ ap (join_load (view g (told h))) (t.all g i)
          ∙ view-after g (told h) (told k) ∙ ap (view g) (sym (followed-joined h k));
    }

-- nothing differs, so the kinds are the same
kinds-of-joined : (ks ls : List SignalEncoding) (h k : History) (a b out : List ℕ) (size : ℕ) → Told ks h a → Told ls k b → (join_of a b out).reply ≡ joined size → ls ≡ ks
kinds-of-joined ks ls h k a b out size s t e =
    let x : Image = image s.limit ks s.blocks in
    let y : Image = image t.limit ls t.blocks in
    let p : join_of a b out ≡ join_in x y out = ap₂ (λ (o q : Option Image). join_by o q out) (parsed ks h a s) (parsed ls k b t) in
    let j : Joins x y out size = joins x y out size (ap (λ (r : JoinAfter). r.reply) (sym p) ∙ e) in
    sym (alike x y s.valid t.valid j.passes.same).kinds

pub told-join : (ks ls : List SignalEncoding) (h k : History) (a b out : List ℕ) (size : ℕ) → Told ks h a → Told ls k b → (join_of a b out).reply ≡ joined size
    → Told ks (followed h k) (take size (join_of a b out).out)
told-join ks ls h k a b out size s t e =
    told-both ks h k a b out size s (subst (λ (m : List SignalEncoding). Told m k b) (kinds-of-joined ks ls h k a b out size s t e) t) e
