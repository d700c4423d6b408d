-- Which time buffer stands for which times of the open block.
-- Assumes nothing.
use Prim.Native.Nat.{ℕ, ◌+◌, ◌-◌, ◌≤◌, ◌<◌}
use mathlib.Core.Path.{◌≡◌, refl, sym, ap, ◌∙◌}
use mathlib.Core.List.{List, [], ◌∷◌, ◌++◌}
use native.Mathlib.Numerals.{add-one}
use native.Mathlib.Omega.{arith}
use lib.ListN.{length, take, get_or, set, length-append, length-set}
use lib.Seq.{take-suc-set, get_or-take}
use Rattle.lists.specs.Last.{last_or}
use Rattle.lists.proofs.LastLaws.{last-at}

-- of the buffer the first `held` are the times ts
pub record TimesRep (limit held : ℕ) (times ts : List ℕ) : Type 0 where
  pub long : held ≡ length ts
  pub inside : held ≤ limit
  pub room : limit ≤ length times
  pub is : take held times ≡ ts

pub times_more : (limit held t : ℕ) (times ts : List ℕ) → held < limit → TimesRep limit held times ts → TimesRep limit (held + 1) (set times held t) (ts ++ t ∷ [])
times_more limit held t times ts h r = record {
  long = simp length-append (omega (arith, r.long));
  inside = omega arith;
  room = rw length-set r.room;
  is = rw (add-one held, take-suc-set times held t (omega (arith, r.room)), r.is) refl;
}

times-last : (held : ℕ) (times ts : List ℕ) → 0 < held → held ≡ length ts → take held times ≡ ts → get_or times (held - 1) 0 ≡ last_or 0 ts
unfolding last_or
times-last held times [] p h e = absurd (omega arith)
times-last held times (x ∷ l) p h e =
    let k : held - 1 ≡ length l = omega arith in
    sym (get_or-take held times (held - 1) 0 (omega arith)) ∙ rw (e, k) (sym (last-at x l))

-- the next table begins with the last time
pub times_cut : (limit held : ℕ) (times ts : List ℕ) → 0 < held → TimesRep limit held times ts
    → TimesRep limit 1 (set times 0 (get_or times (held - 1) 0)) (last_or 0 ts ∷ [])
times_cut limit held times ts h r = record {
  long = refl;
  inside = omega (arith, r.inside);
  room = rw length-set r.room;
  is = take-suc-set times 0 (get_or times (held - 1) 0) (omega (arith, r.room, r.inside)) ∙ ap (λ (x : ℕ). x ∷ []) (times-last held times ts h r.long r.is);
}
