-- One history after the other: blocks that follow others load as what they load as alone, after what the others do.
-- Assumes nothing.
use Prim.Native.Nat.{ℕ, ◌+◌, ◌-◌, ◌≤◌, ◌<◌, max}
use mathlib.Core.Path.{◌≡◌, refl, sym, ap, ap₂, ◌∙◌, subst}
use mathlib.Core.Bool.{Bool, true, false}
use mathlib.Core.List.{List, [], ◌∷◌, ◌++◌, append_assoc, append-nil}
use mathlib.Core.Option.{Option, some, none}
use native.Mathlib.Omega.{arith}
use native.Mathlib.Nat.{zero-add}
use borrow.Author.Tests.{eqb-true, eqb-false}
use lib.ListN.{length, get_or, drop}
use lib.Seq.{drop-append-le}
use lib.Dec.{eqb}
use Rattle.lists.specs.Choice.{pick}
use Rattle.lists.specs.Last.{last_or}
use Rattle.signal.specs.declared.kind.SignalEncoding.{SignalEncoding}
use Rattle.stream.specs.Entries.{Entry, entry}
use Rattle.image.specs.Block.{Block}
use Rattle.codec.specs.Valid.{RisingFrom, Rising, BlocksFit}
use Rattle.loaded.specs.Opener.{part_at}
use Rattle.loaded.specs.Loading.{overlap, join_times, table_from, moved, Load, load, entries_in, top_in}
use Rattle.loaded.proofs.TableLaws.{overlap-both, joined_length}
use Rattle.model.specs.Model.{Chunk, shifts, join}
use Rattle.model.proofs.JoinLaws.{overlap-more, join_last}
use Rattle.model.proofs.LoadLaws.{list-append, list-shifts, top-append, top-shifts, all_block, all_from, view}

-- ---- tables

-- the end of the first alone decides
overlap-last : (l m ts : List ℕ) → 0 < length l → 0 < length m → last_or 0 l ≡ last_or 0 m → overlap l ts ≡ overlap m ts
unfolding last_or
overlap-last [] m ts h k e = absurd (omega arith)
overlap-last (x ∷ l) [] ts h k e = absurd (omega arith)
overlap-last (x ∷ l) (y ∷ m) [] h k e = refl
overlap-last (x ∷ l) (y ∷ m) (t ∷ ts) h k e = rw e refl

overlap-join : (l a ts : List ℕ) → 0 < length a → overlap (join_times l a) ts ≡ overlap a ts
overlap-join l a ts h =
    overlap-last (join_times l a) a ts (omega (arith, joined_length l a)) h (join_last 0 l a h)

pub join-join : (l a ts : List ℕ) → 0 < length a → join_times (join_times l a) ts ≡ join_times l (join_times a ts)
join-join l a ts h =
    let d : List ℕ = drop (overlap a ts) ts in
    rw (overlap-join l a ts h, overlap-more l a d h, drop-append-le (overlap l a) a d (overlap-both l a).1, append_assoc) refl

-- where the times of the third begin
place-join : (l a ts : List ℕ) → 0 < length a
    → length (join_times l a) - overlap (join_times l a) ts ≡ (length l - overlap l (join_times a ts)) + (length a - overlap a ts)
place-join l a ts h =
    omega (arith, overlap-join l a ts h, overlap-more l a (drop (overlap a ts) ts) h, joined_length l a, (overlap-both l a).0, (overlap-both a ts).0)

join-none : (l : List ℕ) → join_times l [] ≡ l
join-none [] = refl
join-none (x ∷ l) = append-nil (x ∷ l)

pub table-after : (l : List ℕ) (limit : ℕ) (ks : List SignalEncoding) (end : Option ℕ) (bs : List (Block (List Entry))) → BlocksFit limit ks end bs
    → table_from l bs ≡ join_times l (table_from [] bs)
unfolding table_from
table-after l limit ks end [] f = sym (join-none l)
table-after l limit ks end (b ∷ bs) f =
    table-after (join_times l b.times) limit ks (some (last_or 0 b.times)) bs f.1.1 ∙ join-join l b.times (table_from [] bs) f.1.0.any
    ∙ ap (join_times l) (sym (table-after b.times limit ks (some (last_or 0 b.times)) bs f.1.1))

pub table-append : (l : List ℕ) (bs cs : List (Block (List Entry))) → table_from l (bs ++ cs) ≡ table_from (table_from l bs) cs
unfolding table_from
table-append l [] cs = refl
table-append l (b ∷ bs) cs = table-append (join_times l b.times) bs cs

-- ---- loads

abbrev pub join_load : Load → Load → Load
join_load l m =
    load (join_times l.times m.times) (l.entries ++ moved (length l.times - overlap l.times m.times) m.entries) (max l.class m.class)

moved-append : (n : ℕ) (a b : List Entry) → moved n (a ++ b) ≡ moved n a ++ moved n b
unfolding moved
moved-append n [] b = refl
moved-append n (e ∷ a) b = ap (λ (l : List Entry). entry (n + e.index) e.content ∷ l) (moved-append n a b)

moved_twice : (n m : ℕ) (a : List Entry) → moved n (moved m a) ≡ moved (n + m) a
unfolding moved
moved_twice n m [] = refl
moved_twice n m (e ∷ a) =
    let q : n + (m + e.index) ≡ n + m + e.index = omega arith in
    ap₂ (λ (i : ℕ) (l : List Entry). entry i e.content ∷ l) q (moved_twice n m a)

-- a block after a load that follows l
block-after : (g : ℕ) (l m : Load) (b : Block (List Entry)) → 0 < length m.times → all_block g (join_load l m) b ≡ join_load l (all_block g m b)
block-after g l m b h =
    let es : List Entry = entries_in (part_at b g) in
    let n : ℕ = length l.times - overlap l.times (join_times m.times b.times) in
    let o : overlap l.times (join_times m.times b.times) ≡ overlap l.times m.times = overlap-more l.times m.times (drop (overlap m.times b.times) b.times) h in
    let c : max (max l.class m.class) (top_in (part_at b g)) ≡ max l.class (max m.class (top_in (part_at b g))) = omega arith in
    let q : (l.entries ++ moved (length l.times - overlap l.times m.times) m.entries)
    ++ moved (length (join_times l.times m.times) - overlap (join_times l.times m.times) b.times) es
    ≡ l.entries ++ moved n (m.entries ++ moved (length m.times - overlap m.times b.times) es) =
    rw (
      moved-append n m.entries (moved (length m.times - overlap m.times b.times) es),
      moved_twice n (length m.times - overlap m.times b.times) es,
      place-join l.times m.times b.times h,
      o,
    )
    (append_assoc l.entries (moved (length l.times - overlap l.times m.times) m.entries) _) in
    ap₂ (λ (t : List ℕ) (e : List Entry). load t e (max (max l.class m.class) (top_in (part_at b g)))) (join-join l.times m.times b.times h) q
    ∙ ap (load (join_times l.times (join_times m.times b.times)) (l.entries ++ moved n (m.entries ++ moved (length m.times - overlap m.times b.times) es))) c

abbrev no_load : Load
no_load = load [] [] 0

moved_none : (a : List Entry) → moved 0 a ≡ a
unfolding moved
moved_none [] = refl
moved_none (e ∷ a) = ap₂ (λ (i : ℕ) (l : List Entry). entry i e.content ∷ l) (zero-add e.index) (moved_none a)

first-after : (g : ℕ) (l : Load) (b : Block (List Entry)) → all_block g l b ≡ join_load l (all_block g no_load b)
first-after g l b =
    let es : List Entry = entries_in (part_at b g) in
    let q : moved 0 es ≡ es = moved_none es in
    let c : max 0 (top_in (part_at b g)) ≡ top_in (part_at b g) = omega arith in
    rw (q, c) refl

later-after : (g limit : ℕ) (ks : List SignalEncoding) (end : Option ℕ) (bs : List (Block (List Entry))) (l m : Load) → 0 < length m.times → BlocksFit limit ks end bs
    → all_from g (join_load l m) bs ≡ join_load l (all_from g m bs)
unfolding all_from
later-after g limit ks end [] l m h f = refl
later-after g limit ks end (b ∷ bs) l m h f =
    ap (λ (x : Load). all_from g x bs) (block-after g l m b h)
    ∙ later-after g limit ks (some (last_or 0 b.times)) bs l (all_block g m b) (omega (arith, joined_length m.times b.times, (overlap-both m.times b.times).0, f.1.0.any)) f.1.1

pub all_after : (g limit : ℕ) (ks : List SignalEncoding) (end : Option ℕ) (bs : List (Block (List Entry))) (l : Load) → BlocksFit limit ks end bs
    → all_from g l bs ≡ join_load l (all_from g no_load bs)
unfolding all_from moved
all_after g limit ks end [] l f =
    let c : l.class ≡ max l.class 0 = omega arith in
    ap₂ (λ (t : List ℕ) (e : List Entry). load t e l.class) (sym (join-none l.times)) (sym (append-nil l.entries))
    ∙ ap (load (join_times l.times []) (l.entries ++ [])) c
all_after g limit ks end (b ∷ bs) l f =
    ap (λ (x : Load). all_from g x bs) (first-after g l b)
    ∙ later-after g limit ks _ bs l (all_block g no_load b) (omega (arith, joined_length [] b.times, f.1.0.any)) f.1.1

pub all_append : (g : ℕ) (l : Load) (bs cs : List (Block (List Entry))) → all_from g l (bs ++ cs) ≡ all_from g (all_from g l bs) cs
unfolding all_from
all_append g l [] cs = refl
all_append g l (b ∷ bs) cs = all_append g (all_block g l b) bs cs

-- what one history after the other loads as
pub view-after : (g : ℕ) (a b : Chunk) → join_load (view g a) (view g b) ≡ view g (join a b)
unfolding join
view-after g a b =
    let n : ℕ = length a.times - overlap a.times b.times in
    rw (list-append g a.changes (shifts n b.changes), list-shifts g n b.changes, top-append g a.changes (shifts n b.changes), top-shifts g n b.changes) refl

-- ---- the table of blocks that fit rises

rising-append : (x : ℕ) (l ts : List ℕ) → RisingFrom x l → RisingFrom (last_or x l) ts → RisingFrom x (l ++ ts)
unfolding last_or
rising-append x [] ts r s = s
rising-append x (y ∷ l) ts r s = (r.0, rising-append y l ts r.1 s)

rising-join : (x : ℕ) (l ts : List ℕ) → RisingFrom x l → Rising ts → last_or x l ≤ get_or ts 0 0 → Rising (join_times (x ∷ l) ts)
rising-join x l [] r s h = rw (append-nil l) r
rising-join x l (t ∷ ts) r s h = go (eqb t (last_or x l)) refl
  where
    lower : last_or x l ≤ t → (t ≡ last_or x l → ⊥) → last_or x l < t
    lower a n = omega arith

    go : (b : Bool) → eqb t (last_or x l) ≡ b → Rising ((x ∷ l) ++ drop (pick b 1 0) (t ∷ ts))
    go true e = rising-append x l ts r (subst (λ (n : ℕ). RisingFrom n ts) (eqb-true t (last_or x l) e) s)
    go false e = rising-append x l (t ∷ ts) r (lower h (eqb-false t (last_or x l) e), s)

pub table-rising : (limit : ℕ) (ks : List SignalEncoding) (bs : List (Block (List Entry))) (x : ℕ) (l : List ℕ) → RisingFrom x l → BlocksFit limit ks (some (last_or x l)) bs
    → Rising (table_from (x ∷ l) bs)
unfolding table_from
table-rising limit ks [] x l r f = r
table-rising limit ks (b ∷ bs) x l r f =
    let j : List ℕ = drop (overlap (x ∷ l) b.times) b.times in
    let e : last_or 0 (join_times (x ∷ l) b.times) ≡ last_or 0 b.times = join_last 0 (x ∷ l) b.times f.1.0.any in
    table-rising limit ks bs x (l ++ j) (rising-join x l b.times r f.1.0.rising f.0)
    (subst (λ (n : ℕ). BlocksFit limit ks (some n) bs) (sym (last_of x (l ++ j) ∙ e)) f.1.1)
  where
    last_of : (x : ℕ) (l : List ℕ) → last_or x l ≡ last_or 0 (x ∷ l)
    last_of x l = unfold last_or in refl

pub table-rises : (limit : ℕ) (ks : List SignalEncoding) (bs : List (Block (List Entry))) → BlocksFit limit ks none bs → Rising (table_from [] bs)
unfolding table_from
table-rises limit ks [] f = tt
table-rises limit ks (b ∷ bs) f = go b.times refl
  where
    go : (ts : List ℕ) → b.times ≡ ts → Rising (table_from b.times bs)
    go [] e = absurd (omega (arith, f.1.0.any, ap length e))
    go (x ∷ l) e =
        subst (λ (ts : List ℕ). Rising (table_from ts bs)) (sym e)
        (table-rising limit ks bs x l (subst Rising e f.1.0.rising) (subst (λ (n : ℕ). BlocksFit limit ks (some n) bs) (ap (last_or 0) e ∙ (unfold last_or in refl)) f.1.1))
