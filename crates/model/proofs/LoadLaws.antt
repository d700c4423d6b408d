-- The image of finished blocks loads as the joined blocks: the combined table, each signal's kept changes, its class. Repeats judged against
-- the last of one output are those judged against the change before.
-- Assumes nothing.
use Prim.Native.Nat.{ℕ, zero, suc, ◌+◌, ◌-◌, ◌<◌, max}
use mathlib.Core.Path.{◌≡◌, refl, sym, ap, ap₂, ◌∙◌}
use mathlib.Core.Bool.{Bool, true, false}
use mathlib.Core.List.{List, [], ◌∷◌, ◌++◌, append_assoc, append-nil}
use mathlib.Core.Option.{Option, none}
use native.Mathlib.Omega.{arith}
use native.Mathlib.Nat.{add-zero, zero-add, add-suc, suc-add}
use lib.ListN.{length, get_or}
use lib.Dec.{eqb}
use Rattle.lists.specs.Choice.{pick}
use Rattle.signal.specs.Content.{Content}
use Rattle.stream.specs.Entries.{Entry, entry, repeats, or_nine}
use Rattle.image.specs.Block.{Part, Block}
use Rattle.history.specs.History.{Change, list_of, top_of, kept, kept_after}
use Rattle.loaded.specs.Opener.{part_at}
use Rattle.loaded.specs.Loading.{overlap, join_times, table_from, moved, repeats_last, pushed, Load, load, entries_in, top_in, load_block, load_from}
use Rattle.stream.proofs.RepeatLaws.{repeats-equal}
use Rattle.model.specs.Model.{Chunk, no_chunk, shifts, join, joined, tab, part_with, stored_of, image_of}

-- ---- a signal's list, and its class

pub pick-append : {A : Type 0} (t : Bool) (c : A) (x y : List A) → pick t (c ∷ x ++ y) (x ++ y) ≡ pick t (c ∷ x) x ++ y
pick-append true c x y = refl
pick-append false c x y = refl

pub list-append : (g : ℕ) (a b : List Change) → list_of g (a ++ b) ≡ list_of g a ++ list_of g b
unfolding list_of
list-append g [] b = refl
list-append g (c ∷ a) b = rw (list-append g a b) (pick-append (eqb c.signal g) (entry c.place c.content) (list_of g a) (list_of g b))

pick-moved : (t : Bool) (n : ℕ) (e : Entry) (x : List Entry) → pick t (entry (n + e.index) e.content ∷ moved n x) (moved n x) ≡ moved n (pick t (e ∷ x) x)
unfolding moved
pick-moved true n e x = refl
pick-moved false n e x = refl

pub list-shifts : (g n : ℕ) (a : List Change) → list_of g (shifts n a) ≡ moved n (list_of g a)
unfolding list_of shifts
list-shifts g n [] = unfold moved in refl
list-shifts g n (c ∷ a) = rw (list-shifts g n a) (pick-moved (eqb c.signal g) n (entry c.place c.content) (list_of g a))

pub top-append : (g : ℕ) (a b : List Change) → top_of g (a ++ b) ≡ max (top_of g a) (top_of g b)
unfolding top_of
top-append g [] b = omega arith
top-append g (c ∷ a) b = rw (top-append g a b) (omega arith)

pub top-shifts : (g n : ℕ) (a : List Change) → top_of g (shifts n a) ≡ top_of g a
unfolding top_of shifts
top-shifts g n [] = refl
top-shifts g n (c ∷ a) = rw (top-shifts g n a) refl

pub top-none : (g : ℕ) (a : List Change) → list_of g a ≡ [] → top_of g a ≡ 0
unfolding top_of list_of
top-none g [] e = refl
top-none g (c ∷ a) e = go (eqb c.signal g) (top-none g a) e
  where
    go : (t : Bool) → (list_of g a ≡ [] → top_of g a ≡ 0) → pick t (entry c.place c.content ∷ list_of g a) (list_of g a) ≡ [] → max (pick t c.class 0) (top_of g a) ≡ 0
    go true f e = let z : ◌≡◌ {A = ℕ} 0 1 = cc in absurd (omega arith)
    go false f e = rw (f e) (omega arith)

-- ---- a block's part, whether the signal has changes in it or not

pub tab-at : {A : Type 0} (i n k : ℕ) (f : ℕ → A) (d : A) → k < n → get_or (tab i n f) k d ≡ f (i + k)
unfolding tab
tab-at i zero k f d h = absurd (omega arith)
tab-at i (suc n) zero f d h = simp add-zero
tab-at i (suc n) (suc k) f d h = tab-at (suc i) n k f d (omega arith) ∙ simp (suc-add, add-suc)

pub part-entries : (t : ℕ) (es : List Entry) → entries_in (part_with t es) ≡ es
part-entries t [] = refl
part-entries t (e ∷ es) = refl

pub part-top : (g : ℕ) (seen cs : List Change) → max (top_of g seen) (top_in (part_with (top_of g (seen ++ cs)) (list_of g cs))) ≡ max (top_of g seen) (top_of g cs)
part-top g seen cs = go (list_of g cs) refl
  where
    go : (l : List Entry) → list_of g cs ≡ l → max (top_of g seen) (top_in (part_with (top_of g (seen ++ cs)) l)) ≡ max (top_of g seen) (top_of g cs)
    go [] e = omega (arith, top-none g cs e)
    go (x ∷ l) e = omega (arith, top-append g seen cs)

pub stored-part : (n g : ℕ) (seen : List Change) (b : Chunk) → g < n → part_at (stored_of n seen b) g ≡ part_with (top_of g seen) (list_of g b.changes)
stored-part n g seen b h =
    tab-at 0 n g (λ (g : ℕ). part_with (top_of g seen) (list_of g b.changes)) none h
    ∙ ap (λ (i : ℕ). part_with (top_of i seen) (list_of i b.changes)) (zero-add g)

-- ---- loading with repeats not dropped

abbrev pub all_block : (g : ℕ) → Load → Block (List Entry) → Load
all_block g l b =
    load (join_times l.times b.times)
    (l.entries ++ moved (length l.times - overlap l.times b.times) (entries_in (part_at b g)))
    (max l.class (top_in (part_at b g)))

unfoldable pub all_from : (g : ℕ) → Load → List (Block (List Entry)) → Load
all_from g l [] = l
all_from g l (b ∷ bs) = all_from g (all_block g l b) bs

-- the loaded signal of joined blocks
abbrev pub view : (g : ℕ) → Chunk → Load
view g b = load b.times (list_of g b.changes) (top_of g b.changes)

all-block : (n g : ℕ) (l b : Chunk) (seen : List Change) → g < n → top_of g l.changes ≡ top_of g seen
    → all_block g (view g l) (stored_of n (seen ++ b.changes) b) ≡ view g (join l b)
unfolding join
all-block n g l b seen h e =
    let m : ℕ = length l.times - overlap l.times b.times in
    let p : Option (Part (List Entry)) = part_with (top_of g (seen ++ b.changes)) (list_of g b.changes) in
    let t : max (top_of g l.changes) (top_in p) ≡ max (top_of g l.changes) (top_of g b.changes) = rw e (part-top g seen b.changes) in
    rw (
      stored-part n g (seen ++ b.changes) b h,
      part-entries (top_of g (seen ++ b.changes)) (list_of g b.changes),
      list-append g l.changes (shifts m b.changes),
      list-shifts g m b.changes,
      top-append g l.changes (shifts m b.changes),
      top-shifts g m b.changes,
      t,
    ) refl

top-join : (g : ℕ) (l b : Chunk) (seen : List Change) → top_of g l.changes ≡ top_of g seen → top_of g (join l b).changes ≡ top_of g (seen ++ b.changes)
unfolding join
top-join g l b seen e =
    let m : ℕ = length l.times - overlap l.times b.times in
    top-append g l.changes (shifts m b.changes) ∙ ap₂ max e (top-shifts g m b.changes) ∙ sym (top-append g seen b.changes)

pub all-from : (n g : ℕ) (bs : List Chunk) (l : Chunk) (seen : List Change) → g < n → top_of g l.changes ≡ top_of g seen
    → all_from g (view g l) (image_of n seen bs) ≡ view g (joined l bs)
unfolding all_from image_of joined
all-from n g [] l seen h e = refl
all-from n g (b ∷ bs) l seen h e =
    ap (λ (x : Load). all_from g x (image_of n (seen ++ b.changes) bs)) (all-block n g l b seen h e)
    ∙ all-from n g bs (join l b) (seen ++ b.changes) h (top-join g l b seen e)

-- ---- repeats

repeats-snoc : (out : List Entry) (e : Entry) (c : Content) → repeats_last (out ++ e ∷ []) c ≡ repeats e.content c
unfolding repeats_last
repeats-snoc [] e c = refl
repeats-snoc (o ∷ []) e c = refl
repeats-snoc (o ∷ q ∷ os) e c = repeats-snoc (q ∷ os) e c

pushed-after : (es out : List Entry) (p : Content) → ((c : Content) → repeats_last out c ≡ repeats p c) → pushed out es ≡ out ++ kept_after p es
unfolding pushed kept_after
pushed-after [] out p f = sym (append-nil out)
pushed-after (e ∷ es) out p f = rw (f e.content) (go (repeats p e.content) refl (pushed-after es))
  where
    go : (b : Bool) → repeats p e.content ≡ b
        → ((out : List Entry) (p : Content) → ((c : Content) → repeats_last out c ≡ repeats p c) → pushed out es ≡ out ++ kept_after p es)
        → pushed (pick b out (out ++ e ∷ [])) es ≡ out ++ pick b (kept_after e.content es) (e ∷ kept_after e.content es)
    go true h ih = ih out e.content (λ c. f c ∙ ap (λ (x : Content). repeats x c) (repeats-equal p e.content h).0)
    go false h ih = ih (out ++ e ∷ []) e.content (repeats-snoc out e) ∙ append_assoc out (e ∷ []) (kept_after e.content es)

pub pushed-kept : (es : List Entry) → pushed [] es ≡ kept es
unfolding pushed kept repeats_last
pushed-kept [] = refl
pushed-kept (e ∷ es) = pushed-after es (e ∷ []) e.content (λ c. refl)

pushed-append : (a b out : List Entry) → pushed out (a ++ b) ≡ pushed (pushed out a) b
unfolding pushed
pushed-append [] b out = refl
pushed-append (e ∷ a) b out = pushed-append a b (pick (repeats_last out e.content) out (out ++ e ∷ []))

-- dropping repeats block by block into one output is dropping them in the whole
abbrev pub dropped : Load → Load
dropped l = load l.times (pushed [] l.entries) l.class

drop_block : (g : ℕ) (l : Load) (b : Block (List Entry)) → load_block g (dropped l) b ≡ dropped (all_block g l b)
drop_block g l b =
    let m : ℕ = length l.times - overlap l.times b.times in
    ap (λ (es : List Entry). load (join_times l.times b.times) es (max l.class (top_in (part_at b g))))
    (sym (pushed-append l.entries (moved m (entries_in (part_at b g))) []))

pub drop-from : (g : ℕ) (bs : List (Block (List Entry))) (l : Load) → load_from g (dropped l) bs ≡ dropped (all_from g l bs)
unfolding load_from all_from
drop-from g [] l = refl
drop-from g (b ∷ bs) l = ap (λ (x : Load). load_from g x bs) (drop_block g l b) ∙ drop-from g bs (all_block g l b)

-- ---- the image of blocks

table-from : (n : ℕ) (bs : List Chunk) (l : Chunk) (seen : List Change) → table_from l.times (image_of n seen bs) ≡ (joined l bs).times
unfolding table_from image_of joined join
table-from n [] l seen = refl
table-from n (b ∷ bs) l seen = table-from n bs (join l b) (seen ++ b.changes)

pub table-image : (n : ℕ) (bs : List Chunk) → table_from [] (image_of n [] bs) ≡ (joined no_chunk bs).times
table-image n bs = table-from n bs no_chunk []

-- the class is that of the whole list, kept or not
pub class-kept : (es : List Entry) (c : ℕ) → or_nine (kept es) c ≡ or_nine es c
unfolding kept
class-kept [] c = refl
class-kept (e ∷ es) c = refl
