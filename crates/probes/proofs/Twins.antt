-- Two models that are alike in all that concerns probe 1: one call of each keeps them so.
-- Assumes nothing.
use Prim.Native.Nat.{ℕ, ◌-◌, max}
use mathlib.Core.Path.{◌≡◌, refl, sym, ap, ap₂, ◌∙◌, subst}
use mathlib.Core.Bool.{Bool, true, false}
use mathlib.Core.List.{List, [], ◌∷◌, ◌++◌}
use native.Mathlib.Omega.{arith}
use lib.ListN.{length, get_or}
use lib.Dec.{eqb}
use Rattle.lists.specs.Choice.{pick}
use Rattle.lists.specs.Last.{last_or}
use Rattle.signal.specs.declared.kind.SignalEncoding.{SignalEncoding}
use Rattle.signal.specs.declared.kind.SignalEncoding.TheVariants.{Absent}
use Rattle.signal.specs.Content.{Given, Decoded, refuse, accept, decode}
use Rattle.stream.specs.Entries.{Entry}
use Rattle.recording.specs.declared.Settings.{Settings}
use Rattle.recording.specs.declared.Skips.{Skips}
use Rattle.recording.specs.Calls.{Call, time, change, finish, Way, above, equal, below, way_of}
use Rattle.recording.specs.State.{skip_begun, skip_ended, skip_same, skip_counted, skip_of, on_skip}
use Rattle.history.specs.History.{Change, list_of, top_of}
use Rattle.model.specs.Model.{Chunk, chunk, Model, model, cut, timed, model_time, model_change, close, no_time, model_step}
use Rattle.model.proofs.LoadLaws.{list-append, top-append}
use Rattle.follow.specs.Marked.{marked}
use Rattle.follow.proofs.ChangeLaws.{list-other, top-other}

-- ---- what is alike, where `probe` says which probe each signal's record names
module _ (probe : ℕ → ℕ) where
  -- the same list and top class for every signal of probe 1
  pub record Ones (a b : List Change) : Type 0 where
    pub list : (g : ℕ) → probe g ≡ 1 → list_of g a ≡ list_of g b
    pub top : (g : ℕ) → probe g ≡ 1 → top_of g a ≡ top_of g b

  abbrev pub Blocks : List Chunk → List Chunk → Type 0
  Blocks [] [] = Unit {0}
  Blocks [] (b ∷ bs) = ⊥
  Blocks (a ∷ xs) [] = ⊥
  Blocks (a ∷ xs) (b ∷ bs) = (a.times ≡ b.times) × Ones a.changes b.changes × Blocks xs bs

  pub ones-self : (a : List Change) → Ones a a
  ones-self a = record { list = λ g e. refl; top = λ g e. refl }

  pub ones-append : (a b c d : List Change) → Ones a b → Ones c d → Ones (a ++ c) (b ++ d)
  ones-append a b c d u v = record {
    list = λ g e. list-append g a c ∙ ap₂ (λ (x y : List Entry). x ++ y) (u.list g e) (v.list g e) ∙ sym (list-append g b d);
    top = λ g e. top-append g a c ∙ ap₂ max (u.top g e) (v.top g e) ∙ sym (top-append g b d);
  }

  blocks_more : (xs bs : List Chunk) (a b : Chunk) → a.times ≡ b.times → Ones a.changes b.changes → Blocks xs bs → Blocks (xs ++ a ∷ []) (bs ++ b ∷ [])
  blocks_more [] [] a b e u v = (e, u, tt)
  blocks_more [] (y ∷ bs) a b e u v = absurd v
  blocks_more (x ∷ xs) [] a b e u v = absurd v
  blocks_more (x ∷ xs) (y ∷ bs) a b e u v = (v.0, v.1, blocks_more xs bs a b e u v.2)

  blocks-self : (xs : List Chunk) → Blocks xs xs
  blocks-self [] = tt
  blocks-self (a ∷ xs) = (refl, ones-self a.changes, blocks-self xs)

  pub record Twin (p q : Model) : Type 0 where
    pub closed : p.closed ≡ q.closed
    pub skips : p.skips ≡ q.skips
    pub times : p.now.times ≡ q.now.times
    pub ones : Ones p.now.changes q.now.changes
    pub blocks : Blocks p.blocks q.blocks

  pub twin-self : (p : Model) → Twin p p
  twin-self p = record { closed = refl; skips = refl; times = refl; ones = ones-self p.now.changes; blocks = blocks-self p.blocks }

  -- ---- a time, whoever sends it

  cut-twin : (p q : Model) → Twin p q → Twin (cut p) (cut q)
  unfolding cut
  cut-twin p q v = record {
    closed = v.closed;
    skips = v.skips;
    times = ap (λ (l : List ℕ). last_or 0 l ∷ []) v.times;
    ones = ones-self [];
    blocks = blocks_more p.blocks q.blocks p.now q.now v.times v.ones v.blocks;
  }

  pick-twin : (b c : Bool) (p q p' q' : Model) → b ≡ c → Twin p q → Twin p' q' → Twin (pick b p p') (pick c q q')
  pick-twin true true p q p' q' e v w = v
  pick-twin true false p q p' q' e v w = let n : ◌≡◌ {A = ℕ} 0 1 = cc in absurd (omega arith)
  pick-twin false true p q p' q' e v w = let n : ◌≡◌ {A = ℕ} 0 1 = cc in absurd (omega arith)
  pick-twin false false p q p' q' e v w = w

  timed-twin : (p q : Model) (s t : ℕ) → Twin p q → Twin (timed p s t) (timed q s t)
  timed-twin p q s t v = record {
    closed = v.closed;
    skips = ap (λ (k : Skips). on_skip skip_ended k s) v.skips;
    times = ap (λ (l : List ℕ). l ++ t ∷ []) v.times;
    ones = v.ones;
    blocks = v.blocks;
  }

  -- ---- a change: of the same value; of probe 0, outside its skip and in it

  given-twin : (p q : Model) (s g : ℕ) (b : Bool) (d : Decoded) → Twin p q → Twin (model_change p s g b d) (model_change q s g b d)
  unfolding model_change
  given-twin p q s g true d v =
      record { closed = v.closed; skips = ap (λ (k : Skips). on_skip skip_counted k s) v.skips; times = v.times; ones = v.ones; blocks = v.blocks }
  given-twin p q s g false (refuse n) v = v
  given-twin p q s g false (accept a c) v = record {
    closed = v.closed;
    skips = v.skips;
    times = v.times;
    ones = ones-append p.now.changes q.now.changes (mark p ∷ []) (mark q ∷ []) v.ones
        (subst (λ (l : List Change). Ones (mark p ∷ []) l) (ap (λ (l : List ℕ). marked g (length l - 1) a c ∷ []) v.times) (ones-self (mark p ∷ [])));
    blocks = v.blocks;
  }
    where
      mark : Model → Change
      mark r = marked g (length r.now.times - 1) a c

  -- the changes of the open block after one of probe 0 that is not skipped
  abbrev more : Model → (signal : ℕ) → Decoded → List Change
  more p g d = (model_change p 0 g false d).now.changes

  quiet-ones : (p : Model) (g : ℕ) (d : Decoded) → probe g ≡ 0 → Ones p.now.changes (more p g d)
  unfolding model_change
  quiet-ones p g (refuse n) z = ones-self p.now.changes
  quiet-ones p g (accept a c) z = record {
    list = λ i e. sym (list-other g i (length p.now.times - 1) c a p.now.changes (other i e));
    top = λ i e. sym (top-other g i (length p.now.times - 1) c a [] p.now.changes (other i e));
  }
    where
      other : (i : ℕ) → probe i ≡ 1 → g ≡ i → ⊥
      other i e f = let n : probe g ≡ probe i = ap probe f in omega (arith, n, e, z)

  ones-both : (a b c d : List Change) → Ones a b → Ones a c → Ones b d → Ones c d
  ones-both a b c d u v w = record {
    list = λ g e. sym (v.list g e) ∙ u.list g e ∙ w.list g e;
    top = λ g e. sym (v.top g e) ∙ u.top g e ∙ w.top g e;
  }

  keeps-rest : (p : Model) (g : ℕ) (d : Decoded) → model_change p 0 g false d ≡ model p.blocks (chunk p.now.times (more p g d)) p.skips p.closed
  unfolding model_change
  keeps-rest p g (refuse n) = refl
  keeps-rest p g (accept a c) = refl

  -- values of a signal of probe 0, whatever they are
  pub quiet-twin : (p q : Model) (g : ℕ) (d e : Decoded) → probe g ≡ 0 → Twin p q → Twin (model_change p 0 g false d) (model_change q 0 g false e)
  quiet-twin p q g d e z v =
      let o = ones-both p.now.changes q.now.changes (more p g d) (more q g e) v.ones (quiet-ones p g d z) (quiet-ones q g e z) in
      rw (keeps-rest p g d, keeps-rest q g e) (record { closed = v.closed; skips = v.skips; times = v.times; ones = o; blocks = v.blocks })

  -- ---- a finish

  finish-twin : (p q : Model) → Twin p q → Twin (close (pick (no_time p.now.times) p (cut p))) (close (pick (no_time q.now.times) q (cut q)))
  finish-twin p q v =
      let t = pick-twin (no_time p.now.times) (no_time q.now.times) p q (cut p) (cut q) (ap no_time v.times) v (cut-twin p q v) in
      record { closed = refl; skips = t.skips; times = t.times; ones = t.ones; blocks = t.blocks }

module _ (settings : Settings) (ks : List SignalEncoding) (probe : ℕ → ℕ) where
  way-twin : (p q : Model) (s t : ℕ) (way : Way) → Twin probe p q → Twin probe (model_time settings p s t way) (model_time settings q s t way)
  unfolding model_time
  way-twin p q s t above v =
      timed-twin probe _ _ s t (pick-twin probe _ _ (cut p) (cut q) p q (ap (λ (l : List ℕ). eqb (length l) settings.limit) v.times) (cut-twin probe p q v) v)
  way-twin p q s t equal v =
      record { closed = v.closed; skips = ap (λ (k : Skips). on_skip (skip_same settings.edition) k s) v.skips; times = v.times; ones = v.ones; blocks = v.blocks }
  way-twin p q s t below v =
      record { closed = v.closed; skips = ap (λ (k : Skips). on_skip skip_begun k s) v.skips; times = v.times; ones = v.ones; blocks = v.blocks }

  -- ---- one call of each

  -- the same call, refused for both or for neither
  pub same-call : (p q : Model) (c : Call) (refused : Bool) → Twin probe p q → Twin probe (model_step ks settings p c refused) (model_step ks settings q c refused)
  unfolding model_step
  same-call p q c true v = v
  same-call p q (time s t) false v =
      subst (λ (l : List ℕ). Twin probe (model_time settings p s t (way_of p.now.times t)) (model_time settings q s t (way_of l t))) v.times
      (way-twin p q s t (way_of p.now.times t) v)
  same-call p q (change s g x) false v =
      let d : Decoded = decode (get_or ks g Absent) x in
      subst (λ (k : Skips). Twin probe (model_change p s g (skip_of p.skips s).on d) (model_change q s g (skip_of k s).on d)) v.skips
      (given-twin probe p q s g (skip_of p.skips s).on d v)
  same-call p q finish false v = finish-twin probe p q v

  -- a change of probe 0 in its skip, which does not look at the value
  pub skipped-call : (p q : Model) (g : ℕ) (x y : Given) (refused : Bool) → (skip_of p.skips 0).on ≡ true → Twin probe p q
      → Twin probe (model_step ks settings p (change 0 g x) refused) (model_step ks settings q (change 0 g y) refused)
  unfolding model_step model_change
  skipped-call p q g x y true e v = v
  skipped-call p q g x y false e v =
      let f : (skip_of q.skips 0).on ≡ true = ap (λ (k : Skips). (skip_of k 0).on) (sym v.skips) ∙ e in
      rw (e, f) (given-twin probe p q 0 g true (decode (get_or ks g Absent) x) v)

  -- a change of probe 0 outside its skip: refused, or of a signal of its own
  abbrev unsaid : Bool → Decoded → Decoded
  unsaid true d = refuse 0
  unsaid false d = d

  outside-skip : (p : Model) (g : ℕ) (x : Given) (refused : Bool) → (skip_of p.skips 0).on ≡ false
      → model_step ks settings p (change 0 g x) refused ≡ model_change p 0 g false (unsaid refused (decode (get_or ks g Absent) x))
  unfolding model_step model_change
  outside-skip p g x true e = refl
  outside-skip p g x false e = ap (λ (b : Bool). model_change p 0 g b (decode (get_or ks g Absent) x)) e

  quiet-both : (p q : Model) (g : ℕ) (x y : Given) (b c : Bool) → (skip_of p.skips 0).on ≡ false → probe g ≡ 0 → Twin probe p q
      → Twin probe (model_step ks settings p (change 0 g x) b) (model_step ks settings q (change 0 g y) c)
  quiet-both p q g x y b c e z v =
      let f : (skip_of q.skips 0).on ≡ false = ap (λ (k : Skips). (skip_of k 0).on) (sym v.skips) ∙ e in
      rw (outside-skip p g x b e, outside-skip q g y c f)
      (quiet-twin probe p q g (unsaid b (decode (get_or ks g Absent) x)) (unsaid c (decode (get_or ks g Absent) y)) z v)

  pub quiet-call : (p q : Model) (g : ℕ) (x y : Given) (b c : Bool) → (skip_of p.skips 0).on ≡ false → (b ≡ false → probe g ≡ 0) → (c ≡ false → probe g ≡ 0) → Twin probe p q
      → Twin probe (model_step ks settings p (change 0 g x) b) (model_step ks settings q (change 0 g y) c)
  unfolding model_step
  quiet-call p q g x y true true e h k v = v
  quiet-call p q g x y false c e h k v = quiet-both p q g x y false c e (h refl) v
  quiet-call p q g x y true false e h k v = quiet-both p q g x y true false e (k refl) v
