-- A list of calls for every block that fits, time by time and signal by signal, and that the model takes it whole and has the block.
-- Assumes nothing.
use Prim.Native.Nat.{ℕ, zero, suc, ◌+◌, ◌-◌, ◌≤◌, ◌<◌, max}
use mathlib.Core.Path.{◌≡◌, refl, sym, ap, ap₂, ◌∙◌, subst}
use mathlib.Core.Bool.{Bool, true, false}
use mathlib.Core.List.{List, [], ◌∷◌, ◌++◌, append_assoc, append-nil}
use mathlib.Core.Option.{Option, some, none}
use native.Mathlib.Nat.{add-zero, zero-add, add-suc, suc-add}
use native.Mathlib.Omega.{arith}
use borrow.Author.Tests.{eq-eqb, ne_eqb, eqb-true, eqb-false, lt-ltb}
use lib.ListN.{length, get_or, drop, length-append, length-drop}
use lib.Dec.{eqb}
use Rattle.lists.specs.Choice.{pick}
use Rattle.lists.specs.Last.{last_or}
use Rattle.lists.proofs.LastLaws.{last-append}
use Rattle.signal.specs.declared.kind.SignalEncoding.{SignalEncoding}
use Rattle.signal.specs.declared.kind.SignalEncoding.TheVariants.{Absent}
use Rattle.signal.specs.Kind.{top_limit}
use Rattle.signal.specs.Content.{Content, accept, decode}
use Rattle.signal.proofs.SayLaws.{say_of, say-decodes}
use Rattle.stream.specs.Entries.{Entry, entry}
use Rattle.image.specs.Block.{Part, Block, part, block}
use Rattle.codec.specs.Valid.{RisingFrom, Rising, EntriesFit, OptionFits, BlockFits}
use Rattle.codec.proofs.Growth.{parts-each, parts-count}
use Rattle.recording.specs.Calls.{Call, time, change, finish, above, way_of}
use Rattle.recording.specs.declared.Settings.{Settings}
use Rattle.recording.specs.State.{no_skips, skip_ended, skip_of, with_skip}
use Rattle.history.specs.History.{Change, list_of, top_of}
use Rattle.model.specs.Model.{Chunk, chunk, Model, model, no_model, model_time, model_change, model_step, tab, part_with, stored_of, image_of}
use Rattle.model.proofs.LoadLaws.{pick-append}

-- ---- the calls

abbrev pub no_part : Part (List Entry)
no_part = part 0 []

abbrev pub bare : Option (Part (List Entry)) → Part (List Entry)
bare none = no_part
bare (some p) = p

unfoldable pub bares : List (Option (Part (List Entry))) → List (Part (List Entry))
bares [] = []
bares (p ∷ ps) = bare p ∷ bares ps

-- the entries at index i in front, and those behind
unfoldable pub front : (i : ℕ) → List Entry → List Entry
front i [] = []
front i (e ∷ es) = pick (eqb e.index i) (e ∷ front i es) []

unfoldable pub behind : (i : ℕ) → List Entry → List Entry
behind i [] = []
behind i (e ∷ es) = pick (eqb e.index i) (behind i es) (e ∷ es)

unfoldable pub rest_of : (i : ℕ) → List (Part (List Entry)) → List (Part (List Entry))
rest_of i [] = []
rest_of i (p ∷ ps) = part p.top (behind i p.stream) ∷ rest_of i ps

module _ (ks : List SignalEncoding) where
  unfoldable pub calls_of : (g t : ℕ) → List Entry → List Call
  calls_of g t [] = []
  calls_of g t (e ∷ es) = change 0 g (say_of (get_or ks g Absent) t e.content) ∷ calls_of g t es

  unfoldable pub roundCalls : (i g : ℕ) → List (Part (List Entry)) → List Call
  roundCalls i g [] = []
  roundCalls i g (p ∷ ps) = calls_of g p.top (front i p.stream) ++ roundCalls i (suc g) ps

  unfoldable pub blockCalls : (i : ℕ) → List ℕ → List (Part (List Entry)) → List Call
  blockCalls i [] ps = roundCalls i 0 ps
  blockCalls i (t ∷ ts) ps = roundCalls i 0 ps ++ time 0 t ∷ blockCalls (suc i) ts (rest_of i ps)

  unfoldable pub firstCalls : List ℕ → List (Part (List Entry)) → List Call
  firstCalls [] ps = []
  firstCalls (t ∷ ts) ps = time 0 t ∷ blockCalls 0 ts ps

  -- of a block, none where there is none
  abbrev pub imageCalls : Option (Block (List Entry)) → List Call
  imageCalls none = []
  imageCalls (some s) = firstCalls s.times (bares s.parts)

-- ---- entries at an index, and the rest

pub front-behind : (i : ℕ) (es : List Entry) → front i es ++ behind i es ≡ es
unfolding front behind
front-behind i [] = refl
front-behind i (e ∷ es) = go (eqb e.index i) (front-behind i es)
  where
    go : (b : Bool) → front i es ++ behind i es ≡ es → pick b (e ∷ front i es) [] ++ pick b (behind i es) (e ∷ es) ≡ e ∷ es
    go true q = ap (λ (l : List Entry). e ∷ l) q
    go false q = refl

-- what holds of each entry
abbrev pub All : (Entry → Type 0) → List Entry → Type 0
All P [] = Unit {0}
All P (e ∷ es) = P e × All P es

module _ (P : Entry → Type 0) where
  pub all-front : (i : ℕ) (es : List Entry) → All P es → All P (front i es)
  unfolding front
  all-front i [] h = tt
  all-front i (e ∷ es) h = go (eqb e.index i) (all-front i es h.1)
    where
      go : (b : Bool) → All P (front i es) → All P (pick b (e ∷ front i es) [])
      go true q = (h.0, q)
      go false q = tt

  pub all-behind : (i : ℕ) (es : List Entry) → All P es → All P (behind i es)
  unfolding behind
  all-behind i [] h = tt
  all-behind i (e ∷ es) h = go (eqb e.index i) (all-behind i es h.1)
    where
      go : (b : Bool) → All P (behind i es) → All P (pick b (behind i es) (e ∷ es))
      go true q = q
      go false q = h

module _ (k : SignalEncoding) (n top : ℕ) where
  behind-fits : (i : ℕ) (es : List Entry) → EntriesFit k n i top es → EntriesFit k n (suc i) top (behind i es)
  unfolding behind
  behind-fits i [] o = tt
  behind-fits i (e ∷ es) o = go (eqb e.index i) refl (behind-fits i es)
    where
      go : (b : Bool) → eqb e.index i ≡ b → (EntriesFit k n i top es → EntriesFit k n (suc i) top (behind i es)) → EntriesFit k n (suc i) top (pick b (behind i es) (e ∷ es))
      go true q f = f (subst (λ (x : ℕ). EntriesFit k n x top es) (eqb-true e.index i q) o.1)
      go false q f =
          let z = eqb-false e.index i q in
          (record { later = later o.0.later z; inside = o.0.inside; content = o.0.content; class = o.0.class }, o.1)
        where
          later : i ≤ e.index → (e.index ≡ i → ⊥) → suc i ≤ e.index
          later a b = omega arith

  -- in the last round nothing is left behind
  front-last : (i : ℕ) (es : List Entry) → n ≡ suc i → EntriesFit k n i top es → front i es ≡ es
  unfolding front
  front-last i [] m o = refl
  front-last i (e ∷ es) m o =
      let z : e.index ≡ i = omega (arith, o.0.later, o.0.inside) in
      rw (eq-eqb e.index i z, front-last i es m (subst (λ (x : ℕ). EntriesFit k n x top es) z o.1)) refl

-- ---- changes that stand for entries

unfoldable pub as_changes : (g t : ℕ) → List Entry → List Change
as_changes g t [] = []
as_changes g t (e ∷ es) = record { signal = g; place = e.index; content = e.content; class = t } ∷ as_changes g t es

as-append : (g t : ℕ) (a b : List Entry) → as_changes g t (a ++ b) ≡ as_changes g t a ++ as_changes g t b
unfolding as_changes
as-append g t [] b = refl
as-append g t (e ∷ a) b = rw (as-append g t a b) refl

as-list : (g t : ℕ) (es : List Entry) → list_of g (as_changes g t es) ≡ es
unfolding list_of as_changes
as-list g t [] = refl
as-list g t (e ∷ es) = rw (eq-eqb g g refl, as-list g t es) refl

as-top : (g t : ℕ) (e : Entry) (es : List Entry) → top_of g (as_changes g t (e ∷ es)) ≡ t
unfolding top_of as_changes
as-top g t e [] = rw (eq-eqb g g refl) (omega arith)
as-top g t e (x ∷ es) = rw (eq-eqb g g refl) (omega (arith, as-top g t x es))

-- the changes of a signal
unfoldable pub ofs : (g : ℕ) → List Change → List Change
ofs g [] = []
ofs g (c ∷ cs) = pick (eqb c.signal g) (c ∷ ofs g cs) (ofs g cs)

ofs-append : (g : ℕ) (a b : List Change) → ofs g (a ++ b) ≡ ofs g a ++ ofs g b
unfolding ofs
ofs-append g [] b = refl
ofs-append g (c ∷ a) b = rw (ofs-append g a b) (pick-append (eqb c.signal g) c (ofs g a) (ofs g b))

ofs-list : (g : ℕ) (cs : List Change) → list_of g cs ≡ list_of g (ofs g cs)
unfolding list_of ofs
ofs-list g [] = refl
ofs-list g (c ∷ cs) = go (eqb c.signal g) refl (ofs-list g cs)
  where
    go : (b : Bool) → eqb c.signal g ≡ b → list_of g cs ≡ list_of g (ofs g cs)
        → pick b (entry c.place c.content ∷ list_of g cs) (list_of g cs) ≡ list_of g (pick b (c ∷ ofs g cs) (ofs g cs))
    go true e h = unfold list_of in rw (e, h) refl
    go false e h = h

ofs-top : (g : ℕ) (cs : List Change) → top_of g cs ≡ top_of g (ofs g cs)
unfolding top_of ofs
ofs-top g [] = refl
ofs-top g (c ∷ cs) = go (eqb c.signal g) refl (ofs-top g cs)
  where
    go : (b : Bool) → eqb c.signal g ≡ b → top_of g cs ≡ top_of g (ofs g cs)
        → max (pick b c.class 0) (top_of g cs) ≡ top_of g (pick b (c ∷ ofs g cs) (ofs g cs))
    go true e h = unfold top_of in rw (e, h) refl
    go false e h = omega (arith, h)

ofs-as : (g t : ℕ) (es : List Entry) → ofs g (as_changes g t es) ≡ as_changes g t es
unfolding ofs as_changes
ofs-as g t [] = refl
ofs-as g t (e ∷ es) = rw (eq-eqb g g refl, ofs-as g t es) refl

ofs-other : (g i t : ℕ) (es : List Entry) → (g ≡ i → ⊥) → ofs i (as_changes g t es) ≡ []
unfolding ofs as_changes
ofs-other g i t [] h = refl
ofs-other g i t (e ∷ es) h = rw (ne_eqb g i h, ofs-other g i t es h) refl

-- ---- what a round and a block of calls record

unfoldable pub round_marks : (i g : ℕ) → List (Part (List Entry)) → List Change
round_marks i g [] = []
round_marks i g (p ∷ ps) = as_changes g p.top (front i p.stream) ++ round_marks i (suc g) ps

unfoldable pub block_marks : (i : ℕ) → List ℕ → List (Part (List Entry)) → List Change
block_marks i [] ps = round_marks i 0 ps
block_marks i (t ∷ ts) ps = round_marks i 0 ps ++ block_marks (suc i) ts (rest_of i ps)

round-below : (i k g : ℕ) (ps : List (Part (List Entry))) → g < k → ofs g (round_marks i k ps) ≡ []
unfolding round_marks ofs
round-below i k g [] h = refl
round-below i k g (p ∷ ps) h =
    let n : k ≡ g → ⊥ = λ e. omega arith in
    ofs-append g (as_changes k p.top (front i p.stream)) (round_marks i (suc k) ps)
    ∙ rw (ofs-other k g p.top (front i p.stream) n, round-below i (suc k) g ps (omega arith)) refl

round-of : (i k j : ℕ) (ps : List (Part (List Entry)))
    → ofs (k + j) (round_marks i k ps) ≡ as_changes (k + j) (get_or ps j no_part).top (front i (get_or ps j no_part).stream)
unfolding round_marks ofs as_changes front
round-of i k j [] = refl
round-of i k zero (p ∷ ps) =
    ofs-append (k + 0) (as_changes k p.top (front i p.stream)) (round_marks i (suc k) ps)
    ∙ rw (add-zero k, ofs-as k p.top (front i p.stream), round-below i (suc k) k ps (omega arith)) (append-nil (as_changes k p.top (front i p.stream)))
round-of i k (suc j) (p ∷ ps) =
    let n : k ≡ k + suc j → ⊥ = λ e. omega arith in
    let q : k + suc j ≡ suc k + j = omega arith in
    ofs-append (k + suc j) (as_changes k p.top (front i p.stream)) (round_marks i (suc k) ps)
    ∙ rw (ofs-other k (k + suc j) p.top (front i p.stream) n)
    (subst (λ (x : ℕ). ofs x (round_marks i (suc k) ps) ≡ as_changes x (get_or ps j no_part).top (front i (get_or ps j no_part).stream)) (sym q) (round-of i (suc k) j ps))

rest_at : (i j : ℕ) (ps : List (Part (List Entry))) → get_or (rest_of i ps) j no_part ≡ part (get_or ps j no_part).top (behind i (get_or ps j no_part).stream)
unfolding rest_of behind
rest_at i j [] = refl
rest_at i zero (p ∷ ps) = refl
rest_at i (suc j) (p ∷ ps) = rest_at i j ps

-- one signal's changes of a block of calls are its entries
block_of : (k : SignalEncoding) (n : ℕ) (ts : List ℕ) (i g : ℕ) (ps : List (Part (List Entry))) → n ≡ suc i + length ts
    → EntriesFit k n i (get_or ps g no_part).top (get_or ps g no_part).stream → ofs g (block_marks i ts ps) ≡ as_changes g (get_or ps g no_part).top (get_or ps g no_part).stream
unfolding block_marks
block_of k n [] i g ps e o =
    let r : ofs g (round_marks i 0 ps) ≡ as_changes g (get_or ps g no_part).top (front i (get_or ps g no_part).stream) = rw zero-add at (round-of i 0 g ps) in
    let l = front-last k n (get_or ps g no_part).top i (get_or ps g no_part).stream (e ∙ add-zero (suc i)) o in
    r ∙ ap (as_changes g (get_or ps g no_part).top) l
block_of k n (t ∷ ts) i g ps e o =
    let es : List Entry = (get_or ps g no_part).stream in
    let m : ℕ = (get_or ps g no_part).top in
    let r : ofs g (round_marks i 0 ps) ≡ as_changes g m (front i es) = rw zero-add at (round-of i 0 g ps) in
    let q : n ≡ suc (suc i) + length ts = omega arith in
    let o' : EntriesFit k n (suc i) m (behind i es) = behind-fits k n m i es o in
    let ih = block_of k n ts (suc i) g (rest_of i ps) q (rw (rest_at i g ps) o') in
    let ih' : ofs g (block_marks (suc i) ts (rest_of i ps)) ≡ as_changes g m (behind i es) = rw (rest_at i g ps) at ih in
    ofs-append g (round_marks i 0 ps) (block_marks (suc i) ts (rest_of i ps)) ∙ rw (r, ih', ← (as-append g m (front i es) (behind i es)), front-behind i es) refl

-- ---- the block that such changes make is the valid one

part-back : (k : SignalEncoding) (n : ℕ) (cs : List Change) (g : ℕ) (p : Option (Part (List Entry))) → OptionFits k n p
    → ofs g cs ≡ as_changes g (bare p).top (bare p).stream → part_with (top_of g cs) (list_of g cs) ≡ p
part-back k n cs g none f o =
    let l : list_of g cs ≡ [] = ofs-list g cs ∙ ap (list_of g) o ∙ as-list g 0 [] in
    rw l refl
part-back k n cs g (some p) f o = go p.stream refl f.any
  where
    go : (es : List Entry) → p.stream ≡ es → 0 < length es → part_with (top_of g cs) (list_of g cs) ≡ some p
    go [] q any = absurd (omega arith)
    go (x ∷ es) q any =
        let l : list_of g cs ≡ x ∷ es = ofs-list g cs ∙ ap (list_of g) o ∙ as-list g p.top p.stream ∙ q in
        let t : top_of g cs ≡ p.top = ofs-top g cs ∙ ap (top_of g) (o ∙ ap (as_changes g p.top) q) ∙ as-top g p.top x es in
        ap₂ part_with t l ∙ ap (λ (s : List Entry). some (part p.top s)) (sym q)

bares-at : (g : ℕ) (ps : List (Option (Part (List Entry)))) → get_or (bares ps) g no_part ≡ bare (get_or ps g none)
unfolding bares
bares-at g [] = refl
bares-at zero (p ∷ ps) = refl
bares-at (suc g) (p ∷ ps) = bares-at g ps

tab-ext : {A : Type 0} (i n : ℕ) (f h : ℕ → A) → ((k : ℕ) → k < i + n → f k ≡ h k) → tab i n f ≡ tab i n h
unfolding tab
tab-ext i zero f h e = refl
tab-ext i (suc n) f h e = ap₂ ◌∷◌ (e i (omega arith)) (tab-ext (suc i) n f h (λ k l. e k (omega arith)))

tab-shift : {A : Type 0} (i n : ℕ) (f : ℕ → A) → tab (suc i) n f ≡ tab i n (λ (k : ℕ). f (suc k))
unfolding tab
tab-shift i zero f = refl
tab-shift i (suc n) f = ap (λ l. f (suc i) ∷ l) (tab-shift (suc i) n f)

tab-self : {A : Type 0} (ps : List A) (d : A) → tab 0 (length ps) (λ (g : ℕ). get_or ps g d) ≡ ps
unfolding tab
tab-self [] d = refl
tab-self (p ∷ ps) d = ap (λ l. p ∷ l) (tab-shift 0 (length ps) (λ (g : ℕ). get_or (p ∷ ps) g d) ∙ tab-self ps d)

-- ---- calls that the model takes

module _ (settings : Settings) (ks : List SignalEncoding) where
  abbrev pub Proper : Model → Call → Type 0
  Proper p (time q t) = q ≡ 0
  Proper p (change q g v) =
      (q ≡ 0) × (p.skips.zero.on ≡ false) × (0 < length p.now.times) × ((a : Content) × (c : ℕ) × (decode (get_or ks g Absent) v ≡ accept a c))
  Proper p finish = Unit {0}

  unfoldable pub modelRun : Model → List Call → Model
  modelRun p [] = p
  modelRun p (c ∷ cs) = modelRun (model_step ks settings p c false) cs

  abbrev pub ProperRun : Model → List Call → Type 0
  ProperRun p [] = Unit {0}
  ProperRun p (c ∷ cs) = (p.closed ≡ false) × Proper p c × ProperRun (model_step ks settings p c false) cs

  pub record Takes (p : Model) (cs : List Call) (q : Model) : Type 0 where
    pub proper : ProperRun p cs
    pub run : modelRun p cs ≡ q

  takes_none : (p q : Model) → p ≡ q → Takes p [] q
  unfolding modelRun
  takes_none p q e = record { proper = tt; run = e }

  takes_cons : (p p' q : Model) (c : Call) (cs : List Call) → p.closed ≡ false → Proper p c → model_step ks settings p c false ≡ p' → Takes p' cs q → Takes p (c ∷ cs) q
  unfolding modelRun
  takes_cons p p' q c cs up ok e t = record {
    proper = (up, ok, subst (λ (x : Model). ProperRun x cs) (sym e) t.proper);
    run = ap (λ (x : Model). modelRun x cs) e ∙ t.run;
  }

  takes-append : (xs ys : List Call) (p q r : Model) → Takes p xs q → Takes q ys r → Takes p (xs ++ ys) r
  unfolding modelRun
  takes-append [] ys p q r t u = subst (λ (x : Model). Takes x ys r) (sym t.run) u
  takes-append (x ∷ xs) ys p q r t u =
      let ih = takes-append xs ys (model_step ks settings p x false) q r (record { proper = t.proper.2; run = t.run }) u in
      record { proper = (t.proper.0, t.proper.1, ih.proper); run = ih.run }

  -- a model that is open; no probe is skipping
  abbrev pub live : List Chunk → List ℕ → List Change → Model
  live bs ts cs = model bs (chunk ts cs) no_skips false

  -- what can be said: entries at an index that fit, with a class that the kind can have
  abbrev AllAt : ℕ → List Entry → Type 0
  AllAt i = All (λ (e : Entry). e.index ≡ i)

  abbrev CanSay : (g t : ℕ) → Entry → Type 0
  CanSay g t e = decode (get_or ks g Absent) (say_of (get_or ks g Absent) t e.content) ≡ accept e.content t

  abbrev Said : (g t : ℕ) → List Entry → Type 0
  Said g t = All (CanSay g t)

  said_fits : (g t n i : ℕ) (es : List Entry) → t ≤ top_limit (get_or ks g Absent) → EntriesFit (get_or ks g Absent) n i t es → Said g t es
  said_fits g t n i [] h f = tt
  said_fits g t n i (e ∷ es) h f =
      (say-decodes (get_or ks g Absent) t e.content f.0.content f.0.class h, said_fits g t n e.index es h f.1)

  front_at : (i : ℕ) (es : List Entry) → AllAt i (front i es)
  unfolding front
  front_at i [] = tt
  front_at i (e ∷ es) = go (eqb e.index i) refl (front_at i es)
    where
      go : (b : Bool) → eqb e.index i ≡ b → AllAt i (front i es) → AllAt i (pick b (e ∷ front i es) [])
      go true q h = (eqb-true e.index i q, h)
      go false q h = tt

  calls-take : (es : List Entry) (g t i : ℕ) (bs : List Chunk) (ts : List ℕ) (cs : List Change) → length ts ≡ suc i → AllAt i es → Said g t es
      → Takes (live bs ts cs) (calls_of ks g t es) (live bs ts (cs ++ as_changes g t es))
  unfolding calls_of as_changes model_step model_change skip_of
  calls-take [] g t i bs ts cs l h s = takes_none (live bs ts cs) (live bs ts (cs ++ [])) (rw append-nil refl)
  calls-take (e ∷ es) g t i bs ts cs l h s =
      let m : length ts - 1 ≡ e.index = omega (arith, h.0) in
      let c : Change = record { signal = g; place = e.index; content = e.content; class = t } in
      let q : model_change (live bs ts cs) 0 g false (decode (get_or ks g Absent) (say_of (get_or ks g Absent) t e.content)) ≡ live bs ts (cs ++ c ∷ []) =
      ap (model_change (live bs ts cs) 0 g false) s.0
      ∙ ap (λ (n : ℕ). live bs ts (cs ++ record { signal = g; place = n; content = e.content; class = t } ∷ [])) m in
      let ih = calls-take es g t i bs ts (cs ++ c ∷ []) l h.1 s.1 in
      takes_cons (live bs ts cs) (live bs ts (cs ++ c ∷ [])) (live bs ts (cs ++ c ∷ as_changes g t es)) (change 0 g (say_of (get_or ks g Absent) t e.content)) (calls_of ks g t es)
      refl (refl, refl, omega arith, (e.content, t, s.0)) q
      (subst (λ (x : List Change). Takes (live bs ts (cs ++ c ∷ [])) (calls_of ks g t es) (live bs ts x)) (append_assoc cs (c ∷ []) (as_changes g t es)) ih)

  abbrev SaidAll : (g : ℕ) → List (Part (List Entry)) → Type 0
  SaidAll g ps = (j : ℕ) → Said (g + j) (get_or ps j no_part).top (get_or ps j no_part).stream

  round-take : (ps : List (Part (List Entry))) (i g : ℕ) (bs : List Chunk) (ts : List ℕ) (cs : List Change) → length ts ≡ suc i → SaidAll g ps
      → Takes (live bs ts cs) (roundCalls ks i g ps) (live bs ts (cs ++ round_marks i g ps))
  unfolding roundCalls round_marks
  round-take [] i g bs ts cs l s = takes_none (live bs ts cs) (live bs ts (cs ++ [])) (rw append-nil refl)
  round-take (p ∷ ps) i g bs ts cs l s =
      let s0 : Said g p.top p.stream = subst (λ (x : ℕ). Said x p.top p.stream) (add-zero g) (s 0) in
      let a : List Change = as_changes g p.top (front i p.stream) in
      let t = calls-take (front i p.stream) g p.top i bs ts cs l (front_at i p.stream) (all-front (CanSay g p.top) i p.stream s0) in
      let more : SaidAll (suc g) ps = λ j. subst (λ (x : ℕ). Said x (get_or ps j no_part).top (get_or ps j no_part).stream) (add-suc g j ∙ sym (suc-add g j)) (s (suc j)) in
      let ih = round-take ps i (suc g) bs ts (cs ++ a) l more in
      takes-append (calls_of ks g p.top (front i p.stream)) (roundCalls ks i (suc g) ps) (live bs ts cs) (live bs ts (cs ++ a)) (live bs ts (cs ++ (a ++ round_marks i (suc g) ps))) t
      (subst (λ (x : List Change). Takes (live bs ts (cs ++ a)) (roundCalls ks i (suc g) ps) (live bs ts x)) (append_assoc cs a (round_marks i (suc g) ps)) ih)

  -- ---- times

  way-take : (ts : List ℕ) (t : ℕ) → 0 < length ts → last_or 0 ts < t → way_of ts t ≡ above
  unfolding way_of last_or
  way-take [] t h l = absurd (omega arith)
  way-take (x ∷ ts) t h l = rw (lt-ltb (last_or x ts) t l) refl

  time-take : (bs : List Chunk) (ts : List ℕ) (cs : List Change) (t : ℕ) → 0 < length ts → length ts < settings.limit → last_or 0 ts < t
      → model_step ks settings (live bs ts cs) (time 0 t) false ≡ live bs (ts ++ t ∷ []) cs
  unfolding model_step model_time skip_ended skip_of with_skip
  time-take bs ts cs t h l m =
      let n : length ts ≡ settings.limit → ⊥ = λ e. omega arith in
      ap (model_time settings (live bs ts cs) 0 t) (way-take ts t h m) ∙ rw (ne_eqb (length ts) settings.limit n) refl

  block-take : (us ts : List ℕ) (i : ℕ) (ps : List (Part (List Entry))) (bs : List Chunk) (cs : List Change) → length ts ≡ suc i → length ts + length us ≤ settings.limit
      → RisingFrom (last_or 0 ts) us → SaidAll 0 ps → Takes (live bs ts cs) (blockCalls ks i us ps) (live bs (ts ++ us) (cs ++ block_marks i us ps))
  unfolding blockCalls block_marks
  block-take [] ts i ps bs cs l f r s = rw (append-nil ts) (round-take ps i 0 bs ts cs l s)
  block-take (u ∷ us) ts i ps bs cs l f r s =
      let a : List Change = round_marks i 0 ps in
      let z : last_or 0 (ts ++ u ∷ []) ≡ u = last-append 0 ts (u ∷ []) ∙ last_one (last_or 0 ts) u in
      let la : length (ts ++ u ∷ []) ≡ suc (suc i) = rw length-append (omega arith) in
      let more : SaidAll 0 (rest_of i ps) = λ j. rw (rest_at i j ps) (all-behind (CanSay (0 + j) (get_or ps j no_part).top) i (get_or ps j no_part).stream (s j)) in
      let ih = block-take us (ts ++ u ∷ []) (suc i) (rest_of i ps) bs (cs ++ a) la (omega arith) (subst (λ (x : ℕ). RisingFrom x us) (sym z) r.1) more in
      let e1 = append_assoc ts (u ∷ []) us in
      let e2 = append_assoc cs a (block_marks (suc i) us (rest_of i ps)) in
      let t = takes_cons (live bs ts (cs ++ a)) (live bs (ts ++ u ∷ []) (cs ++ a)) (live bs (ts ++ u ∷ us) (cs ++ (a ++ block_marks (suc i) us (rest_of i ps)))) (time 0 u)
      (blockCalls ks (suc i) us (rest_of i ps)) refl refl (time-take bs ts (cs ++ a) u (omega arith) (omega arith) r.0)
      (subst (λ (x : List Change). Takes (live bs (ts ++ u ∷ []) (cs ++ a)) (blockCalls ks (suc i) us (rest_of i ps)) (live bs (ts ++ u ∷ us) x)) e2
      (subst (λ (x : List ℕ). Takes (live bs (ts ++ u ∷ []) (cs ++ a)) (blockCalls ks (suc i) us (rest_of i ps)) (live bs x ((cs ++ a) ++ block_marks (suc i) us (rest_of i ps)))) e1 ih)) in
      takes-append (roundCalls ks i 0 ps) (time 0 u ∷ blockCalls ks (suc i) us (rest_of i ps)) (live bs ts cs) (live bs ts (cs ++ a)) _ (round-take ps i 0 bs ts cs l s) t
    where
      last_one : (d u : ℕ) → last_or d (u ∷ []) ≡ u
      last_one d u = unfold last_or in refl

  -- ---- a block

  -- by signal: what its part says fits, with a class that the kind can have
  part-said : (k : SignalEncoding) (n : ℕ) (p : Option (Part (List Entry))) → OptionFits k n p
      → EntriesFit k n 0 (bare p).top (bare p).stream × ((bare p).top ≤ top_limit k)
  part-said k n none f = (tt, omega arith)
  part-said k n (some p) f = (f.entries, f.most)

  module _ (s : Block (List Entry)) (f : BlockFits settings.limit ks s) where
    abbrev Count : ℕ
    Count = length s.times

    each-said : (g : ℕ) → EntriesFit (get_or ks g Absent) Count 0 (bare (get_or s.parts g none)).top (bare (get_or s.parts g none)).stream
        × ((bare (get_or s.parts g none)).top ≤ top_limit (get_or ks g Absent))
    each-said g = part-said (get_or ks g Absent) Count (get_or s.parts g none) (parts-each Count ks s.parts f.parts g)

    said_all : SaidAll 0 (bares s.parts)
    said_all j =
        let e = each-said j in
        subst (λ (p : Part (List Entry)). Said (0 + j) p.top p.stream) (sym (bares-at j s.parts))
        (subst (λ (x : ℕ). Said x (bare (get_or s.parts j none)).top (bare (get_or s.parts j none)).stream) (sym (zero-add j))
        (said_fits j (bare (get_or s.parts j none)).top Count 0 (bare (get_or s.parts j none)).stream e.1 e.0))

    -- what the calls of the block record of each signal
    marks-of : (us : List ℕ) → Count ≡ suc 0 + length us → (g : ℕ)
        → ofs g (block_marks 0 us (bares s.parts)) ≡ as_changes g (bare (get_or s.parts g none)).top (bare (get_or s.parts g none)).stream
    marks-of us e g =
        let b = bares-at g s.parts in
        subst (λ (p : Part (List Entry)). ofs g (block_marks 0 us (bares s.parts)) ≡ as_changes g p.top p.stream) b
        (block_of (get_or ks g Absent) Count us 0 g (bares s.parts) e
        (subst (λ (p : Part (List Entry)). EntriesFit (get_or ks g Absent) Count 0 p.top p.stream) (sym b) (each-said g).0))

    stored_back : (cs : List Change) → ((g : ℕ) → ofs g cs ≡ as_changes g (bare (get_or s.parts g none)).top (bare (get_or s.parts g none)).stream)
        → stored_of (length ks) cs (chunk s.times cs) ≡ s
    stored_back cs o =
        let c = parts-count Count ks s.parts f.parts in
        let t = tab-ext 0 (length ks) (λ (g : ℕ). part_with (top_of g cs) (list_of g cs)) (λ (g : ℕ). get_or s.parts g none)
        (λ g h. part-back (get_or ks g Absent) Count cs g (get_or s.parts g none) (parts-each Count ks s.parts f.parts g) (o g)) in
        let q : tab 0 (length ks) (λ (g : ℕ). part_with (top_of g cs) (list_of g cs)) ≡ s.parts =
        t ∙ ap (λ (n : ℕ). tab 0 n (λ (g : ℕ). get_or s.parts g none)) (sym c) ∙ tab-self s.parts none in
        ap (block s.times) q

  -- a list of calls, taken whole, after which a finish leaves the block s
  pub record Rebuilt (cs : List Call) (s : Block (List Entry)) : Type 0 where
    pub times : List ℕ
    pub marks : List Change
    pub takes : Takes no_model cs (live [] times marks)
    pub any : 0 < length times
    pub image : image_of (length ks) [] (chunk times marks ∷ []) ≡ s ∷ []

  first-take : (s : Block (List Entry)) (times : List ℕ) → 0 < settings.limit → 1 ≤ length times → Rising times → length times ≤ settings.limit → SaidAll 0 (bares s.parts)
      → Takes no_model (firstCalls ks times (bares s.parts)) (live [] times (block_marks 0 (drop 1 times) (bares s.parts)))
  unfolding firstCalls model_step model_time way_of skip_ended skip_of with_skip
  first-take s [] pos one r f v = absurd (omega arith)
  first-take s (t ∷ us) pos one r f v =
      let n : 0 ≡ settings.limit → ⊥ = λ z. omega arith in
      takes_cons no_model (live [] (t ∷ []) []) (live [] (t ∷ us) (block_marks 0 us (bares s.parts))) (time 0 t) (blockCalls ks 0 us (bares s.parts)) refl refl
      (rw (ne_eqb 0 settings.limit n) refl)
      (block-take us (t ∷ []) 0 (bares s.parts) [] [] refl (omega arith) (rises r) v)
    where
      rises : RisingFrom t us → RisingFrom (last_or 0 (t ∷ [])) us
      rises h = unfold last_or in h

  -- every block that fits is left by its list of calls and a finish
  pub rebuild : (s : Block (List Entry)) → 0 < settings.limit → BlockFits settings.limit ks s → Rebuilt (imageCalls ks (some s)) s
  unfolding image_of
  rebuild s pos f =
      let us : List ℕ = drop 1 s.times in
      let cs : List Change = block_marks 0 us (bares s.parts) in
      let lu : length s.times ≡ suc 0 + length us = omega (arith, length-drop 1 s.times, f.any) in
      record {
        times = s.times;
        marks = cs;
        takes = first-take s s.times pos f.any f.rising f.few (said_all s f);
        any = f.any;
        image = ap (λ (x : Block (List Entry)). x ∷ []) (stored_back s f cs (marks-of s f us lu));
      }
