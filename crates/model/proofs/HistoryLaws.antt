-- The model's blocks, joined, are the history at every moment, and its answers are the history's: a cut changes nothing of what is joined,
-- a time and a change join it at the right place.
-- Assumes nothing.
use Prim.Native.Nat.{ℕ, zero, suc, ◌+◌, ◌-◌, ◌<◌}
use mathlib.Core.Path.{◌≡◌, refl, sym, ap, ◌∙◌, subst}
use mathlib.Core.Bool.{Bool, true, false}
use mathlib.Core.List.{List, [], ◌∷◌, ◌++◌, append_assoc, append-nil}
use native.Mathlib.Decide.{ℕ_discrete}
use native.Mathlib.Omega.{arith}
use borrow.Author.Tests.{ltb-true, ne_eqb}
use lib.ListN.{length, get_or, length-append}
use lib.Dec.{ltb, eqb}
use Rattle.lists.specs.Choice.{pick}
use Rattle.lists.specs.Last.{last_or}
use Rattle.signal.specs.declared.kind.SignalEncoding.{SignalEncoding}
use Rattle.signal.specs.declared.kind.SignalEncoding.TheVariants.{Absent}
use Rattle.signal.specs.Content.{Content, Given, Decoded, refuse, accept, decode}
use Rattle.codec.specs.Valid.{RisingFrom, Rising}
use Rattle.recording.specs.Calls.{Call, time, change, finish, Way, above, equal, below, way_of}
use Rattle.recording.specs.State.{skip_begun, skip_ended, skip_same, skip_counted, skip_of, with_skip, on_skip}
use Rattle.recording.specs.declared.ProbeSkip.{ProbeSkip}
use Rattle.recording.specs.declared.Settings.{Settings}
use Rattle.recording.specs.declared.Skips.{Skips}
use Rattle.history.specs.History.{History, no_history, skip_started, skip_over, skip_at_same, skip_one_more, skip_by, only_by, tell_time, tell_change, tell, tell_all}
use Rattle.loaded.specs.Loading.{overlap, join_times}
use Rattle.loaded.proofs.TableLaws.{joined_length}
use Rattle.model.specs.Model.{Chunk, chunk, no_chunk, shifts, join, joined, Model, model, no_model, cut, timed, model_time, model_change, close, no_time, model_step, told}
use Rattle.model.proofs.JoinLaws.{shifts-append, joined-append, overlap-more, join-time, join_last, overlap-cut}

-- all that is recorded, joined
abbrev pub all : Model → Chunk
all p = join (joined no_chunk p.blocks) p.now

pub record Same (p : Model) (h : History) : Type 0 where
  pub held : all p ≡ told h
  pub skips : p.skips ≡ h.skips
  pub first : length p.now.times ≡ 0 → (p.blocks ≡ []) × (p.now.changes ≡ [])
  pub shut : p.closed ≡ true → joined no_chunk p.blocks ≡ told h

-- ---- what is joined, after a time, after a change, after a cut

add-time : (l b : Chunk) (t : ℕ) → 0 < length b.times
    → join l (chunk (b.times ++ t ∷ []) b.changes) ≡ chunk ((join l b).times ++ t ∷ []) (join l b).changes
unfolding join
add-time l b t h = rw (join-time l.times b.times t h, overlap-more l.times b.times (t ∷ []) h) refl

add-change : (l b : Chunk) (g : ℕ) (a : Content) (c : ℕ) → 0 < length b.times
    → join l (chunk b.times (b.changes ++ record { signal = g; place = length b.times - 1; content = a; class = c } ∷ []))
    ≡ chunk (join l b).times ((join l b).changes ++ record { signal = g; place = length (join l b).times - 1; content = a; class = c } ∷ [])
unfolding join shifts
add-change l b g a c h =
    let n : ℕ = length l.times - overlap l.times b.times in
    let e : length (join_times l.times b.times) - 1 ≡ n + (length b.times - 1) = omega (arith, joined_length l.times b.times) in
    rw (shifts-append n b.changes, e, append_assoc) refl

add-cut : (l b : Chunk) (ts : List ℕ) → 0 < length b.times
    → join (join l b) (chunk (last_or 0 b.times ∷ ts) []) ≡ chunk ((join l b).times ++ ts) (join l b).changes
unfolding join shifts
add-cut l b ts h =
    let j : List ℕ = join_times l.times b.times in
    let k : 0 < length j = omega (arith, joined_length l.times b.times) in
    let q = join_last 0 l.times b.times h in
    let z : overlap j (last_or 0 b.times ∷ ts) ≡ 1 = rw (← q) (overlap-cut j ts k) in
    rw (z, append-nil) refl

all_none : (p : Model) → p.blocks ≡ [] → all p ≡ chunk p.now.times (shifts 0 p.now.changes)
unfolding join joined
all_none p e = rw e refl

join-times : (l b : Chunk) → (join l b).times ≡ join_times l.times b.times
unfolding join
join-times l b = refl

all-cut : (p : Model) (ts : List ℕ) (k : Skips) (c : Bool) → 0 < length p.now.times
    → all (model (p.blocks ++ p.now ∷ []) (chunk (last_or 0 p.now.times ∷ ts) []) k c) ≡ chunk ((all p).times ++ ts) (all p).changes
unfolding joined
all-cut p ts k c h = rw joined-append (add-cut (joined no_chunk p.blocks) p.now ts h)

all-timed : (p : Model) (q t : ℕ) (b : Bool) → 0 < length p.now.times → all (timed (pick b (cut p) p) q t) ≡ chunk ((all p).times ++ t ∷ []) (all p).changes
unfolding cut
all-timed p q t true h = all-cut p (t ∷ []) (on_skip skip_ended p.skips q) p.closed h
all-timed p q t false h = add-time (joined no_chunk p.blocks) p.now t h

-- ---- the skips: the recorder's and the history's rule say the same

skip_by_lem : (s : Skips) (q : ℕ) → skip_of s q ≡ skip_by q s
unfolding skip_of
skip_by_lem s zero = refl
skip_by_lem s (suc q) = rw (ne_eqb (suc q) 0 (λ e. omega arith)) refl

only-by : (f g : ProbeSkip → ProbeSkip) → ((k : ProbeSkip) → f k ≡ g k) → (s : Skips) (q : ℕ) → on_skip f s q ≡ only_by q g s
unfolding skip_of with_skip
only-by f g e s zero = rw (e s.zero) refl
only-by f g e s (suc q) = rw (ne_eqb (suc q) 0 (λ z. omega arith), e s.one) refl

pub skip-same : (p : Model) (h : History) (q : ℕ) → Same p h → skip_of p.skips q ≡ skip_by q h.skips
skip-same p h q s = skip_by_lem p.skips q ∙ ap (skip_by q) s.skips

ended-over : (k : ProbeSkip) → skip_ended k ≡ skip_over k
unfolding skip_ended
ended-over k = refl

begun-started : (k : ProbeSkip) → skip_begun k ≡ skip_started k
unfolding skip_begun
begun-started k = refl

same-at-same : (e : ℕ) (k : ProbeSkip) → skip_same e k ≡ skip_at_same e k
unfolding skip_same skip_ended
same-at-same e k = refl

counted-one-more : (k : ProbeSkip) → skip_counted k ≡ skip_one_more k
unfolding skip_counted
counted-one-more k = refl

-- ---- a time

-- the way of a time depends on the last alone
way-last : (a b : List ℕ) (t : ℕ) → 0 < length a → 0 < length b → last_or 0 a ≡ last_or 0 b → way_of a t ≡ way_of b t
unfolding way_of last_or
way-last [] b t h k e = absurd (omega arith)
way-last (x ∷ a) [] t h k e = absurd (omega arith)
way-last (x ∷ a) (y ∷ b) t h k e = rw e refl

pub way_same : (p : Model) (h : History) (t : ℕ) → Same p h → way_of p.now.times t ≡ way_of h.times t
way_same p h t s = go (ℕ_discrete (length p.now.times) 0)
  where
    go : Dec (length p.now.times ≡ 0) → way_of p.now.times t ≡ way_of h.times t
    go (yes e) = ap (λ (b : Chunk). way_of b.times t) (sym (all_none p (s.first e).0) ∙ s.held)
    go (no n) =
        let l : Chunk = joined no_chunk p.blocks in
        let k : 0 < length p.now.times = omega arith in
        let j : join_times l.times p.now.times ≡ h.times = sym (join-times l p.now) ∙ ap (λ (b : Chunk). b.times) s.held in
        let m = joined_length l.times p.now.times in
        let q : 0 < length (join_times l.times p.now.times) = omega arith in
        way-last p.now.times (join_times l.times p.now.times) t k q (sym (join_last 0 l.times p.now.times k)) ∙ ap (λ (b : List ℕ). way_of b t) j

pick-skips : (p : Model) (b : Bool) → (pick b (cut p) p).skips ≡ p.skips
unfolding cut
pick-skips p true = refl
pick-skips p false = refl

-- a recording that is not closed
never : (p : Model) (b : Bool) {X : Type 0} → p.closed ≡ false → (pick b (cut p) p).closed ≡ true → X
unfolding cut
never p true e f = let z : ◌≡◌ {A = ℕ} 0 1 = cc in absurd (omega arith)
never p false e f = let z : ◌≡◌ {A = ℕ} 0 1 = cc in absurd (omega arith)

time-same : (settings : Settings) (p : Model) (h : History) (q t : ℕ) (way : Way) → 0 < settings.limit → p.closed ≡ false → Same p h
    → Same (model_time settings p q t way) (tell_time settings.edition h q t way).next
unfolding model_time
time-same settings p h q t above pos up s =
    record {
      held = go (ℕ_discrete (length p.now.times) 0);
      skips =
          ap (λ (k : Skips). on_skip skip_ended k q) (pick-skips p (eqb (length p.now.times) settings.limit) ∙ s.skips)
          ∙ only-by skip_ended skip_over ended-over h.skips q;
      first = λ e. absurd (omega (arith, simp length-append at e));
      shut = never p (eqb (length p.now.times) settings.limit) up;
    }
  where
    b : Bool
    b = eqb (length p.now.times) settings.limit

    go : Dec (length p.now.times ≡ 0) → all (timed (pick b (cut p) p) q t) ≡ chunk (h.times ++ t ∷ []) h.changes
    go (yes e) =
        let ne : length p.now.times ≡ settings.limit → ⊥ = λ z. omega arith in
        let nb : b ≡ false = ne_eqb (length p.now.times) settings.limit ne in
        let a : chunk p.now.times (shifts 0 p.now.changes) ≡ told h = sym (all_none p (s.first e).0) ∙ s.held in
        rw nb (all_none (timed p q t) (s.first e).0 ∙ ap (λ (x : Chunk). chunk (x.times ++ t ∷ []) x.changes) a)
    go (no n) =
        let k : 0 < length p.now.times = omega arith in
        all-timed p q t b k ∙ ap (λ (x : Chunk). chunk (x.times ++ t ∷ []) x.changes) s.held
time-same settings p h q t equal pos up s =
    let e : ℕ = settings.edition in
    let k = ap (λ (k : Skips). on_skip (skip_same e) k q) s.skips ∙ only-by (skip_same e) (skip_at_same e) (same-at-same e) h.skips q in
    record { held = s.held; skips = k; first = s.first; shut = s.shut }
time-same settings p h q t below pos up s =
    let k = ap (λ (k : Skips). on_skip skip_begun k q) s.skips ∙ only-by skip_begun skip_started begun-started h.skips q in
    record { held = s.held; skips = k; first = s.first; shut = s.shut }

-- ---- a change, a finish

change-same : (p : Model) (h : History) (q g : ℕ) (b : Bool) (d : Decoded) → 0 < length p.now.times → p.closed ≡ false → Same p h
    → Same (model_change p q g b d) (tell_change h q g b d).next
unfolding model_change
change-same p h q g true d k up s =
    let n = ap (λ (n : Skips). on_skip skip_counted n q) s.skips ∙ only-by skip_counted skip_one_more counted-one-more h.skips q in
    record { held = s.held; skips = n; first = s.first; shut = s.shut }
change-same p h q g false (refuse n) k up s = s
change-same p h q g false (accept a c) k up s =
    record {
      held =
          add-change (joined no_chunk p.blocks) p.now g a c k
          ∙ ap (λ (x : Chunk). chunk x.times (x.changes ++ record { signal = g; place = length x.times - 1; content = a; class = c } ∷ [])) s.held;
      skips = s.skips;
      first = λ e. absurd (omega arith);
      shut = λ e. let z : ◌≡◌ {A = ℕ} 0 1 = cc in absurd (omega arith);
    }

close-same : (p : Model) (h : History) → Same p h → Same (close (pick (no_time p.now.times) p (cut p))) h
unfolding cut join joined shifts
close-same p h s = go p.now.times refl
  where
    go : (l : List ℕ) → p.now.times ≡ l → Same (close (pick (no_time l) p (cut p))) h
    go [] e =
        let f = s.first (ap length e) in
        let z : joined no_chunk p.blocks ≡ all p = rw (f.0, f.1, e) refl in
        record { held = s.held; skips = s.skips; first = s.first; shut = λ c. z ∙ s.held }
    go (x ∷ l) e =
        let k : 0 < length p.now.times = rw e (omega arith) in
        record {
          held = all-cut p [] p.skips true k ∙ rw append-nil s.held;
          skips = s.skips;
          first = λ z. absurd (omega arith);
          shut = λ c. joined-append no_chunk p.blocks (p.now ∷ []) ∙ s.held;
        }

-- ---- one call: a call that is not refused meets an open recording, and a change that is not refused has a time before it

pub step_same : (ks : List SignalEncoding) (settings : Settings) (p : Model) (h : History) (c : Call) (refused : Bool) → 0 < settings.limit
    → (refused ≡ false → p.closed ≡ false) → (refused ≡ false → (q g : ℕ) (v : Given) → c ≡ change q g v → 0 < length p.now.times) → Same p h
    → Same (model_step ks settings p c refused) (tell ks settings.edition h c refused).next
unfolding model_step tell
step_same ks settings p h c true pos up fine s = s
step_same ks settings p h (time q t) false pos up fine s =
    subst (λ (w : Way). Same (model_time settings p q t w) (tell_time settings.edition h q t (way_of h.times t)).next) (sym (way_same p h t s))
    (time-same settings p h q t (way_of h.times t) pos (up refl) s)
step_same ks settings p h (change q g v) false pos up fine s =
    let d : Decoded = decode (get_or ks g Absent) v in
    subst (λ (k : ProbeSkip). Same (model_change p q g k.on d) (tell_change h q g (skip_by q h.skips).on d).next) (sym (skip-same p h q s))
    (change-same p h q g (skip_by q h.skips).on d (fine refl q g v refl) (up refl) s)
step_same ks settings p h finish false pos up fine s = close-same p h s

pub start-same : Same no_model no_history
unfolding join joined shifts
start-same = record { held = refl; skips = refl; first = λ e. (refl, refl); shut = λ e. refl }

-- ---- the times of a history rise strictly

rising_snoc : (x : ℕ) (l : List ℕ) (t : ℕ) → last_or x l < t → RisingFrom x l → RisingFrom x (l ++ t ∷ [])
unfolding last_or
rising_snoc x [] t h r = (h, tt)
rising_snoc x (y ∷ l) t h r = (r.0, rising_snoc y l t h r.1)

pub way-rising : (l : List ℕ) (t : ℕ) → way_of l t ≡ above → Rising l → Rising (l ++ t ∷ [])
unfolding way_of
way-rising [] t e r = tt
way-rising (x ∷ l) t e r = rising_snoc x l t (ltb-true (last_or x l) t (go (ltb (last_or x l) t) (eqb t (last_or x l)) e)) r
  where
    go : (b c : Bool) → pick b above (pick c equal below) ≡ above → b ≡ true
    go true c q = refl
    go false true q = let z : ◌≡◌ {A = ℕ} 0 1 = cc in absurd (omega arith)
    go false false q = let z : ◌≡◌ {A = ℕ} 0 1 = cc in absurd (omega arith)

time-rising : (edition : ℕ) (h : History) (q t : ℕ) (w : Way) → way_of h.times t ≡ w → Rising h.times → Rising (tell_time edition h q t w).next.times
time-rising edition h q t above e r = way-rising h.times t e r
time-rising edition h q t equal e r = r
time-rising edition h q t below e r = r

change-rising : (h : History) (q g : ℕ) (b : Bool) (d : Decoded) → Rising h.times → Rising (tell_change h q g b d).next.times
change-rising h q g true d r = r
change-rising h q g false (refuse n) r = r
change-rising h q g false (accept a c) r = r

tell-rising : (ks : List SignalEncoding) (edition : ℕ) (h : History) (c : Call) (b : Bool) → Rising h.times → Rising (tell ks edition h c b).next.times
unfolding tell
tell-rising ks edition h c true r = r
tell-rising ks edition h (time q t) false r = time-rising edition h q t (way_of h.times t) refl r
tell-rising ks edition h (change q g v) false r = change-rising h q g (skip_by q h.skips).on (decode (get_or ks g Absent) v) r
tell-rising ks edition h finish false r = r

pub history-rising : (ks : List SignalEncoding) (edition : ℕ) (cs : List Call) (h : History) (rs : List Bool) → Rising h.times
    → Rising (tell_all ks edition h cs rs).last.times
unfolding tell_all
history-rising ks edition [] h rs r = r
history-rising ks edition (c ∷ cs) h [] r = r
history-rising ks edition (c ∷ cs) h (b ∷ rs) r = history-rising ks edition cs (tell ks edition h c b).next rs (tell-rising ks edition h c b r)
