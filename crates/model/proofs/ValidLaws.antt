-- What the model leaves is valid: each finished block fits by itself and starts with the end before it, and so does the open one.
-- Assumes nothing.
use Prim.Native.Nat.{ℕ, zero, suc, ◌+◌, ◌-◌, ◌≤◌, ◌<◌, ◌^◌, max}
use mathlib.Core.Path.{◌≡◌, refl, sym, ap, ◌∙◌, subst}
use mathlib.Core.Bool.{Bool, true, false}
use mathlib.Core.List.{List, [], ◌∷◌, ◌++◌, append_assoc, append-nil}
use mathlib.Core.Option.{Option, some, none}
use native.Mathlib.Omega.{arith}
use borrow.Author.Tests.{eqb-true, eqb-false, ltb-true}
use lib.ListN.{length, get_or, length-append}
use lib.Dec.{ltb, eqb}
use Rattle.lists.specs.Choice.{pick}
use Rattle.lists.specs.Last.{last_or}
use Rattle.signal.specs.declared.kind.SignalEncoding.{SignalEncoding}
use Rattle.signal.specs.declared.kind.SignalEncoding.TheVariants.{Absent}
use Rattle.signal.specs.Kind.{top_limit}
use Rattle.signal.specs.Content.{Content, Given, vcd, raw, real, GivenFits, Decoded, refuse, accept, decode}
use Rattle.signal.proofs.DecodeLaws.{Accepted, accepted}
use Rattle.stream.specs.Entries.{Entry, entry}
use Rattle.image.specs.Block.{Part, Block}
use Rattle.codec.specs.Valid.{Rising, EachBelow, EntryFits, EntriesFit, OptionFits, Starts, BlockFits, BlocksFit}
use Rattle.codec.specs.Ends.{end_after, last_index}
use Rattle.codec.proofs.Growth.{entries-more, entries-wider, each-parts, blocks-join}
use Rattle.recording.specs.Calls.{Call, time, change, finish, ValueFits, CallFits, Way, above, equal, below, way_of}
use Rattle.recording.specs.State.{skip_begun, skip_same, skip_counted, skip_of, on_skip}
use Rattle.recording.specs.declared.Skips.{Skips}
use Rattle.recording.specs.declared.Settings.{Settings}
use Rattle.history.specs.History.{Change, list_of, top_of}
use Rattle.model.specs.Model.{Chunk, Model, model, no_model, cut, timed, model_time, model_change, close, no_time, model_step, tab, part_with, stored_of, image_of}
use Rattle.model.proofs.LoadLaws.{list-append, top-append, stored-part}
use Rattle.model.proofs.HistoryLaws.{way-rising}

-- ---- all changes of finished blocks, and the image with one block more

unfoldable pub seen_of : List Chunk → List Change
seen_of [] = []
seen_of (b ∷ bs) = b.changes ++ seen_of bs

pub seen-snoc : (bs : List Chunk) (b : Chunk) → seen_of (bs ++ b ∷ []) ≡ seen_of bs ++ b.changes
unfolding seen_of
seen-snoc [] b = append-nil b.changes
seen-snoc (x ∷ bs) b = rw (seen-snoc bs b) (sym (append_assoc x.changes (seen_of bs) b.changes))

pub image-snoc : (n : ℕ) (bs : List Chunk) (b : Chunk) (seen : List Change)
    → image_of n seen (bs ++ b ∷ []) ≡ image_of n seen bs ++ stored_of n (seen ++ (seen_of bs ++ b.changes)) b ∷ []
unfolding image_of seen_of
image-snoc n [] b seen = refl
image-snoc n (x ∷ bs) b seen =
    ap (λ (l : List (Block (List Entry))). stored_of n (seen ++ x.changes) x ∷ l) (image-snoc n bs b (seen ++ x.changes) ∙ simp append_assoc)

end_snoc : (end : Option ℕ) (bs : List (Block (List Entry))) (b : Block (List Entry)) → end_after end (bs ++ b ∷ []) ≡ some (last_or 0 b.times)
unfolding end_after
end_snoc end [] b = refl
end_snoc end (x ∷ bs) b = end_snoc (some (last_or 0 x.times)) bs b

count-tab : {A : Type 0} (i n : ℕ) (f : ℕ → A) → length (tab i n f) ≡ n
unfolding tab
count-tab i zero f = refl
count-tab i (suc n) f = ap suc (count-tab (suc i) n f)

-- ---- times

starts_more : (end : Option ℕ) (ts us : List ℕ) → 0 < length ts → Starts end ts → Starts end (ts ++ us)
starts_more none ts us h b = tt
starts_more (some t) [] us h b = absurd (omega arith)
starts_more (some t) (x ∷ ts) us h b = b

below_more : (m : ℕ) (ts : List ℕ) (t : ℕ) → EachBelow m ts → t < m → EachBelow m (ts ++ t ∷ [])
below_more m [] t b h = (h, tt)
below_more m (x ∷ ts) t b h = (b.0, below_more m ts t b.1 h)

last-below : (m d : ℕ) (ts : List ℕ) → d < m → EachBelow m ts → last_or d ts < m
unfolding last_or
last-below m d [] h b = h
last-below m d (x ∷ ts) h b = last-below m x ts b.0 b.1

way_above : (ts : List ℕ) (t : ℕ) → 0 < length ts → way_of ts t ≡ above → last_or 0 ts < t
unfolding way_of last_or
way_above [] t h e = absurd (omega arith)
way_above (x ∷ l) t h e = ltb-true (last_or x l) t (go (ltb (last_or x l) t) (eqb t (last_or x l)) e)
  where
    go : (b c : Bool) → pick b above (pick c equal below) ≡ above → b ≡ true
    go true c q = refl
    go false true q = let z : ◌≡◌ {A = ℕ} 0 1 = cc in absurd (omega arith)
    go false false q = let z : ◌≡◌ {A = ℕ} 0 1 = cc in absurd (omega arith)

pub last-inside : (k : SignalEncoding) (n i top m : ℕ) (l : List Entry) → EntriesFit k n i top l → i ≤ m → n ≤ suc m → last_index i l ≤ m
unfolding last_index
last-inside k n i top m [] f h e = h
last-inside k n i top m (x ∷ l) f h e = last-inside k n x.index top m l f.1 (omega (arith, f.0.inside)) e

-- ---- the invariant

-- a signal's changes in the open block, after the changes seen in finished ones
pub record SignalFits (k : SignalEncoding) (n : ℕ) (seen cs : List Change) (g : ℕ) : Type 0 where
  pub entries : EntriesFit k n 0 (top_of g (seen ++ cs)) (list_of g cs)
  pub most : top_of g (seen ++ cs) ≤ top_limit k

part-fits : (k : SignalEncoding) (n : ℕ) (seen cs : List Change) (g : ℕ) → SignalFits k n seen cs g → OptionFits k n (part_with (top_of g (seen ++ cs)) (list_of g cs))
part-fits k n seen cs g f = go (list_of g cs) f.entries
  where
    go : (l : List Entry) → EntriesFit k n 0 (top_of g (seen ++ cs)) l → OptionFits k n (part_with (top_of g (seen ++ cs)) l)
    go [] e = tt
    go (x ∷ l) e = record { any = omega arith; most = f.most; entries = e }

module _ (limit : ℕ) (ks : List SignalEncoding) where
  abbrev pub Im : List Chunk → List (Block (List Entry))
  Im bs = image_of (length ks) [] bs

  abbrev pub End : List Chunk → Option ℕ
  End bs = end_after none (Im bs)

  pub record Well (p : Model) : Type 0 where
    pub done : BlocksFit limit ks none (Im p.blocks)
    pub room : length p.now.times ≤ limit
    pub starts : 0 < length p.now.times → Starts (End p.blocks) p.now.times
    pub rising : Rising p.now.times
    pub small : EachBelow (2 ^ 64) p.now.times
    pub signals : (g : ℕ) → g < length ks → SignalFits (get_or ks g Absent) (length p.now.times) (seen_of p.blocks) p.now.changes g

  abbrev First : Model → Type 0
  First p = length p.now.times ≡ 0 → (p.blocks ≡ []) × (p.now.changes ≡ [])

  -- the open block may be finished
  now-fits : (p : Model) → Well p → 0 < length p.now.times → BlockFits limit ks (stored_of (length ks) (seen_of p.blocks ++ p.now.changes) p.now)
  now-fits p w h =
      let seen : List Change = seen_of p.blocks in
      let cs : List Change = p.now.changes in
      let b : Block (List Entry) = stored_of (length ks) (seen ++ cs) p.now in
      record {
        any = h;
        few = w.room;
        rising = w.rising;
        small = w.small;
        parts =
            each-parts (length p.now.times) ks b.parts
            (count-tab 0 (length ks) (λ (g : ℕ). part_with (top_of g (seen ++ cs)) (list_of g cs))) (λ g l. one g l);
      }
    where
      one : (g : ℕ) → g < length ks
          → OptionFits (get_or ks g Absent) (length p.now.times) (get_or (stored_of (length ks) (seen_of p.blocks ++ p.now.changes) p.now).parts g none)
      one g l =
          let n : ℕ = length p.now.times in
          let seen : List Change = seen_of p.blocks in
          let cs : List Change = p.now.changes in
          subst (λ (q : Option (Part (List Entry))). OptionFits (get_or ks g Absent) n q) (sym (stored-part (length ks) g (seen ++ cs) p.now l))
          (part-fits (get_or ks g Absent) n seen cs g (w.signals g l))

  -- the finished blocks and the open one
  cut_fits : (p : Model) → Well p → 0 < length p.now.times → BlocksFit limit ks none (Im (p.blocks ++ p.now ∷ []))
  cut_fits p w h =
      subst (BlocksFit limit ks none) (sym (image-snoc (length ks) p.blocks p.now []))
      (blocks-join limit ks none (Im p.blocks) (stored_of (length ks) (seen_of p.blocks ++ p.now.changes) p.now ∷ []) w.done (w.starts h, (now-fits p w h, tt)))

  pub start-well : Well no_model
  unfolding image_of seen_of list_of top_of
  start-well = record {
    done = tt;
    room = omega arith;
    starts = λ h. absurd (omega arith);
    rising = tt;
    small = tt;
    signals = λ g h. record { entries = tt; most = omega arith };
  }

  -- ---- a time

  -- in a table that has room
  timed-well : (p : Model) (q t : ℕ) → length p.now.times < limit → t < 2 ^ 64 → way_of p.now.times t ≡ above → First p → Well p → Well (timed p q t)
  unfolding image_of end_after
  timed-well p q t room small e first w =
      let ts : List ℕ = p.now.times in
      let n : length (ts ++ t ∷ []) ≡ length ts + 1 = length-append ts (t ∷ []) in
      record {
        done = w.done;
        room = omega arith;
        starts = λ h. by_first ts refl;
        rising = way-rising ts t e w.rising;
        small = below_more (2 ^ 64) ts t w.small small;
        signals = λ g h.
            let f = w.signals g h in
            let k : SignalEncoding = get_or ks g Absent in
            let top : ℕ = top_of g (seen_of p.blocks ++ p.now.changes) in
            record {
              entries = entries-wider k (length ts) (length (ts ++ t ∷ [])) 0 top top (list_of g p.now.changes) (omega arith) (omega arith) f.entries;
              most = f.most;
            };
      }
    where
      by_first : (l : List ℕ) → p.now.times ≡ l → Starts (End p.blocks) (p.now.times ++ t ∷ [])
      by_first [] q = subst (λ (bs : List Chunk). Starts (End bs) (p.now.times ++ t ∷ [])) (sym (first (ap length q)).0) tt
      by_first (x ∷ l) q =
          let h : 0 < length p.now.times = rw q (omega arith) in
          starts_more (End p.blocks) p.now.times (t ∷ []) h (w.starts h)

  -- after a cut
  cut-well : (p : Model) (q t : ℕ) → length p.now.times ≡ limit → 2 ≤ limit → t < 2 ^ 64 → way_of p.now.times t ≡ above → Well p → Well (timed (cut p) q t)
  unfolding cut list_of
  cut-well p q t e two small a w =
      let h : 0 < length p.now.times = omega arith in
      let last : ℕ = last_or 0 p.now.times in
      let b : Block (List Entry) = stored_of (length ks) (seen_of p.blocks ++ p.now.changes) p.now in
      let im : Im (p.blocks ++ p.now ∷ []) ≡ Im p.blocks ++ b ∷ [] = image-snoc (length ks) p.blocks p.now [] in
      let end : End (p.blocks ++ p.now ∷ []) ≡ some last = ap (end_after none) im ∙ end_snoc none (Im p.blocks) b in
      record {
        done = cut_fits p w h;
        room = omega arith;
        starts = λ z. subst (λ (o : Option ℕ). Starts o (last ∷ t ∷ [])) (sym end) (omega arith);
        rising = (way_above p.now.times t h a, tt);
        small = (last-below (2 ^ 64) 0 p.now.times (omega arith) w.small, (small, tt));
        signals = λ g l.
            let f = w.signals g l in
            let s : seen_of (p.blocks ++ p.now ∷ []) ++ [] ≡ seen_of p.blocks ++ p.now.changes = append-nil (seen_of (p.blocks ++ p.now ∷ [])) ∙ seen-snoc p.blocks p.now in
            record { entries = tt; most = subst (λ (c : List Change). top_of g c ≤ top_limit (get_or ks g Absent)) (sym s) f.most };
      }

  skip-well : (p : Model) (k : Skips) (c : Bool) → Well p → Well (model p.blocks p.now k c)
  skip-well p k c w = record { done = w.done; room = w.room; starts = w.starts; rising = w.rising; small = w.small; signals = w.signals }

  -- ---- a change

  added : (k : SignalEncoding) (n : ℕ) (seen cs : List Change) (g g' : ℕ) (a : Content) (c m : ℕ) → SignalFits k n seen cs g'
      → (g ≡ g' → Accepted k a c) → n ≡ suc m
      → SignalFits k n seen (cs ++ record { signal = g; place = m; content = a; class = c } ∷ []) g'
  unfolding list_of top_of
  added k n seen cs g g' a c m f acc e = go (eqb g g') refl
    where
      x : Change
      x = record { signal = g; place = m; content = a; class = c }

      old : ℕ
      old = top_of g' (seen ++ cs)

      go : (b : Bool) → eqb g g' ≡ b → SignalFits k n seen (cs ++ x ∷ []) g'
      go true q =
          let y = acc (eqb-true g g' q) in
          let top : top_of g' (seen ++ (cs ++ x ∷ [])) ≡ max old c =
          ap (top_of g') (sym (append_assoc seen cs (x ∷ []))) ∙ top-append g' (seen ++ cs) (x ∷ []) ∙ rw q (omega arith) in
          let list : list_of g' (cs ++ x ∷ []) ≡ list_of g' cs ++ entry m a ∷ [] = list-append g' cs (x ∷ []) ∙ rw q refl in
          let wide = entries-wider k n n 0 old (max old c) (list_of g' cs) (omega arith) (omega arith) f.entries in
          let new : EntryFits k n (last_index 0 (list_of g' cs)) (max old c) (entry m a) = record {
            later = last-inside k n 0 old m (list_of g' cs) f.entries (omega arith) (omega arith);
            inside = omega arith;
            content = y.fits;
            class = omega (arith, y.class);
          } in
          record {
            entries = rw (top, list) (entries-more k n 0 (max old c) (list_of g' cs) (entry m a) wide new);
            most = rw top (omega (arith, y.limit, f.most));
          }
      go false q =
          let top : top_of g' (seen ++ (cs ++ x ∷ [])) ≡ old =
          ap (top_of g') (sym (append_assoc seen cs (x ∷ []))) ∙ top-append g' (seen ++ cs) (x ∷ []) ∙ rw q (omega arith) in
          let list : list_of g' (cs ++ x ∷ []) ≡ list_of g' cs = list-append g' cs (x ∷ []) ∙ rw q (append-nil (list_of g' cs)) in
          record { entries = rw (top, list) f.entries; most = rw top f.most }

  change-well : (p : Model) (q g : ℕ) (b : Bool) (v : Given) (d : Decoded) → GivenFits v → decode (get_or ks g Absent) v ≡ d → 0 < length p.now.times
      → Well p → Well (model_change p q g b d)
  unfolding model_change
  change-well p q g true v d fit e h w = skip-well p (on_skip skip_counted p.skips q) p.closed w
  change-well p q g false v (refuse n) fit e h w = w
  change-well p q g false v (accept a c) fit e h w = record {
    done = w.done;
    room = w.room;
    starts = w.starts;
    rising = w.rising;
    small = w.small;
    signals = λ g' l. added (get_or ks g' Absent) (length p.now.times) (seen_of p.blocks) p.now.changes g g' a c (length p.now.times - 1)
        (w.signals g' l) (λ q. accepted (get_or ks g' Absent) v a c fit (subst (λ (i : ℕ). decode (get_or ks i Absent) v ≡ accept a c) q e))
        (omega arith);
  }

  -- ---- the image that a finish leaves

  pub closed-fits : (p : Model) → First p → Well p → BlocksFit limit ks none (Im (close (pick (no_time p.now.times) p (cut p))).blocks)
  unfolding cut image_of
  closed-fits p first w = go p.now.times refl
    where
      go : (l : List ℕ) → p.now.times ≡ l → BlocksFit limit ks none (Im (close (pick (no_time l) p (cut p))).blocks)
      go [] e = w.done
      go (x ∷ l) e = cut_fits p w (rw e (omega arith))

-- ---- one call

pub value-given : (v : Given) → ValueFits v → GivenFits v
value-given (vcd v) f = tt
value-given (raw c v) f = tt
value-given (real b) f = f

-- while open, well; once closed, blocks that fit
pub record Good (limit : ℕ) (ks : List SignalEncoding) (p : Model) : Type 0 where
  pub well : p.closed ≡ false → Well limit ks p
  pub shut : p.closed ≡ true → BlocksFit limit ks none (image_of (length ks) [] p.blocks)

good-open : (limit : ℕ) (ks : List SignalEncoding) (p : Model) → p.closed ≡ false → Well limit ks p → Good limit ks p
good-open limit ks p e w = record { well = λ q. w; shut = λ q. let z : ◌≡◌ {A = ℕ} 0 1 = cc in absurd (omega arith) }

time-well : (settings : Settings) (ks : List SignalEncoding) (p : Model) (q t : ℕ) (way : Way) → 2 ≤ settings.limit → t < 2 ^ 64 → way_of p.now.times t ≡ way
    → First settings.limit ks p → Well settings.limit ks p → Well settings.limit ks (model_time settings p q t way)
unfolding model_time
time-well settings ks p q t above two small e first w = go (eqb (length p.now.times) limit) refl
  where
    limit : ℕ
    limit = settings.limit

    go : (b : Bool) → eqb (length p.now.times) limit ≡ b → Well limit ks (timed (pick b (cut p) p) q t)
    go true f = cut-well limit ks p q t (eqb-true (length p.now.times) limit f) two small e w
    go false f =
        let z = eqb-false (length p.now.times) limit f in
        timed-well limit ks p q t (below-limit w.room z) small e first w
      where
        below-limit : length p.now.times ≤ limit → (length p.now.times ≡ limit → ⊥) → length p.now.times < limit
        below-limit r n = omega arith
time-well settings ks p q t equal two small e first w = skip-well settings.limit ks p (on_skip (skip_same settings.edition) p.skips q) p.closed w
time-well settings ks p q t below two small e first w = skip-well settings.limit ks p (on_skip skip_begun p.skips q) p.closed w

time-open : (settings : Settings) (p : Model) (q t : ℕ) (way : Way) → (model_time settings p q t way).closed ≡ p.closed
unfolding model_time cut
time-open settings p q t above = go (eqb (length p.now.times) settings.limit)
  where
    go : (b : Bool) → (pick b (cut p) p).closed ≡ p.closed
    go true = unfold cut in refl
    go false = refl
time-open settings p q t equal = refl
time-open settings p q t below = refl

change-open : (p : Model) (q g : ℕ) (b : Bool) (d : Decoded) → (model_change p q g b d).closed ≡ p.closed
unfolding model_change
change-open p q g true d = refl
change-open p q g false (refuse n) = refl
change-open p q g false (accept a c) = refl

pub start-good : (limit : ℕ) (ks : List SignalEncoding) → Good limit ks no_model
start-good limit ks = good-open limit ks no_model refl (start-well limit ks)

-- a call that is not refused meets an open recording, and a change that is not refused has a time before it
pub step-good : (settings : Settings) (ks : List SignalEncoding) (p : Model) (c : Call) (refused : Bool) → 2 ≤ settings.limit → CallFits c → (refused ≡ false → p.closed ≡ false)
    → (refused ≡ false → (q g : ℕ) (v : Given) → c ≡ change q g v → 0 < length p.now.times)
    → (length p.now.times ≡ 0 → (p.blocks ≡ []) × (p.now.changes ≡ [])) → Good settings.limit ks p
    → Good settings.limit ks (model_step ks settings p c refused)
unfolding model_step
step-good settings ks p c true two fit up fine first w = w
step-good settings ks p (time q t) false two fit up fine first w =
    good-open settings.limit ks (model_time settings p q t (way_of p.now.times t)) (time-open settings p q t (way_of p.now.times t) ∙ up refl)
    (time-well settings ks p q t (way_of p.now.times t) two fit.1 refl first (w.well (up refl)))
step-good settings ks p (change q g v) false two fit up fine first w =
    let d : Decoded = decode (get_or ks g Absent) v in
    good-open settings.limit ks (model_change p q g (skip_of p.skips q).on d) (change-open p q g (skip_of p.skips q).on d ∙ up refl)
    (change-well settings.limit ks p q g (skip_of p.skips q).on v d (value-given v fit.2) refl (fine refl q g v refl) (w.well (up refl)))
step-good settings ks p finish false two fit up fine first w = record {
  well = λ q. let z : ◌≡◌ {A = ℕ} 0 1 = cc in absurd (omega arith);
  shut = λ q. closed-fits settings.limit ks p first (w.well (up refl));
}
