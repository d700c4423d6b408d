-- What probe 0 says does not reach probe 1: two runs that differ in its values only.
-- Assumes nothing.
use Prim.Native.Nat.{ℕ, zero, suc, ◌<◌}
use mathlib.Core.Path.{◌≡◌, refl, sym, ap, ap₂, ◌∙◌, subst}
use mathlib.Core.Bool.{Bool, true, false, ◌||◌, not}
use mathlib.Core.List.{List, [], ◌∷◌, map}
use mathlib.Core.Option.{Option, some}
use native.Mathlib.Omega.{arith}
use borrow.Author.Tests.{eqb-true}
use lib.ListN.{length, get_or}
use lib.Seq.{sets}
use lib.Dec.{ltb, leb, eqb}
use Rattle.lists.specs.Choice.{pick}
use Rattle.signal.specs.declared.kind.SignalEncoding.{SignalEncoding}
use Rattle.signal.specs.declared.kind.SignalEncoding.TheVariants.{Absent}
use Rattle.signal.specs.Kind.{width_of, absent}
use Rattle.signal.specs.Content.{Given, decode}
use Rattle.image.specs.Image.{Image}
use Rattle.codec.specs.Valid.{KnownKinds}
use Rattle.codec.specs.Parse.{parse}
use Rattle.codec.proofs.Trip.{parse-of}
use Rattle.recording.specs.declared.Settings.{Settings}
use Rattle.recording.specs.declared.SignalRecord.{SignalRecord}
use Rattle.recording.specs.declared.Skips.{Skips}
use Rattle.recording.specs.Calls.{Call, time, change, finish, CallFits, Fitting, Reply, refuse, say, is_refusal, way_of}
use Rattle.recording.specs.Memory.{Memory, record_at}
use Rattle.recording.specs.Refusals.{no_probe}
use Rattle.recording.specs.State.{skip_of}
use Rattle.recording.specs.Step.{start_of, step, run, kinds_of}
use Rattle.history.specs.History.{History, no_history, tell}
use Rattle.loaded.specs.Opener.{stream_in, stream_from, stream_of}
use Rattle.loaded.specs.Loading.{Load, load, loads, signal_class}
use Rattle.loaded.specs.EntryBytes.{entries_bytes}
use Rattle.loaded.specs.Reader.{load_in, load_by, load_after, loaded, index_in, table_in, table_by, table_of, table_after, counted, entry_at, pointed, cursor_after, cursor_in, cursor_from}
use Rattle.loaded.specs.Reader as reader
use Rattle.model.specs.Model.{Model, no_model, no_time, model_step}
use Rattle.follow.specs.Answers.{way_answer}
use Rattle.follow.specs.Replies.{Roomy, opening, value_reply, unknown, open_reply, change_reply}
use Rattle.follow.proofs.RecsRep.{no_record}
use Rattle.follow.proofs.ImageRep.{image_for}
use Rattle.follow.proofs.Probes.{step-probe, start-probe}
use Rattle.follow.proofs.Judged.{time-judged, change-judged, finish-judged}
use Rattle.follow.proofs.Start.{start-taken, known-kinds}
use Rattle.follow.proofs.Whole.{Stands, step-stands, start-stands, finish-leaves}
use Rattle.demand.specs.Demand3.{Recorded, ran_from, left_by}
use Rattle.demand.proofs.LoadsLaws.{finish-skips}
use Rattle.probes.specs.Probes.{Alike, NeverFull, by_one, to_one, Pair, skips_left, LoadAlike, Untouched, Apart}
use Rattle.probes.specs.Probes as probes
use Rattle.probes.proofs.Twins.{ones-self, Twin, twin-self, same-call, skipped-call, quiet-call}
use Rattle.probes.proofs.ImageLaws.{SameFor, loads-same, part_same, images-same, tables-same}

no : {X : Type 0} → true ≡ false → X
no z = let n : ◌≡◌ {A = ℕ} 0 1 = cc in absurd (omega arith)

module _ (settings : Settings) (ks : List SignalEncoding) (probe : ℕ → ℕ) where
  abbrev Names : Memory → Type 0
  Names m = (g : ℕ) → (record_at m g).probe ≡ probe g

  -- memory that stands for a model, and whose records name the probes
  record Here (m : Memory) (p : Model) (h : History) : Type 0 where
    stands : Stands settings ks m p h
    names : Names m

  abbrev next : Memory → Model → Call → Model
  next m p c = model_step ks settings p c (is_refusal (step m c).reply)

  -- ---- the answers

  change-reply : (m : Memory) (p : Model) (h : History) (s g : ℕ) (v : Given) → Here m p h → Roomy (step m (change s g v)).reply
      → (step m (change s g v)).reply ≡ change_reply ks (probe g) p s g v
  change-reply m p h s g v w r = change-judged settings ks m p s g v w.stands.rep r ∙ ap (λ (n : ℕ). change_reply ks n p s g v) (w.names g)

  reply-twin : (p q : Model) (s g : ℕ) (v : Given) → Twin probe p q → change_reply ks (probe g) p s g v ≡ change_reply ks (probe g) q s g v
  reply-twin p q s g v t = rw (t.closed, t.times, t.skips) refl

  -- a change that is not refused, and not skipped, names its signal's probe
  own : (p : Model) (s g : ℕ) (v : Given) → (skip_of p.skips s).on ≡ false → is_refusal (change_reply ks (probe g) p s g v) ≡ false → probe g ≡ s
  own p s g v z e =
      go p.closed (no_probe s) (no_time p.now.times) (unknown ks g) (eqb (probe g) s) refl
      (ap (λ (b : Bool). is_refusal (opening p.closed (no_probe s) (open_reply ks (probe g) p s g b v))) (sym z) ∙ e)
    where
      go : (a b c d f : Bool) → eqb (probe g) s ≡ f
          → is_refusal (pick a (refuse 2) (pick b (refuse 18) (pick c (refuse 3) (pick d (refuse 4) (pick (not f) (refuse 18) (value_reply (decode (get_or ks g Absent) v))))))) ≡ false
          → probe g ≡ s
      go true b c d f q z = no z
      go false true c d f q z = no z
      go false false true d f q z = no z
      go false false false true f q z = no z
      go false false false false false q z = no z
      go false false false false true q z = eqb-true (probe g) s q

  -- ---- one call of each

  record Both (c d : Call) (m n : Memory) (p q : Model) : Type 0 where
    twin : Twin probe (next m p c) (next n q d)
    same_one : by_one c ≡ by_one d
    reply : by_one c ≡ true → (step m c).reply ≡ (step n d).reply

  same-both : (c : Call) (m n : Memory) (p q : Model) (b : Bool) → is_refusal (step m c).reply ≡ b → is_refusal (step n c).reply ≡ b
      → (by_one c ≡ true → (step m c).reply ≡ (step n c).reply) → Twin probe p q → Both c c m n p q
  same-both c m n p q b e f r t = record { twin = rw (e, f) (same-call settings ks probe p q c b t); same_one = refl; reply = r }

  same-one : (c : Call) (m n : Memory) (p q : Model) (h k : History) → Here m p h → Here n q k → Twin probe p q → Roomy (step m c).reply → Roomy (step n c).reply
      → Both c c m n p q
  same-one (time s t) m n p q h k u w v x y =
      let e : (step m (time s t)).reply ≡ (step n (time s t)).reply =
      time-judged settings ks m p s t u.stands.rep x ∙ ap₂ (λ (b : Bool) (l : List ℕ). opening b (no_probe s) (say (way_answer (way_of l t)))) v.closed v.times
      ∙ sym (time-judged settings ks n q s t w.stands.rep y) in
      same-both (time s t) m n p q (is_refusal (step m (time s t)).reply) refl (ap is_refusal (sym e)) (λ z. e) v
  same-one (change s g a) m n p q h k u w v x y =
      let e : (step m (change s g a)).reply ≡ (step n (change s g a)).reply =
      change-reply m p h s g a u x ∙ reply-twin p q s g a v ∙ sym (change-reply n q k s g a w y) in
      same-both (change s g a) m n p q (is_refusal (step m (change s g a)).reply) refl (ap is_refusal (sym e)) (λ z. e) v
  same-one finish m n p q h k u w v x y =
      same-both finish m n p q p.closed (finish-judged settings ks m p u.stands.rep x) (finish-judged settings ks n q w.stands.rep y ∙ sym v.closed) (λ z. no (sym z)) v

  value-one : (g : ℕ) (a b : Given) (m n : Memory) (p q : Model) (h k : History) → Here m p h → Here n q k → Twin probe p q
      → Roomy (step m (change 0 g a)).reply → Roomy (step n (change 0 g b)).reply → Both (change 0 g a) (change 0 g b) m n p q
  value-one g a b m n p q h k u w v x y = record { twin = go (skip_of p.skips 0).on refl; same_one = refl; reply = λ z. no (sym z) }
    where
      first : (step m (change 0 g a)).reply ≡ change_reply ks (probe g) p 0 g a
      first = change-reply m p h 0 g a u x

      second : (step n (change 0 g b)).reply ≡ change_reply ks (probe g) q 0 g b
      second = change-reply n q k 0 g b w y

      over : (skip_of p.skips 0).on ≡ (skip_of q.skips 0).on
      over = ap (λ (k : Skips). (skip_of k 0).on) v.skips

      -- in a skip the value is not looked at
      unseen : (skip_of p.skips 0).on ≡ true → change_reply ks (probe g) p 0 g a ≡ change_reply ks (probe g) p 0 g b
      unseen z = rw z refl

      go : (o : Bool) → (skip_of p.skips 0).on ≡ o → Twin probe (next m p (change 0 g a)) (next n q (change 0 g b))
      go true z =
          let e : (step m (change 0 g a)).reply ≡ (step n (change 0 g b)).reply = first ∙ unseen z ∙ reply-twin p q 0 g b v ∙ sym second in
          subst (λ (c : Bool). Twin probe (next m p (change 0 g a)) (model_step ks settings q (change 0 g b) c)) (ap is_refusal e)
          (skipped-call settings ks probe p q g a b (is_refusal (step m (change 0 g a)).reply) z v)
      go false z =
          quiet-call settings ks probe p q g a b (is_refusal (step m (change 0 g a)).reply) (is_refusal (step n (change 0 g b)).reply) z
          (λ f. own p 0 g a z (ap is_refusal (sym first) ∙ f)) (λ f. own q 0 g b (sym over ∙ z) (ap is_refusal (sym second) ∙ f)) v

  -- ---- lists

  here-next : (m : Memory) (p : Model) (h : History) (c : Call) → CallFits c → Here m p h
      → Here (step m c).memory (next m p c) (tell ks settings.edition h c (is_refusal (step m c).reply)).next
  here-next m p h c f w = record { stands = step-stands settings ks m p h c f w.stands; names = λ g. step-probe m c g ∙ w.names g }

  record Ends (cs ds : List Call) (m n : Memory) : Type 0 where
    p : Model
    q : Model
    h : History
    k : History
    first : Here (run m cs).last p h
    second : Here (run n ds).last q k
    twin : Twin probe p q
    answers : to_one cs (run m cs).replies ≡ to_one ds (run n ds).replies

  to_one_lem : (b c : Bool) (r s : Reply) (x y : List Reply) → b ≡ c → (b ≡ true → r ≡ s) → x ≡ y → pick b (r ∷ x) x ≡ pick c (s ∷ y) y
  to_one_lem true true r s x y e f g = ap₂ (λ (z : Reply) (l : List Reply). z ∷ l) (f refl) g
  to_one_lem true false r s x y e f g = no e
  to_one_lem false true r s x y e f g = no (sym e)
  to_one_lem false false r s x y e f g = g

  -- one call of each, and the rest
  ends_with : (c d : Call) (cs ds : List Call) (m n : Memory) (p q : Model) → Both c d m n p q → Ends cs ds (step m c).memory (step n d).memory → Ends (c ∷ cs) (d ∷ ds) m n
  unfolding run to_one
  ends_with c d cs ds m n p q o e = record {
    p = e.p;
    q = e.q;
    h = e.h;
    k = e.k;
    first = e.first;
    second = e.second;
    twin = e.twin;
    answers = to_one_lem (by_one c) (by_one d) (step m c).reply (step n d).reply _ _ o.same_one o.reply e.answers;
  }

  all-calls : (cs ds : List Call) → Alike cs ds → (m n : Memory) (p q : Model) (h k : History) → Fitting cs → Fitting ds → Here m p h → Here n q k → Twin probe p q
      → NeverFull (run m cs).replies → NeverFull (run n ds).replies → Ends cs ds m n
  unfolding run to_one Fitting
  all-calls _ _ probes.none m n p q h k f g u w v x y = record { p = p; q = q; h = h; k = k; first = u; second = w; twin = v; answers = refl }
  all-calls _ _ (probes.same c cs ds a) m n p q h k f g u w v x y =
      let o = same-one c m n p q h k u w v x.0 y.0 in
      ends_with c c cs ds m n p q o
      (all-calls cs ds a (step m c).memory (step n c).memory _ _ _ _ f.1 g.1 (here-next m p h c f.0 u) (here-next n q k c g.0 w) o.twin x.1 y.1)
  all-calls _ _ (probes.value i a b cs ds l) m n p q h k f g u w v x y =
      let c : Call = change 0 i a in
      let d : Call = change 0 i b in
      let o = value-one i a b m n p q h k u w v x.0 y.0 in
      ends_with c d cs ds m n p q o
      (all-calls cs ds l (step m c).memory (step n d).memory _ _ _ _ f.1 g.1 (here-next m p h c f.0 u) (here-next n q k d g.0 w) o.twin x.1 y.1)

-- ---- two recordings

module _ (settings : Settings) (m : Memory) (cs ds : List Call) (n k : ℕ) (t : Pair settings m cs ds n k) where
  abbrev kinds : List SignalEncoding
  kinds = kinds_of m.records

  abbrev probe : ℕ → ℕ
  probe g = (record_at m g).probe

  abbrev begun : Memory
  begun = (start_of settings m).memory

  ends : Ends settings kinds probe cs ds begun begun
  ends =
      let w : Here settings kinds probe begun no_model no_history = record {
        stands = start-stands settings m (start-taken settings m t.first.start);
        names = start-probe settings m;
      } in
      all-calls settings kinds probe cs ds t.alike begun begun no_model no_model no_history no_history t.first.fitting t.second.fitting w w (twin-self probe no_model)
      t.first-room t.second-room

  -- the models after the accepted finish
  abbrev closed : Model → Model
  closed p = model_step kinds settings p finish false

  last : Twin probe (closed ends.p) (closed ends.q)
  last = same-call settings kinds probe ends.p ends.q finish false ends.twin

  abbrev image_in : Model → Image
  image_in p = image_for settings.limit kinds (closed p).blocks

  known : KnownKinds kinds
  known = known-kinds m.records (start-taken settings m t.first.start).known

  -- what is left is the image of the model's blocks
  parses : (calls : List Call) (size : ℕ) (p : Model) (h : History) → Here settings kinds probe (ran_from settings m calls).last p h → Recorded settings m calls size
      → parse (left_by settings m calls size) ≡ some (image_in p)
  parses calls size p h w r =
      let f = finish-leaves settings kinds (ran_from settings m calls).last p h size known w.stands r.end in
      ap parse (sym f.bytes-are) ∙ parse-of (image_in p) f.valid

  first-parses : parse (left_by settings m cs n) ≡ some (image_in ends.p)
  first-parses = parses cs n ends.p ends.h ends.first t.first

  second-parses : parse (left_by settings m ds k) ≡ some (image_in ends.q)
  second-parses = parses ds k ends.q ends.k ends.second t.second

  -- what is read of both images, where it is the same of the models'
  read_same : {A : Type 0} (f : Option Image → A) → f (some (image_in ends.p)) ≡ f (some (image_in ends.q)) → f (parse (left_by settings m cs n)) ≡ f (parse (left_by settings m ds k))
  read_same f e = ap f first-parses ∙ e ∙ sym (ap f second-parses)

  table_same : (out : List ℕ) → table_of (left_by settings m cs n) out ≡ table_of (left_by settings m ds k) out
  unfolding table_in
  table_same out =
      read_same (λ (o : Option Image). table_by o out)
      (ap (λ (ts : List ℕ). pick (ltb (length out) (length ts)) (table_after (reader.TableReply.refuse 9) out) (table_after (counted (length ts)) (sets out 0 ts)))
      (tables-same probe (length kinds) (closed ends.p).blocks (closed ends.q).blocks [] [] [] last.blocks))

  skips-same : skips_left settings m cs ≡ skips_left settings m ds
  skips-same =
      finish-skips (ran_from settings m cs).last ∙ ends.first.stands.rep.skips ∙ ends.twin.skips ∙ sym ends.second.stands.rep.skips
      ∙ sym (finish-skips (ran_from settings m ds).last)

  -- ---- a signal of probe 1

  module _ (g : ℕ) (one : probe g ≡ 1) where
    inside : g < length kinds
    inside = go m.records g one
      where
        go : (rs : List SignalRecord) (g : ℕ) → (get_or rs g no_record).probe ≡ 1 → g < length (kinds_of rs)
        go [] g e = absurd (omega arith)
        go (r ∷ rs) zero e = omega arith
        go (r ∷ rs) (suc g) e = let h = go rs g e in omega arith

    blocks-same : SameFor g (image_in ends.p).blocks (image_in ends.q).blocks
    blocks-same =
        images-same probe (length kinds) g inside one (closed ends.p).blocks (closed ends.q).blocks [] [] (ones-self probe []) last.blocks

    load_same : loads g (image_in ends.p).blocks ≡ loads g (image_in ends.q).blocks
    load_same = loads-same g (image_in ends.p).blocks (image_in ends.q).blocks (load [] [] 0) blocks-same

    abbrev missing : Bool
    missing = leb (length kinds) g || absent (get_or kinds g Absent)

    signal-same : LoadAlike (left_by settings m cs n) (left_by settings m ds k) g
    unfolding load_in cursor_in stream_of
    signal-same = record {
      load = λ index bytes.
          read_same (λ (o : Option Image). load_by o g index bytes)
          (ap (λ (l : Load). pick missing (load_after (reader.LoadReply.refuse 4) index bytes)
          (pick (ltb (length index) (length l.entries) || ltb (length bytes) (length (entries_bytes (get_or kinds g Absent) (signal_class l) l.entries)))
          (load_after (reader.LoadReply.refuse 9) index bytes)
          (load_after (loaded (length l.entries) (signal_class l)) (sets index 0 (map index_in l.entries))
          (sets bytes 0 (entries_bytes (get_or kinds g Absent) (signal_class l) l.entries))))) load_same);
      cursor = λ u symbols.
          read_same (λ (o : Option Image). cursor_from o g u symbols)
          (ap (λ (l : Load). pick missing (cursor_after (reader.CursorReply.refuse 4) symbols)
          (pick (ltb (length symbols) (width_of (get_or kinds g Absent))) (cursor_after (reader.CursorReply.refuse 9) symbols) (pointed l.times (entry_at l u) symbols))) load_same);
      stream = λ i.
          read_same (λ (o : Option Image). stream_from o i g)
          (ap (stream_in (get_or kinds g Absent)) (part_same g (image_in ends.p).blocks (image_in ends.q).blocks i blocks-same));
    }

  untouched : Untouched settings m cs ds n k
  untouched = record { answers = ends.answers; signals = signal-same; table = table_same; skips = skips-same }

pub apart : Apart
apart = record { untouched = untouched }
