-- Document 01, 'Block and image' ("Opener"), with document 02's joins: which images a recording can leave or a join make. So every block by itself
-- passes the rules of a first block, and starts at or after the end before it. Offsets, sizes, counts and the shape of a stream's bytes are no
-- matter here: `image_bytes` writes them in one way only. The second half of the file decides each rule.
-- Assumes nothing.
use Rattle.std.specs.Prelude.{ℕ, zero, suc, ◌≤◌, ◌<◌, ◌^◌, ◌≡◌, true, List, [], ◌∷◌, length, get_or}
use Rattle.std.proofs.Math.Option.{Option, some, none}
use Rattle.lists.specs.Last.{last_or}
use Rattle.value.specs.Class.{class_of_all, all_symbols}
use Rattle.signal.specs.declared.kind.SignalEncoding.{SignalEncoding}
use Rattle.signal.specs.declared.kind.SignalEncoding.TheVariants.{BitVector, Real, Absent}
use Rattle.signal.specs.Kind.{known_kind, top_limit}
use Rattle.signal.specs.Content.{Content, happened, symbols, bits, symbols_of, ContentFits}
use Rattle.stream.specs.Entries.{Entry}
use Rattle.image.specs.Block.{Part, Block}
use Rattle.image.specs.Head.{image_limit}
use Rattle.image.specs.Image.{Image, image_bytes}
use Rattle.form.specs.Decide.{le?, lt?, eq?, holds?, both, always, impossible, map_dec}

-- each is above the one before it, the first above t
abbrev pub RisingFrom : ℕ → List ℕ → Type 0
RisingFrom t [] = Unit {0}
RisingFrom t (u ∷ l) = (t < u) × RisingFrom u l

abbrev pub Rising : List ℕ → Type 0
Rising [] = Unit {0}
Rising (t ∷ l) = RisingFrom t l

-- every one is below n
abbrev pub EachBelow : ℕ → List ℕ → Type 0
EachBelow n [] = Unit {0}
EachBelow n (x ∷ l) = (x < n) × EachBelow n l

abbrev pub KnownKinds : List SignalEncoding → Type 0
KnownKinds [] = Unit {0}
KnownKinds (k ∷ l) = (known_kind k ≡ true) × KnownKinds l

-- an entry of a signal of kind k in a block of n times: at index i or later, of a content that the kind can hold and of a class at most top
pub record EntryFits (k : SignalEncoding) (n i top : ℕ) (e : Entry) : Type 0 where
  pub later : i ≤ e.index
  pub inside : e.index < n
  pub content : ContentFits k e.content
  pub class : class_of_all (symbols_of e.content) ≤ top

abbrev pub EntriesFit : (k : SignalEncoding) (n i top : ℕ) → List Entry → Type 0
EntriesFit k n i top [] = Unit {0}
EntriesFit k n i top (e ∷ l) = EntryFits k n i top e × EntriesFit k n e.index top l

-- a part is there for a signal with changes only (so for no absent one); a raw claim may raise its top class above its stream's classes, and
-- for events and reals it is 0
pub record PartFits (k : SignalEncoding) (n : ℕ) (p : Part (List Entry)) : Type 0 where
  pub any : 0 < length p.stream
  pub most : p.top ≤ top_limit k
  pub entries : EntriesFit k n 0 p.top p.stream

abbrev pub OptionFits : (k : SignalEncoding) (n : ℕ) → Option (Part (List Entry)) → Type 0
OptionFits k n none = Unit {0}
OptionFits k n (some p) = PartFits k n p

-- one for each signal
abbrev pub PartsFit : (n : ℕ) → List SignalEncoding → List (Option (Part (List Entry))) → Type 0
PartsFit n [] [] = Unit {0}
PartsFit n [] (p ∷ ps) = ⊥
PartsFit n (k ∷ ks) [] = ⊥
PartsFit n (k ∷ ks) (p ∷ ps) = OptionFits k n p × PartsFit n ks ps

-- a block by itself: at most B times, and one at least
pub record BlockFits (limit : ℕ) (ks : List SignalEncoding) (b : Block (List Entry)) : Type 0 where
  pub any : 1 ≤ length b.times
  pub few : length b.times ≤ limit
  pub rising : Rising b.times
  pub small : EachBelow (2 ^ 64) b.times
  pub parts : PartsFit (length b.times) ks b.parts

-- it starts at or after the end before it, if any
abbrev pub Starts : (end : Option ℕ) → List ℕ → Type 0
Starts none ts = Unit {0}
Starts (some t) ts = t ≤ get_or ts 0 0

abbrev pub BlocksFit : (limit : ℕ) → List SignalEncoding → (end : Option ℕ) → List (Block (List Entry)) → Type 0
BlocksFit limit ks end [] = Unit {0}
BlocksFit limit ks end (b ∷ bs) = Starts end b.times × (BlockFits limit ks b × BlocksFit limit ks (some (last_or 0 b.times)) bs)

-- B, S and kinds as a start takes them; at most 1,073,741,824 bytes
pub record Valid (x : Image) : Type 0 where
  pub low : 2 ≤ x.limit
  pub high : x.limit ≤ 65535
  pub signals : length x.kinds ≤ 65536
  pub kinds : KnownKinds x.kinds
  pub total : length (image_bytes x) ≤ image_limit
  pub blocks : BlocksFit x.limit x.kinds none x.blocks

-- ---- decided

unfoldable pub rising_from? : (t : ℕ) (l : List ℕ) → Dec (RisingFrom t l)
rising_from? t [] = always
rising_from? t (u ∷ l) = both (lt? t u) (rising_from? u l)

unfoldable pub rising? : (l : List ℕ) → Dec (Rising l)
rising? [] = always
rising? (t ∷ l) = rising_from? t l

unfoldable pub each_below? : (n : ℕ) (l : List ℕ) → Dec (EachBelow n l)
each_below? n [] = always
each_below? n (x ∷ l) = both (lt? x n) (each_below? n l)

unfoldable pub known_kinds? : (l : List SignalEncoding) → Dec (KnownKinds l)
known_kinds? [] = always
known_kinds? (k ∷ l) = both (holds? (known_kind k)) (known_kinds? l)

unfoldable pub content_fits? : (k : SignalEncoding) (c : Content) → Dec (ContentFits k c)
content_fits? (BitVector zero) happened = always
content_fits? (BitVector zero) (symbols s) = impossible
content_fits? (BitVector zero) (bits b) = impossible
content_fits? (BitVector (suc w)) happened = impossible
content_fits? (BitVector (suc w)) (symbols s) = both (eq? (length s) (suc w)) (holds? (all_symbols s))
content_fits? (BitVector (suc w)) (bits b) = impossible
content_fits? Real happened = impossible
content_fits? Real (symbols s) = impossible
content_fits? Real (bits b) = lt? b (2 ^ 64)
content_fits? Absent c = impossible

unfoldable pub entry_fits? : (k : SignalEncoding) (n i top : ℕ) (e : Entry) → Dec (EntryFits k n i top e)
entry_fits? k n i top e =
    map_dec (λ p. record { later = p.0; inside = p.1.0; content = p.1.1.0; class = p.1.1.1 }) (λ r. (r.later, (r.inside, (r.content, r.class))))
    (both (le? i e.index) (both (lt? e.index n) (both (content_fits? k e.content) (le? (class_of_all (symbols_of e.content)) top))))

unfoldable pub entries_fit? : (k : SignalEncoding) (n i top : ℕ) (l : List Entry) → Dec (EntriesFit k n i top l)
entries_fit? k n i top [] = always
entries_fit? k n i top (e ∷ l) = both (entry_fits? k n i top e) (entries_fit? k n e.index top l)

unfoldable pub part_fits? : (k : SignalEncoding) (n : ℕ) (p : Option (Part (List Entry))) → Dec (OptionFits k n p)
part_fits? k n none = always
part_fits? k n (some p) =
    map_dec (λ q. record { any = q.0; most = q.1.0; entries = q.1.1 }) (λ r. (r.any, (r.most, r.entries)))
    (both (lt? 0 (length p.stream)) (both (le? p.top (top_limit k)) (entries_fit? k n 0 p.top p.stream)))

unfoldable pub parts_fit? : (n : ℕ) (ks : List SignalEncoding) (ps : List (Option (Part (List Entry)))) → Dec (PartsFit n ks ps)
parts_fit? n [] [] = always
parts_fit? n [] (p ∷ ps) = impossible
parts_fit? n (k ∷ ks) [] = impossible
parts_fit? n (k ∷ ks) (p ∷ ps) = both (part_fits? k n p) (parts_fit? n ks ps)

unfoldable pub block_fits? : (limit : ℕ) (ks : List SignalEncoding) (b : Block (List Entry)) → Dec (BlockFits limit ks b)
block_fits? limit ks b =
    map_dec (λ q. record { any = q.0; few = q.1.0; rising = q.1.1.0; small = q.1.1.1.0; parts = q.1.1.1.1 })
    (λ r. (r.any, (r.few, (r.rising, (r.small, r.parts)))))
    (both (le? 1 (length b.times)) (both (le? (length b.times) limit) (both (rising? b.times) (both (each_below? (2 ^ 64) b.times)
    (parts_fit? (length b.times) ks b.parts)))))

unfoldable pub starts? : (end : Option ℕ) (ts : List ℕ) → Dec (Starts end ts)
starts? none ts = always
starts? (some t) ts = le? t (get_or ts 0 0)

unfoldable pub blocks_fit? : (limit : ℕ) (ks : List SignalEncoding) (end : Option ℕ) (bs : List (Block (List Entry))) → Dec (BlocksFit limit ks end bs)
blocks_fit? limit ks end [] = always
blocks_fit? limit ks end (b ∷ bs) =
    both (starts? end b.times) (both (block_fits? limit ks b) (blocks_fit? limit ks (some (last_or 0 b.times)) bs))

unfoldable pub valid? : (x : Image) → Dec (Valid x)
valid? x =
    map_dec (λ q. record { low = q.0; high = q.1.0; signals = q.1.1.0; kinds = q.1.1.1.0; total = q.1.1.1.1.0; blocks = q.1.1.1.1.1 })
    (λ r. (r.low, (r.high, (r.signals, (r.kinds, (r.total, r.blocks))))))
    (both (le? 2 x.limit) (both (le? x.limit 65535) (both (le? (length x.kinds) 65536) (both (known_kinds? x.kinds)
    (both (le? (length (image_bytes x)) image_limit) (blocks_fit? x.limit x.kinds none x.blocks))))))
