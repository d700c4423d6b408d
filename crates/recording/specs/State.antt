-- What a start is given, and the state of a recording, field by field. antt has no update of one field: what changes some of them names the
-- setters here.
-- Assumes nothing.
use Rattle.std.specs.Prelude.{ℕ, Bool, true, false, eqb}
use Rattle.lists.specs.Choice.{pick}
use Rattle.image.specs.Head.{head_size}
use Rattle.recording.specs.declared.Encoder.{Encoder}
use Rattle.recording.specs.declared.ProbeSkip.{ProbeSkip}
use Rattle.recording.specs.declared.Settings.{Settings}
use Rattle.recording.specs.declared.Skips.{Skips}
use Rattle.recording.specs.Calls.{counted}

-- ---- what a start is given

abbrev pub settings_of : (limit signals edition : ℕ) → Settings
settings_of l s e = record { limit = l; signals = s; edition = e }

-- ---- the skip of a probe

abbrev pub probe_skip : (on : Bool) (count : ℕ) → ProbeSkip
probe_skip b n = record { on = b; count = n }

-- at a start
abbrev pub no_skip : ProbeSkip
no_skip = probe_skip false 0

-- a time went back
unfoldable pub skip_begun : ProbeSkip → ProbeSkip
skip_begun k = probe_skip true k.count

-- it ends, as where a time was taken
unfoldable pub skip_ended : ProbeSkip → ProbeSkip
skip_ended k = probe_skip false k.count

-- document 02, (j): an equal time came, which ends a skip in edition 2
unfoldable pub skip_same : (edition : ℕ) → ProbeSkip → ProbeSkip
skip_same e k = pick (eqb e 2) (skip_ended k) k

-- a change was skipped
unfoldable pub skip_counted : ProbeSkip → ProbeSkip
skip_counted k = probe_skip k.on (counted k.count)

-- ---- document 02, (k): the skips of both probes

abbrev pub both_skips : (zero one : ProbeSkip) → Skips
both_skips k l = record { zero = k; one = l }

abbrev pub no_skips : Skips
no_skips = both_skips no_skip no_skip

-- a sender's; a sender above 1 is refused before
unfoldable pub skip_of : Skips → (sender : ℕ) → ProbeSkip
skip_of s p = pick (eqb p 0) s.zero s.one

unfoldable pub with_skip : Skips → (sender : ℕ) → ProbeSkip → Skips
with_skip s p k = pick (eqb p 0) (both_skips k s.one) (both_skips s.zero k)

-- the sender's becomes what f says; the other probe's stays
abbrev pub on_skip : (ProbeSkip → ProbeSkip) → Skips → (sender : ℕ) → Skips
on_skip f s p = with_skip s p (f (skip_of s p))

-- ---- the state

abbrev encoder : (closed : Bool) (limit signals held work image blocks edition : ℕ) → Skips → Encoder
encoder c l s h w i b e k = record { closed = c; limit = l; signals = s; held = h; work = w; image = i; blocks = b; edition = e; skips = k }

abbrev pub with_closed : Encoder → Bool → Encoder
with_closed s c = encoder c s.limit s.signals s.held s.work s.image s.blocks s.edition s.skips

abbrev pub with_held : Encoder → ℕ → Encoder
with_held s h = encoder s.closed s.limit s.signals h s.work s.image s.blocks s.edition s.skips

abbrev pub with_work : Encoder → ℕ → Encoder
with_work s w = encoder s.closed s.limit s.signals s.held w s.image s.blocks s.edition s.skips

abbrev pub with_image : Encoder → ℕ → Encoder
with_image s i = encoder s.closed s.limit s.signals s.held s.work i s.blocks s.edition s.skips

abbrev pub with_blocks : Encoder → ℕ → Encoder
with_blocks s b = encoder s.closed s.limit s.signals s.held s.work s.image b s.edition s.skips

abbrev pub with_edition : Encoder → ℕ → Encoder
with_edition s e = encoder s.closed s.limit s.signals s.held s.work s.image s.blocks e s.skips

abbrev pub with_skips : Encoder → Skips → Encoder
with_skips s k = encoder s.closed s.limit s.signals s.held s.work s.image s.blocks s.edition k

-- as a start leaves it: no times and no blocks; of the image its head is used
abbrev pub start_state : Settings → Encoder
start_state settings = encoder false settings.limit settings.signals 0 0 (head_size settings.signals) 0 settings.edition no_skips

-- before the first start: nothing is open
abbrev pub closed_state : Encoder
closed_state = encoder true 0 0 0 0 0 0 0 no_skips
