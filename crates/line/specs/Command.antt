-- What the answers of the code say, and the parts of a line that they leave in the line.
-- Assumes nothing.
use Rattle.std.specs.Prelude.{ℕ, suc, min, List, [], ◌∷◌, get_or, set, Option, Some, None, unwrap_or}
use Rattle.value.specs.declared.states.States.TheVariants.{Two}
use Rattle.signal.specs.declared.kind.SignalEncoding.{SignalEncoding}
use Rattle.recording.specs.declared.SignalRecord.{SignalRecord}
use Rattle.recording.specs.Memory.{record_of}
use Rattle.digits.specs.Numbers.{hex_bytes}
use Rattle.line.specs.declared.Command.{Command}
use Rattle.line.specs.declared.Command.TheVariants as command
use Rattle.line.specs.Words.{after}
use Rattle.line.specs.Line.{Line, nothing, lend, edition, probes, sender, start, time, vcd, raw, real, finish, notUnderstood, probes_in, kinds_in}

-- the bytes of HEX
unfoldable pub bytes_in : List ℕ → List ℕ
bytes_in s = unwrap_or (hex_bytes s) []

-- the numbers of `probes`
abbrev pub probe_list : List ℕ → List ℕ
probe_list l = unwrap_or (probes_in l) []

-- the kinds of a start
abbrev pub kind_list : List ℕ → List SignalEncoding
kind_list l = unwrap_or (kinds_in l) []

-- a command, with the parts that it leaves in its line
unfoldable pub shown : List ℕ → Command → Line
shown l command.Nothing = nothing
shown l (command.Lend t w i) = lend t w i
shown l (command.Edition n) = edition n
shown l command.Probes = probes (probe_list l)
shown l (command.Sender n) = sender n
shown l (command.Start s b) = start s b (kind_list l)
shown l (command.Time n) = time n
shown l (command.Vcd g) = vcd g (after 2 l)
shown l (command.Raw g c) = raw g c (bytes_in (after 3 l))
shown l (command.Real g n) = real g n
shown l command.Finish = finish
shown l command.NotUnderstood = notUnderstood

-- the same, where a line that is not understood has none
abbrev pub said : List ℕ → Option Command → Line
said l None = notUnderstood
said l (Some c) = shown l c

-- a number stored; nothing where there is none
abbrev pub put_number : List ℕ → (at : ℕ) → Option ℕ → List ℕ
put_number s at None = s
put_number s at (Some n) = set s at n

-- the record of a signal that has no change yet
abbrev pub record_for : SignalEncoding → (probe : ℕ) → SignalRecord
record_for k p = record_of k 0 Two p

-- the probe at a place, 0 where none is said. A record's has 8 bits: one over 255 is handed to start, which refuses it, as 255
abbrev pub probe_at : List ℕ → (at : ℕ) → ℕ
probe_at ps at = min (get_or ps at 0) 255

-- the records of a start's kinds; the first names the probe at a place, and so on
unfoldable pub records_for : (probes : List ℕ) (at : ℕ) → List SignalEncoding → List SignalRecord
records_for ps at [] = []
records_for ps at (k ∷ ks) = record_for k (probe_at ps at) ∷ records_for ps (suc at) ks

-- the record of a kind stored; nothing where there is none
abbrev pub put_kind : List SignalRecord → (at probe : ℕ) → Option SignalEncoding → List SignalRecord
put_kind rs at p None = rs
put_kind rs at p (Some k) = set rs at (record_for k p)
