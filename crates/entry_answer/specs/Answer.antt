-- Document 01, 'Loaded signal': the bytes of one entry answered as an event, as symbols with their class, or as a real. The symbols go into a
-- lent buffer, one number a byte, leftmost first.
-- Law (proofs/AnswerTrip): the bytes of a content that fits are answered as that content.
-- Assumes nothing.
use Rattle.std.specs.Prelude.{ℕ, zero, suc, Bool, true, false, ◌&&◌, List, length, ltb, leb, eqb, Option, Some, None, Result, Ok, Err}
use Rattle.std.proofs.lemmas.List.Edits.{sets}
use Rattle.lists.specs.Choice.{pick}
use Rattle.value.specs.Class.{all_symbols}
use Rattle.value.specs.declared.real.Entry as declared
use Rattle.signal.specs.declared.kind.SignalEncoding.{SignalEncoding}
use Rattle.signal.specs.declared.kind.SignalEncoding.TheVariants.{BitVector, Real, Absent}
use Rattle.signal.specs.Kind.{width_of}
use Rattle.signal.specs.Content.{Content, symbols_of}
use Rattle.loaded.specs.EntryBytes.{own_class_in, vector_content, entry_of}
use Rattle.loaded.specs.Reader.{Shown, shown_as, entry_reply}
use Rattle.refusal.specs.declared.Refusal.{Refusal}
use Rattle.refusal.specs.Refusal.{refusal_number}
use Rattle.entry.specs.Length.{entry_length}

pub data EntryReply : Type 0 where
  refuse : ℕ → EntryReply
  noEntry : EntryReply
  shown : Shown → EntryReply

-- what the bytes say, if they are an entry
abbrev pub held_reply : Option declared.Entry → EntryReply
held_reply (Some e) = shown (entry_reply e)
held_reply None = noEntry

abbrev pub answer_reply : Result (Option declared.Entry) Refusal → EntryReply
answer_reply (Ok o) = held_reply o
answer_reply (Err r) = refuse (refusal_number r)

-- the answer, and the lent buffer afterwards
pub record EntryAfter : Type 0 where
  pub reply : EntryReply
  pub symbols : List ℕ

abbrev pub entry_after : EntryReply → List ℕ → EntryAfter
entry_after r s = record { reply = r; symbols = s }

-- a wider vector's own class is at most C, and no symbol is above 8
abbrev pub vector_holds : (width C : ℕ) → List ℕ → Bool
vector_holds zero c b = true
vector_holds (suc zero) c b = all_symbols (symbols_of (vector_content (suc zero) c b))
vector_holds (suc (suc w)) c b = leb (own_class_in c b) c && all_symbols (symbols_of (vector_content (suc (suc w)) c b))

-- an absent signal has no entry
abbrev pub holds : SignalEncoding → (C : ℕ) → List ℕ → Bool
holds (BitVector w) c b = vector_holds w c b
holds Real c b = true
holds Absent c b = false

-- whether bytes are taken for an entry of a signal of a kind and class: they are as long as each of its entries, and hold a content
unfoldable pub is_entry : SignalEncoding → (C : ℕ) → List ℕ → Bool
is_entry k c b = eqb (length b) (entry_length k c) && holds k c b

-- a content is answered, where the bytes hold it
abbrev pub content_after : (there : Bool) → Content → (out : List ℕ) → EntryAfter
content_after t a out = pick t (entry_after (shown (shown_as a)) (sets out 0 (symbols_of a))) (entry_after noEntry out)

-- 9: a vector's width exceeds the lent buffer, judged by the kind alone. Nothing is written unless the bytes are an entry
unfoldable pub entry_value_of : SignalEncoding → (C : ℕ) → (bytes out : List ℕ) → EntryAfter
entry_value_of k c b out = pick (ltb (length out) (width_of k)) (entry_after (refuse 9) out) (content_after (is_entry k c b) (entry_of k c b) out)
