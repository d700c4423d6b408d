-- What the cursor answered, as the words that the code writes of it.
-- Laws: proofs/AnswerLaws.
-- Assumes nothing.
use Rattle.std.specs.Prelude.{ℕ, ◌≡◌, true, List, ◌++◌}
use Rattle.ascii.specs.Ascii.{ascii, decimal}
use Rattle.value.specs.Class.{all_symbols}
use Rattle.loaded.specs.Reader.{CursorReply, refuse, nothing, found}
use Rattle.listing_text.specs.Written.{shown_words}

-- an answer, whose symbols stand beside it. The symbol buffer is long enough, so that only an absent signal is refused
abbrev pub answer_words : CursorReply → (symbols : List ℕ) → List ℕ
answer_words (found n t e) s = ascii "entry " ++ decimal n ++ ascii " time " ++ decimal t ++ shown_words e s
answer_words nothing s = ascii "none"
answer_words (refuse n) s = ascii "absent"

-- the symbols of an entry are symbols
abbrev pub AnswerFine : CursorReply → (symbols : List ℕ) → Type 0
AnswerFine (found n t e) s = all_symbols s ≡ true
AnswerFine nothing s = Unit {0}
AnswerFine (refuse n) s = Unit {0}
