-- How one entry is answered: document 01, 'Loaded signal'.
-- Assumes nothing.
use Rattle.std.specs.Prelude.{ℕ, ◌≡◌, List}
use Rattle.std.proofs.lemmas.List.Edits.{sets}
use Rattle.value.specs.declared.real.Entry as declared
use Rattle.signal.specs.Content.{Content, symbols_of, real_bits}
use Rattle.loaded.specs.Reader.{entry_reply, shown_as}

-- the answer says a content, its bits are a real's and else 0, and a vector's symbols, and nothing else, were written to the start of out
abbrev pub Shows : declared.Entry → (out new : List ℕ) → Content → Type 0
Shows e out new c = (entry_reply e ≡ shown_as c) × (e.bits ≡ real_bits c) × (new ≡ sets out 0 (symbols_of c))
