-- One history after the other, computed: a shared time, a gap, and one time thrice.
-- Assumes nothing.
use Prim.Native.Nat.{ℕ}
use mathlib.Core.Path.{◌≡◌, refl}
use mathlib.Core.List.{List, [], ◌∷◌}
use Rattle.lists.specs.Last.{last_or}
use Rattle.lists.specs.Same.{same}
use Rattle.signal.specs.Content.{Content, symbols, happened}
use Rattle.stream.specs.Entries.{entry}
use Rattle.history.specs.History.{Change, History, history, list_of, kept_after, kept, kept_of, top_of, class_of, all_off}
use Rattle.history.specs.Followed.{placed_from, followed}

abbrev at : (place signal : ℕ) → Content → (class : ℕ) → Change
at p g a c = record { signal = g; place = p; content = a; class = c }

abbrev of : List ℕ → List Change → History
of ts cs = history ts cs all_off

-- times 1 and 5: "1" to signal 0 at 1, raw 11 with the claim 2 to signal 1 at 5
abbrev first : History
first = of (1 ∷ 5 ∷ []) (at 0 0 (symbols (1 ∷ [])) 0 ∷ at 1 1 (symbols (1 ∷ 1 ∷ [])) 2 ∷ [])

-- times 5 and 9: at 5 the same values again, at 9 "0" to signal 0
abbrev second : History
second = of (5 ∷ 9 ∷ []) (at 0 0 (symbols (1 ∷ [])) 0 ∷ at 0 1 (symbols (1 ∷ 1 ∷ [])) 0 ∷ at 1 0 (symbols (0 ∷ [])) 0 ∷ [])

-- 5 stands once; the values written again over the seam are not kept; the class is that of both
pub shared-time : let h = followed first second in
    (h.times ≡ 1 ∷ 5 ∷ 9 ∷ []) × (kept_of h 0 ≡ entry 0 (symbols (1 ∷ [])) ∷ entry 2 (symbols (0 ∷ [])) ∷ []) × (kept_of h 1 ≡ entry 1 (symbols (1 ∷ 1 ∷ [])) ∷ []) × (class_of h 1 ≡ 2)
unfolding last_or same placed_from list_of kept_after kept top_of
shared-time = (refl, refl, refl, refl)

-- nothing between 2 and 7; the second's change is at 7
pub gap : let h = followed (of (1 ∷ 2 ∷ []) (at 0 0 (symbols (0 ∷ [])) 0 ∷ [])) (of (7 ∷ []) (at 0 0 (symbols (2 ∷ [])) 1 ∷ [])) in
    (h.times ≡ 1 ∷ 2 ∷ 7 ∷ []) × (kept_of h 0 ≡ entry 0 (symbols (0 ∷ [])) ∷ entry 2 (symbols (2 ∷ [])) ∷ [])
unfolding last_or same placed_from list_of kept_after kept
gap = (refl, refl)

-- an event at 5, three times
abbrev five : History
five = of (5 ∷ []) (at 0 0 happened 0 ∷ [])

pub thrice : let h = followed (followed five five) five in (h.times ≡ 5 ∷ []) × (kept_of h 0 ≡ entry 0 happened ∷ entry 0 happened ∷ entry 0 happened ∷ [])
unfolding last_or placed_from list_of kept_after kept
thrice = (refl, refl)
