-- By the first word, in the order of the tests.
-- Assumes nothing.
use Rattle.std.proofs.Common.{ℕ, ◌≡◌, ◌∙◌, Bool, List, sym, ap}
use Prim.Native.String.{String}
use Rattle.lists.specs.Same.{same}
use Rattle.ascii.specs.Ascii.{ascii}
use Rattle.line.proofs.CallLaws.{call-lend, call-start, call-time, call-choice, choice-edition, choice-probes, choice-sender, choice-change, change-vcd, change-raw, change-real}
use Rattle.line.proofs.CallLaws.{change-finish, said-finish}
use Rattle.lists.specs.Choice.{pick}
use Rattle.line.specs.Line.{finish, notUnderstood}
use Rattle.line.proofs.read_call.Goals as goal

-- the word w of the line, held against a name by the answer r
is : (name : String) {s w : List ℕ} {r v : Bool} → s ≡ w → r ≡ same s (ascii name) → r ≡ v → same w (ascii name) ≡ v
is name p e q = sym (ap (λ (x : List ℕ). same x (ascii name)) p) ∙ sym e ∙ q

pub returns-then-spells : goal.returns-then-spells
returns-then-spells c =
    let l = c.args.line.now in
    c.read_lend.ensures ∙ sym (call-lend l (is "lend" c.word-name.ensures c.spells.ensures c.if-spells.true))

pub returns-then-spells-2 : goal.returns-then-spells-2
returns-then-spells-2 c =
    let l = c.args.line.now in
    c.read_start.ensures ∙ sym (call-start l (is "lend" c.word-name.ensures c.spells.ensures c.if-spells.false) (is "start" c.word-name.ensures c.spells-else-spells.ensures c.if-spells-2.true))

pub returns-then-spells-3 : goal.returns-then-spells-3
returns-then-spells-3 c =
    let l = c.args.line.now in
    c.read_time.ensures ∙ sym (call-time l (is "lend" c.word-name.ensures c.spells.ensures c.if-spells.false) (is "start" c.word-name.ensures c.spells-else-spells.ensures
    c.if-spells-2.false) (is "time" c.word-name.ensures c.spells-else-spells-2.ensures c.if-spells-3.true))

pub returns-then-spells-4 : goal.returns-then-spells-4
returns-then-spells-4 c =
    let l = c.args.line.now in
    c.read_edition.ensures ∙ sym (call-choice l (is "lend" c.word-name.ensures c.spells.ensures c.if-spells.false) (is "start" c.word-name.ensures c.spells-else-spells.ensures
    c.if-spells-2.false) (is "time" c.word-name.ensures c.spells-else-spells-2.ensures c.if-spells-3.false)
    ∙ choice-edition l (is "edition" c.word-name.ensures c.spells-else-spells-3.ensures c.if-spells-4.true))

pub returns-then-spells-5 : goal.returns-then-spells-5
returns-then-spells-5 c =
    let l = c.args.line.now in
    c.read_probes.ensures ∙ sym (call-choice l (is "lend" c.word-name.ensures c.spells.ensures c.if-spells.false) (is "start" c.word-name.ensures c.spells-else-spells.ensures
    c.if-spells-2.false) (is "time" c.word-name.ensures c.spells-else-spells-2.ensures c.if-spells-3.false)
    ∙ choice-probes l (is "edition" c.word-name.ensures c.spells-else-spells-3.ensures c.if-spells-4.false) (is "probes" c.word-name.ensures c.spells-else-spells-4.ensures c.if-spells-5.true))

pub returns-then-spells-6 : goal.returns-then-spells-6
returns-then-spells-6 c =
    let l = c.args.line.now in
    c.read_sender.ensures ∙ sym (call-choice l (is "lend" c.word-name.ensures c.spells.ensures c.if-spells.false) (is "start" c.word-name.ensures c.spells-else-spells.ensures
    c.if-spells-2.false) (is "time" c.word-name.ensures c.spells-else-spells-2.ensures c.if-spells-3.false)
    ∙ choice-sender l (is "edition" c.word-name.ensures c.spells-else-spells-3.ensures c.if-spells-4.false) (is "probes" c.word-name.ensures c.spells-else-spells-4.ensures
    c.if-spells-5.false) (is "sender" c.word-name.ensures c.spells-else-spells-5.ensures c.if-spells-6.true))

pub returns-then-spells-7 : goal.returns-then-spells-7
returns-then-spells-7 c =
    let l = c.args.line.now in
    c.read_vcd.ensures ∙ sym (call-choice l (is "lend" c.word-name.ensures c.spells.ensures c.if-spells.false) (is "start" c.word-name.ensures c.spells-else-spells.ensures
    c.if-spells-2.false) (is "time" c.word-name.ensures c.spells-else-spells-2.ensures c.if-spells-3.false)
    ∙ choice-change l (is "edition" c.word-name.ensures c.spells-else-spells-3.ensures c.if-spells-4.false) (is "probes" c.word-name.ensures c.spells-else-spells-4.ensures
    c.if-spells-5.false) (is "sender" c.word-name.ensures c.spells-else-spells-5.ensures c.if-spells-6.false)
    ∙ change-vcd l (is "vcd" c.word-name.ensures c.spells-else-spells-6.ensures c.if-spells-7.true))

pub returns-then-spells-8 : goal.returns-then-spells-8
returns-then-spells-8 c =
    let l = c.args.line.now in
    c.read_raw.ensures ∙ sym (call-choice l (is "lend" c.word-name.ensures c.spells.ensures c.if-spells.false) (is "start" c.word-name.ensures c.spells-else-spells.ensures
    c.if-spells-2.false) (is "time" c.word-name.ensures c.spells-else-spells-2.ensures c.if-spells-3.false)
    ∙ choice-change l (is "edition" c.word-name.ensures c.spells-else-spells-3.ensures c.if-spells-4.false) (is "probes" c.word-name.ensures c.spells-else-spells-4.ensures
    c.if-spells-5.false) (is "sender" c.word-name.ensures c.spells-else-spells-5.ensures c.if-spells-6.false)
    ∙ change-raw l (is "vcd" c.word-name.ensures c.spells-else-spells-6.ensures c.if-spells-7.false) (is "raw" c.word-name.ensures c.spells-else-spells-7.ensures c.if-spells-8.true))

pub returns-then-spells-9 : goal.returns-then-spells-9
returns-then-spells-9 c =
    let l = c.args.line.now in
    c.read_real.ensures ∙ sym (call-choice l (is "lend" c.word-name.ensures c.spells.ensures c.if-spells.false) (is "start" c.word-name.ensures c.spells-else-spells.ensures
    c.if-spells-2.false) (is "time" c.word-name.ensures c.spells-else-spells-2.ensures c.if-spells-3.false)
    ∙ choice-change l (is "edition" c.word-name.ensures c.spells-else-spells-3.ensures c.if-spells-4.false) (is "probes" c.word-name.ensures c.spells-else-spells-4.ensures
    c.if-spells-5.false) (is "sender" c.word-name.ensures c.spells-else-spells-5.ensures c.if-spells-6.false)
    ∙ change-real l (is "vcd" c.word-name.ensures c.spells-else-spells-6.ensures c.if-spells-7.false) (is "raw" c.word-name.ensures c.spells-else-spells-7.ensures c.if-spells-8.false)
    (is "real" c.word-name.ensures c.spells-else-spells-8.ensures c.if-spells-9.true))

pub returns-else-spells-9 : goal.returns-else-spells-9
returns-else-spells-9 c =
    let l = c.args.line.now in
    said-finish l _ c.then_some.ensures ∙ sym (call-choice l (is "lend" c.word-name.ensures c.spells.ensures c.if-spells.false) (is "start" c.word-name.ensures
    c.spells-else-spells.ensures c.if-spells-2.false) (is "time" c.word-name.ensures c.spells-else-spells-2.ensures c.if-spells-3.false)
    ∙ choice-change l (is "edition" c.word-name.ensures c.spells-else-spells-3.ensures c.if-spells-4.false) (is "probes" c.word-name.ensures c.spells-else-spells-4.ensures
    c.if-spells-5.false) (is "sender" c.word-name.ensures c.spells-else-spells-5.ensures c.if-spells-6.false)
    ∙ change-finish l (is "vcd" c.word-name.ensures c.spells-else-spells-6.ensures c.if-spells-7.false) (is "raw" c.word-name.ensures c.spells-else-spells-7.ensures
    c.if-spells-8.false) (is "real" c.word-name.ensures c.spells-else-spells-8.ensures c.if-spells-9.false)
    ∙ ap (λ (b : Bool). pick b finish notUnderstood) (sym c.spells-else-spells-9.ensures))
