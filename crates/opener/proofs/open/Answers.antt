use mathlib.Core.Path.{sym, ◌∙◌}
use native.Mathlib.Omega.{arith}
use Rattle.opener.proofs.OpenLaws.{head-says, open-head, open_blocks}
use Rattle.opener.proofs.open.Goals as goal

pub returns-then-not-is_head : goal.returns-then-not-is_head
returns-then-not-is_head c = open-head _ (λ j. (c.type_inv.image j).fits) _ c.is_head.ensures (c.if-not-is_head.true)

pub get_u32-requires : goal.get_u32-requires
get_u32-requires c = let w = head-says _ (sym c.is_head.ensures ∙ c.if-not-is_head.false) in let h = w.0 in omega arith

pub get_u32-requires-2 : goal.get_u32-requires-2
get_u32-requires-2 c = let w = head-says _ (sym c.is_head.ensures ∙ c.if-not-is_head.false) in let h = w.0 in omega arith

pub get_u32-requires-3 : goal.get_u32-requires-3
get_u32-requires-3 c = let w = head-says _ (sym c.is_head.ensures ∙ c.if-not-is_head.false) in let h = w.0 in omega arith

pub blocks_fill-requires : goal.blocks_fill-requires
blocks_fill-requires c =
    let w = head-says _ (sym c.is_head.ensures ∙ c.if-not-is_head.false) in
    let p = c.get_u32.ensures in let q = c.get_u32-2.ensures in let r = w.1.head-room in let s = w.1.signals-small in let t = w.1.limit-small in
    (omega arith, omega arith, omega arith)

pub returns : goal.returns
returns c =
    open_blocks _ (λ j. (c.type_inv.image j).fits) _
    c.is_head.ensures _ _ _ _ (c.if-not-is_head.false)
    c.get_u32.ensures c.get_u32-2.ensures c.get_u32-3.ensures c.blocks_fill.ensures
