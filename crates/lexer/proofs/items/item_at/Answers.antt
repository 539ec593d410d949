-- `item_at` meets its contract, by the byte that stands there.
use mathlib.Core.Path.{refl}
use Rattle.lexemes.proofs.Bytes.{byte_at}
use Rattle.lexer.proofs.ItemCases.{as-atom, atom-escape, atom-class, atom-dot, atom-caret, atom-dollar, atom-byte}
use Rattle.lexer.proofs.items.item_at.Goals as goal

pub returns-in-92 : goal.returns-in-92
returns-in-92 c = λ known. as-atom _ known _ _ c.ignores_case-folded.ensures _ c.escape_at.result (atom-escape _ _ known _ _ _ (byte_at _ _ c.requires.1) _ c.ignores_case-folded.ensures c.in-92.is) (c.escape_at.ensures known)

pub returns-in-91 : goal.returns-in-91
returns-in-91 c = λ known. as-atom _ known _ _ refl _ c.class_item.result (atom-class _ _ known _ _ _ (byte_at _ _ c.requires.1) _ refl c.in-91.is) (c.class_item.ensures known)

pub returns-in-46 : goal.returns-in-46
returns-in-46 c = λ known. as-atom _ known _ _ refl _ c.byte_item.result (atom-dot _ _ known _ _ _ (byte_at _ _ c.requires.1) _ refl c.in-46.is) (c.byte_item.ensures _ _ known _ (c.dot.ensures _))

pub returns-in-94 : goal.returns-in-94
returns-in-94 c = λ known. as-atom _ known _ _ refl _ c.edge.result (atom-caret _ _ known _ _ _ (byte_at _ _ c.requires.1) _ refl c.in-94.is) (c.edge.ensures _ _ known _)

pub returns-in-36 : goal.returns-in-36
returns-in-36 c = λ known. as-atom _ known _ _ refl _ c.edge-in-36.result (atom-dollar _ _ known _ _ _ (byte_at _ _ c.requires.1) _ refl c.in-36.is) (c.edge-in-36.ensures _ _ known _)

pub returns-in_default : goal.returns-in_default
returns-in_default c = λ known. let n = c.in_default.in_default-own.rest in
    as-atom _ known _ _ c.ignores_case-folded.ensures _ c.only_item.result (atom-byte _ _ known _ _ _ (byte_at _ _ c.requires.1) _ c.ignores_case-folded.ensures n.0.0.0.0.1 n.0.0.0.1 n.0.0.1 n.0.1 n.1) (c.only_item.ensures _ known)
