use Rattle.std.proofs.Common.{◌≡◌, ◌∷◌, [], ◌++◌, ◌∙◌, List, ℕ, true, false, Bool, cond, ap, arith, sym}
use Rattle.std.specs.Prelude.{None, Some}
use Rattle.std.proofs.lemmas.Str.Pattern.{strip_suffix_char}
use Rattle.md_rules.specs.Tables.{without_end_bar}
use Rattle.md_rules.specs.Cells.{escapes_behind}
use Rattle.md_rules.proofs.CellLemmas.{without_end_bar-none, without_end_bar-some}
use Rattle.md_rules.proofs.cell.without_end_bar.Goals as goal

with_bar : (text front : List ℕ) (v : Bool) → text ≡ front ++ 124 ∷ [] → v ≡ escapes_behind false front → without_end_bar false text ≡ cond v text front
with_bar text front v e f =
    ap (without_end_bar false) e ∙ (without_end_bar-some false front ∙ (ap (λ w. cond w (front ++ 124 ∷ []) front) (sym f) ∙ ap (λ x. cond v x front) (sym e)))

pub returns-then-escapes_behind : goal.returns-then-escapes_behind
returns-then-escapes_behind c =
    let cut = strip_suffix_char 124 c.args.text.now (Some c.in-Some.front) c.in-Some.ensures.cases (omega arith) in
    sym (with_bar c.args.text.now c.in-Some.front.now true cut (sym c.if-escapes_behind.true ∙ (c.escapes_behind.ensures ∙ ap (escapes_behind false) c.as_bytes.ensures.value)))

pub returns-else-escapes_behind : goal.returns-else-escapes_behind
returns-else-escapes_behind c =
    let cut = strip_suffix_char 124 c.args.text.now (Some c.in-Some.front) c.in-Some.ensures.cases (omega arith) in
    sym (with_bar c.args.text.now c.in-Some.front.now false cut (sym c.if-escapes_behind.false ∙ (c.escapes_behind.ensures ∙ ap (escapes_behind false) c.as_bytes.ensures.value)))

pub returns-in_default : goal.returns-in_default
returns-in_default c = sym (without_end_bar-none false c.args.text.now (strip_suffix_char 124 c.args.text.now None c.in_default.ensures.cases (omega arith)))
