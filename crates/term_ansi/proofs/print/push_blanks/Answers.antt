use Rattle.std.proofs.Common.{◌-◌, ◌++◌, ◌∷◌, [], refl, ap, ◌∙◌}
use Rattle.std.specs.Prelude.{replicate}
use Rattle.term_core.specs.Cells.{blank_cell}
use Rattle.term_ansi.specs.declared.look.Look.{Look}
use Rattle.term_ansi.specs.Printed.{cells_text, change}
use Rattle.term_ansi.proofs.PrintLemmas.{one_blank, then_symbol}
use Rattle.term_ansi.proofs.print.push_blanks.Goals as goal

pub blanks-preserved : goal.blanks-preserved
blanks-preserved c = λ cs.
    let out = c.blanks.pen in
    let now = c.push_byte.new.self in
    let written = then_symbol out _ now c.blanks.look _ (32 ∷ []) c.in_ok-push_change.ensures c.in_ok-push_byte.ensures
    ∙ ap (λ (l : Look). out ++ (change c.blanks.look l ++ (32 ∷ []))) c.plain.ensures in
    ap (λ (l : Look). now ++ cells_text l (replicate (c.blanks.left - 1) blank_cell ++ cs)) c.plain-look.ensures
    ∙ one_blank out now c.blanks.look c.blanks.left (c.blanks.left - 1) cs written c.blanks-test.true refl
    ∙ c.blanks.invariant cs
