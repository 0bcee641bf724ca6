use Rattle.std.proofs.Common.{◌++◌, ◌∷◌, [], ◌∙◌, ap, arith}
use Rattle.term_text.specs.declared.alignment.Alignment.TheVariants as align
use Rattle.md_picture.proofs.Parts.{parts-turn}
use Rattle.md_picture.proofs.row.row_parts.Goals as goal

pub loop-at-preserved : goal.loop-at-preserved
loop-at-preserved c =
    parts-turn c.loop-at.at c.args.columns.now (record { width = 0; alignment = align.None }) c.args.cells.now c.loop-at.parts.items c.push.new.self.items _ (omega (arith, c.loop-at-test.true))
    c.loop-at.invariant.0 (c.in_ok-push.ensures.items ∙ ap (λ rows. c.loop-at.parts.items ++ rows ∷ []) c.in_ok-rows_at.ensures) c.loop-at.invariant.1
