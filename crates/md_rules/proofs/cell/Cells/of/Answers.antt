use Rattle.md_rules.proofs.cell.Cells.of.Goals as goal

pub invariant_of-result : goal.invariant_of-result
invariant_of-result c = (c.inner.utf8, c.inner.ensures.one_line)
