use Rattle.std.proofs.Common.{ap, ◌∙◌}
use Rattle.term_text.specs.LineEnds.{is_one_line}
use Rattle.md_lines.proofs.LineLemmas.{is_one_line-drop}
use Rattle.md_rules.proofs.item.behind.Goals as goal

pub line_of-requires : goal.line_of-requires
line_of-requires c = ap is_one_line c.range_from.ensures.value ∙ is_one_line-drop c.args.length c.args.body.now c.requires.one_line
