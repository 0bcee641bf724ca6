use Rattle.std.proofs.Common.{◌∙◌, ap}
use Rattle.term_text.specs.LineEnds.{is_one_line}
use Rattle.md_rules.proofs.OneLine.{is_one_line-trimmed}
use Rattle.md_rules.proofs.heading.heading_with.Goals as goal

pub with_content-requires : goal.with_content-requires
with_content-requires c =
    ap is_one_line c.trimmed.ensures ∙ is_one_line-trimmed c.in-Some.before.now (c.in-Some.ensures.one_line c.requires)
