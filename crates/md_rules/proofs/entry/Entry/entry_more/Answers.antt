use Rattle.std.proofs.Common.{ap, ◌∙◌}
use Rattle.std.specs.Prelude.{Some}
use Rattle.md_rules.proofs.EntryLemmas.{next_entry-description}
use Rattle.md_rules.proofs.entry.Entry.entry_more.Goals as goal

pub description_more-requires : goal.description_more-requires
description_more-requires c = next_entry-description c.args.line.now c.args.later.now (c.requires ∙ ap Some c.in-Description.is)
