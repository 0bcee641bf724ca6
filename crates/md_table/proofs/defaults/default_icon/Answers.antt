use Rattle.std.proofs.Common.{ap, sym}
use Rattle.std.specs.Char.{encode_utf8}
use Rattle.md_table.specs.Defaults.{default_icon}
use Rattle.md_table.proofs.defaults.default_icon.Goals as goal

pub returns-in-Note : goal.returns-in-Note
unfolding encode_utf8
returns-in-Note c = sym (ap default_icon c.in-Note.is)

pub returns-in-Tip : goal.returns-in-Tip
unfolding encode_utf8
returns-in-Tip c = sym (ap default_icon c.in-Tip.is)

pub returns-in-Important : goal.returns-in-Important
unfolding encode_utf8
returns-in-Important c = sym (ap default_icon c.in-Important.is)

pub returns-in-Warning : goal.returns-in-Warning
unfolding encode_utf8
returns-in-Warning c = sym (ap default_icon c.in-Warning.is)

pub returns-in-Caution : goal.returns-in-Caution
unfolding encode_utf8
returns-in-Caution c = sym (ap default_icon c.in-Caution.is)
