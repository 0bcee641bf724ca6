use Rattle.std.proofs.Common.{◌∙◌, sym, rules, tests}
use Rattle.std.proofs.lemmas.Iterator.{YieldsList-from_slice}
use Rattle.std.proofs.lemmas.Iterator.Consumers.{count_from_yields_List}
use Rattle.std.proofs.lemmas.Iterator.Search.{YieldsList-from_take_while}
use Rattle.std.proofs.lemmas.List.Folds.{length-prefix_len}
use Rattle.md_rules.specs.Rows.{is_row}
use Rattle.md_rules.proofs.RowLemmas.{row_count-prefix}
use Rattle.md_rules.proofs.rows.row_count.Goals as goal

pub returns-clause-value : goal.returns-clause-value
returns-clause-value c =
    count_from_yields_List c.take_while.result _ c.count.ensures.ran
    (YieldsList-from_take_while _ (is_row c.args.nests) (YieldsList-from_slice c.args.lines.now (cc)) c.take_while.ensures.closure c.take_while.ensures.done (λ x b q k. search (rules, tests)))
    ∙ (length-prefix_len (is_row c.args.nests) c.args.lines.now ∙ sym (row_count-prefix c.args.nests c.args.lines.now))
