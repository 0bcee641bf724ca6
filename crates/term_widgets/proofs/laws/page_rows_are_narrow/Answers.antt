use Rattle.std.proofs.Common.{◌≤◌}
use Rattle.std.proofs.lemmas.List.Elements.{All-from_recursion}
use Rattle.term_core.specs.Graph.{columns}
use Rattle.term_widgets.specs.Page.{rows_of}
use Rattle.term_widgets.proofs.RowLemmas.{narrows-rows_of}
use Rattle.term_widgets.proofs.laws.page_rows_are_narrow.Goals as goal

pub returns : goal.returns
returns c w lines fits = All-from_recursion (λ row. columns row ≤ w) (rows_of w lines) (narrows-rows_of w lines fits)
