-- The text of a refusal.
use Rattle.std.specs.Prelude.{ℕ, List, codes}
use Rattle.term_core.specs.declared.widget.WidgetError.{WidgetError}
use Rattle.term_core.specs.declared.widget.WidgetError.TheVariants.{Memory, TooNarrow}

abbrev pub error_text : WidgetError → List ℕ
error_text Memory = codes "out of memory"
error_text TooNarrow = codes "a character is wider than the page"
