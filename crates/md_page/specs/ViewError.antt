-- The printed text of a refusal.
use Rattle.std.specs.Prelude.{ℕ, List, codes}
use Rattle.md_page.specs.declared.error.ViewError.{ViewError}
use Rattle.md_page.specs.declared.error.ViewError.TheVariants.{Memory, NotUtf8, TooNarrow}

abbrev pub error_text : ViewError → List ℕ
error_text Memory = codes "out of memory"
error_text NotUtf8 = codes "input is not UTF-8"
error_text TooNarrow = codes "a character is wider than the page"
