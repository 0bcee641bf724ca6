-- The printed text of a refusal.
use Rattle.std.specs.Prelude.{ℕ, List, codes}
use Rattle.md_text.specs.declared.error.RenderError.{RenderError}
use Rattle.md_text.specs.declared.error.RenderError.TheVariants.{Memory, BadEvents}

abbrev pub error_text : RenderError → List ℕ
error_text Memory = codes "out of memory"
error_text BadEvents = codes "events of no tree"
