-- The printed text of a refusal.
use Rattle.std.specs.Prelude.{ℕ, List, codes}
use Rattle.ansi_text.specs.declared.error.Error.{Error}
use Rattle.ansi_text.specs.declared.error.Error.TheVariants.{Memory, Utf8Error}

abbrev pub error_text : Error → List ℕ
error_text Memory = codes "out of memory"
error_text Utf8Error = codes "text is not UTF-8"
