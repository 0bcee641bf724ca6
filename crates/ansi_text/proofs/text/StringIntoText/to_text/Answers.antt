use Rattle.std.proofs.Common.{sym, subst}
use Rattle.std.proofs.lemmas.Str.{IsUtf8-string_bytes}
use Rattle.std.specs.Str.{IsUtf8}
use Rattle.term_text.specs.Style.{no_style}
use Rattle.ansi_text.proofs.Utf8Lemmas.{utf8-ansi, not_Utf8Error}
use Rattle.ansi_text.proofs.text.StringIntoText.to_text.Goals as goal

pub returns-clause-is_text : goal.returns-clause-is_text
returns-clause-is_text c =
    not_Utf8Error _ c.bytes_to_text.result
    (utf8-ansi no_style c.as_bytes.result.now (subst IsUtf8 (sym c.as_bytes.ensures.value) (IsUtf8-string_bytes c.args.self.now)))
    c.bytes_to_text.ensures
