use Rattle.std.specs.Prelude.{ℕ, List, string_bytes}
use Rattle.term_text.specs.declared.cow_str.Inner.{Inner}
use Rattle.term_text.specs.declared.cow_str.Inner.TheVariants.{Borrowed, Owned}

-- the bytes of a text, borrowed or owned
abbrev pub bytes_of : Inner → List ℕ
bytes_of (Borrowed text) = text.now
bytes_of (Owned text) = string_bytes text
