-- The code and the text of a status.
use Rattle.std.specs.Prelude.{ℕ, List, [], codes}
use Rattle.programs.specs.declared.status.Status.{Status}
use Rattle.programs.specs.declared.status.Status.TheVariants.{Done, Usage, ReadFault, TooLong, NotUtf8, TooNarrow, WriteFault, Memory}

abbrev pub code_of : Status → ℕ
code_of Done = 0
code_of Usage = 2
code_of ReadFault = 3
code_of TooLong = 4
code_of NotUtf8 = 5
code_of TooNarrow = 6
code_of WriteFault = 7
code_of Memory = 8

abbrev pub text_of : Status → List ℕ
text_of Done = []
text_of Usage = codes "mdview: bad arguments"
text_of ReadFault = codes "mdview: reading failed"
text_of TooLong = codes "mdview: more than 16777216 bytes"
text_of NotUtf8 = codes "mdview: input is not UTF-8"
text_of TooNarrow = codes "mdview: a character is wider than the page"
text_of WriteFault = codes "mdview: writing failed"
text_of Memory = codes "mdview: out of memory"
