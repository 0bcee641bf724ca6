-- Definition lists, entry by entry.
use Rattle.std.specs.Prelude.{ℕ, zero, suc, true, Option, None, Some, List, [], ◌∷◌, if◌then◌else◌}
use Rattle.md_lines.specs.Lines.{LineText, is_empty}
use Rattle.md_rules.specs.Code.{if_more}
use Rattle.md_rules.specs.Definitions.{describes, description_more}
use Rattle.md_rules.specs.Starts.{block_start}
use Rattle.md_rules.specs.declared.start.BlockStart.{BlockStart}
use Rattle.md_rules.specs.declared.start.BlockStart.TheVariants as start
use Rattle.md_rules.specs.declared.start.Items.TheVariants.{All}
use Rattle.md_rules.specs.declared.entry.Entry.{Entry}
use Rattle.md_rules.specs.declared.entry.Entry.TheVariants.{Title, Description}

-- a title where a definition list would begin
abbrev pub title_at : BlockStart → Option Entry
title_at start.Definitions = Some Title
title_at _ = None

-- what goes on with a definition list at a nonempty line: a description, or a title at which no other block begins
abbrev pub next_entry : LineText → List LineText → Option Entry
next_entry line later = if describes line then Some Description else title_at (block_start true All line later)

-- how many further lines an entry takes
abbrev pub entry_more : Entry → LineText → List LineText → ℕ
entry_more Title line later = 0
entry_more Description line later = description_more line later

-- an entry is taken with the further lines of the list
abbrev pub with_entry : Option Entry → (Entry → ℕ) → ℕ
with_entry None more = 0
with_entry (Some entry) more = suc (more entry)

-- How many of the lines further entries take, behind so many lines of the entry before. Empty lines between two entries are
-- taken with the second.
unfoldable pub entries_more : ℕ → List LineText → ℕ
entries_more n [] = 0
entries_more (suc n) (line ∷ later) = suc (entries_more n later)
entries_more zero (line ∷ later) =
    if is_empty line then if_more (entries_more zero later)
    else with_entry (next_entry line later) (λ entry. entries_more (entry_more entry line later) later)
