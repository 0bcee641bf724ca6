-- Items of lists.
use Rattle.std.specs.Prelude.{ℕ, ◌+◌, ◌==◌, nat_le, Bool, true, false, not, ◌&&◌, ◌||◌, Option, None, Some, List, [], ◌∷◌, length, take, drop, slice_index_or, if◌then◌else◌}
use Rattle.std.specs.List.{prefix_len}
use Rattle.std.specs.Char.{is_ascii_digit}
use Rattle.std.specs.Str.Parse.{digits_value}
use Rattle.md_lines.specs.Blanks.{is_blank}
use Rattle.md_lines.specs.Lines.{LineText, is_empty, line_of}
use Rattle.md_rules.specs.Shallow.{is_shallow}
use Rattle.md_rules.specs.Texts.{ends_word}
use Rattle.md_rules.specs.Code.{hanging}
use Rattle.md_rules.specs.Quotes.{less}
use Rattle.md_rules.specs.Hung.{hung}
use Rattle.md_rules.specs.declared.item.Marker.{Marker}

abbrev pub is_bullet : ℕ → Bool
is_bullet b = b == 45 || b == 42 || b == 43

-- how many ASCII digits begin a body
abbrev pub digits : List ℕ → ℕ
digits body = prefix_len is_ascii_digit body

-- `.` or `)`, and then a blank or the end
abbrev pub ends_number : List ℕ → Bool
ends_number [] = false
ends_number (b ∷ bs) = (b == 46 || b == 41) && ends_word bs

-- one to nine digits, and then such an end
abbrev pub has_number : ℕ → List ℕ → Bool
has_number n body = nat_le 1 n && nat_le n 9 && ends_number (drop n body)

-- a number's marker, behind so many digits
abbrev pub numbered : ℕ → List ℕ → Option Marker
numbered n body =
    if has_number n body
    then Some (record { kind = slice_index_or body n 0; length = n + 1; number = Some (digits_value 10 (take n body)) })
    else None

-- the marker in front: a bullet or a number; its last character is its kind
abbrev pub marker_in : List ℕ → Option Marker
marker_in [] = None
marker_in (b ∷ bs) =
    if is_bullet b && ends_word bs then Some (record { kind = b; length = 1; number = None })
    else numbered (digits (b ∷ bs)) (b ∷ bs)

-- the marker of the item that begins at a line
abbrev pub marker_of : LineText → Option Marker
marker_of line = if is_shallow line then marker_in line.body else None

-- what stands behind the marker, less one column
abbrev pub item_line : Marker → LineText → LineText
item_line marker line = less 1 (line_of (drop marker.length line.body))

-- the indent that an item's further lines have, and lose
abbrev pub item_column : Marker → LineText → ℕ
item_column marker line = line.indent + marker.length + 1

-- how many further lines the item takes
abbrev pub item_more : Marker → LineText → List LineText → ℕ
item_more marker line later = hanging (item_column marker line) later

-- the mark of a task: done, still to be done, or none
abbrev pub task_by : ℕ → Option Bool
task_by b = if b == 32 then Some false else if b == 120 || b == 88 then Some true else None

-- `[ ]`, `[x]` or `[X]` and a blank
abbrev pub is_task : List ℕ → Bool
is_task body =
    nat_le 4 (length body)
    && slice_index_or body 0 0 == 91
    && slice_index_or body 2 0 == 93
    && is_blank (slice_index_or body 3 0)

-- the task mark that an item's first line begins with
abbrev pub task_of : LineText → Option Bool
task_of line = if is_shallow line && is_task line.body then task_by (slice_index_or line.body 1 0) else None

-- the first line without its task mark
abbrev pub without_task : Option Bool → LineText → LineText
without_task None line = line
without_task (Some done) line = less 1 (line_of (drop 3 line.body))

-- the lines of an item, whose first line, without its marker, is this
abbrev pub item_lines : ℕ → LineText → List LineText → List LineText
item_lines column first own = hung column (without_task (task_of first) first) own

-- an item at which a paragraph ends is not empty, and its number, if it has one, is 1
abbrev pub is_first_number : Option ℕ → Bool
is_first_number None = true
is_first_number (Some n) = n == 1

abbrev pub may_interrupt : LineText → Marker → Bool
may_interrupt line marker = not (is_empty (item_line marker line)) && is_first_number marker.number
