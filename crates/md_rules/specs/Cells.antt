-- The parts of a text between its bars, one by one.
use Rattle.std.specs.Prelude.{◌≡◌, ℕ, suc, Bool, true, false, Option, None, Some, List, [], ◌∷◌, if◌then◌else◌}
use Rattle.std.specs.Borrow.{Bor}
use Rattle.std.specs.Str.{IsUtf8}
use Rattle.term_text.specs.LineEnds.{is_one_line}
use Rattle.md_rules.specs.Tables.{escapes, is_bar, parts}

-- how many bytes stand before the first bar, or in all where there is none
unfoldable pub before_bar : Bool → List ℕ → ℕ
before_bar escaped [] = 0
before_bar escaped (b ∷ bs) = if is_bar escaped b then 0 else suc (before_bar (escapes b) bs)

-- a bar directly behind these bytes does not cut
unfoldable pub escapes_behind : Bool → List ℕ → Bool
escapes_behind escaped [] = escaped
escapes_behind escaped (b ∷ bs) = escapes_behind (escapes b) bs

-- the parts that are left of a text behind the last of them that was taken, if there is such a text
abbrev pub parts_left : Option (Bor (List ℕ)) → List (List ℕ)
parts_left None = []
parts_left (Some text) = parts false text.now

abbrev pub AreUtf8 : Option (Bor (List ℕ)) → Type 0
AreUtf8 None = Unit {0}
AreUtf8 (Some text) = IsUtf8 text.now

abbrev pub AreOneLine : Option (Bor (List ℕ)) → Type 0
AreOneLine None = Unit {0}
AreOneLine (Some text) = is_one_line text.now ≡ true
