-- Blanks: spaces and tabs.
use Rattle.std.specs.Prelude.{ℕ, ◌==◌, Bool, ◌||◌, if◌then◌else◌, List, [], ◌∷◌}
use Rattle.std.specs.List.{list_all}

-- a blank is a space or a tab
abbrev pub is_blank : ℕ → Bool
is_blank b = b == 32 || b == 9

-- the bytes without the blanks at their end
unfoldable pub without_end_blanks : List ℕ → List ℕ
without_end_blanks [] = []
without_end_blanks (b ∷ bs) = if list_all is_blank (b ∷ bs) then [] else b ∷ without_end_blanks bs
