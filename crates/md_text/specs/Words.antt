-- Words written behind one another.
use Rattle.std.specs.Prelude.{ℕ, ◌==◌, if◌then◌else◌, List, [], ◌∷◌, ◌++◌, codes, length}

-- a text with one more word, the first behind a blank and a brace, and each later one behind a blank
abbrev pub with_word : List ℕ → List ℕ → List ℕ
with_word text word = text ++ ((if length text == 0 then codes " {" else codes " ") ++ word)

abbrev pub with_words : List ℕ → List (List ℕ) → List ℕ
with_words text [] = text
with_words text (word ∷ words) = with_words (with_word text word) words

-- a text that has words gets the closing brace
abbrev pub closed : List ℕ → List ℕ
closed text = if length text == 0 then [] else text ++ codes "}"
