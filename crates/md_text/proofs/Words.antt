-- Words written one by one are the words in braces.
use Rattle.std.proofs.Common.{◌≡◌, ℕ, List, [], ◌∷◌, ◌++◌, codes, refl, ap, sym, ◌∙◌, append_assoc, rules}
use Rattle.md_text.specs.Headings.{behind_blanks, in_braces}
use Rattle.md_text.specs.Words.{with_word, with_words, closed}

closed-behind : (b : ℕ) (bs : List ℕ) → closed (b ∷ bs) ≡ b ∷ (bs ++ codes "}")
closed-behind b bs = search rules

with_word-behind : (b : ℕ) (bs word : List ℕ) → with_word (b ∷ bs) word ≡ b ∷ (bs ++ (codes " " ++ word))
with_word-behind b bs word = search rules

-- words behind a text that is not empty
with_words-behind : (b : ℕ) (bs : List ℕ) (words : List (List ℕ)) → with_words (b ∷ bs) words ≡ b ∷ (bs ++ behind_blanks words)
with_words-behind b bs [] = search rules
with_words-behind b bs (word ∷ words) =
    ap (λ (z : List ℕ). with_words z words) (with_word-behind b bs word)
    ∙ with_words-behind b (bs ++ (codes " " ++ word)) words
    ∙ ap (λ (z : List ℕ). b ∷ z) (simp append_assoc)

with_words-append : (text : List ℕ) (a c : List (List ℕ)) → with_words text (a ++ c) ≡ with_words (with_words text a) c
with_words-append text [] c = refl
with_words-append text (word ∷ a) c = with_words-append (with_word text word) a c

closed-words : (words : List (List ℕ)) → closed (with_words [] words) ≡ in_braces words
closed-words [] = refl
closed-words (word ∷ words) =
    ap closed (with_words-behind 32 (123 ∷ word) words)
    ∙ closed-behind 32 (123 ∷ (word ++ behind_blanks words))
    ∙ ap (λ (z : List ℕ). 32 ∷ 123 ∷ z) (simp append_assoc)

-- three parts, closed
pub closed-parts : (a b c : List (List ℕ)) → closed (with_words (with_words (with_words [] a) b) c) ≡ in_braces (a ++ (b ++ c))
closed-parts a b c =
    ap closed (sym (with_words-append [] a (b ++ c) ∙ with_words-append (with_words [] a) b c)) ∙ closed-words (a ++ (b ++ c))
