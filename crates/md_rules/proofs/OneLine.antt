-- Parts of one line are on one line.
use Rattle.std.proofs.Common.{List, take, drop, ◌≡◌, ℕ, ap, ◌∙◌, true}
use Rattle.std.specs.List.{prefix_len}
use Rattle.std.proofs.lemmas.List.{take-append-drop}
use Rattle.term_text.specs.LineEnds.{is_one_line}
use Rattle.md_lines.specs.Blanks.{is_blank, without_end_blanks}
use Rattle.md_lines.proofs.BlankLemmas.{end_blanks, without_end_blanks-end_blanks}
use Rattle.md_lines.proofs.LineLemmas.{is_one_line-drop, is_one_line-front}
use Rattle.md_rules.specs.Texts.{trimmed, without_start_blanks}

pub is_one_line-take : (n : ℕ) (bs : List ℕ) → is_one_line bs ≡ true → is_one_line (take n bs) ≡ true
is_one_line-take n bs one = is_one_line-front (take n bs) (drop n bs) (ap is_one_line (take-append-drop n bs) ∙ one)

pub is_one_line-trimmed : (bs : List ℕ) → is_one_line bs ≡ true → is_one_line (trimmed bs) ≡ true
is_one_line-trimmed bs one =
    let rest : List ℕ = without_start_blanks bs in
    is_one_line-front (without_end_blanks rest) (end_blanks rest) (ap is_one_line (without_end_blanks-end_blanks rest) ∙ is_one_line-drop (prefix_len is_blank bs) bs one)
