-- Border lines have text.
use Rattle.std.proofs.Common.{◌≡◌, ◌<◌, ℕ, nat_eq, false, cond, List, [], ◌∷◌, length, refl, ap, ◌∙◌, arith}
use Rattle.std.proofs.lemmas.Bool.Decides.{nat_tests}
use Rattle.std.specs.Char.{encode_utf8}
use Rattle.term_text.specs.Style.{no_style}
use Rattle.term_text.specs.Text.{SpanView, LineView}
use Rattle.term_text.specs.declared.style.Style.{Style}
use Rattle.md_picture.specs.declared.columns.Column.{Column}
use Rattle.md_picture.specs.declared.border.Edge.{Edge}
use Rattle.md_picture.specs.declared.border.Edge.TheVariants.{Top, Middle, Bottom}
use Rattle.md_picture.specs.Picture.{styled, border_text, border_line}

-- a line that gets one span
abbrev pub line_of : SpanView → LineView
line_of span = record { spans = cond (nat_eq (length span.text) 0) [] (span ∷ []); style = no_style }

line_of-some : (span : SpanView) (b : ℕ) (bytes : List ℕ) → span.text ≡ b ∷ bytes → line_of span ≡ record { spans = span ∷ []; style = no_style }
line_of-some span b bytes e =
    let some : nat_eq (length (b ∷ bytes)) 0 ≡ false = grind (arith, nat_tests) in
    ap (λ v. record { spans = cond v [] (span ∷ []); style = no_style }) (ap (λ (t : List ℕ). nat_eq (length t) 0) e ∙ some)

pub border_line-is : (style : Style) (edge : Edge) (columns : List Column) → 0 < length columns → line_of (styled (border_text edge columns) style) ≡ border_line style edge columns
unfolding encode_utf8
border_line-is style edge [] some = absurd (omega (arith, some))
border_line-is style Top (column ∷ columns) some = line_of-some (styled (border_text Top (column ∷ columns)) style) _ _ refl
border_line-is style Middle (column ∷ columns) some = line_of-some (styled (border_text Middle (column ∷ columns)) style) _ _ refl
border_line-is style Bottom (column ∷ columns) some = line_of-some (styled (border_text Bottom (column ∷ columns)) style) _ _ refl
