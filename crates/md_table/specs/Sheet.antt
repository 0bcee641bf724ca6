-- What a style sheet answers.
use Rattle.std.specs.Prelude.{ℕ, List}
use Rattle.term_text.specs.declared.style.Style.{Style}
use Rattle.md_table.specs.declared.alert.AlertKind.{AlertKind}

pub record Sheet : Type 0 where
  pub heading : ℕ → Style
  pub heading_marker : ℕ → List ℕ
  pub alert : AlertKind → Style
  pub alert_icon : AlertKind → List ℕ
  pub alert_label : AlertKind → List ℕ
  pub code_block_fence : List ℕ
  pub code : Style
  pub link : Style
  pub blockquote : Style
  pub heading_meta : Style
  pub metadata_block : Style
  pub html : Style
  pub math_inline : Style
  pub math_display : Style
  pub footnote_ref : Style
  pub footnote_def : Style
  pub definition_term : Style
  pub definition_description : Style
  pub table_header : Style
  pub table_cell : Style
  pub table_border : Style
  pub list_marker : Style
  pub image_alt : Style
