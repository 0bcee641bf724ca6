-- What a sheet of a user's own choice answers.
use Rattle.md_table.specs.declared.custom.CustomSheet.{CustomSheet}
use Rattle.md_table.specs.Answers.{by_level, by_kind}
use Rattle.md_table.specs.Sheet.{Sheet}

abbrev pub custom_sheet : CustomSheet → Sheet
custom_sheet styles =
    record {
      heading = by_level styles.heading;
      heading_marker = λ level. (by_level styles.heading_marker level).now;
      alert = by_kind styles.alert;
      alert_icon = λ kind. (by_kind styles.alert_icon kind).now;
      alert_label = λ kind. (by_kind styles.alert_label kind).now;
      code_block_fence = styles.code_block_fence.now;
      code = styles.code;
      link = styles.link;
      blockquote = styles.blockquote;
      heading_meta = styles.heading_meta;
      metadata_block = styles.metadata_block;
      html = styles.html;
      math_inline = styles.math_inline;
      math_display = styles.math_display;
      footnote_ref = styles.footnote_ref;
      footnote_def = styles.footnote_def;
      definition_term = styles.definition_term;
      definition_description = styles.definition_description;
      table_header = styles.table_header;
      table_cell = styles.table_cell;
      table_border = styles.table_border;
      list_marker = styles.list_marker;
      image_alt = styles.image_alt;
    }
