-- What a layout rests on: what the style sheet answers, and what the highlighter knows and answers.
use Rattle.std.specs.Prelude.{ℕ, Bool, false, Option, None, List, codes}
use Rattle.std.specs.Str.{bytes_eq}
use Rattle.md_table.specs.Sheet.{Sheet}
use Rattle.md_table.specs.Defaults.{default_sheet}
use Rattle.md_text.specs.declared.options.ImageFallback.{ImageFallback}
use Rattle.md_text.specs.declared.options.ImageFallback.TheVariants.{AltText}
use Rattle.md_text.specs.Options.{OptionsView}

pub record Look : Type 0 where
  pub sheet : Sheet
  -- whether code with this info text is coloured, and the text with colours that is shown for a line of it
  pub known : List ℕ → Bool
  pub answer : List ℕ → List ℕ → List ℕ
  -- the columns that tables are to fit in, if a width is set, and whether border lines stand between their rows
  pub table_width : Option ℕ
  pub row_dividers : Bool
  -- what is shown of an image
  pub image_fallback : ImageFallback

-- the look of options and of a highlighter, by what their values mean
abbrev pub look_of : {S : Type 0} → OptionsView S → (S → Sheet) → (List ℕ → Bool) → (List ℕ → List ℕ → List ℕ) → Look
look_of options sheet known answer =
    record {
      sheet = sheet options.styles;
      known = known;
      answer = answer;
      table_width = options.table_width;
      row_dividers = options.row_dividers;
      image_fallback = options.image_fallback;
    }

-- the info texts of no code, and of code that has its colours in itself
abbrev pub knows_nothing : List ℕ → Bool
knows_nothing info = false

abbrev pub knows_ansi : List ℕ → Bool
knows_ansi info = bytes_eq info (codes "ansi")

-- a line is shown as it is
abbrev pub as_it_is : List ℕ → List ℕ → List ℕ
as_it_is info line = line

-- the look of the defaults: no code is coloured, and tables are as wide as their cells
abbrev pub default_look : Look
default_look =
    record { sheet = default_sheet; known = knows_nothing; answer = as_it_is; table_width = None; row_dividers = false; image_fallback = AltText }

-- the look of a sheet and of tables in a width, where code that says that it has ANSI colours is shown in them
abbrev pub ansi_look : Sheet → Option ℕ → Look
ansi_look sheet table_width =
    record { sheet = sheet; known = knows_ansi; answer = as_it_is; table_width = table_width; row_dividers = false; image_fallback = AltText }
