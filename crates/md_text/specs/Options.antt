-- What the options of a rendering hold.
use Rattle.std.specs.Prelude.{ℕ, Bool, false, Option, None}
use Rattle.md_text.specs.declared.options.ImageFallback.{ImageFallback}
use Rattle.md_text.specs.declared.options.ImageFallback.TheVariants.{AltText}

-- the styles, the columns that tables are to fit in, if a width is set, whether border lines stand between their rows, and
-- what is shown of images
pub record OptionsView (S : Type 0) : Type 0 where
  pub styles : S
  pub table_width : Option ℕ
  pub row_dividers : Bool
  pub image_fallback : ImageFallback

-- options with a style sheet and nothing else set
abbrev pub plain_options : {S : Type 0} → S → OptionsView S
plain_options styles = record { styles = styles; table_width = None; row_dividers = false; image_fallback = AltText }
