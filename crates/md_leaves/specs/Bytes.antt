-- Bytes that may follow one another.
use Rattle.std.specs.Prelude.{ℕ, ◌==◌, Bool}
use Rattle.md_lines.specs.Blanks.{is_blank}
use Rattle.md_leaves.specs.declared.bytes.Class.{Class}
use Rattle.md_leaves.specs.declared.bytes.Class.TheVariants as class
use Rattle.md_leaves.specs.Closers.{is_in_angles, is_in_title}
use Rattle.md_leaves.specs.Angles.{is_name_byte}
use Rattle.md_leaves.specs.Leaves.{is_in_label}
use Rattle.md_leaves.specs.Math.{is_in_math}
use Rattle.md_leaves.specs.Steps.{is_letter}

abbrev pub holds : Class → ℕ → Bool
holds class.Blank b = is_blank b
holds (class.Byte of) b = b == of
holds class.InAngles b = is_in_angles b
holds (class.InTitle quote) b = is_in_title quote b
holds class.InMath b = is_in_math b
holds class.InName b = is_name_byte b
holds class.InLabel b = is_in_label b
holds class.Letter b = is_letter b
