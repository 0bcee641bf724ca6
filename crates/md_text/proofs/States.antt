-- The states of a run, by what leaves stand in.
use Rattle.std.proofs.Common.{ℕ, List, []}
use Rattle.term_text.specs.Text.{SpanView, LineView}
use Rattle.md_table.specs.Builder.{BuilderView}
use Rattle.md_text.specs.declared.environment.Environment.{Environment}
use Rattle.md_text.specs.declared.environment.Spacing.{Spacing}
use Rattle.md_text.specs.declared.environment.Within.TheVariants.{Lines, Code, Cell, Image}
use Rattle.md_text.specs.State.{Begun, State, new_builder}

abbrev pub within_lines : Environment → Environment
within_lines env = record env { within = Lines }

abbrev pub within_code : Environment → Environment
within_code env = record env { within = Code }

abbrev pub within_cell : Environment → Environment
within_cell env = record env { within = Cell }

-- in lines neither a block of code nor a table is open
abbrev pub lines_state : List Begun → Environment → Spacing → List LineView → State
lines_state elements env spacing lines =
    record {
      open_elements = elements;
      environment = within_lines env;
      spacing = spacing;
      content = [];
      builder = new_builder [];
      pieces = [];
      lines = lines;
    }

-- in a block of code, by its content so far
abbrev pub code_state : List Begun → Environment → Spacing → List ℕ → List LineView → State
code_state elements env spacing content lines =
    record {
      open_elements = elements;
      environment = within_code env;
      spacing = spacing;
      content = content;
      builder = new_builder [];
      pieces = [];
      lines = lines;
    }

-- in a table, by what is built of it so far
abbrev pub cell_state : List Begun → Environment → Spacing → BuilderView → List LineView → State
cell_state elements env spacing builder lines =
    record {
      open_elements = elements;
      environment = within_cell env;
      spacing = spacing;
      content = [];
      builder = builder;
      pieces = [];
      lines = lines;
    }

abbrev pub within_image : Environment → Environment
within_image env = record env { within = Image }

-- in an image, by its pieces so far, and by what is built of a table round it
abbrev pub image_state : List Begun → Environment → Spacing → BuilderView → List SpanView → List LineView → State
image_state elements env spacing builder pieces lines =
    record {
      open_elements = elements;
      environment = within_image env;
      spacing = spacing;
      content = [];
      builder = builder;
      pieces = pieces;
      lines = lines;
    }
