-- What a cell is painted with.
use Rattle.std.specs.Prelude.{encode_utf8, unwrap_or}
use Rattle.term_core.specs.declared.paint.Paint.{Paint}
use Rattle.term_core.specs.Cells.{CellView}

-- the cell with the symbol, and with the colours that are given
abbrev pub painted : Paint → CellView → CellView
painted paint c = record c { symbol = encode_utf8 paint.symbol; fg = unwrap_or paint.fg c.fg; bg = unwrap_or paint.bg c.bg }
