-- The codes of SGR sequences: their names, and what they do to a style.
use Rattle.std.specs.Prelude.{ℕ, ◌+◌, ◌-◌, ◌==◌, nat_lt, nat_le, ◌&&◌, Bool, [], ◌∷◌, Option, Some, None, MatchOption, ◌≡◌, if◌then◌else◌}
use Rattle.term_text.specs.Style.{reset_style, with_modifier, without_modifier}
use Rattle.term_text.specs.declared.style.Color.{Color}
use Rattle.term_text.specs.declared.style.Color.TheVariants as colour
use Rattle.term_text.specs.declared.style.TheConstants.Modifier.{BOLD, DIM, ITALIC, UNDERLINED, SLOW_BLINK, RAPID_BLINK, REVERSED, HIDDEN, CROSSED_OUT}
use Rattle.term_text.specs.declared.style.Style.{Style}
use Rattle.ansi_text.specs.declared.code.AnsiCode.{AnsiCode}
use Rattle.ansi_text.specs.declared.code.AnsiCode.TheVariants as code
use Rattle.ansi_text.specs.declared.item.Item.{Item}

-- one of the range of eight codes that begins with this one
abbrev pub eight_from : ℕ → ℕ → Bool
eight_from first n = nat_le first n && nat_lt n (first + 8)

-- the eight dark colours by their number
abbrev pub dark : ℕ → Color
dark n =
    if n == 0 then colour.Black else if n == 1 then colour.Red else if n == 2 then colour.Green else if n == 3 then colour.Yellow
    else if n == 4 then colour.Blue else if n == 5 then colour.Magenta else if n == 6 then colour.Cyan else colour.Gray

-- the eight light colours by their number
abbrev pub light : ℕ → Color
light n =
    if n == 0 then colour.DarkGray else if n == 1 then colour.LightRed else if n == 2 then colour.LightGreen
    else if n == 3 then colour.LightYellow else if n == 4 then colour.LightBlue else if n == 5 then colour.LightMagenta
    else if n == 6 then colour.LightCyan else colour.White

-- the codes that are listed by their number, one in a row
abbrev pub listed : ℕ → Option AnsiCode
listed n =
    if n == 0 then Some code.Reset
    else if n == 1 then Some code.Bold
    else if n == 2 then Some code.Faint
    else if n == 3 then Some code.Italic
    else if n == 4 then Some code.Underline
    else if n == 5 then Some code.SlowBlink
    else if n == 6 then Some code.RapidBlink
    else if n == 7 then Some code.Reverse
    else if n == 8 then Some code.Conceal
    else if n == 9 then Some code.CrossedOut
    else if n == 10 then Some code.PrimaryFont
    else if n == 11 then Some code.AlternateFont
    else if n == 20 then Some code.Fraktur
    else if n == 21 then Some code.BoldOff
    else if n == 22 then Some code.Normal
    else if n == 23 then Some code.NotItalic
    else if n == 24 then Some code.UnderlineOff
    else if n == 25 then Some code.BlinkOff
    else if n == 27 then Some code.InvertOff
    else if n == 28 then Some code.Reveal
    else if n == 29 then Some code.CrossedOutOff
    else if eight_from 30 n then Some (code.ForegroundColor (dark (n - 30)))
    else if n == 38 then Some code.SetForegroundColor
    else if n == 39 then Some code.DefaultForegroundColor
    else if eight_from 40 n then Some (code.BackgroundColor (dark (n - 40)))
    else if n == 48 then Some code.SetBackgroundColor
    else if n == 49 then Some code.DefaultBackgroundColor
    else if eight_from 90 n then Some (code.ForegroundColor (light (n - 90)))
    else if eight_from 100 n then Some (code.BackgroundColor (light (n - 100)))
    else None

-- what a code does to a style; the colour is the one that follows the codes 38 and 48
abbrev pub acts : AnsiCode → Option Color → Style → Style
acts code.Reset color style = reset_style
acts code.Bold color style = with_modifier style BOLD
acts code.Faint color style = with_modifier style DIM
acts code.Italic color style = with_modifier style ITALIC
acts code.Underline color style = with_modifier style UNDERLINED
acts code.SlowBlink color style = with_modifier style SLOW_BLINK
acts code.RapidBlink color style = with_modifier style RAPID_BLINK
acts code.Reverse color style = with_modifier style REVERSED
acts code.Conceal color style = with_modifier style HIDDEN
acts code.CrossedOut color style = with_modifier style CROSSED_OUT
acts code.Normal color style = without_modifier (without_modifier style BOLD) DIM
acts code.NotItalic color style = without_modifier style ITALIC
acts code.UnderlineOff color style = without_modifier style UNDERLINED
acts code.BlinkOff color style = without_modifier (without_modifier style SLOW_BLINK) RAPID_BLINK
acts code.InvertOff color style = without_modifier style REVERSED
acts code.Reveal color style = without_modifier style HIDDEN
acts code.CrossedOutOff color style = without_modifier style CROSSED_OUT
acts (code.ForegroundColor c) color style = record style { fg = Some c }
acts code.SetForegroundColor (Some c) style = record style { fg = Some c }
acts code.DefaultForegroundColor color style = record style { fg = Some colour.Reset }
acts (code.BackgroundColor c) color style = record style { bg = Some c }
acts code.SetBackgroundColor (Some c) style = record style { bg = Some c }
acts code.DefaultBackgroundColor color style = record style { bg = Some colour.Reset }
acts _ color style = style

-- a code that is not listed does nothing
abbrev pub acts_if_listed : Option AnsiCode → Option Color → Style → Style
acts_if_listed None color style = style
acts_if_listed (Some code) color style = acts code color style

-- what an item does to a style
abbrev pub after_item : Style → Item → Style
after_item style item = acts_if_listed (listed item.code) item.color style

-- the number itself as a code
abbrev pub IsNumber : ℕ → AnsiCode → Type 0
IsNumber n (code.Code bytes) = bytes.items ≡ n ∷ []
IsNumber n _ = ⊥

-- the code of a number: the one that is listed, else the number itself
abbrev pub IsCode : ℕ → AnsiCode → Type 0
IsCode n result = MatchOption (listed n) (IsNumber n result) (λ code. result ≡ code)
