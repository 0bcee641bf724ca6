use Rattle.std.proofs.Common.{rules, arith, ◌≡◌, ℕ, List, ◌<◌, ◌≤◌, ◌^◌, length, true}
use Rattle.std.specs.Prelude.{Result, Some, None, Ok, Err}
use Rattle.std.specs.Result.{MatchResult}
use Rattle.std.specs.Str.Parse.{digits_value, ParsesUnsigned}
use Rattle.std.specs.List.{list_all}
use Rattle.std.specs.Char.{is_ascii_digit}
use Rattle.std.proofs.lemmas.Str.Parse.{IsNumeralModel, numerals_by_value, parse_digits}
use Rattle.std.proofs.lemmas.Bool.Decides.{nat_tests}
use Rattle.programs.specs.Number.{number_of}
use Rattle.programs.proofs.numbers.number.Goals as goal

own : IsNumeralModel (λ ds. list_all is_ascii_digit ds ≡ true) (digits_value 10)
own = numerals_by_value _ (search rules)

number_is : {E : Type 0} (limit : ℕ) (text : List ℕ) (r : Result ℕ E) → length text ≤ 20 → list_all is_ascii_digit text ≡ true → limit < 2 ^ 64
    → ParsesUnsigned 64 10 text r → MatchResult r (λ v. v ≤ limit → Some v ≡ number_of limit text) (λ _. None ≡ number_of limit text)
number_is {E} limit text (Ok x) short digits range h =
    let p = parse_digits own {E = E} 64 text (Ok x) h digits in
    λ le. grind (arith, nat_tests, p.0, p.1, digits)
number_is {E} limit text (Err e) short digits range h =
    let p = parse_digits own {E = E} 64 text (Err e) h digits in
    grind (arith, nat_tests, p, digits)

pub returns-in-Ok : goal.returns-in-Ok
returns-in-Ok c =
    let digits : list_all is_ascii_digit c.args.text.now ≡ true = search rules in
    let known = number_is c.args.limit c.args.text.now c.parse.result (omega arith) digits (omega arith) c.parse.ensures.value.0 in
    (rw c.in-Ok.is at known) c.if-value-limit.true

pub returns-in_default-2 : goal.returns-in_default-2
returns-in_default-2 c =
    let digits : list_all is_ascii_digit c.args.text.now ≡ true = search rules in
    let known = number_is c.args.limit c.args.text.now c.parse.result (omega arith) digits (omega arith) c.parse.ensures.value.0 in
    rw c.in_default.is at known
