use Rattle.std.proofs.Common.{arith, ◌≡◌, ℕ, List, ◌<◌, ◌≤◌, ◌^◌, ◌-◌, length, take, true, ap, sym, subst, ◌∙◌}
use Rattle.std.specs.Prelude.{Result, Ok}
use Rattle.std.specs.Str.{IsCharBoundary}
use Rattle.std.specs.Str.Parse.{digits_value, ParsesUnsigned}
use Rattle.std.specs.List.{list_all, slice_range}
use Rattle.std.specs.Char.{is_ascii_digit}
use Rattle.std.proofs.lemmas.List.{length-take-le}
use Rattle.std.proofs.lemmas.List.Sums.{prefix_len-le-length}
use Rattle.std.proofs.lemmas.Str.Parse.{digits_value_short, parse_gives}
use Rattle.std.proofs.lemmas.Bool.Decides.{nat_tests}
use Rattle.md_rules.specs.Items.{digits}
use Rattle.md_rules.proofs.ItemLemmas.{front-all, own}
use Rattle.md_rules.proofs.TextLemmas.{boundary-front}
use Rattle.md_rules.proofs.item.number.Goals as goal

ascii : (b : ℕ) → is_ascii_digit b ≡ true → b < 128
ascii b e = grind (arith, nat_tests)

-- one to nine digits are read as their number
parses : {E : Type 0} (body : List ℕ) (count : ℕ) (r : Result ℕ E) → count ≡ digits body → 0 < count → count ≤ 9 → ParsesUnsigned 64 10 (slice_range body 0 count) r → r ≡ Ok (digits_value 10 (take count body))
parses {E} body count r e some short h =
    let cut : take (count - 0) body ≡ take count body = let z : count - 0 ≡ count = omega arith in ap (λ n. take n body) z in
    let all : list_all is_ascii_digit (take count body) ≡ true = ap (λ n. list_all is_ascii_digit (take n body)) e ∙ front-all is_ascii_digit body in
    let size : length (take count body) ≡ count = length-take-le count body (omega (arith, e, prefix_len-le-length is_ascii_digit body)) in
    let small : digits_value 10 (take count body) < 10 ^ 9 = digits_value_short own (take count body) 9 all (omega (arith, size)) in
    parse_gives own {E = E} 64 (take count body) r (subst (λ (t : List ℕ). ParsesUnsigned 64 10 t r) cut h) all (omega (arith, size)) (omega (arith, small))

pub range-requires-clause-end_boundary : goal.range-requires-clause-end_boundary
range-requires-clause-end_boundary c =
    subst (λ (n : ℕ). IsCharBoundary c.args.body.now n) (sym c.requires.count) (boundary-front is_ascii_digit ascii c.args.body.now c.utf8.body)

pub returns-in-Err : goal.returns-in-Err
returns-in-Err c =
    let known = parses c.args.body.now c.args.count c.parse.result c.requires.count c.requires.some c.requires.short (subst (λ (t : List ℕ). ParsesUnsigned 64 10 t c.parse.result) c.range.ensures.value c.parse.ensures.value.0) in
    let none = c.in-Err.is in
    cc
