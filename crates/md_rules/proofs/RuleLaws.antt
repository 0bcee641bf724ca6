-- What begins at a line, and the rules that hold there.
use Rattle.std.proofs.Common.{List, ◌≡◌, ◌≤◌, ◌<◌, ℕ, refl, sym, ap, ◌∙◌, arith, Bool, true, false, cond, ◌&&◌, Some, None, inl, inr}
use Rattle.std.specs.Option.{is_some}
use Rattle.std.proofs.lemmas.Bool.{false≢true, leb-true, le-leb}
use Rattle.std.proofs.lemmas.Bool.Decides.{leb_tells}
use Rattle.std.specs.Prelude.{nat_le}
use Rattle.md_lines.specs.Lines.{LineText}
use Rattle.md_rules.specs.Code.{is_code}
use Rattle.md_rules.specs.Fences.{fence_of}
use Rattle.md_rules.specs.ThematicBreaks.{is_thematic_break}
use Rattle.md_rules.specs.Headings.{heading_level}
use Rattle.md_rules.specs.Footnotes.{footnote_label}
use Rattle.md_rules.specs.Html.{html_end}
use Rattle.md_rules.specs.Tables.{starts_table}
use Rattle.md_rules.specs.Definitions.{starts_definitions}
use Rattle.md_rules.specs.Items.{may_interrupt}
use Rattle.md_rules.specs.declared.item.Marker.{Marker}
use Rattle.md_rules.specs.Quotes.{quotes}
use Rattle.md_rules.specs.Starts.{block_start, counted, interrupts, is_among, item_start, place, rule_of}
use Rattle.md_rules.specs.Holds.{GoesOn, IsFirst, holds}
use Rattle.md_rules.specs.declared.rule.Rule.{Rule}
use Rattle.md_rules.specs.declared.rule.Rule.TheVariants as rule
use Rattle.md_rules.specs.declared.start.Items.{Items}
use Rattle.md_rules.specs.declared.start.Items.TheVariants.{All, Interrupting}
use Rattle.md_tree.proofs.Nodes.{and_left, and_right}
use Rattle.md_rules.proofs.StartLemmas.{NoContainer, NoLeaf, each-start, item_start-marker}

no-quote : (nests : Bool) (items : Items) (line : LineText) → NoContainer nests items line → (nests && quotes line) ≡ false
no-quote nests items line (inl e) = rw e refl
no-quote false items line (inr e) = refl
no-quote true items line (inr e) = e.0

no-footnote : (nests : Bool) (items : Items) (line : LineText) → NoContainer nests items line → (nests && is_some (footnote_label line)) ≡ false
no-footnote nests items line (inl e) = rw e refl
no-footnote false items line (inr e) = refl
no-footnote true items line (inr e) = ap is_some e.1

no-item : (nests : Bool) (items : Items) (line : LineText) → NoContainer nests items line → (nests && is_some (item_start items line)) ≡ false
no-item nests items line (inl e) = rw e refl
no-item false items line (inr e) = refl
no-item true items line (inr e) = ap is_some e.2

-- the rules before a place do not hold
record Before (nests : Bool) (items : Items) (line : LineText) (later : List LineText) (bound : ℕ) : Type 0 where
  code : 0 < bound → is_code line ≡ false
  fence : 1 < bound → fence_of line ≡ None
  thematic_break : 2 < bound → is_thematic_break line ≡ false
  heading : 3 < bound → heading_level line ≡ None
  quote : 4 < bound → (nests && quotes line) ≡ false
  footnote : 5 < bound → (nests && is_some (footnote_label line)) ≡ false
  item : 6 < bound → (nests && is_some (item_start items line)) ≡ false
  html : 7 < bound → html_end line ≡ None
  table : 8 < bound → starts_table line later ≡ false
  definitions : 9 < bound → (nests && starts_definitions line later) ≡ false
  last : bound ≤ 10

before : (nests : Bool) (items : Items) (line : LineText) (later : List LineText) (bound : ℕ) → Before nests items line later bound → (r : Rule) → place r < bound → holds nests items line later r ≡ false
before nests items line later bound b rule.Code lt = b.code lt
before nests items line later bound b rule.Fence lt = ap is_some (b.fence lt)
before nests items line later bound b rule.ThematicBreak lt = b.thematic_break lt
before nests items line later bound b rule.Heading lt = ap is_some (b.heading lt)
before nests items line later bound b rule.Quote lt = b.quote lt
before nests items line later bound b rule.Footnote lt = b.footnote lt
before nests items line later bound b rule.Item lt = b.item lt
before nests items line later bound b rule.Html lt = ap is_some (b.html lt)
before nests items line later bound b rule.Table lt = b.table lt
before nests items line later bound b rule.Definitions lt = b.definitions lt
before nests items line later bound b rule.Paragraph lt = absurd (omega (arith, b.last))

-- what is known of the rules behind those for leaf blocks, up to a place
record Behind (nests : Bool) (items : Items) (line : LineText) (later : List LineText) (bound : ℕ) : Type 0 where
  quote : 4 < bound → (nests && quotes line) ≡ false
  footnote : 5 < bound → (nests && is_some (footnote_label line)) ≡ false
  item : 6 < bound → (nests && is_some (item_start items line)) ≡ false
  html : 7 < bound → html_end line ≡ None
  table : 8 < bound → starts_table line later ≡ false
  definitions : 9 < bound → (nests && starts_definitions line later) ≡ false
  last : bound ≤ 10

-- no leaf block begins, and these do not hold
behind-leaves : (nests : Bool) (items : Items) (line : LineText) (later : List LineText) (bound : ℕ) → NoLeaf line → Behind nests items line later bound → (r : Rule) → place r < bound → holds nests items line later r ≡ false
behind-leaves nests items line later bound text b =
    before nests items line later bound
    (record {
      code = λ lt. text.code;
      fence = λ lt. text.fence;
      thematic_break = λ lt. text.thematic_break;
      heading = λ lt. text.heading;
      quote = b.quote;
      footnote = b.footnote;
      item = b.item;
      html = b.html;
      table = b.table;
      definitions = b.definitions;
      last = b.last;
    })

-- no container begins either
behind-containers : (nests : Bool) (items : Items) (line : LineText) (later : List LineText) (bound : ℕ) → NoLeaf line → NoContainer nests items line → (7 < bound → html_end line ≡ None) → (8 < bound → starts_table line later ≡ false) → (9 < bound → (nests && starts_definitions line later) ≡ false) → bound ≤ 10 → (r : Rule) → place r < bound → holds nests items line later r ≡ false
behind-containers nests items line later bound text none h t d le =
    behind-leaves nests items line later bound text
    (record {
      quote = λ lt. no-quote nests items line none;
      footnote = λ lt. no-footnote nests items line none;
      item = λ lt. no-item nests items line none;
      html = h;
      table = t;
      definitions = d;
      last = le;
    })

both-true : (n v : Bool) → n ≡ true → v ≡ true → (n && v) ≡ true
both-true true v e f = f
both-true false v e f = absurd (false≢true e)

second-false : (n v : Bool) → v ≡ false → (n && v) ≡ false
second-false true v e = e
second-false false v e = refl

-- it begins by the first rule that holds
pub is-first : (nests : Bool) (items : Items) (line : LineText) (later : List LineText) → IsFirst nests items line later (block_start nests items line later)
is-first nests items line later =
    each-start (IsFirst nests items line later) nests items line later
    (record {
      code = λ e. (e, λ r lt. absurd (omega arith));
      fence = λ fence c e. (
        ap is_some e,
        before nests items line later 1 (record {
          code = λ lt. c;
          fence = λ lt. absurd (omega arith);
          thematic_break = λ lt. absurd (omega arith);
          heading = λ lt. absurd (omega arith);
          quote = λ lt. absurd (omega arith);
          footnote = λ lt. absurd (omega arith);
          item = λ lt. absurd (omega arith);
          html = λ lt. absurd (omega arith);
          table = λ lt. absurd (omega arith);
          definitions = λ lt. absurd (omega arith);
          last = omega arith;
        }),
      );
      thematic_break = λ c f e. (
        e,
        before nests items line later 2 (record {
          code = λ lt. c;
          fence = λ lt. f;
          thematic_break = λ lt. absurd (omega arith);
          heading = λ lt. absurd (omega arith);
          quote = λ lt. absurd (omega arith);
          footnote = λ lt. absurd (omega arith);
          item = λ lt. absurd (omega arith);
          html = λ lt. absurd (omega arith);
          table = λ lt. absurd (omega arith);
          definitions = λ lt. absurd (omega arith);
          last = omega arith;
        }),
      );
      heading = λ level c f b e. (
        ap is_some e,
        before nests items line later 3 (record {
          code = λ lt. c;
          fence = λ lt. f;
          thematic_break = λ lt. b;
          heading = λ lt. absurd (omega arith);
          quote = λ lt. absurd (omega arith);
          footnote = λ lt. absurd (omega arith);
          item = λ lt. absurd (omega arith);
          html = λ lt. absurd (omega arith);
          table = λ lt. absurd (omega arith);
          definitions = λ lt. absurd (omega arith);
          last = omega arith;
        }),
      );
      quote = λ text n e. (
        both-true nests (quotes line) n e,
        behind-leaves nests items line later 4 text (record {
          quote = λ lt. absurd (omega arith);
          footnote = λ lt. absurd (omega arith);
          item = λ lt. absurd (omega arith);
          html = λ lt. absurd (omega arith);
          table = λ lt. absurd (omega arith);
          definitions = λ lt. absurd (omega arith);
          last = omega arith;
        }),
      );
      footnote = λ label text n q e. (
        both-true nests (is_some (footnote_label line)) n (ap is_some e),
        behind-leaves nests items line later 5 text (record {
          quote = λ lt. second-false nests (quotes line) q;
          footnote = λ lt. absurd (omega arith);
          item = λ lt. absurd (omega arith);
          html = λ lt. absurd (omega arith);
          table = λ lt. absurd (omega arith);
          definitions = λ lt. absurd (omega arith);
          last = omega arith;
        }),
      );
      item = λ marker text n q f e. (
        both-true nests (is_some (item_start items line)) n (ap is_some e),
        behind-leaves nests items line later 6 text (record {
          quote = λ lt. second-false nests (quotes line) q;
          footnote = λ lt. second-false nests (is_some (footnote_label line)) (ap is_some f);
          item = λ lt. absurd (omega arith);
          html = λ lt. absurd (omega arith);
          table = λ lt. absurd (omega arith);
          definitions = λ lt. absurd (omega arith);
          last = omega arith;
        }),
      );
      html = λ end text none e. (
        ap is_some e,
        behind-containers nests items line later 7 text none (λ lt. absurd (omega arith)) (λ lt. absurd (omega arith)) (λ lt. absurd (omega arith)) (omega arith),
      );
      table = λ text none w e. (
        e,
        behind-containers nests items line later 8 text none (λ lt. w) (λ lt. absurd (omega arith)) (λ lt. absurd (omega arith)) (omega arith),
      );
      definitions = λ text none w t e. (
        e,
        behind-containers nests items line later 9 text none (λ lt. w) (λ lt. t) (λ lt. absurd (omega arith)) (omega arith),
      );
      paragraph = λ text none w t e. (
        refl,
        behind-containers nests items line later 10 text none (λ lt. w) (λ lt. t) (λ lt. e) (omega arith),
      );
    })

le-from : (a b : ℕ) → nat_le a b ≡ true → a ≤ b
le-from a b e = leb-true a b e

lt-from : (a b : ℕ) → nat_le a b ≡ false → b < a
lt-from a b e = elim (leb_tells a b) [
  | inl h ↦ absurd (false≢true (sym e ∙ h.0))
  | inr h ↦ h.1
]

-- in a range
between : (first last r : Rule) → is_among first last r ≡ true → (place first ≤ place r) × (place r ≤ place last)
between first last r e = (le-from (place first) (place r) (and_left (nat_le (place first) (place r)) (nat_le (place r) (place last)) e), le-from (place r) (place last) (and_right (nat_le (place first) (place r)) (nat_le (place r) (place last)) e))

-- outside of it, and not before it
behind : (first last r : Rule) → is_among first last r ≡ false → place first ≤ place r → place last < place r
behind first last r e le = lt-from (place r) (place last) (sym (ap (λ v. v && nat_le (place r) (place last)) (le-leb (place first) (place r) le)) ∙ e)

-- where a range has not the rule by which a line begins, and none before the range holds, none of the range holds
pub among-none : (nests : Bool) (items : Items) (line : LineText) (later : List LineText) (first last : Rule) → is_among first last (rule_of (block_start nests items line later)) ≡ false → ((r : Rule) → place r < place first → holds nests items line later r ≡ false) → (r : Rule) → is_among first last r ≡ true → holds nests items line later r ≡ false
among-none nests items line later first last out none r within =
    let begun : Rule = rule_of (block_start nests items line later) in
    let found = is-first nests items line later in
    let from : place first ≤ place begun = not-before (nat_le (place first) (place begun)) refl in
    let beyond : place last < place begun = behind first last begun out from in
    let upto : place r ≤ place last = (between first last r within).1 in
    found.1 r (omega (arith, beyond, upto))
  where
    not-before : (v : Bool) → nat_le (place first) (place (rule_of (block_start nests items line later))) ≡ v → place first ≤ place (rule_of (block_start nests items line later))
    not-before true e = le-from _ _ e
    not-before false e = absurd (false≢true (sym (none (rule_of (block_start nests items line later)) (lt-from _ _ e)) ∙ (is-first nests items line later).0))

-- an item that does not count
late : (nests : Bool) (line : LineText) (marker : Marker) → nests ≡ true → item_start All line ≡ Some marker → (nests && is_some (item_start Interrupting line)) ≡ false → may_interrupt line marker ≡ false
late nests line marker n e h = go (may_interrupt line marker) (sym (ap (λ found. is_some (counted Interrupting line found)) (item_start-marker All line marker e)) ∙ (sym (ap (λ v. v && is_some (item_start Interrupting line)) n) ∙ h))
  where
    go : (v : Bool) → is_some (cond v (Some marker) None) ≡ false → v ≡ false
    go true h = absurd (false≢true (sym h))
    go false h = refl

-- before fences code alone is asked for
only-code : (nests : Bool) (items : Items) (line : LineText) (later : List LineText) → is_code line ≡ false → (r : Rule) → place r < 1 → holds nests items line later r ≡ false
only-code nests items line later c rule.Code lt = c
only-code nests items line later c rule.Fence lt = absurd (omega arith)
only-code nests items line later c rule.ThematicBreak lt = absurd (omega arith)
only-code nests items line later c rule.Heading lt = absurd (omega arith)
only-code nests items line later c rule.Quote lt = absurd (omega arith)
only-code nests items line later c rule.Footnote lt = absurd (omega arith)
only-code nests items line later c rule.Item lt = absurd (omega arith)
only-code nests items line later c rule.Html lt = absurd (omega arith)
only-code nests items line later c rule.Table lt = absurd (omega arith)
only-code nests items line later c rule.Definitions lt = absurd (omega arith)
only-code nests items line later c rule.Paragraph lt = absurd (omega arith)

-- none of the rules that end a paragraph holds at a line that goes on with it
kept : (nests : Bool) (line : LineText) (later : List LineText) → is_code line ≡ false → interrupts nests line later ≡ false → (r : Rule) → is_among rule.Fence rule.Definitions r ≡ true → holds nests Interrupting line later r ≡ false
kept nests line later c out r within = among-none nests Interrupting line later rule.Fence rule.Definitions out (only-code nests Interrupting line later c) r within

-- what may begin at a line that does not end a paragraph
pub goes-on : (nests : Bool) (line : LineText) (later : List LineText) → interrupts nests line later ≡ false → GoesOn line (block_start nests All line later)
goes-on nests line later out =
    each-start (GoesOn line) nests All line later
    (record {
      code = λ e. tt;
      fence = λ fence c e. ended c rule.Fence refl (ap is_some e);
      thematic_break = λ c f e. ended c rule.ThematicBreak refl e;
      heading = λ level c f b e. ended c rule.Heading refl (ap is_some e);
      quote = λ text n e. ended text.code rule.Quote refl (both-true nests (quotes line) n e);
      footnote = λ label text n q e. ended text.code rule.Footnote refl (both-true nests (is_some (footnote_label line)) n (ap is_some e));
      item = λ marker text n q f e. late nests line marker n e (kept nests line later text.code out rule.Item refl);
      html = λ end text none e. ended text.code rule.Html refl (ap is_some e);
      table = λ text none w e. ended text.code rule.Table refl e;
      definitions = λ text none w t e. ended text.code rule.Definitions refl e;
      paragraph = λ text none w t e. tt;
    })
  where
    ended : is_code line ≡ false → (r : Rule) → is_among rule.Fence rule.Definitions r ≡ true → holds nests Interrupting line later r ≡ true → ⊥
    ended c r within h = false≢true (sym (kept nests line later c out r within) ∙ h)
