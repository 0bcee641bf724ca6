-- SGR sequences: how they unfold, and what stands behind them.
use Rattle.std.proofs.Common.{◌≡◌, ◌<◌, ◌≤◌, ◌==◌, ℕ, zero, suc, Bool, true, false, cond, List, [], ◌∷◌, length, refl, ap, sym, ◌∙◌, arith, Some, None, Option, IfSome, lit<}
use Rattle.std.proofs.lemmas.Bool.{eqb-true}
use Rattle.std.proofs.lemmas.Option.{none-some, cond_some}
use Rattle.std.specs.Option.{option_map}
use Rattle.term_text.specs.declared.style.Style.{Style}
use Rattle.ansi_text.specs.declared.item.Item.{Item}
use Rattle.term_text.specs.Style.{reset_style}
use Rattle.ansi_text.specs.Codes.{after_item}
use Rattle.ansi_text.specs.Ansi.{after_items}
use Rattle.ansi_text.specs.Reads.{with_items, with_sequence}
use Rattle.ansi_text.specs.Numbers.{required}
use Rattle.ansi_text.specs.Items.{ItemRead, item}
use Rattle.ansi_text.specs.Sequences.{Sequence, before, with_item, items_within, items, sequence}
use Rattle.ansi_text.proofs.KeepLemmas.{Keeps, Behind, Behind-from, and_then, kept-required, kept-item, item-shorter}

same_with_item : (o : Option ItemRead) (f g : List ℕ → Option Sequence) → IfSome o (λ i. f i.rest ≡ g i.rest) → with_item o f ≡ with_item o g
same_with_item None f g h = refl
same_with_item (Some i) f g h = ap (before i.item) h

some_rest : (o : Option ItemRead) (P Q : ItemRead → Type 0) → IfSome o P → ((i : ItemRead) → P i → Q i) → IfSome o Q
some_rest None P Q h k = tt
some_rest (Some i) P Q h k = k i h

-- the number of steps does not matter once it is as great as the number of bytes
pub items_within-enough : (m n : ℕ) (bs : List ℕ) → length bs ≤ m → length bs ≤ n → items_within m bs ≡ items_within n bs
unfolding items_within
items_within-enough zero zero bs h k = refl
items_within-enough zero (suc n) [] h k = refl
items_within-enough zero (suc n) (b ∷ bs) h k = absurd (omega (arith, h))
items_within-enough (suc m) zero [] h k = refl
items_within-enough (suc m) zero (b ∷ bs) h k = absurd (omega (arith, k))
items_within-enough (suc m) (suc n) [] h k = refl
items_within-enough (suc m) (suc n) (b ∷ bs) h k =
    ap (λ o. cond (b == 109) (Some (record { items = []; rest = bs })) o)
    (same_with_item (item (b ∷ bs)) (λ rest. items_within m rest) (λ rest. items_within n rest)
    (some_rest (item (b ∷ bs)) (λ i. length i.rest < length (b ∷ bs)) _ (item-shorter (b ∷ bs))
    (λ i lt. items_within-enough m n i.rest (omega (arith, lt, h)) (omega (arith, lt, k)))))

-- items that stand in front, and none
pub items-nil : items [] ≡ None
unfolding items_within
items-nil = refl

pub items-end : (bs : List ℕ) → items (109 ∷ bs) ≡ Some (record { items = []; rest = bs })
unfolding items_within
items-end bs = refl

pub items-item : (b : ℕ) (bs : List ℕ) → (b == 109) ≡ false → items (b ∷ bs) ≡ with_item (item (b ∷ bs)) (λ rest. items rest)
unfolding items_within
items-item b bs e =
    ap (λ v. cond v (Some (record { items = []; rest = bs })) (with_item (item (b ∷ bs)) (λ rest. items_within (length bs) rest))) e
    ∙ same_with_item (item (b ∷ bs)) (λ rest. items_within (length bs) rest) (λ rest. items rest)
    (some_rest (item (b ∷ bs)) (λ i. length i.rest < length (b ∷ bs)) _ (item-shorter (b ∷ bs))
    (λ i lt. items_within-enough (length bs) (length i.rest) i.rest (omega (arith, lt)) (omega arith)))

abbrev some_end : List ℕ → Option Sequence
some_end rest = Some (record { items = []; rest = rest })

-- by the byte `m` in front
pub items-required : (bs : List ℕ) → required 109 bs ≡ None → items bs ≡ with_item (item bs) (λ rest. items rest)
items-required [] e = items-nil
items-required (b ∷ bs) e = go (b == 109) refl e
  where
    go : (v : Bool) → (b == 109) ≡ v → cond v (Some bs) None ≡ None → items (b ∷ bs) ≡ with_item (item (b ∷ bs)) (λ rest. items rest)
    go true p h = absurd (none-some bs (sym h))
    go false p h = items-item b bs p

pub items-required_Some : (bs rest : List ℕ) → required 109 bs ≡ Some rest → items bs ≡ Some (record { items = []; rest = rest })
items-required_Some [] rest e = absurd (none-some rest e)
items-required_Some (b ∷ bs) rest e =
    let parts = cond_some (b == 109) bs rest e in
    ap (λ (x : ℕ). items (x ∷ bs)) (eqb-true b 109 parts.0) ∙ items-end bs ∙ ap (λ (x : List ℕ). some_end x) parts.1

-- what stands behind a sequence
kept-before : (P : List ℕ → Type 0) (i : Item) (o : Option Sequence) → IfSome o (λ s. P s.rest) → IfSome (before i o) (λ s. P s.rest)
kept-before P i None h = tt
kept-before P i (Some s) h = h

kept-with_item : (P : List ℕ → Type 0) (o : Option ItemRead) (f : List ℕ → Option Sequence) → IfSome o (λ i. IfSome (f i.rest) (λ s. P s.rest)) → IfSome (with_item o f) (λ s. P s.rest)
kept-with_item P None f h = tt
kept-with_item P (Some i) f h = kept-before P i.item (f i.rest) h

kept-items_within : (P : List ℕ → Type 0) → Keeps P → (n : ℕ) (bs : List ℕ) → Behind P bs → IfSome (items_within n bs) (λ s. P s.rest)
unfolding items_within
kept-items_within P keeps zero bs h = tt
kept-items_within P keeps (suc n) [] h = tt
kept-items_within P keeps (suc n) (b ∷ bs) h =
    go (b == 109) refl
    (kept-with_item P (item (b ∷ bs)) (λ rest. items_within n rest)
    (some_rest (item (b ∷ bs)) (λ i. P i.rest) _ (kept-item P keeps (b ∷ bs) h)
    (λ i k. kept-items_within P keeps n i.rest (Behind-from P keeps i.rest k))))
  where
    go : (v : Bool) → (b == 109) ≡ v → IfSome (with_item (item (b ∷ bs)) (λ rest. items_within n rest)) (λ s. P s.rest)
        → IfSome (cond v (Some (record { items = []; rest = bs })) (with_item (item (b ∷ bs)) (λ rest. items_within n rest))) (λ s. P s.rest)
    go true e k = h (let same : b ≡ 109 = eqb-true b 109 e in omega (arith, same))
    go false e k = k

pub kept-items : (P : List ℕ → Type 0) → Keeps P → (bs : List ℕ) → Behind P bs → IfSome (items bs) (λ s. P s.rest)
kept-items P keeps bs h = kept-items_within P keeps (length bs) bs h

pub kept-sequence : (P : List ℕ → Type 0) → Keeps P → (bs : List ℕ) → Behind P bs → IfSome (sequence bs) (λ s. P s.rest)
kept-sequence P keeps bs h =
    and_then P (λ (s : Sequence). P s.rest) (λ rest. items rest) (required 91 bs) (kept-required P 91 (lit< tt) bs h)
    (λ rest k. kept-items P keeps rest (Behind-from P keeps rest k))

-- one more item, one step on
pub with_items-item : (style : Style) (bs : List ℕ) (i : ItemRead) → None ≡ required 109 bs → Some i ≡ item bs
    → option_map (with_items (after_item style i.item)) (items i.rest) ≡ option_map (with_items style) (items bs)
unfolding after_items
with_items-item style bs i none some =
    sym (ap (option_map (with_items style)) (items-required bs (sym none) ∙ ap (λ o. with_item o (λ rest. items rest)) (sym some)) ∙ go (items i.rest))
  where
    go : (o : Option Sequence) → option_map (with_items style) (before i.item o) ≡ option_map (with_items (after_item style i.item)) o
    go None = refl
    go (Some s) = refl

pub with_items-end : (style : Style) (bs rest : List ℕ) → Some rest ≡ required 109 bs → Some (record { style = style; rest = rest }) ≡ option_map (with_items style) (items bs)
unfolding after_items
with_items-end style bs rest some = sym (ap (option_map (with_items style)) (items-required_Some bs rest (sym some)))

pub with_items-none : (style : Style) (bs : List ℕ) → None ≡ required 109 bs → None ≡ item bs → None ≡ option_map (with_items style) (items bs)
with_items-none style bs none no_item =
    sym (ap (option_map (with_items style)) (items-required bs (sym none) ∙ ap (λ o. with_item o (λ rest. items rest)) (sym no_item)))

-- a sequence without items
pub with_sequence-end : (style : Style) (bs rest : List ℕ) → Some rest ≡ required 109 bs → Some (record { style = reset_style; rest = rest }) ≡ option_map (with_sequence style) (items bs)
with_sequence-end style bs rest some = sym (ap (option_map (with_sequence style)) (items-required_Some bs rest (sym some)))

-- where no `m` stands in front, the items are not empty
pub with_sequence-items : (style : Style) (bs : List ℕ) → None ≡ required 109 bs → option_map (with_items style) (items bs) ≡ option_map (with_sequence style) (items bs)
with_sequence-items style bs none =
    let same = items-required bs (sym none) in
    ap (option_map (with_items style)) same ∙ go (item bs) ∙ sym (ap (option_map (with_sequence style)) same)
  where
    filled : (i : Item) (o : Option Sequence) → option_map (with_items style) (before i o) ≡ option_map (with_sequence style) (before i o)
    filled i None = refl
    filled i (Some s) = refl

    go : (o : Option ItemRead) → option_map (with_items style) (with_item o (λ rest. items rest)) ≡ option_map (with_sequence style) (with_item o (λ rest. items rest))
    go None = refl
    go (Some i) = filled i.item (items i.rest)
