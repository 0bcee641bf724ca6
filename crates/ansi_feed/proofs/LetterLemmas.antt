-- What stands behind the items of a sequence keeps each property that is kept when a byte in front goes that is no letter.
use Rattle.std.proofs.Common.{◌≡◌, ◌+◌, ◌-◌, ◌*◌, ◌==◌, nat_le, ℕ, zero, suc, Bool, true, false, cond, List, [], ◌∷◌, length, refl, ap, sym, ◌∙◌, arith, Some, None, Option, IfSome, unwrap_or}
use Rattle.std.proofs.lemmas.Bool.Decides.{nat_tests}
use Rattle.std.proofs.lemmas.Bool.{eqb-true}
use Rattle.std.specs.Option.{option_map, option_and_then}
use Rattle.ansi_text.specs.Numbers.{NumberRead, is_digit, digit, with_digits, number, byte, unless_large, required, optional}
use Rattle.ansi_text.specs.Items.{ColorRead, ItemRead, next_byte, indexed, rgb, color_of, color, takes_color, item_of, item}
use Rattle.ansi_text.specs.declared.item.Item.{Item}
use Rattle.ansi_text.specs.Sequences.{Sequence, before, with_item, items_within, items, sequence}
use Rattle.ansi_text.specs.Pieces.{is_letter, beyond, escape, escape_of}
use Rattle.ansi_text.proofs.NumberLemmas.{here}

-- a property of bytes that is kept when a byte in front goes that is no letter
abbrev pub Keeps : (List ℕ → Type 0) → Type 0
Keeps P = (b : ℕ) (bs : List ℕ) → is_letter b ≡ false → P (b ∷ bs) → P bs

-- it holds of what follows a byte in front that is no letter
abbrev pub Behind : (List ℕ → Type 0) → List ℕ → Type 0
Behind P [] = Unit {0}
Behind P (b ∷ bs) = is_letter b ≡ false → P bs

pub Behind-from : (P : List ℕ → Type 0) → Keeps P → (bs : List ℕ) → P bs → Behind P bs
Behind-from P keeps [] h = tt
Behind-from P keeps (b ∷ bs) h = λ lt. keeps b bs lt h

and_then : {A B : Type 0} (P : A → Type 0) (Q : B → Type 0) (f : A → Option B) (o : Option A) → IfSome o P → ((x : A) → P x → IfSome (f x) Q) → IfSome (option_and_then f o) Q
and_then P Q f None h k = tt
and_then P Q f (Some x) h k = k x h

mapped : {A B : Type 0} (P : A → Type 0) (Q : B → Type 0) (f : A → B) (o : Option A) → IfSome o P → ((x : A) → P x → Q (f x)) → IfSome (option_map f o) Q
mapped P Q f None h k = tt
mapped P Q f (Some x) h k = k x h

chosen : {A : Type 0} (Q : A → Type 0) (b : Bool) (x y : Option A) → IfSome x Q → IfSome y Q → IfSome (cond b x y) Q
chosen Q true x y h k = h
chosen Q false x y h k = k

kept-required : (P : List ℕ → Type 0) (c : ℕ) → is_letter c ≡ false → (bs : List ℕ) → Behind P bs → IfSome (required c bs) P
kept-required P c lt [] h = tt
kept-required P c lt (b ∷ bs) h = go (b == c) refl
  where
    go : (v : Bool) → (b == c) ≡ v → IfSome (cond v (Some bs) None) P
    go true e = h (ap is_letter (eqb-true b c e) ∙ lt)
    go false e = tt

kept-optional : (P : List ℕ → Type 0) → Keeps P → (c : ℕ) → is_letter c ≡ false → (bs : List ℕ) → P bs → P (optional c bs)
kept-optional P keeps c lt bs h = go (required c bs) (kept-required P c lt bs (Behind-from P keeps bs h))
  where
    go : (o : Option (List ℕ)) → IfSome o P → P (unwrap_or o bs)
    go None k = h
    go (Some rest) k = k

digit-no_letter : (b : ℕ) → is_digit b ≡ true → is_letter b ≡ false
digit-no_letter b e = grind (arith, nat_tests)

kept-with_digits : (P : List ℕ → Type 0) → Keeps P → (n : ℕ) (bs : List ℕ) → P bs → P (with_digits n bs).rest
unfolding with_digits
kept-with_digits P keeps n [] h = h
kept-with_digits P keeps n (b ∷ bs) h = go (is_digit b) refl (λ k. kept-with_digits P keeps (n * 10 + (b - 48)) bs k)
  where
    go : (v : Bool) → is_digit b ≡ v → (P bs → P (with_digits (n * 10 + (b - 48)) bs).rest) → P (cond v (with_digits (n * 10 + (b - 48)) bs) (here n (b ∷ bs))).rest
    go true e k = k (keeps b bs (digit-no_letter b e) h)
    go false e k = h

kept-digit : (P : List ℕ → Type 0) (bs : List ℕ) → Behind P bs → IfSome (digit bs) (λ d. P d.rest)
kept-digit P [] h = tt
kept-digit P (b ∷ bs) h = go (is_digit b) refl
  where
    go : (v : Bool) → is_digit b ≡ v → IfSome (cond v (Some (here (b - 48) bs)) None) (λ d. P d.rest)
    go true e = h (digit-no_letter b e)
    go false e = tt

kept-number : (P : List ℕ → Type 0) → Keeps P → (bs : List ℕ) → Behind P bs → IfSome (number bs) (λ n. P n.rest)
kept-number P keeps bs h =
    mapped (λ (d : NumberRead). P d.rest) (λ (n : NumberRead). P n.rest) (λ (d : NumberRead). with_digits d.value d.rest) (digit bs) (kept-digit P bs h)
    (λ d k. kept-with_digits P keeps d.value d.rest k)

kept-byte : (P : List ℕ → Type 0) → Keeps P → (bs : List ℕ) → Behind P bs → IfSome (byte bs) (λ n. P n.rest)
kept-byte P keeps bs h =
    and_then (λ (d : NumberRead). P d.rest) (λ (n : NumberRead). P n.rest) unless_large (number bs) (kept-number P keeps bs h)
    (λ n k. chosen (λ (m : NumberRead). P m.rest) (nat_le n.value 255) (Some n) None k tt)

kept-next_byte : (P : List ℕ → Type 0) → Keeps P → (bs : List ℕ) → P bs → IfSome (next_byte bs) (λ n. P n.rest)
kept-next_byte P keeps bs h =
    and_then P (λ (n : NumberRead). P n.rest) byte (required 59 bs) (kept-required P 59 refl bs (Behind-from P keeps bs h))
    (λ rest k. kept-byte P keeps rest (Behind-from P keeps rest k))

kept-indexed : (P : List ℕ → Type 0) → Keeps P → (bs : List ℕ) → P bs → IfSome (indexed bs) (λ c. P c.rest)
kept-indexed P keeps bs h =
    mapped (λ (n : NumberRead). P n.rest) (λ (c : ColorRead). P c.rest) _ (byte bs) (kept-byte P keeps bs (Behind-from P keeps bs h)) (λ n k. k)

kept-rgb : (P : List ℕ → Type 0) → Keeps P → (bs : List ℕ) → P bs → IfSome (rgb bs) (λ c. P c.rest)
kept-rgb P keeps bs h =
    and_then (λ (n : NumberRead). P n.rest) (λ (c : ColorRead). P c.rest) _ (byte bs) (kept-byte P keeps bs (Behind-from P keeps bs h))
    (λ r k. and_then (λ (n : NumberRead). P n.rest) (λ (c : ColorRead). P c.rest) _ (next_byte r.rest) (kept-next_byte P keeps r.rest k)
    (λ g l. mapped (λ (n : NumberRead). P n.rest) (λ (c : ColorRead). P c.rest) _ (next_byte g.rest) (kept-next_byte P keeps g.rest l) (λ b m. m)))

kept-color_of : (P : List ℕ → Type 0) → Keeps P → (kind : ℕ) (bs : List ℕ) → P bs → IfSome (color_of kind bs) (λ c. P c.rest)
kept-color_of P keeps kind bs h =
    chosen (λ (c : ColorRead). P c.rest) (kind == 2) (rgb bs) (cond (kind == 5) (indexed bs) None) (kept-rgb P keeps bs h)
    (chosen (λ (c : ColorRead). P c.rest) (kind == 5) (indexed bs) None (kept-indexed P keeps bs h) tt)

kept-color : (P : List ℕ → Type 0) → Keeps P → (bs : List ℕ) → P bs → IfSome (color bs) (λ c. P c.rest)
kept-color P keeps bs h =
    let plain = optional 43 bs in
    and_then (λ (n : NumberRead). P n.rest) (λ (c : ColorRead). P c.rest) _ (number plain)
    (kept-number P keeps plain (Behind-from P keeps plain (kept-optional P keeps 43 refl bs h)))
    (λ kind k. and_then P (λ (c : ColorRead). P c.rest) _ (required 59 kind.rest) (kept-required P 59 refl kind.rest (Behind-from P keeps kind.rest k))
    (λ rest l. kept-color_of P keeps kind.value (optional 59 rest) (kept-optional P keeps 59 refl rest l)))

kept-item_of : (P : List ℕ → Type 0) → Keeps P → (n : NumberRead) → P n.rest → IfSome (item_of n) (λ i. P i.rest)
kept-item_of P keeps n h =
    chosen (λ (i : ItemRead). P i.rest) (takes_color n.value) _ _
    (mapped (λ (c : ColorRead). P c.rest) (λ (i : ItemRead). P i.rest) _ (color (optional 59 n.rest)) (kept-color P keeps (optional 59 n.rest) (kept-optional P keeps 59 refl n.rest h))
    (λ c k. kept-optional P keeps 59 refl c.rest k))
    (kept-optional P keeps 59 refl n.rest h)

pub kept-item : (P : List ℕ → Type 0) → Keeps P → (bs : List ℕ) → Behind P bs → IfSome (item bs) (λ i. P i.rest)
kept-item P keeps bs h =
    and_then (λ (n : NumberRead). P n.rest) (λ (i : ItemRead). P i.rest) item_of (byte bs) (kept-byte P keeps bs h) (λ n k. kept-item_of P keeps n k)

-- ---- a sequence ends where what `[` drops would end

beyond-letter : (b : ℕ) (bs : List ℕ) → is_letter b ≡ true → beyond is_letter (b ∷ bs) ≡ bs
unfolding beyond
beyond-letter b bs e = ap (λ v. cond v bs (beyond is_letter bs)) e

beyond-other : (b : ℕ) (bs : List ℕ) → is_letter b ≡ false → beyond is_letter (b ∷ bs) ≡ beyond is_letter bs
unfolding beyond
beyond-other b bs e = ap (λ v. cond v bs (beyond is_letter bs)) e

-- what would end there as the bytes xs
abbrev EndsAs : List ℕ → List ℕ → Type 0
EndsAs bs xs = beyond is_letter xs ≡ beyond is_letter bs

EndsAs-Keeps : (bs : List ℕ) → Keeps (EndsAs bs)
EndsAs-Keeps bs c cs e h = sym (beyond-other c cs e) ∙ h

with_first : (target : List ℕ) (i : Item) (o : Option Sequence) → IfSome o (λ s. s.rest ≡ target) → IfSome (before i o) (λ s. s.rest ≡ target)
with_first target i None h = tt
with_first target i (Some s) h = h

along : (bs xs : List ℕ) → EndsAs bs xs → (o : Option Sequence) → IfSome o (λ s. s.rest ≡ beyond is_letter xs) → IfSome o (λ s. s.rest ≡ beyond is_letter bs)
along bs xs e None h = tt
along bs xs e (Some s) h = h ∙ e

letter_items_within : (n : ℕ) (bs : List ℕ) → IfSome (items_within n bs) (λ s. s.rest ≡ beyond is_letter bs)
unfolding items_within
letter_items_within zero bs = tt
letter_items_within (suc n) [] = tt
letter_items_within (suc n) (b ∷ bs) = go (b == 109) refl (λ xs. letter_items_within n xs)
  where
    others : ((xs : List ℕ) → IfSome (items_within n xs) (λ s. s.rest ≡ beyond is_letter xs)) → (o : Option ItemRead) → IfSome o (λ i. EndsAs (b ∷ bs) i.rest)
        → IfSome (with_item o (λ rest. items_within n rest)) (λ s. s.rest ≡ beyond is_letter (b ∷ bs))
    others ih None h = tt
    others ih (Some i) h =
        with_first (beyond is_letter (b ∷ bs)) i.item (items_within n i.rest)
        (along (b ∷ bs) i.rest h (items_within n i.rest) (ih i.rest))

    go : (v : Bool) → (b == 109) ≡ v → ((xs : List ℕ) → IfSome (items_within n xs) (λ s. s.rest ≡ beyond is_letter xs))
        → IfSome (cond v (Some (record { items = []; rest = bs })) (with_item (item (b ∷ bs)) (λ rest. items_within n rest)))
        (λ s. s.rest ≡ beyond is_letter (b ∷ bs))
    go true e ih = sym (beyond-letter b bs (ap is_letter (eqb-true b 109 e)))
    go false e ih = others ih (item (b ∷ bs)) (kept-item (EndsAs (b ∷ bs)) (EndsAs-Keeps (b ∷ bs)) (b ∷ bs) (Behind-from (EndsAs (b ∷ bs)) (EndsAs-Keeps (b ∷ bs)) (b ∷ bs) refl))

-- what follows `[` behind an escape byte, be it a sequence or not
pub rest-bracket : (bs : List ℕ) → (escape (91 ∷ bs)).rest ≡ beyond is_letter bs
rest-bracket bs = go (items bs) (letter_items_within (length bs) bs)
  where
    go : (o : Option Sequence) → IfSome o (λ s. s.rest ≡ beyond is_letter bs) → (escape_of o (91 ∷ bs)).rest ≡ beyond is_letter bs
    go None h = refl
    go (Some s) h = h
