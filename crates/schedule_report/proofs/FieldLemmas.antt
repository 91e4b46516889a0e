-- Which number or which name a line says.
use Rattle.std.proofs.Common.{◌≡◌, ◌∙◌, ℕ, ◌<◌, ◌^◌, Bool, true, List, [], ◌∷◌, ◌++◌, refl, sym, ap, arith, Option, Some, None, IfNone, append_assoc}
use Rattle.std.specs.Prelude.{codes}
use Rattle.std.specs.List.{list_all}
use Rattle.std.specs.Fmt.{decimal}
use Rattle.std.proofs.lemmas.List.{append-nil}
use Rattle.text_scan.specs.Classes.{is_in, BeginsOutside}
use Rattle.text_scan.specs.declared.bytes.ByteClass.TheVariants.{Digit, Word}
use Rattle.text_scan.proofs.ByteTests.{and_true, both_true, or_left}
use Rattle.grammar.specs.Bytes.{is_letter}
use Rattle.maxj_tokens.specs.Tokens.{is_name_byte}
use Rattle.kernel_calls.specs.Laws.{is_port_name}
use Rattle.schedule_report.specs.Fields.{IsNumber, IsField, IsLast, IsHeadLine}
use Rattle.schedule_report.proofs.Fronts.{front_same, behind_same, decimal_digits, number_same}

-- the digits at the front of a text are those of the number there
pub number_front : (text front rest : List ℕ) (limit : ℕ) → limit < 2 ^ 64 → text ≡ front ++ rest → list_all (is_in Digit) front ≡ true
    → BeginsOutside Digit rest
    → (value : ℕ) (more : List ℕ) → IsNumber text limit value more → front ≡ decimal value
number_front text front rest limit h e p o value more n =
    (front_same Digit front (decimal value) rest more p (decimal_digits value (let s = n.small in omega arith)) o n.apart (sym e ∙ n.text_is)).0

-- a number behind a label is at the front of what stands behind the label
pub field_number : (text label rest : List ℕ) (limit : ℕ) → text ≡ label ++ rest → (value : ℕ) (more : List ℕ) → IsField text label limit value more
    → IsNumber rest limit value more
field_number text label rest limit e value more f = record {
  text_is = behind_same label rest (decimal value ++ more) (sym e ∙ f.text_is);
  small = f.small;
  apart = f.apart;
}

-- where no number is at the front of what stands behind the label, none is behind the label
pub none_behind : {X : Type 0} (o : Option X) (text label rest : List ℕ) (limit : ℕ) → text ≡ label ++ rest
    → IfNone o ((value : ℕ) (more : List ℕ) → IsNumber rest limit value more → ⊥)
    → IfNone o ((value : ℕ) (more : List ℕ) → IsField text label limit value more → ⊥)
none_behind None text label rest limit e none = λ value more f. none value more (field_number text label rest limit e value more f)
none_behind (Some x) text label rest limit e none = tt

-- one text has one number behind a label
pub field_same : (text label : List ℕ) (limit limit2 v w : ℕ) (rest more : List ℕ) → limit < 2 ^ 64 → limit2 < 2 ^ 64 → IsField text label limit v rest
    → IsField text label limit2 w more → (v ≡ w) × (rest ≡ more)
field_same text label limit limit2 v w rest more h i a b =
    let s = a.small in
    let t = b.small in
    number_same v w rest more (omega arith) (omega arith) a.apart b.apart
    (behind_same label (decimal v ++ rest) (decimal w ++ more) (sym a.text_is ∙ b.text_is))

-- a last number is one behind which nothing stands
pub last_field : (text label : List ℕ) (limit value : ℕ) → IsLast text label limit value → IsField text label limit value []
last_field text label limit value l = record {
  text_is = l.text_is ∙ ap (λ t. label ++ t) (sym (append-nil (decimal value)));
  small = l.small;
  apart = tt;
}

-- what stands behind each part of a kernel's line
abbrev pub from_bits : ℕ → List ℕ
from_bits bits = codes " bits " ++ decimal bits

abbrev pub from_edges : ℕ → ℕ → List ℕ
from_edges edges bits = codes " edges " ++ (decimal edges ++ from_bits bits)

abbrev pub from_nodes : ℕ → ℕ → ℕ → List ℕ
from_nodes nodes edges bits = codes " nodes " ++ (decimal nodes ++ from_edges edges bits)

-- a kernel's line part by part
pub parts_are : (name : List ℕ) (nodes edges bits : ℕ)
    → codes "kernel " ++ name ++ codes " nodes " ++ decimal nodes ++ codes " edges " ++ decimal edges ++ codes " bits " ++ decimal bits
    ≡ codes "kernel " ++ (name ++ from_nodes nodes edges bits)
parts_are name nodes edges bits = simp append_assoc

-- what is of one class of bytes is of another that has the same bytes
all_of : (p q : ℕ → Bool) → ((b : ℕ) → p b ≡ q b) → (xs : List ℕ) → list_all p xs ≡ true → list_all q xs ≡ true
all_of p q same [] e = refl
all_of p q same (x ∷ xs) e =
    let (a, b) = and_true (p x) _ e in
    both_true (q x) _ (sym (same x) ∙ a) (all_of p q same xs b)

-- a name is of one class of bytes
pub name_word : (name : List ℕ) → is_port_name name ≡ true → list_all (is_in Word) name ≡ true
name_word [] e = absurd (cc)
name_word (b ∷ bs) e =
    let (first, rest) = and_true (is_letter b) _ e in
    both_true (is_in Word b) _ (or_left (is_letter b) _ first) (all_of is_name_byte (is_in Word) (λ x. refl) bs rest)

-- the name and what stands behind it
pub head_name : (line text front rest name : List ℕ) (nodes edges bits : ℕ) → line ≡ codes "kernel " ++ text → text ≡ front ++ rest
    → list_all (is_in Word) front ≡ true → BeginsOutside Word rest
    → IsHeadLine line name nodes edges bits → (front ≡ name) × (rest ≡ from_nodes nodes edges bits)
head_name line text front rest name nodes edges bits e f p o h =
    let whole : codes "kernel " ++ text ≡ codes "kernel " ++ (name ++ from_nodes nodes edges bits) = sym e ∙ h.line_is ∙ parts_are name nodes edges bits in
    let tail : text ≡ name ++ from_nodes nodes edges bits = behind_same (codes "kernel ") text (name ++ from_nodes nodes edges bits) whole in
    front_same Word front name rest (from_nodes nodes edges bits) p (name_word name h.named) o refl (sym f ∙ tail)

-- the number of nodes is a field there
pub nodes_field : (text : List ℕ) (nodes edges bits : ℕ) → text ≡ from_nodes nodes edges bits → nodes < 2 ^ 32
    → IsField text (codes " nodes ") (2 ^ 32) nodes (from_edges edges bits)
nodes_field text nodes edges bits e h = record { text_is = e; small = h; apart = refl }

-- and the number of edges
pub edges_field : (text : List ℕ) (edges bits : ℕ) → text ≡ from_edges edges bits → edges < 2 ^ 32
    → IsField text (codes " edges ") (2 ^ 32) edges (from_bits bits)
edges_field text edges bits e h = record { text_is = e; small = h; apart = refl }
