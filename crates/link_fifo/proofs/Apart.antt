-- No output hangs on an input of the same edge.
use Rattle.std.proofs.Common.{◌≡◌, ℕ, Bool, true, false, ◌&&◌, ◌||◌, not, eqb, ltb, List, [], ◌∷◌, refl, sym, ap, subst, ◌∙◌}
use Rattle.std.specs.Prelude.{Some, slice_get}
use Rattle.std.proofs.lemmas.Bool.{false≢true, eqb-true}
use Rattle.rtl_ir.specs.declared.design.Port.{Port}
use Rattle.rtl_ir.specs.declared.design.Module.{Module}
use Rattle.rtl_ir.specs.declared.design.Design.{Design}
use Rattle.rtl_ir.specs.declared.design.Assign.{Assign}
use Rattle.rtl_ir.specs.Operands.{reads}
use Rattle.rtl_ir.specs.Typed.{is_input}
use Rattle.rtl_ir.specs.Rules.{Feeds, by_assign, by_part, Way, stay, step}
use Rattle.rtl_build.specs.Wires.{is_output}
use Rattle.link_fifo.specs.declared.numbers.Numbers.{Numbers}
use Rattle.link_fifo.specs.Netlist.{the_ports, the_assigns, fifo_of}
use Rattle.link_fifo.proofs.Items.{and_true, or_second, not_true, holds_all, holds_at, all_of, all_at}

-- the nets that hang on the registers alone: the outputs, the registers, and whether it is full or empty
abbrev of_state : ℕ → Bool
of_state n = ltb 3 n && ltb n 14 && not (eqb n 7)

abbrev stays : ℕ → Assign → Bool
stays k a = not (of_state a.target) || all_of of_state (reads a.expr)

all_stay : (p : ℕ) (n : Numbers) → holds_all stays 0 (the_assigns p n) ≡ true
all_stay p n = refl

fed :
    (d : Design) (name : List ℕ) (w e p q : ℕ) (n : Numbers) {m : Module} {a b : ℕ}
    → Feeds d m a b
    → m ≡ fifo_of name w e p q n
    → of_state b ≡ true
    → of_state a ≡ true
fed d name w e p q n (by_assign j a x at r) same h =
    let test = holds_at stays (the_assigns p n) (all_stay p n) j x (ap (λ (m : Module). slice_get m.assigns j) (sym same) ∙ at) in
    all_at of_state (reads x.expr) (or_second (not (of_state x.target)) (all_of of_state (reads x.expr)) test (ap not h)) r.0 _ r.1
fed d name w e p q n (by_part k j l c g i o way) same h =
    absurd (let none : slice_get [] k ≡ Some c.part = ap (λ (m : Module). slice_get m.instances k) (sym same) ∙ c.of in cc)

led :
    (d : Design) (name : List ℕ) (w e p q : ℕ) (n : Numbers) {m : Module} {a b : ℕ}
    → Way d m a b
    → m ≡ fifo_of name w e p q n
    → of_state b ≡ true
    → of_state a ≡ true
led d name w e p q n stay same h = h
led d name w e p q n (step feeds way) same h = fed d name w e p q n feeds same (led d name w e p q n way same h)

-- what holds of the nets of all outputs, and of all inputs
abbrev of_outputs : (ℕ → Bool) → List Port → Bool
of_outputs f [] = true
of_outputs f (p ∷ ps) = (not p.output || f p.net) && of_outputs f ps

outputs_are : (f : ℕ → Bool) (ps : List Port) (n : ℕ) → of_outputs f ps ≡ true → is_output ps n ≡ true → f n ≡ true
outputs_are f [] n h e = absurd (cc)
outputs_are f (p ∷ ps) n h e = by_first (outputs_are f ps n (and_true _ _ h).1) (eqb p.net n && p.output) refl e
  where
    by_first : (is_output ps n ≡ true → f n ≡ true) → (b : Bool) → eqb p.net n && p.output ≡ b → b || is_output ps n ≡ true → f n ≡ true
    by_first rest true is t =
        let both = and_true (eqb p.net n) p.output is in
        subst (λ x. f x ≡ true) (eqb-true p.net n both.0)
        (or_second (not p.output) (f p.net) (and_true (not p.output || f p.net) (of_outputs f ps) h).0 (ap not both.1))
    by_first rest false is t = rest t

abbrev of_inputs : (ℕ → Bool) → List Port → Bool
of_inputs f [] = true
of_inputs f (p ∷ ps) = (p.output || f p.net) && of_inputs f ps

inputs_are : (f : ℕ → Bool) (ps : List Port) (n : ℕ) → of_inputs f ps ≡ true → is_input ps n ≡ true → f n ≡ true
inputs_are f [] n h e = absurd (cc)
inputs_are f (p ∷ ps) n h e = by_first (inputs_are f ps n (and_true _ _ h).1) (eqb p.net n && not p.output) refl e
  where
    by_first : (is_input ps n ≡ true → f n ≡ true) → (b : Bool) → eqb p.net n && not p.output ≡ b → b || is_input ps n ≡ true → f n ≡ true
    by_first rest true is t =
        let both = and_true (eqb p.net n) (not p.output) is in
        subst (λ x. f x ≡ true) (eqb-true p.net n both.0)
        (or_second p.output (f p.net) (and_true (p.output || f p.net) (of_inputs f ps) h).0 (not_true p.output both.1))
    by_first rest false is t = rest t

pub apart :
    (d : Design) (name : List ℕ) (w e p q : ℕ) (n : Numbers) (a b : ℕ)
    → is_input the_ports a ≡ true
    → is_output the_ports b ≡ true
    → Way d (fifo_of name w e p q n) a b
    → ⊥
apart d name w e p q n a b i o way =
    let from = led d name w e p q n way refl (outputs_are of_state the_ports b refl o) in
    let out = not_true (of_state a) (inputs_are (λ x. not (of_state x)) the_ports a refl i) in
    false≢true (sym out ∙ from)
