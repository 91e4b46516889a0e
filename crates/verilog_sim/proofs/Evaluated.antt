-- From the registers and inputs to the values of all nets.
use Rattle.std.proofs.Common.{◌≡◌, ◌≢◌, ℕ, zero, suc, ◌^◌, ◌<◌, ◌||◌, ◌&&◌, Bool, true, false, not, eqb, List, [], ◌∷◌, get_or, Some, refl, sym, ap, ◌∙◌, subst}
use Rattle.std.specs.Prelude.{slice_get}
use Rattle.std.proofs.lemmas.Bool.{eq-eqb, false≢true}
use Rattle.rtl_ir.specs.declared.design.Port.{Port}
use Rattle.rtl_ir.specs.declared.design.Module.{Module}
use Rattle.rtl_ir.specs.declared.design.Assign.{Assign}
use Rattle.mx_bits.specs.declared.word.Word.{Word}
use Rattle.rtl_ir.specs.declared.design.Expr.{Expr}
use Rattle.rtl_ir.specs.declared.design.Expr.TheVariants.{Net as Plain, Literal, Not, Binary, Concat, Repeat, Part, Choose, Cell}
use Rattle.rtl_ir.specs.Value.{Family, value, width_of, is_reg}
use Rattle.rtl_ir.specs.Typed.{is_input, is_given}
use Rattle.rtl_ir.proofs.Ports.{assigned_of}
use Rattle.verilog_sim.specs.declared.offer.Offer.{Offer}
use Rattle.rtl_ir.specs.declared.interface.Interface.{Interface}
use Rattle.verilog_sim.specs.Contents.{family_of, contents_of}
use Rattle.verilog_sim.specs.Updates.{IsLoaded}
use Rattle.verilog_sim.specs.Runnable.{IsRunnable, IsOrderOf, IsPartOf}
use Rattle.verilog_sim.specs.Settled.{AreWords}
use Rattle.verilog_sim.specs.Gifts.{Every, gifts}
use Rattle.verilog_sim.specs.Simulates.{AreConstant, AreKept, IsEvaluated, IsEvaluatedBy}

-- an expression reads the memories alone, and no register's content
value_cells : (m : Module) (held : List ℕ) (memories : List (List ℕ)) (v : Family) (w : ℕ) (e : Expr)
    → value m (contents_of [] memories) v w e ≡ value m (contents_of held memories) v w e
value_cells m held memories v w (Plain n) = refl
value_cells m held memories v w (Literal x) = refl
value_cells m held memories v w (Not n) = refl
value_cells m held memories v w (Binary s a b) = refl
value_cells m held memories v w (Concat a b) = refl
value_cells m held memories v w (Repeat k n) = refl
value_cells m held memories v w (Part n hi lo) = refl
value_cells m held memories v w (Choose n a b) = refl
value_cells m held memories v w (Cell k n) = refl

-- an input among the ports is one
pub input_of : (ps : List Port) (i : ℕ) (p : Port) → slice_get ps i ≡ Some p → p.output ≡ false → is_input ps p.net ≡ true
input_of [] i p e f = absurd (cc)
input_of (q ∷ ps) zero p e f =
    let r : q ≡ p = cc in
    let here : eqb q.net p.net ≡ true = eq-eqb q.net p.net (ap (λ (x : Port). x.net) r) in
    let out : q.output ≡ false = ap (λ (x : Port). x.output) r ∙ f in
    ap (λ b. (b && not q.output) || is_input ps p.net) here ∙ ap (λ b. (true && not b) || is_input ps p.net) out
input_of (q ∷ ps) (suc i) p e f = let r = input_of ps i p e f in ap (λ b. (eqb q.net p.net && not q.output) || b) r ∙ or_true (eqb q.net p.net && not q.output)
  where
    or_true : (b : Bool) → b || true ≡ true
    or_true true = refl
    or_true false = refl

pub given_reg : (m : Module) (n : ℕ) → is_reg m n ≡ true → is_given m n ≡ true
given_reg m n h = ap (λ b. b || is_input m.ports n) h

pub given_input : (m : Module) (n : ℕ) → is_input m.ports n ≡ true → is_given m n ≡ true
given_input m n h = ap (λ b. is_reg m n || b) h ∙ or_true (is_reg m n)
  where
    or_true : (b : Bool) → b || true ≡ true
    or_true true = refl
    or_true false = refl

-- what is given to a net is no target of an assignment
pub no_target : (m : Module) (order : List Assign) (n : ℕ) → IsRunnable m → IsPartOf m order → is_given m n ≡ true
    → (i : ℕ) (a : Assign) → slice_get order i ≡ Some a → a.target ≢ n
no_target m order n r o given i a at e =
    let from = o.from i a at in
    false≢true (sym (r.given from.0 a from.1) ∙ ap (is_given m) e ∙ given)

-- registers loaded
pub loaded_words : (m : Module) (held old new : List ℕ) (memories : List (List ℕ)) → IsRunnable m
    → ((n : ℕ) → is_reg m n ≡ true → get_or held n 0 < 2 ^ width_of m n) → AreWords m old memories
    → IsLoaded m.updates held old new → AreWords m new memories
loaded_words m held old new memories r h w l =
    record { nets = l.size ∙ w.nets; words = λ n. by_kind n (is_reg m n) refl; depths = w.depths; cells = w.cells }
  where
    by_kind : (n : ℕ) (b : Bool) → is_reg m n ≡ b → get_or new n 0 < 2 ^ width_of m n
    by_kind n true e =
        let u = r.updated n e in
        subst (λ (y : ℕ). y < 2 ^ width_of m n) (sym (l.regs u.0 n u.1 u.2 u.3)) (h n e)
    by_kind n false e =
        subst (λ (y : ℕ). y < 2 ^ width_of m n) (sym (l.others n (λ j u at t. false≢true (sym e ∙ r.regs j n u at t)))) (w.words n)

pub loaded_regs : (m : Module) (held old new : List ℕ) → IsRunnable m → IsLoaded m.updates held old new → (n : ℕ)
    → is_reg m n ≡ true → get_or new n 0 ≡ get_or held n 0
loaded_regs m held old new r l n e = let u = r.updated n e in l.regs u.0 n u.1 u.2 u.3

-- literals keep their words
pub loaded_constants : (m : Module) (held old new : List ℕ) → IsRunnable m → IsLoaded m.updates held old new → AreConstant m old → AreConstant m new
loaded_constants m held old new r l constant k a x at lit =
    l.others a.target (λ j u e t. false≢true (sym (r.given k a at) ∙ given_reg m a.target (r.regs j a.target u e t))) ∙ constant k a x at lit

-- the ports keep their values
pub loaded_ports :
    (m : Module) (held old new : List ℕ) → IsRunnable m → ((i : ℕ) (p : Port) → slice_get m.ports i ≡ Some p
    → is_reg m p.net ≡ false) → IsLoaded m.updates held old new
    → (i : ℕ) (p : Port) → slice_get m.ports i ≡ Some p → get_or new p.net 0 ≡ get_or old p.net 0
loaded_ports m held old new r wires l i p at = l.others p.net (λ j u e t. false≢true (sym (wires i p at) ∙ r.regs j p.net u e t))

-- what all assignments give
pub evaluated :
    (m : Module) (c : Interface) (reset : Bool) (steady : List ℕ) (offers : List Offer) (accepts holds : List Bool)
    (held new : List ℕ) (memories : List (List ℕ)) (order : List Assign)
    → IsRunnable m → IsOrderOf m order → Every (λ (g : ℕ × ℕ). is_input m.ports g.0 ≡ true) (gifts c reset steady offers accepts holds)
    → IsEvaluatedBy m order c reset steady offers accepts holds held memories new → IsEvaluated m c reset steady offers accepts holds held memories new
evaluated m c reset steady offers accepts holds held new memories order r o inputs b =
    let s = b.settles in
    let part : IsPartOf m order = record { in_order = o.in_order; from = o.from } in
    record {
      words = record { nets = s.nets; words = s.words; depths = b.words.depths; cells = b.words.cells };
      fits = record {
        words = s.words;
        assigned = assigned_of m (contents_of held memories) (family_of new) m.assigns
            (λ j a at. (let q = o.all j a at in s.assigned q.0 a q.1
            ∙ value_cells m held memories (family_of new) (width_of m a.target) a.expr));
        kept = λ n e. s.others n (no_target m order n r part (given_reg m n e)) ∙ b.kept n e;
      };
      given = stay (gifts c reset steady offers accepts holds) inputs b.given;
    }
  where
    stay : (gs : List (ℕ × ℕ)) → Every (λ (g : ℕ × ℕ). is_input m.ports g.0 ≡ true) gs
        → Every (λ (g : ℕ × ℕ). get_or b.driven g.0 0 ≡ g.1) gs → Every (λ (g : ℕ × ℕ). get_or new g.0 0 ≡ g.1) gs
    stay [] at given = tt
    stay (g ∷ gs) at given = (
      b.settles.others g.0 (no_target m order g.0 r
          (record { in_order = o.in_order; from = o.from }) (given_input m g.0 at.0)) ∙ given.0,
      stay gs at.1 given.1,
    )

-- what was kept stays so where some assignments give values
pub kept_on_instructions :
    (m : Module) (assigns : List Assign) (c : Interface) (reset : Bool) (steady : List ℕ) (offers : List Offer)
    (accepts holds : List Bool) (held old new : List ℕ) (memories : List (List ℕ))
    → IsRunnable m → IsPartOf m assigns → ((k : ℕ) (a : Assign) (x : Word) → slice_get m.assigns k ≡ Some a
    → a.expr ≡ Literal x → (i : ℕ) (b : Assign) → slice_get assigns i ≡ Some b → b.target ≢ a.target)
    → AreKept m c steady held old memories
    → IsEvaluatedBy m assigns c reset steady offers accepts holds held memories new → AreKept m c steady held new memories
kept_on_instructions m assigns c reset steady offers accepts holds held old new memories r part free k b =
    record {
      blocks = k.blocks;
      words = record { nets = b.settles.nets; words = b.settles.words; depths = k.words.depths; cells = k.words.cells };
      held_nets = k.held_nets;
      held_words = k.held_words;
      loaded = λ n e. b.settles.others n (no_target m assigns n r part (given_reg m n e)) ∙ b.kept n e;
      constant = λ j a x at lit. b.settles.others a.target (free j a x at lit) ∙ b.constant j a x at lit;
      steady_ports = k.steady_ports;
      steady_words = k.steady_words;
    }
