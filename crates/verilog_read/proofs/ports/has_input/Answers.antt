use Rattle.std.proofs.Common.{◌≡◌, ◌∙◌, true, refl, map, sym, ap, arith, ℕ, Bool, List, ◌∷◌, take, ◌||◌, false}
use Rattle.std.specs.List.{list_any}
use Rattle.std.proofs.lemmas.List.Folds.{list_any-append}
use Rattle.verilog_syntax.specs.Trees.{port_view}
use Rattle.verilog_syntax.specs.declared.tree.PortTree.{PortTree}
use Rattle.rtl_reading.specs.Uses.{is_bit_input}
use Rattle.verilog_read.proofs.Seq.{Split, get_split, map_whole}
use Rattle.verilog_read.proofs.ports.has_input.Goals as goal

found : (name : List ℕ) {ports : List PortTree} {i : ℕ} {x : PortTree} → Split ports i x → is_bit_input name (port_view x) ≡ true → true ≡ list_any (is_bit_input name) (map port_view ports)
found name {ports = ports} {i = i} {x = x} s e =
    let test = is_bit_input name in
    let back = map port_view s.rest in
    sym (ap (list_any test) (map_whole port_view s) ∙ list_any-append test
    (map port_view (take i ports)) (port_view x
    ∷ back) ∙ ap (λ b. list_any test (map port_view (take i ports)) ||
    (b || list_any test back)) e ∙ last (list_any test (map port_view (take i ports))))
  where
    last : (b : Bool) → (b || true) ≡ true
    last true = refl
    last false = refl

pub returns-then-is_input : goal.returns-then-is_input
returns-then-is_input c = found c.args.name.now (get_split c.args.ports.now c.loop-port.port-index _ (omega arith)) (sym c.is_input.ensures ∙ c.if-is_input.true)
