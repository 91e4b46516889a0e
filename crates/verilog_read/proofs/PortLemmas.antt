-- The ports of a module, one by one.
use Rattle.std.proofs.Common.{◌≡◌, ◌∙◌, ℕ, suc, ◌+◌, Bool, true, false, List, [], ◌∷◌, ◌++◌, length, map, refl, sym, ap, arith}
use Rattle.std.proofs.lemmas.List.{append-nil, length-map, length-append}
use Rattle.rtl_ir.specs.declared.design.Net.{Net}
use Rattle.rtl_ir.specs.declared.design.Port.{Port}
use Rattle.rtl_ir.specs.declared.design.Module.{Module}
use Rattle.rtl_text.specs.Tree.{Name, PortTree, ModuleTree}
use Rattle.rtl_reading.specs.Reads.{port_net, item_nets}
use Rattle.verilog_read.specs.Built.{IsSaid, port_of, ports_from}
use Rattle.verilog_read.specs.Walk.{port_scope, port_tree}
use Rattle.verilog_read.proofs.Tables.{map_joined}
use Rattle.verilog_read.proofs.Grow.{grows_by, pairwise_map, assign_grows, update_grows, part_grows}

ports_push : (k : ℕ) (ps : List PortTree) (p : PortTree) → ports_from k (ps ++ p ∷ []) ≡ ports_from k ps ++ port_of (k + length ps) p ∷ []
ports_push k [] p = let e : k + 0 ≡ k = omega arith in rw e refl
ports_push k (q ∷ ps) p = let e : k + 1 + length ps ≡ k + suc (length ps) = omega arith in ap (λ l. port_of k q ∷ l) (ports_push (k + 1) ps p ∙ ap (λ n. ports_from (k + 1) ps ++ port_of n p ∷ []) e)

net_is : (name : Name) (width : ℕ) (output : Bool) → port_net (port_tree name width output) ≡ record { name = name; width = width; reg = false }
net_is name width true = refl
net_is name width false = refl

port_is : (k : ℕ) (name : Name) (width : ℕ) (output : Bool) → port_of k (port_tree name width output) ≡ record { net = k; output = output }
port_is k name width true = refl
port_is k name width false = refl

-- a module with one port more
abbrev pub with_port : Module → Name → ℕ → Bool → Module
with_port m name width output = record m {
  ports = m.ports ++ record { net = length m.nets; output = output } ∷ [];
  nets = m.nets ++ record { name = name; width = width; reg = false } ∷ [];
}

pub port_said : (named : Name) (modules : List ModuleTree) (before : List PortTree)
    (name : Name) (width : ℕ) (output : Bool) (m : Module)
    → IsSaid named (port_scope modules before) m → IsSaid named (port_scope modules (before
    ++ port_tree name width output ∷ [])) (with_port m name width output)
port_said named modules before name width output m s =
    let p = port_tree name width output in
    let n : Module = with_port m name width output in
    let count : length m.nets ≡ 0 + length before = omega (arith, ap length s.declared.nets, length-append (map port_net before) (item_nets []), length-map before port_net) in
    let g = grows_by m n (record { name = name; width = width; reg = false } ∷ []) [] refl (sym (append-nil m.mems)) in
    record {
      named = s.named;
      ports = ap (λ l. l ++ record { net = length m.nets; output = output }
          ∷ []) s.ports ∙ ap (λ (x : Port). ports_from 0 before ++ x
          ∷ []) (ap (λ k. record { net = k; output = output }) count ∙ sym
          (port_is (0 + length before) name width output)) ∙ sym (ports_push 0 before p);
      declared = record {
        nets = ap (λ l. l ++ record { name = name; width = width; reg = false }
            ∷ []) (s.declared.nets ∙ append-nil (map port_net before)) ∙ ap
            (λ (x : Net). map port_net before ++ x
            ∷ []) (sym (net_is name width output)) ∙ sym (map_joined port_net before (p
            ∷ [])) ∙ sym (append-nil (map port_net (before ++ p ∷ [])));
        mems = s.declared.mems;
      };
      assigns = pairwise_map (assign_grows g) [] m.assigns s.assigns;
      updates = pairwise_map (update_grows g) [] m.updates s.updates;
      instances = pairwise_map (part_grows g modules) [] m.instances s.instances;
    }
