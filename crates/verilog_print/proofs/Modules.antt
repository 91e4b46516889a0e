-- The trees of modules, and that their printed bytes spell them.
use Rattle.std.proofs.Common.{◌≡◌, ℕ, suc, ◌<◌, List, [], ◌∷◌, ◌++◌, length, refl, sym, subst, arith, Some, append_assoc}
use Rattle.std.specs.Prelude.{codes, map, slice_get}
use Rattle.std.specs.List.{flat_map}
use Rattle.rtl_ir.specs.declared.design.Module.{Module}
use Rattle.rtl_ir.specs.Formed.{IsFormedModule, IsFormed, is_bit_input}
use Rattle.rtl_text.specs.Tree.{ItemTree, ModuleTree}
use Rattle.rtl_text.specs.Productions.{Part, Choice}
use Rattle.verilog_print.specs.Printed.{ports_text, nets_text, modules_text, assign_text, memory_text, updates_text, instance_text, module_text}
use Rattle.verilog_print.proofs.Spelling.{Spells, pick, blank, end, word, id}
use Rattle.verilog_print.proofs.Trees.{AllNamed, all_named, open_round, close_round, semicolon}
use Rattle.verilog_print.proofs.Trees.{port_tree, net_items, memory_item, assign_item, always_items}
use Rattle.verilog_print.proofs.Trees.{ports_spell, nets_spell, memories_spell, assigns_spell}
use Rattle.verilog_print.proofs.Trees.{always_spells}
use Rattle.verilog_print.proofs.Instances.{instance_item, instances_spell, IsPart, parts, any_some}

-- the items of a module
unfoldable pub items_of : List Module → Module → List ItemTree
items_of modules m = net_items m.ports 0 m.nets ++ (map memory_item m.mems ++ (map (assign_item m) m.assigns ++ (map (instance_item modules m) m.instances ++ (always_items m m.updates ++ []))))

unfoldable pub module_tree : List Module → Module → ModuleTree
module_tree modules m = record { name = m.name; ports = map (port_tree m.nets) m.ports; items = items_of modules m }

regrouped : (a b c d e f g h i j k rest : List ℕ) → (a ++ b ++ c ++ d ++ e ++ f ++ g ++ h ++ i ++ j ++ k) ++ rest ≡ a ++ (b ++ (c ++ (d ++ (e ++ (f ++ (g ++ (h ++ (i ++ (j ++ (k ++ rest))))))))))
regrouped a b c d e f g h i j k rest = simp append_assoc

items_spell : (modules : List Module) (m : Module) {ps : List Part} {rest : List ℕ} → IsPart modules m → Spells (Part.Items [] ∷ ps) rest
    → Spells (Part.Items (items_of modules m) ∷ ps)
    (nets_text m.ports 0 m.nets ++ (flat_map memory_text m.mems ++ (flat_map (assign_text m) m.assigns ++ (flat_map (instance_text modules m) m.instances ++ (updates_text m m.updates ++ rest)))))
unfolding items_of
items_spell modules m part r =
    let f : IsFormedModule part.earlier m = part.formed in
    let named : AllNamed m = all_named part.earlier m f in
    nets_spell m.ports 0 m.nets _ f.nets (memories_spell m.mems _ f.mems (assigns_spell m m.assigns _ named f.assigns
    (instances_spell modules m m.instances part.earlier _ named part.inner f.instances (always_spells m m.updates [] named f.updates r))))

module_spells : (modules : List Module) (m : Module) {ps : List Part} {rest : List ℕ}
    → IsPart modules m → Spells ps rest → Spells (Part.Module (module_tree modules m)
    ∷ ps) (module_text modules m ++ rest)
unfolding module_tree module_text
module_spells modules m {ps = ps} {rest = rest} part r =
    let f : IsFormedModule part.earlier m = part.formed in
    let ended : Spells (Part.Items [] ∷ Part.Reserved (codes "endmodule") ∷ ps) (codes "endmodule\n" ++ rest) = pick Choice.no_items (word (codes "endmodule") 10 refl refl refl (blank refl r)) in
    let text : List ℕ = nets_text m.ports 0 m.nets
    ++ (flat_map memory_text m.mems ++ (flat_map (assign_text m) m.assigns ++ (flat_map (instance_text modules m) m.instances ++ (updates_text m m.updates ++ (codes "endmodule\n" ++ rest))))) in
    let items : Spells (Part.Items (items_of modules m) ∷ Part.Reserved (codes "endmodule") ∷ ps) text = items_spell modules m part ended in
    let ported : Spells (Part.Ports (map (port_tree m.nets) m.ports) ∷ Part.Sign_ (codes ")")
    ∷ Part.Sign_ (codes ";") ∷ Part.Items (items_of modules m)
    ∷ Part.Reserved (codes "endmodule") ∷ ps) (ports_text m.nets m.ports ++ 41 ∷ 59 ∷ 10
    ∷ text) =
    ports_spell part.earlier m m.ports (any_some (is_bit_input m (codes "clk")) m.ports f.clock) f f.ports (close_round (semicolon (blank refl items))) in
    subst (λ l. Spells (Part.Module (module_tree modules m) ∷ ps) l)
    (sym (regrouped (codes "module ") m.name (codes " (\n") (ports_text m.nets m.ports)
    (codes ");\n") (nets_text m.ports 0 m.nets) (flat_map memory_text m.mems)
    (flat_map (assign_text m) m.assigns) (flat_map (instance_text modules m) m.instances)
    (updates_text m m.updates) (codes "endmodule\n") rest))
    (pick Choice.module' (word (codes "module") 32 refl refl refl (blank refl (id f.name refl (blank refl (open_round (blank refl ported)))))))

-- some of the modules
some_spell : (modules some : List Module) → ((k : ℕ) (m : Module) → slice_get some k ≡ Some m
    → IsPart modules m) → Spells (Part.Modules (map (module_tree modules) some)
    ∷ []) (flat_map (module_text modules) some)
some_spell modules [] f = pick Choice.no_modules end
some_spell modules (m ∷ some) f = pick Choice.more_modules (module_spells modules m (f 0 m refl) (some_spell modules some (λ k x e. f (suc k) x e)))

file_spell : (modules some : List Module) → 0 < length some
    → ((k : ℕ) (m : Module) → slice_get some k ≡ Some m → IsPart modules m)
    → Spells (Part.File (map (module_tree modules) some) ∷ []) (flat_map (module_text modules) some)
file_spell modules [] h f = absurd (omega arith)
file_spell modules (m ∷ some) h f = pick Choice.file (module_spells modules m (f 0 m refl) (some_spell modules some (λ k x e. f (suc k) x e)))

pub file_spells : (modules : List Module) → IsFormed modules → Spells (Part.File (map (module_tree modules) modules) ∷ []) (modules_text modules)
file_spells modules f = file_spell modules modules f.some (parts modules f)
