use Rattle.std.proofs.Common.{◌≡◌, ◌∙◌, ℕ, ◌<◌, List, length, map, get_or, Some, refl, sym, ap, arith}
use Rattle.std.specs.Prelude.{slice_get}
use Rattle.std.specs.Option.{option_map}
use Rattle.std.proofs.lemmas.Option.{slice_get-map, slice_get_within}
use Rattle.std.proofs.lemmas.List.{length-map}
use Rattle.rtl_check.proofs.Places.{item_at}
use Rattle.rtl_text.specs.Tree as tree
use Rattle.verilog_syntax.specs.Trees.{connection_view, module_view}
use Rattle.verilog_syntax.specs.declared.tree.ModuleTree.{ModuleTree}
use Rattle.verilog_read.specs.Walk.{module_name}
use Rattle.verilog_read.proofs.Joins.{named_module, unnamed_module}
use Rattle.verilog_read.proofs.JoinSteps.{gives_instance}
use Rattle.verilog_read.proofs.declared.Declared.instance.Goals as goal

-- the tree with a number is the module with that number
tree_at : (modules : List tree.ModuleTree) (trees : List ModuleTree) (k : ℕ) (x : ModuleTree)
    → modules ≡ map module_view trees → k < length trees → x ≡ get_or trees k x
    → slice_get modules k ≡ Some (module_view x)
tree_at modules trees k x e lt is = ap (λ l. slice_get l k) e ∙ slice_get-map module_view trees k ∙ ap (option_map module_view) (item_at trees trees k x refl lt is)

some_is : {x y : tree.ModuleTree} → Some x ≡ Some y → x ≡ y
some_is e = cc

pub returns-in-Some-get : goal.returns-in-Some-get
returns-in-Some-get c = λ sc m e h t.
    let number = c.in-Some.number in
    let at = tree_at sc.modules c.args.earlier.trees.now number c.in-Some-get.tree.now e.trees c.in-Some-get.ensures.lookup.3.0 c.in-Some-get.ensures.lookup.1 in
    let n = sym (c.in-Some.ensures (map module_name sc.modules) e.numbers) in
    let (j, p, f) = named_module 0 sc.modules c.args.of.now number n in
    let q : j ≡ number = omega (arith, p) in
    let same : f.tree ≡ module_view c.in-Some-get.tree.now = some_is (sym f.at ∙ ap (slice_get sc.modules) q ∙ at) in
    gives_instance sc m c.args.of.now c.args.name.now
    (map connection_view c.args.connections.now) c.instance_of.result
    (module_view c.in-Some-get.tree.now) (f.found ∙ ap Some same)
    (ap (λ (x : tree.ModuleTree). x.name) (sym same) ∙ f.named)
    (c.instance_of.ensures sc m h t (rw c.new-inner.ensures at))

pub returns-in-None-get : goal.returns-in-None-get
returns-in-None-get c = λ sc m e h t.
    let number = c.in-Some.number in
    let n = sym (c.in-Some.ensures (map module_name sc.modules) e.numbers) in
    let (j, p, f) = named_module 0 sc.modules c.args.of.now number n in
    let q : j ≡ number = omega (arith, p) in
    let size : length sc.modules ≡ length c.args.earlier.trees.now = ap length e.trees ∙ length-map c.args.earlier.trees.now module_view in
    absurd (omega (arith, slice_get_within sc.modules j f.tree f.at, c.in-None-get.ensures.lookup.3, size, q))

pub returns-in-None : goal.returns-in-None
returns-in-None c = λ sc m e h t.
    let n = sym (c.in-None.ensures (map module_name sc.modules) e.numbers) in
    let none = unnamed_module 0 sc.modules c.args.of.now n in
    rw none refl
