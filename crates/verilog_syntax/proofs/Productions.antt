-- The productions as plans.
use Rattle.std.proofs.Common.{◌≡◌, ◌⊎◌, inl, inr, ℕ, ◌+◌, ◌-◌, ◌≤◌, List, [], ◌∷◌, ◌++◌, refl, ap, subst, arith, codes}
use Rattle.rtl_text.specs.Tree.{Name, PortTree, InputPort, OutputPort, ExprTree, PlainTree}
use Rattle.rtl_text.specs.Tree.{LiteralTree, NotTree, BinaryTree, ConcatTree, RepeatTree, PartTree}
use Rattle.rtl_text.specs.Tree.{ChooseTree, CellTree, UpdateTree, RegisterUpdate, CellUpdate}
use Rattle.rtl_text.specs.Tree.{Connection, ItemTree, WireItem, RegisterItem, MemoryItem}
use Rattle.rtl_text.specs.Tree.{AssignItem, AlwaysItem, InstanceItem, ModuleTree}
use Rattle.rtl_text.specs.Productions.{Part, Sign_, Reserved, Clock, Number, Id, Range, Port, Ports}
use Rattle.rtl_text.specs.Productions.{MorePorts, Expr, Update, Updates, Connected, Connections}
use Rattle.rtl_text.specs.Productions.{MoreConnections, Item, Items, Module, Modules, File, Choice}
use Rattle.verilog_syntax.specs.Parsing.{NameOf, NumberTo, LiteralOf, OperatorOf, RangeOf, PortOf}
use Rattle.verilog_syntax.specs.Parsing.{PortsOf, MorePortsOf, ExprOf, UpdateOf, UpdatesOf}
use Rattle.verilog_syntax.specs.Parsing.{ConnectionOf, ConnectionsOf, MoreConnectionsOf, ItemOf}
use Rattle.verilog_syntax.specs.Parsing.{ItemsOf, ModuleOf, ModulesOf, FileOf}
use Rattle.verilog_syntax.proofs.Plans.{Plan, done, read, fixed, either, Path, value, stack, Plans, Repeats}

-- ranges and ports

abbrev pub range_plan : Plan ℕ
range_plan = fixed (Sign_ (codes "[") ∷ []) (read (NumberTo 127) (λ n. fixed (Sign_ (codes ":") ∷ Number 0 ∷ Sign_ (codes "]") ∷ []) (done (n + 1))))

range_from : (x : Path range_plan) → Choice (Range (value range_plan x)) (stack range_plan x)
range_from (n, h, u) =
    let same : n + 1 - 1 ≡ n = omega arith in
    subst (λ m. Choice (Range (n + 1)) (Sign_ (codes "[") ∷ Number m ∷ Sign_ (codes ":") ∷ Number 0 ∷ Sign_ (codes "]") ∷ [])) same (Choice.range {w = n + 1} (omega arith, omega arith))

range_to : (w : ℕ) (ps : List Part) → Choice (Range w) ps → (x : Path range_plan) × (w ≡ value range_plan x) × (ps ≡ stack range_plan x)
range_to w ps (Choice.range h) = let a = h.0 in let b = h.1 in ((w - 1, omega arith, tt), omega arith, refl)

pub range_plans : Plans RangeOf range_plan
range_plans = record { all = λ w. tt; from = range_from; to = range_to; no_token = λ w t i. i }

abbrev pub input_plan : Plan PortTree
input_plan = fixed (Reserved (codes "input") ∷ Reserved (codes "wire") ∷ []) (read RangeOf (λ w. read NameOf (λ n. done (InputPort w n))))

abbrev pub output_plan : Plan PortTree
output_plan = fixed (Reserved (codes "output") ∷ Reserved (codes "wire") ∷ []) (read RangeOf (λ w. read NameOf (λ n. done (OutputPort w n))))

abbrev pub port_plan : Plan PortTree
port_plan = either input_plan output_plan

port_from : (x : Path port_plan) → Choice (Port (value port_plan x)) (stack port_plan x)
port_from (inl x) = Choice.input
port_from (inr x) = Choice.output

port_to : (w : PortTree) (ps : List Part) → Choice (Port w) ps → (x : Path port_plan) × (w ≡ value port_plan x) × (ps ≡ stack port_plan x)
port_to w ps (Choice.input {w = n} {name = name}) = (inl (n, tt, (name, tt, tt)), refl, refl)
port_to w ps (Choice.output {w = n} {name = name}) = (inr (n, tt, (name, tt, tt)), refl, refl)

pub port_plans : Plans PortOf port_plan
port_plans = record { all = λ w. tt; from = port_from; to = port_to; no_token = λ w t i. i }

abbrev pub ports_plan : Plan (List PortTree)
ports_plan = read PortOf (λ p. read MorePortsOf (λ ps. done (p ∷ ps)))

ports_to : (w : List PortTree) (ps : List Part) → Choice (Ports w) ps → (x : Path ports_plan) × (w ≡ value ports_plan x) × (ps ≡ stack ports_plan x)
ports_to w ps (Choice.ports {p = p} {ps = more}) = ((p, tt, (more, tt, tt)), refl, refl)

pub ports_plans : Plans PortsOf ports_plan
ports_plans = record { all = λ w. tt; from = λ x. Choice.ports; to = ports_to; no_token = λ w t i. i }

pub more_ports_cases : (w : List PortTree) (ps : List Part) → Choice (MorePorts w) ps
    → ((w ≡ []) × (ps ≡ [])) ⊎ ((a : PortTree) × (v : List PortTree) × (w ≡ a ∷ v) × (ps ≡ (Sign_ (codes ",") ∷ []) ++ (Port a ∷ MorePorts v ∷ [])))
more_ports_cases w ps Choice.no_more_ports = inl (refl, refl)
more_ports_cases w ps (Choice.more_ports {p = p} {ps = more}) = inr (p, more, refl, refl)

abbrev pub more_ports : Repeats MorePortsOf PortOf (Sign_ (codes ",") ∷ []) (λ a w. a ∷ w)
more_ports = record {
  no_token = λ w t i. i;
  all = λ w. tt;
  all_items = λ w. tt;
  end = [];
  none = Choice.no_more_ports;
  more = λ a w. Choice.more_ports;
  cases = more_ports_cases;
}

-- expressions

abbrev pub choose_plan : Name → Plan ExprTree
choose_plan c = fixed (Sign_ (codes "?") ∷ []) (read NameOf (λ a. fixed (Sign_ (codes ":") ∷ []) (read NameOf (λ b. done (ChooseTree c a b)))))

abbrev pub index_plan : Name → Plan ExprTree
index_plan a = fixed (Sign_ (codes "[") ∷ []) (either
    (read NameOf (λ b. fixed (Sign_ (codes "]") ∷ []) (done (CellTree a b))))
    (read (NumberTo 128) (λ hi. fixed (Sign_ (codes ":") ∷ []) (read (NumberTo 128) (λ lo. fixed (Sign_ (codes "]") ∷ []) (done (PartTree a hi lo)))))))

abbrev pub named_plan : Plan ExprTree
named_plan = read NameOf (λ a. either (read OperatorOf (λ s. read NameOf (λ b. done (BinaryTree s a b)))) (either (choose_plan a) (either (index_plan a) (done (PlainTree a)))))

abbrev pub complement_plan : Plan ExprTree
complement_plan = fixed (Sign_ (codes "~") ∷ []) (read NameOf (λ a. done (NotTree a)))

abbrev pub braces_plan : Plan ExprTree
braces_plan = fixed (Sign_ (codes "{") ∷ []) (either
    (read NameOf (λ a. fixed (Sign_ (codes ",") ∷ []) (read NameOf (λ b. fixed (Sign_ (codes "}") ∷ []) (done (ConcatTree a b))))))
    (read (NumberTo 128) (λ n. fixed (Sign_ (codes "{") ∷ []) (read NameOf (λ a. fixed (Sign_ (codes "}") ∷ Sign_ (codes "}") ∷ []) (done (RepeatTree n a)))))))

abbrev pub literal_plan : Plan ExprTree
literal_plan = read LiteralOf (λ n. done (LiteralTree n.width n.value))

abbrev pub expr_plan : Plan ExprTree
expr_plan = either complement_plan (either braces_plan (either named_plan literal_plan))

expr_from : (x : Path expr_plan) → Choice (Expr (value expr_plan x)) (stack expr_plan x)
expr_from (inl x) = Choice.not'
expr_from (inr (inl (inl x))) = Choice.concat
expr_from (inr (inl (inr (n, h, x)))) = Choice.repeat h
expr_from (inr (inr (inl (a, _, inl (s, _, x))))) = Choice.binary {s = s}
expr_from (inr (inr (inl (a, _, inr (inl x))))) = Choice.choose
expr_from (inr (inr (inl (a, _, inr (inr (inl (inl x))))))) = Choice.cell
expr_from (inr (inr (inl (a, _, inr (inr (inl (inr (hi, h, (lo, l, x))))))))) = Choice.part h l
expr_from (inr (inr (inl (a, _, inr (inr (inr x)))))) = Choice.plain
expr_from (inr (inr (inr (n, h, x)))) = Choice.literal h.0 h.1

expr_to : (w : ExprTree) (ps : List Part) → Choice (Expr w) ps → (x : Path expr_plan) × (w ≡ value expr_plan x) × (ps ≡ stack expr_plan x)
expr_to w ps (Choice.plain {a = a}) = (inr (inr (inl (a, tt, inr (inr (inr tt))))), refl, refl)
expr_to w ps (Choice.literal {w = n} {n = v} h l) = (inr (inr (inr (record { width = n; value = v }, (h, l), tt))), refl, refl)
expr_to w ps (Choice.not' {a = a}) = (inl (a, tt, tt), refl, refl)
expr_to w ps (Choice.binary {s = s} {a = a} {b = b}) = (inr (inr (inl (a, tt, inl (s, tt, (b, tt, tt))))), refl, refl)
expr_to w ps (Choice.concat {a = a} {b = b}) = (inr (inl (inl (a, tt, (b, tt, tt)))), refl, refl)
expr_to w ps (Choice.repeat {n = n} {a = a} h) = (inr (inl (inr (n, h, (a, tt, tt)))), refl, refl)
expr_to w ps (Choice.part {a = a} {hi = hi} {lo = lo} h l) = (inr (inr (inl (a, tt, inr (inr (inl (inr (hi, h, (lo, l, tt)))))))), refl, refl)
expr_to w ps (Choice.choose {c = c} {a = a} {b = b}) = (inr (inr (inl (c, tt, inr (inl (a, tt, (b, tt, tt)))))), refl, refl)
expr_to w ps (Choice.cell {m = m} {a = a}) = (inr (inr (inl (m, tt, inr (inr (inl (inl (a, tt, tt))))))), refl, refl)

pub expr_plans : Plans ExprOf expr_plan
expr_plans = record { all = λ w. tt; from = expr_from; to = expr_to; no_token = λ w t i. i }

-- updates

abbrev pub write_register_plan : Name → Name → Plan UpdateTree
write_register_plan e r = fixed (Sign_ (codes "<=") ∷ []) (read NameOf (λ v. fixed (Sign_ (codes ";") ∷ []) (done (RegisterUpdate e r v))))

abbrev pub write_cell_plan : Name → Name → Plan UpdateTree
write_cell_plan e m = fixed (Sign_ (codes "[") ∷ []) (read NameOf (λ a. fixed (Sign_ (codes "]")
    ∷ Sign_ (codes "<=") ∷ []) (read NameOf (λ v. fixed (Sign_ (codes ";")
    ∷ []) (done (CellUpdate e m a v))))))

abbrev pub update_plan : Plan UpdateTree
update_plan = fixed (Reserved (codes "if") ∷ Sign_ (codes "(") ∷ []) (read NameOf (λ e. fixed (Sign_ (codes ")") ∷ []) (read NameOf (λ r. either (write_register_plan e r) (write_cell_plan e r)))))

update_from : (x : Path update_plan) → Choice (Update (value update_plan x)) (stack update_plan x)
update_from (e, _, (r, _, inl x)) = Choice.update_register
update_from (e, _, (r, _, inr x)) = Choice.update_cell

update_to : (w : UpdateTree) (ps : List Part) → Choice (Update w) ps → (x : Path update_plan) × (w ≡ value update_plan x) × (ps ≡ stack update_plan x)
update_to w ps (Choice.update_register {enable = e} {name = r} {value = v}) = ((e, tt, (r, tt, inl (v, tt, tt))), refl, refl)
update_to w ps (Choice.update_cell {enable = e} {name = m} {address = a} {value = v}) = ((e, tt, (m, tt, inr (a, tt, (v, tt, tt)))), refl, refl)

pub update_plans : Plans UpdateOf update_plan
update_plans = record { all = λ w. tt; from = update_from; to = update_to; no_token = λ w t i. i }

pub updates_cases : (w : List UpdateTree) (ps : List Part) → Choice (Updates w) ps
    → ((w ≡ []) × (ps ≡ [])) ⊎ ((a : UpdateTree) × (v : List UpdateTree) × (w ≡ a ∷ v)
    × (ps ≡ [] ++ (Update a ∷ Updates v ∷ [])))
updates_cases w ps Choice.no_updates = inl (refl, refl)
updates_cases w ps (Choice.more_updates {u = u} {us = us}) = inr (u, us, refl, refl)

abbrev pub updates : Repeats UpdatesOf UpdateOf [] (λ a w. a ∷ w)
updates = record { no_token = λ w t i. i; all = λ w. tt; all_items = λ w. tt; end = []; none = Choice.no_updates; more = λ a w. Choice.more_updates; cases = updates_cases }

-- connections

abbrev pub connection_plan : Plan Connection
connection_plan = fixed (Sign_ (codes ".") ∷ []) (read NameOf (λ p. fixed (Sign_ (codes "(") ∷ []) (read NameOf (λ n. fixed (Sign_ (codes ")") ∷ []) (done (record { port = p; net = n }))))))

connection_to : (w : Connection) (ps : List Part) → Choice (Connected w) ps → (x : Path connection_plan) × (w ≡ value connection_plan x) × (ps ≡ stack connection_plan x)
connection_to w ps (Choice.connected {port = p} {net = n}) = ((p, tt, (n, tt, tt)), refl, refl)

pub connection_plans : Plans ConnectionOf connection_plan
connection_plans = record { all = λ w. tt; from = λ x. Choice.connected; to = connection_to; no_token = λ w t i. i }

abbrev pub connections_plan : Plan (List Connection)
connections_plan = read ConnectionOf (λ c. read MoreConnectionsOf (λ cs. done (c ∷ cs)))

connections_to : (w : List Connection) (ps : List Part) → Choice (Connections w) ps → (x : Path connections_plan) × (w ≡ value connections_plan x) × (ps ≡ stack connections_plan x)
connections_to w ps (Choice.connections {c = c} {cs = cs}) = ((c, tt, (cs, tt, tt)), refl, refl)

pub connections_plans : Plans ConnectionsOf connections_plan
connections_plans = record { all = λ w. tt; from = λ x. Choice.connections; to = connections_to; no_token = λ w t i. i }

pub more_connections_cases : (w : List Connection) (ps : List Part) → Choice (MoreConnections w) ps
    → ((w ≡ []) × (ps ≡ [])) ⊎ ((a : Connection) × (v : List Connection) × (w ≡ a ∷ v) × (ps ≡ (Sign_ (codes ",") ∷ []) ++ (Connected a ∷ MoreConnections v ∷ [])))
more_connections_cases w ps Choice.no_more_connections = inl (refl, refl)
more_connections_cases w ps (Choice.more_connections {c = c} {cs = cs}) = inr (c, cs, refl, refl)

abbrev pub more_connections : Repeats MoreConnectionsOf ConnectionOf (Sign_ (codes ",") ∷ []) (λ a w. a ∷ w)
more_connections = record {
  no_token = λ w t i. i;
  all = λ w. tt;
  all_items = λ w. tt;
  end = [];
  none = Choice.no_more_connections;
  more = λ a w. Choice.more_connections;
  cases = more_connections_cases;
}

-- items

abbrev pub wire_plan : Plan ItemTree
wire_plan = fixed (Reserved (codes "wire") ∷ []) (read RangeOf (λ w. read NameOf (λ n. fixed (Sign_ (codes ";") ∷ []) (done (WireItem w n)))))

abbrev pub storage_plan : Plan ItemTree
storage_plan = fixed (Reserved (codes "reg") ∷ []) (read RangeOf (λ w. read NameOf (λ n. either
    (fixed (Sign_ (codes "[") ∷ Number 0 ∷ Sign_ (codes ":") ∷ []) (read (NumberTo 268435455) (λ m. fixed (Sign_ (codes "]") ∷ Sign_ (codes ";") ∷ []) (done (MemoryItem w n (m + 1))))))
    (fixed (Sign_ (codes ";") ∷ []) (done (RegisterItem w n))))))

abbrev pub assign_plan : Plan ItemTree
assign_plan = fixed (Reserved (codes "assign") ∷ []) (read NameOf (λ n. fixed (Sign_ (codes "=") ∷ []) (read ExprOf (λ e. fixed (Sign_ (codes ";") ∷ []) (done (AssignItem n e))))))

abbrev pub always_plan : Plan ItemTree
always_plan = fixed (Reserved (codes "always") ∷ Sign_ (codes "@") ∷ Sign_ (codes "(") ∷ Reserved (codes "posedge") ∷ Clock ∷ Sign_ (codes ")") ∷ Reserved (codes "begin") ∷ [])
    (read UpdatesOf (λ us. fixed (Reserved (codes "end") ∷ []) (done (AlwaysItem us))))

abbrev pub instance_plan : Plan ItemTree
instance_plan = read NameOf (λ m. read NameOf (λ n. fixed (Sign_ (codes "(") ∷ []) (read ConnectionsOf (λ cs. fixed (Sign_ (codes ")") ∷ Sign_ (codes ";") ∷ []) (done (InstanceItem m n cs))))))

abbrev pub item_plan : Plan ItemTree
item_plan = either wire_plan (either storage_plan (either assign_plan (either always_plan instance_plan)))

memory_from : (w : ℕ) (n : Name) (m : ℕ) → m ≤ 268435455
    → Choice (Item (MemoryItem w n (m + 1))) (Reserved (codes "reg") ∷ Range w ∷ Id n
    ∷ Sign_ (codes "[") ∷ Number 0 ∷ Sign_ (codes ":") ∷ Number m ∷ Sign_ (codes "]")
    ∷ Sign_ (codes ";") ∷ [])
memory_from w n m h =
    let same : m + 1 - 1 ≡ m = omega arith in
    subst (λ k. Choice (Item (MemoryItem w n (m + 1))) (Reserved (codes "reg") ∷ Range w ∷ Id n
    ∷ Sign_ (codes "[") ∷ Number 0 ∷ Sign_ (codes ":") ∷ Number k ∷ Sign_ (codes "]")
    ∷ Sign_ (codes ";") ∷ [])) same
    (Choice.memory {w = w} {n = m + 1} {name = n} (omega arith, omega arith))

item_from : (x : Path item_plan) → Choice (Item (value item_plan x)) (stack item_plan x)
item_from (inl x) = Choice.wire
item_from (inr (inl (w, _, (n, _, inl (m, h, x))))) = memory_from w n m h
item_from (inr (inl (w, _, (n, _, inr x)))) = Choice.register
item_from (inr (inr (inl x))) = Choice.assign
item_from (inr (inr (inr (inl x)))) = Choice.always
item_from (inr (inr (inr (inr x)))) = Choice.instance

item_to : (w : ItemTree) (ps : List Part) → Choice (Item w) ps → (x : Path item_plan) × (w ≡ value item_plan x) × (ps ≡ stack item_plan x)
item_to w ps (Choice.wire {w = n} {name = name}) = (inl (n, tt, (name, tt, tt)), refl, refl)
item_to w ps (Choice.register {w = n} {name = name}) = (inr (inl (n, tt, (name, tt, inr tt))), refl, refl)
item_to w ps (Choice.memory {w = n} {n = m} {name = name} h) =
    let a = h.0 in let b = h.1 in
    let same : m ≡ (m - 1) + 1 = omega arith in
    (inr (inl (n, tt, (name, tt, inl (m - 1, omega arith, tt)))), ap (MemoryItem n name) same, refl)
item_to w ps (Choice.assign {name = name} {e = e}) = (inr (inr (inl (name, tt, (e, tt, tt)))), refl, refl)
item_to w ps (Choice.always {us = us}) = (inr (inr (inr (inl (us, tt, tt)))), refl, refl)
item_to w ps (Choice.instance {of = of} {name = name} {cs = cs}) = (inr (inr (inr (inr (of, tt, (name, tt, (cs, tt, tt)))))), refl, refl)

pub item_plans : Plans ItemOf item_plan
item_plans = record { all = λ w. tt; from = item_from; to = item_to; no_token = λ w t i. i }

pub items_cases : (w : List ItemTree) (ps : List Part) → Choice (Items w) ps → ((w ≡ []) × (ps ≡ [])) ⊎ ((a : ItemTree) × (v : List ItemTree) × (w ≡ a ∷ v) × (ps ≡ [] ++ (Item a ∷ Items v ∷ [])))
items_cases w ps Choice.no_items = inl (refl, refl)
items_cases w ps (Choice.more_items {i = i} {is = is}) = inr (i, is, refl, refl)

abbrev pub items : Repeats ItemsOf ItemOf [] (λ a w. a ∷ w)
items = record { no_token = λ w t i. i; all = λ w. tt; all_items = λ w. tt; end = []; none = Choice.no_items; more = λ a w. Choice.more_items; cases = items_cases }

-- modules

abbrev pub module_plan : Plan ModuleTree
module_plan = fixed (Reserved (codes "module") ∷ []) (read NameOf (λ n. fixed (Sign_ (codes "(")
    ∷ []) (read PortsOf (λ ps. fixed (Sign_ (codes ")") ∷ Sign_ (codes ";")
    ∷ []) (read ItemsOf (λ is. fixed (Reserved (codes "endmodule")
    ∷ []) (done (record { name = n; ports = ps; items = is }))))))))

module_to : (w : ModuleTree) (ps : List Part) → Choice (Module w) ps → (x : Path module_plan) × (w ≡ value module_plan x) × (ps ≡ stack module_plan x)
module_to w ps (Choice.module' {name = n} {ports = p} {items = is}) = ((n, tt, (p, tt, (is, tt, tt))), refl, refl)

pub module_plans : Plans ModuleOf module_plan
module_plans = record { all = λ w. tt; from = λ x. Choice.module'; to = module_to; no_token = λ w t i. i }

abbrev pub file_plan : Plan (List ModuleTree)
file_plan = read ModuleOf (λ m. read ModulesOf (λ ms. done (m ∷ ms)))

file_to : (w : List ModuleTree) (ps : List Part) → Choice (File w) ps → (x : Path file_plan) × (w ≡ value file_plan x) × (ps ≡ stack file_plan x)
file_to w ps (Choice.file {m = m} {ms = ms}) = ((m, tt, (ms, tt, tt)), refl, refl)

pub file_plans : Plans FileOf file_plan
file_plans = record { all = λ w. tt; from = λ x. Choice.file; to = file_to; no_token = λ w t i. i }

pub modules_cases : (w : List ModuleTree) (ps : List Part) → Choice (Modules w) ps
    → ((w ≡ []) × (ps ≡ [])) ⊎ ((a : ModuleTree) × (v : List ModuleTree) × (w ≡ a ∷ v)
    × (ps ≡ [] ++ (Module a ∷ Modules v ∷ [])))
modules_cases w ps Choice.no_modules = inl (refl, refl)
modules_cases w ps (Choice.more_modules {m = m} {ms = ms}) = inr (m, ms, refl, refl)

abbrev pub modules : Repeats ModulesOf ModuleOf [] (λ a w. a ∷ w)
modules = record { no_token = λ w t i. i; all = λ w. tt; all_items = λ w. tt; end = []; none = Choice.no_modules; more = λ a w. Choice.more_modules; cases = modules_cases }
