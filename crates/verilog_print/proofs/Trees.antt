-- The tree of a module, and that its printed bytes spell it.
use Rattle.std.proofs.Common.{◌≡◌, ℕ, zero, suc, ◌+◌, ◌-◌, ◌<◌, ◌≤◌, Bool, true, false, List, [], ◌∷◌, ◌++◌, length, refl, sym, subst, arith, Some, append_assoc, if◌then◌else◌}
use Rattle.std.specs.Prelude.{codes, map, slice_get}
use Rattle.std.specs.List.{flat_map}
use Rattle.rtl_ir.specs.declared.design.Net.{Net}
use Rattle.rtl_ir.specs.declared.design.Mem.{Mem}
use Rattle.rtl_ir.specs.declared.design.Port.{Port}
use Rattle.rtl_ir.specs.declared.design.Target.{Target}
use Rattle.rtl_ir.specs.declared.design.Target.TheVariants.{Reg, Cell as Word}
use Rattle.rtl_ir.specs.declared.design.Update.{Update}
use Rattle.rtl_ir.specs.Operands.{target_net, target_mem}
use Rattle.rtl_ir.specs.declared.design.Expr.{Expr}
use Rattle.rtl_ir.specs.declared.design.Expr.TheVariants.{Net as Plain, Literal, Not, Binary, Concat, Repeat, Part as Slice, Choose, Cell}
use Rattle.rtl_ir.specs.declared.design.Sign.{Sign}
use Rattle.rtl_ir.specs.declared.design.Sign.TheVariants.{Add, Sub, Mul, Div, And, Or, Xor, Eq, Lt}
use Rattle.rtl_ir.specs.declared.design.Assign.{Assign}
use Rattle.rtl_ir.specs.declared.design.Module.{Module}
use Rattle.rtl_ir.specs.Names.{is_name, continues_name}
use Rattle.rtl_ir.specs.Value.{net_width}
use Rattle.rtl_ir.specs.Formed.{IsFormedNet, IsFormedPort, IsFormedExpr, IsFormedAssign, IsFormedMem, IsFormedUpdate, IsFormedModule, net_name}
use Rattle.rtl_text.specs.Tree.{Name, PortTree, InputPort, OutputPort, ExprTree, PlainTree}
use Rattle.rtl_text.specs.Tree.{LiteralTree, NotTree, BinaryTree, ConcatTree, RepeatTree, PartTree}
use Rattle.rtl_text.specs.Tree.{ChooseTree, CellTree, ItemTree, WireItem, RegisterItem, MemoryItem}
use Rattle.rtl_text.specs.Tree.{AssignItem, AlwaysItem, UpdateTree, RegisterUpdate, CellUpdate}
use Rattle.rtl_text.specs.Productions.{Part, Choice}
use Rattle.rtl_ir.specs.Spelling.{sign_bytes}
use Rattle.rtl_text.specs.Text.{is_port}
use Rattle.verilog_print.specs.Printed.{digits, net_text, declared, mem_name, name_of}
use Rattle.verilog_print.specs.Printed.{direction_text, port_text, ports_text, declaration_text}
use Rattle.verilog_print.specs.Printed.{nets_text, expr_text, assign_text, memory_text, update_text}
use Rattle.verilog_print.specs.Printed.{updates_text, target_text, cell_text}
use Rattle.verilog_print.proofs.Spelling.{Spells, pick, blank, lone, sign, word, id, number, number_then, literal, slash, equal, at_most}

unfoldable pub expr_tree : Module → Expr → ExprTree
expr_tree m (Plain n) = PlainTree (name_of m.nets n)
expr_tree m (Literal word) = LiteralTree word.width word.bits
expr_tree m (Not n) = NotTree (name_of m.nets n)
expr_tree m (Binary s a b) = BinaryTree s (name_of m.nets a) (name_of m.nets b)
expr_tree m (Concat a b) = ConcatTree (name_of m.nets a) (name_of m.nets b)
expr_tree m (Repeat k n) = RepeatTree k (name_of m.nets n)
expr_tree m (Slice n hi lo) = PartTree (name_of m.nets n) hi lo
expr_tree m (Choose c a b) = ChooseTree (name_of m.nets c) (name_of m.nets a) (name_of m.nets b)
expr_tree m (Cell k n) = CellTree (mem_name (slice_get m.mems k)) (name_of m.nets n)

-- each net and each memory of the module has a name
pub record AllNamed (m : Module) : Type 0 where
  pub net : (n : ℕ) → n < length m.nets → is_name (name_of m.nets n) ≡ true
  pub mem : (k : ℕ) → k < length m.mems → is_name (mem_name (slice_get m.mems k)) ≡ true

binary_sign : (s : Sign) {ps : List Part} {rest : List ℕ} → Spells ps (32 ∷ rest) → Spells (Part.Sign_ (sign_bytes s) ∷ ps) (sign_bytes s ++ 32 ∷ rest)
binary_sign Add r = lone refl refl (λ _ _. refl) r
binary_sign Sub r = lone refl refl (λ _ _. refl) r
binary_sign Mul r = lone refl refl (λ _ _. refl) r
binary_sign Div r = slash r
binary_sign And r = lone refl refl (λ _ _. refl) r
binary_sign Or r = lone refl refl (λ _ _. refl) r
binary_sign Xor r = lone refl refl (λ _ _. refl) r
binary_sign Eq r = equal r
binary_sign Lt r = sign refl refl (λ _. refl) r

-- the brackets and stops
pub open_round : {ps : List Part} {rest : List ℕ} → Spells ps rest → Spells (Part.Sign_ (codes "(") ∷ ps) (40 ∷ rest)
open_round r = lone refl refl (λ _ _. refl) r

pub close_round : {ps : List Part} {rest : List ℕ} → Spells ps rest → Spells (Part.Sign_ (codes ")") ∷ ps) (41 ∷ rest)
close_round r = lone refl refl (λ _ _. refl) r

open_square : {ps : List Part} {rest : List ℕ} → Spells ps rest → Spells (Part.Sign_ (codes "[") ∷ ps) (91 ∷ rest)
open_square r = lone refl refl (λ _ _. refl) r

close_square : {ps : List Part} {rest : List ℕ} → Spells ps rest → Spells (Part.Sign_ (codes "]") ∷ ps) (93 ∷ rest)
close_square r = lone refl refl (λ _ _. refl) r

open_curly : {ps : List Part} {rest : List ℕ} → Spells ps rest → Spells (Part.Sign_ (codes "{") ∷ ps) (123 ∷ rest)
open_curly r = lone refl refl (λ _ _. refl) r

close_curly : {ps : List Part} {rest : List ℕ} → Spells ps rest → Spells (Part.Sign_ (codes "}") ∷ ps) (125 ∷ rest)
close_curly r = lone refl refl (λ _ _. refl) r

pub semicolon : {ps : List Part} {rest : List ℕ} → Spells ps rest → Spells (Part.Sign_ (codes ";") ∷ ps) (59 ∷ rest)
semicolon r = lone refl refl (λ _ _. refl) r

colon : {ps : List Part} {rest : List ℕ} → Spells ps rest → Spells (Part.Sign_ (codes ":") ∷ ps) (58 ∷ rest)
colon r = lone refl refl (λ _ _. refl) r

pub comma : {ps : List Part} {rest : List ℕ} → Spells ps rest → Spells (Part.Sign_ (codes ",") ∷ ps) (44 ∷ rest)
comma r = lone refl refl (λ _ _. refl) r

expr_spells : (m : Module) (e : Expr) {ps : List Part} {rest : List ℕ} → AllNamed m → IsFormedExpr m e → Spells ps (59 ∷ rest) → Spells (Part.Expr (expr_tree m e) ∷ ps) (expr_text m e ++ 59 ∷ rest)
unfolding expr_tree
expr_spells m (Plain n) named f r = pick Choice.plain (id (named.net n (f.nets n (0, refl))) refl r)
expr_spells m (Literal x) named f r = simp append_assoc (pick (Choice.literal (x.some, x.at_most) x.fits) (literal refl r))
expr_spells m (Not n) named f r = pick Choice.not' (lone refl refl (λ _ _. refl) (id (named.net n (f.nets n (0, refl))) refl r))
expr_spells m (Binary s a b) named f r =
    simp append_assoc (pick Choice.binary (id (named.net a (f.nets a (0, refl))) refl (blank refl (binary_sign s (blank refl (id (named.net b (f.nets b (1, refl))) refl r))))))
expr_spells m (Concat a b) named f r =
    simp append_assoc (pick Choice.concat (open_curly (id (named.net a (f.nets a (0, refl))) refl (comma (blank refl (id (named.net b (f.nets b (1, refl))) refl (close_curly r)))))))
expr_spells m (Repeat k n) named f r =
    simp append_assoc (pick (Choice.repeat (f.numbers 0 k refl)) (open_curly (number refl refl (open_curly (id (named.net n (f.nets n (0, refl))) refl (close_curly (close_curly r)))))))
expr_spells m (Slice n hi lo) named f r =
    simp append_assoc (pick (Choice.part (f.numbers 0 hi refl) (f.numbers 1 lo refl))
    (id (named.net n (f.nets n (0, refl))) refl (open_square
    (number refl refl (colon (number refl refl (close_square r)))))))
expr_spells m (Choose c a b) named f r =
    simp append_assoc (pick Choice.choose (id (named.net c (f.nets c (0, refl))) refl (blank refl (lone refl refl (λ _ _. refl) (blank refl (id (named.net a (f.nets a (1, refl))) refl
    (blank refl (colon (blank refl (id (named.net b (f.nets b (2, refl))) refl r))))))))))
expr_spells m (Cell k n) named f r = simp append_assoc (pick Choice.cell (id (named.mem k (f.mem k refl)) refl (open_square (id (named.net n (f.nets n (0, refl))) refl (close_square r)))))

-- a range and a name before this byte
range_then : (w : ℕ) (name : Name) {ps : List Part} (b : ℕ) {rest : List ℕ} → (1 ≤ w) × (w ≤ 128) → is_name name ≡ true → continues_name b ≡ false → Spells ps (b ∷ rest)
    → Spells (Part.Range w ∷ Part.Id name ∷ ps) ((codes "[" ++ digits 10 (w - 1) ++ codes ":0] " ++ name) ++ b ∷ rest)
range_then w name b f g h r = simp append_assoc (pick (Choice.range f) (open_square (number refl refl (colon (number_then 48 [] 0 93 refl refl refl refl (close_square (blank refl (id g h r))))))))

net_spells : (net : Net) {ps : List Part} (b : ℕ) {rest : List ℕ} → IsFormedNet net
    → continues_name b ≡ false → Spells ps (b ∷ rest) → Spells (Part.Range net.width
    ∷ Part.Id net.name ∷ ps) (net_text (declared net) ++ b ∷ rest)
net_spells net b f h r = range_then net.width net.name b (f.some, f.at_most) f.name h r

-- ports
unfoldable pub port_of : Bool → ℕ → Name → PortTree
port_of true w name = OutputPort w name
port_of false w name = InputPort w name

unfoldable pub port_tree : List Net → Port → PortTree
port_tree nets p = port_of p.output (net_width (slice_get nets p.net)) (net_name (slice_get nets p.net))

port_then : (output : Bool) (net : Net) {ps : List Part} (b : ℕ) {rest : List ℕ} → IsFormedNet net → continues_name b ≡ false → Spells ps (b ∷ rest)
    → Spells (Part.Port (port_of output net.width net.name) ∷ ps) ((direction_text output ++ net_text (declared net)) ++ b ∷ rest)
unfolding port_of
port_then true net b f h r = simp append_assoc (pick Choice.output
    (word (codes "output") 32 refl refl refl (blank refl
    (word (codes "wire") 32 refl refl refl (blank refl (simp append_assoc at
    (net_spells net b f h r)))))))
port_then false net b f h r = simp append_assoc (pick Choice.input
    (word (codes "input") 32 refl refl refl (blank refl
    (word (codes "wire") 32 refl refl refl (blank refl (simp append_assoc at
    (net_spells net b f h r)))))))

-- the element of this number
pub element_at : {A : Type 0} (xs : List A) (n : ℕ) → n < length xs → (x : A) × (slice_get xs n ≡ Some x)
element_at [] n h = absurd (omega arith)
element_at (x ∷ xs) zero h = (x, refl)
element_at (x ∷ xs) (suc n) h = element_at xs n (omega arith)

pub all_named : (earlier : List Module) (m : Module) → IsFormedModule earlier m → AllNamed m
all_named earlier m f = record {
  net = λ n h. let (net, e) = element_at m.nets n h in rw e (f.nets n net e).name;
  mem = λ k h. let (mem, e) = element_at m.mems k h in rw e (f.mems k mem e).name;
}

port_spells : (earlier : List Module) (m : Module) (p : Port) {ps : List Part} (b : ℕ) {rest : List ℕ} → IsFormedModule earlier m → IsFormedPort m p → continues_name b ≡ false → Spells ps (b ∷ rest)
    → Spells (Part.Port (port_tree m.nets p) ∷ ps) (port_text m.nets p ++ b ∷ rest)
unfolding port_tree
port_spells earlier m p b f g h r = let (net, e) = element_at m.nets p.net g.net in rw e (port_then p.output net b (f.nets p.net net e) h r)

-- what follows a port begins with a byte of no name
others_text : Module → List Port → List ℕ
others_text m ports = flat_map (λ (p : Port). codes ",\n" ++ port_text m.nets p) ports

next : (m : Module) (ports : List Port) (rest : List ℕ) → (b : ℕ) × (left : List ℕ) × (continues_name b ≡ false) × (others_text m ports ++ 41 ∷ rest ≡ b ∷ left)
unfolding others_text
next m [] rest = (41, rest, refl, refl)
next m (p ∷ ports) rest = (44, _, refl, refl)

port_before : (earlier : List Module) (m : Module) (p : Port) (ports : List Port)
    {ps : List Part} (rest : List ℕ) → IsFormedModule earlier m → IsFormedPort m p
    → Spells ps (others_text m ports ++ 41 ∷ rest)
    → Spells (Part.Port (port_tree m.nets p) ∷ ps) (port_text m.nets p ++ (others_text m ports ++ 41 ∷ rest))
port_before earlier m p ports rest f g r = let (b, left, h, e) = next m ports rest in rw e (port_spells earlier m p b f g h (rw e at r))

others_spell : (earlier : List Module) (m : Module) (ports : List Port) {ps : List Part}
    {rest : List ℕ} → IsFormedModule earlier m → ((k : ℕ) (p : Port)
    → slice_get ports k ≡ Some p → IsFormedPort m p) → Spells ps (41 ∷ rest)
    → Spells (Part.MorePorts (map (port_tree m.nets) ports) ∷ ps) (others_text m ports ++ 41 ∷ rest)
unfolding others_text
others_spell earlier m [] f g r = pick Choice.no_more_ports r
others_spell earlier m (p ∷ ports) {ps = ps} {rest = rest} f g r =
    let left : Spells (Part.MorePorts (map (port_tree m.nets) ports) ∷ ps) (others_text m ports ++ 41 ∷ rest) = others_spell earlier m ports f (λ k q e. g (suc k) q e) r in
    let one : Spells (Part.Port (port_tree m.nets p) ∷ Part.MorePorts (map (port_tree m.nets) ports) ∷ ps) ((port_text m.nets p ++ others_text m ports) ++ 41 ∷ rest) =
    rw append_assoc (port_before earlier m p ports rest f (g 0 p refl) left) in
    pick Choice.more_ports (comma (blank refl one))

pub ports_spell : (earlier : List Module) (m : Module) (ports : List Port) {ps : List Part}
    {rest : List ℕ} → 0 < length ports → IsFormedModule earlier m
    → ((k : ℕ) (q : Port) → slice_get ports k ≡ Some q → IsFormedPort m q) → Spells ps (41 ∷ rest)
    → Spells (Part.Ports (map (port_tree m.nets) ports) ∷ ps) (ports_text m.nets ports ++ 41 ∷ rest)
unfolding others_text
ports_spell earlier m [] z f g r = absurd (omega arith)
ports_spell earlier m (p ∷ ports) {ps = ps} {rest = rest} z f g r =
    let left : Spells (Part.MorePorts (map (port_tree m.nets) ports) ∷ ps) (others_text m ports ++ 41 ∷ rest) = others_spell earlier m ports f (λ k q e. g (suc k) q e) r in
    let one : Spells (Part.Port (port_tree m.nets p) ∷ Part.MorePorts (map (port_tree m.nets) ports) ∷ ps) ((port_text m.nets p ++ others_text m ports) ++ 41 ∷ rest) =
    rw append_assoc (port_before earlier m p ports rest f (g 0 p refl) left) in
    pick Choice.ports one

-- wires and registers
unfoldable pub net_item : Bool → Bool → Net → List ItemTree
net_item true joined n = RegisterItem n.width n.name ∷ []
net_item false true n = []
net_item false false n = WireItem n.width n.name ∷ []

unfoldable pub net_items : List Port → ℕ → List Net → List ItemTree
net_items ports k [] = []
net_items ports k (n ∷ ns) = net_item n.reg (is_port ports k) n ++ net_items ports (k + 1) ns

declared_spells : (reg joined : Bool) (n : Net) (is : List ItemTree) {ps : List Part} {rest : List ℕ} → IsFormedNet n → Spells (Part.Items is ∷ ps) rest
    → Spells (Part.Items (net_item reg joined n ++ is) ∷ ps) ((if reg then codes "reg "
    ++ net_text (declared n) ++ codes ";\n" else (if joined then [] else codes "wire "
    ++ net_text (declared n) ++ codes ";\n")) ++ rest)
unfolding net_item
declared_spells true joined n is {ps = ps} {rest = rest} f r =
    let t : Spells (Part.Range n.width ∷ Part.Id n.name ∷ Part.Sign_ (codes ";") ∷ Part.Items is ∷ ps) (net_text (declared n) ++ 59 ∷ 10 ∷ rest) = net_spells n 59 f refl (semicolon (blank refl r)) in
    simp append_assoc (pick Choice.more_items (pick Choice.register (word (codes "reg") 32 refl refl refl (blank refl (simp append_assoc at t)))))
declared_spells false true n is f r = r
declared_spells false false n is {ps = ps} {rest = rest} f r =
    let t : Spells (Part.Range n.width ∷ Part.Id n.name ∷ Part.Sign_ (codes ";") ∷ Part.Items is ∷ ps) (net_text (declared n) ++ 59 ∷ 10 ∷ rest) = net_spells n 59 f refl (semicolon (blank refl r)) in
    simp append_assoc (pick Choice.more_items (pick Choice.wire (word (codes "wire") 32 refl refl refl (blank refl (simp append_assoc at t)))))

pub nets_spell : (ports : List Port) (k : ℕ) (nets : List Net) (is : List ItemTree)
    {ps : List Part} {rest : List ℕ} → ((j : ℕ) (n : Net) → slice_get nets j ≡ Some n
    → IsFormedNet n) → Spells (Part.Items is ∷ ps) rest
    → Spells (Part.Items (net_items ports k nets ++ is) ∷ ps) (nets_text ports k nets ++ rest)
unfolding net_items declaration_text
nets_spell ports k [] is f r = r
nets_spell ports k (n ∷ ns) is f r =
    rw append_assoc (rw append_assoc (declared_spells n.reg (is_port ports k) n (net_items ports (k + 1) ns ++ is) (f 0 n refl) (nets_spell ports (k + 1) ns is (λ j x e. f (suc j) x e) r)))

-- memories
unfoldable pub memory_item : Mem → ItemTree
memory_item mem = MemoryItem mem.width mem.name mem.depth

pub memories_spell : (mems : List Mem) (is : List ItemTree) {ps : List Part} {rest : List ℕ} → ((k : ℕ) (mem : Mem) → slice_get mems k ≡ Some mem → IsFormedMem mem) → Spells (Part.Items is ∷ ps) rest
    → Spells (Part.Items (map memory_item mems ++ is) ∷ ps) (flat_map memory_text mems ++ rest)
unfolding memory_item
memories_spell [] is f r = r
memories_spell (mem ∷ mems) is {ps = ps} {rest = rest} f r =
    let g : IsFormedMem mem = f 0 mem refl in
    let left : Spells (Part.Items (map memory_item mems ++ is) ∷ ps) (flat_map memory_text mems ++ rest) = memories_spell mems is (λ k x e. f (suc k) x e) r in
    simp append_assoc (pick Choice.more_items (pick (Choice.memory (g.words, g.words_at_most)) (word (codes "reg") 32 refl refl refl (blank refl
    (pick (Choice.range (g.some, g.at_most)) (open_square (number refl refl (colon (number_then 48 [] 0 93 refl refl refl refl (close_square (blank refl (id g.name refl
    (blank refl (open_square (number_then 48 [] 0 58 refl refl refl refl (colon (number refl refl (close_square (semicolon (blank refl left))))))))))))))))))))

-- assignments
unfoldable pub assign_item : Module → Assign → ItemTree
assign_item m a = AssignItem (name_of m.nets a.target) (expr_tree m a.expr)

pub assigns_spell : (m : Module) (assigns : List Assign) (is : List ItemTree) {ps : List Part}
    {rest : List ℕ} → AllNamed m → ((k : ℕ) (a : Assign) → slice_get assigns k ≡ Some a
    → IsFormedAssign m a) → Spells (Part.Items is ∷ ps) rest
    → Spells (Part.Items (map (assign_item m) assigns ++ is) ∷ ps) (flat_map (assign_text m) assigns ++ rest)
unfolding assign_item
assigns_spell m [] is named f r = r
assigns_spell m (a ∷ assigns) is {ps = ps} {rest = rest} named f r =
    let g : IsFormedAssign m a = f 0 a refl in
    let left : Spells (Part.Items (map (assign_item m) assigns ++ is) ∷ ps) (flat_map (assign_text m) assigns ++ rest) = assigns_spell m assigns is named (λ k x e. f (suc k) x e) r in
    let e : Spells (Part.Expr (expr_tree m a.expr) ∷ Part.Sign_ (codes ";")
    ∷ Part.Items (map (assign_item m) assigns ++ is) ∷ ps) (expr_text m a.expr ++ 59 ∷ 10
    ∷ (flat_map (assign_text m) assigns ++ rest)) =
    expr_spells m a.expr named g.expr (semicolon (blank refl left)) in
    simp append_assoc (pick Choice.more_items (pick Choice.assign
    (word (codes "assign") 32 refl refl refl (blank refl
    (id (named.net a.target g.target) refl (blank refl
    (sign refl refl (λ _. refl) (blank refl e))))))))

-- updates
unfoldable pub update_of : Module → Name → Name → Target → UpdateTree
update_of m enable value (Reg n) = RegisterUpdate enable (name_of m.nets n) value
update_of m enable value (Word k n) = CellUpdate enable (mem_name (slice_get m.mems k)) (name_of m.nets n) value

unfoldable pub update_tree : Module → Update → UpdateTree
update_tree m u = update_of m (name_of m.nets u.enable) (name_of m.nets u.value) u.target

update_text_is : (a b c d e f g rest : List ℕ) → (a ++ b ++ c ++ d ++ e ++ f ++ g) ++ rest ≡ a ++ (b ++ (c ++ (d ++ (e ++ (f ++ (g ++ rest))))))
update_text_is a b c d e f g rest = simp append_assoc

update_then : (m : Module) (enable value : Name) (t : Target) {ps : List Part} {rest : List ℕ}
    → AllNamed m → is_name enable ≡ true → is_name value ≡ true → target_net t < length m.nets
    → ((k : ℕ) → target_mem t ≡ Some k → k < length m.mems) → Spells ps rest
    → Spells (Part.Update (update_of m enable value t) ∷ ps) ((codes "if (" ++ enable ++ codes ") " ++ target_text m t ++ codes " <= " ++ value ++ codes ";\n") ++ rest)
unfolding update_of
update_then m enable value (Reg n) named e v h k r =
    simp append_assoc (pick Choice.update_register (word (codes "if") 32 refl refl refl
    (blank refl (open_round (id e refl (close_round
    (blank refl (id (named.net n h) refl (blank refl
    (at_most (blank refl (id v refl (semicolon (blank refl r))))))))))))))
update_then m enable value (Word k n) {ps = ps} {rest = rest} named e v h i r =
    let written : Spells (Part.Id (mem_name (slice_get m.mems k)) ∷ Part.Sign_ (codes "[")
    ∷ Part.Id (name_of m.nets n) ∷ Part.Sign_ (codes "]") ∷ Part.Sign_ (codes "<=")
    ∷ Part.Id value ∷ Part.Sign_ (codes ";") ∷ ps)
    (cell_text m k n ++ (codes " <= " ++ (value ++ (codes ";\n" ++ rest)))) =
    simp append_assoc (id (named.mem k (i k refl)) refl (open_square (id (named.net n h) refl (close_square (blank refl (at_most (blank refl (id v refl (semicolon (blank refl r)))))))))) in
    subst (λ l. Spells (Part.Update (update_of m enable value (Word k n)) ∷ ps) l) (sym (update_text_is (codes "if (") enable (codes ") ") (cell_text m k n) (codes " <= ") value (codes ";\n") rest))
    (pick Choice.update_cell (word (codes "if") 32 refl refl refl (blank refl (open_round (id e refl (close_round (blank refl written)))))))

updates_spell : (m : Module) (us : List Update) {ps : List Part} {rest : List ℕ} → AllNamed m
    → ((k : ℕ) (u : Update) → slice_get us k ≡ Some u → IsFormedUpdate m u)
    → Spells (Part.Reserved (codes "end") ∷ ps) rest
    → Spells (Part.Updates (map (update_tree m) us) ∷ Part.Reserved (codes "end") ∷ ps) (flat_map (update_text m) us ++ rest)
unfolding update_tree
updates_spell m [] named f r = pick Choice.no_updates r
updates_spell m (u ∷ us) {ps = ps} {rest = rest} named f r =
    let g : IsFormedUpdate m u = f 0 u refl in
    let left : Spells (Part.Updates (map (update_tree m) us) ∷ Part.Reserved (codes "end") ∷ ps) (flat_map (update_text m) us ++ rest) = updates_spell m us named (λ k x e. f (suc k) x e) r in
    rw append_assoc (pick Choice.more_updates (update_then m (name_of m.nets u.enable)
    (name_of m.nets u.value) u.target named (named.net u.enable g.enable)
    (named.net u.value g.value) g.net g.mem left))

unfoldable pub always_items : Module → List Update → List ItemTree
always_items m [] = []
always_items m (u ∷ us) = AlwaysItem (map (update_tree m) (u ∷ us)) ∷ []

three : (a b c rest : List ℕ) → (a ++ b ++ c) ++ rest ≡ a ++ (b ++ (c ++ rest))
three a b c rest = simp append_assoc

pub always_spells : (m : Module) (us : List Update) (is : List ItemTree) {ps : List Part}
    {rest : List ℕ} → AllNamed m → ((k : ℕ) (u : Update) → slice_get us k ≡ Some u
    → IsFormedUpdate m u) → Spells (Part.Items is ∷ ps) rest
    → Spells (Part.Items (always_items m us ++ is) ∷ ps) (updates_text m us ++ rest)
unfolding always_items updates_text
always_spells m [] is named f r = r
always_spells m (u ∷ us) is {ps = ps} {rest = rest} named f r =
    let ended : Spells (Part.Reserved (codes "end") ∷ Part.Items is ∷ ps) (codes "end\n" ++ rest) = word (codes "end") 10 refl refl refl (blank refl r) in
    let updated : Spells (Part.Updates (map (update_tree m) (u ∷ us))
    ∷ Part.Reserved (codes "end") ∷ Part.Items is ∷ ps) (flat_map (update_text m) (u ∷ us)
    ++ (codes "end\n" ++ rest)) = updates_spell m (u ∷ us) named f ended in
    let e : (codes "always @(posedge clk) begin\n" ++ flat_map (update_text m) (u ∷ us)
    ++ codes "end\n") ++ rest ≡ codes "always @(posedge clk) begin\n"
    ++ (flat_map (update_text m) (u ∷ us) ++ (codes "end\n" ++ rest)) =
    three (codes "always @(posedge clk) begin\n") (flat_map (update_text m) (u ∷ us)) (codes "end\n") rest in
    subst (λ l. Spells (Part.Items (always_items m (u ∷ us) ++ is) ∷ ps) l) (sym e)
    (pick Choice.more_items (pick Choice.always (word (codes "always") 32 refl refl refl (blank refl (lone refl refl (λ _ _. refl) (open_round (word (codes "posedge") 32 refl refl refl (blank refl
    (word (codes "clk") 41 refl refl refl (close_round (blank refl (word (codes "begin") 10 refl refl refl (blank refl updated)))))))))))))
