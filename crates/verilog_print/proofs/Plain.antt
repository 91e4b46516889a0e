-- No line of a formed design has a line feed.
use Rattle.std.proofs.Common.{◌≡◌, ◌∙◌, ℕ, zero, suc, ◌+◌, ◌-◌, Bool, true, false, ◌&&◌, not, List, [], ◌∷◌, ◌++◌, refl, Option, Some, None, arith, if◌then◌else◌}
use Rattle.std.specs.Prelude.{codes, map, slice_get}
use Rattle.std.specs.List.{flat_map, list_all, zip}
use Rattle.std.proofs.lemmas.Bool.Decides.{nat_tests}
use Rattle.std.proofs.lemmas.List.Folds.{list_all-append}
use Rattle.grammar.specs.Bytes.{is_digit, is_hex}
use Rattle.rtl_ir.specs.declared.design.Net.{Net}
use Rattle.rtl_ir.specs.declared.design.Mem.{Mem}
use Rattle.rtl_ir.specs.declared.design.Port.{Port}
use Rattle.rtl_ir.specs.declared.design.Sign.{Sign}
use Rattle.rtl_ir.specs.declared.design.Sign.TheVariants.{Add, Sub, Mul, Div, And, Or, Xor, Eq, Lt}
use Rattle.rtl_ir.specs.declared.design.Expr.{Expr}
use Rattle.rtl_ir.specs.declared.design.Expr.TheVariants.{Net as Net_, Literal, Not, Binary, Concat, Repeat, Part, Choose, Cell}
use Rattle.rtl_ir.specs.declared.design.Assign.{Assign}
use Rattle.rtl_ir.specs.declared.design.Target.{Target}
use Rattle.rtl_ir.specs.declared.design.Target.TheVariants.{Reg, Cell as Word}
use Rattle.rtl_ir.specs.declared.design.Update.{Update}
use Rattle.rtl_ir.specs.declared.design.Instance.{Instance}
use Rattle.rtl_ir.specs.declared.design.Module.{Module}
use Rattle.rtl_ir.specs.Names.{is_name, is_reserved, begins_name, continues_name}
use Rattle.rtl_ir.specs.Spelling.{sign_bytes}
use Rattle.rtl_ir.specs.Formed.{IsFormedModule, IsFormed, net_name}
use Rattle.rtl_text.specs.Text.{is_port}
use Rattle.verilog_print.specs.Printed.{digits, net_text, net_range, mem_name, declared, direction_text, name_of, port_text, expr_text, cell_text, target_text, connection_text, connections_text}
use Rattle.verilog_print.specs.Lines.{is_plain, is_line, port_lines, register_line, wire_line, net_lines, memory_line, assign_line, part_lines, instance_lines, update_line, update_lines, module_lines}
use Rattle.verilog_print.proofs.Letters.{and_left, and_right}
use Rattle.verilog_print.proofs.Numerals.{decimal_digits, hex_digits}

digit_plain : (b : ℕ) → is_digit b ≡ true → is_plain b ≡ true
digit_plain b h = grind (arith, nat_tests)

hex_plain : (b : ℕ) → is_hex b ≡ true → is_plain b ≡ true
hex_plain b h = grind (arith, nat_tests)

first_plain : (b : ℕ) → begins_name b ≡ true → is_plain b ≡ true
first_plain b h = grind (arith, nat_tests)

later_plain : (b : ℕ) → continues_name b ≡ true → is_plain b ≡ true
later_plain b h = grind (arith, nat_tests)

all_plain : (test : ℕ → Bool) → ((b : ℕ) → test b ≡ true → is_plain b ≡ true) → (bytes : List ℕ) → list_all test bytes ≡ true → is_line bytes ≡ true
all_plain test f [] h = refl
all_plain test f (b ∷ bytes) h = rw (f b (and_left (test b) (list_all test bytes) h)) (all_plain test f bytes (and_right (test b) (list_all test bytes) h))

-- a text within one line
pub record IsLine (xs : List ℕ) : Type 0 where
  pub is : is_line xs ≡ true

text : (xs : List ℕ) → is_line xs ≡ true → IsLine xs
text xs h = record { is = h }

-- one text behind another
behind : {xs ys : List ℕ} → IsLine xs → IsLine ys → IsLine (xs ++ ys)
behind {xs = xs} {ys = ys} h k = record { is = list_all-append is_plain xs ys ∙ rw (h.is, k.is) refl }

decimal_plain : (n : ℕ) → IsLine (digits 10 n)
decimal_plain n = text (digits 10 n) (all_plain is_digit digit_plain (digits 10 n) (decimal_digits n).pass)

hex_number_plain : (n : ℕ) → IsLine (digits 16 n)
hex_number_plain n = text (digits 16 n) (all_plain is_hex hex_plain (digits 16 n) (hex_digits n).pass)

name_is_line : (name : List ℕ) → is_name name ≡ true → is_line name ≡ true
name_is_line [] h = refl
name_is_line (b ∷ bs) h =
    let front : (begins_name b && list_all continues_name bs) ≡ true = and_left (begins_name b && list_all continues_name bs) (not (is_reserved (b ∷ bs))) h in
    let later : is_line bs ≡ true = all_plain continues_name later_plain bs (and_right (begins_name b) (list_all continues_name bs) front) in
    rw (first_plain b (and_left (begins_name b) (list_all continues_name bs) front)) later

name_plain : (name : List ℕ) → is_name name ≡ true → IsLine name
name_plain name h = text name (name_is_line name h)

sign_plain : (s : Sign) → IsLine (sign_bytes s)
sign_plain s = text (sign_bytes s) (go s)
  where
    go : (s : Sign) → is_line (sign_bytes s) ≡ true
    go Add = refl
    go Sub = refl
    go Mul = refl
    go Div = refl
    go And = refl
    go Or = refl
    go Xor = refl
    go Eq = refl
    go Lt = refl

range_plain : (n : Net) → IsLine n.name → IsLine (net_text (declared n))
range_plain n h = behind (behind (behind (text (codes "[") refl) (decimal_plain (n.width - 1))) (text (codes ":0] ") refl)) h

-- the names of a module are within a line
pub record ArePlain (m : Module) : Type 0 where
  pub own : IsLine m.name
  pub nets : (k : ℕ) (n : Net) → slice_get m.nets k ≡ Some n → IsLine n.name
  pub mems : (k : ℕ) (x : Mem) → slice_get m.mems k ≡ Some x → IsLine x.name
  pub parts : (k : ℕ) (i : Instance) → slice_get m.instances k ≡ Some i → IsLine i.name

are_plain : {earlier : List Module} (m : Module) → IsFormedModule earlier m → ArePlain m
are_plain m f = record {
  own = name_plain m.name f.name;
  nets = λ k n e. name_plain n.name (f.nets k n e).name;
  mems = λ k x e. name_plain x.name (f.mems k x e).name;
  parts = λ k i e. name_plain i.name (f.instances k i e).name;
}

module _ {m : Module} (p : ArePlain m) where
  name_at : (n : ℕ) → IsLine (name_of m.nets n)
  name_at n = go (slice_get m.nets n) refl
    where
      go : (o : Option Net) → slice_get m.nets n ≡ o → IsLine (net_name o)
      go None e = text [] refl
      go (Some x) e = p.nets n x e

  mem_at : (k : ℕ) → IsLine (mem_name (slice_get m.mems k))
  mem_at k = go (slice_get m.mems k) refl
    where
      go : (o : Option Mem) → slice_get m.mems k ≡ o → IsLine (mem_name o)
      go None e = text [] refl
      go (Some x) e = p.mems k x e

  port_plain : (q : Port) → IsLine (port_text m.nets q)
  port_plain q = behind (direction q.output) (range (slice_get m.nets q.net) refl)
    where
      direction : (b : Bool) → IsLine (direction_text b)
      direction true = text (codes "output wire ") refl
      direction false = text (codes "input wire ") refl

      range : (o : Option Net) → slice_get m.nets q.net ≡ o → IsLine (net_range o)
      range None e = text [] refl
      range (Some x) e = range_plain x (p.nets q.net x e)

  cell_plain : (k n : ℕ) → IsLine (cell_text m k n)
  cell_plain k n = behind (behind (behind (mem_at k) (text (codes "[") refl)) (name_at n)) (text (codes "]") refl)

  expr_plain : (e : Expr) → IsLine (expr_text m e)
  expr_plain (Net_ n) = name_at n
  expr_plain (Literal word) = behind (behind (decimal_plain word.width) (text (codes "'h") refl)) (hex_number_plain word.bits)
  expr_plain (Not n) = behind (text (codes "~") refl) (name_at n)
  expr_plain (Binary s a b) = behind (behind (behind (behind (name_at a) (text (codes " ") refl)) (sign_plain s)) (text (codes " ") refl)) (name_at b)
  expr_plain (Concat a b) = behind (behind (behind (behind (text (codes "{") refl) (name_at a)) (text (codes ", ") refl)) (name_at b)) (text (codes "}") refl)
  expr_plain (Repeat k n) = behind (behind (behind (behind (text (codes "{") refl) (decimal_plain k)) (text (codes "{") refl)) (name_at n)) (text (codes "}}") refl)
  expr_plain (Part n hi lo) = behind (behind (behind (behind (behind (name_at n) (text (codes "[") refl)) (decimal_plain hi)) (text (codes ":") refl)) (decimal_plain lo)) (text (codes "]") refl)
  expr_plain (Choose c a b) = behind (behind (behind (behind (name_at c) (text (codes " ? ") refl)) (name_at a)) (text (codes " : ") refl)) (name_at b)
  expr_plain (Cell k n) = cell_plain k n

  target_plain : (t : Target) → IsLine (target_text m t)
  target_plain (Reg n) = name_at n
  target_plain (Word k n) = cell_plain k n

  assign_plain : (a : Assign) → IsLine (assign_line m a)
  assign_plain a = behind (behind (behind (behind (text (codes "assign ") refl) (name_at a.target)) (text (codes " = ") refl)) (expr_plain a.expr)) (text (codes ";") refl)

  update_plain : (u : Update) → IsLine (update_line m u)
  update_plain u =
      behind (behind (behind (behind (behind (behind (text (codes "if (") refl)
      (name_at u.enable)) (text (codes ") ") refl)) (target_plain u.target))
      (text (codes " <= ") refl)) (name_at u.value)) (text (codes ";") refl)

-- lists of lines
pub record AreLines (xs : List (List ℕ)) : Type 0 where
  pub are : list_all is_line xs ≡ true

lines : (xs : List (List ℕ)) → list_all is_line xs ≡ true → AreLines xs
lines xs h = record { are = h }

line_before : {x : List ℕ} {xs : List (List ℕ)} → IsLine x → AreLines xs → AreLines (x ∷ xs)
line_before {x = x} {xs = xs} h k = record { are = rw (h.is, k.are) refl }

are_both : {xs ys : List (List ℕ)} → AreLines xs → AreLines ys → AreLines (xs ++ ys)
are_both {xs = xs} {ys = ys} h k = record { are = list_all-append is_line xs ys ∙ rw (h.are, k.are) refl }

each_plain : {A : Type 0} (f : A → List ℕ) (xs : List A) → ((k : ℕ) (x : A) → slice_get xs k ≡ Some x → IsLine (f x)) → AreLines (map f xs)
each_plain f [] h = lines [] refl
each_plain f (x ∷ xs) h = line_before (h zero x refl) (each_plain f xs (λ k y e. h (suc k) y e))

ports_plain : {m : Module} → ArePlain m → (ports : List Port) → AreLines (port_lines m.nets ports)
ports_plain p [] = lines (codes ");" ∷ []) refl
ports_plain p (q ∷ []) = line_before (behind (port_plain p q) (text (codes ");") refl)) (lines [] refl)
ports_plain p (q ∷ r ∷ ports) = line_before (behind (port_plain p q) (text (codes ",") refl)) (ports_plain p (r ∷ ports))

nets_plain : (ports : List Port) (k : ℕ) (nets : List Net) → ((j : ℕ) (n : Net) → slice_get nets j ≡ Some n → IsLine n.name) → AreLines (net_lines ports k nets)
nets_plain ports k [] h = lines [] refl
nets_plain ports k (n ∷ nets) h = go n.reg (is_port ports k) (range_plain n (h zero n refl)) (nets_plain ports (k + 1) nets (λ j x e. h (suc j) x e))
  where
    go : (reg joined : Bool) → IsLine (net_text (declared n)) → AreLines (net_lines ports (k + 1) nets)
        → AreLines (if reg then register_line n ∷ net_lines ports (k + 1) nets else (if joined then net_lines ports (k + 1) nets else wire_line n ∷ net_lines ports (k + 1) nets))
    go true joined own left = line_before (behind (behind (text (codes "reg ") refl) own) (text (codes ";") refl)) left
    go false true own left = left
    go false false own left = line_before (behind (behind (text (codes "wire ") refl) own) (text (codes ";") refl)) left

memory_plain : (x : Mem) → IsLine x.name → IsLine (memory_line x)
memory_plain x h =
    behind (behind (behind (behind (behind (behind (text (codes "reg [") refl)
    (decimal_plain (x.width - 1))) (text (codes ":0] ") refl)) h)
    (text (codes " [0:") refl)) (decimal_plain (x.depth - 1))) (text (codes "];") refl)

updates_plain : {m : Module} → ArePlain m → (us : List Update) → AreLines (update_lines m us)
updates_plain p [] = lines [] refl
updates_plain {m = m} p (u ∷ us) =
    line_before (text (codes "always @(posedge clk) begin") refl) (are_both (each_plain (update_line m) (u ∷ us) (λ k x e. update_plain p x)) (lines (codes "end" ∷ []) refl))

-- instances
module _ {outer inner : Module} (p : ArePlain outer) (q : ArePlain inner) where
  connection_plain : (j : Port × ℕ) → IsLine (connection_text outer.nets inner.nets j)
  connection_plain j = behind (behind (behind (behind (text (codes ".") refl) (name_at q j.0.net)) (text (codes "(") refl)) (name_at p j.1)) (text (codes ")") refl)

  more_plain : (js : List (Port × ℕ)) → IsLine (flat_map (λ (j : Port × ℕ). codes ", " ++ connection_text outer.nets inner.nets j) js)
  more_plain [] = text [] refl
  more_plain (j ∷ js) = behind (behind (text (codes ", ") refl) (connection_plain j)) (more_plain js)

  connections_plain : (js : List (Port × ℕ)) → IsLine (connections_text outer.nets inner.nets js)
  connections_plain [] = text [] refl
  connections_plain (j ∷ js) = behind (connection_plain j) (more_plain js)

  part_plain : (i : Instance) → IsLine i.name → AreLines (part_lines outer.nets i (Some inner))
  part_plain i h =
      line_before (behind (behind (behind (behind (behind q.own (text (codes " ") refl)) h)
      (text (codes " (") refl)) (connections_plain (zip inner.ports i.nets)))
      (text (codes ");") refl)) (lines [] refl)

abbrev pub AllPlain : List Module → Type 0
AllPlain modules = (k : ℕ) (m : Module) → slice_get modules k ≡ Some m → ArePlain m

instances_plain : (modules : List Module) {m : Module} → AllPlain modules → ArePlain m
    → (instances : List Instance) → ((k : ℕ) (i : Instance) → slice_get instances k ≡ Some i
    → IsLine i.name) → AreLines (instance_lines modules m instances)
instances_plain modules all p [] h = lines [] refl
instances_plain modules {m = m} all p (i ∷ instances) h = are_both (go (slice_get modules i.«module») refl) (instances_plain modules all p instances (λ k x e. h (suc k) x e))
  where
    go : (o : Option Module) → slice_get modules i.«module» ≡ o → AreLines (part_lines m.nets i o)
    go None e = lines [] refl
    go (Some inner) e = part_plain p (all i.«module» inner e) i (h zero i refl)

module_plain : (modules : List Module) {m : Module} → AllPlain modules → ArePlain m → AreLines (module_lines modules m)
module_plain modules {m = m} all p =
    let mems = each_plain memory_line m.mems (λ k y e. memory_plain y (p.mems k y e)) in
    let assigns = each_plain (assign_line m) m.assigns (λ k x e. assign_plain p x) in
    let front = are_both (are_both (are_both (ports_plain p m.ports) (nets_plain m.ports 0 m.nets p.nets)) mems) assigns in
    line_before (behind (behind (text (codes "module ") refl) p.own) (text (codes " (") refl))
    (are_both (are_both (are_both front (instances_plain modules all p m.instances p.parts)) (updates_plain p m.updates)) (lines (codes "endmodule" ∷ []) refl))

some_plain : (modules : List Module) → AllPlain modules → (some : List Module) → ((k : ℕ) (m : Module) → slice_get some k ≡ Some m → ArePlain m) → AreLines (flat_map (module_lines modules) some)
some_plain modules all [] f = lines [] refl
some_plain modules all (m ∷ some) f = are_both (module_plain modules all (f zero m refl)) (some_plain modules all some (λ k x e. f (suc k) x e))

pub lines_plain : (modules : List Module) → IsFormed modules → list_all is_line (flat_map (module_lines modules) modules) ≡ true
lines_plain modules f = let all : AllPlain modules = λ k m e. are_plain m (f.each k m e) in (some_plain modules all modules all).are
