-- The tree of an instance, and that its printed bytes spell it.
use Rattle.std.proofs.Common.{◌≡◌, ℕ, zero, suc, ◌<◌, Bool, true, List, [], ◌∷◌, ◌++◌, length, take, refl, arith, Option, Some, None, append_assoc}
use Rattle.std.specs.Prelude.{codes, map, slice_get}
use Rattle.std.specs.List.{flat_map, list_any, zip}
use Rattle.rtl_ir.specs.declared.design.Net.{Net}
use Rattle.rtl_ir.specs.declared.design.Port.{Port}
use Rattle.rtl_ir.specs.declared.design.Instance.{Instance}
use Rattle.rtl_ir.specs.declared.design.Module.{Module}
use Rattle.rtl_ir.specs.Names.{is_name}
use Rattle.rtl_ir.specs.Formed.{IsFormedPort, IsFormedInstance, IsFormedModule, IsFormed, is_bit_input}
use Rattle.rtl_text.specs.Tree.{ItemTree, Connection, InstanceItem}
use Rattle.rtl_text.specs.Productions.{Part, Choice}
use Rattle.rtl_text.specs.Text.{NamedInstance}
use Rattle.verilog_print.specs.Printed.{name_of, connection_text, connections_text, instance_line, instance_text}
use Rattle.verilog_print.proofs.Spelling.{Spells, pick, blank, lone, id}
use Rattle.verilog_print.proofs.Trees.{AllNamed, element_at, all_named, open_round, close_round, semicolon, comma}

unfoldable pub connection_tree : List Net → List Net → Port × ℕ → Connection
connection_tree outer inner joined = record { port = name_of inner joined.0.net; net = name_of outer joined.1 }

unfoldable pub instance_tree : List Net → Instance → Option Module → NamedInstance
instance_tree outer i None = record { of = []; name = i.name; connections = [] }
instance_tree outer i (Some inner) = record { of = inner.name; name = i.name; connections = map (connection_tree outer inner.nets) (zip inner.ports i.nets) }

unfoldable pub named_instance : List Module → Module → Instance → NamedInstance
named_instance modules m i = instance_tree m.nets i (slice_get modules i.module)

unfoldable pub instance_item : List Module → Module → Instance → ItemTree
instance_item modules m i = let t = named_instance modules m i in InstanceItem t.of t.name t.connections

-- the module of an instance, which is formed after some earlier ones
pub record InnerOf (modules : List Module) (i : Instance) : Type 0 where
  pub inner : Module
  pub of : slice_get modules i.module ≡ Some inner
  pub earlier : List Module
  pub formed : IsFormedModule earlier inner
  pub nets : length i.nets ≡ length inner.ports

-- a module of a formed design of these modules
pub record IsPart (modules : List Module) (m : Module) : Type 0 where
  pub earlier : List Module
  pub formed : IsFormedModule earlier m
  pub inner : (k : ℕ) (i : Instance) → slice_get m.instances k ≡ Some i → InnerOf modules i

pub slice_get_take : (modules : List Module) (k n : ℕ) (m : Module) → slice_get (take k modules) n ≡ Some m → slice_get modules n ≡ Some m
slice_get_take modules zero n m e = cc
slice_get_take [] (suc k) n m e = cc
slice_get_take (x ∷ modules) (suc k) zero m e = e
slice_get_take (x ∷ modules) (suc k) (suc n) m e = slice_get_take modules k n m e

inner_of : (modules : List Module) → IsFormed modules → (k : ℕ) (m : Module) (i : Instance) → IsFormedInstance (take k modules) m i → InnerOf modules i
inner_of modules f k m i g =
    let (inner, e) = element_at (take k modules) i.module g.is_earlier in
    let at : slice_get modules i.module ≡ Some inner = slice_get_take modules k i.module inner e in
    record { inner = inner; of = at; earlier = take i.module modules; formed = f.each i.module inner at; nets = g.ports inner e }

pub parts : (modules : List Module) → IsFormed modules → (k : ℕ) (m : Module) → slice_get modules k ≡ Some m → IsPart modules m
parts modules f k m e = let g : IsFormedModule (take k modules) m = f.each k m e in record { earlier = take k modules; formed = g; inner = λ j i d. inner_of modules f k m i (g.instances j i d) }

pub any_some : {A : Type 0} (test : A → Bool) (xs : List A) → list_any test xs ≡ true → 0 < length xs
any_some test [] h = cc
any_some test (x ∷ xs) h = omega arith

connected : (outer inner : Module) (p : Port) (n : ℕ) {ps : List Part} {rest : List ℕ} → AllNamed outer → AllNamed inner → p.net < length inner.nets → n < length outer.nets → Spells ps rest
    → Spells (Part.Connected (connection_tree outer.nets inner.nets (p, n)) ∷ ps) (connection_text outer.nets inner.nets (p, n) ++ rest)
unfolding connection_tree
connected outer inner p n named inside h k r = simp append_assoc
    (pick Choice.connected (lone refl refl (λ _ _. refl)
    (id (inside.net p.net h) refl (open_round (id (named.net n k) refl (close_round r))))))

more_connected : (outer inner : Module) (ports : List Port) (nets : List ℕ) {ps : List Part} {rest : List ℕ} → AllNamed outer → AllNamed inner
    → ((k : ℕ) (p : Port) → slice_get ports k ≡ Some p → IsFormedPort inner p) → ((k n : ℕ) → slice_get nets k ≡ Some n → n < length outer.nets) → Spells ps rest
    → Spells (Part.MoreConnections (map (connection_tree outer.nets inner.nets)
    (zip ports nets)) ∷ ps) (flat_map (λ (j : Port × ℕ). codes ", "
    ++ connection_text outer.nets inner.nets j) (zip ports nets) ++ rest)
more_connected outer inner [] nets named inside f g r = pick Choice.no_more_connections r
more_connected outer inner (p ∷ ports) [] named inside f g r = pick Choice.no_more_connections r
more_connected outer inner (p ∷ ports) (n ∷ nets) {ps = ps} {rest = rest} named inside f g r =
    let left : Spells (Part.MoreConnections (map (connection_tree outer.nets inner.nets)
    (zip ports nets)) ∷ ps) (flat_map (λ (j : Port × ℕ). codes ", "
    ++ connection_text outer.nets inner.nets j) (zip ports nets) ++ rest) =
    more_connected outer inner ports nets named inside (λ k q e. f (suc k) q e) (λ k q e. g (suc k) q e) r in
    rw append_assoc (pick Choice.more_connections (comma (blank refl (connected outer inner p n named inside (f 0 p refl).net (g 0 n refl) left))))

all_connected : (outer inner : Module) (ports : List Port) (nets : List ℕ) {ps : List Part} {rest : List ℕ} → 0 < length ports → length nets ≡ length ports → AllNamed outer → AllNamed inner
    → ((k : ℕ) (p : Port) → slice_get ports k ≡ Some p → IsFormedPort inner p) → ((k n : ℕ) → slice_get nets k ≡ Some n → n < length outer.nets) → Spells ps rest
    → Spells (Part.Connections (map (connection_tree outer.nets inner.nets) (zip ports nets)) ∷ ps) (connections_text outer.nets inner.nets (zip ports nets) ++ rest)
all_connected outer inner [] nets some same named inside f g r = absurd (omega arith)
all_connected outer inner (p ∷ ports) [] some same named inside f g r = absurd (omega arith)
all_connected outer inner (p ∷ ports) (n ∷ nets) some same named inside f g r =
    rw append_assoc (pick Choice.connections (connected outer inner p n named inside
    (f 0 p refl).net (g 0 n refl) (more_connected outer inner ports nets named inside
    (λ k q e. f (suc k) q e) (λ k q e. g (suc k) q e) r)))

six : (a b c d e f rest : List ℕ) → (a ++ b ++ c ++ d ++ e ++ f) ++ rest ≡ a ++ (b ++ (c ++ (d ++ (e ++ (f ++ rest)))))
six a b c d e f rest = simp append_assoc

instance_then : (outer inner : Module) (i : Instance) (earlier : List Module)
    (is : List ItemTree) {ps : List Part} {rest : List ℕ} → AllNamed outer
    → IsFormedModule earlier inner → is_name i.name ≡ true → length i.nets ≡ length inner.ports
    → ((k n : ℕ) → slice_get i.nets k ≡ Some n → n < length outer.nets) → Spells (Part.Items is ∷ ps) rest
    → Spells (Part.Items (InstanceItem inner.name i.name (map (connection_tree outer.nets inner.nets) (zip inner.ports i.nets)) ∷ is) ∷ ps) (instance_line outer.nets i (Some inner) ++ rest)
unfolding instance_line
instance_then outer inner i earlier is {ps = ps} {rest = rest} named f h same g r =
    let joined : Spells (Part.Connections (map (connection_tree outer.nets inner.nets) (zip inner.ports i.nets)) ∷ Part.Sign_ (codes ")") ∷ Part.Sign_ (codes ";") ∷ Part.Items is ∷ ps)
    (connections_text outer.nets inner.nets (zip inner.ports i.nets) ++ (codes ");\n" ++ rest)) =
    all_connected outer inner inner.ports i.nets (any_some
    (is_bit_input inner (codes "clk")) inner.ports f.clock) same named
    (all_named earlier inner f) f.ports g (close_round (semicolon (blank refl r))) in
    rw (six inner.name (codes " ") i.name (codes " (") (connections_text outer.nets inner.nets (zip inner.ports i.nets)) (codes ");\n") rest)
    (pick Choice.more_items (pick Choice.instance (id f.name refl (blank refl (id h refl (blank refl (open_round joined)))))))

instance_spells : (modules : List Module) (m : Module) (i : Instance) (earlier : List Module)
    (is : List ItemTree) {ps : List Part} {rest : List ℕ} → AllNamed m → InnerOf modules i
    → IsFormedInstance earlier m i → Spells (Part.Items is ∷ ps) rest
    → Spells (Part.Items (instance_item modules m i ∷ is) ∷ ps) (instance_text modules m i ++ rest)
unfolding instance_item named_instance instance_tree
instance_spells modules m i earlier is named o f r = rw o.of (instance_then m o.inner i o.earlier is named o.formed f.name o.nets f.nets r)

pub instances_spell : (modules : List Module) (m : Module) (instances : List Instance) (earlier : List Module) (is : List ItemTree) {ps : List Part} {rest : List ℕ} → AllNamed m
    → ((k : ℕ) (i : Instance) → slice_get instances k ≡ Some i → InnerOf modules i)
    → ((k : ℕ) (i : Instance) → slice_get instances k ≡ Some i
    → IsFormedInstance earlier m i) → Spells (Part.Items is ∷ ps) rest
    → Spells (Part.Items (map (instance_item modules m) instances ++ is) ∷ ps) (flat_map (instance_text modules m) instances ++ rest)
instances_spell modules m [] earlier is named o f r = r
instances_spell modules m (i ∷ instances) earlier is named o f r =
    rw append_assoc (instance_spells modules m i earlier (map (instance_item modules m) instances ++ is) named (o 0 i refl) (f 0 i refl)
    (instances_spell modules m instances earlier is named (λ k x e. o (suc k) x e) (λ k x e. f (suc k) x e) r))
