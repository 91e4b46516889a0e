-- The trees that a parser gives, and how it fails.
use Rattle.std.specs.Prelude.{◌≡◌, ◌<◌, ◌^◌, ℕ, List, map, Result, MatchResult}
use Rattle.rtl_text.specs.Tokens as tokens
use Rattle.rtl_text.specs.Tree as tree
use Rattle.rtl_text.specs.Productions.{Part, IsWidth}
use Rattle.mx_bits.specs.declared.word.Word.{Word}
use Rattle.verilog_syntax.specs.Scanning.{token_view, literal_width, literal_value}
use Rattle.verilog_syntax.specs.Parsing.{Symbol, ExprOf, ItemOf, Reads, Stops, StopsAll, SizedNumber}
use Rattle.verilog_syntax.specs.declared.cursor.Parser.{Parser}
use Rattle.verilog_syntax.specs.declared.cursor.Fault.{Fault}
use Rattle.verilog_syntax.specs.declared.cursor.Fault.TheVariants.{Syntax}
use Rattle.verilog_syntax.specs.declared.token.Placed.{Placed}
use Rattle.verilog_syntax.specs.declared.tree.PortTree.{PortTree}
use Rattle.verilog_syntax.specs.declared.tree.PortTree.TheVariants as ports
use Rattle.verilog_syntax.specs.declared.tree.ExprTree.{ExprTree}
use Rattle.verilog_syntax.specs.declared.tree.ExprTree.TheVariants as exprs
use Rattle.verilog_syntax.specs.declared.tree.UpdateTree.{UpdateTree}
use Rattle.verilog_syntax.specs.declared.tree.UpdateTree.TheVariants as updates
use Rattle.verilog_syntax.specs.declared.tree.Connection.{Connection}
use Rattle.verilog_syntax.specs.declared.tree.ItemTree.{ItemTree}
use Rattle.verilog_syntax.specs.declared.tree.ItemTree.TheVariants as items
use Rattle.verilog_syntax.specs.declared.tree.ModuleTree.{ModuleTree}

-- the tokens that a parser still has
abbrev pub left : Parser → List tokens.Token
left p = map (λ (t : Placed). token_view t.token) p.rest.now

-- what a fault says of the tokens that are left
pub record FailsAt (s : Symbol) (f : Fault) (xs ys : List tokens.Token) : Type 0 where
  pub stops : f ≡ Syntax → Stops s xs ys

pub record FailsAllAt (ps : List Part) (f : Fault) (xs ys : List tokens.Token) : Type 0 where
  pub stops : f ≡ Syntax → StopsAll ps xs ys

-- the bytes are a literal of the grammar: a width, and a value that fits it
abbrev pub IsLiteral : List ℕ → Type 0
IsLiteral bytes = IsWidth (literal_width bytes) × (literal_value bytes < 2 ^ literal_width bytes)

abbrev pub word_view : Word → SizedNumber
word_view w = record { width = w.width; value = w.bits }

abbrev pub port_view : PortTree → tree.PortTree
port_view (ports.Input w name) = tree.InputPort w name.now
port_view (ports.Output w name) = tree.OutputPort w name.now

abbrev pub expr_view : ExprTree → tree.ExprTree
expr_view (exprs.Plain a) = tree.PlainTree a.now
expr_view (exprs.Literal w) = tree.LiteralTree w.width w.bits
expr_view (exprs.Not a) = tree.NotTree a.now
expr_view (exprs.Binary s a b) = tree.BinaryTree s a.now b.now
expr_view (exprs.Concat a b) = tree.ConcatTree a.now b.now
expr_view (exprs.Repeat n a) = tree.RepeatTree n a.now
expr_view (exprs.Part a hi lo) = tree.PartTree a.now hi lo
expr_view (exprs.Choose c a b) = tree.ChooseTree c.now a.now b.now
expr_view (exprs.Cell m a) = tree.CellTree m.now a.now

abbrev pub update_view : UpdateTree → tree.UpdateTree
update_view (updates.Register e r v) = tree.RegisterUpdate e.now r.now v.now
update_view (updates.Cell e m a v) = tree.CellUpdate e.now m.now a.now v.now

abbrev pub connection_view : Connection → tree.Connection
connection_view c = record { port = c.port.now; net = c.net.now }

abbrev pub item_view : ItemTree → tree.ItemTree
item_view (items.Wire w name) = tree.WireItem w name.now
item_view (items.Register w name) = tree.RegisterItem w name.now
item_view (items.Memory w name n) = tree.MemoryItem w name.now n
item_view (items.Assign name e) = tree.AssignItem name.now (expr_view e)
item_view (items.Always us) = tree.AlwaysItem (map update_view us)
item_view (items.Instance of name cs) = tree.InstanceItem of.now name.now (map connection_view cs)

abbrev pub module_view : ModuleTree → tree.ModuleTree
module_view m = record { name = m.name.now; ports = map port_view m.ports; items = map item_view m.items }

-- what a function answers that reads an expression, from the tokens xs on, and leaves ys
abbrev pub GivesExpr : Result ExprTree Fault → List tokens.Token → List tokens.Token → Type 0
GivesExpr r xs ys = MatchResult r (λ e. Reads ExprOf xs ys (expr_view e)) (λ f. FailsAt ExprOf f xs ys)

-- the same of an item
abbrev pub GivesItem : Result ItemTree Fault → List tokens.Token → List tokens.Token → Type 0
GivesItem r xs ys = MatchResult r (λ i. Reads ItemOf xs ys (item_view i)) (λ f. FailsAt ItemOf f xs ys)
