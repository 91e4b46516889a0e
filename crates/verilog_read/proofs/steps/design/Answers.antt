use Rattle.std.proofs.Common.{◌≡◌, ℕ, List, [], map, inl, inr, sym, ap, subst, rules}
use Rattle.rtl_text.specs.Tree.{ModuleTree}
use Rattle.verilog_syntax.specs.Trees.{module_view}
use Rattle.verilog_syntax.specs.Parsed.{IsRefused}
use Rattle.verilog_syntax.specs.declared.token.Placed.{Placed}
use Rattle.verilog_syntax.specs.declared.modules.ParseError.TheVariants.{Syntax}
use Rattle.rtl_reading.specs.Uses.{text_uses}
use Rattle.verilog_read.specs.Walk.{IsFault}
use Rattle.verilog_read.specs.Answers.{AreTrees, IsTreeFault, IsRefusal}
use Rattle.verilog_read.specs.declared.error.VerilogError.{VerilogError}
use Rattle.verilog_read.specs.declared.error.VerilogError.TheVariants as errors
use Rattle.verilog_read.specs.declared.fault.Fault.{Fault}
use Rattle.verilog_read.specs.declared.fault.Fault.TheVariants.{Unknown, NoMemory}
use Rattle.verilog_read.proofs.steps.design.Goals as goal

tree_fault : (tokens : List Placed) (size : ℕ) (trees : List ModuleTree) (f : Fault)
    (e : VerilogError) → AreTrees tokens trees → IsFault (text_uses [] trees) f → IsRefusal f e
    → IsTreeFault tokens size e
tree_fault tokens size trees (Unknown name) e are h (inl m) = subst (IsTreeFault tokens size) (sym m) IsTreeFault.memory
tree_fault tokens size trees (Unknown name) e are h (inr u) = subst (IsTreeFault tokens size) (sym u) (IsTreeFault.unknown name.now trees are h)
tree_fault tokens size trees NoMemory e are h m = subst (IsTreeFault tokens size) (sym m) IsTreeFault.memory

pub returns-in-Ok-clause-err : goal.returns-in-Ok-clause-err
returns-in-Ok-clause-err c =
    let trees = c.as_slice-in-Ok.result.now in
    let same : map module_view c.in-Ok.trees ≡ map module_view trees =
    ap (map module_view) (sym c.as_slice-in-Ok.ensures) in
    let are : AreTrees c.as_slice.result.now (map module_view c.in-Ok.trees) =
    record { derived = c.in-Ok.ensures.derived; only = c.in-Ok.ensures.only } in
    let own : AreTrees c.args.tokens (map module_view c.in-Ok.trees) =
    subst (λ tokens. AreTrees tokens (map module_view c.in-Ok.trees)) c.as_slice.ensures are in
    tree_fault c.args.tokens c.args.size (map module_view trees) c.in-Err.fault c.refusal.result
    (subst (AreTrees c.args.tokens) same own) c.in-Err.ensures c.refusal.ensures

pub returns-in-Err-Syntax-clause-err : goal.returns-in-Err-Syntax-clause-err
returns-in-Err-Syntax-clause-err c =
    let size = c.args.size in
    let refused : IsRefused c.as_slice.result.now size (Syntax c.in-Err-Syntax.place) = search rules in
    let own : IsRefused c.args.tokens size (Syntax c.in-Err-Syntax.place) =
    subst (λ tokens. IsRefused tokens size (Syntax c.in-Err-Syntax.place)) c.as_slice.ensures
    refused in
    subst (λ n. IsTreeFault c.args.tokens size (errors.Syntax n)) (sym c.in-Err-Syntax.place-is)
    (IsTreeFault.syntax_at c.in-Err-Syntax.place own)

pub returns-clause-err : goal.returns-clause-err
returns-clause-err c = IsTreeFault.memory
