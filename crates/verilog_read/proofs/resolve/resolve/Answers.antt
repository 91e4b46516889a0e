use Rattle.std.proofs.Common.{◌≡◌, ◌∙◌, [], ◌∷◌, ◌++◌, map, take, length, refl, sym, subst, arith}
use Rattle.std.proofs.lemmas.List.{length-map, length-take}
use Rattle.std.proofs.lemmas.Result.{err_from_is_err_and}
use Rattle.rtl_check.proofs.Places.{item_at}
use Rattle.verilog_syntax.specs.Trees.{module_view}
use Rattle.rtl_reading.specs.Uses.{text_uses}
use Rattle.verilog_read.specs.Tables.{IsTable}
use Rattle.verilog_read.specs.Walk.{AllDeclared, AreSaid, module_name}
use Rattle.verilog_read.proofs.FirstUse.{err_is}
use Rattle.verilog_read.proofs.Tables.{push_named}
use Rattle.verilog_read.proofs.Seq.{split_at, map_more, map_whole}
use Rattle.verilog_read.proofs.ModuleLemmas.{said_modules, modules_fault}
use Rattle.verilog_read.proofs.resolve.resolve.Goals as goal

pub returns-in_err-found : goal.returns-in_err-found
returns-in_err-found c =
    let trees = c.args.trees.now in let i = c.loop-number.number in let t = c.index-trees-number.result in
    let s = split_at trees i t (item_at trees trees i t refl (omega arith) c.index-trees-number.is) in
    let front = map module_view (take i trees) in
    rw (err_is (err_from_is_err_and c.from_residual.result c.from_residual.ensures.1))
    (modules_fault front (module_view t) (map module_view trees) (map module_view s.rest) _
    (map_whole module_view s) c.loop-number.invariant.said.known
    (c.in_err-found.ensures front (record
    { trees = refl; numbers = c.loop-number.invariant.table })))

pub loop-number-preserved : goal.loop-number-preserved
loop-number-preserved c =
    let trees = c.args.trees.now in let i = c.loop-number.number in let t = c.index-trees-number.result in
    let s = split_at trees i t (item_at trees trees i t refl (omega arith) c.index-trees-number.is) in
    let front = map module_view (take i trees) in
    let number : c.in_ok-next_number.field-0 ≡ length
    (map module_name front) = c.in_ok-next_number.ensures ∙ omega (
      arith,
      length-map front module_name,
      length-map (take i trees) module_view,
      length-take i trees,
    ) in
    record {
      said = subst (λ l. AllDeclared (text_uses [] l) (AreSaid l c.push.new.self))
          (sym (map_more module_view s)) (subst (λ ms. AllDeclared (text_uses [] (front
          ++ module_view t ∷ [])) (AreSaid (front ++ module_view t
          ∷ []) ms)) (sym c.in_ok-push.ensures.ok)
          (said_modules front (module_view t) c.loop-number.modules c.in_ok-found.found
          c.loop-number.invariant.said (c.in_ok-found.ensures front
          (record { trees = refl; numbers = c.loop-number.invariant.table }))));
      table = subst (λ l. IsTable c.declare.new.self (map module_name l))
          (sym (map_more module_view s)) (push_named module_name front
          (module_view t) c.declare.new.self (c.in_ok-declare.ensures
          (map module_name front) c.loop-number.invariant.table number));
    }
