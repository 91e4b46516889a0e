use Rattle.std.proofs.Common.{[], map, refl, subst, arith}
use Rattle.std.proofs.lemmas.List.{take_all}
use Rattle.std.proofs.lemmas.Result.{err_from_is_err_and}
use Rattle.verilog_syntax.specs.Trees.{item_view}
use Rattle.rtl_reading.specs.Uses.{items_uses}
use Rattle.verilog_read.specs.Walk.{AllDeclared, IsBuilt, item_scope}
use Rattle.verilog_read.proofs.FirstUse.{err_is}
use Rattle.verilog_read.proofs.Seq.{split_at}
use Rattle.rtl_check.proofs.Places.{item_at}
use Rattle.verilog_read.proofs.ItemLemmas.{items_more, items_fault}
use Rattle.verilog_read.proofs.builder.Builder.items.Goals as goal

pub returns-in_err-item : goal.returns-in_err-item
returns-in_err-item c = λ named sc none e b.
    let s = split_at c.args.items.now c.loop-item.item-index c.item-item.result
    (item_at c.args.items.now c.args.items.now c.loop-item.item-index c.item-item.result
    refl (omega arith) c.item-item.is) in
    let inv = c.loop-item.invariant named sc none e b in
    rw (err_is (err_from_is_err_and c.from_residual.result c.from_residual.ensures.1)) (items_fault named sc s _ inv.known (c.in_err-item.ensures named _ e inv.holds))

pub loop-item-preserved : goal.loop-item-preserved
loop-item-preserved c = λ named sc none e b.
    let s = split_at c.args.items.now c.loop-item.item-index c.item-item.result
    (item_at c.args.items.now c.args.items.now c.loop-item.item-index c.item-item.result
    refl (omega arith) c.item-item.is) in
    let inv = c.loop-item.invariant named sc none e b in
    items_more named sc s c.loop-item.self c.item.new.self inv (c.in_ok-item.ensures named _ e inv.holds)

pub returns : goal.returns
returns c = λ named sc none e b.
    subst (λ l. AllDeclared (items_uses sc.modules sc.ports [] (map item_view l))
    (IsBuilt named (item_scope sc (map item_view l)) c.loop-item.self))
    (take_all c.loop-item.item-index c.args.items.now (omega arith))
    (c.loop-item.invariant named sc none e b)
