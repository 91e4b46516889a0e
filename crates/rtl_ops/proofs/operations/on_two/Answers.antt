use Rattle.std.proofs.Common.{◌^◌, ◌<◌, ◌∙◌, ap, sym, subst, refl, arith}
use Rattle.std.proofs.lemmas.Result.{IfOk-weaker}
use Rattle.fix_arith.specs.Table.{bit_of}
use Rattle.fix_arith.proofs.Residues.{sum_bits, difference_bits}
use Rattle.rtl_build.proofs.Growing.{made_where, same_where, word_fits}
use Rattle.rtl_ops.proofs.Typed.{type_fits, type_some}
use Rattle.rtl_ops.proofs.Ranks.{greater_test, at_least_test}
use Rattle.rtl_ops.proofs.operations.on_two.Goals as goal

pub returns-in-Add : goal.returns-in-Add
returns-in-Add c =
    let t = c.args.t in
    let a = c.args.a in
    let b = c.args.b in
    let q = c.requires in
    rw c.in-Add.is (IfOk-weaker _ _ _ (λ r made. made_where 30 _ _ made (omega arith) q.a_type (λ d v h. sum_bits t (v a.net) (v b.net) a.width _ q.a_type refl)) c.binary.ensures)

pub returns-in-Sub : goal.returns-in-Sub
returns-in-Sub c =
    let t = c.args.t in
    let a = c.args.a in
    let b = c.args.b in
    let q = c.requires in
    rw c.in-Sub.is (IfOk-weaker _ _ _ (λ r made. made_where 30 _ _ made (omega arith) q.a_type
    (λ d v h. difference_bits t (v a.net) (v b.net) a.width _ q.a_type
    (subst (λ w. v b.net < 2 ^ w) (q.b_type ∙ sym q.a_type)
    (word_fits b (made.keeps b q.b) h)) refl)) c.binary-in-Sub.ensures)

pub returns-in-Mul : goal.returns-in-Mul
returns-in-Mul c = rw c.in-Mul.is c.multiplied.ensures

pub returns-in-Div : goal.returns-in-Div
returns-in-Div c = rw c.in-Div.is (IfOk-weaker _ _ _ (λ r made. same_where 30 _ _ made (omega arith) refl (λ v. refl)) c.quotient.ensures)

pub returns-in-And : goal.returns-in-And
returns-in-And c =
    let t = c.args.t in
    let a = c.args.a in
    let b = c.args.b in
    let q = c.requires in
    rw c.in-And.is (IfOk-weaker _ _ _ (λ r made. made_where 30 _ _ made (omega arith) q.a_type (λ d v h. refl)) c.binary-in-And.ensures)

pub returns-in-Or : goal.returns-in-Or
returns-in-Or c =
    let t = c.args.t in
    let a = c.args.a in
    let b = c.args.b in
    let q = c.requires in
    rw c.in-Or.is (IfOk-weaker _ _ _ (λ r made. made_where 30 _ _ made (omega arith) q.a_type (λ d v h. refl)) c.binary-in-Or.ensures)

pub returns-in-Xor : goal.returns-in-Xor
returns-in-Xor c =
    let t = c.args.t in
    let a = c.args.a in
    let b = c.args.b in
    let q = c.requires in
    rw c.in-Xor.is (IfOk-weaker _ _ _ (λ r made. made_where 30 _ _ made (omega arith) q.a_type (λ d v h. refl)) c.binary-in-Xor.ensures)

pub returns-in-Eq : goal.returns-in-Eq
returns-in-Eq c =
    let t = c.args.t in
    let a = c.args.a in
    let b = c.args.b in
    let q = c.requires in
    rw c.in-Eq.is (IfOk-weaker _ _ _ (λ r made. made_where 30 _ _ made (omega arith) refl (λ d v h. refl)) c.equal.ensures)

pub returns-in-Ne : goal.returns-in-Ne
returns-in-Ne c =
    let t = c.args.t in
    let a = c.args.a in
    let b = c.args.b in
    let q = c.requires in
    rw c.in-Ne.is (IfOk-weaker _ _ _ (λ r made. made_where 30 _ _ made (omega arith) refl (λ d v h. refl)) c.unequal.ensures)

pub returns-in-Lt : goal.returns-in-Lt
returns-in-Lt c =
    let t = c.args.t in
    let a = c.args.a in
    let b = c.args.b in
    let q = c.requires in
    rw c.in-Lt.is (IfOk-weaker _ _ _ (λ r made. made_where 30 _ _ made (omega arith) refl (λ d v h. refl)) c.less.ensures)

pub returns-in-Le : goal.returns-in-Le
returns-in-Le c =
    let t = c.args.t in
    let a = c.args.a in
    let b = c.args.b in
    let q = c.requires in
    rw c.in-Le.is (IfOk-weaker _ _ _ (λ r made. made_where 30 _ _ made (omega arith) refl (λ d v h. refl)) c.at_most.ensures)

pub returns-in-Gt : goal.returns-in-Gt
returns-in-Gt c =
    let t = c.args.t in
    let a = c.args.a in
    let b = c.args.b in
    let q = c.requires in
    rw c.in-Gt.is (IfOk-weaker _ _ _ (λ r made. made_where 30 _ _ made (omega arith) refl
    (λ d v h. ap bit_of (greater_test t (v a.net) (v b.net) (type_some t a q.a q.a_type)
    (type_fits t a (made.keeps a q.a) q.a_type h) (type_fits t b
    (made.keeps b q.b) q.b_type h)))) c.less-in-Gt.ensures)

pub returns-in-Ge : goal.returns-in-Ge
returns-in-Ge c =
    let t = c.args.t in
    let a = c.args.a in
    let b = c.args.b in
    let q = c.requires in
    rw c.in-Ge.is (IfOk-weaker _ _ _ (λ r made. made_where 30 _ _ made (omega arith) refl
    (λ d v h. ap bit_of (at_least_test t (v a.net) (v b.net) (type_some t a q.a q.a_type)
    (type_fits t a (made.keeps a q.a) q.a_type h) (type_fits t b
    (made.keeps b q.b) q.b_type h)))) c.at_most-in-Ge.ensures)
