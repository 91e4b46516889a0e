use Rattle.std.proofs.Common.{◌≡◌, ◌≤◌, ◌∙◌, IsTrue, map, length, get_or, ap, sym, subst, refl, arith}
use Rattle.std.proofs.lemmas.Result.{IfOk-weaker}
use Rattle.std.specs.Prelude.{slice_get, pos, ◌-ℤ◌, ◌*ℤ◌, ◌-◌, ◌^◌}
use Rattle.mx_bits.specs.declared.op.Op.TheVariants.{Mul}
use Rattle.fix_arith.specs.declared.types.StreamType.{StreamType}
use Rattle.fix_arith.specs.declared.types.StreamType.TheVariants.{UInt}
use Rattle.fix_arith.specs.Types.{width_of}
use Rattle.fix_arith.specs.Typing.{first, is_fix}
use Rattle.fix_arith.specs.Values.{value_of, reduced}
use Rattle.fix_arith.specs.Rounding.{floor_of}
use Rattle.fix_arith.specs.Table.{row_of, operand, cast_of, GivesType}
use Rattle.fix_arith.proofs.Residues.{negation_bits}
use Rattle.rtl_build.specs.declared.signal.Signal.{Signal}
use Rattle.rtl_build.specs.Signals.{HasSignal}
use Rattle.rtl_build.proofs.Growing.{made_where, same_where, some_is, word_fits}
use Rattle.rtl_ops.proofs.Options.{length-rest, rest_of, signal_is}
use Rattle.rtl_ops.proofs.Rows.{first_type, length-args, signal_of, second_signal, option_signals, operand_at, mux_row, cast_row, cast_count, two_by_rest, on_two}
use Rattle.rtl_ops.proofs.operations.operation.Goals as goal

pub choice-requires-clause-options : goal.choice-requires-clause-options
choice-requires-clause-options c =
    let q = c.requires in
    let gives = subst (λ op. GivesType op c.args.types.now c.args.amount c.args.out) c.in-Mux.is q.gives in
    option_signals c.args.netlist.now c.args.types.now c.args.args.now c.width.result q.nets q.types gives.1.one_type (c.width.ensures ∙ ap width_of gives.1.result)

pub cast-requires-clause-a : goal.cast-requires-clause-a
cast-requires-clause-a c =
    let q = c.requires in
    let count = cast_count c.args.op c.args.types.now c.args.amount c.args.out c.in-Cast.is q.gives in
    let size = length-args c.args.netlist.now c.args.types.now c.args.args.now q.nets in
    let a_is = signal_is c.args.args.now 0 c.index-args-0.result c.width-width.result c.new-a.result (omega arith) c.index-args-0.is c.new-a.ensures in
    rw a_is (signal_of c.args.netlist.now c.args.types.now c.args.args.now 0 _ _ (UInt 0) q.nets q.types (omega arith) refl c.width-width.ensures)

pub opposite-requires : goal.opposite-requires
opposite-requires c =
    let q = c.requires in
    let gives = subst (λ op. GivesType op c.args.types.now c.args.amount c.args.out) c.in-Neg.is q.gives in
    let size = length-args c.args.netlist.now c.args.types.now c.args.args.now q.nets in
    let a_is = signal_is c.args.args.now 0 c.index-args-0.result c.width-width.result c.new-a.result (omega (arith, gives.0)) c.index-args-0.is c.new-a.ensures in
    rw a_is (record { a = signal_of c.args.netlist.now c.args.types.now c.args.args.now 0 _ _ (UInt 0) q.nets q.types (omega (arith, gives.0)) refl c.width-width.ensures })

pub not-requires : goal.not-requires
not-requires c =
    let q = c.requires in
    let gives = subst (λ op. GivesType op c.args.types.now c.args.amount c.args.out) c.in-Not.is q.gives in
    let size = length-args c.args.netlist.now c.args.types.now c.args.args.now q.nets in
    let a_is = signal_is c.args.args.now 0 c.index-args-0.result c.width-width.result c.new-a.result (omega (arith, gives.0)) c.index-args-0.is c.new-a.ensures in
    rw a_is (signal_of c.args.netlist.now c.args.types.now c.args.args.now 0 _ _ (UInt 0) q.nets q.types (omega (arith, gives.0)) refl c.width-width.ensures)

pub shifted_left-requires-clause-a : goal.shifted_left-requires-clause-a
shifted_left-requires-clause-a c =
    let q = c.requires in
    let gives = subst (λ op. GivesType op c.args.types.now c.args.amount c.args.out) c.in-Shl.is q.gives in
    let size = length-args c.args.netlist.now c.args.types.now c.args.args.now q.nets in
    let a_is = signal_is c.args.args.now 0 c.index-args-0.result c.width-width.result c.new-a.result (omega (arith, gives.0)) c.index-args-0.is c.new-a.ensures in
    rw a_is (signal_of c.args.netlist.now c.args.types.now c.args.args.now 0 _ _ (UInt 0) q.nets q.types (omega (arith, gives.0)) refl c.width-width.ensures)

pub floor-requires-clause-a : goal.floor-requires-clause-a
floor-requires-clause-a c =
    let q = c.requires in
    let gives = subst (λ op. GivesType op c.args.types.now c.args.amount c.args.out) c.in-Shr.is q.gives in
    let size = length-args c.args.netlist.now c.args.types.now c.args.args.now q.nets in
    let a_is = signal_is c.args.args.now 0 c.index-args-0.result c.width-width.result c.new-a.result (omega (arith, gives.0)) c.index-args-0.is c.new-a.ensures in
    rw a_is (signal_of c.args.netlist.now c.args.types.now c.args.args.now 0 _ _ (UInt 0) q.nets q.types (omega (arith, gives.0)) refl c.width-width.ensures)

pub on_two-requires : goal.on_two-requires
on_two-requires c =
    let q = c.requires in
    let m = c.args.netlist.now in
    let types = c.args.types.now in
    let args = c.args.args.now in
    let rest = c.in_default in
    let two = two_by_rest c.args.op rest.not-Neg rest.not-Not rest.not-Shl rest.not-Shr rest.not-Mux rest.not-Cast rest.not-Round in
    let gives = (on_two c.args.op c.args.mode types args c.args.amount c.args.out two).gives q.gives in
    let is : get_or types 0 (UInt 0) ≡ first types = first_type types (UInt 0) (omega (arith, gives.0)) in
    let size = length-args m types args q.nets in
    let a_is = signal_is args 0 c.index-args-0.result c.width-width.result c.new-a.result (omega (arith, gives.0)) c.index-args-0.is c.new-a.ensures in
    let b_is = signal_is args 1 c.index-args-1.result c.width-width.result c.new-b.result (omega (arith, gives.0)) c.index-args-1.is c.new-b.ensures in
    rw (a_is, b_is) (record {
      two = two;
      a = signal_of m types args 0 _ _ (UInt 0) q.nets q.types (omega (arith, gives.0)) refl c.width-width.ensures;
      b = second_signal m types args _ (UInt 0) q.nets q.types gives.1 (omega (arith, gives.0)) c.width-width.ensures;
      a_type = c.width-width.ensures;
      b_type = c.width-width.ensures;
      narrow = subst (λ (t : StreamType). c.args.op ≡ Mul → IsTrue (is_fix t) → width_of t ≤ 64) (sym is) gives.2.narrow;
    })

pub returns-in-Mux : goal.returns-in-Mux
returns-in-Mux c =
    let q = c.requires in
    let types = c.args.types.now in
    let args = c.args.args.now in
    let gives = subst (λ op. GivesType op types c.args.amount c.args.out) c.in-Mux.is q.gives in
    let some : 1 ≤ length args = omega (arith, gives.0, length-args c.args.netlist.now types args q.nets) in
    let a_is = signal_is args 0 c.index-args-0.result c.width-width.result c.new-a.result some c.index-args-0.is c.new-a.ensures in
    let net = ap (λ (s : Signal). s.net) a_is in
    rw c.in-Mux.is (IfOk-weaker _ _ _ (λ r made. same_where _ _ _ made (omega (
      arith,
      length-rest args,
      length-args c.args.netlist.now types args q.nets,
    )) c.width.ensures (λ v. ap (λ n. slice_get (map v (rest_of args))
    (v n)) net ∙ mux_row v args some)) c.choice.ensures)

pub returns-in-Cast : goal.returns-in-Cast
returns-in-Cast c =
    let q = c.requires in
    let types = c.args.types.now in
    let args = c.args.args.now in
    let count = cast_count c.args.op types c.args.amount c.args.out c.in-Cast.is q.gives in
    let size = length-args c.args.netlist.now types args q.nets in
    let a_is = signal_is args 0 c.index-args-0.result c.width-width.result c.new-a.result (omega arith) c.index-args-0.is c.new-a.ensures in
    let net = ap (λ (s : Signal). s.net) a_is in
    IfOk-weaker _ _ _ (λ r made. made_where _ _ _ made (omega arith) refl (λ d v h.
    some_is (cast_row c.args.op c.args.mode types (map v args) c.args.amount c.args.out c.in-Cast.is)
    (ap (λ t. cast_of c.args.mode t c.args.out (v c.new-a.result.net)) (first_type types (UInt 0) (omega arith))
    ∙ ap (cast_of c.args.mode (first types) c.args.out) (ap v net ∙ sym (operand_at v args 0 (omega arith)))))) c.cast.ensures

pub returns-in-Neg : goal.returns-in-Neg
returns-in-Neg c =
    let q = c.requires in
    let types = c.args.types.now in
    let args = c.args.args.now in
    let gives = subst (λ op. GivesType op types c.args.amount c.args.out) c.in-Neg.is q.gives in
    let size = length-args c.args.netlist.now types args q.nets in
    let a_is = signal_is args 0 c.index-args-0.result c.width-width.result c.new-a.result (omega (arith, gives.0)) c.index-args-0.is c.new-a.ensures in
    let net = ap (λ (s : Signal). s.net) a_is in
    let is : get_or types 0 (UInt 0) ≡ first types = first_type types (UInt 0) (omega (arith, gives.0)) in
    let wide = ap (λ (s : Signal). s.width) a_is ∙ c.width-width.ensures ∙ ap width_of is in
    let a : HasSignal c.args.netlist.now c.new-a.result = rw a_is (signal_of c.args.netlist.now types args 0 _ _ (UInt 0) q.nets q.types (omega (arith, gives.0)) refl c.width-width.ensures) in
    rw c.in-Neg.is (IfOk-weaker _ _ _ (λ r made. made_where _ _ _ made (omega (arith, gives.0)) (wide ∙ ap width_of (sym gives.1.result)) (λ d v h.
    negation_bits (first types) (v c.new-a.result.net) c.new-a.result.width _ wide (word_fits c.new-a.result (made.keeps _ a) h) refl
    ∙ ap (λ n. reduced (width_of (first types)) (pos 0 -ℤ value_of (first types) n)) (ap v net ∙ sym (operand_at v args 0 (omega (arith, gives.0)))))) c.opposite.ensures)

pub returns-in-Not : goal.returns-in-Not
returns-in-Not c =
    let q = c.requires in
    let types = c.args.types.now in
    let args = c.args.args.now in
    let gives = subst (λ op. GivesType op types c.args.amount c.args.out) c.in-Not.is q.gives in
    let size = length-args c.args.netlist.now types args q.nets in
    let a_is = signal_is args 0 c.index-args-0.result c.width-width.result c.new-a.result (omega (arith, gives.0)) c.index-args-0.is c.new-a.ensures in
    let net = ap (λ (s : Signal). s.net) a_is in
    let is : get_or types 0 (UInt 0) ≡ first types = first_type types (UInt 0) (omega (arith, gives.0)) in
    let wide = ap (λ (s : Signal). s.width) a_is ∙ c.width-width.ensures ∙ ap width_of is in
    rw c.in-Not.is (IfOk-weaker _ _ _ (λ r made. made_where _ _ _ made (omega (arith, gives.0)) (wide ∙ ap width_of (sym gives.1.result)) (λ d v h.
    ap (λ w. 2 ^ w - 1 - v c.new-a.result.net) wide ∙ ap (λ n. 2 ^ width_of (first types) - 1 - n) (ap v net ∙ sym (operand_at v args 0 (omega (arith, gives.0)))))) c.not.ensures)

pub returns-in-Shl : goal.returns-in-Shl
returns-in-Shl c =
    let q = c.requires in
    let types = c.args.types.now in
    let args = c.args.args.now in
    let d = 2 ^ c.args.amount in
    let gives = subst (λ op. GivesType op types c.args.amount c.args.out) c.in-Shl.is q.gives in
    let size = length-args c.args.netlist.now types args q.nets in
    let a_is = signal_is args 0 c.index-args-0.result c.width-width.result c.new-a.result (omega (arith, gives.0)) c.index-args-0.is c.new-a.ensures in
    let net = ap (λ (s : Signal). s.net) a_is in
    let is : get_or types 0 (UInt 0) ≡ first types = first_type types (UInt 0) (omega (arith, gives.0)) in
    let wide = c.width-width.ensures ∙ ap width_of is in
    rw c.in-Shl.is (IfOk-weaker _ _ _ (λ r made. made_where _ _ _ made (omega (arith, gives.0)) (wide ∙ ap width_of (sym gives.1.result)) (λ k v h.
    ap (λ w. reduced w (value_of (get_or types 0 (UInt 0)) (v c.new-a.result.net) *ℤ pos d)) wide
    ∙ ap (λ t. reduced (width_of (first types)) (value_of t (v c.new-a.result.net) *ℤ pos d)) is
    ∙ ap (λ n. reduced (width_of (first types)) (value_of (first types) n *ℤ pos d)) (ap v net ∙ sym (operand_at v args 0 (omega (arith, gives.0)))))) c.shifted_left.ensures)

pub returns-in-Shr : goal.returns-in-Shr
returns-in-Shr c =
    let q = c.requires in
    let types = c.args.types.now in
    let args = c.args.args.now in
    let d = 2 ^ c.args.amount in
    let gives = subst (λ op. GivesType op types c.args.amount c.args.out) c.in-Shr.is q.gives in
    let size = length-args c.args.netlist.now types args q.nets in
    let a_is = signal_is args 0 c.index-args-0.result c.width-width.result c.new-a.result (omega (arith, gives.0)) c.index-args-0.is c.new-a.ensures in
    let net = ap (λ (s : Signal). s.net) a_is in
    let is : get_or types 0 (UInt 0) ≡ first types = first_type types (UInt 0) (omega (arith, gives.0)) in
    let wide = c.width-width.ensures ∙ ap width_of is in
    rw c.in-Shr.is (IfOk-weaker _ _ _ (λ r made. made_where _ _ _ made (omega (arith, gives.0)) (wide ∙ ap width_of (sym gives.1.result)) (λ k v h.
    ap (λ w. reduced w (floor_of (value_of (get_or types 0 (UInt 0)) (v c.new-a.result.net)) d)) wide
    ∙ ap (λ t. reduced (width_of (first types)) (floor_of (value_of t (v c.new-a.result.net)) d)) is
    ∙ ap (λ n. reduced (width_of (first types)) (floor_of (value_of (first types) n) d)) (ap v net ∙ sym (operand_at v args 0 (omega (arith, gives.0)))))) c.floor.ensures)

pub returns-in_default : goal.returns-in_default
returns-in_default c =
    let q = c.requires in
    let op = c.args.op in
    let mode = c.args.mode in
    let types = c.args.types.now in
    let args = c.args.args.now in
    let out = c.args.out in
    let rest = c.in_default in
    let two = two_by_rest op rest.not-Neg rest.not-Not rest.not-Shl rest.not-Shr rest.not-Mux rest.not-Cast rest.not-Round in
    let gives = (on_two op mode types args c.args.amount out two).gives q.gives in
    let size = length-args c.args.netlist.now types args q.nets in
    let a_is = signal_is args 0 c.index-args-0.result c.width-width.result c.new-a.result (omega (arith, gives.0)) c.index-args-0.is c.new-a.ensures in
    let net = ap (λ (s : Signal). s.net) a_is in
    let b_is = signal_is args 1 c.index-args-1.result c.width-width.result c.new-b.result (omega (arith, gives.0)) c.index-args-1.is c.new-b.ensures in
    let second = ap (λ (s : Signal). s.net) b_is in
    let is : get_or types 0 (UInt 0) ≡ first types = first_type types (UInt 0) (omega (arith, gives.0)) in
    IfOk-weaker _ _ _ (λ r made. same_where _ _ _ made (omega (
      arith,
      gives.0,
    )) (ap width_of ((on_two op mode types args c.args.amount out two).result
    (get_or types 0 (UInt 0)) is ∙ sym gives.2.result)) (λ v.
    ap (λ t. row_of op mode t 0 (v c.new-a.result.net) (v c.new-b.result.net)) is
    ∙ ap (λ n. row_of op mode (first types) 0 n (v c.new-b.result.net)) (ap v net ∙ sym (operand_at v args 0 (omega (arith, gives.0))))
    ∙ ap (λ n. row_of op mode (first types) 0 (operand (map v args) 0) n) (ap v second ∙ sym (operand_at v args 1 (omega (arith, gives.0))))
    ∙ sym (on_two op mode types (map v args) c.args.amount out two).row)) c.on_two.ensures
