-- What the runs of other sources do, as an independent model says: statements, methods, arrays and
-- each way to be refused.
use Rattle.std.proofs.Common.{◌≡◌, refl, [], ◌∷◌, None, Ok, Err}
use Rattle.std.specs.Prelude.{codes}
use Rattle.counter_chains.specs.Digits.{bits_up_to}
use Rattle.fix_arith.specs.declared.types.StreamType.TheVariants as T
use Rattle.fix_arith.specs.Rounding.{rounded}
use Rattle.fix_arith.specs.Values.{reduced, value_of}
use Rattle.std.specs.Int.{int_wrap}
use Rattle.kernel_calls.specs.declared.call.Call.TheVariants as C
use Rattle.kernel_meaning.specs.declared.error.EvalError.TheVariants as E
use Rattle.kernel_meaning.specs.Answer.{calls_of, end_of}
use Rattle.kernel_meaning.specs.Typing.{typing, literal_bits}
use Rattle.kernel_meaning.specs.Rows.{row_of}
use Rattle.kernel_meaning.specs.Ways.{turns}
use Rattle.kernel_meaning.specs.Plans.{plan_of}
use Rattle.maxj_syntax.specs.Tree.{Tree}
use Rattle.maxj_syntax.specs.declared.tree.NodeKind.TheVariants as N
use Rattle.kernel_meaning.specs.Run.{expr, call_to}
use Rattle.kernel_meaning.specs.Ways.{turns}
use Rattle.kernel_meaning.proofs.Sources.{node, leaf, quoted_word, shown}

-- class K extends Kernel { K(KernelParameters p) { super(p); int a =
--
--
-- (((((((((((((((((((((((((((((((((((((((((((((((((((((((((..(((((((((((((((((((1
-- /
--
--
-- 0))))))))))))))))))))))))))))))))))))))))))))))))))))))))..)))))))))))))))))));
-- } }
divided_by_zero_1 : Tree
divided_by_zero_1 =
    (node N.Class (codes "K") 0 438 (
    (node N.Ctor (codes "K") 26 436 (
    (node N.Param (codes "p") 28 46 ((leaf N.Plain (codes "KernelParameters") 28 44) ∷ [])) ∷
    (node N.Block [] 48 436 (
    (node N.Local (codes "a") 60 434 (
    (leaf N.Plain (codes "int") 60 63) ∷
    (node N.Binary (codes "/") 248 253 (
    (leaf N.Whole (codes "1") 248 249) ∷
    (leaf N.Whole (codes "0") 252 253) ∷ [])) ∷ [])) ∷ [])) ∷ [])) ∷ []))

divided_by_zero_1-calls : calls_of (shown divided_by_zero_1) ≡ []
unfolding
    divided_by_zero_1 expr row_of plan_of call_to turns typing literal_bits rounded reduced value_of
    bits_up_to int_wrap
divided_by_zero_1-calls = refl

divided_by_zero_1-end : end_of (shown divided_by_zero_1) ≡ Err (E.DivByZero 248)
unfolding
    divided_by_zero_1 expr row_of plan_of call_to turns typing literal_bits rounded reduced value_of
    bits_up_to int_wrap
divided_by_zero_1-end = refl

-- class K extends Kernel { void f(int[] c) { c[0] = 9; c = new int[1]; } K(KernelParameters p) {
-- super(p); int[] a = {1, 2}; int[] b = a; f(b); constant.var(dfeUInt(8), a[0]); } }
ends_well_1 : Tree
ends_well_1 =
    (node N.Class (codes "K") 0 177 (
    (node N.Method (codes "f") 25 70 (
    (leaf N.Plain (codes "void") 25 29) ∷
    (node N.Param (codes "c") 32 39 (
    (node N.ArrayOf [] 32 37 ((leaf N.Plain (codes "int") 32 35) ∷ [])) ∷ [])) ∷
    (node N.Block [] 41 70 (
    (node N.Set (codes "=") 43 51 (
    (node N.Index [] 43 47 (
    (leaf N.Name (codes "c") 43 44) ∷
    (leaf N.Whole (codes "0") 45 46) ∷ [])) ∷
    (leaf N.Whole (codes "9") 50 51) ∷ [])) ∷
    (node N.Set (codes "=") 53 67 (
    (leaf N.Name (codes "c") 53 54) ∷
    (node N.NewArray [] 57 67 (
    (leaf N.Plain (codes "int") 61 64) ∷
    (leaf N.Whole (codes "1") 65 66) ∷ [])) ∷ [])) ∷ [])) ∷ [])) ∷
    (node N.Ctor (codes "K") 71 175 (
    (node N.Param (codes "p") 73 91 ((leaf N.Plain (codes "KernelParameters") 73 89) ∷ [])) ∷
    (node N.Block [] 93 175 (
    (node N.Local (codes "a") 105 122 (
    (node N.ArrayOf [] 105 110 ((leaf N.Plain (codes "int") 105 108) ∷ [])) ∷
    (node N.Braces [] 115 121 (
    (leaf N.Whole (codes "1") 116 117) ∷
    (leaf N.Whole (codes "2") 119 120) ∷ [])) ∷ [])) ∷
    (node N.Local (codes "b") 123 135 (
    (node N.ArrayOf [] 123 128 ((leaf N.Plain (codes "int") 123 126) ∷ [])) ∷
    (leaf N.Name (codes "a") 133 134) ∷ [])) ∷
    (node N.Run [] 136 140 (
    (node N.Call (codes "f") 136 140 ((leaf N.Name (codes "b") 138 139) ∷ [])) ∷ [])) ∷
    (node N.Run [] 142 172 (
    (node N.DotCall (codes "var") 142 172 (
    (leaf N.Name (codes "constant") 142 150) ∷
    (node N.Call (codes "dfeUInt") 155 165 ((leaf N.Whole (codes "8") 163 164) ∷ [])) ∷
    (node N.Index [] 167 171 (
    (leaf N.Name (codes "a") 167 168) ∷
    (leaf N.Whole (codes "0") 169 170) ∷ [])) ∷ [])) ∷ [])) ∷ [])) ∷ [])) ∷ []))

ends_well_1-calls : calls_of (shown ends_well_1) ≡ (C.Constant 9 (T.UInt 8) ∷ [])
unfolding
    ends_well_1 expr row_of plan_of call_to turns typing literal_bits rounded reduced value_of
    bits_up_to int_wrap
ends_well_1-calls = refl

ends_well_1-end : end_of (shown ends_well_1) ≡ Ok tt
unfolding
    ends_well_1 expr row_of plan_of call_to turns typing literal_bits rounded reduced value_of
    bits_up_to int_wrap
ends_well_1-end = refl

-- class K extends Kernel { K(KernelParameters p) { super(p); int a = b; } }
unknown_name_1 : Tree
unknown_name_1 =
    (node N.Class (codes "K") 0 74 (
    (node N.Ctor (codes "K") 26 72 (
    (node N.Param (codes "p") 28 46 ((leaf N.Plain (codes "KernelParameters") 28 44) ∷ [])) ∷
    (node N.Block [] 48 72 (
    (node N.Local (codes "a") 60 70 (
    (leaf N.Plain (codes "int") 60 63) ∷
    (leaf N.Name (codes "b") 68 69) ∷ [])) ∷ [])) ∷ [])) ∷ []))

unknown_name_1-calls : calls_of (shown unknown_name_1) ≡ []
unfolding
    unknown_name_1 expr row_of plan_of call_to turns typing literal_bits rounded reduced value_of
    bits_up_to int_wrap
unknown_name_1-calls = refl

unknown_name_1-end : end_of (shown unknown_name_1) ≡ Err (E.UnknownName 68)
unfolding
    unknown_name_1 expr row_of plan_of call_to turns typing literal_bits rounded reduced value_of
    bits_up_to int_wrap
unknown_name_1-end = refl

-- class K extends Kernel { K(KernelParameters p) { super(p); b = 1; } }
unknown_name_2 : Tree
unknown_name_2 =
    (node N.Class (codes "K") 0 70 (
    (node N.Ctor (codes "K") 26 68 (
    (node N.Param (codes "p") 28 46 ((leaf N.Plain (codes "KernelParameters") 28 44) ∷ [])) ∷
    (node N.Block [] 48 68 (
    (node N.Set (codes "=") 60 65 (
    (leaf N.Name (codes "b") 60 61) ∷
    (leaf N.Whole (codes "1") 64 65) ∷ [])) ∷ [])) ∷ [])) ∷ []))

unknown_name_2-calls : calls_of (shown unknown_name_2) ≡ []
unfolding
    unknown_name_2 expr row_of plan_of call_to turns typing literal_bits rounded reduced value_of
    bits_up_to int_wrap
unknown_name_2-calls = refl

unknown_name_2-end : end_of (shown unknown_name_2) ≡ Err (E.UnknownName 60)
unfolding
    unknown_name_2 expr row_of plan_of call_to turns typing literal_bits rounded reduced value_of
    bits_up_to int_wrap
unknown_name_2-end = refl

-- class K extends Kernel { K(KernelParameters p) { super(p); f(1); } }
unknown_name_3 : Tree
unknown_name_3 =
    (node N.Class (codes "K") 0 69 (
    (node N.Ctor (codes "K") 26 67 (
    (node N.Param (codes "p") 28 46 ((leaf N.Plain (codes "KernelParameters") 28 44) ∷ [])) ∷
    (node N.Block [] 48 67 (
    (node N.Run [] 60 64 (
    (node N.Call (codes "f") 60 64 (
    (leaf N.Whole (codes "1") 62 63) ∷ [])) ∷ [])) ∷ [])) ∷ [])) ∷ []))

unknown_name_3-calls : calls_of (shown unknown_name_3) ≡ []
unfolding
    unknown_name_3 expr row_of plan_of call_to turns typing literal_bits rounded reduced value_of
    bits_up_to int_wrap
unknown_name_3-calls = refl

unknown_name_3-end : end_of (shown unknown_name_3) ≡ Err (E.UnknownName 60)
unfolding
    unknown_name_3 expr row_of plan_of call_to turns typing literal_bits rounded reduced value_of
    bits_up_to int_wrap
unknown_name_3-end = refl

-- class K extends Kernel { void f() { } K(KernelParameters p) { super(p); f(1); } }
unknown_name_4 : Tree
unknown_name_4 =
    (node N.Class (codes "K") 0 81 (
    (node N.Method (codes "f") 25 37 (
    (leaf N.Plain (codes "void") 25 29) ∷
    (leaf N.Block [] 34 37) ∷ [])) ∷
    (node N.Ctor (codes "K") 38 79 (
    (node N.Param (codes "p") 40 58 ((leaf N.Plain (codes "KernelParameters") 40 56) ∷ [])) ∷
    (node N.Block [] 60 79 (
    (node N.Run [] 72 76 (
    (node N.Call (codes "f") 72 76 (
    (leaf N.Whole (codes "1") 74 75) ∷ [])) ∷ [])) ∷ [])) ∷ [])) ∷ []))

unknown_name_4-calls : calls_of (shown unknown_name_4) ≡ []
unfolding
    unknown_name_4 expr row_of plan_of call_to turns typing literal_bits rounded reduced value_of
    bits_up_to int_wrap
unknown_name_4-calls = refl

unknown_name_4-end : end_of (shown unknown_name_4) ≡ Err (E.UnknownName 72)
unfolding
    unknown_name_4 expr row_of plan_of call_to turns typing literal_bits rounded reduced value_of
    bits_up_to int_wrap
unknown_name_4-end = refl

-- class K extends Kernel { K(KernelParameters p) { super(p); io.inputs("x", dfeUInt(8)); } }
unknown_name_5 : Tree
unknown_name_5 =
    (node N.Class (codes "K") 0 91 (
    (node N.Ctor (codes "K") 26 89 (
    (node N.Param (codes "p") 28 46 ((leaf N.Plain (codes "KernelParameters") 28 44) ∷ [])) ∷
    (node N.Block [] 48 89 (
    (node N.Run [] 60 86 (
    (node N.DotCall (codes "inputs") 60 86 (
    (leaf N.Name (codes "io") 60 62) ∷
    (leaf N.Str (quoted_word (codes "x")) 70 73) ∷
    (node N.Call (codes "dfeUInt") 75 85 (
    (leaf N.Whole (codes "8") 83 84) ∷ [])) ∷ [])) ∷ [])) ∷ [])) ∷ [])) ∷ []))

unknown_name_5-calls : calls_of (shown unknown_name_5) ≡ []
unfolding
    unknown_name_5 expr row_of plan_of call_to turns typing literal_bits rounded reduced value_of
    bits_up_to int_wrap
unknown_name_5-calls = refl

unknown_name_5-end : end_of (shown unknown_name_5) ≡ Err (E.UnknownName 60)
unfolding
    unknown_name_5 expr row_of plan_of call_to turns typing literal_bits rounded reduced value_of
    bits_up_to int_wrap
unknown_name_5-end = refl

-- class K extends Kernel { K(KernelParameters p) { super(p); io.input("x"); } }
unknown_name_6 : Tree
unknown_name_6 =
    (node N.Class (codes "K") 0 78 (
    (node N.Ctor (codes "K") 26 76 (
    (node N.Param (codes "p") 28 46 ((leaf N.Plain (codes "KernelParameters") 28 44) ∷ [])) ∷
    (node N.Block [] 48 76 (
    (node N.Run [] 60 73 (
    (node N.DotCall (codes "input") 60 73 (
    (leaf N.Name (codes "io") 60 62) ∷
    (leaf N.Str (quoted_word (codes "x")) 69 72) ∷ [])) ∷ [])) ∷ [])) ∷ [])) ∷ []))

unknown_name_6-calls : calls_of (shown unknown_name_6) ≡ []
unfolding
    unknown_name_6 expr row_of plan_of call_to turns typing literal_bits rounded reduced value_of
    bits_up_to int_wrap
unknown_name_6-calls = refl

unknown_name_6-end : end_of (shown unknown_name_6) ≡ Err (E.UnknownName 60)
unfolding
    unknown_name_6 expr row_of plan_of call_to turns typing literal_bits rounded reduced value_of
    bits_up_to int_wrap
unknown_name_6-end = refl

-- class K extends Kernel { K(KernelParameters p) { super(p); foo.bar(1); } }
unknown_name_7 : Tree
unknown_name_7 =
    (node N.Class (codes "K") 0 75 (
    (node N.Ctor (codes "K") 26 73 (
    (node N.Param (codes "p") 28 46 ((leaf N.Plain (codes "KernelParameters") 28 44) ∷ [])) ∷
    (node N.Block [] 48 73 (
    (node N.Run [] 60 70 (
    (node N.DotCall (codes "bar") 60 70 (
    (leaf N.Name (codes "foo") 60 63) ∷
    (leaf N.Whole (codes "1") 68 69) ∷ [])) ∷ [])) ∷ [])) ∷ [])) ∷ []))

unknown_name_7-calls : calls_of (shown unknown_name_7) ≡ []
unfolding
    unknown_name_7 expr row_of plan_of call_to turns typing literal_bits rounded reduced value_of
    bits_up_to int_wrap
unknown_name_7-calls = refl

unknown_name_7-end : end_of (shown unknown_name_7) ≡ Err (E.UnknownName 60)
unfolding
    unknown_name_7 expr row_of plan_of call_to turns typing literal_bits rounded reduced value_of
    bits_up_to int_wrap
unknown_name_7-end = refl

-- class K extends Kernel { K(KernelParameters p) { super(p); dfeUInt(); } }
unknown_name_8 : Tree
unknown_name_8 =
    (node N.Class (codes "K") 0 74 (
    (node N.Ctor (codes "K") 26 72 (
    (node N.Param (codes "p") 28 46 ((leaf N.Plain (codes "KernelParameters") 28 44) ∷ [])) ∷
    (node N.Block [] 48 72 (
    (node N.Run [] 60 69 ((leaf N.Call (codes "dfeUInt") 60 69) ∷ [])) ∷ [])) ∷ [])) ∷ []))

unknown_name_8-calls : calls_of (shown unknown_name_8) ≡ []
unfolding
    unknown_name_8 expr row_of plan_of call_to turns typing literal_bits rounded reduced value_of
    bits_up_to int_wrap
unknown_name_8-calls = refl

unknown_name_8-end : end_of (shown unknown_name_8) ≡ Err (E.UnknownName 60)
unfolding
    unknown_name_8 expr row_of plan_of call_to turns typing literal_bits rounded reduced value_of
    bits_up_to int_wrap
unknown_name_8-end = refl

-- class K extends Kernel { K(KernelParameters p) { super(p); Foo x; } }
unknown_name_9 : Tree
unknown_name_9 =
    (node N.Class (codes "K") 0 70 (
    (node N.Ctor (codes "K") 26 68 (
    (node N.Param (codes "p") 28 46 ((leaf N.Plain (codes "KernelParameters") 28 44) ∷ [])) ∷
    (node N.Block [] 48 68 (
    (node N.Local (codes "x") 60 66 (
    (leaf N.Plain (codes "Foo") 60 63) ∷ [])) ∷ [])) ∷ [])) ∷ []))

unknown_name_9-calls : calls_of (shown unknown_name_9) ≡ []
unfolding
    unknown_name_9 expr row_of plan_of call_to turns typing literal_bits rounded reduced value_of
    bits_up_to int_wrap
unknown_name_9-calls = refl

unknown_name_9-end : end_of (shown unknown_name_9) ≡ Err (E.UnknownName 60)
unfolding
    unknown_name_9 expr row_of plan_of call_to turns typing literal_bits rounded reduced value_of
    bits_up_to int_wrap
unknown_name_9-end = refl

-- class K extends Kernel { K(KernelParameters p) { super(p); final Foo x; } }
unknown_name_10 : Tree
unknown_name_10 =
    (node N.Class (codes "K") 0 76 (
    (node N.Ctor (codes "K") 26 74 (
    (node N.Param (codes "p") 28 46 ((leaf N.Plain (codes "KernelParameters") 28 44) ∷ [])) ∷
    (node N.Block [] 48 74 (
    (node N.Local (codes "x") 60 72 (
    (leaf N.Plain (codes "Foo") 66 69) ∷ [])) ∷ [])) ∷ [])) ∷ []))

unknown_name_10-calls : calls_of (shown unknown_name_10) ≡ []
unfolding
    unknown_name_10 expr row_of plan_of call_to turns typing literal_bits rounded reduced value_of
    bits_up_to int_wrap
unknown_name_10-calls = refl

unknown_name_10-end : end_of (shown unknown_name_10) ≡ Err (E.UnknownName 66)
unfolding
    unknown_name_10 expr row_of plan_of call_to turns typing literal_bits rounded reduced value_of
    bits_up_to int_wrap
unknown_name_10-end = refl

-- class K extends Kernel { K(KernelParameters p) { super(p); int x; x.foo(); } }
unknown_name_11 : Tree
unknown_name_11 =
    (node N.Class (codes "K") 0 79 (
    (node N.Ctor (codes "K") 26 77 (
    (node N.Param (codes "p") 28 46 ((leaf N.Plain (codes "KernelParameters") 28 44) ∷ [])) ∷
    (node N.Block [] 48 77 (
    (node N.Local (codes "x") 60 66 ((leaf N.Plain (codes "int") 60 63) ∷ [])) ∷
    (node N.Run [] 67 74 (
    (node N.DotCall (codes "foo") 67 74 (
    (leaf N.Name (codes "x") 67 68) ∷ [])) ∷ [])) ∷ [])) ∷ [])) ∷ []))

unknown_name_11-calls : calls_of (shown unknown_name_11) ≡ []
unfolding
    unknown_name_11 expr row_of plan_of call_to turns typing literal_bits rounded reduced value_of
    bits_up_to int_wrap
unknown_name_11-calls = refl

unknown_name_11-end : end_of (shown unknown_name_11) ≡ Err (E.UnknownName 67)
unfolding
    unknown_name_11 expr row_of plan_of call_to turns typing literal_bits rounded reduced value_of
    bits_up_to int_wrap
unknown_name_11-end = refl

-- class K extends Kernel { K(KernelParameters p) { super(p); x(1); } }
unknown_name_12 : Tree
unknown_name_12 =
    (node N.Class (codes "K") 0 69 (
    (node N.Ctor (codes "K") 26 67 (
    (node N.Param (codes "p") 28 46 ((leaf N.Plain (codes "KernelParameters") 28 44) ∷ [])) ∷
    (node N.Block [] 48 67 (
    (node N.Run [] 60 64 (
    (node N.Call (codes "x") 60 64 (
    (leaf N.Whole (codes "1") 62 63) ∷ [])) ∷ [])) ∷ [])) ∷ [])) ∷ []))

unknown_name_12-calls : calls_of (shown unknown_name_12) ≡ []
unfolding
    unknown_name_12 expr row_of plan_of call_to turns typing literal_bits rounded reduced value_of
    bits_up_to int_wrap
unknown_name_12-calls = refl

unknown_name_12-end : end_of (shown unknown_name_12) ≡ Err (E.UnknownName 60)
unfolding
    unknown_name_12 expr row_of plan_of call_to turns typing literal_bits rounded reduced value_of
    bits_up_to int_wrap
unknown_name_12-end = refl

-- class K extends Kernel { K(KernelParameters p) { super(p); control.mux(); } }
unknown_name_13 : Tree
unknown_name_13 =
    (node N.Class (codes "K") 0 78 (
    (node N.Ctor (codes "K") 26 76 (
    (node N.Param (codes "p") 28 46 ((leaf N.Plain (codes "KernelParameters") 28 44) ∷ [])) ∷
    (node N.Block [] 48 76 (
    (node N.Run [] 60 73 (
    (node N.DotCall (codes "mux") 60 73 (
    (leaf N.Name (codes "control") 60 67) ∷ [])) ∷ [])) ∷ [])) ∷ [])) ∷ []))

unknown_name_13-calls : calls_of (shown unknown_name_13) ≡ []
unfolding
    unknown_name_13 expr row_of plan_of call_to turns typing literal_bits rounded reduced value_of
    bits_up_to int_wrap
unknown_name_13-calls = refl

unknown_name_13-end : end_of (shown unknown_name_13) ≡ Err (E.UnknownName 60)
unfolding
    unknown_name_13 expr row_of plan_of call_to turns typing literal_bits rounded reduced value_of
    bits_up_to int_wrap
unknown_name_13-end = refl

-- class K extends Kernel { K(KernelParameters p) { super(p); dfeFix(1, 2, SignMode.SIGNED); } }
unknown_name_14 : Tree
unknown_name_14 =
    (node N.Class (codes "K") 0 94 (
    (node N.Ctor (codes "K") 26 92 (
    (node N.Param (codes "p") 28 46 ((leaf N.Plain (codes "KernelParameters") 28 44) ∷ [])) ∷
    (node N.Block [] 48 92 (
    (node N.Run [] 60 89 (
    (node N.Call (codes "dfeFix") 60 89 (
    (leaf N.Whole (codes "1") 67 68) ∷
    (leaf N.Whole (codes "2") 70 71) ∷
    (node N.Dot (codes "SIGNED") 73 88 (
    (leaf N.Name (codes "SignMode") 73 81) ∷ [])) ∷ [])) ∷ [])) ∷ [])) ∷ [])) ∷ []))

unknown_name_14-calls : calls_of (shown unknown_name_14) ≡ []
unfolding
    unknown_name_14 expr row_of plan_of call_to turns typing literal_bits rounded reduced value_of
    bits_up_to int_wrap
unknown_name_14-calls = refl

unknown_name_14-end : end_of (shown unknown_name_14) ≡ Err (E.UnknownName 73)
unfolding
    unknown_name_14 expr row_of plan_of call_to turns typing literal_bits rounded reduced value_of
    bits_up_to int_wrap
unknown_name_14-end = refl

-- class K extends Kernel { K(KernelParameters p) { super(p); new K(1); } }
unknown_name_15 : Tree
unknown_name_15 =
    (node N.Class (codes "K") 0 73 (
    (node N.Ctor (codes "K") 26 71 (
    (node N.Param (codes "p") 28 46 ((leaf N.Plain (codes "KernelParameters") 28 44) ∷ [])) ∷
    (node N.Block [] 48 71 (
    (node N.Run [] 60 68 (
    (node N.New (codes "K") 60 68 (
    (leaf N.Whole (codes "1") 66 67) ∷ [])) ∷ [])) ∷ [])) ∷ [])) ∷ []))

unknown_name_15-calls : calls_of (shown unknown_name_15) ≡ []
unfolding
    unknown_name_15 expr row_of plan_of call_to turns typing literal_bits rounded reduced value_of
    bits_up_to int_wrap
unknown_name_15-calls = refl

unknown_name_15-end : end_of (shown unknown_name_15) ≡ Err (E.UnknownName 60)
unfolding
    unknown_name_15 expr row_of plan_of call_to turns typing literal_bits rounded reduced value_of
    bits_up_to int_wrap
unknown_name_15-end = refl

-- class K extends Kernel { K(KernelParameters p) { super(p); if (false) { foo(); } } }
ends_well_2 : Tree
ends_well_2 =
    (node N.Class (codes "K") 0 85 (
    (node N.Ctor (codes "K") 26 83 (
    (node N.Param (codes "p") 28 46 ((leaf N.Plain (codes "KernelParameters") 28 44) ∷ [])) ∷
    (node N.Block [] 48 83 (
    (node N.If [] 60 81 (
    (leaf N.Name (codes "false") 64 69) ∷
    (node N.Block [] 71 81 (
    (node N.Run [] 73 78 (
    (leaf N.Call (codes "foo") 73 78) ∷ [])) ∷ [])) ∷ [])) ∷ [])) ∷ [])) ∷ []))

ends_well_2-calls : calls_of (shown ends_well_2) ≡ []
unfolding
    ends_well_2 expr row_of plan_of call_to turns typing literal_bits rounded reduced value_of
    bits_up_to int_wrap
ends_well_2-calls = refl

ends_well_2-end : end_of (shown ends_well_2) ≡ Ok tt
unfolding
    ends_well_2 expr row_of plan_of call_to turns typing literal_bits rounded reduced value_of
    bits_up_to int_wrap
ends_well_2-end = refl

-- class K extends Kernel { K(KernelParameters p) { super(p); addKernel(1); } }
unknown_name_16 : Tree
unknown_name_16 =
    (node N.Class (codes "K") 0 77 (
    (node N.Ctor (codes "K") 26 75 (
    (node N.Param (codes "p") 28 46 ((leaf N.Plain (codes "KernelParameters") 28 44) ∷ [])) ∷
    (node N.Block [] 48 75 (
    (node N.Run [] 60 72 (
    (node N.Call (codes "addKernel") 60 72 (
    (leaf N.Whole (codes "1") 70 71) ∷ [])) ∷ [])) ∷ [])) ∷ [])) ∷ []))

unknown_name_16-calls : calls_of (shown unknown_name_16) ≡ []
unfolding
    unknown_name_16 expr row_of plan_of call_to turns typing literal_bits rounded reduced value_of
    bits_up_to int_wrap
unknown_name_16-calls = refl

unknown_name_16-end : end_of (shown unknown_name_16) ≡ Err (E.UnknownName 60)
unfolding
    unknown_name_16 expr row_of plan_of call_to turns typing literal_bits rounded reduced value_of
    bits_up_to int_wrap
unknown_name_16-end = refl

-- class K extends Kernel { K(KernelParameters p) { super(p); DFEVar x = io.input("x", dfeUInt(8));
-- x.getInput("a"); } }
unknown_name_17 : Tree
unknown_name_17 =
    (node N.Class (codes "K") 0 118 (
    (node N.Ctor (codes "K") 26 116 (
    (node N.Param (codes "p") 28 46 ((leaf N.Plain (codes "KernelParameters") 28 44) ∷ [])) ∷
    (node N.Block [] 48 116 (
    (node N.Local (codes "x") 60 97 (
    (leaf N.Plain (codes "DFEVar") 60 66) ∷
    (node N.DotCall (codes "input") 71 96 (
    (leaf N.Name (codes "io") 71 73) ∷
    (leaf N.Str (quoted_word (codes "x")) 80 83) ∷
    (node N.Call (codes "dfeUInt") 85 95 (
    (leaf N.Whole (codes "8") 93 94) ∷ [])) ∷ [])) ∷ [])) ∷
    (node N.Run [] 98 113 (
    (node N.DotCall (codes "getInput") 98 113 (
    (leaf N.Name (codes "x") 98 99) ∷
    (leaf N.Str (quoted_word (codes "a")) 109 112) ∷ [])) ∷ [])) ∷ [])) ∷ [])) ∷ []))

unknown_name_17-calls : calls_of (shown unknown_name_17)
    ≡ (C.Input (codes "x") (T.UInt 8) None ∷ [])
unfolding
    unknown_name_17 expr row_of plan_of call_to turns typing literal_bits rounded reduced value_of
    bits_up_to int_wrap
unknown_name_17-calls = refl

unknown_name_17-end : end_of (shown unknown_name_17) ≡ Err (E.UnknownName 98)
unfolding
    unknown_name_17 expr row_of plan_of call_to turns typing literal_bits rounded reduced value_of
    bits_up_to int_wrap
unknown_name_17-end = refl

-- class K extends Kernel { K(KernelParameters p, int n) { super(p); } }
unknown_name_18 : Tree
unknown_name_18 =
    (node N.Class (codes "K") 0 71 (
    (node N.Ctor (codes "K") 26 69 (
    (node N.Param (codes "p") 28 46 ((leaf N.Plain (codes "KernelParameters") 28 44) ∷ [])) ∷
    (node N.Param (codes "n") 48 53 ((leaf N.Plain (codes "int") 48 51) ∷ [])) ∷
    (leaf N.Block [] 55 69) ∷ [])) ∷ []))

unknown_name_18-calls : calls_of (shown unknown_name_18) ≡ []
unfolding
    unknown_name_18 expr row_of plan_of call_to turns typing literal_bits rounded reduced value_of
    bits_up_to int_wrap
unknown_name_18-calls = refl

unknown_name_18-end : end_of (shown unknown_name_18) ≡ Err (E.UnknownName 26)
unfolding
    unknown_name_18 expr row_of plan_of call_to turns typing literal_bits rounded reduced value_of
    bits_up_to int_wrap
unknown_name_18-end = refl

-- class K extends Kernel { public K(KernelParameters p, int n) { super(p); } }
unknown_name_19 : Tree
unknown_name_19 =
    (node N.Class (codes "K") 0 77 (
    (node N.Ctor (codes "K") 25 75 (
    (node N.Param (codes "p") 34 52 ((leaf N.Plain (codes "KernelParameters") 34 50) ∷ [])) ∷
    (node N.Param (codes "n") 54 59 ((leaf N.Plain (codes "int") 54 57) ∷ [])) ∷
    (leaf N.Block [] 61 75) ∷ [])) ∷ []))

unknown_name_19-calls : calls_of (shown unknown_name_19) ≡ []
unfolding
    unknown_name_19 expr row_of plan_of call_to turns typing literal_bits rounded reduced value_of
    bits_up_to int_wrap
unknown_name_19-calls = refl

unknown_name_19-end : end_of (shown unknown_name_19) ≡ Err (E.UnknownName 25)
unfolding
    unknown_name_19 expr row_of plan_of call_to turns typing literal_bits rounded reduced value_of
    bits_up_to int_wrap
unknown_name_19-end = refl
