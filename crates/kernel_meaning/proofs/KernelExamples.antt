-- What the runs of worked kernels do, as an independent model says.
use Rattle.std.proofs.Common.{◌≡◌, refl, pos, negsuc, [], ◌∷◌, true, Some, None, Ok}
use Rattle.std.specs.Prelude.{codes}
use Rattle.mx_bits.specs.declared.op.Op.TheVariants as O
use Rattle.counter_chains.specs.Digits.{bits_up_to}
use Rattle.fix_arith.specs.declared.types.RoundMode.TheVariants as M
use Rattle.fix_arith.specs.declared.types.StreamType.TheVariants as T
use Rattle.fix_arith.specs.Rounding.{rounded}
use Rattle.fix_arith.specs.Values.{reduced, value_of}
use Rattle.std.specs.Int.{int_wrap}
use Rattle.kernel_calls.specs.declared.call.Call.TheVariants as C
use Rattle.kernel_meaning.specs.Answer.{calls_of, end_of}
use Rattle.kernel_meaning.specs.Typing.{typing, literal_bits}
use Rattle.kernel_meaning.specs.Rows.{row_of}
use Rattle.kernel_meaning.specs.Ways.{turns}
use Rattle.kernel_meaning.specs.Plans.{plan_of}
use Rattle.maxj_syntax.specs.Tree.{Tree}
use Rattle.maxj_syntax.specs.declared.tree.NodeKind.TheVariants as N
use Rattle.kernel_meaning.specs.Run.{expr, call_to}
use Rattle.kernel_meaning.specs.Ways.{turns}
use Rattle.kernel_meaning.proofs.Sources.{node, leaf, quoted_word, shown}

-- class Double extends Kernel { Double(KernelParameters p) { super(p); DFEVar x = io.input("x",
-- dfeUInt(8)); io.output("y", x + x, dfeUInt(8)); } }
double : Tree
double =
    (node N.Class (codes "Double") 0 161 (
    (node N.Ctor (codes "Double") 32 159 (
    (node N.Param (codes "p") 39 57 ((leaf N.Plain (codes "KernelParameters") 39 55) ∷ [])) ∷
    (node N.Block [] 59 159 (
    (node N.Local (codes "x") 79 116 (
    (leaf N.Plain (codes "DFEVar") 79 85) ∷
    (node N.DotCall (codes "input") 90 115 (
    (leaf N.Name (codes "io") 90 92) ∷
    (leaf N.Str (quoted_word (codes "x")) 99 102) ∷
    (node N.Call (codes "dfeUInt") 104 114 (
    (leaf N.Whole (codes "8") 112 113) ∷ [])) ∷ [])) ∷ [])) ∷
    (node N.Run [] 121 154 (
    (node N.DotCall (codes "output") 121 154 (
    (leaf N.Name (codes "io") 121 123) ∷
    (leaf N.Str (quoted_word (codes "y")) 131 134) ∷
    (node N.Binary (codes "+") 136 141 (
    (leaf N.Name (codes "x") 136 137) ∷
    (leaf N.Name (codes "x") 140 141) ∷ [])) ∷
    (node N.Call (codes "dfeUInt") 143 153 (
    (leaf N.Whole (codes "8") 151 152) ∷ [])) ∷ [])) ∷ [])) ∷ [])) ∷ [])) ∷ []))

double-calls : calls_of (shown double)
    ≡ (C.Input (codes "x") (T.UInt 8) None
    ∷ C.Operation O.Add M.ToNearEven 0 (0 ∷ 0 ∷ []) (T.UInt 8)
    ∷ C.Output (codes "y") 1 None (T.UInt 8) ∷ [])
unfolding
    double expr row_of plan_of call_to turns typing literal_bits rounded reduced value_of
    bits_up_to int_wrap
double-calls = refl

double-end : end_of (shown double) ≡ Ok tt
unfolding
    double expr row_of plan_of call_to turns typing literal_bits rounded reduced value_of
    bits_up_to int_wrap
double-end = refl

-- class Zero extends Kernel { Zero(KernelParameters p) { super(p); DFEVar x = io.input("x",
-- dfeUInt(8)); io.output("y", x - x, dfeUInt(8)); } }
zero : Tree
zero =
    (node N.Class (codes "Zero") 0 157 (
    (node N.Ctor (codes "Zero") 30 155 (
    (node N.Param (codes "p") 35 53 ((leaf N.Plain (codes "KernelParameters") 35 51) ∷ [])) ∷
    (node N.Block [] 55 155 (
    (node N.Local (codes "x") 75 112 (
    (leaf N.Plain (codes "DFEVar") 75 81) ∷
    (node N.DotCall (codes "input") 86 111 (
    (leaf N.Name (codes "io") 86 88) ∷
    (leaf N.Str (quoted_word (codes "x")) 95 98) ∷
    (node N.Call (codes "dfeUInt") 100 110 (
    (leaf N.Whole (codes "8") 108 109) ∷ [])) ∷ [])) ∷ [])) ∷
    (node N.Run [] 117 150 (
    (node N.DotCall (codes "output") 117 150 (
    (leaf N.Name (codes "io") 117 119) ∷
    (leaf N.Str (quoted_word (codes "y")) 127 130) ∷
    (node N.Binary (codes "-") 132 137 (
    (leaf N.Name (codes "x") 132 133) ∷
    (leaf N.Name (codes "x") 136 137) ∷ [])) ∷
    (node N.Call (codes "dfeUInt") 139 149 (
    (leaf N.Whole (codes "8") 147 148) ∷ [])) ∷ [])) ∷ [])) ∷ [])) ∷ [])) ∷ []))

zero-calls : calls_of (shown zero) ≡ (C.Input (codes "x") (T.UInt 8) None
    ∷ C.Operation O.Sub M.ToNearEven 0 (0 ∷ 0 ∷ []) (T.UInt 8)
    ∷ C.Output (codes "y") 1 None (T.UInt 8) ∷ [])
unfolding
    zero expr row_of plan_of call_to turns typing literal_bits rounded reduced value_of
    bits_up_to int_wrap
zero-calls = refl

zero-end : end_of (shown zero) ≡ Ok tt
unfolding
    zero expr row_of plan_of call_to turns typing literal_bits rounded reduced value_of
    bits_up_to int_wrap
zero-end = refl

-- class Sum3 extends Kernel { Sum3(KernelParameters p) { super(p); DFEVar x = io.input("x",
-- dfeUInt(32)); io.output("y", stream.offset(x, -1) + x + stream.offset(x, 1), dfeUInt(32)); } }
sum3 : Tree
sum3 =
    (node N.Class (codes "Sum3") 0 200 (
    (node N.Ctor (codes "Sum3") 30 198 (
    (node N.Param (codes "p") 35 53 ((leaf N.Plain (codes "KernelParameters") 35 51) ∷ [])) ∷
    (node N.Block [] 55 198 (
    (node N.Local (codes "x") 75 113 (
    (leaf N.Plain (codes "DFEVar") 75 81) ∷
    (node N.DotCall (codes "input") 86 112 (
    (leaf N.Name (codes "io") 86 88) ∷
    (leaf N.Str (quoted_word (codes "x")) 95 98) ∷
    (node N.Call (codes "dfeUInt") 100 111 (
    (leaf N.Whole (codes "32") 108 110) ∷ [])) ∷ [])) ∷ [])) ∷
    (node N.Run [] 118 193 (
    (node N.DotCall (codes "output") 118 193 (
    (leaf N.Name (codes "io") 118 120) ∷
    (leaf N.Str (quoted_word (codes "y")) 128 131) ∷
    (node N.Binary (codes "+") 133 179 (
    (node N.Binary (codes "+") 133 157 (
    (node N.DotCall (codes "offset") 133 153 (
    (leaf N.Name (codes "stream") 133 139) ∷
    (leaf N.Name (codes "x") 147 148) ∷
    (node N.Prefix (codes "-") 150 152 (
    (leaf N.Whole (codes "1") 151 152) ∷ [])) ∷ [])) ∷
    (leaf N.Name (codes "x") 156 157) ∷ [])) ∷
    (node N.DotCall (codes "offset") 160 179 (
    (leaf N.Name (codes "stream") 160 166) ∷
    (leaf N.Name (codes "x") 174 175) ∷
    (leaf N.Whole (codes "1") 177 178) ∷ [])) ∷ [])) ∷
    (node N.Call (codes "dfeUInt") 181 192 (
    (leaf N.Whole (codes "32") 189 191) ∷ [])) ∷ [])) ∷ [])) ∷ [])) ∷ [])) ∷ []))

sum3-calls : calls_of (shown sum3) ≡ (C.Input (codes "x") (T.UInt 32) None
    ∷ C.Offset 0 (negsuc 0) (T.UInt 32) ∷ C.Operation O.Add M.ToNearEven 0 (1 ∷ 0 ∷ []) (T.UInt 32)
    ∷ C.Offset 0 (pos 1) (T.UInt 32) ∷ C.Operation O.Add M.ToNearEven 0 (2 ∷ 3 ∷ []) (T.UInt 32)
    ∷ C.Output (codes "y") 4 None (T.UInt 32) ∷ [])
unfolding
    sum3 expr row_of plan_of call_to turns typing literal_bits rounded reduced value_of
    bits_up_to int_wrap
sum3-calls = refl

sum3-end : end_of (shown sum3) ≡ Ok tt
unfolding
    sum3 expr row_of plan_of call_to turns typing literal_bits rounded reduced value_of
    bits_up_to int_wrap
sum3-end = refl

-- class Square extends Kernel { Square(KernelParameters p) { super(p); DFEVar x = io.input("x",
-- dfeUInt(8)); DFEVar q = x * x; io.output("y", x.cast(dfeUInt(64)) + q.cast(dfeUInt(64)),
-- dfeUInt(64)); } }
square : Tree
square =
    (node N.Class (codes "Square") 0 220 (
    (node N.Ctor (codes "Square") 32 218 (
    (node N.Param (codes "p") 39 57 ((leaf N.Plain (codes "KernelParameters") 39 55) ∷ [])) ∷
    (node N.Block [] 59 218 (
    (node N.Local (codes "x") 79 116 (
    (leaf N.Plain (codes "DFEVar") 79 85) ∷
    (node N.DotCall (codes "input") 90 115 (
    (leaf N.Name (codes "io") 90 92) ∷
    (leaf N.Str (quoted_word (codes "x")) 99 102) ∷
    (node N.Call (codes "dfeUInt") 104 114 (
    (leaf N.Whole (codes "8") 112 113) ∷ [])) ∷ [])) ∷ [])) ∷
    (node N.Local (codes "q") 121 138 (
    (leaf N.Plain (codes "DFEVar") 121 127) ∷
    (node N.Binary (codes "*") 132 137 (
    (leaf N.Name (codes "x") 132 133) ∷
    (leaf N.Name (codes "x") 136 137) ∷ [])) ∷ [])) ∷
    (node N.Run [] 143 213 (
    (node N.DotCall (codes "output") 143 213 (
    (leaf N.Name (codes "io") 143 145) ∷
    (leaf N.Str (quoted_word (codes "y")) 153 156) ∷
    (node N.Binary (codes "+") 158 199 (
    (node N.DotCall (codes "cast") 158 177 (
    (leaf N.Name (codes "x") 158 159) ∷
    (node N.Call (codes "dfeUInt") 165 176 (
    (leaf N.Whole (codes "64") 173 175) ∷ [])) ∷ [])) ∷
    (node N.DotCall (codes "cast") 180 199 (
    (leaf N.Name (codes "q") 180 181) ∷
    (node N.Call (codes "dfeUInt") 187 198 (
    (leaf N.Whole (codes "64") 195 197) ∷ [])) ∷ [])) ∷ [])) ∷
    (node N.Call (codes "dfeUInt") 201 212 (
    (leaf N.Whole (codes "64") 209 211) ∷ [])) ∷ [])) ∷ [])) ∷ [])) ∷ [])) ∷ []))

square-calls : calls_of (shown square)
    ≡ (C.Input (codes "x") (T.UInt 8) None
    ∷ C.Operation O.Mul M.ToNearEven 0 (0 ∷ 0 ∷ []) (T.UInt 8)
    ∷ C.Operation O.Cast M.ToNearEven 0 (0 ∷ []) (T.UInt 64)
    ∷ C.Operation O.Cast M.ToNearEven 0 (1 ∷ []) (T.UInt 64)
    ∷ C.Operation O.Add M.ToNearEven 0 (2 ∷ 3 ∷ []) (T.UInt 64)
    ∷ C.Output (codes "y") 4 None (T.UInt 64) ∷ [])
unfolding
    square expr row_of plan_of call_to turns typing literal_bits rounded reduced value_of
    bits_up_to int_wrap
square-calls = refl

square-end : end_of (shown square) ≡ Ok tt
unfolding
    square expr row_of plan_of call_to turns typing literal_bits rounded reduced value_of
    bits_up_to int_wrap
square-end = refl

-- class Self extends Kernel { Self(KernelParameters p) { super(p); DFEVar v =
-- dfeUInt(8).newInstance(this); v <== v; io.output("y", v, dfeUInt(8)); } }
self_loop : Tree
self_loop =
    (node N.Class (codes "Self") 0 169 (
    (node N.Ctor (codes "Self") 30 167 (
    (node N.Param (codes "p") 35 53 ((leaf N.Plain (codes "KernelParameters") 35 51) ∷ [])) ∷
    (node N.Block [] 55 167 (
    (node N.Local (codes "v") 75 115 (
    (leaf N.Plain (codes "DFEVar") 75 81) ∷
    (node N.DotCall (codes "newInstance") 86 114 (
    (node N.Call (codes "dfeUInt") 86 96 ((leaf N.Whole (codes "8") 94 95) ∷ [])) ∷
    (leaf N.Name (codes "this") 109 113) ∷ [])) ∷ [])) ∷
    (node N.Connect [] 120 127 (
    (leaf N.Name (codes "v") 120 121) ∷
    (leaf N.Name (codes "v") 126 127) ∷ [])) ∷
    (node N.Run [] 133 162 (
    (node N.DotCall (codes "output") 133 162 (
    (leaf N.Name (codes "io") 133 135) ∷
    (leaf N.Str (quoted_word (codes "y")) 143 146) ∷
    (leaf N.Name (codes "v") 148 149) ∷
    (node N.Call (codes "dfeUInt") 151 161 (
    (leaf N.Whole (codes "8") 159 160) ∷ [])) ∷ [])) ∷ [])) ∷ [])) ∷ [])) ∷ []))

self_loop-calls : calls_of (shown self_loop)
    ≡ (C.Feed (T.UInt 8) ∷ C.Connect 0 0 ∷ C.Output (codes "y") 0 None (T.UInt 8) ∷ [])
unfolding
    self_loop expr row_of plan_of call_to turns typing literal_bits rounded reduced value_of
    bits_up_to int_wrap
self_loop-calls = refl

self_loop-end : end_of (shown self_loop) ≡ Ok tt
unfolding
    self_loop expr row_of plan_of call_to turns typing literal_bits rounded reduced value_of
    bits_up_to int_wrap
self_loop-end = refl

-- class Next extends Kernel { Next(KernelParameters p) { super(p); DFEVar x = io.input("x",
-- dfeUInt(8)); io.output("y", stream.offset(x, 1), dfeUInt(8)); } }
next_word : Tree
next_word =
    (node N.Class (codes "Next") 0 167 (
    (node N.Ctor (codes "Next") 30 165 (
    (node N.Param (codes "p") 35 53 ((leaf N.Plain (codes "KernelParameters") 35 51) ∷ [])) ∷
    (node N.Block [] 55 165 (
    (node N.Local (codes "x") 75 112 (
    (leaf N.Plain (codes "DFEVar") 75 81) ∷
    (node N.DotCall (codes "input") 86 111 (
    (leaf N.Name (codes "io") 86 88) ∷
    (leaf N.Str (quoted_word (codes "x")) 95 98) ∷
    (node N.Call (codes "dfeUInt") 100 110 (
    (leaf N.Whole (codes "8") 108 109) ∷ [])) ∷ [])) ∷ [])) ∷
    (node N.Run [] 113 160 (
    (node N.DotCall (codes "output") 113 160 (
    (leaf N.Name (codes "io") 113 115) ∷
    (leaf N.Str (quoted_word (codes "y")) 123 126) ∷
    (node N.DotCall (codes "offset") 128 147 (
    (leaf N.Name (codes "stream") 128 134) ∷
    (leaf N.Name (codes "x") 142 143) ∷
    (leaf N.Whole (codes "1") 145 146) ∷ [])) ∷
    (node N.Call (codes "dfeUInt") 149 159 (
    (leaf N.Whole (codes "8") 157 158) ∷ [])) ∷ [])) ∷ [])) ∷ [])) ∷ [])) ∷ []))

next_word-calls : calls_of (shown next_word)
    ≡ (C.Input (codes "x") (T.UInt 8) None ∷ C.Offset 0 (pos 1) (T.UInt 8)
    ∷ C.Output (codes "y") 1 None (T.UInt 8) ∷ [])
unfolding
    next_word expr row_of plan_of call_to turns typing literal_bits rounded reduced value_of
    bits_up_to int_wrap
next_word-calls = refl

next_word-end : end_of (shown next_word) ≡ Ok tt
unfolding
    next_word expr row_of plan_of call_to turns typing literal_bits rounded reduced value_of
    bits_up_to int_wrap
next_word-end = refl

-- class Ties extends Kernel { Ties(KernelParameters p) { super(p); DFEType whole = dfeFix(4, 0,
-- SignMode.TWOSCOMPLEMENT); DFEVar x = io.input("x", dfeFix(4, 4, SignMode.TWOSCOMPLEMENT));
-- optimization.pushRoundingMode(RoundingMode.TRUNCATE); io.output("a", x.cast(whole), whole);
-- optimization.popRoundingMode(); optimization.pushRoundingMode(RoundingMode.TONEAR);
-- io.output("b", x.cast(whole), whole); optimization.popRoundingMode(); io.output("c",
-- x.cast(whole), whole); } }
ties : Tree
ties =
    (node N.Class (codes "Ties") 0 516 (
    (node N.Ctor (codes "Ties") 30 514 (
    (node N.Param (codes "p") 35 53 ((leaf N.Plain (codes "KernelParameters") 35 51) ∷ [])) ∷
    (node N.Block [] 55 514 (
    (node N.Local (codes "whole") 75 129 (
    (leaf N.Plain (codes "DFEType") 75 82) ∷
    (node N.Call (codes "dfeFix") 91 128 (
    (leaf N.Whole (codes "4") 98 99) ∷
    (leaf N.Whole (codes "0") 101 102) ∷
    (node N.Dot (codes "TWOSCOMPLEMENT") 104 127 (
    (leaf N.Name (codes "SignMode") 104 112) ∷ [])) ∷ [])) ∷ [])) ∷
    (node N.Local (codes "x") 134 198 (
    (leaf N.Plain (codes "DFEVar") 134 140) ∷
    (node N.DotCall (codes "input") 145 197 (
    (leaf N.Name (codes "io") 145 147) ∷
    (leaf N.Str (quoted_word (codes "x")) 154 157) ∷
    (node N.Call (codes "dfeFix") 159 196 (
    (leaf N.Whole (codes "4") 166 167) ∷
    (leaf N.Whole (codes "4") 169 170) ∷
    (node N.Dot (codes "TWOSCOMPLEMENT") 172 195 (
    (leaf N.Name (codes "SignMode") 172 180) ∷ [])) ∷ [])) ∷ [])) ∷ [])) ∷
    (node N.Run [] 203 255 (
    (node N.DotCall (codes "pushRoundingMode") 203 255 (
    (leaf N.Name (codes "optimization") 203 215) ∷
    (node N.Dot (codes "TRUNCATE") 233 254 (
    (leaf N.Name (codes "RoundingMode") 233 245) ∷ [])) ∷ [])) ∷ [])) ∷
    (node N.Run [] 261 297 (
    (node N.DotCall (codes "output") 261 297 (
    (leaf N.Name (codes "io") 261 263) ∷
    (leaf N.Str (quoted_word (codes "a")) 271 274) ∷
    (node N.DotCall (codes "cast") 276 289 (
    (leaf N.Name (codes "x") 276 277) ∷
    (leaf N.Name (codes "whole") 283 288) ∷ [])) ∷
    (leaf N.Name (codes "whole") 291 296) ∷ [])) ∷ [])) ∷
    (node N.Run [] 303 333 (
    (node N.DotCall (codes "popRoundingMode") 303 333 (
    (leaf N.Name (codes "optimization") 303 315) ∷ [])) ∷ [])) ∷
    (node N.Run [] 339 389 (
    (node N.DotCall (codes "pushRoundingMode") 339 389 (
    (leaf N.Name (codes "optimization") 339 351) ∷
    (node N.Dot (codes "TONEAR") 369 388 (
    (leaf N.Name (codes "RoundingMode") 369 381) ∷ [])) ∷ [])) ∷ [])) ∷
    (node N.Run [] 395 431 (
    (node N.DotCall (codes "output") 395 431 (
    (leaf N.Name (codes "io") 395 397) ∷
    (leaf N.Str (quoted_word (codes "b")) 405 408) ∷
    (node N.DotCall (codes "cast") 410 423 (
    (leaf N.Name (codes "x") 410 411) ∷
    (leaf N.Name (codes "whole") 417 422) ∷ [])) ∷
    (leaf N.Name (codes "whole") 425 430) ∷ [])) ∷ [])) ∷
    (node N.Run [] 437 467 (
    (node N.DotCall (codes "popRoundingMode") 437 467 (
    (leaf N.Name (codes "optimization") 437 449) ∷ [])) ∷ [])) ∷
    (node N.Run [] 473 509 (
    (node N.DotCall (codes "output") 473 509 (
    (leaf N.Name (codes "io") 473 475) ∷
    (leaf N.Str (quoted_word (codes "c")) 483 486) ∷
    (node N.DotCall (codes "cast") 488 501 (
    (leaf N.Name (codes "x") 488 489) ∷
    (leaf N.Name (codes "whole") 495 500) ∷ [])) ∷
    (leaf N.Name (codes "whole") 503 508) ∷ [])) ∷ [])) ∷ [])) ∷ [])) ∷ []))

ties-calls : calls_of (shown ties) ≡ (C.Input (codes "x") (T.Fix 4 4 true) None
    ∷ C.Operation O.Round M.Truncate 0 (0 ∷ []) (T.Fix 4 0 true)
    ∷ C.Output (codes "a") 1 None (T.Fix 4 0 true)
    ∷ C.Operation O.Round M.ToNear 0 (0 ∷ []) (T.Fix 4 0 true)
    ∷ C.Output (codes "b") 3 None (T.Fix 4 0 true)
    ∷ C.Operation O.Round M.ToNearEven 0 (0 ∷ []) (T.Fix 4 0 true)
    ∷ C.Output (codes "c") 5 None (T.Fix 4 0 true) ∷ [])
unfolding
    ties expr row_of plan_of call_to turns typing literal_bits rounded reduced value_of
    bits_up_to int_wrap
ties-calls = refl

ties-end : end_of (shown ties) ≡ Ok tt
unfolding
    ties expr row_of plan_of call_to turns typing literal_bits rounded reduced value_of
    bits_up_to int_wrap
ties-end = refl

-- class Long extends Kernel { Long(KernelParameters p) { super(p); DFEVar x = io.input("x",
-- dfeUInt(8)); io.output("y", x + stream.offset(x, -40000), dfeUInt(8)); } }
long_offset : Tree
long_offset =
    (node N.Class (codes "Long") 0 176 (
    (node N.Ctor (codes "Long") 30 174 (
    (node N.Param (codes "p") 35 53 ((leaf N.Plain (codes "KernelParameters") 35 51) ∷ [])) ∷
    (node N.Block [] 55 174 (
    (node N.Local (codes "x") 75 112 (
    (leaf N.Plain (codes "DFEVar") 75 81) ∷
    (node N.DotCall (codes "input") 86 111 (
    (leaf N.Name (codes "io") 86 88) ∷
    (leaf N.Str (quoted_word (codes "x")) 95 98) ∷
    (node N.Call (codes "dfeUInt") 100 110 (
    (leaf N.Whole (codes "8") 108 109) ∷ [])) ∷ [])) ∷ [])) ∷
    (node N.Run [] 113 169 (
    (node N.DotCall (codes "output") 113 169 (
    (leaf N.Name (codes "io") 113 115) ∷
    (leaf N.Str (quoted_word (codes "y")) 123 126) ∷
    (node N.Binary (codes "+") 128 156 (
    (leaf N.Name (codes "x") 128 129) ∷
    (node N.DotCall (codes "offset") 132 156 (
    (leaf N.Name (codes "stream") 132 138) ∷
    (leaf N.Name (codes "x") 146 147) ∷
    (node N.Prefix (codes "-") 149 155 (
    (leaf N.Whole (codes "40000") 150 155) ∷ [])) ∷ [])) ∷ [])) ∷
    (node N.Call (codes "dfeUInt") 158 168 (
    (leaf N.Whole (codes "8") 166 167) ∷ [])) ∷ [])) ∷ [])) ∷ [])) ∷ [])) ∷ []))

long_offset-calls : calls_of (shown long_offset)
    ≡ (C.Input (codes "x") (T.UInt 8) None ∷ C.Offset 0 (negsuc 39999) (T.UInt 8)
    ∷ C.Operation O.Add M.ToNearEven 0 (0 ∷ 1 ∷ []) (T.UInt 8)
    ∷ C.Output (codes "y") 2 None (T.UInt 8) ∷ [])
unfolding
    long_offset expr row_of plan_of call_to turns typing literal_bits rounded reduced value_of
    bits_up_to int_wrap
long_offset-calls = refl

long_offset-end : end_of (shown long_offset) ≡ Ok tt
unfolding
    long_offset expr row_of plan_of call_to turns typing literal_bits rounded reduced value_of
    bits_up_to int_wrap
long_offset-end = refl

-- class Peek extends Kernel { Peek(KernelParameters p) { super(p); DFEVar x = io.input("x",
-- dfeUInt(8)); io.output("y", x, dfeUInt(8), stream.offset(x, 1) === 0); } }
peek : Tree
peek =
    (node N.Class (codes "Peek") 0 176 (
    (node N.Ctor (codes "Peek") 30 174 (
    (node N.Param (codes "p") 35 53 ((leaf N.Plain (codes "KernelParameters") 35 51) ∷ [])) ∷
    (node N.Block [] 55 174 (
    (node N.Local (codes "x") 75 112 (
    (leaf N.Plain (codes "DFEVar") 75 81) ∷
    (node N.DotCall (codes "input") 86 111 (
    (leaf N.Name (codes "io") 86 88) ∷
    (leaf N.Str (quoted_word (codes "x")) 95 98) ∷
    (node N.Call (codes "dfeUInt") 100 110 (
    (leaf N.Whole (codes "8") 108 109) ∷ [])) ∷ [])) ∷ [])) ∷
    (node N.Run [] 113 169 (
    (node N.DotCall (codes "output") 113 169 (
    (leaf N.Name (codes "io") 113 115) ∷
    (leaf N.Str (quoted_word (codes "y")) 123 126) ∷
    (leaf N.Name (codes "x") 128 129) ∷
    (node N.Call (codes "dfeUInt") 131 141 ((leaf N.Whole (codes "8") 139 140) ∷ [])) ∷
    (node N.Binary (codes "===") 143 168 (
    (node N.DotCall (codes "offset") 143 162 (
    (leaf N.Name (codes "stream") 143 149) ∷
    (leaf N.Name (codes "x") 157 158) ∷
    (leaf N.Whole (codes "1") 160 161) ∷ [])) ∷
    (leaf N.Whole (codes "0") 167 168) ∷ [])) ∷ [])) ∷ [])) ∷ [])) ∷ [])) ∷ []))

peek-calls : calls_of (shown peek) ≡ (C.Input (codes "x") (T.UInt 8) None
    ∷ C.Offset 0 (pos 1) (T.UInt 8) ∷ C.Constant 0 (T.UInt 8)
    ∷ C.Operation O.Eq M.ToNearEven 0 (1 ∷ 2 ∷ []) T.Bool
    ∷ C.Output (codes "y") 0 (Some 3) (T.UInt 8) ∷ [])
unfolding
    peek expr row_of plan_of call_to turns typing literal_bits rounded reduced value_of
    bits_up_to int_wrap
peek-calls = refl

peek-end : end_of (shown peek) ≡ Ok tt
unfolding
    peek expr row_of plan_of call_to turns typing literal_bits rounded reduced value_of
    bits_up_to int_wrap
peek-end = refl

-- class Quot extends Kernel { Quot(KernelParameters p) { super(p); DFEVar a = io.input("a",
-- dfeInt(8)); DFEVar b = io.input("b", dfeInt(8)); io.output("q", a / b, dfeInt(8)); } }
quot : Tree
quot =
    (node N.Class (codes "Quot") 0 196 (
    (node N.Ctor (codes "Quot") 30 194 (
    (node N.Param (codes "p") 35 53 ((leaf N.Plain (codes "KernelParameters") 35 51) ∷ [])) ∷
    (node N.Block [] 55 194 (
    (node N.Local (codes "a") 75 111 (
    (leaf N.Plain (codes "DFEVar") 75 81) ∷
    (node N.DotCall (codes "input") 86 110 (
    (leaf N.Name (codes "io") 86 88) ∷
    (leaf N.Str (quoted_word (codes "a")) 95 98) ∷
    (node N.Call (codes "dfeInt") 100 109 (
    (leaf N.Whole (codes "8") 107 108) ∷ [])) ∷ [])) ∷ [])) ∷
    (node N.Local (codes "b") 116 152 (
    (leaf N.Plain (codes "DFEVar") 116 122) ∷
    (node N.DotCall (codes "input") 127 151 (
    (leaf N.Name (codes "io") 127 129) ∷
    (leaf N.Str (quoted_word (codes "b")) 136 139) ∷
    (node N.Call (codes "dfeInt") 141 150 (
    (leaf N.Whole (codes "8") 148 149) ∷ [])) ∷ [])) ∷ [])) ∷
    (node N.Run [] 157 189 (
    (node N.DotCall (codes "output") 157 189 (
    (leaf N.Name (codes "io") 157 159) ∷
    (leaf N.Str (quoted_word (codes "q")) 167 170) ∷
    (node N.Binary (codes "/") 172 177 (
    (leaf N.Name (codes "a") 172 173) ∷
    (leaf N.Name (codes "b") 176 177) ∷ [])) ∷
    (node N.Call (codes "dfeInt") 179 188 (
    (leaf N.Whole (codes "8") 186 187) ∷ [])) ∷ [])) ∷ [])) ∷ [])) ∷ [])) ∷ []))

quot-calls : calls_of (shown quot) ≡ (C.Input (codes "a") (T.Int 8) None
    ∷ C.Input (codes "b") (T.Int 8) None ∷ C.Operation O.Div M.ToNearEven 0 (0 ∷ 1 ∷ []) (T.Int 8)
    ∷ C.Output (codes "q") 2 None (T.Int 8) ∷ [])
unfolding
    quot expr row_of plan_of call_to turns typing literal_bits rounded reduced value_of
    bits_up_to int_wrap
quot-calls = refl

quot-end : end_of (shown quot) ≡ Ok tt
unfolding
    quot expr row_of plan_of call_to turns typing literal_bits rounded reduced value_of
    bits_up_to int_wrap
quot-end = refl
