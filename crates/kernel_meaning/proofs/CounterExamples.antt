-- What the runs of worked kernels with counters do, as an independent model says.
use Rattle.std.proofs.Common.{◌≡◌, refl, pos, negsuc, [], ◌∷◌, Some, None, Ok}
use Rattle.std.specs.Prelude.{codes}
use Rattle.mx_bits.specs.declared.op.Op.TheVariants as O
use Rattle.counter_chains.specs.Digits.{bits_up_to}
use Rattle.fix_arith.specs.declared.types.RoundMode.TheVariants as M
use Rattle.fix_arith.specs.declared.types.StreamType.TheVariants as T
use Rattle.fix_arith.specs.Rounding.{rounded}
use Rattle.fix_arith.specs.Values.{reduced, value_of}
use Rattle.std.specs.Int.{int_wrap}
use Rattle.kernel_calls.specs.declared.call.Call.TheVariants as C
use Rattle.kernel_meaning.specs.Answer.{calls_of, end_of}
use Rattle.kernel_meaning.specs.Typing.{typing, literal_bits}
use Rattle.kernel_meaning.specs.Rows.{row_of}
use Rattle.kernel_meaning.specs.Ways.{turns}
use Rattle.kernel_meaning.specs.Plans.{plan_of}
use Rattle.maxj_syntax.specs.Tree.{Tree}
use Rattle.maxj_syntax.specs.declared.tree.NodeKind.TheVariants as N
use Rattle.kernel_meaning.specs.Run.{expr, call_to}
use Rattle.kernel_meaning.specs.Ways.{turns}
use Rattle.kernel_meaning.proofs.Sources.{node, leaf, quoted_word, shown}

-- class Acc extends Kernel { Acc(KernelParameters p) { super(p); DFEVar x = io.input("x",
-- dfeUInt(32)); DFEVar i = control.count.simpleCounter(32); DFEVar old =
-- dfeUInt(32).newInstance(this); DFEVar sum = x + (i === 0 ? 0 : old); old <== stream.offset(sum,
-- -1); io.output("y", sum, dfeUInt(32)); } }
acc : Tree
acc =
    (node N.Class (codes "Acc") 0 329 (
    (node N.Ctor (codes "Acc") 29 327 (
    (node N.Param (codes "p") 33 51 ((leaf N.Plain (codes "KernelParameters") 33 49) ∷ [])) ∷
    (node N.Block [] 53 327 (
    (node N.Local (codes "x") 73 111 (
    (leaf N.Plain (codes "DFEVar") 73 79) ∷
    (node N.DotCall (codes "input") 84 110 (
    (leaf N.Name (codes "io") 84 86) ∷
    (leaf N.Str (quoted_word (codes "x")) 93 96) ∷
    (node N.Call (codes "dfeUInt") 98 109 (
    (leaf N.Whole (codes "32") 106 108) ∷ [])) ∷ [])) ∷ [])) ∷
    (node N.Local (codes "i") 116 159 (
    (leaf N.Plain (codes "DFEVar") 116 122) ∷
    (node N.DotCall (codes "simpleCounter") 127 158 (
    (node N.Dot (codes "count") 127 140 (
    (leaf N.Name (codes "control") 127 134) ∷ [])) ∷
    (leaf N.Whole (codes "32") 155 157) ∷ [])) ∷ [])) ∷
    (node N.Local (codes "old") 164 207 (
    (leaf N.Plain (codes "DFEVar") 164 170) ∷
    (node N.DotCall (codes "newInstance") 177 206 (
    (node N.Call (codes "dfeUInt") 177 188 ((leaf N.Whole (codes "32") 185 187) ∷ [])) ∷
    (leaf N.Name (codes "this") 201 205) ∷ [])) ∷ [])) ∷
    (node N.Local (codes "sum") 212 249 (
    (leaf N.Plain (codes "DFEVar") 212 218) ∷
    (node N.Binary (codes "+") 225 248 (
    (leaf N.Name (codes "x") 225 226) ∷
    (node N.Cond [] 230 247 (
    (node N.Binary (codes "===") 230 237 (
    (leaf N.Name (codes "i") 230 231) ∷
    (leaf N.Whole (codes "0") 236 237) ∷ [])) ∷
    (leaf N.Whole (codes "0") 240 241) ∷
    (leaf N.Name (codes "old") 244 247) ∷ [])) ∷ [])) ∷ [])) ∷
    (node N.Connect [] 254 284 (
    (leaf N.Name (codes "old") 254 257) ∷
    (node N.DotCall (codes "offset") 262 284 (
    (leaf N.Name (codes "stream") 262 268) ∷
    (leaf N.Name (codes "sum") 276 279) ∷
    (node N.Prefix (codes "-") 281 283 (
    (leaf N.Whole (codes "1") 282 283) ∷ [])) ∷ [])) ∷ [])) ∷
    (node N.Run [] 290 322 (
    (node N.DotCall (codes "output") 290 322 (
    (leaf N.Name (codes "io") 290 292) ∷
    (leaf N.Str (quoted_word (codes "y")) 300 303) ∷
    (leaf N.Name (codes "sum") 305 308) ∷
    (node N.Call (codes "dfeUInt") 310 321 (
    (leaf N.Whole (codes "32") 318 320) ∷ [])) ∷ [])) ∷ [])) ∷ [])) ∷ [])) ∷ []))

acc-calls : calls_of (shown acc) ≡ (C.Input (codes "x") (T.UInt 32) None
    ∷ C.Counter (record { last = 4294967295; inc = 1; bits = 32 }) ∷ C.Feed (T.UInt 32)
    ∷ C.Constant 0 (T.UInt 32) ∷ C.Operation O.Eq M.ToNearEven 0 (1 ∷ 3 ∷ []) T.Bool
    ∷ C.Constant 0 (T.UInt 32) ∷ C.Operation O.Mux M.ToNearEven 0 (4 ∷ 2 ∷ 5 ∷ []) (T.UInt 32)
    ∷ C.Operation O.Add M.ToNearEven 0 (0 ∷ 6 ∷ []) (T.UInt 32) ∷ C.Offset 7 (negsuc 0) (T.UInt 32)
    ∷ C.Connect 2 8 ∷ C.Output (codes "y") 7 None (T.UInt 32) ∷ [])
unfolding
    acc expr row_of plan_of call_to turns typing literal_bits rounded reduced value_of
    bits_up_to int_wrap
acc-calls = refl

acc-end : end_of (shown acc) ≡ Ok tt
unfolding
    acc expr row_of plan_of call_to turns typing literal_bits rounded reduced value_of
    bits_up_to int_wrap
acc-end = refl

-- class Guard extends Kernel { Guard(KernelParameters p) { super(p); DFEVar x = io.input("x",
-- dfeUInt(8)); DFEVar i = control.count.simpleCounter(2); io.output("y", i === 3 ? 0 :
-- stream.offset(x, 1), dfeUInt(8)); } }
guard : Tree
guard =
    (node N.Class (codes "Guard") 0 234 (
    (node N.Ctor (codes "Guard") 31 232 (
    (node N.Param (codes "p") 37 55 ((leaf N.Plain (codes "KernelParameters") 37 53) ∷ [])) ∷
    (node N.Block [] 57 232 (
    (node N.Local (codes "x") 77 114 (
    (leaf N.Plain (codes "DFEVar") 77 83) ∷
    (node N.DotCall (codes "input") 88 113 (
    (leaf N.Name (codes "io") 88 90) ∷
    (leaf N.Str (quoted_word (codes "x")) 97 100) ∷
    (node N.Call (codes "dfeUInt") 102 112 (
    (leaf N.Whole (codes "8") 110 111) ∷ [])) ∷ [])) ∷ [])) ∷
    (node N.Local (codes "i") 119 161 (
    (leaf N.Plain (codes "DFEVar") 119 125) ∷
    (node N.DotCall (codes "simpleCounter") 130 160 (
    (node N.Dot (codes "count") 130 143 (
    (leaf N.Name (codes "control") 130 137) ∷ [])) ∷
    (leaf N.Whole (codes "2") 158 159) ∷ [])) ∷ [])) ∷
    (node N.Run [] 166 227 (
    (node N.DotCall (codes "output") 166 227 (
    (leaf N.Name (codes "io") 166 168) ∷
    (leaf N.Str (quoted_word (codes "y")) 176 179) ∷
    (node N.Cond [] 181 214 (
    (node N.Binary (codes "===") 181 188 (
    (leaf N.Name (codes "i") 181 182) ∷
    (leaf N.Whole (codes "3") 187 188) ∷ [])) ∷
    (leaf N.Whole (codes "0") 191 192) ∷
    (node N.DotCall (codes "offset") 195 214 (
    (leaf N.Name (codes "stream") 195 201) ∷
    (leaf N.Name (codes "x") 209 210) ∷
    (leaf N.Whole (codes "1") 212 213) ∷ [])) ∷ [])) ∷
    (node N.Call (codes "dfeUInt") 216 226 (
    (leaf N.Whole (codes "8") 224 225) ∷ [])) ∷ [])) ∷ [])) ∷ [])) ∷ [])) ∷ []))

guard-calls : calls_of (shown guard)
    ≡ (C.Input (codes "x") (T.UInt 8) None ∷ C.Counter (record { last = 3; inc = 1; bits = 2 })
    ∷ C.Constant 3 (T.UInt 2) ∷ C.Operation O.Eq M.ToNearEven 0 (1 ∷ 2 ∷ []) T.Bool
    ∷ C.Offset 0 (pos 1) (T.UInt 8) ∷ C.Constant 0 (T.UInt 8)
    ∷ C.Operation O.Mux M.ToNearEven 0 (3 ∷ 4 ∷ 5 ∷ []) (T.UInt 8)
    ∷ C.Output (codes "y") 6 None (T.UInt 8) ∷ [])
unfolding
    guard expr row_of plan_of call_to turns typing literal_bits rounded reduced value_of
    bits_up_to int_wrap
guard-calls = refl

guard-end : end_of (shown guard) ≡ Ok tt
unfolding
    guard expr row_of plan_of call_to turns typing literal_bits rounded reduced value_of
    bits_up_to int_wrap
guard-end = refl

-- class Fourth extends Kernel { Fourth(KernelParameters p) { super(p); DFEVar x = io.input("x",
-- dfeUInt(8)); DFEVar i = control.count.simpleCounter(2); io.output("y", x, dfeUInt(8), i === 3); }
-- }
fourth : Tree
fourth =
    (node N.Class (codes "Fourth") 0 213 (
    (node N.Ctor (codes "Fourth") 32 211 (
    (node N.Param (codes "p") 39 57 ((leaf N.Plain (codes "KernelParameters") 39 55) ∷ [])) ∷
    (node N.Block [] 59 211 (
    (node N.Local (codes "x") 79 116 (
    (leaf N.Plain (codes "DFEVar") 79 85) ∷
    (node N.DotCall (codes "input") 90 115 (
    (leaf N.Name (codes "io") 90 92) ∷
    (leaf N.Str (quoted_word (codes "x")) 99 102) ∷
    (node N.Call (codes "dfeUInt") 104 114 (
    (leaf N.Whole (codes "8") 112 113) ∷ [])) ∷ [])) ∷ [])) ∷
    (node N.Local (codes "i") 121 163 (
    (leaf N.Plain (codes "DFEVar") 121 127) ∷
    (node N.DotCall (codes "simpleCounter") 132 162 (
    (node N.Dot (codes "count") 132 145 (
    (leaf N.Name (codes "control") 132 139) ∷ [])) ∷
    (leaf N.Whole (codes "2") 160 161) ∷ [])) ∷ [])) ∷
    (node N.Run [] 168 206 (
    (node N.DotCall (codes "output") 168 206 (
    (leaf N.Name (codes "io") 168 170) ∷
    (leaf N.Str (quoted_word (codes "y")) 178 181) ∷
    (leaf N.Name (codes "x") 183 184) ∷
    (node N.Call (codes "dfeUInt") 186 196 ((leaf N.Whole (codes "8") 194 195) ∷ [])) ∷
    (node N.Binary (codes "===") 198 205 (
    (leaf N.Name (codes "i") 198 199) ∷
    (leaf N.Whole (codes "3") 204 205) ∷ [])) ∷ [])) ∷ [])) ∷ [])) ∷ [])) ∷ []))

fourth-calls : calls_of (shown fourth)
    ≡ (C.Input (codes "x") (T.UInt 8) None ∷ C.Counter (record { last = 3; inc = 1; bits = 2 })
    ∷ C.Constant 3 (T.UInt 2) ∷ C.Operation O.Eq M.ToNearEven 0 (1 ∷ 2 ∷ []) T.Bool
    ∷ C.Output (codes "y") 0 (Some 3) (T.UInt 8) ∷ [])
unfolding
    fourth expr row_of plan_of call_to turns typing literal_bits rounded reduced value_of
    bits_up_to int_wrap
fourth-calls = refl

fourth-end : end_of (shown fourth) ≡ Ok tt
unfolding
    fourth expr row_of plan_of call_to turns typing literal_bits rounded reduced value_of
    bits_up_to int_wrap
fourth-end = refl

-- class Nest extends Kernel { Nest(KernelParameters p) { super(p); CounterChain chain =
-- control.count.makeCounterChain(); DFEVar a = chain.addCounter(2, 1); DFEVar b =
-- chain.addCounter(3, 1); io.output("outer", a, dfeUInt(1)); io.output("inner", b, dfeUInt(2)); } }
nest : Tree
nest =
    (node N.Class (codes "Nest") 0 291 (
    (node N.Ctor (codes "Nest") 30 289 (
    (node N.Param (codes "p") 35 53 ((leaf N.Plain (codes "KernelParameters") 35 51) ∷ [])) ∷
    (node N.Block [] 55 289 (
    (node N.Local (codes "chain") 75 129 (
    (leaf N.Plain (codes "CounterChain") 75 87) ∷
    (node N.DotCall (codes "makeCounterChain") 96 128 (
    (node N.Dot (codes "count") 96 109 (
    (leaf N.Name (codes "control") 96 103) ∷ [])) ∷ [])) ∷ [])) ∷
    (node N.Local (codes "a") 134 168 (
    (leaf N.Plain (codes "DFEVar") 134 140) ∷
    (node N.DotCall (codes "addCounter") 145 167 (
    (leaf N.Name (codes "chain") 145 150) ∷
    (leaf N.Whole (codes "2") 162 163) ∷
    (leaf N.Whole (codes "1") 165 166) ∷ [])) ∷ [])) ∷
    (node N.Local (codes "b") 173 207 (
    (leaf N.Plain (codes "DFEVar") 173 179) ∷
    (node N.DotCall (codes "addCounter") 184 206 (
    (leaf N.Name (codes "chain") 184 189) ∷
    (leaf N.Whole (codes "3") 201 202) ∷
    (leaf N.Whole (codes "1") 204 205) ∷ [])) ∷ [])) ∷
    (node N.Run [] 212 245 (
    (node N.DotCall (codes "output") 212 245 (
    (leaf N.Name (codes "io") 212 214) ∷
    (leaf N.Str (quoted_word (codes "outer")) 222 229) ∷
    (leaf N.Name (codes "a") 231 232) ∷
    (node N.Call (codes "dfeUInt") 234 244 (
    (leaf N.Whole (codes "1") 242 243) ∷ [])) ∷ [])) ∷ [])) ∷
    (node N.Run [] 251 284 (
    (node N.DotCall (codes "output") 251 284 (
    (leaf N.Name (codes "io") 251 253) ∷
    (leaf N.Str (quoted_word (codes "inner")) 261 268) ∷
    (leaf N.Name (codes "b") 270 271) ∷
    (node N.Call (codes "dfeUInt") 273 283 (
    (leaf N.Whole (codes "2") 281 282) ∷ [])) ∷ [])) ∷ [])) ∷ [])) ∷ [])) ∷ []))

nest-calls : calls_of (shown nest)
    ≡ (C.Chain ∷ C.ChainDigit 0 (record { last = 1; inc = 1; bits = 1 })
    ∷ C.ChainDigit 0 (record { last = 2; inc = 1; bits = 2 })
    ∷ C.Output (codes "outer") 1 None (T.UInt 1) ∷ C.Output (codes "inner") 2 None (T.UInt 2) ∷ [])
unfolding
    nest expr row_of plan_of call_to turns typing literal_bits rounded reduced value_of
    bits_up_to int_wrap
nest-calls = refl

nest-end : end_of (shown nest) ≡ Ok tt
unfolding
    nest expr row_of plan_of call_to turns typing literal_bits rounded reduced value_of
    bits_up_to int_wrap
nest-end = refl

-- class Stencil extends Kernel { Stencil(KernelParameters p) { super(p); DFEVar x = io.input("x",
-- dfeUInt(8)); CounterChain chain = control.count.makeCounterChain(); DFEVar row =
-- chain.addCounter(1080, 1); DFEVar col = chain.addCounter(1920, 1); DFEVar up = row === 0 ? 0 :
-- stream.offset(x, -1920); DFEVar down = row === 1079 ? 0 : stream.offset(x, 1920); io.output("y",
-- up + x + down, dfeUInt(8)); } }
stencil : Tree
stencil =
    (node N.Class (codes "Stencil") 0 436 (
    (node N.Ctor (codes "Stencil") 33 434 (
    (node N.Param (codes "p") 41 59 ((leaf N.Plain (codes "KernelParameters") 41 57) ∷ [])) ∷
    (node N.Block [] 61 434 (
    (node N.Local (codes "x") 81 118 (
    (leaf N.Plain (codes "DFEVar") 81 87) ∷
    (node N.DotCall (codes "input") 92 117 (
    (leaf N.Name (codes "io") 92 94) ∷
    (leaf N.Str (quoted_word (codes "x")) 101 104) ∷
    (node N.Call (codes "dfeUInt") 106 116 (
    (leaf N.Whole (codes "8") 114 115) ∷ [])) ∷ [])) ∷ [])) ∷
    (node N.Local (codes "chain") 123 177 (
    (leaf N.Plain (codes "CounterChain") 123 135) ∷
    (node N.DotCall (codes "makeCounterChain") 144 176 (
    (node N.Dot (codes "count") 144 157 (
    (leaf N.Name (codes "control") 144 151) ∷ [])) ∷ [])) ∷ [])) ∷
    (node N.Local (codes "row") 182 221 (
    (leaf N.Plain (codes "DFEVar") 182 188) ∷
    (node N.DotCall (codes "addCounter") 195 220 (
    (leaf N.Name (codes "chain") 195 200) ∷
    (leaf N.Whole (codes "1080") 212 216) ∷
    (leaf N.Whole (codes "1") 218 219) ∷ [])) ∷ [])) ∷
    (node N.Local (codes "col") 226 265 (
    (leaf N.Plain (codes "DFEVar") 226 232) ∷
    (node N.DotCall (codes "addCounter") 239 264 (
    (leaf N.Name (codes "chain") 239 244) ∷
    (leaf N.Whole (codes "1920") 256 260) ∷
    (leaf N.Whole (codes "1") 262 263) ∷ [])) ∷ [])) ∷
    (node N.Local (codes "up") 270 322 (
    (leaf N.Plain (codes "DFEVar") 270 276) ∷
    (node N.Cond [] 282 321 (
    (node N.Binary (codes "===") 282 291 (
    (leaf N.Name (codes "row") 282 285) ∷
    (leaf N.Whole (codes "0") 290 291) ∷ [])) ∷
    (leaf N.Whole (codes "0") 294 295) ∷
    (node N.DotCall (codes "offset") 298 321 (
    (leaf N.Name (codes "stream") 298 304) ∷
    (leaf N.Name (codes "x") 312 313) ∷
    (node N.Prefix (codes "-") 315 320 (
    (leaf N.Whole (codes "1920") 316 320) ∷ [])) ∷ [])) ∷ [])) ∷ [])) ∷
    (node N.Local (codes "down") 327 383 (
    (leaf N.Plain (codes "DFEVar") 327 333) ∷
    (node N.Cond [] 341 382 (
    (node N.Binary (codes "===") 341 353 (
    (leaf N.Name (codes "row") 341 344) ∷
    (leaf N.Whole (codes "1079") 349 353) ∷ [])) ∷
    (leaf N.Whole (codes "0") 356 357) ∷
    (node N.DotCall (codes "offset") 360 382 (
    (leaf N.Name (codes "stream") 360 366) ∷
    (leaf N.Name (codes "x") 374 375) ∷
    (leaf N.Whole (codes "1920") 377 381) ∷ [])) ∷ [])) ∷ [])) ∷
    (node N.Run [] 388 429 (
    (node N.DotCall (codes "output") 388 429 (
    (leaf N.Name (codes "io") 388 390) ∷
    (leaf N.Str (quoted_word (codes "y")) 398 401) ∷
    (node N.Binary (codes "+") 403 416 (
    (node N.Binary (codes "+") 403 409 (
    (leaf N.Name (codes "up") 403 405) ∷
    (leaf N.Name (codes "x") 408 409) ∷ [])) ∷
    (leaf N.Name (codes "down") 412 416) ∷ [])) ∷
    (node N.Call (codes "dfeUInt") 418 428 (
    (leaf N.Whole (codes "8") 426 427) ∷ [])) ∷ [])) ∷ [])) ∷ [])) ∷ [])) ∷ []))

stencil-calls : calls_of (shown stencil)
    ≡ (C.Input (codes "x") (T.UInt 8) None ∷ C.Chain
    ∷ C.ChainDigit 1 (record { last = 1079; inc = 1; bits = 11 })
    ∷ C.ChainDigit 1 (record { last = 1919; inc = 1; bits = 11 }) ∷ C.Constant 0 (T.UInt 11)
    ∷ C.Operation O.Eq M.ToNearEven 0 (2 ∷ 4 ∷ []) T.Bool ∷ C.Offset 0 (negsuc 1919) (T.UInt 8)
    ∷ C.Constant 0 (T.UInt 8) ∷ C.Operation O.Mux M.ToNearEven 0 (5 ∷ 6 ∷ 7 ∷ []) (T.UInt 8)
    ∷ C.Constant 1079 (T.UInt 11) ∷ C.Operation O.Eq M.ToNearEven 0 (2 ∷ 9 ∷ []) T.Bool
    ∷ C.Offset 0 (pos 1920) (T.UInt 8) ∷ C.Constant 0 (T.UInt 8)
    ∷ C.Operation O.Mux M.ToNearEven 0 (10 ∷ 11 ∷ 12 ∷ []) (T.UInt 8)
    ∷ C.Operation O.Add M.ToNearEven 0 (8 ∷ 0 ∷ []) (T.UInt 8)
    ∷ C.Operation O.Add M.ToNearEven 0 (14 ∷ 13 ∷ []) (T.UInt 8)
    ∷ C.Output (codes "y") 15 None (T.UInt 8) ∷ [])
unfolding
    stencil expr row_of plan_of call_to turns typing literal_bits rounded reduced value_of
    bits_up_to int_wrap
stencil-calls = refl

stencil-end : end_of (shown stencil) ≡ Ok tt
unfolding
    stencil expr row_of plan_of call_to turns typing literal_bits rounded reduced value_of
    bits_up_to int_wrap
stencil-end = refl
