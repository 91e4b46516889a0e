-- What managers build beside the kernels `Split`, `Add2` and `Pass`, and why they are refused.
use Rattle.std.proofs.Common.{◌≡◌, refl}
use Rattle.std.specs.Prelude.{ℕ, pos, List, [], ◌∷◌, true, false, Result, Ok, Err, codes}
use Rattle.fix_arith.specs.declared.types.StreamType.TheVariants as T
use Rattle.maxj_syntax.specs.declared.tree.NodeKind.TheVariants as N
use Rattle.maxj_syntax.specs.Tree.{Tree, ClassTree}
use Rattle.kernel_meaning.specs.declared.plan.Arg.{Arg}
use Rattle.kernel_meaning.specs.declared.plan.Arg.TheVariants as A
use Rattle.kernel_meaning.specs.declared.plan.End.{End}
use Rattle.kernel_meaning.specs.declared.plan.End.TheVariants as P
use Rattle.kernel_meaning.specs.declared.plan.Join.{Join}
use Rattle.kernel_meaning.specs.declared.plan.Made.{Made}
use Rattle.kernel_meaning.specs.declared.plan.Plan.{Plan}
use Rattle.kernel_meaning.specs.declared.error.EvalError.{EvalError}
use Rattle.kernel_meaning.specs.declared.error.EvalError.TheVariants as E
use Rattle.kernel_meaning.specs.Rows.{row_of}
use Rattle.kernel_meaning.specs.Plans.{plan_of}
use Rattle.kernel_meaning.specs.Run.{expr, call_to}
use Rattle.kernel_meaning.specs.Managers.{source_plan}
use Rattle.kernel_meaning.proofs.Sources.{node, leaf, quoted_word}

-- the class of a kernel, of which a manager knows the name alone
abbrev class_named : List ℕ → ClassTree
class_named name = record { name = name; manager = false; tree = leaf N.Class name 0 0 }

-- what a source with these three kernels and this manager builds
abbrev managed : Tree → Result Plan EvalError
managed manager =
    source_plan
    (class_named (codes "Split") ∷ class_named (codes "Add2") ∷ class_named (codes "Pass")
    ∷ record { name = codes "M"; manager = true; tree = manager } ∷ [])

abbrev kernel : List ℕ → ℕ → List Arg → Made
kernel name class args = record { name = name; class = class; args = args }

abbrev join : End → End → Join
join left right = record { left = left; right = right }

abbrev built : List Made → List (List ℕ) → List (List ℕ) → List Join → Plan
built kernels from_cpu to_cpu joins = record {
  manager = true;
  kernels = kernels;
  from_cpu = from_cpu;
  to_cpu = to_cpu;
  joins = joins;
}

-- class M extends CustomManager { M(EngineParameters e) { super(e); KernelBlock a = addKernel(new
-- Split(makeKernelParameters("A"))); KernelBlock b = addKernel(new
-- Add2(makeKernelParameters("B"))); a.getInput("x") <== addStreamFromCPU("x"); b.getInput("p") <==
-- a.getOutput("p"); b.getInput("q") <== a.getOutput("q"); addStreamToCPU("y") <== b.getOutput("y");
-- } }
two_ways : Tree
two_ways =
    (node N.Class (codes "M") 0 359 (
    (node N.Ctor (codes "M") 32 357 (
    (node N.Param (codes "e") 34 52 ((leaf N.Plain (codes "EngineParameters") 34 50) ∷ [])) ∷
    (node N.Block [] 54 357 (
    (node N.Local (codes "a") 66 130 (
    (leaf N.Plain (codes "KernelBlock") 66 77) ∷
    (node N.Call (codes "addKernel") 82 129 (
    (node N.New (codes "Split") 92 128 (
    (node N.Call (codes "makeKernelParameters") 102 127 (
    (leaf N.Str (quoted_word (codes "A")) 123 126) ∷ [])) ∷ [])) ∷ [])) ∷ [])) ∷
    (node N.Local (codes "b") 131 194 (
    (leaf N.Plain (codes "KernelBlock") 131 142) ∷
    (node N.Call (codes "addKernel") 147 193 (
    (node N.New (codes "Add2") 157 192 (
    (node N.Call (codes "makeKernelParameters") 166 191 (
    (leaf N.Str (quoted_word (codes "B")) 187 190) ∷ [])) ∷ [])) ∷ [])) ∷ [])) ∷
    (node N.Connect [] 195 236 (
    (node N.DotCall (codes "getInput") 195 210 (
    (leaf N.Name (codes "a") 195 196) ∷
    (leaf N.Str (quoted_word (codes "x")) 206 209) ∷ [])) ∷
    (node N.Call (codes "addStreamFromCPU") 215 236 (
    (leaf N.Str (quoted_word (codes "x")) 232 235) ∷ [])) ∷ [])) ∷
    (node N.Connect [] 238 274 (
    (node N.DotCall (codes "getInput") 238 253 (
    (leaf N.Name (codes "b") 238 239) ∷
    (leaf N.Str (quoted_word (codes "p")) 249 252) ∷ [])) ∷
    (node N.DotCall (codes "getOutput") 258 274 (
    (leaf N.Name (codes "a") 258 259) ∷
    (leaf N.Str (quoted_word (codes "p")) 270 273) ∷ [])) ∷ [])) ∷
    (node N.Connect [] 276 312 (
    (node N.DotCall (codes "getInput") 276 291 (
    (leaf N.Name (codes "b") 276 277) ∷
    (leaf N.Str (quoted_word (codes "q")) 287 290) ∷ [])) ∷
    (node N.DotCall (codes "getOutput") 296 312 (
    (leaf N.Name (codes "a") 296 297) ∷
    (leaf N.Str (quoted_word (codes "q")) 308 311) ∷ [])) ∷ [])) ∷
    (node N.Connect [] 314 354 (
    (node N.Call (codes "addStreamToCPU") 314 333 (
    (leaf N.Str (quoted_word (codes "y")) 329 332) ∷ [])) ∷
    (node N.DotCall (codes "getOutput") 338 354 (
    (leaf N.Name (codes "b") 338 339) ∷
    (leaf N.Str (quoted_word (codes "y")) 350 353) ∷ [])) ∷ [])) ∷ [])) ∷ [])) ∷ []))

two_ways-plan : managed two_ways ≡ Ok
    (built (kernel (codes "A") 0 ([]) ∷ kernel (codes "B") 1 ([]) ∷ []) (codes "x" ∷ [])
    (codes "y" ∷ []) (join (P.Kernel 0 (codes "x")) (P.Cpu (codes "x"))
    ∷ join (P.Kernel 1 (codes "p")) (P.Kernel 0 (codes "p"))
    ∷ join (P.Kernel 1 (codes "q")) (P.Kernel 0 (codes "q"))
    ∷ join (P.Cpu (codes "y")) (P.Kernel 1 (codes "y")) ∷ []))
unfolding two_ways expr row_of plan_of call_to
two_ways-plan = refl

-- class M extends CustomManager { M(EngineParameters e) { super(e); KernelBlock a = addKernel(new
-- Pass(makeKernelParameters("A"))); KernelBlock b = addKernel(new Pass(makeKernelParameters("B")));
-- a.getInput("x") <== b.getOutput("y"); b.getInput("x") <== a.getOutput("y"); } }
in_a_ring : Tree
in_a_ring =
    (node N.Class (codes "M") 0 273 (
    (node N.Ctor (codes "M") 32 271 (
    (node N.Param (codes "e") 34 52 ((leaf N.Plain (codes "EngineParameters") 34 50) ∷ [])) ∷
    (node N.Block [] 54 271 (
    (node N.Local (codes "a") 66 129 (
    (leaf N.Plain (codes "KernelBlock") 66 77) ∷
    (node N.Call (codes "addKernel") 82 128 (
    (node N.New (codes "Pass") 92 127 (
    (node N.Call (codes "makeKernelParameters") 101 126 (
    (leaf N.Str (quoted_word (codes "A")) 122 125) ∷ [])) ∷ [])) ∷ [])) ∷ [])) ∷
    (node N.Local (codes "b") 130 193 (
    (leaf N.Plain (codes "KernelBlock") 130 141) ∷
    (node N.Call (codes "addKernel") 146 192 (
    (node N.New (codes "Pass") 156 191 (
    (node N.Call (codes "makeKernelParameters") 165 190 (
    (leaf N.Str (quoted_word (codes "B")) 186 189) ∷ [])) ∷ [])) ∷ [])) ∷ [])) ∷
    (node N.Connect [] 194 230 (
    (node N.DotCall (codes "getInput") 194 209 (
    (leaf N.Name (codes "a") 194 195) ∷
    (leaf N.Str (quoted_word (codes "x")) 205 208) ∷ [])) ∷
    (node N.DotCall (codes "getOutput") 214 230 (
    (leaf N.Name (codes "b") 214 215) ∷
    (leaf N.Str (quoted_word (codes "y")) 226 229) ∷ [])) ∷ [])) ∷
    (node N.Connect [] 232 268 (
    (node N.DotCall (codes "getInput") 232 247 (
    (leaf N.Name (codes "b") 232 233) ∷
    (leaf N.Str (quoted_word (codes "x")) 243 246) ∷ [])) ∷
    (node N.DotCall (codes "getOutput") 252 268 (
    (leaf N.Name (codes "a") 252 253) ∷
    (leaf N.Str (quoted_word (codes "y")) 264 267) ∷ [])) ∷ [])) ∷ [])) ∷ [])) ∷ []))

in_a_ring-plan : managed in_a_ring ≡ Ok
    (built (kernel (codes "A") 2 ([]) ∷ kernel (codes "B") 2 ([]) ∷ []) ([]) ([])
    (join (P.Kernel 0 (codes "x")) (P.Kernel 1 (codes "y"))
    ∷ join (P.Kernel 1 (codes "x")) (P.Kernel 0 (codes "y")) ∷ []))
unfolding in_a_ring expr row_of plan_of call_to
in_a_ring-plan = refl

-- class M extends CustomManager { M(EngineParameters e) { super(e); KernelBlock a = addKernel(new
-- Pass(makeKernelParameters("A"))); KernelBlock b = addKernel(new Pass(makeKernelParameters("B")));
-- a.getInput("x") <== addStreamFromCPU("x"); b.getInput("x") <== a.getOutput("y");
-- addStreamToCPU("y") <== b.getOutput("y"); } }
in_a_row : Tree
in_a_row =
    (node N.Class (codes "M") 0 320 (
    (node N.Ctor (codes "M") 32 318 (
    (node N.Param (codes "e") 34 52 ((leaf N.Plain (codes "EngineParameters") 34 50) ∷ [])) ∷
    (node N.Block [] 54 318 (
    (node N.Local (codes "a") 66 129 (
    (leaf N.Plain (codes "KernelBlock") 66 77) ∷
    (node N.Call (codes "addKernel") 82 128 (
    (node N.New (codes "Pass") 92 127 (
    (node N.Call (codes "makeKernelParameters") 101 126 (
    (leaf N.Str (quoted_word (codes "A")) 122 125) ∷ [])) ∷ [])) ∷ [])) ∷ [])) ∷
    (node N.Local (codes "b") 130 193 (
    (leaf N.Plain (codes "KernelBlock") 130 141) ∷
    (node N.Call (codes "addKernel") 146 192 (
    (node N.New (codes "Pass") 156 191 (
    (node N.Call (codes "makeKernelParameters") 165 190 (
    (leaf N.Str (quoted_word (codes "B")) 186 189) ∷ [])) ∷ [])) ∷ [])) ∷ [])) ∷
    (node N.Connect [] 194 235 (
    (node N.DotCall (codes "getInput") 194 209 (
    (leaf N.Name (codes "a") 194 195) ∷
    (leaf N.Str (quoted_word (codes "x")) 205 208) ∷ [])) ∷
    (node N.Call (codes "addStreamFromCPU") 214 235 (
    (leaf N.Str (quoted_word (codes "x")) 231 234) ∷ [])) ∷ [])) ∷
    (node N.Connect [] 237 273 (
    (node N.DotCall (codes "getInput") 237 252 (
    (leaf N.Name (codes "b") 237 238) ∷
    (leaf N.Str (quoted_word (codes "x")) 248 251) ∷ [])) ∷
    (node N.DotCall (codes "getOutput") 257 273 (
    (leaf N.Name (codes "a") 257 258) ∷
    (leaf N.Str (quoted_word (codes "y")) 269 272) ∷ [])) ∷ [])) ∷
    (node N.Connect [] 275 315 (
    (node N.Call (codes "addStreamToCPU") 275 294 (
    (leaf N.Str (quoted_word (codes "y")) 290 293) ∷ [])) ∷
    (node N.DotCall (codes "getOutput") 299 315 (
    (leaf N.Name (codes "b") 299 300) ∷
    (leaf N.Str (quoted_word (codes "y")) 311 314) ∷ [])) ∷ [])) ∷ [])) ∷ [])) ∷ []))

in_a_row-plan : managed in_a_row ≡ Ok
    (built (kernel (codes "A") 2 ([]) ∷ kernel (codes "B") 2 ([]) ∷ []) (codes "x" ∷ [])
    (codes "y" ∷ []) (join (P.Kernel 0 (codes "x")) (P.Cpu (codes "x"))
    ∷ join (P.Kernel 1 (codes "x")) (P.Kernel 0 (codes "y"))
    ∷ join (P.Cpu (codes "y")) (P.Kernel 1 (codes "y")) ∷ []))
unfolding in_a_row expr row_of plan_of call_to
in_a_row-plan = refl

-- class M extends CustomManager { M(EngineParameters e) { super(e); addKernel(new
-- Pass(makeKernelParameters("A"), 3, true, dfeUInt(8))); } }
further_arguments : Tree
further_arguments =
    (node N.Class (codes "M") 0 138 (
    (node N.Ctor (codes "M") 32 136 (
    (node N.Param (codes "e") 34 52 ((leaf N.Plain (codes "EngineParameters") 34 50) ∷ [])) ∷
    (node N.Block [] 54 136 (
    (node N.Run [] 66 133 (
    (node N.Call (codes "addKernel") 66 133 (
    (node N.New (codes "Pass") 76 132 (
    (node N.Call (codes "makeKernelParameters") 85 110 (
    (leaf N.Str (quoted_word (codes "A")) 106 109) ∷ [])) ∷
    (leaf N.Whole (codes "3") 112 113) ∷
    (leaf N.Name (codes "true") 115 119) ∷
    (node N.Call (codes "dfeUInt") 121 131 (
    (leaf N.Whole (codes "8") 129 130) ∷ [])) ∷ [])) ∷ [])) ∷ [])) ∷ [])) ∷ []))
    ∷ []))

further_arguments-plan : managed further_arguments
    ≡ Ok (built (kernel (codes "A") 2 (A.Int (pos 3) ∷ A.Flag true ∷ A.Stream (T.UInt 8) ∷ []) ∷ [])
    ([]) ([]) ([]))
unfolding further_arguments expr row_of plan_of call_to
further_arguments-plan = refl

-- class M extends CustomManager { M(EngineParameters e) { super(e); KernelBlock a = addKernel(new
-- Pass(makeKernelParameters("A"))); a.getOutput("y") <== a.getInput("x"); } }
wrong_way : Tree
wrong_way =
    (node N.Class (codes "M") 0 171 (
    (node N.Ctor (codes "M") 32 169 (
    (node N.Param (codes "e") 34 52 ((leaf N.Plain (codes "EngineParameters") 34 50) ∷ [])) ∷
    (node N.Block [] 54 169 (
    (node N.Local (codes "a") 66 129 (
    (leaf N.Plain (codes "KernelBlock") 66 77) ∷
    (node N.Call (codes "addKernel") 82 128 (
    (node N.New (codes "Pass") 92 127 (
    (node N.Call (codes "makeKernelParameters") 101 126 (
    (leaf N.Str (quoted_word (codes "A")) 122 125) ∷ [])) ∷ [])) ∷ [])) ∷ [])) ∷
    (node N.Connect [] 130 166 (
    (node N.DotCall (codes "getOutput") 130 146 (
    (leaf N.Name (codes "a") 130 131) ∷
    (leaf N.Str (quoted_word (codes "y")) 142 145) ∷ [])) ∷
    (node N.DotCall (codes "getInput") 151 166 (
    (leaf N.Name (codes "a") 151 152) ∷
    (leaf N.Str (quoted_word (codes "x")) 162 165) ∷ [])) ∷ [])) ∷ [])) ∷ [])) ∷ []))

wrong_way-plan : managed wrong_way ≡ Err (E.WrongKind 130)
unfolding wrong_way expr row_of plan_of call_to
wrong_way-plan = refl

-- class M extends CustomManager { M(EngineParameters e) { super(e); addKernel(new
-- Pass(makeKernelParameters("1A"))); } }
bad_kernel_name : Tree
bad_kernel_name =
    (node N.Class (codes "M") 0 118 (
    (node N.Ctor (codes "M") 32 116 (
    (node N.Param (codes "e") 34 52 ((leaf N.Plain (codes "EngineParameters") 34 50) ∷ [])) ∷
    (node N.Block [] 54 116 (
    (node N.Run [] 66 113 (
    (node N.Call (codes "addKernel") 66 113 (
    (node N.New (codes "Pass") 76 112 (
    (node N.Call (codes "makeKernelParameters") 85 111 (
    (leaf N.Str (quoted_word (codes "1A")) 106 110) ∷ [])) ∷ [])) ∷ [])) ∷ [])) ∷ []))
    ∷ [])) ∷ []))

bad_kernel_name-plan : managed bad_kernel_name ≡ Err (E.BadPortName 85)
unfolding bad_kernel_name expr row_of plan_of call_to
bad_kernel_name-plan = refl

-- class M extends CustomManager { M(EngineParameters e) { super(e); addKernel(new
-- Pass(makeKernelParameters("A"), "x")); } }
bad_argument : Tree
bad_argument =
    (node N.Class (codes "M") 0 122 (
    (node N.Ctor (codes "M") 32 120 (
    (node N.Param (codes "e") 34 52 ((leaf N.Plain (codes "EngineParameters") 34 50) ∷ [])) ∷
    (node N.Block [] 54 120 (
    (node N.Run [] 66 117 (
    (node N.Call (codes "addKernel") 66 117 (
    (node N.New (codes "Pass") 76 116 (
    (node N.Call (codes "makeKernelParameters") 85 110 (
    (leaf N.Str (quoted_word (codes "A")) 106 109) ∷ [])) ∷
    (leaf N.Str (quoted_word (codes "x")) 112 115) ∷ [])) ∷ [])) ∷ [])) ∷ [])) ∷ []))
    ∷ []))

bad_argument-plan : managed bad_argument ≡ Err (E.WrongKind 76)
unfolding bad_argument expr row_of plan_of call_to
bad_argument-plan = refl

-- class M extends CustomManager { M(EngineParameters e) { super(e); addKernel(new
-- Other(makeKernelParameters("A"))); } }
unknown_class : Tree
unknown_class =
    (node N.Class (codes "M") 0 118 (
    (node N.Ctor (codes "M") 32 116 (
    (node N.Param (codes "e") 34 52 ((leaf N.Plain (codes "EngineParameters") 34 50) ∷ [])) ∷
    (node N.Block [] 54 116 (
    (node N.Run [] 66 113 (
    (node N.Call (codes "addKernel") 66 113 (
    (node N.New (codes "Other") 76 112 (
    (node N.Call (codes "makeKernelParameters") 86 111 (
    (leaf N.Str (quoted_word (codes "A")) 107 110) ∷ [])) ∷ [])) ∷ [])) ∷ [])) ∷ []))
    ∷ [])) ∷ []))

unknown_class-plan : managed unknown_class ≡ Err (E.UnknownName 76)
unfolding unknown_class expr row_of plan_of call_to
unknown_class-plan = refl

-- class M extends CustomManager { M(EngineParameters e) { super(e); new
-- Pass(makeKernelParameters("A")); } }
not_added : Tree
not_added =
    (node N.Class (codes "M") 0 106 (
    (node N.Ctor (codes "M") 32 104 (
    (node N.Param (codes "e") 34 52 ((leaf N.Plain (codes "EngineParameters") 34 50) ∷ [])) ∷
    (node N.Block [] 54 104 (
    (node N.Run [] 66 101 (
    (node N.New (codes "Pass") 66 101 (
    (node N.Call (codes "makeKernelParameters") 75 100 (
    (leaf N.Str (quoted_word (codes "A")) 96 99) ∷ [])) ∷ [])) ∷ [])) ∷ [])) ∷ []))
    ∷ []))

not_added-plan : managed not_added ≡ Err (E.UnknownName 66)
unfolding not_added expr row_of plan_of call_to
not_added-plan = refl

-- class M extends CustomManager { M(EngineParameters e) { super(e);
-- addKernel(makeKernelParameters("A")); } }
not_new : Tree
not_new =
    (node N.Class (codes "M") 0 107 (
    (node N.Ctor (codes "M") 32 105 (
    (node N.Param (codes "e") 34 52 ((leaf N.Plain (codes "EngineParameters") 34 50) ∷ [])) ∷
    (node N.Block [] 54 105 (
    (node N.Run [] 66 102 (
    (node N.Call (codes "addKernel") 66 102 (
    (node N.Call (codes "makeKernelParameters") 76 101 (
    (leaf N.Str (quoted_word (codes "A")) 97 100) ∷ [])) ∷ [])) ∷ [])) ∷ [])) ∷ []))
    ∷ []))

not_new-plan : managed not_new ≡ Err (E.UnknownName 76)
unfolding not_new expr row_of plan_of call_to
not_new-plan = refl

-- class M extends CustomManager { M(EngineParameters e) { super(e); addKernel(3); } }
a_number_added : Tree
a_number_added =
    (node N.Class (codes "M") 0 83 (
    (node N.Ctor (codes "M") 32 81 (
    (node N.Param (codes "e") 34 52 ((leaf N.Plain (codes "EngineParameters") 34 50) ∷ [])) ∷
    (node N.Block [] 54 81 (
    (node N.Run [] 66 78 (
    (node N.Call (codes "addKernel") 66 78 (
    (leaf N.Whole (codes "3") 76 77) ∷ [])) ∷ [])) ∷ [])) ∷ [])) ∷ []))

a_number_added-plan : managed a_number_added ≡ Err (E.WrongKind 66)
unfolding a_number_added expr row_of plan_of call_to
a_number_added-plan = refl

-- class M extends CustomManager { M(EngineParameters e) { super(e); addKernel(new Pass(3)); } }
no_settings : Tree
no_settings =
    (node N.Class (codes "M") 0 93 (
    (node N.Ctor (codes "M") 32 91 (
    (node N.Param (codes "e") 34 52 ((leaf N.Plain (codes "EngineParameters") 34 50) ∷ [])) ∷
    (node N.Block [] 54 91 (
    (node N.Run [] 66 88 (
    (node N.Call (codes "addKernel") 66 88 (
    (node N.New (codes "Pass") 76 87 (
    (leaf N.Whole (codes "3") 85 86) ∷ [])) ∷ [])) ∷ [])) ∷ [])) ∷ [])) ∷ []))

no_settings-plan : managed no_settings ≡ Err (E.WrongKind 76)
unfolding no_settings expr row_of plan_of call_to
no_settings-plan = refl

-- class M extends CustomManager { M(EngineParameters e) { super(e); addKernel(new Pass()); } }
nothing_handed : Tree
nothing_handed =
    (node N.Class (codes "M") 0 92 (
    (node N.Ctor (codes "M") 32 90 (
    (node N.Param (codes "e") 34 52 ((leaf N.Plain (codes "EngineParameters") 34 50) ∷ [])) ∷
    (node N.Block [] 54 90 (
    (node N.Run [] 66 87 (
    (node N.Call (codes "addKernel") 66 87 (
    (leaf N.New (codes "Pass") 76 86) ∷ [])) ∷ [])) ∷ [])) ∷ [])) ∷ []))

nothing_handed-plan : managed nothing_handed ≡ Err (E.UnknownName 76)
unfolding nothing_handed expr row_of plan_of call_to
nothing_handed-plan = refl

-- class M extends CustomManager { M(EngineParameters e) { super(e); DFEVar x = io.input("x",
-- dfeUInt(8)); } }
of_kernels_alone : Tree
of_kernels_alone =
    (node N.Class (codes "M") 0 107 (
    (node N.Ctor (codes "M") 32 105 (
    (node N.Param (codes "e") 34 52 ((leaf N.Plain (codes "EngineParameters") 34 50) ∷ [])) ∷
    (node N.Block [] 54 105 (
    (node N.Local (codes "x") 66 103 (
    (leaf N.Plain (codes "DFEVar") 66 72) ∷
    (node N.DotCall (codes "input") 77 102 (
    (leaf N.Name (codes "io") 77 79) ∷
    (leaf N.Str (quoted_word (codes "x")) 86 89) ∷
    (node N.Call (codes "dfeUInt") 91 101 (
    (leaf N.Whole (codes "8") 99 100) ∷ [])) ∷ [])) ∷ [])) ∷ [])) ∷ [])) ∷ []))

of_kernels_alone-plan : managed of_kernels_alone ≡ Err (E.UnknownName 77)
unfolding of_kernels_alone expr row_of plan_of call_to
of_kernels_alone-plan = refl

-- class M extends CustomManager { M(EngineParameters e) { super(e); addStreamFromCPU("x y"); } }
bad_stream_name : Tree
bad_stream_name =
    (node N.Class (codes "M") 0 94 (
    (node N.Ctor (codes "M") 32 92 (
    (node N.Param (codes "e") 34 52 ((leaf N.Plain (codes "EngineParameters") 34 50) ∷ [])) ∷
    (node N.Block [] 54 92 (
    (node N.Run [] 66 89 (
    (node N.Call (codes "addStreamFromCPU") 66 89 (
    (leaf N.Str (quoted_word (codes "x y")) 83 88) ∷ [])) ∷ [])) ∷ [])) ∷ [])) ∷ []))

bad_stream_name-plan : managed bad_stream_name ≡ Err (E.BadPortName 66)
unfolding bad_stream_name expr row_of plan_of call_to
bad_stream_name-plan = refl

-- class M extends CustomManager { M(EngineParameters e) { super(e); int a = addStreamFromCPU("x");
-- } }
a_link_as_number : Tree
a_link_as_number =
    (node N.Class (codes "M") 0 100 (
    (node N.Ctor (codes "M") 32 98 (
    (node N.Param (codes "e") 34 52 ((leaf N.Plain (codes "EngineParameters") 34 50) ∷ [])) ∷
    (node N.Block [] 54 98 (
    (node N.Local (codes "a") 66 96 (
    (leaf N.Plain (codes "int") 66 69) ∷
    (node N.Call (codes "addStreamFromCPU") 74 95 (
    (leaf N.Str (quoted_word (codes "x")) 91 94) ∷ [])) ∷ [])) ∷ [])) ∷ [])) ∷ []))

a_link_as_number-plan : managed a_link_as_number ≡ Err (E.WrongKind 66)
unfolding a_link_as_number expr row_of plan_of call_to
a_link_as_number-plan = refl

-- class M extends CustomManager { KernelBlock one(String name) { return addKernel(new
-- Pass(makeKernelParameters(name))); } M(EngineParameters e) { super(e); KernelBlock a = one("A");
-- KernelBlock b = one("B"); b.getInput("x") <== a.getOutput("y"); } }
by_a_method : Tree
by_a_method =
    (node N.Class (codes "M") 0 248 (
    (node N.Method (codes "one") 32 120 (
    (leaf N.Plain (codes "KernelBlock") 32 43) ∷
    (node N.Param (codes "name") 48 59 ((leaf N.Plain (codes "String") 48 54) ∷ [])) ∷
    (node N.Block [] 61 120 (
    (node N.Return [] 63 118 (
    (node N.Call (codes "addKernel") 70 117 (
    (node N.New (codes "Pass") 80 116 (
    (node N.Call (codes "makeKernelParameters") 89 115 (
    (leaf N.Name (codes "name") 110 114) ∷ [])) ∷ [])) ∷ [])) ∷ [])) ∷ [])) ∷ [])) ∷
    (node N.Ctor (codes "M") 121 246 (
    (node N.Param (codes "e") 123 141 (
    (leaf N.Plain (codes "EngineParameters") 123 139) ∷ [])) ∷
    (node N.Block [] 143 246 (
    (node N.Local (codes "a") 155 180 (
    (leaf N.Plain (codes "KernelBlock") 155 166) ∷
    (node N.Call (codes "one") 171 179 (
    (leaf N.Str (quoted_word (codes "A")) 175 178) ∷ [])) ∷ [])) ∷
    (node N.Local (codes "b") 181 206 (
    (leaf N.Plain (codes "KernelBlock") 181 192) ∷
    (node N.Call (codes "one") 197 205 (
    (leaf N.Str (quoted_word (codes "B")) 201 204) ∷ [])) ∷ [])) ∷
    (node N.Connect [] 207 243 (
    (node N.DotCall (codes "getInput") 207 222 (
    (leaf N.Name (codes "b") 207 208) ∷
    (leaf N.Str (quoted_word (codes "x")) 218 221) ∷ [])) ∷
    (node N.DotCall (codes "getOutput") 227 243 (
    (leaf N.Name (codes "a") 227 228) ∷
    (leaf N.Str (quoted_word (codes "y")) 239 242) ∷ [])) ∷ [])) ∷ [])) ∷ [])) ∷ []))

by_a_method-plan : managed by_a_method
    ≡ Ok (built (kernel (codes "A") 2 ([]) ∷ kernel (codes "B") 2 ([]) ∷ []) ([]) ([])
    (join (P.Kernel 1 (codes "x")) (P.Kernel 0 (codes "y")) ∷ []))
unfolding by_a_method expr row_of plan_of call_to
by_a_method-plan = refl
