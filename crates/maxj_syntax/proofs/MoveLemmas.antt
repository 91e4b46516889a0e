-- Made by tools/source_grammar.py from tools/source_grammar.txt.
-- The table holds the family of moves, and no more.
use Rattle.std.proofs.Common.{List, inl, inr, refl, subst}
use Rattle.maxj_syntax.specs.declared.level.Level.{Level}
use Rattle.maxj_syntax.specs.declared.symbol.ClassKind.{ClassKind}
use Rattle.maxj_syntax.specs.declared.symbol.Form.{Form}
use Rattle.maxj_syntax.specs.declared.symbol.Site.{Site}
use Rattle.maxj_syntax.specs.declared.symbol.Rule.{Rule}
use Rattle.maxj_syntax.specs.declared.symbol.Rule.TheVariants as R
use Rattle.maxj_syntax.specs.Symbols.{Symbol}
use Rattle.maxj_syntax.specs.Productions.{Above}
use Rattle.maxj_syntax.specs.Moves.{Move}
use Rattle.maxj_syntax.specs.Choosing.{Among}
use Rattle.maxj_syntax.specs.Table.{choices}

pub from_move : {r : Rule} {qs : List Symbol} → Move r qs → Among qs (choices r)
from_move Move.file = inl refl
from_move Move.package_line = inl refl
from_move Move.no_package = inr (inl refl)
from_move Move.path = inl refl
from_move Move.more_path = inl refl
from_move Move.no_more_path = inr (inl refl)
from_move Move.imports = inl refl
from_move Move.no_imports = inr (inl refl)
from_move Move.static = inl refl
from_move Move.not_static = inr (inl refl)
from_move Move.import_more = inl refl
from_move Move.no_import_more = inr (inl refl)
from_move Move.import_name = inl refl
from_move Move.import_all = inr (inl refl)
from_move Move.classes = inl refl
from_move Move.no_classes = inr (inl refl)
from_move Move.class = inl refl
from_move Move.mods = inl refl
from_move Move.no_mods = inr (inl refl)
from_move Move.declares_field = inl refl
from_move Move.declares_value = inr (inl refl)
from_move Move.declares_method = inr (inr (inl refl))
from_move Move.method_rest = inl refl
from_move Move.params = inl refl
from_move Move.no_params = inr (inl refl)
from_move Move.more_params = inl refl
from_move Move.no_more_params = inr (inl refl)
from_move Move.param = inl refl
from_move Move.final = inl refl
from_move Move.not_final = inr (inl refl)
from_move Move.kernel_opening = inl refl
from_move Move.manager_opening = inl refl
from_move Move.kernel_opened = inl refl
from_move Move.manager_opened = inl refl
from_move Move.super_rest = inl refl
from_move Move.type_name = inl refl
from_move Move.type_memory = inr (inl refl)
from_move Move.type_word = inr (inr (inl refl))
from_move Move.memory_type = inl refl
from_move Move.no_memory_type = inr (inl refl)
from_move Move.dims = inl refl
from_move Move.no_dims = inr (inl refl)
from_move Move.expr = inl refl
from_move Move.cond = inl refl
from_move Move.no_cond = inr (inl refl)
from_move (Move.operand Above.products) = inl refl
from_move (Move.operand Above.sums) = inl refl
from_move (Move.operand Above.shifts) = inl refl
from_move (Move.operand Above.orders) = inl refl
from_move (Move.operand Above.equalities) = inl refl
from_move (Move.operand Above.bit_ands) = inl refl
from_move (Move.operand Above.bit_xors) = inl refl
from_move (Move.operand Above.bit_ors) = inl refl
from_move (Move.operand Above.ands) = inl refl
from_move (Move.operand Above.ors) = inl refl
from_move (Move.tail Above.products) = inl refl
from_move (Move.tail Above.sums) = inl refl
from_move (Move.tail Above.shifts) = inl refl
from_move (Move.tail Above.orders) = inl refl
from_move (Move.tail Above.equalities) = inl refl
from_move (Move.tail Above.bit_ands) = inl refl
from_move (Move.tail Above.bit_xors) = inl refl
from_move (Move.tail Above.bit_ors) = inl refl
from_move (Move.tail Above.ands) = inl refl
from_move (Move.tail Above.ors) = inl refl
from_move (Move.no_tail {k = Level.Prefixes}) = inl refl
from_move (Move.no_tail {k = Level.Products}) = inr (inl refl)
from_move (Move.no_tail {k = Level.Sums}) = inr (inl refl)
from_move (Move.no_tail {k = Level.Shifts}) = inr (inl refl)
from_move (Move.no_tail {k = Level.Orders}) = inr (inl refl)
from_move (Move.no_tail {k = Level.Equalities}) = inr (inl refl)
from_move (Move.no_tail {k = Level.BitAnds}) = inr (inl refl)
from_move (Move.no_tail {k = Level.BitXors}) = inr (inl refl)
from_move (Move.no_tail {k = Level.BitOrs}) = inr (inl refl)
from_move (Move.no_tail {k = Level.Ands}) = inr (inl refl)
from_move (Move.no_tail {k = Level.Ors}) = inr (inl refl)
from_move Move.prefix = inl refl
from_move Move.no_prefix = inr (inl refl)
from_move Move.literal = inl refl
from_move Move.value_word = inr (inl refl)
from_move Move.name = inr (inr (inl refl))
from_move Move.parentheses = inr (inr (inr (inl refl)))
from_move Move.new = inr (inr (inr (inr (inl refl))))
from_move Move.called = inl refl
from_move Move.not_called = inr (inl refl)
from_move Move.args = inl refl
from_move Move.no_args = inr (inl refl)
from_move Move.more_args = inl refl
from_move Move.no_more_args = inr (inl refl)
from_move Move.dot = inl refl
from_move Move.index = inr (inl refl)
from_move Move.no_post = inr (inr (inl refl))
from_move Move.dot_call = inl refl
from_move Move.dot_name = inr (inl refl)
from_move Move.new_name = inl refl
from_move Move.new_memory = inr (inl refl)
from_move Move.new_word = inr (inr (inl refl))
from_move Move.new_memories = inl refl
from_move Move.new_plain_memory = inr (inl refl)
from_move Move.new_call = inl refl
from_move Move.new_array = inr (inl refl)
from_move Move.fresh_dot = inl refl
from_move Move.no_fresh_dot = inr (inl refl)
from_move Move.sizes = inl refl
from_move Move.more_sizes = inl refl
from_move Move.no_more_sizes = inr (inl refl)
from_move Move.simple_name = inl refl
from_move Move.simple_other = inr (inl refl)
from_move Move.name_called = inl refl
from_move Move.name_place = inr (inl refl)
from_move Move.other_prefix = inl refl
from_move Move.other_literal = inr (inl refl)
from_move Move.other_value = inr (inr (inl refl))
from_move Move.other_parentheses = inr (inr (inr (inl refl)))
from_move Move.other_new = inr (inr (inr (inr (inl refl))))
from_move Move.stmt_new_name = inl refl
from_move Move.stmt_new_memory = inr (inl refl)
from_move Move.stmt_new_word = inr (inr (inl refl))
from_move Move.stmt_new_memories = inl refl
from_move Move.stmt_new_plain_memory = inr (inl refl)
from_move Move.stmt_new_call = inl refl
from_move Move.stmt_new_array = inr (inl refl)
from_move Move.place_index = inl refl
from_move Move.place_bare = inr (inl refl)
from_move Move.set = inl refl
from_move Move.count = inr (inl refl)
from_move Move.bare_dot = inr (inr (inl refl))
from_move Move.bare_onward = inr (inr (inr (inl refl)))
from_move Move.call_index = inl refl
from_move Move.call_dot = inr (inl refl)
from_move Move.call_onward = inr (inr (inl refl))
from_move Move.run = inr (inr (inr (inl refl)))
from_move Move.free_index = inl refl
from_move Move.free_dot = inr (inl refl)
from_move Move.free_onward = inr (inr (inl refl))
from_move Move.array_dot = inl refl
from_move Move.array_onward = inr (inl refl)
from_move Move.dotted_call = inl refl
from_move Move.dotted_name = inr (inl refl)
from_move Move.init = inl refl
from_move Move.braces = inr (inl refl)
from_move Move.inits = inl refl
from_move Move.no_inits = inr (inl refl)
from_move Move.more_inits = inl refl
from_move Move.no_more_inits = inr (inl refl)
from_move Move.block = inl refl
from_move Move.stmts = inl refl
from_move Move.no_stmts = inr (inl refl)
from_move Move.stmt_block = inl refl
from_move Move.stmt_final = inr (inl refl)
from_move Move.stmt_word = inr (inr (inl refl))
from_move Move.stmt_name = inr (inr (inr (inl refl)))
from_move Move.stmt_memory = inr (inr (inr (inr (inl refl))))
from_move Move.stmt_return = inr (inr (inr (inr (inr (inl refl)))))
from_move Move.stmt_if = inr (inr (inr (inr (inr (inr (inl refl))))))
from_move Move.stmt_while = inr (inr (inr (inr (inr (inr (inr (inl refl)))))))
from_move Move.stmt_for = inr (inr (inr (inr (inr (inr (inr (inr (inl refl))))))))
from_move Move.stmt_empty = inr (inr (inr (inr (inr (inr (inr (inr (inr (inl refl)))))))))
from_move Move.stmt_other = inr (inr (inr (inr (inr (inr (inr (inr (inr (inr (inl refl))))))))))
from_move (Move.then_name {d = Site.Alone}) = inl refl
from_move (Move.then_name {d = Site.Loop}) = inl refl
from_move (Move.then_bracket {d = Site.Alone}) = inr (inl refl)
from_move (Move.then_bracket {d = Site.Loop}) = inr (inl refl)
from_move (Move.then_called {d = Site.Alone}) = inr (inr (inl refl))
from_move (Move.then_called {d = Site.Loop}) = inr (inr (inl refl))
from_move (Move.then_bare {d = Site.Alone}) = inr (inr (inr (inl refl)))
from_move (Move.then_bare {d = Site.Loop}) = inr (inr (inr (inl refl)))
from_move (Move.then_dims {d = Site.Alone}) = inl refl
from_move (Move.then_dims {d = Site.Loop}) = inl refl
from_move (Move.then_index {d = Site.Alone}) = inr (inl refl)
from_move (Move.then_index {d = Site.Loop}) = inr (inl refl)
from_move Move.declared = inl refl
from_move Move.declared_init = inr (inl refl)
from_move Move.declared_loop = inl refl
from_move Move.return_none = inl refl
from_move Move.return_value = inr (inl refl)
from_move Move.else_tail = inl refl
from_move Move.no_else = inr (inl refl)
from_move Move.else_if = inl refl
from_move Move.otherwise = inr (inl refl)
from_move Move.body_block = inl refl
from_move Move.body_return = inr (inl refl)
from_move Move.body_simple = inr (inr (inl refl))
from_move Move.first_word = inl refl
from_move Move.first_name = inr (inl refl)
from_move Move.first_memory = inr (inr (inl refl))
from_move Move.first_other = inr (inr (inr (inl refl)))
from_move Move.no_first = inr (inr (inr (inr (inl refl))))
from_move Move.test = inl refl
from_move Move.no_test = inr (inl refl)
from_move Move.step = inl refl
from_move Move.no_step = inr (inl refl)
from_move (Move.memory_name {d = Site.Alone}) = inl refl
from_move (Move.memory_name {d = Site.Loop}) = inl refl
from_move (Move.memory_bracket {d = Site.Alone}) = inr (inl refl)
from_move (Move.memory_bracket {d = Site.Loop}) = inr (inl refl)
from_move (Move.memory_called {d = Site.Alone}) = inr (inr (inl refl))
from_move (Move.memory_called {d = Site.Loop}) = inr (inr (inl refl))
from_move (Move.memory_less {d = Site.Alone}) = inr (inr (inr (inl refl)))
from_move (Move.memory_less {d = Site.Loop}) = inr (inr (inr (inl refl)))
from_move (Move.memory_bare {d = Site.Alone}) = inr (inr (inr (inr (inl refl))))
from_move (Move.memory_bare {d = Site.Loop}) = inr (inr (inr (inr (inl refl))))
from_move (Move.less_dfevar {d = Site.Alone}) = inl refl
from_move (Move.less_dfevar {d = Site.Loop}) = inl refl
from_move (Move.less_other {d = Site.Alone}) = inr (inl refl)
from_move (Move.less_other {d = Site.Loop}) = inr (inl refl)
from_move (Move.dfevar_greater {d = Site.Alone}) = inl refl
from_move (Move.dfevar_greater {d = Site.Loop}) = inl refl
from_move (Move.dfevar_further {d = Site.Alone}) = inr (inl refl)
from_move (Move.dfevar_further {d = Site.Loop}) = inr (inl refl)
from_move (Move.dfevar_tighter {d = Site.Alone}) = inr (inr (inl refl))
from_move (Move.dfevar_tighter {d = Site.Loop}) = inr (inr (inl refl))
from_move (Move.dfevar_order {d = Site.Alone}) = inr (inr (inr (inl refl)))
from_move (Move.dfevar_order {d = Site.Loop}) = inr (inr (inr (inl refl)))
from_move (Move.dfevar_looser {d = Site.Alone}) = inr (inr (inr (inr (inl refl))))
from_move (Move.dfevar_looser {d = Site.Loop}) = inr (inr (inr (inr (inl refl))))
from_move (Move.greater_name {d = Site.Alone}) = inl refl
from_move (Move.greater_name {d = Site.Loop}) = inl refl
from_move (Move.greater_dims {d = Site.Alone}) = inr (inl refl)
from_move (Move.greater_dims {d = Site.Loop}) = inr (inl refl)
from_move (Move.greater_other {d = Site.Alone}) = inr (inr (inl refl))
from_move (Move.greater_other {d = Site.Loop}) = inr (inr (inl refl))
from_move (Move.memory_declared {d = Site.Alone}) = inl refl
from_move (Move.memory_declared {d = Site.Loop}) = inl refl
from_move (Move.memory_further {d = Site.Alone}) = inr (inl refl)
from_move (Move.memory_further {d = Site.Loop}) = inr (inl refl)
from_move Move.memory_set = inl refl
from_move Move.memory_count = inr (inl refl)
from_move Move.memory_dot = inr (inr (inl refl))
from_move Move.memory_tighter = inr (inr (inr (inl refl)))
from_move Move.memory_order = inr (inr (inr (inr (inl refl))))
from_move Move.memory_looser = inr (inr (inr (inr (inr (inl refl)))))
from_move Move.other_name = inl refl
from_move Move.other_nameless = inr (inl refl)
from_move Move.nameless_prefix = inl refl
from_move Move.nameless_literal = inr (inl refl)
from_move Move.nameless_value = inr (inr (inl refl))
from_move Move.nameless_parentheses = inr (inr (inr (inl refl)))
from_move Move.nameless_new = inr (inr (inr (inr (inl refl))))
from_move Move.further_called = inl refl
from_move Move.further_dot = inr (inl refl)
from_move Move.further_index = inr (inr (inl refl))
from_move Move.tighter_product = inl refl
from_move Move.tighter_sum = inr (inl refl)
from_move Move.tighter_shift = inr (inr (inl refl))

pub to_move : (r : Rule) (qs : List Symbol) → Among qs (choices r) → Move r qs
to_move R.File qs a = elim a [ inl e0 ↦ subst (λ l. Move R.File l) e0 Move.file | inr a0 ↦ absurd a0 ]
to_move R.Package qs a = elim a [ inl e0 ↦ subst (λ l. Move R.Package l) e0 Move.package_line | inr a0 ↦ elim a0 [ inl e1 ↦ subst (λ l. Move R.Package l) e1 Move.no_package | inr a1 ↦ absurd a1 ] ]
to_move R.Path qs a = elim a [ inl e0 ↦ subst (λ l. Move R.Path l) e0 Move.path | inr a0 ↦ absurd a0 ]
to_move R.MorePath qs a = elim a [ inl e0 ↦ subst (λ l. Move R.MorePath l) e0 Move.more_path | inr a0 ↦ elim a0 [ inl e1 ↦ subst (λ l. Move R.MorePath l) e1 Move.no_more_path | inr a1 ↦ absurd a1 ] ]
to_move R.Imports qs a = elim a [ inl e0 ↦ subst (λ l. Move R.Imports l) e0 Move.imports | inr a0 ↦ elim a0 [ inl e1 ↦ subst (λ l. Move R.Imports l) e1 Move.no_imports | inr a1 ↦ absurd a1 ] ]
to_move R.MaybeStatic qs a = elim a [
  | inl e0 ↦ subst (λ l. Move R.MaybeStatic l) e0 Move.static
  | inr a0 ↦ elim a0 [ inl e1 ↦ subst (λ l. Move R.MaybeStatic l) e1 Move.not_static | inr a1 ↦ absurd a1 ]
]
to_move R.ImportMore qs a = elim a [
  | inl e0 ↦ subst (λ l. Move R.ImportMore l) e0 Move.import_more
  | inr a0 ↦ elim a0 [ inl e1 ↦ subst (λ l. Move R.ImportMore l) e1 Move.no_import_more | inr a1 ↦ absurd a1 ]
]
to_move R.ImportDot qs a = elim a [
  | inl e0 ↦ subst (λ l. Move R.ImportDot l) e0 Move.import_name
  | inr a0 ↦ elim a0 [ inl e1 ↦ subst (λ l. Move R.ImportDot l) e1 Move.import_all | inr a1 ↦ absurd a1 ]
]
to_move R.Classes qs a = elim a [ inl e0 ↦ subst (λ l. Move R.Classes l) e0 Move.classes | inr a0 ↦ elim a0 [ inl e1 ↦ subst (λ l. Move R.Classes l) e1 Move.no_classes | inr a1 ↦ absurd a1 ] ]
to_move R.Class qs a = elim a [ inl e0 ↦ subst (λ l. Move R.Class l) e0 Move.class | inr a0 ↦ absurd a0 ]
to_move R.Mods qs a = elim a [ inl e0 ↦ subst (λ l. Move R.Mods l) e0 Move.mods | inr a0 ↦ elim a0 [ inl e1 ↦ subst (λ l. Move R.Mods l) e1 Move.no_mods | inr a1 ↦ absurd a1 ] ]
to_move R.Declares qs a = elim a [
  | inl e0 ↦ subst (λ l. Move R.Declares l) e0 Move.declares_field
  | inr a0 ↦ elim a0 [ inl e1 ↦ subst (λ l. Move R.Declares l) e1 Move.declares_value | inr a1 ↦ elim a1 [ inl e2 ↦ subst (λ l. Move R.Declares l) e2 Move.declares_method | inr a2 ↦ absurd a2 ] ]
]
to_move R.MethodRest qs a = elim a [ inl e0 ↦ subst (λ l. Move R.MethodRest l) e0 Move.method_rest | inr a0 ↦ absurd a0 ]
to_move R.Params qs a = elim a [ inl e0 ↦ subst (λ l. Move R.Params l) e0 Move.params | inr a0 ↦ elim a0 [ inl e1 ↦ subst (λ l. Move R.Params l) e1 Move.no_params | inr a1 ↦ absurd a1 ] ]
to_move R.MoreParams qs a = elim a [
  | inl e0 ↦ subst (λ l. Move R.MoreParams l) e0 Move.more_params
  | inr a0 ↦ elim a0 [ inl e1 ↦ subst (λ l. Move R.MoreParams l) e1 Move.no_more_params | inr a1 ↦ absurd a1 ]
]
to_move R.Param qs a = elim a [ inl e0 ↦ subst (λ l. Move R.Param l) e0 Move.param | inr a0 ↦ absurd a0 ]
to_move R.MaybeFinal qs a = elim a [ inl e0 ↦ subst (λ l. Move R.MaybeFinal l) e0 Move.final | inr a0 ↦ elim a0 [ inl e1 ↦ subst (λ l. Move R.MaybeFinal l) e1 Move.not_final | inr a1 ↦ absurd a1 ] ]
to_move (R.Opening ClassKind.Kernel) qs a = elim a [ inl e0 ↦ subst (λ l. Move (R.Opening ClassKind.Kernel) l) e0 Move.kernel_opening | inr a0 ↦ absurd a0 ]
to_move (R.Opening ClassKind.Manager) qs a = elim a [ inl e0 ↦ subst (λ l. Move (R.Opening ClassKind.Manager) l) e0 Move.manager_opening | inr a0 ↦ absurd a0 ]
to_move (R.Opened ClassKind.Kernel) qs a = elim a [ inl e0 ↦ subst (λ l. Move (R.Opened ClassKind.Kernel) l) e0 Move.kernel_opened | inr a0 ↦ absurd a0 ]
to_move (R.Opened ClassKind.Manager) qs a = elim a [ inl e0 ↦ subst (λ l. Move (R.Opened ClassKind.Manager) l) e0 Move.manager_opened | inr a0 ↦ absurd a0 ]
to_move R.SuperRest qs a = elim a [ inl e0 ↦ subst (λ l. Move R.SuperRest l) e0 Move.super_rest | inr a0 ↦ absurd a0 ]
to_move R.TypeName qs a = elim a [
  | inl e0 ↦ subst (λ l. Move R.TypeName l) e0 Move.type_name
  | inr a0 ↦ elim a0 [ inl e1 ↦ subst (λ l. Move R.TypeName l) e1 Move.type_memory | inr a1 ↦ elim a1 [ inl e2 ↦ subst (λ l. Move R.TypeName l) e2 Move.type_word | inr a2 ↦ absurd a2 ] ]
]
to_move R.MemoryType qs a = elim a [
  | inl e0 ↦ subst (λ l. Move R.MemoryType l) e0 Move.memory_type
  | inr a0 ↦ elim a0 [ inl e1 ↦ subst (λ l. Move R.MemoryType l) e1 Move.no_memory_type | inr a1 ↦ absurd a1 ]
]
to_move R.Dims qs a = elim a [ inl e0 ↦ subst (λ l. Move R.Dims l) e0 Move.dims | inr a0 ↦ elim a0 [ inl e1 ↦ subst (λ l. Move R.Dims l) e1 Move.no_dims | inr a1 ↦ absurd a1 ] ]
to_move R.Expr qs a = elim a [ inl e0 ↦ subst (λ l. Move R.Expr l) e0 Move.expr | inr a0 ↦ absurd a0 ]
to_move R.CondTail qs a = elim a [ inl e0 ↦ subst (λ l. Move R.CondTail l) e0 Move.cond | inr a0 ↦ elim a0 [ inl e1 ↦ subst (λ l. Move R.CondTail l) e1 Move.no_cond | inr a1 ↦ absurd a1 ] ]
to_move (R.Operand Level.Prefixes) qs a = elim a [
  | inl e0 ↦ subst (λ l. Move (R.Operand Level.Prefixes) l) e0 Move.prefix
  | inr a0 ↦ elim a0 [ inl e1 ↦ subst (λ l. Move (R.Operand Level.Prefixes) l) e1 Move.no_prefix | inr a1 ↦ absurd a1 ]
]
to_move (R.Operand Level.Products) qs a = elim a [ inl e0 ↦ subst (λ l. Move (R.Operand Level.Products) l) e0 (Move.operand Above.products) | inr a0 ↦ absurd a0 ]
to_move (R.Operand Level.Sums) qs a = elim a [ inl e0 ↦ subst (λ l. Move (R.Operand Level.Sums) l) e0 (Move.operand Above.sums) | inr a0 ↦ absurd a0 ]
to_move (R.Operand Level.Shifts) qs a = elim a [ inl e0 ↦ subst (λ l. Move (R.Operand Level.Shifts) l) e0 (Move.operand Above.shifts) | inr a0 ↦ absurd a0 ]
to_move (R.Operand Level.Orders) qs a = elim a [ inl e0 ↦ subst (λ l. Move (R.Operand Level.Orders) l) e0 (Move.operand Above.orders) | inr a0 ↦ absurd a0 ]
to_move (R.Operand Level.Equalities) qs a = elim a [ inl e0 ↦ subst (λ l. Move (R.Operand Level.Equalities) l) e0 (Move.operand Above.equalities) | inr a0 ↦ absurd a0 ]
to_move (R.Operand Level.BitAnds) qs a = elim a [ inl e0 ↦ subst (λ l. Move (R.Operand Level.BitAnds) l) e0 (Move.operand Above.bit_ands) | inr a0 ↦ absurd a0 ]
to_move (R.Operand Level.BitXors) qs a = elim a [ inl e0 ↦ subst (λ l. Move (R.Operand Level.BitXors) l) e0 (Move.operand Above.bit_xors) | inr a0 ↦ absurd a0 ]
to_move (R.Operand Level.BitOrs) qs a = elim a [ inl e0 ↦ subst (λ l. Move (R.Operand Level.BitOrs) l) e0 (Move.operand Above.bit_ors) | inr a0 ↦ absurd a0 ]
to_move (R.Operand Level.Ands) qs a = elim a [ inl e0 ↦ subst (λ l. Move (R.Operand Level.Ands) l) e0 (Move.operand Above.ands) | inr a0 ↦ absurd a0 ]
to_move (R.Operand Level.Ors) qs a = elim a [ inl e0 ↦ subst (λ l. Move (R.Operand Level.Ors) l) e0 (Move.operand Above.ors) | inr a0 ↦ absurd a0 ]
to_move (R.Tail Level.Prefixes) qs a = elim a [ inl e0 ↦ subst (λ l. Move (R.Tail Level.Prefixes) l) e0 (Move.no_tail {k = Level.Prefixes}) | inr a0 ↦ absurd a0 ]
to_move (R.Tail Level.Products) qs a = elim a [
  | inl e0 ↦ subst (λ l. Move (R.Tail Level.Products) l) e0 (Move.tail Above.products)
  | inr a0 ↦ elim a0 [ inl e1 ↦ subst (λ l. Move (R.Tail Level.Products) l) e1 (Move.no_tail {k = Level.Products}) | inr a1 ↦ absurd a1 ]
]
to_move (R.Tail Level.Sums) qs a = elim a [
  | inl e0 ↦ subst (λ l. Move (R.Tail Level.Sums) l) e0 (Move.tail Above.sums)
  | inr a0 ↦ elim a0 [ inl e1 ↦ subst (λ l. Move (R.Tail Level.Sums) l) e1 (Move.no_tail {k = Level.Sums}) | inr a1 ↦ absurd a1 ]
]
to_move (R.Tail Level.Shifts) qs a = elim a [
  | inl e0 ↦ subst (λ l. Move (R.Tail Level.Shifts) l) e0 (Move.tail Above.shifts)
  | inr a0 ↦ elim a0 [ inl e1 ↦ subst (λ l. Move (R.Tail Level.Shifts) l) e1 (Move.no_tail {k = Level.Shifts}) | inr a1 ↦ absurd a1 ]
]
to_move (R.Tail Level.Orders) qs a = elim a [
  | inl e0 ↦ subst (λ l. Move (R.Tail Level.Orders) l) e0 (Move.tail Above.orders)
  | inr a0 ↦ elim a0 [ inl e1 ↦ subst (λ l. Move (R.Tail Level.Orders) l) e1 (Move.no_tail {k = Level.Orders}) | inr a1 ↦ absurd a1 ]
]
to_move (R.Tail Level.Equalities) qs a = elim a [
  | inl e0 ↦ subst (λ l. Move (R.Tail Level.Equalities) l) e0 (Move.tail Above.equalities)
  | inr a0 ↦ elim a0 [ inl e1 ↦ subst (λ l. Move (R.Tail Level.Equalities) l) e1 (Move.no_tail {k = Level.Equalities}) | inr a1 ↦ absurd a1 ]
]
to_move (R.Tail Level.BitAnds) qs a = elim a [
  | inl e0 ↦ subst (λ l. Move (R.Tail Level.BitAnds) l) e0 (Move.tail Above.bit_ands)
  | inr a0 ↦ elim a0 [ inl e1 ↦ subst (λ l. Move (R.Tail Level.BitAnds) l) e1 (Move.no_tail {k = Level.BitAnds}) | inr a1 ↦ absurd a1 ]
]
to_move (R.Tail Level.BitXors) qs a = elim a [
  | inl e0 ↦ subst (λ l. Move (R.Tail Level.BitXors) l) e0 (Move.tail Above.bit_xors)
  | inr a0 ↦ elim a0 [ inl e1 ↦ subst (λ l. Move (R.Tail Level.BitXors) l) e1 (Move.no_tail {k = Level.BitXors}) | inr a1 ↦ absurd a1 ]
]
to_move (R.Tail Level.BitOrs) qs a = elim a [
  | inl e0 ↦ subst (λ l. Move (R.Tail Level.BitOrs) l) e0 (Move.tail Above.bit_ors)
  | inr a0 ↦ elim a0 [ inl e1 ↦ subst (λ l. Move (R.Tail Level.BitOrs) l) e1 (Move.no_tail {k = Level.BitOrs}) | inr a1 ↦ absurd a1 ]
]
to_move (R.Tail Level.Ands) qs a = elim a [
  | inl e0 ↦ subst (λ l. Move (R.Tail Level.Ands) l) e0 (Move.tail Above.ands)
  | inr a0 ↦ elim a0 [ inl e1 ↦ subst (λ l. Move (R.Tail Level.Ands) l) e1 (Move.no_tail {k = Level.Ands}) | inr a1 ↦ absurd a1 ]
]
to_move (R.Tail Level.Ors) qs a = elim a [
  | inl e0 ↦ subst (λ l. Move (R.Tail Level.Ors) l) e0 (Move.tail Above.ors)
  | inr a0 ↦ elim a0 [ inl e1 ↦ subst (λ l. Move (R.Tail Level.Ors) l) e1 (Move.no_tail {k = Level.Ors}) | inr a1 ↦ absurd a1 ]
]
to_move R.Postfix qs a = elim a [
  | inl e0 ↦ subst (λ l. Move R.Postfix l) e0 Move.literal
  | inr a0 ↦ elim a0 [
    | inl e1 ↦ subst (λ l. Move R.Postfix l) e1 Move.value_word
    | inr a1 ↦ elim a1 [
      | inl e2 ↦ subst (λ l. Move R.Postfix l) e2 Move.name
      | inr a2 ↦ elim a2 [ inl e3 ↦ subst (λ l. Move R.Postfix l) e3 Move.parentheses | inr a3 ↦ elim a3 [ inl e4 ↦ subst (λ l. Move R.Postfix l) e4 Move.new | inr a4 ↦ absurd a4 ] ]
    ]
  ]
]
to_move R.Called qs a = elim a [ inl e0 ↦ subst (λ l. Move R.Called l) e0 Move.called | inr a0 ↦ elim a0 [ inl e1 ↦ subst (λ l. Move R.Called l) e1 Move.not_called | inr a1 ↦ absurd a1 ] ]
to_move R.Args qs a = elim a [ inl e0 ↦ subst (λ l. Move R.Args l) e0 Move.args | inr a0 ↦ elim a0 [ inl e1 ↦ subst (λ l. Move R.Args l) e1 Move.no_args | inr a1 ↦ absurd a1 ] ]
to_move R.MoreArgs qs a = elim a [ inl e0 ↦ subst (λ l. Move R.MoreArgs l) e0 Move.more_args | inr a0 ↦ elim a0 [ inl e1 ↦ subst (λ l. Move R.MoreArgs l) e1 Move.no_more_args | inr a1 ↦ absurd a1 ] ]
to_move R.Post qs a = elim a [
  | inl e0 ↦ subst (λ l. Move R.Post l) e0 Move.dot
  | inr a0 ↦ elim a0 [ inl e1 ↦ subst (λ l. Move R.Post l) e1 Move.index | inr a1 ↦ elim a1 [ inl e2 ↦ subst (λ l. Move R.Post l) e2 Move.no_post | inr a2 ↦ absurd a2 ] ]
]
to_move R.Dotted qs a = elim a [ inl e0 ↦ subst (λ l. Move R.Dotted l) e0 Move.dot_call | inr a0 ↦ elim a0 [ inl e1 ↦ subst (λ l. Move R.Dotted l) e1 Move.dot_name | inr a1 ↦ absurd a1 ] ]
to_move R.NewBase qs a = elim a [
  | inl e0 ↦ subst (λ l. Move R.NewBase l) e0 Move.new_name
  | inr a0 ↦ elim a0 [ inl e1 ↦ subst (λ l. Move R.NewBase l) e1 Move.new_memory | inr a1 ↦ elim a1 [ inl e2 ↦ subst (λ l. Move R.NewBase l) e2 Move.new_word | inr a2 ↦ absurd a2 ] ]
]
to_move R.NewMemory qs a = elim a [
  | inl e0 ↦ subst (λ l. Move R.NewMemory l) e0 Move.new_memories
  | inr a0 ↦ elim a0 [ inl e1 ↦ subst (λ l. Move R.NewMemory l) e1 Move.new_plain_memory | inr a1 ↦ absurd a1 ]
]
to_move R.NewRest qs a = elim a [ inl e0 ↦ subst (λ l. Move R.NewRest l) e0 Move.new_call | inr a0 ↦ elim a0 [ inl e1 ↦ subst (λ l. Move R.NewRest l) e1 Move.new_array | inr a1 ↦ absurd a1 ] ]
to_move R.FreshTail qs a = elim a [
  | inl e0 ↦ subst (λ l. Move R.FreshTail l) e0 Move.fresh_dot
  | inr a0 ↦ elim a0 [ inl e1 ↦ subst (λ l. Move R.FreshTail l) e1 Move.no_fresh_dot | inr a1 ↦ absurd a1 ]
]
to_move R.Sizes qs a = elim a [ inl e0 ↦ subst (λ l. Move R.Sizes l) e0 Move.sizes | inr a0 ↦ absurd a0 ]
to_move R.MoreSizes qs a = elim a [
  | inl e0 ↦ subst (λ l. Move R.MoreSizes l) e0 Move.more_sizes
  | inr a0 ↦ elim a0 [ inl e1 ↦ subst (λ l. Move R.MoreSizes l) e1 Move.no_more_sizes | inr a1 ↦ absurd a1 ]
]
to_move R.Simple qs a = elim a [ inl e0 ↦ subst (λ l. Move R.Simple l) e0 Move.simple_name | inr a0 ↦ elim a0 [ inl e1 ↦ subst (λ l. Move R.Simple l) e1 Move.simple_other | inr a1 ↦ absurd a1 ] ]
to_move R.NameRest qs a = elim a [ inl e0 ↦ subst (λ l. Move R.NameRest l) e0 Move.name_called | inr a0 ↦ elim a0 [ inl e1 ↦ subst (λ l. Move R.NameRest l) e1 Move.name_place | inr a1 ↦ absurd a1 ] ]
to_move R.Other qs a = elim a [
  | inl e0 ↦ subst (λ l. Move R.Other l) e0 Move.other_prefix
  | inr a0 ↦ elim a0 [
    | inl e1 ↦ subst (λ l. Move R.Other l) e1 Move.other_literal
    | inr a1 ↦ elim a1 [
      | inl e2 ↦ subst (λ l. Move R.Other l) e2 Move.other_value
      | inr a2 ↦ elim a2 [ inl e3 ↦ subst (λ l. Move R.Other l) e3 Move.other_parentheses | inr a3 ↦ elim a3 [ inl e4 ↦ subst (λ l. Move R.Other l) e4 Move.other_new | inr a4 ↦ absurd a4 ] ]
    ]
  ]
]
to_move R.NewStmt qs a = elim a [
  | inl e0 ↦ subst (λ l. Move R.NewStmt l) e0 Move.stmt_new_name
  | inr a0 ↦ elim a0 [ inl e1 ↦ subst (λ l. Move R.NewStmt l) e1 Move.stmt_new_memory | inr a1 ↦ elim a1 [ inl e2 ↦ subst (λ l. Move R.NewStmt l) e2 Move.stmt_new_word | inr a2 ↦ absurd a2 ] ]
]
to_move R.NewStmtMemory qs a = elim a [
  | inl e0 ↦ subst (λ l. Move R.NewStmtMemory l) e0 Move.stmt_new_memories
  | inr a0 ↦ elim a0 [ inl e1 ↦ subst (λ l. Move R.NewStmtMemory l) e1 Move.stmt_new_plain_memory | inr a1 ↦ absurd a1 ]
]
to_move R.NewStmtRest qs a = elim a [
  | inl e0 ↦ subst (λ l. Move R.NewStmtRest l) e0 Move.stmt_new_call
  | inr a0 ↦ elim a0 [ inl e1 ↦ subst (λ l. Move R.NewStmtRest l) e1 Move.stmt_new_array | inr a1 ↦ absurd a1 ]
]
to_move (R.Rest Form.Place) qs a = elim a [
  | inl e0 ↦ subst (λ l. Move (R.Rest Form.Place) l) e0 Move.place_index
  | inr a0 ↦ elim a0 [ inl e1 ↦ subst (λ l. Move (R.Rest Form.Place) l) e1 Move.place_bare | inr a1 ↦ absurd a1 ]
]
to_move (R.Rest Form.Call) qs a = elim a [
  | inl e0 ↦ subst (λ l. Move (R.Rest Form.Call) l) e0 Move.call_index
  | inr a0 ↦ elim a0 [
    | inl e1 ↦ subst (λ l. Move (R.Rest Form.Call) l) e1 Move.call_dot
    | inr a1 ↦ elim a1 [ inl e2 ↦ subst (λ l. Move (R.Rest Form.Call) l) e2 Move.call_onward | inr a2 ↦ elim a2 [ inl e3 ↦ subst (λ l. Move (R.Rest Form.Call) l) e3 Move.run | inr a3 ↦ absurd a3 ] ]
  ]
]
to_move (R.Rest Form.Free) qs a = elim a [
  | inl e0 ↦ subst (λ l. Move (R.Rest Form.Free) l) e0 Move.free_index
  | inr a0 ↦ elim a0 [
    | inl e1 ↦ subst (λ l. Move (R.Rest Form.Free) l) e1 Move.free_dot
    | inr a1 ↦ elim a1 [ inl e2 ↦ subst (λ l. Move (R.Rest Form.Free) l) e2 Move.free_onward | inr a2 ↦ absurd a2 ]
  ]
]
to_move (R.Rest Form.Fresh) qs a = elim a [
  | inl e0 ↦ subst (λ l. Move (R.Rest Form.Fresh) l) e0 Move.array_dot
  | inr a0 ↦ elim a0 [ inl e1 ↦ subst (λ l. Move (R.Rest Form.Fresh) l) e1 Move.array_onward | inr a1 ↦ absurd a1 ]
]
to_move R.Bare qs a = elim a [
  | inl e0 ↦ subst (λ l. Move R.Bare l) e0 Move.set
  | inr a0 ↦ elim a0 [
    | inl e1 ↦ subst (λ l. Move R.Bare l) e1 Move.count
    | inr a1 ↦ elim a1 [ inl e2 ↦ subst (λ l. Move R.Bare l) e2 Move.bare_dot | inr a2 ↦ elim a2 [ inl e3 ↦ subst (λ l. Move R.Bare l) e3 Move.bare_onward | inr a3 ↦ absurd a3 ] ]
  ]
]
to_move R.DottedRest qs a = elim a [
  | inl e0 ↦ subst (λ l. Move R.DottedRest l) e0 Move.dotted_call
  | inr a0 ↦ elim a0 [ inl e1 ↦ subst (λ l. Move R.DottedRest l) e1 Move.dotted_name | inr a1 ↦ absurd a1 ]
]
to_move R.Init qs a = elim a [ inl e0 ↦ subst (λ l. Move R.Init l) e0 Move.init | inr a0 ↦ elim a0 [ inl e1 ↦ subst (λ l. Move R.Init l) e1 Move.braces | inr a1 ↦ absurd a1 ] ]
to_move R.Inits qs a = elim a [ inl e0 ↦ subst (λ l. Move R.Inits l) e0 Move.inits | inr a0 ↦ elim a0 [ inl e1 ↦ subst (λ l. Move R.Inits l) e1 Move.no_inits | inr a1 ↦ absurd a1 ] ]
to_move R.MoreInits qs a = elim a [
  | inl e0 ↦ subst (λ l. Move R.MoreInits l) e0 Move.more_inits
  | inr a0 ↦ elim a0 [ inl e1 ↦ subst (λ l. Move R.MoreInits l) e1 Move.no_more_inits | inr a1 ↦ absurd a1 ]
]
to_move R.Block qs a = elim a [ inl e0 ↦ subst (λ l. Move R.Block l) e0 Move.block | inr a0 ↦ absurd a0 ]
to_move R.Stmts qs a = elim a [ inl e0 ↦ subst (λ l. Move R.Stmts l) e0 Move.stmts | inr a0 ↦ elim a0 [ inl e1 ↦ subst (λ l. Move R.Stmts l) e1 Move.no_stmts | inr a1 ↦ absurd a1 ] ]
to_move R.Stmt qs a = elim a [
  | inl e0 ↦ subst (λ l. Move R.Stmt l) e0 Move.stmt_block
  | inr a0 ↦ elim a0 [
    | inl e1 ↦ subst (λ l. Move R.Stmt l) e1 Move.stmt_final
    | inr a1 ↦ elim a1 [
      | inl e2 ↦ subst (λ l. Move R.Stmt l) e2 Move.stmt_word
      | inr a2 ↦ elim a2 [
        | inl e3 ↦ subst (λ l. Move R.Stmt l) e3 Move.stmt_name
        | inr a3 ↦ elim a3 [
          | inl e4 ↦ subst (λ l. Move R.Stmt l) e4 Move.stmt_memory
          | inr a4 ↦ elim a4 [
            | inl e5 ↦ subst (λ l. Move R.Stmt l) e5 Move.stmt_return
            | inr a5 ↦ elim a5 [
              | inl e6 ↦ subst (λ l. Move R.Stmt l) e6 Move.stmt_if
              | inr a6 ↦ elim a6 [
                | inl e7 ↦ subst (λ l. Move R.Stmt l) e7 Move.stmt_while
                | inr a7 ↦ elim a7 [
                  | inl e8 ↦ subst (λ l. Move R.Stmt l) e8 Move.stmt_for
                  | inr a8 ↦ elim a8 [ inl e9 ↦ subst (λ l. Move R.Stmt l) e9 Move.stmt_empty | inr a9 ↦ elim a9 [ inl e10 ↦ subst (λ l. Move R.Stmt l) e10 Move.stmt_other | inr a10 ↦ absurd a10 ] ]
                ]
              ]
            ]
          ]
        ]
      ]
    ]
  ]
]
to_move (R.NameThen Site.Alone) qs a = elim a [
  | inl e0 ↦ subst (λ l. Move (R.NameThen Site.Alone) l) e0 (Move.then_name {d = Site.Alone})
  | inr a0 ↦ elim a0 [
    | inl e1 ↦ subst (λ l. Move (R.NameThen Site.Alone) l) e1 (Move.then_bracket {d = Site.Alone})
    | inr a1 ↦ elim a1 [
      | inl e2 ↦ subst (λ l. Move (R.NameThen Site.Alone) l) e2 (Move.then_called {d = Site.Alone})
      | inr a2 ↦ elim a2 [ inl e3 ↦ subst (λ l. Move (R.NameThen Site.Alone) l) e3 (Move.then_bare {d = Site.Alone}) | inr a3 ↦ absurd a3 ]
    ]
  ]
]
to_move (R.NameThen Site.Loop) qs a = elim a [
  | inl e0 ↦ subst (λ l. Move (R.NameThen Site.Loop) l) e0 (Move.then_name {d = Site.Loop})
  | inr a0 ↦ elim a0 [
    | inl e1 ↦ subst (λ l. Move (R.NameThen Site.Loop) l) e1 (Move.then_bracket {d = Site.Loop})
    | inr a1 ↦ elim a1 [
      | inl e2 ↦ subst (λ l. Move (R.NameThen Site.Loop) l) e2 (Move.then_called {d = Site.Loop})
      | inr a2 ↦ elim a2 [ inl e3 ↦ subst (λ l. Move (R.NameThen Site.Loop) l) e3 (Move.then_bare {d = Site.Loop}) | inr a3 ↦ absurd a3 ]
    ]
  ]
]
to_move (R.BracketThen Site.Alone) qs a = elim a [
  | inl e0 ↦ subst (λ l. Move (R.BracketThen Site.Alone) l) e0 (Move.then_dims {d = Site.Alone})
  | inr a0 ↦ elim a0 [ inl e1 ↦ subst (λ l. Move (R.BracketThen Site.Alone) l) e1 (Move.then_index {d = Site.Alone}) | inr a1 ↦ absurd a1 ]
]
to_move (R.BracketThen Site.Loop) qs a = elim a [
  | inl e0 ↦ subst (λ l. Move (R.BracketThen Site.Loop) l) e0 (Move.then_dims {d = Site.Loop})
  | inr a0 ↦ elim a0 [ inl e1 ↦ subst (λ l. Move (R.BracketThen Site.Loop) l) e1 (Move.then_index {d = Site.Loop}) | inr a1 ↦ absurd a1 ]
]
to_move (R.Declared Site.Alone) qs a = elim a [
  | inl e0 ↦ subst (λ l. Move (R.Declared Site.Alone) l) e0 Move.declared
  | inr a0 ↦ elim a0 [ inl e1 ↦ subst (λ l. Move (R.Declared Site.Alone) l) e1 Move.declared_init | inr a1 ↦ absurd a1 ]
]
to_move (R.Declared Site.Loop) qs a = elim a [ inl e0 ↦ subst (λ l. Move (R.Declared Site.Loop) l) e0 Move.declared_loop | inr a0 ↦ absurd a0 ]
to_move R.ReturnRest qs a = elim a [
  | inl e0 ↦ subst (λ l. Move R.ReturnRest l) e0 Move.return_none
  | inr a0 ↦ elim a0 [ inl e1 ↦ subst (λ l. Move R.ReturnRest l) e1 Move.return_value | inr a1 ↦ absurd a1 ]
]
to_move R.ElseTail qs a = elim a [ inl e0 ↦ subst (λ l. Move R.ElseTail l) e0 Move.else_tail | inr a0 ↦ elim a0 [ inl e1 ↦ subst (λ l. Move R.ElseTail l) e1 Move.no_else | inr a1 ↦ absurd a1 ] ]
to_move R.ElseRest qs a = elim a [ inl e0 ↦ subst (λ l. Move R.ElseRest l) e0 Move.else_if | inr a0 ↦ elim a0 [ inl e1 ↦ subst (λ l. Move R.ElseRest l) e1 Move.otherwise | inr a1 ↦ absurd a1 ] ]
to_move R.Body qs a = elim a [
  | inl e0 ↦ subst (λ l. Move R.Body l) e0 Move.body_block
  | inr a0 ↦ elim a0 [ inl e1 ↦ subst (λ l. Move R.Body l) e1 Move.body_return | inr a1 ↦ elim a1 [ inl e2 ↦ subst (λ l. Move R.Body l) e2 Move.body_simple | inr a2 ↦ absurd a2 ] ]
]
to_move R.First qs a = elim a [
  | inl e0 ↦ subst (λ l. Move R.First l) e0 Move.first_word
  | inr a0 ↦ elim a0 [
    | inl e1 ↦ subst (λ l. Move R.First l) e1 Move.first_name
    | inr a1 ↦ elim a1 [
      | inl e2 ↦ subst (λ l. Move R.First l) e2 Move.first_memory
      | inr a2 ↦ elim a2 [ inl e3 ↦ subst (λ l. Move R.First l) e3 Move.first_other | inr a3 ↦ elim a3 [ inl e4 ↦ subst (λ l. Move R.First l) e4 Move.no_first | inr a4 ↦ absurd a4 ] ]
    ]
  ]
]
to_move R.Test qs a = elim a [ inl e0 ↦ subst (λ l. Move R.Test l) e0 Move.test | inr a0 ↦ elim a0 [ inl e1 ↦ subst (λ l. Move R.Test l) e1 Move.no_test | inr a1 ↦ absurd a1 ] ]
to_move R.Step qs a = elim a [ inl e0 ↦ subst (λ l. Move R.Step l) e0 Move.step | inr a0 ↦ elim a0 [ inl e1 ↦ subst (λ l. Move R.Step l) e1 Move.no_step | inr a1 ↦ absurd a1 ] ]
to_move (R.MemoryThen Site.Alone) qs a = elim a [
  | inl e0 ↦ subst (λ l. Move (R.MemoryThen Site.Alone) l) e0 (Move.memory_name {d = Site.Alone})
  | inr a0 ↦ elim a0 [
    | inl e1 ↦ subst (λ l. Move (R.MemoryThen Site.Alone) l) e1 (Move.memory_bracket {d = Site.Alone})
    | inr a1 ↦ elim a1 [
      | inl e2 ↦ subst (λ l. Move (R.MemoryThen Site.Alone) l) e2 (Move.memory_called {d = Site.Alone})
      | inr a2 ↦ elim a2 [
        | inl e3 ↦ subst (λ l. Move (R.MemoryThen Site.Alone) l) e3 (Move.memory_less {d = Site.Alone})
        | inr a3 ↦ elim a3 [ inl e4 ↦ subst (λ l. Move (R.MemoryThen Site.Alone) l) e4 (Move.memory_bare {d = Site.Alone}) | inr a4 ↦ absurd a4 ]
      ]
    ]
  ]
]
to_move (R.MemoryThen Site.Loop) qs a = elim a [
  | inl e0 ↦ subst (λ l. Move (R.MemoryThen Site.Loop) l) e0 (Move.memory_name {d = Site.Loop})
  | inr a0 ↦ elim a0 [
    | inl e1 ↦ subst (λ l. Move (R.MemoryThen Site.Loop) l) e1 (Move.memory_bracket {d = Site.Loop})
    | inr a1 ↦ elim a1 [
      | inl e2 ↦ subst (λ l. Move (R.MemoryThen Site.Loop) l) e2 (Move.memory_called {d = Site.Loop})
      | inr a2 ↦ elim a2 [
        | inl e3 ↦ subst (λ l. Move (R.MemoryThen Site.Loop) l) e3 (Move.memory_less {d = Site.Loop})
        | inr a3 ↦ elim a3 [ inl e4 ↦ subst (λ l. Move (R.MemoryThen Site.Loop) l) e4 (Move.memory_bare {d = Site.Loop}) | inr a4 ↦ absurd a4 ]
      ]
    ]
  ]
]
to_move (R.LessThen Site.Alone) qs a = elim a [
  | inl e0 ↦ subst (λ l. Move (R.LessThen Site.Alone) l) e0 (Move.less_dfevar {d = Site.Alone})
  | inr a0 ↦ elim a0 [ inl e1 ↦ subst (λ l. Move (R.LessThen Site.Alone) l) e1 (Move.less_other {d = Site.Alone}) | inr a1 ↦ absurd a1 ]
]
to_move (R.LessThen Site.Loop) qs a = elim a [
  | inl e0 ↦ subst (λ l. Move (R.LessThen Site.Loop) l) e0 (Move.less_dfevar {d = Site.Loop})
  | inr a0 ↦ elim a0 [ inl e1 ↦ subst (λ l. Move (R.LessThen Site.Loop) l) e1 (Move.less_other {d = Site.Loop}) | inr a1 ↦ absurd a1 ]
]
to_move (R.DFEVarThen Site.Alone) qs a = elim a [
  | inl e0 ↦ subst (λ l. Move (R.DFEVarThen Site.Alone) l) e0 (Move.dfevar_greater {d = Site.Alone})
  | inr a0 ↦ elim a0 [
    | inl e1 ↦ subst (λ l. Move (R.DFEVarThen Site.Alone) l) e1 (Move.dfevar_further {d = Site.Alone})
    | inr a1 ↦ elim a1 [
      | inl e2 ↦ subst (λ l. Move (R.DFEVarThen Site.Alone) l) e2 (Move.dfevar_tighter {d = Site.Alone})
      | inr a2 ↦ elim a2 [
        | inl e3 ↦ subst (λ l. Move (R.DFEVarThen Site.Alone) l) e3 (Move.dfevar_order {d = Site.Alone})
        | inr a3 ↦ elim a3 [ inl e4 ↦ subst (λ l. Move (R.DFEVarThen Site.Alone) l) e4 (Move.dfevar_looser {d = Site.Alone}) | inr a4 ↦ absurd a4 ]
      ]
    ]
  ]
]
to_move (R.DFEVarThen Site.Loop) qs a = elim a [
  | inl e0 ↦ subst (λ l. Move (R.DFEVarThen Site.Loop) l) e0 (Move.dfevar_greater {d = Site.Loop})
  | inr a0 ↦ elim a0 [
    | inl e1 ↦ subst (λ l. Move (R.DFEVarThen Site.Loop) l) e1 (Move.dfevar_further {d = Site.Loop})
    | inr a1 ↦ elim a1 [
      | inl e2 ↦ subst (λ l. Move (R.DFEVarThen Site.Loop) l) e2 (Move.dfevar_tighter {d = Site.Loop})
      | inr a2 ↦ elim a2 [
        | inl e3 ↦ subst (λ l. Move (R.DFEVarThen Site.Loop) l) e3 (Move.dfevar_order {d = Site.Loop})
        | inr a3 ↦ elim a3 [ inl e4 ↦ subst (λ l. Move (R.DFEVarThen Site.Loop) l) e4 (Move.dfevar_looser {d = Site.Loop}) | inr a4 ↦ absurd a4 ]
      ]
    ]
  ]
]
to_move (R.GreaterThen Site.Alone) qs a = elim a [
  | inl e0 ↦ subst (λ l. Move (R.GreaterThen Site.Alone) l) e0 (Move.greater_name {d = Site.Alone})
  | inr a0 ↦ elim a0 [
    | inl e1 ↦ subst (λ l. Move (R.GreaterThen Site.Alone) l) e1 (Move.greater_dims {d = Site.Alone})
    | inr a1 ↦ elim a1 [ inl e2 ↦ subst (λ l. Move (R.GreaterThen Site.Alone) l) e2 (Move.greater_other {d = Site.Alone}) | inr a2 ↦ absurd a2 ]
  ]
]
to_move (R.GreaterThen Site.Loop) qs a = elim a [
  | inl e0 ↦ subst (λ l. Move (R.GreaterThen Site.Loop) l) e0 (Move.greater_name {d = Site.Loop})
  | inr a0 ↦ elim a0 [
    | inl e1 ↦ subst (λ l. Move (R.GreaterThen Site.Loop) l) e1 (Move.greater_dims {d = Site.Loop})
    | inr a1 ↦ elim a1 [ inl e2 ↦ subst (λ l. Move (R.GreaterThen Site.Loop) l) e2 (Move.greater_other {d = Site.Loop}) | inr a2 ↦ absurd a2 ]
  ]
]
to_move (R.MemoryName Site.Alone) qs a = elim a [
  | inl e0 ↦ subst (λ l. Move (R.MemoryName Site.Alone) l) e0 (Move.memory_declared {d = Site.Alone})
  | inr a0 ↦ elim a0 [ inl e1 ↦ subst (λ l. Move (R.MemoryName Site.Alone) l) e1 (Move.memory_further {d = Site.Alone}) | inr a1 ↦ absurd a1 ]
]
to_move (R.MemoryName Site.Loop) qs a = elim a [
  | inl e0 ↦ subst (λ l. Move (R.MemoryName Site.Loop) l) e0 (Move.memory_declared {d = Site.Loop})
  | inr a0 ↦ elim a0 [ inl e1 ↦ subst (λ l. Move (R.MemoryName Site.Loop) l) e1 (Move.memory_further {d = Site.Loop}) | inr a1 ↦ absurd a1 ]
]
to_move R.MemoryBare qs a = elim a [
  | inl e0 ↦ subst (λ l. Move R.MemoryBare l) e0 Move.memory_set
  | inr a0 ↦ elim a0 [
    | inl e1 ↦ subst (λ l. Move R.MemoryBare l) e1 Move.memory_count
    | inr a1 ↦ elim a1 [
      | inl e2 ↦ subst (λ l. Move R.MemoryBare l) e2 Move.memory_dot
      | inr a2 ↦ elim a2 [
        | inl e3 ↦ subst (λ l. Move R.MemoryBare l) e3 Move.memory_tighter
        | inr a3 ↦ elim a3 [
          | inl e4 ↦ subst (λ l. Move R.MemoryBare l) e4 Move.memory_order
          | inr a4 ↦ elim a4 [ inl e5 ↦ subst (λ l. Move R.MemoryBare l) e5 Move.memory_looser | inr a5 ↦ absurd a5 ]
        ]
      ]
    ]
  ]
]
to_move R.OtherOperand qs a = elim a [
  | inl e0 ↦ subst (λ l. Move R.OtherOperand l) e0 Move.other_name
  | inr a0 ↦ elim a0 [ inl e1 ↦ subst (λ l. Move R.OtherOperand l) e1 Move.other_nameless | inr a1 ↦ absurd a1 ]
]
to_move R.NamelessOperand qs a = elim a [
  | inl e0 ↦ subst (λ l. Move R.NamelessOperand l) e0 Move.nameless_prefix
  | inr a0 ↦ elim a0 [
    | inl e1 ↦ subst (λ l. Move R.NamelessOperand l) e1 Move.nameless_literal
    | inr a1 ↦ elim a1 [
      | inl e2 ↦ subst (λ l. Move R.NamelessOperand l) e2 Move.nameless_value
      | inr a2 ↦ elim a2 [
        | inl e3 ↦ subst (λ l. Move R.NamelessOperand l) e3 Move.nameless_parentheses
        | inr a3 ↦ elim a3 [ inl e4 ↦ subst (λ l. Move R.NamelessOperand l) e4 Move.nameless_new | inr a4 ↦ absurd a4 ]
      ]
    ]
  ]
]
to_move R.Further qs a = elim a [
  | inl e0 ↦ subst (λ l. Move R.Further l) e0 Move.further_called
  | inr a0 ↦ elim a0 [ inl e1 ↦ subst (λ l. Move R.Further l) e1 Move.further_dot | inr a1 ↦ elim a1 [ inl e2 ↦ subst (λ l. Move R.Further l) e2 Move.further_index | inr a2 ↦ absurd a2 ] ]
]
to_move R.Tighter qs a = elim a [
  | inl e0 ↦ subst (λ l. Move R.Tighter l) e0 Move.tighter_product
  | inr a0 ↦ elim a0 [ inl e1 ↦ subst (λ l. Move R.Tighter l) e1 Move.tighter_sum | inr a1 ↦ elim a1 [ inl e2 ↦ subst (λ l. Move R.Tighter l) e2 Move.tighter_shift | inr a2 ↦ absurd a2 ] ]
]
