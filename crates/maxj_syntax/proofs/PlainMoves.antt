-- Where what a rule wants is known of the trees, each of its choices leaves known what it gives.
use Rattle.std.proofs.Common.{◌≡◌, Bool, List, ◌++◌, Some, refl}
use Rattle.maxj_syntax.specs.declared.symbol.Site.{Site}
use Rattle.maxj_syntax.specs.declared.symbol.Rule.{Rule}
use Rattle.maxj_syntax.specs.Symbols.{Symbol}
use Rattle.maxj_syntax.specs.Symbols as Y
use Rattle.maxj_syntax.specs.Moves.{Move, NamedMove}
use Rattle.maxj_syntax.specs.Plain.{wants, gives, named_wants, named_gives, after_all}

-- Made by tools/source_grammar.py from tools/source_grammar.txt: what each move leaves known.
pub moved : {r : Rule} {qs : List Symbol} → Move r qs → (fs : List Bool)
    → after_all qs (Some (wants r ++ fs)) ≡ Some (gives r ++ fs)
moved Move.file fs = refl
moved Move.package_line fs = refl
moved Move.no_package fs = refl
moved Move.path fs = refl
moved Move.more_path fs = refl
moved Move.no_more_path fs = refl
moved Move.imports fs = refl
moved Move.no_imports fs = refl
moved Move.static fs = refl
moved Move.not_static fs = refl
moved Move.import_more fs = refl
moved Move.no_import_more fs = refl
moved Move.import_name fs = refl
moved Move.import_all fs = refl
moved Move.classes fs = refl
moved Move.no_classes fs = refl
moved Move.class fs = refl
moved Move.mods fs = refl
moved Move.no_mods fs = refl
moved Move.declares_field fs = refl
moved Move.declares_value fs = refl
moved Move.declares_method fs = refl
moved Move.method_rest fs = refl
moved Move.params fs = refl
moved Move.no_params fs = refl
moved Move.more_params fs = refl
moved Move.no_more_params fs = refl
moved Move.param fs = refl
moved Move.final fs = refl
moved Move.not_final fs = refl
moved Move.kernel_opening fs = refl
moved Move.manager_opening fs = refl
moved Move.kernel_opened fs = refl
moved Move.manager_opened fs = refl
moved Move.super_rest fs = refl
moved Move.type_name fs = refl
moved Move.type_memory fs = refl
moved Move.type_word fs = refl
moved Move.memory_type fs = refl
moved Move.no_memory_type fs = refl
moved Move.dims fs = refl
moved Move.no_dims fs = refl
moved Move.expr fs = refl
moved Move.cond fs = refl
moved Move.no_cond fs = refl
moved (Move.operand u) fs = refl
moved (Move.tail u) fs = refl
moved Move.no_tail fs = refl
moved Move.prefix fs = refl
moved Move.no_prefix fs = refl
moved Move.literal fs = refl
moved Move.value_word fs = refl
moved Move.name fs = refl
moved Move.parentheses fs = refl
moved Move.new fs = refl
moved Move.called fs = refl
moved Move.not_called fs = refl
moved Move.args fs = refl
moved Move.no_args fs = refl
moved Move.more_args fs = refl
moved Move.no_more_args fs = refl
moved Move.dot fs = refl
moved Move.index fs = refl
moved Move.no_post fs = refl
moved Move.dot_call fs = refl
moved Move.dot_name fs = refl
moved Move.new_name fs = refl
moved Move.new_memory fs = refl
moved Move.new_word fs = refl
moved Move.new_memories fs = refl
moved Move.new_plain_memory fs = refl
moved Move.new_call fs = refl
moved Move.new_array fs = refl
moved Move.fresh_dot fs = refl
moved Move.no_fresh_dot fs = refl
moved Move.sizes fs = refl
moved Move.more_sizes fs = refl
moved Move.no_more_sizes fs = refl
moved Move.simple_name fs = refl
moved Move.simple_other fs = refl
moved Move.name_called fs = refl
moved Move.name_place fs = refl
moved Move.other_prefix fs = refl
moved Move.other_literal fs = refl
moved Move.other_value fs = refl
moved Move.other_parentheses fs = refl
moved Move.other_new fs = refl
moved Move.stmt_new_name fs = refl
moved Move.stmt_new_memory fs = refl
moved Move.stmt_new_word fs = refl
moved Move.stmt_new_memories fs = refl
moved Move.stmt_new_plain_memory fs = refl
moved Move.stmt_new_call fs = refl
moved Move.stmt_new_array fs = refl
moved Move.place_index fs = refl
moved Move.place_bare fs = refl
moved Move.set fs = refl
moved Move.count fs = refl
moved Move.bare_dot fs = refl
moved Move.bare_onward fs = refl
moved Move.call_index fs = refl
moved Move.call_dot fs = refl
moved Move.call_onward fs = refl
moved Move.run fs = refl
moved Move.free_index fs = refl
moved Move.free_dot fs = refl
moved Move.free_onward fs = refl
moved Move.array_dot fs = refl
moved Move.array_onward fs = refl
moved Move.dotted_call fs = refl
moved Move.dotted_name fs = refl
moved Move.init fs = refl
moved Move.braces fs = refl
moved Move.inits fs = refl
moved Move.no_inits fs = refl
moved Move.more_inits fs = refl
moved Move.no_more_inits fs = refl
moved Move.block fs = refl
moved Move.stmts fs = refl
moved Move.no_stmts fs = refl
moved Move.stmt_block fs = refl
moved Move.stmt_final fs = refl
moved Move.stmt_word fs = refl
moved Move.stmt_name fs = refl
moved Move.stmt_memory fs = refl
moved Move.stmt_return fs = refl
moved Move.stmt_if fs = refl
moved Move.stmt_while fs = refl
moved Move.stmt_for fs = refl
moved Move.stmt_empty fs = refl
moved Move.stmt_other fs = refl
moved Move.then_name fs = refl
moved Move.then_bracket fs = refl
moved (Move.then_called {d = Site.Alone}) fs = refl
moved (Move.then_called {d = Site.Loop}) fs = refl
moved (Move.then_bare {d = Site.Alone}) fs = refl
moved (Move.then_bare {d = Site.Loop}) fs = refl
moved Move.then_dims fs = refl
moved (Move.then_index {d = Site.Alone}) fs = refl
moved (Move.then_index {d = Site.Loop}) fs = refl
moved Move.declared fs = refl
moved Move.declared_init fs = refl
moved Move.declared_loop fs = refl
moved Move.return_none fs = refl
moved Move.return_value fs = refl
moved Move.else_tail fs = refl
moved Move.no_else fs = refl
moved Move.else_if fs = refl
moved Move.otherwise fs = refl
moved Move.body_block fs = refl
moved Move.body_return fs = refl
moved Move.body_simple fs = refl
moved Move.first_word fs = refl
moved Move.first_name fs = refl
moved Move.first_memory fs = refl
moved Move.first_other fs = refl
moved Move.no_first fs = refl
moved Move.test fs = refl
moved Move.no_test fs = refl
moved Move.step fs = refl
moved Move.no_step fs = refl
moved Move.memory_name fs = refl
moved Move.memory_bracket fs = refl
moved (Move.memory_called {d = Site.Alone}) fs = refl
moved (Move.memory_called {d = Site.Loop}) fs = refl
moved Move.memory_less fs = refl
moved (Move.memory_bare {d = Site.Alone}) fs = refl
moved (Move.memory_bare {d = Site.Loop}) fs = refl
moved Move.less_dfevar fs = refl
moved (Move.less_other {d = Site.Alone}) fs = refl
moved (Move.less_other {d = Site.Loop}) fs = refl
moved Move.dfevar_greater fs = refl
moved (Move.dfevar_further {d = Site.Alone}) fs = refl
moved (Move.dfevar_further {d = Site.Loop}) fs = refl
moved (Move.dfevar_tighter {d = Site.Alone}) fs = refl
moved (Move.dfevar_tighter {d = Site.Loop}) fs = refl
moved (Move.dfevar_order {d = Site.Alone}) fs = refl
moved (Move.dfevar_order {d = Site.Loop}) fs = refl
moved (Move.dfevar_looser {d = Site.Alone}) fs = refl
moved (Move.dfevar_looser {d = Site.Loop}) fs = refl
moved Move.greater_name fs = refl
moved Move.greater_dims fs = refl
moved (Move.greater_other {d = Site.Alone}) fs = refl
moved (Move.greater_other {d = Site.Loop}) fs = refl
moved Move.memory_declared fs = refl
moved (Move.memory_further {d = Site.Alone}) fs = refl
moved (Move.memory_further {d = Site.Loop}) fs = refl
moved Move.memory_set fs = refl
moved Move.memory_count fs = refl
moved Move.memory_dot fs = refl
moved Move.memory_tighter fs = refl
moved Move.memory_order fs = refl
moved Move.memory_looser fs = refl
moved Move.other_name fs = refl
moved Move.other_nameless fs = refl
moved Move.nameless_prefix fs = refl
moved Move.nameless_literal fs = refl
moved Move.nameless_value fs = refl
moved Move.nameless_parentheses fs = refl
moved Move.nameless_new fs = refl
moved Move.further_called fs = refl
moved Move.further_dot fs = refl
moved Move.further_index fs = refl
moved Move.tighter_product fs = refl
moved Move.tighter_sum fs = refl
moved Move.tighter_shift fs = refl

-- By hand again.

pub named_moved : {n : Y.Named} {qs : List Symbol} → NamedMove n qs → (fs : List Bool)
    → after_all qs (Some (named_wants n ++ fs)) ≡ Some (named_gives n ++ fs)
named_moved (NamedMove.class_name e) fs = refl
named_moved NamedMove.kernel fs = refl
named_moved NamedMove.manager fs = refl
named_moved NamedMove.member fs = refl
named_moved NamedMove.no_member fs = refl
named_moved NamedMove.void_method fs = refl
named_moved NamedMove.word_member fs = refl
named_moved (NamedMove.name_member e) fs = refl
named_moved NamedMove.after_type fs = refl
named_moved NamedMove.after_memory fs = refl
named_moved NamedMove.after_ctor fs = refl
named_moved (NamedMove.first_param e) fs = refl
