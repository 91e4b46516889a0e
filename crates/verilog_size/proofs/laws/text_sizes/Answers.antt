use Rattle.verilog_size.proofs.Names.{names_few}
use Rattle.verilog_size.proofs.OwnNames.{own_names_few}
use Rattle.verilog_size.proofs.Whole.{texts_small, texts_small_by_names}
use Rattle.verilog_size.proofs.laws.text_sizes.Goals as goal

pub returns-clause-small : goal.returns-clause-small
returns-clause-small c = texts_small

pub returns-clause-names : goal.returns-clause-names
returns-clause-names c = names_few

pub returns-clause-by_names : goal.returns-clause-by_names
returns-clause-by_names c = texts_small_by_names

pub returns-clause-own_names : goal.returns-clause-own_names
returns-clause-own_names c = own_names_few
