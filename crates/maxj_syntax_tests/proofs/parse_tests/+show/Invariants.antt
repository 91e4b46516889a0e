use Rattle.maxj_syntax_tests.proofs.parse_tests.+show.Given as goal

abbrev pub decreases-show : goal.decreases-show
decreases-show l = l.depth
