use Rattle.verilog_print.proofs.printer.Printer.+digits.Given as goal

abbrev pub decreases-digits : goal.decreases-digits
decreases-digits l = l.number
