-- The answer is the one that is computed.
use Rattle.std.proofs.Common.{sym, ◌∙◌, ap, Ok}
use Rattle.fix_arith.specs.declared.number.Number.{Number}
use Rattle.kernel_meaning.proofs.LiteralBits.{literal_ok, literal_err}
use Rattle.kernel_rows.proofs.literals.literal_bits.Goals as goal

pub returns-in-Ok : goal.returns-in-Ok
returns-in-Ok c =
    let n : Number = record {
      negative = c.args.negative;
      digits = c.args.digits;
      tens =
          c.args.tens;
      few = c.requires.tens;
    } in
    ap Ok c.bits.ensures ∙ sym (literal_ok n c.args.mode c.args.of c.in-Ok.word c.in-Ok.ensures)

pub returns-in-Err : goal.returns-in-Err
returns-in-Err c =
    let n : Number = record {
      negative = c.args.negative;
      digits = c.args.digits;
      tens =
          c.args.tens;
      few = c.requires.tens;
    } in
    sym (literal_err n c.args.mode c.args.of c.in-Err.error c.in-Err.ensures)
