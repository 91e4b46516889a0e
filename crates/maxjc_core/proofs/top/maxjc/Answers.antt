use Rattle.std.proofs.Common.{◌≡◌, Some, subst}
use Rattle.stall_source.specs.Stalls.{Answers}
use Rattle.maxjc_core.specs.Command.{Names, RunNames, ExpectNames, CheckNames, Compile, Simulate, Expect, Check, command_of}
use Rattle.maxjc_core.specs.CompileEnds.{EndsCompile}
use Rattle.maxjc_core.specs.CheckEnds.{EndsCheck}
use Rattle.maxjc_core.specs.ExpectEnds.{EndsExpect}
use Rattle.maxjc_core.specs.NamedCommand.{names_told, run_told, expect_told, check_told}
use Rattle.maxjc_core.specs.Outside.{Outside, outside}
use Rattle.maxjc_core.specs.SimulateEnds.{EndsSimulate}
use Rattle.maxjc_core.proofs.OneCommand.{same_names, same_run_names, same_expect_names, same_check_names}
use Rattle.maxjc_core.proofs.top.maxjc.Goals as goal

pub returns-in-Some-Compile-clause-compile : goal.returns-in-Some-Compile-clause-compile
returns-in-Some-Compile-clause-compile g c = λ names is.
    let told : command_of c.args.words.now.items ≡ Some (Compile (names_told c.in-Some-Compile.names)) = rw (c.deref.ensures.value, c.in-Some-Compile.field-0-is) at c.in-Some-Compile.ensures.some in
    let same = same_names c.args.words.now.items (names_told c.in-Some-Compile.names) names told is in
    let before : Outside = outside (g.F.Files.held c.args.files.now)
    (g.F.Files.read_faults c.args.files.now) (g.F.Files.write_faults c.args.files.now)
    (g.S.Say.said c.args.say.now) (g.S.Say.say_faults c.args.say.now) in
    let after : Outside = outside (g.F.Files.held c.run_compile.new.files)
    (g.F.Files.read_faults c.run_compile.new.files)
    (g.F.Files.write_faults c.run_compile.new.files) (g.S.Say.said c.run_compile.new.say)
    (g.S.Say.say_faults c.run_compile.new.say) in
    let e = c.run_compile.ensures in
    let ends : EndsCompile (names_told c.in-Some-Compile.names) before after c.run_compile.result = record {
      done = e.done;
      refused = e.refused;
      stands = e.stands;
      built = e.built;
      read_fault = e.read_fault;
      missing = e.missing;
      missing_quiet = e.missing_quiet;
      files_same = e.files_same;
      others = e.others;
      cut_off = e.cut_off;
      no_edges = e.no_edges;
    } in
    subst (λ (n : Names). EndsCompile n before after c.run_compile.result) same ends

pub returns-in-Some-Simulate-clause-simulate : goal.returns-in-Some-Simulate-clause-simulate
returns-in-Some-Simulate-clause-simulate g c = λ names is.
    let told : command_of c.args.words.now.items ≡ Some (Simulate (run_told c.in-Some-Simulate.names)) = rw (c.deref.ensures.value, c.in-Some-Simulate.field-0-is) at c.in-Some-Simulate.ensures.some in
    let same = same_run_names c.args.words.now.items (run_told c.in-Some-Simulate.names) names told is in
    let stalls : Answers = λ pick edge port. g.G.Fn.post c.args.stalls.now.test (pick, (edge, (port, tt))) in
    let before : Outside = outside (g.F.Files.held c.args.files.now)
    (g.F.Files.read_faults c.args.files.now) (g.F.Files.write_faults c.args.files.now)
    (g.S.Say.said c.args.say.now) (g.S.Say.say_faults c.args.say.now) in
    let after : Outside = outside (g.F.Files.held c.run_simulate.new.files)
    (g.F.Files.read_faults c.run_simulate.new.files)
    (g.F.Files.write_faults c.run_simulate.new.files) (g.S.Say.said c.run_simulate.new.say)
    (g.S.Say.say_faults c.run_simulate.new.say) in
    let e = c.run_simulate.ensures in
    let ends : EndsSimulate stalls (run_told c.in-Some-Simulate.names) before after c.run_simulate.result = record {
      done = e.done;
      limited = e.limited;
      ends_done = λ l restart vs edges small ends. e.ends_done l small restart vs edges ends;
      ends_limited = λ l restart vs edges small ends. e.ends_limited l small restart vs edges ends;
      words_done = e.words_done;
      words_limited = e.words_limited;
      finishes = e.finishes;
      refused = e.refused;
      stands = e.stands;
      read_fault = e.read_fault;
      cut_off = e.cut_off;
      missing = e.missing;
      missing_quiet = e.missing_quiet;
      missing_input = e.missing_input;
      others = e.others;
      leaves = e.leaves;
    } in
    subst (λ (n : RunNames). EndsSimulate stalls n before after c.run_simulate.result) same ends

pub returns-in-Some-Expect-clause-expect : goal.returns-in-Some-Expect-clause-expect
returns-in-Some-Expect-clause-expect g c = λ names is.
    let told : command_of c.args.words.now.items ≡ Some (Expect (expect_told c.in-Some-Expect.names)) = rw (c.deref.ensures.value, c.in-Some-Expect.field-0-is) at c.in-Some-Expect.ensures.some in
    let same = same_expect_names c.args.words.now.items (expect_told c.in-Some-Expect.names) names told is in
    let before : Outside = outside (g.F.Files.held c.args.files.now)
    (g.F.Files.read_faults c.args.files.now) (g.F.Files.write_faults c.args.files.now)
    (g.S.Say.said c.args.say.now) (g.S.Say.say_faults c.args.say.now) in
    let after : Outside = outside (g.F.Files.held c.run_expect.new.files)
    (g.F.Files.read_faults c.run_expect.new.files)
    (g.F.Files.write_faults c.run_expect.new.files) (g.S.Say.said c.run_expect.new.say)
    (g.S.Say.say_faults c.run_expect.new.say) in
    let e = c.run_expect.ensures in
    let ends : EndsExpect (expect_told c.in-Some-Expect.names) before after c.run_expect.result = record {
      done = e.done;
      refused = e.refused;
      stands = e.stands;
      expected = e.expected;
      read_fault = e.read_fault;
      missing = e.missing;
      missing_quiet = e.missing_quiet;
      files_same = e.files_same;
      others = e.others;
      no_edges = e.no_edges;
    } in
    subst (λ (n : ExpectNames). EndsExpect n before after c.run_expect.result) same ends

pub returns-in-Some-Check-clause-check : goal.returns-in-Some-Check-clause-check
returns-in-Some-Check-clause-check g c = λ names is.
    let told : command_of c.args.words.now.items ≡ Some (Check (check_told c.in-Some-Check.names)) = rw (c.deref.ensures.value, c.in-Some-Check.field-0-is) at c.in-Some-Check.ensures.some in
    let same = same_check_names c.args.words.now.items (check_told c.in-Some-Check.names) names told is in
    let before : Outside = outside (g.F.Files.held c.args.files.now)
    (g.F.Files.read_faults c.args.files.now) (g.F.Files.write_faults c.args.files.now)
    (g.S.Say.said c.args.say.now) (g.S.Say.say_faults c.args.say.now) in
    let after : Outside = outside (g.F.Files.held c.run_check.new.files)
    (g.F.Files.read_faults c.run_check.new.files)
    (g.F.Files.write_faults c.run_check.new.files) (g.S.Say.said c.run_check.new.say)
    (g.S.Say.say_faults c.run_check.new.say) in
    let e = c.run_check.ensures in
    let ends : EndsCheck (check_told c.in-Some-Check.names) before after c.run_check.result = record {
      done = e.done;
      refused = e.refused;
      stands = e.stands;
      checked = e.checked;
      read_fault = e.read_fault;
      missing = e.missing;
      missing_quiet = e.missing_quiet;
      write_fault = e.write_fault;
      files_same = e.files_same;
      no_writes = e.no_writes;
      no_edges = e.no_edges;
    } in
    subst (λ (n : CheckNames). EndsCheck n before after c.run_check.result) same ends
