use Rattle.std.proofs.Common.{◌≡◌, ℕ, List, Some, map, get_or, ap, sym, ◌∙◌, arith}
use Rattle.std.specs.Prelude.{slice_get}
use Rattle.std.proofs.lemmas.List.{length-map}
use Rattle.std.proofs.lemmas.Option.{slice_get-get_or, slice_get_within}
use Rattle.std.proofs.lemmas.Result.{err_from_is_err_and}
use Rattle.mx_base.specs.Files.{Name}
use Rattle.simulation.specs.Outward.{output_of}
use Rattle.simulation.proofs.Lists.{map_set_same, map_at}
use Rattle.simulation.proofs.Reading.{lacks_told}
use Rattle.simulation.proofs.Writing.{whole_more, rest_more, only_more, put_not_lacking}
use Rattle.simulation.proofs.Stopping.{hold_but, whole_hold}
use Rattle.simulation.proofs.outputs.flush_all.Goals as goal

pub flush-requires : goal.flush-requires
flush-requires g c = λ lacks.
    let l = c.loop-k in
    let x = get_or l.outputs l.k c.index-outputs-k.result in
    let at = slice_get-get_or l.outputs l.k c.index-outputs-k.result (omega (arith, l.auto.outputs)) in
    let b = c.requires.begun (sym l.invariant.others.told ∙ lacks_told (g.F.Files.held l.files) x.writer.name lacks) in
    put_not_lacking (g.F.Files.held l.files) (b.0 l.k) x (l.invariant.rest b.0 b.1 l.k x (omega arith) at) lacks

pub loop-k-preserved : goal.loop-k-preserved
loop-k-preserved g c =
    let l = c.loop-k in
    let x = get_or l.outputs l.k c.index-outputs-k.result in
    let at = slice_get-get_or l.outputs l.k c.index-outputs-k.result (omega (arith, l.auto.outputs)) in
    let e = c.in_ok-flush.ensures in
    let named = map output_of c.args.outputs.now in
    let here : slice_get named l.k ≡ Some (output_of x) = ap (λ (os : List (Name × ℕ)). slice_get os l.k) (sym l.invariant.named) ∙ map_at output_of l.outputs l.k x at in
    record {
      named = map_set_same output_of l.outputs l.k x c.flush.new.self at e.named ∙ l.invariant.named;
      whole = λ words put.
          whole_more (g.F.Files.held l.files) (g.F.Files.held c.flush.new.files) words named l.outputs l.k x l.invariant.named c.requires.apart at e.only
          (e.whole (words l.k) (l.invariant.rest words put l.k x (omega arith) at)) (l.invariant.whole words put);
      rest = λ words put.
          rest_more (g.F.Files.held l.files) (g.F.Files.held c.flush.new.files) words named l.outputs l.k x c.flush.new.self l.invariant.named c.requires.apart at e.only (l.invariant.rest words put);
      others = only_more named (g.F.Files.held c.args.files.now) (g.F.Files.held l.files) (g.F.Files.held c.flush.new.files) l.k (output_of x) here l.invariant.others e.only;
      read_quiet = e.read_quiet ∙ l.invariant.read_quiet;
      quiet = e.quiet (λ q. cc) ∙ l.invariant.quiet;
    }

pub returns-in_err-flush-clause-named : goal.returns-in_err-flush-clause-named
returns-in_err-flush-clause-named g c =
    let l = c.loop-k in
    let at = slice_get-get_or l.outputs l.k c.index-outputs-k.result (omega (arith, l.auto.outputs)) in
    map_set_same output_of l.outputs l.k (get_or l.outputs l.k c.index-outputs-k.result) c.flush.new.self at c.in_err-flush.ensures.named ∙ l.invariant.named

pub returns-in_err-flush-clause-others : goal.returns-in_err-flush-clause-others
returns-in_err-flush-clause-others g c =
    let l = c.loop-k in
    let x = get_or l.outputs l.k c.index-outputs-k.result in
    let at = slice_get-get_or l.outputs l.k c.index-outputs-k.result (omega (arith, l.auto.outputs)) in
    let named = map output_of c.args.outputs.now in
    let here : slice_get named l.k ≡ Some (output_of x) = ap (λ (os : List (Name × ℕ)). slice_get os l.k) (sym l.invariant.named) ∙ map_at output_of l.outputs l.k x at in
    only_more named (g.F.Files.held c.args.files.now) (g.F.Files.held l.files) (g.F.Files.held c.flush.new.files) l.k (output_of x) here l.invariant.others c.in_err-flush.ensures.only

pub returns-clause-whole : goal.returns-clause-whole
returns-clause-whole g c = λ words put j o e.
    c.loop-k.invariant.whole words put j o (let w = slice_get_within (map output_of c.args.outputs.now) j o e in omega (arith, length-map c.args.outputs.now output_of)) e

pub returns-in_err-flush-clause-stopped : goal.returns-in_err-flush-clause-stopped
returns-in_err-flush-clause-stopped g c =
    let l = c.loop-k in
    let x = get_or l.outputs l.k c.index-outputs-k.result in
    let at = slice_get-get_or l.outputs l.k c.index-outputs-k.result (omega (arith, l.auto.outputs)) in
    let named = map output_of c.args.outputs.now in
    let here : slice_get named l.k ≡ Some (output_of x) = ap (λ (os : List (Name × ℕ)). slice_get os l.k) (sym l.invariant.named) ∙ map_at output_of l.outputs l.k x at in
    let p = err_from_is_err_and c.from_residual.result c.from_residual.ensures.1 in
    rw (p.1) (λ told.
    let b = c.requires.begun told in (
      l.k,
      hold_but (g.F.Files.held l.files) (g.F.Files.held c.flush.new.files) named l.k
          (output_of x) c.requires.apart here c.in_err-flush.ensures.only
          (whole_hold (g.F.Files.held l.files) b.0 l.outputs named l.k l.invariant.named
          (l.invariant.whole b.0 b.1) (l.invariant.rest b.0 b.1)),
    ))
