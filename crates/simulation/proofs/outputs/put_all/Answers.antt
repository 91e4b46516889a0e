use Rattle.std.proofs.Common.{◌≡◌, ℕ, List, Some, map, get_or, refl, ap, sym, ◌∙◌, arith}
use Rattle.std.specs.Prelude.{slice_get}
use Rattle.std.proofs.lemmas.Option.{slice_get-get_or}
use Rattle.std.proofs.lemmas.Result.{err_from_is_err_and}
use Rattle.mx_base.specs.Files.{Name}
use Rattle.simulation.specs.Outward.{output_of}
use Rattle.simulation.proofs.Lists.{map_set_same, map_at}
use Rattle.simulation.proofs.Writing.{put_none, put_all, put_more, only_more, unchanged, not_lacking}
use Rattle.simulation.proofs.Stopping.{hold_but, put_hold}
use Rattle.simulation.proofs.outputs.put_all.Goals as goal

pub put-requires-clause-word : goal.put-requires-clause-word
put-requires-clause-word g c =
    let l = c.loop-k in
    let x = get_or l.outputs l.k c.index-outputs-k.result in
    let at = slice_get-get_or l.outputs l.k c.index-outputs-k.result (omega (arith, l.auto.outputs)) in
    c.requires.words l.k (output_of x) (ap (λ (os : List (Name × ℕ)). slice_get os l.k) (sym l.invariant.named) ∙ map_at output_of l.outputs l.k x at)

pub put-requires-clause-held : goal.put-requires-clause-held
put-requires-clause-held g c =
    let l = c.loop-k in
    let x = get_or l.outputs l.k c.index-outputs-k.result in
    let at = slice_get-get_or l.outputs l.k c.index-outputs-k.result (omega (arith, l.auto.outputs)) in
    not_lacking (g.F.Files.held c.args.files.now) (g.F.Files.held l.files) l.outputs l.k x at l.invariant.others.told
    (λ told. let b = c.requires.begun told in (_, l.invariant.put b.0 b.1))

pub loop-k-init : goal.loop-k-init
loop-k-init g c =
    record {
      named = refl;
      put = λ words put. put_none (g.F.Files.held c.args.files.now) words c.args.events.now c.args.outputs.now put;
      others = unchanged (map output_of c.args.outputs.now) (g.F.Files.held c.args.files.now);
      read_quiet = refl;
      quiet = refl;
    }

pub loop-k-preserved : goal.loop-k-preserved
loop-k-preserved g c =
    let l = c.loop-k in
    let x = get_or l.outputs l.k c.index-outputs-k.result in
    let at = slice_get-get_or l.outputs l.k c.index-outputs-k.result (omega (arith, l.auto.outputs)) in
    let e = c.in_ok-put.ensures in
    let named = map output_of c.args.outputs.now in
    let here : slice_get named l.k ≡ Some (output_of x) = ap (λ (os : List (Name × ℕ)). slice_get os l.k) (sym l.invariant.named) ∙ map_at output_of l.outputs l.k x at in
    record {
      named = map_set_same output_of l.outputs l.k x c.put.new.self at e.named ∙ l.invariant.named;
      put = λ words put.
          put_more (g.F.Files.held l.files)
          (g.F.Files.held c.put.new.files) words c.args.events.now named l.outputs l.k x
          c.put.new.self l.invariant.named c.requires.apart at e.only e.put
          (l.invariant.put words put);
      others = only_more named (g.F.Files.held c.args.files.now) (g.F.Files.held l.files) (g.F.Files.held c.put.new.files) l.k (output_of x) here l.invariant.others e.only;
      read_quiet = e.read_quiet ∙ l.invariant.read_quiet;
      quiet = e.quiet (λ q. cc) ∙ l.invariant.quiet;
    }

pub returns-in_err-put-clause-named : goal.returns-in_err-put-clause-named
returns-in_err-put-clause-named g c =
    let l = c.loop-k in
    let at = slice_get-get_or l.outputs l.k c.index-outputs-k.result (omega (arith, l.auto.outputs)) in
    map_set_same output_of l.outputs l.k (get_or l.outputs l.k c.index-outputs-k.result) c.put.new.self at c.in_err-put.ensures.named ∙ l.invariant.named

pub returns-in_err-put-clause-others : goal.returns-in_err-put-clause-others
returns-in_err-put-clause-others g c =
    let l = c.loop-k in
    let x = get_or l.outputs l.k c.index-outputs-k.result in
    let at = slice_get-get_or l.outputs l.k c.index-outputs-k.result (omega (arith, l.auto.outputs)) in
    let named = map output_of c.args.outputs.now in
    let here : slice_get named l.k ≡ Some (output_of x) = ap (λ (os : List (Name × ℕ)). slice_get os l.k) (sym l.invariant.named) ∙ map_at output_of l.outputs l.k x at in
    only_more named (g.F.Files.held c.args.files.now) (g.F.Files.held l.files) (g.F.Files.held c.put.new.files) l.k (output_of x) here l.invariant.others c.in_err-put.ensures.only

pub returns-clause-put : goal.returns-clause-put
returns-clause-put g c = λ words put.
    let l = c.loop-k in
    put_all (g.F.Files.held l.files) words c.args.events.now l.k l.outputs (omega (arith, l.auto.outputs)) (l.invariant.put words put)

pub returns-in_err-put-clause-stopped : goal.returns-in_err-put-clause-stopped
returns-in_err-put-clause-stopped g c =
    let l = c.loop-k in
    let x = get_or l.outputs l.k c.index-outputs-k.result in
    let at = slice_get-get_or l.outputs l.k c.index-outputs-k.result (omega (arith, l.auto.outputs)) in
    let named = map output_of c.args.outputs.now in
    let here : slice_get named l.k ≡ Some (output_of x) = ap (λ (os : List (Name × ℕ)). slice_get os l.k) (sym l.invariant.named) ∙ map_at output_of l.outputs l.k x at in
    let p = err_from_is_err_and c.from_residual.result c.from_residual.ensures.1 in
    rw (p.1) (λ told.
    let b = c.requires.begun told in (
      l.k,
      hold_but (g.F.Files.held l.files) (g.F.Files.held c.put.new.files) named l.k
          (output_of x) c.requires.apart here c.in_err-put.ensures.only
          (put_hold (g.F.Files.held l.files) _ l.outputs named l.k l.invariant.named
          (l.invariant.put b.0 b.1)),
    ))
