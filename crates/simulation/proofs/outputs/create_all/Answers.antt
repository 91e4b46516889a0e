use Rattle.std.proofs.Common.{◌≡◌, ℕ, List, ◌∷◌, [], ◌++◌, Some, map, take, length, refl, ap, sym, ◌∙◌, subst}
use Rattle.std.specs.Prelude.{slice_get}
use Rattle.std.proofs.lemmas.Iterator.Adapters.{YieldsList-from_vec}
use Rattle.std.proofs.lemmas.Iterator.Consumers.{YieldsList-so_far, YieldsList-turn, YieldsList-end}
use Rattle.std.proofs.lemmas.List.{map_push, map-id, length-map, length_push}
use Rattle.std.proofs.lemmas.Option.{slice_get_read}
use Rattle.std.proofs.lemmas.Result.{err_from_is_err_and}
use Rattle.mx_base.specs.Files.{Name, ChangesOnly}
use Rattle.simulation.specs.Outward.{output_of, ArePut}
use Rattle.simulation.specs.declared.output.Output.{Output}
use Rattle.simulation.proofs.Writing.{put_created, only_more, unchanged}
use Rattle.simulation.proofs.Stopping.{StayBehind, stay_more, stopped_at}
use Rattle.simulation.proofs.outputs.create_all.Goals as goal

pub loop-name-init : goal.loop-name-init
loop-name-init g c =
    record {
      named = ap (map output_of) c.new-outputs.ensures.items;
      made = λ told k o e. absurd (let q = ap (λ (os : List Output). slice_get os k) (sym c.new-outputs.ensures.items) ∙ e in cc);
      stay = λ k o le there. refl;
      others = unchanged c.args.named (g.F.Files.held c.args.files.now);
      read_quiet = refl;
      quiet = refl;
    }

pub create-requires-clause-some : goal.create-requires-clause-some
create-requires-clause-some g c =
    let gives = c.into_iter-name-iterator.ensures.into_iter_gives in
    let t = YieldsList-turn (YieldsList-from_vec
    {s = c.into_iter-name-iterator.result} c.args.named
    (gives.0 ∙ c.into_vec-name-items.ensures)
    (gives.1 ∙ c.into_vec-name-items.result.ok.0 ∙ ap length c.into_vec-name-items.ensures))
    c.loop-name.yielded c.loop-name.name-iterator c.loop-name.yielded_by c.next.result
    c.next.new.self (c.in-Some.name, c.in-Some.width) c.in-Some.is c.next.ensures.steps in
    (c.requires.widths (length c.loop-name.yielded) (
      c.in-Some.name,
      c.in-Some.width,
    ) (slice_get_read c.args.named (length c.args.named)
    (length c.loop-name.yielded) (c.in-Some.name, c.in-Some.width) refl t.0 t.1)).0

pub create-requires-clause-at_most : goal.create-requires-clause-at_most
create-requires-clause-at_most g c =
    let gives = c.into_iter-name-iterator.ensures.into_iter_gives in
    let t = YieldsList-turn (YieldsList-from_vec
    {s = c.into_iter-name-iterator.result} c.args.named
    (gives.0 ∙ c.into_vec-name-items.ensures)
    (gives.1 ∙ c.into_vec-name-items.result.ok.0 ∙ ap length c.into_vec-name-items.ensures))
    c.loop-name.yielded c.loop-name.name-iterator c.loop-name.yielded_by c.next.result
    c.next.new.self (c.in-Some.name, c.in-Some.width) c.in-Some.is c.next.ensures.steps in
    (c.requires.widths (length c.loop-name.yielded) (
      c.in-Some.name,
      c.in-Some.width,
    ) (slice_get_read c.args.named (length c.args.named)
    (length c.loop-name.yielded) (c.in-Some.name, c.in-Some.width) refl t.0 t.1)).1

pub loop-name-preserved : goal.loop-name-preserved
loop-name-preserved g c =
    let l = c.loop-name in
    let held = g.F.Files.held l.files in
    let later = g.F.Files.held c.create.new.files in
    let x = c.in_ok-create.field-0 in
    let e = c.in_ok-create.ensures in
    let gives = c.into_iter-name-iterator.ensures.into_iter_gives in
    let all = YieldsList-from_vec {s = c.into_iter-name-iterator.result} c.args.named
    (gives.0 ∙ c.into_vec-name-items.ensures)
    (gives.1 ∙ c.into_vec-name-items.result.ok.0 ∙ ap length c.into_vec-name-items.ensures) in
    let t = YieldsList-turn all l.yielded l.name-iterator l.yielded_by c.next.result c.next.new.self (c.in-Some.name, c.in-Some.width) c.in-Some.is c.next.ensures.steps in
    let at : slice_get c.args.named (length l.yielded) ≡ Some (
      c.in-Some.name,
      c.in-Some.width,
    ) = slice_get_read c.args.named (length c.args.named) (length l.yielded)
    (c.in-Some.name, c.in-Some.width) refl t.0 t.1 in
    let so_far : l.yielded ≡ take (length l.yielded) c.args.named = sym (map-id l.yielded) ∙ YieldsList-so_far all l.yielded l.name-iterator l.yielded_by in
    let size : length l.outputs.items ≡ length l.yielded = sym (length-map l.outputs.items output_of) ∙ ap length l.invariant.named in
    let is = c.in_ok-push.ensures.items in
    let name : x.writer.name ≡ c.in-Some.name = ap (λ (n : Name × ℕ). n.0) e.named in
    record {
      named = ap (map output_of) is ∙ map_push output_of l.outputs.items x ∙ ap (λ (o : List (Name × ℕ)). o ++ output_of x ∷ []) l.invariant.named ∙ ap (λ (i : Name × ℕ). l.yielded ++ i ∷ []) e.named;
      made = λ told.
          subst (λ (os : List Output). ArePut later (λ k. []) os) (sym is)
          (put_created held later c.args.named l.outputs.items (length l.yielded) x c.requires.apart (l.invariant.named ∙ so_far) size (at ∙ ap (λ (i : Name × ℕ). Some i) (sym e.named))
          (subst (λ (n : Name). ChangesOnly n held later) (sym name) e.only)
          (e.made (l.invariant.others.told ∙ told)) (l.invariant.made told));
      stay = subst (λ n. StayBehind n c.args.named (g.F.Files.held c.args.files.now) later)
          (sym (length_push l.yielded (
            c.in-Some.name,
            c.in-Some.width,
          ))) (stay_more c.args.named
          (g.F.Files.held c.args.files.now) held later (length l.yielded) (
            c.in-Some.name,
            c.in-Some.width,
          ) c.requires.apart at e.only l.invariant.stay);
      others = only_more c.args.named (g.F.Files.held c.args.files.now) held later (length l.yielded) (c.in-Some.name, c.in-Some.width) at l.invariant.others e.only;
      read_quiet = e.read_quiet ∙ l.invariant.read_quiet;
      quiet = e.quiet (λ q. cc) ∙ l.invariant.quiet;
    }

pub returns-in_err-create-clause-others : goal.returns-in_err-create-clause-others
returns-in_err-create-clause-others g c =
    let l = c.loop-name in
    let gives = c.into_iter-name-iterator.ensures.into_iter_gives in
    let all = YieldsList-from_vec {s = c.into_iter-name-iterator.result} c.args.named
    (gives.0 ∙ c.into_vec-name-items.ensures)
    (gives.1 ∙ c.into_vec-name-items.result.ok.0 ∙ ap length c.into_vec-name-items.ensures) in
    let t = YieldsList-turn all l.yielded l.name-iterator l.yielded_by c.next.result c.next.new.self (c.in-Some.name, c.in-Some.width) c.in-Some.is c.next.ensures.steps in
    let at : slice_get c.args.named (length l.yielded) ≡ Some (
      c.in-Some.name,
      c.in-Some.width,
    ) = slice_get_read c.args.named (length c.args.named) (length l.yielded)
    (c.in-Some.name, c.in-Some.width) refl t.0 t.1 in
    only_more c.args.named (g.F.Files.held c.args.files.now) (g.F.Files.held l.files)
    (g.F.Files.held c.create.new.files) (length l.yielded) (
      c.in-Some.name,
      c.in-Some.width,
    ) at l.invariant.others c.in_err-create.ensures.only

pub returns-in_err-push-clause-others : goal.returns-in_err-push-clause-others
returns-in_err-push-clause-others g c =
    let l = c.loop-name in
    let gives = c.into_iter-name-iterator.ensures.into_iter_gives in
    let all = YieldsList-from_vec {s = c.into_iter-name-iterator.result} c.args.named
    (gives.0 ∙ c.into_vec-name-items.ensures)
    (gives.1 ∙ c.into_vec-name-items.result.ok.0 ∙ ap length c.into_vec-name-items.ensures) in
    let t = YieldsList-turn all l.yielded l.name-iterator l.yielded_by c.next.result c.next.new.self (c.in-Some.name, c.in-Some.width) c.in-Some.is c.next.ensures.steps in
    let at : slice_get c.args.named (length l.yielded) ≡ Some (
      c.in-Some.name,
      c.in-Some.width,
    ) = slice_get_read c.args.named (length c.args.named) (length l.yielded)
    (c.in-Some.name, c.in-Some.width) refl t.0 t.1 in
    only_more c.args.named (g.F.Files.held c.args.files.now) (g.F.Files.held l.files)
    (g.F.Files.held c.create.new.files) (length l.yielded) (
      c.in-Some.name,
      c.in-Some.width,
    ) at l.invariant.others c.in_ok-create.ensures.only

pub returns-clause-named : goal.returns-clause-named
returns-clause-named g c =
    let gives = c.into_iter-name-iterator.ensures.into_iter_gives in
    let t = YieldsList-end (YieldsList-from_vec
    {s = c.into_iter-name-iterator.result} c.args.named
    (gives.0 ∙ c.into_vec-name-items.ensures)
    (gives.1 ∙ c.into_vec-name-items.result.ok.0 ∙ ap length c.into_vec-name-items.ensures))
    c.loop-name.yielded c.loop-name.name-iterator c.loop-name.yielded_by c.next.result
    c.next.new.self c.in-None.is c.next.ensures.steps in
    c.loop-name.invariant.named ∙ sym (map-id c.loop-name.yielded) ∙ t.0

pub returns-in_err-create-clause-stopped : goal.returns-in_err-create-clause-stopped
returns-in_err-create-clause-stopped g c =
    let l = c.loop-name in
    let gives = c.into_iter-name-iterator.ensures.into_iter_gives in
    let all = YieldsList-from_vec {s = c.into_iter-name-iterator.result} c.args.named
    (gives.0 ∙ c.into_vec-name-items.ensures)
    (gives.1 ∙ c.into_vec-name-items.result.ok.0 ∙ ap length c.into_vec-name-items.ensures) in
    let t = YieldsList-turn all l.yielded l.name-iterator l.yielded_by c.next.result c.next.new.self (c.in-Some.name, c.in-Some.width) c.in-Some.is c.next.ensures.steps in
    let at : slice_get c.args.named (length l.yielded) ≡ Some (
      c.in-Some.name,
      c.in-Some.width,
    ) = slice_get_read c.args.named (length c.args.named) (length l.yielded)
    (c.in-Some.name, c.in-Some.width) refl t.0 t.1 in
    let so_far : l.yielded ≡ take (length l.yielded) c.args.named = sym (map-id l.yielded) ∙ YieldsList-so_far all l.yielded l.name-iterator l.yielded_by in
    let size : length l.outputs.items ≡ length l.yielded = sym (length-map l.outputs.items output_of) ∙ ap length l.invariant.named in
    let p = err_from_is_err_and c.from_residual.result c.from_residual.ensures.1 in
    rw (p.1) (λ told. (
      length l.yielded,
      stopped_at (g.F.Files.held c.args.files.now) (g.F.Files.held l.files)
          (g.F.Files.held c.create.new.files) c.args.named l.outputs.items (length l.yielded)
          (c.in-Some.name, c.in-Some.width) c.requires.apart
          (l.invariant.named ∙ so_far) size at c.in_err-create.ensures.only
          (l.invariant.made told) l.invariant.stay,
    ))

pub returns-in_err-push-clause-stopped : goal.returns-in_err-push-clause-stopped
returns-in_err-push-clause-stopped g c =
    let l = c.loop-name in
    let gives = c.into_iter-name-iterator.ensures.into_iter_gives in
    let all = YieldsList-from_vec {s = c.into_iter-name-iterator.result} c.args.named
    (gives.0 ∙ c.into_vec-name-items.ensures)
    (gives.1 ∙ c.into_vec-name-items.result.ok.0 ∙ ap length c.into_vec-name-items.ensures) in
    let t = YieldsList-turn all l.yielded l.name-iterator l.yielded_by c.next.result c.next.new.self (c.in-Some.name, c.in-Some.width) c.in-Some.is c.next.ensures.steps in
    let at : slice_get c.args.named (length l.yielded) ≡ Some (
      c.in-Some.name,
      c.in-Some.width,
    ) = slice_get_read c.args.named (length c.args.named) (length l.yielded)
    (c.in-Some.name, c.in-Some.width) refl t.0 t.1 in
    let so_far : l.yielded ≡ take (length l.yielded) c.args.named = sym (map-id l.yielded) ∙ YieldsList-so_far all l.yielded l.name-iterator l.yielded_by in
    let size : length l.outputs.items ≡ length l.yielded = sym (length-map l.outputs.items output_of) ∙ ap length l.invariant.named in
    let p = err_from_is_err_and c.from_residual-in_err-push.result c.from_residual-in_err-push.ensures.1 in
    rw (p.1) (λ told. (
      length l.yielded,
      stopped_at (g.F.Files.held c.args.files.now) (g.F.Files.held l.files)
          (g.F.Files.held c.create.new.files) c.args.named l.outputs.items (length l.yielded)
          (c.in-Some.name, c.in-Some.width) c.requires.apart
          (l.invariant.named ∙ so_far) size at c.in_ok-create.ensures.only
          (l.invariant.made told) l.invariant.stay,
    ))
