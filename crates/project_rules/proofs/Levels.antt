-- No net of the top module hangs on itself within an edge, and widths agree.
use Rattle.std.proofs.Common.{◌≡◌, ◌∙◌, ℕ, zero, suc, ◌+◌, ◌-◌, ◌*◌, ◌<◌, ◌≤◌, Bool, true, false, not, ◌&&◌, ◌||◌, eqb, List, [], ◌∷◌, map, Option, Some, None, length}
use Rattle.std.proofs.Common.{refl, sym, ap, subst, arith}
use Rattle.std.specs.Prelude.{slice_get}
use Rattle.std.proofs.lemmas.Bool.{false≢true}
use Rattle.rtl_ir.specs.declared.design.Assign.{Assign}
use Rattle.rtl_ir.specs.declared.design.Port.{Port}
use Rattle.rtl_ir.specs.declared.design.Module.{Module}
use Rattle.rtl_ir.specs.declared.design.Design.{Design}
use Rattle.rtl_ir.specs.Typed.{is_input}
use Rattle.rtl_ir.specs.Rules.{Connection, Feeds, by_assign, by_part, Way, IsLevelled, HasWidths, HasUpdates}
use Rattle.rtl_ir.specs.Ports.{port_view, first_output, done_port}
use Rattle.rtl_build.specs.Wires.{is_output}
use Rattle.manager_links.specs.declared.hosts.HostPort.{HostPort}
use Rattle.manager_links.specs.declared.links.Links.{Links}
use Rattle.manager_links.specs.declared.project.Project.{Project}
use Rattle.project_rtl.specs.Shapes.{shape_of}
use Rattle.project_rtl.specs.Blocks.{streams_of, stream_count, first_net, ended_net}
use Rattle.project_rtl.specs.Tops.{range, ended_nets, valid_nets, top_module}
use Rattle.project_rtl.specs.Projects.{IsProjectOf}
use Rattle.project_rtl.specs.Kept.{AllKeepRules}
use Rattle.project_rules.proofs.Lists.{there, at}
use Rattle.project_rules.proofs.Slots.{Slot, slots, port_place, out_place, done_place, ended_place, assigned_place}
use Rattle.project_rules.proofs.Nets.{slot_is, no_registers}
use Rattle.project_rules.proofs.Streams.{nodes_are}
use Rattle.project_rules.proofs.Assigns.{IsLow, AreLow, IsFine, ended_fine}
use Rattle.project_rules.proofs.Wired.{ranked_at}
use Rattle.project_rules.proofs.Queues.{IsPart, part_at, IsSlow, no_way, ranked}
use Rattle.project_rules.proofs.Driven.{count_done, which_of, IsConnected, connected}

-- ---- ports

input_of : (ps : List Port) (k : ℕ) (p : Port) → slice_get ps k ≡ Some p → p.output ≡ false → is_input ps p.net ≡ true
input_of [] k p e o = absurd (cc)
input_of (q ∷ ps) zero p e o =
    let same : q ≡ p = cc in
    let one : eqb p.net p.net ≡ true = grind arith in
    ap (λ (y : Port). (eqb y.net p.net && not y.output) || is_input ps p.net) same ∙ ap (λ b. (b && not p.output) || is_input ps p.net) one
    ∙ ap (λ b. (not b) || is_input ps p.net) o
input_of (q ∷ ps) (suc k) p e o = ap (λ b. (eqb q.net p.net && not q.output) || b) (input_of ps k p e o) ∙ either (eqb q.net p.net && not q.output)
  where
    either : (b : Bool) → b || true ≡ true
    either true = refl
    either false = refl

output_of : (ps : List Port) (k : ℕ) (p : Port) → slice_get ps k ≡ Some p → p.output ≡ true → is_output ps p.net ≡ true
output_of [] k p e o = absurd (cc)
output_of (q ∷ ps) zero p e o =
    let same : q ≡ p = cc in
    let one : eqb p.net p.net ≡ true = grind arith in
    ap (λ (y : Port). (eqb y.net p.net && y.output) || is_output ps p.net) same ∙ ap (λ b. (b && p.output) || is_output ps p.net) one
    ∙ ap (λ b. b || is_output ps p.net) o
output_of (q ∷ ps) (suc k) p e o = ap (λ b. (eqb q.net p.net && q.output) || b) (output_of ps k p e o) ∙ either (eqb q.net p.net && q.output)
  where
    either : (b : Bool) → b || true ≡ true
    either true = refl
    either false = refl

abbrev rank_of : Option Slot → ℕ
rank_of None = 0
rank_of (Some s) = s.rank

module _ (project : Project) where
  abbrev top : Module
  top = top_module project

  abbrev rank : ℕ → ℕ
  rank n = rank_of (slice_get (slots project) n)

  low_net : (n : ℕ) (s : Slot) → slice_get (slots project) n ≡ Some s → s.width ≡ 1 → s.rank < 2 → IsLow top rank n 2
  low_net n s e one lt =
      let i = slot_is project n s e in
      let r = ap rank_of e in
      record { width = i.width ∙ one; in_range = i.in_range; low = omega (arith, r, lt) }

  ended_low : (k : ℕ) → k < length project.kernels → IsLow top rank (ended_net project k) 2
  ended_low k lt =
      let kernel = there project.kernels k lt in
      let place : first_net project k + 3 * stream_count kernel.0 ≡ ended_net project k =
      ap (λ nodes. first_net project k + 3 * length (streams_of nodes)) (sym (nodes_are project.kernels k kernel.0 kernel.1)) in
      low_net (ended_net project k) _ (at (slots project) (first_net project k + 3 * stream_count kernel.0) (ended_net project k) _
      (ended_place project k kernel.0 kernel.1) place) refl (omega arith)

  all_ended_low : (from count : ℕ) → from + count ≤ length project.kernels → AreLow top rank 2 (map (ended_net project) (range from count))
  all_ended_low from zero h = tt
  all_ended_low from (suc count) h = (ended_low from (omega (arith, h)), all_ended_low (from + 1) count (omega (arith, h)))

  valid_low : (port : ℕ) (hosts : List HostPort) → ((j : ℕ) (host : HostPort) → slice_get hosts j ≡ Some host
      → IsLow top rank (port + 3 * j + 1) 2) → AreLow top rank 2 (valid_nets port hosts)
  valid_low port [] h = tt
  valid_low port (host ∷ hosts) h =
      let z : port + 3 * 0 + 1 ≡ port + 1 = omega arith in (
        subst (λ n. IsLow top rank n 2) z (h 0 host refl),
        valid_low (port + 3) hosts (λ j x e. let y : port + 3 * suc j + 1 ≡ port + 3 + 3 * j + 1 = omega arith in subst (λ n. IsLow top rank n 2) y (h (suc j) x e)),
      )

  pub fine : (t : ℕ) (a : Assign) → slice_get top.assigns t ≡ Some a → IsFine top rank a
  fine =
      let c = count_done project in
      let some = project.whole.few.some in
      let done = slot_is project (done_port (shape_of project)) _ (port_place project (done_port (shape_of project)) _ (done_place project)) in
      let high = ap rank_of (port_place project (done_port (shape_of project)) _ (done_place project)) in
      ended_fine top rank (done_port (shape_of project)) (first_net project (length project.kernels)) (ended_net project 0) 2 (ended_nets project)
      (valid_nets (first_output (shape_of project)) project.joints.outputs)
      (λ t lt.
      let e = assigned_place project t (omega (arith, lt, c)) in
      let i = slot_is project (first_net project (length project.kernels) + t) _ e in
      record { width = i.width; in_range = i.in_range; ranked = ap rank_of e })
      (ended_low 0 (omega (arith, some)))
      (all_ended_low 1 (length project.kernels - 1) (omega (arith, some)))
      (valid_low (first_output (shape_of project)) project.joints.outputs
      (λ j host e. low_net (first_output (shape_of project) + 3 * j + 1) _ (port_place project (first_output (shape_of project) + 3 * j + 1) _
      (out_place project j host e).second) refl (omega arith)))
      (record { width = done.width; in_range = done.in_range; high = omega (arith, high, c) })

  pub no_updates : HasUpdates top
  no_updates = record {
    update = λ n. 0;
    some = λ n h. absurd (false≢true (sym (no_registers project n) ∙ h));
    only = λ n j u e f. absurd (cc);
    of_mems = λ k i j a b u v e f g h. absurd (cc);
  }

module _ (project : Project) (made : Links) (inners : List Module) (d : Design) (whole : IsProjectOf project made inners d) (keeps : AllKeepRules project inners) where
  part_rises : (k j l : ℕ) (c : Connection d (top project) k j) (e : Connection d (top project) k l) → c.port.output ≡ false → e.port.output ≡ true
      → Way d e.inner c.port.net e.port.net → rank project c.net < rank project e.net
  part_rises k j l c e i o way =
      let p = part_at project made inners d whole keeps k (which_of project made inners d whole keeps k j c) in
      let x = connected project made inners d whole keeps k j c p in
      let y = connected project made inners d whole keeps k l e p in
      by_slow p x y p.slow
    where
      by_slow : (p : IsPart project made inners d whole keeps k) → (x : IsConnected project made inners d whole keeps c p)
          → (y : IsConnected project made inners d whole keeps e p)
          → IsSlow project made inners d whole keeps p.inner p.views p.ss → rank project c.net < rank project e.net
      by_slow p x y (no_way none) =
          let a = input_of p.inner.ports j c.port (ap (λ (q : Module). slice_get q.ports j) (sym x.of) ∙ c.at) i in
          let b = output_of p.inner.ports l e.port (ap (λ (q : Module). slice_get q.ports l) (sym y.of) ∙ e.at) o in
          absurd (none c.port.net e.port.net a b (subst (λ (z : Module). Way d z c.port.net e.port.net) y.of way))
      by_slow p x y (ranked r) =
          let a = (ranked_at p.views p.ss j (port_view c.inner c.port) x.slot r x.view x.own).inner i in
          let b = (ranked_at p.views p.ss l (port_view e.inner e.port) y.slot r y.view y.own).outer o in
          let m = ap rank_of x.is in
          let n = ap rank_of y.is in
          omega (arith, a, b, m, n)

  rises : (a b : ℕ) → Feeds d (top project) a b → rank project a < rank project b
  rises a b (by_assign j n x e r) = (fine project j x e).rises n r
  rises a b (by_part k j l c e i o way) = part_rises k j l c e i o way

  pub levelled : IsLevelled d (top project)
  levelled = record { rank = rank project; rising = rises }

  pub has_widths : HasWidths d (top project)
  has_widths = record {
    typed = λ t a e. (fine project t a e).typed;
    updates = λ j u e. absurd (cc);
    joined = λ k j e.
        let p = part_at project made inners d whole keeps k (which_of project made inners d whole keeps k j e) in
        let x = connected project made inners d whole keeps k j e p in
        sym x.fit.width ∙ sym (slot_is project e.net x.slot x.is).width;
  }
