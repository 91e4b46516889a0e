use Rattle.std.proofs.Common.{◌≡◌, ◌∙◌, ◌<◌, ◌⊎◌, List, ℕ, length, Some, refl, ap, sym, subst, inl, inr}
use Rattle.std.specs.Prelude.{slice_get}
use Rattle.rtl_build.specs.declared.signal.Signal.{Signal}
use Rattle.stream_graph.specs.declared.node.Kind.{Kind}
use Rattle.stream_graph.specs.declared.node.Kind.TheVariants as K
use Rattle.stream_graph.specs.declared.node.NodeView.{NodeView}
use Rattle.stream_graph.specs.LookUps.{kind_at}
use Rattle.stream_graph.proofs.Reading.{view_read}
use Rattle.kernel_layout.specs.declared.reads.Read.{Read}
use Rattle.kernel_layout.specs.Reads.{no_read, read_at}
use Rattle.kernel_wiring.specs.Words.{read_signal, reads_at, signals_at, control_among, IsReadIn}
use Rattle.kernel_wiring.proofs.Mapped.{slice_map}
use Rattle.kernel_wiring.proofs.Building.{same_reads}
use Rattle.kernel_wiring.proofs.controls.control_of.Goals as goal
use Rattle.kernel_wiring.proofs.controls.control_of.Goals.{in-Input, in-Output}

-- the signal at a port's place is its control
control_found : (k : Kind) (signals : List Signal) (place : ℕ) (s : Signal) → ((k ≡ K.Input) × (place ≡ 0)) ⊎ ((k ≡ K.Output) × (place ≡ 1))
    → slice_get signals place ≡ Some s → Some s ≡ control_among k signals
control_found k signals place s (inl p) e = sym (ap (λ x. control_among x signals) p.0 ∙ ap (slice_get signals) (sym p.1) ∙ e)
control_found k signals place s (inr p) e = sym (ap (λ x. control_among x signals) p.0 ∙ ap (slice_get signals) (sym p.1) ∙ e)

pub read_signal-requires : goal.read_signal-requires
read_signal-requires c =
    let layout = c.args.layout.now in
    let place = c.match-node.place in
    let same = c.as_slice.ensures ∙ same_reads layout c.args.node c.index.result c.at.result.now c.index.ensures.number c.at.ensures in
    let found = c.in_ok-read.ensures.lookup.3 in
    let inside : place < length (reads_at layout c.args.node) = subst (λ (rs : List Read). place < length rs) same found.0 in
    let read = found.1 no_read ∙ ap (λ rs. read_at rs place) same in
    subst (λ r. IsReadIn layout c.args.late.now c.args.words.now r) (sym read) (c.requires.reads place no_read inside)

pub returns : goal.returns
returns c =
    let nodes = c.args.kernel.now.nodes in
    let n = c.args.node in
    let layout = c.args.layout.now in
    let late = c.args.late.now in
    let words = c.args.words.now in
    let place = c.match-node.place in
    let same = c.as_slice.ensures ∙ same_reads layout n c.index.result c.at.result.now c.index.ensures.number c.at.ensures in
    let found = c.in_ok-read.ensures.lookup.3 in
    let inside : place < length (reads_at layout n) = subst (λ (rs : List Read). place < length rs) same found.0 in
    let read = found.1 no_read ∙ ap (λ rs. read_at rs place) same in
    let signal : read_signal layout late words (read_at (reads_at layout n) place) ≡ c.read_signal.result =
    sym (c.read_signal.ensures ∙ ap (read_signal layout late words) read) in
    let kind : kind_at nodes n ≡ c.node.result.kind = sym (ap (λ (v : NodeView). v.kind) (view_read nodes n n c.node.result refl c.node.ensures)) in
    let is : ((kind_at nodes n ≡ K.Input) × (place ≡ 0)) ⊎ ((kind_at nodes n ≡ K.Output) × (place ≡ 1)) =
    elim c.match-node.branch [
      | in-Input w ↦ inl (kind ∙ w.in-Input.is, w.place-is)
      | in-Output w ↦ inr (kind ∙ w.in-Output.is, w.place-is)
    ] in
    control_found (kind_at nodes n) (signals_at layout late words n) place c.read_signal.result is
    (slice_map (read_signal layout late words) (reads_at layout n) place no_read inside ∙ ap Some signal)
