use Rattle.std.proofs.Common.{◌≡◌, ℕ, ◌+◌, ◌-◌, ◌<◌, Bool, false, not, List, ◌∷◌, Err, length, map, take, drop, get_or, inl, inr, ⊎_elim, refl, ap, sym, ◌∙◌, subst, arith}
use Rattle.std.specs.Prelude.{IsSome}
use Rattle.std.specs.Vec.{with_items}
use Rattle.std.proofs.lemmas.List.{length-map, take_rest, get_or-drop}
use Rattle.std.proofs.lemmas.Result.{err_from_is_err_and, on_ok_weaker, on_err_weaker}
use Rattle.mx_base.specs.Files.{Name, Held}
use Rattle.rtl_ir.specs.Flat.{top_of}
use Rattle.rtl_ir.specs.Parts.{own_of}
use Rattle.rtl_ir.specs.Run.{Outer}
use Rattle.stall_source.specs.Stalls.{Answers}
use Rattle.verilog_sim.specs.declared.offer.Offer.{Offer}
use Rattle.verilog_sim.specs.declared.offer.Event.{Event as Seen}
use Rattle.verilog_sim.specs.Simulates.{AreOffered}
use Rattle.verilog_sim.proofs.Edges.{back}
use Rattle.simulation.specs.Inputs.{words_of}
use Rattle.simulation.specs.Ends.{left_after}
use Rattle.simulation.specs.Inward.{input_of, AreUnrefused, AreOfWidths, AreAt, AreReady, AreTaken, IsFirstStop, IsFaulty}
use Rattle.simulation.specs.Inputs as lines
use Rattle.simulation.specs.declared.stop.Stop.TheVariants as stops
use Rattle.mx_base.specs.Counts.{Rose}
use Rattle.simulation.specs.Outputs.{ChangesOnlyOutputs, HoldLinesBut}
use Rattle.simulation.specs.Outward.{output_of, ArePut, AreOfWidth, all_moved, all_with_moved}
use Rattle.simulation.specs.Answers.{Tells}
use Rattle.simulation.specs.Benches.{Going, AreOther}
use Rattle.simulation.specs.declared.input.Input.{Input}
use Rattle.simulation.specs.declared.output.Output.{Output}
use Rattle.simulation.proofs.Benching.{bench_after, lent_length, on_ok_from, on_ok_under, no_write_stop, offers_fit, seen_fit}
use Rattle.simulation.proofs.Running.{went, tells_stop, missing_stop}
use Rattle.simulation.proofs.Stopping.{put_hold, on_err_under}
use Rattle.simulation.proofs.bench.Bench.edge.Goals as goal

pub edge-requires-clause-words : goal.edge-requires-clause-words
edge-requires-clause-words g c =
    let b = c.args.self.now in
    let named = map input_of b.inputs.items in
    let words : AreOfWidths named c.offer_all.new.offers = subst
    (λ (l : List Input). AreOfWidths
    (map input_of l) c.offer_all.new.offers) c.deref_mut-2.ensures.value
    c.in_ok-offer_all.ensures.words in
    let offers : c.deref-3.result.now
    ≡ c.offer_all.new.offers = c.deref-3.ensures.value ∙ back b.offers
    c.offer_all.new.offers c.deref_mut-3.result.now c.offer_all.auto.offers
    c.deref_mut-3.ensures.value in
    λ m top. subst (λ (l : List Offer). AreOffered m b.sim.outer l) (sym offers)
    (offers_fit b.sim named c.offer_all.new.offers
    (length-map b.inputs.items input_of ∙ c.requires.bench.inputs)
    c.requires.bench.input_widths words m top)

pub put_all-requires-clause-words : goal.put_all-requires-clause-words
put_all-requires-clause-words g c =
    let b = c.args.self.now in
    let named = map output_of b.outputs.items in
    let events : c.deref-7.result.now ≡ c.edge.new.events = c.deref-7.ensures.value ∙ back b.events c.edge.new.events c.deref_mut-5.result.now c.edge.auto.events c.deref_mut-5.ensures.value in
    let rest : take (length c.deref-7.result.now - c.len-inputs.result) (drop c.len-inputs.result c.deref-7.result.now) ≡ drop (length b.sim.outer.inputs) c.edge.new.events =
    take_rest c.deref-7.result.now c.len-inputs.result ∙ ap (drop c.len-inputs.result) events ∙ ap (λ n. drop n c.edge.new.events) (c.len-inputs.ensures ∙ b.inputs.ok.0 ∙ c.requires.bench.inputs) in
    subst (λ (l : List Output). AreOfWidth (map output_of l)
    (take (length c.deref-7.result.now - c.len-inputs.result)
    (drop c.len-inputs.result c.deref-7.result.now))) (sym c.deref_mut-7.ensures.value)
    (subst (λ (l : List Seen). AreOfWidth named l) (sym rest)
    (seen_fit b.sim c.edge.new.self named c.requires.bench.top c.deref-3.result.now
    c.deref-4.result.now _ c.edge.new.events
    (length-map b.outputs.items output_of ∙ c.requires.bench.outputs)
    c.requires.bench.output_widths c.requires.bench.is_top
    (c.edge.ensures.edge c.requires.bench.top c.requires.bench.is_top)))

pub returns-clause-bench : goal.returns-clause-bench
returns-clause-bench g c =
    let b = c.args.self.now in
    let looked : c.deref_mut-6.result.now
    ≡ c.offer_all.new.inputs = c.deref_mut-6.ensures.value ∙ back b.inputs
    c.offer_all.new.inputs c.deref_mut-2.result.now c.offer_all.auto.inputs
    c.deref_mut-2.ensures.value in
    let inputs : map input_of c.take_all.new.inputs
    ≡ map input_of b.inputs.items = c.take_all.ensures.named ∙ ap
    (map input_of) looked ∙ c.in_ok-offer_all.ensures.named ∙ ap
    (map input_of) c.deref_mut-2.ensures.value in
    let outputs : map output_of c.put_all.new.outputs ≡ map output_of b.outputs.items = c.put_all.ensures.named ∙ ap (map output_of) c.deref_mut-7.ensures.value in
    on_ok_from c.put_all.result
    (bench_after b _ c.requires.bench c.edge.ensures.kept
    (ap (map input_of) (back (with_items b.inputs c.offer_all.new.inputs) c.take_all.new.inputs c.deref_mut-6.result.now c.take_all.auto.inputs c.deref_mut-6.ensures.value) ∙ inputs)
    (ap (map output_of) (back b.outputs c.put_all.new.outputs c.deref_mut-7.result.now c.put_all.auto.outputs c.deref_mut-7.ensures.value) ∙ outputs)
    (subst AreUnrefused (sym (back
    (with_items b.inputs c.offer_all.new.inputs) c.take_all.new.inputs
    c.deref_mut-6.result.now c.take_all.auto.inputs c.deref_mut-6.ensures.value))
    (c.take_all.ensures.unrefused (subst AreUnrefused
    (sym looked) c.in_ok-offer_all.ensures.unrefused)))
    (lent_length b.stalled c.ask.new.stalled c.deref_mut.result.now c.ask.auto.stalled c.deref_mut.ensures.value)
    (lent_length b.offers c.offer_all.new.offers c.deref_mut-3.result.now c.offer_all.auto.offers c.deref_mut-3.ensures.value)
    (lent_length b.accepts c.accept_all.new.accepts c.deref_mut-4.result.now c.accept_all.auto.accepts c.deref_mut-4.ensures.value)
    (lent_length b.events c.edge.new.events c.deref_mut-5.result.now c.edge.auto.events c.deref_mut-5.ensures.value))

pub returns-clause-begun : goal.returns-clause-begun
returns-clause-begun g c =
    let b = c.args.self.now in
    let later = g.F.Files.held c.put_all.new.files in
    let outputs : (with_items b.outputs c.put_all.new.outputs).items
    ≡ c.put_all.new.outputs = back b.outputs c.put_all.new.outputs c.deref_mut-7.result.now
    c.put_all.auto.outputs c.deref_mut-7.ensures.value in
    on_ok_under c.put_all.result _ (λ told.
    let words = c.requires.begun told in
    let put = subst (λ (l : List Output). ArePut
    (g.F.Files.held c.offer_all.new.files) words.0 l) (sym c.deref_mut-7.ensures.value)
    (subst (λ (h : Held). ArePut h words.0 b.outputs.items)
    (sym c.in_ok-offer_all.ensures.same) words.1) in
    on_ok_weaker c.put_all.result (λ p. (_, subst (ArePut later _) (sym outputs) p)) (c.put_all.ensures.put words.0 put))

pub returns-clause-goes : goal.returns-clause-goes
returns-clause-goes g c = λ s edges is done going.
    let stalls : Answers = λ pick edge port answer. g.G.Fn.post c.args.stalls.now.test (pick, (edge, (port, tt))) answer in
    let b = c.args.self.now in
    let held = g.F.Files.held c.args.files.now in
    let middle = g.F.Files.held c.offer_all.new.files in
    let later = g.F.Files.held c.put_all.new.files in
    let same : middle ≡ held = c.in_ok-offer_all.ensures.same in
    let js = c.offer_all.new.inputs in
    let ks = c.take_all.new.inputs in
    let ps = c.put_all.new.outputs in
    let offers = c.deref-3.result.now in
    let accepts = c.deref-4.result.now in
    let events = c.edge.new.events in
    let in_is : (with_items (with_items b.inputs js) ks).items ≡ ks = back (with_items b.inputs js) ks c.deref_mut-6.result.now c.take_all.auto.inputs c.deref_mut-6.ensures.value in
    let out_is : (with_items b.outputs ps).items ≡ ps = back b.outputs ps c.deref_mut-7.result.now c.put_all.auto.outputs c.deref_mut-7.ensures.value in
    let looked : c.deref_mut-6.result.now ≡ js = c.deref_mut-6.ensures.value ∙ back b.inputs js c.deref_mut-2.result.now c.offer_all.auto.inputs c.deref_mut-2.ensures.value in
    let asked : (with_items b.stalled c.ask.new.stalled).items ≡ c.ask.new.stalled = back b.stalled c.ask.new.stalled c.deref_mut.result.now c.ask.auto.stalled c.deref_mut.ensures.value in
    let stalled : c.deref.result.now ≡ c.ask.new.stalled = c.deref.ensures.value ∙ asked in
    let offered : offers ≡ c.offer_all.new.offers = c.deref-3.ensures.value ∙ back b.offers c.offer_all.new.offers c.deref_mut-3.result.now c.offer_all.auto.offers c.deref_mut-3.ensures.value in
    let accepted : accepts
    ≡ c.accept_all.new.accepts = c.deref-4.ensures.value ∙ back b.accepts
    c.accept_all.new.accepts c.deref_mut-4.result.now c.accept_all.auto.accepts
    c.deref_mut-4.ensures.value in
    let seen : c.deref-6.result.now ≡ events = c.deref-6.ensures.value ∙ back b.events events c.deref_mut-5.result.now c.edge.auto.events c.deref_mut-5.ensures.value in
    let seen_again : c.deref-7.result.now ≡ events = c.deref-7.ensures.value ∙ back b.events events c.deref_mut-5.result.now c.edge.auto.events c.deref_mut-5.ensures.value in
    let ins : c.len-inputs.result ≡ length b.sim.outer.inputs = c.len-inputs.ensures ∙ b.inputs.ok.0 ∙ c.requires.bench.inputs in
    let outs : c.len-outputs.result ≡ length b.sim.outer.outputs = c.len-outputs.ensures ∙ b.outputs.ok.0 ∙ c.requires.bench.outputs in
    let js_length : length js ≡ length b.sim.outer.inputs = c.offer_all.auto.inputs ∙ ap length c.deref_mut-2.ensures.value ∙ c.requires.bench.inputs in
    let ks_length : length ks ≡ length js = c.take_all.auto.inputs ∙ ap length looked in
    let stalled_length : length c.deref.result.now
    ≡ length b.sim.outer.inputs + length b.sim.outer.outputs + length b.sim.outer.holds = ap
    length stalled ∙ c.ask.auto.stalled ∙ ap length c.deref_mut.ensures.value ∙
    c.requires.bench.stalled in
    let rest : take (length c.deref-7.result.now - c.len-inputs.result) (drop c.len-inputs.result c.deref-7.result.now) ≡ drop (length b.sim.outer.inputs) events =
    take_rest c.deref-7.result.now c.len-inputs.result ∙ ap (drop c.len-inputs.result) seen_again ∙ ap (λ n. drop n events) ins in
    let accept : (k : ℕ) → k < length accepts → get_or accepts k false ≡ not (get_or c.deref.result.now (length b.sim.outer.inputs + k) false) = λ k less. (
    let lt : k < length c.deref_mut-4.result.now = (let z = ap length accepted in omega (arith, z, c.accept_all.auto.accepts)) in
    ap (λ (l : List Bool). get_or l k false) accepted ∙ c.accept_all.ensures k lt
    ∙ ap (λ (l : List Bool). not (get_or l k false)) (take_rest c.deref-2.result.now c.len-inputs.result)
    ∙ ap not (get_or-drop c.len-inputs.result c.deref-2.result.now k false)
    ∙ ap (λ (l : List Bool). not (get_or l (c.len-inputs.result + k) false)) (c.deref-2.ensures.value ∙ asked ∙ sym stalled)
    ∙ ap (λ n. not (get_or c.deref.result.now (n + k) false)) ins) in
    let first = c.len-inputs.result + c.len-outputs.result in
    let holds = take (length c.deref-5.result.now - first) (drop first c.deref-5.result.now) in
    let hold : (k : ℕ) → get_or holds k false ≡ get_or c.deref.result.now (length b.sim.outer.inputs + length b.sim.outer.outputs + k) false = λ k.
    ap (λ (l : List Bool). get_or l k false) (take_rest c.deref-5.result.now first)
    ∙ get_or-drop first c.deref-5.result.now k false
    ∙ ap (λ (l : List Bool). get_or l (first + k) false) (c.deref-5.ensures.value ∙ asked ∙ sym stalled)
    ∙ ap (λ n. get_or c.deref.result.now (n + c.len-outputs.result + k) false) ins ∙ ap (λ n. get_or c.deref.result.now (length b.sim.outer.inputs + n + k) false) outs in
    on_ok_under c.put_all.result _ (λ told.
    let run = going told in
    let left = left_after s.outer.inputs (map words_of s.inputs) (own_of run.vs) in
    let words = all_moved s.outer.outputs (own_of (run.restart ∷ run.vs)) in
    let at_first : AreAt middle s.inputs left c.deref_mut-2.result.now = subst
    (λ (h : Held). AreAt h s.inputs left c.deref_mut-2.result.now) (sym same)
    (subst (AreAt held s.inputs left) (sym c.deref_mut-2.ensures.value) run.at) in
    let at : AreAt held s.inputs left js = c.in_ok-offer_all.ensures.stand s.inputs left (subst (AreAt held s.inputs left) (sym c.deref_mut-2.ensures.value) run.at) in
    let ready : AreReady held c.deref.result.now s.inputs left js offers (length js) =
    subst (λ n. AreReady held c.deref.result.now s.inputs left js offers n) (sym c.offer_all.auto.inputs)
    (subst (λ (l : List Offer). AreReady held c.deref.result.now s.inputs left js l (length c.deref_mut-2.result.now)) (sym offered)
    (c.in_ok-offer_all.ensures.ready s.inputs left (subst (AreAt held s.inputs left) (sym c.deref_mut-2.ensures.value) run.at))) in
    let taken : AreTaken events js ks (length js) = subst
    (λ (l : List Input). AreTaken events l ks (length l)) looked
    (subst (λ (l : List Seen). AreTaken l c.deref_mut-6.result.now ks
    (length c.deref_mut-6.result.now)) seen c.take_all.ensures.taken) in
    let put_first : ArePut middle words c.deref_mut-7.result.now = subst
    (λ (h : Held). ArePut h words c.deref_mut-7.result.now) (sym same)
    (subst (ArePut held words) (sym c.deref_mut-7.ensures.value) run.put) in
    let only : ChangesOnlyOutputs (map output_of b.outputs.items) held later = subst
    (λ (h : Held). ChangesOnlyOutputs (map output_of b.outputs.items) h later) same
    (subst (λ (l : List Output). ChangesOnlyOutputs
    (map output_of l) middle later) c.deref_mut-7.ensures.value c.put_all.ensures.others) in
    let named : map input_of ks ≡ map input_of b.inputs.items = c.take_all.ensures.named ∙ ap (map input_of) looked ∙ c.in_ok-offer_all.ensures.named ∙ ap (map input_of) c.deref_mut-2.ensures.value in
    let other : AreOther (map input_of ks) (map output_of b.outputs.items) = subst (λ (l : List (Name × ℕ)). AreOther l (map output_of b.outputs.items)) (sym named) c.requires.bench.others in
    on_ok_weaker c.put_all.result
    (λ (put : ArePut later (all_with_moved words (take (length c.deref-7.result.now - c.len-inputs.result) (drop c.len-inputs.result c.deref-7.result.now))) ps).
    subst (λ (l : List Input). Going stalls s later c.edge.new.self l (with_items b.outputs ps).items (c.args.edge + 1)) (sym in_is)
    (subst (λ (l : List Output). Going stalls s later c.edge.new.self ks l (c.args.edge + 1)) (sym out_is)
    (went stalls s held later c.args.edge b.sim c.edge.new.self b.inputs.items js ks b.outputs.items ps c.deref.result.now offers accepts holds events (map output_of b.outputs.items)
    told run done js_length ks_length (c.put_all.auto.outputs ∙ ap length c.deref_mut-7.ensures.value ∙ c.requires.bench.outputs)
    (ap length offered ∙ c.offer_all.auto.offers ∙ ap length c.deref_mut-3.ensures.value ∙ c.requires.bench.offers)
    stalled_length
    (λ port less. subst (λ (l : List Bool). stalls s.pick c.args.edge port
    (get_or l port false)) (sym stalled) (subst (λ n. stalls n c.args.edge port
    (get_or c.ask.new.stalled port false)) (sym is.picked)
    (c.ask.ensures port (let z = ap length stalled in omega (arith, z, c.ask.auto.stalled)))))
    at ready accept hold
    (c.edge.ensures.edge s.top (ap top_of run.is.design ∙ is.top))
    c.edge.ensures.kept taken only other
    (subst (λ (l : List Seen). ArePut later (all_with_moved words l) ps) rest put))))
    (c.put_all.ensures.put words put_first))

pub returns-in_err-offer_all-clause-tells : goal.returns-in_err-offer_all-clause-tells
returns-in_err-offer_all-clause-tells g c = λ s edges is done lt going.
    let stalls : Answers = λ pick edge port answer. g.G.Fn.post c.args.stalls.now.test (pick, (edge, (port, tt))) answer in
    let b = c.args.self.now in
    let held = g.F.Files.held c.args.files.now in
    let p = err_from_is_err_and c.from_residual.result c.from_residual.ensures.1 in
    let stalled : c.deref.result.now ≡ c.ask.new.stalled = c.deref.ensures.value ∙ back b.stalled c.ask.new.stalled c.deref_mut.result.now c.ask.auto.stalled c.deref_mut.ensures.value in
    rw (p.1, p.2) (λ told.
    let run = going told in
    let left = left_after s.outer.inputs (map words_of s.inputs) (own_of run.vs) in
    let stop = c.in_err-offer_all.ensures.stopped s.inputs left (subst (AreAt held s.inputs left) (sym c.deref_mut-2.ensures.value) run.at) in
    subst (λ (h : Held). Tells stalls s (map output_of b.outputs.items) h (Err c.in_err-offer_all.field-0.0)) (sym c.in_err-offer_all.ensures.same)
    (tells_stop stalls s held b.sim b.inputs.items b.outputs.items c.args.edge run _ c.deref.result.now c.in_err-offer_all.field-0.0 told (subst (λ n. c.args.edge < n) (sym is.counted) lt) done
    (ap length stalled ∙ c.ask.auto.stalled ∙ ap length c.deref_mut.ensures.value ∙ c.requires.bench.stalled ∙ ap (λ (o : Outer). length o.inputs + length o.outputs + length o.holds) run.is.outer)
    (λ port less. subst (λ (l : List Bool). stalls s.pick c.args.edge port
    (get_or l port false)) (sym stalled) (subst (λ n. stalls n c.args.edge port
    (get_or c.ask.new.stalled port false)) (sym is.picked)
    (c.ask.ensures port (let z = ap length stalled in omega (arith, z, c.ask.auto.stalled)))))
    stop))

pub returns-in_err-offer_all-clause-missing : goal.returns-in_err-offer_all-clause-missing
returns-in_err-offer_all-clause-missing g c = λ s edges is done lt going fault.
    let stalls : Answers = λ pick edge port answer. g.G.Fn.post c.args.stalls.now.test (pick, (edge, (port, tt))) answer in
    let b = c.args.self.now in
    let held = g.F.Files.held c.args.files.now in
    let p = err_from_is_err_and c.from_residual.result c.from_residual.ensures.1 in
    let error : c.in_err-offer_all.field-0.0 ≡ stops.ReadFault = (let e = p.1 in let f = p.2 in cc) in
    let stalled : c.deref.result.now ≡ c.ask.new.stalled = c.deref.ensures.value ∙ back b.stalled c.ask.new.stalled c.deref_mut.result.now c.ask.auto.stalled c.deref_mut.ensures.value in
    let counted = Rose (g.F.Files.read_faults c.args.files.now) (g.F.Files.read_faults c.offer_all.new.files) in
    let by_stop = λ (told : IsSome held).
    let run = going told in
    let left = left_after s.outer.inputs (map words_of s.inputs) (own_of run.vs) in
    let stop : IsFirstStop held counted c.deref.result.now s.inputs left stops.ReadFault = subst
    (IsFirstStop held counted c.deref.result.now s.inputs left) error
    (c.in_err-offer_all.ensures.stopped s.inputs left
    (subst (AreAt held s.inputs left) (sym c.deref_mut-2.ensures.value) run.at)) in
    ⊎_elim (λ rose. inl rose)
    (λ (m : IsSome held × IsFaulty stop.file stop.left lines.Missing). inr
    (missing_stop stalls s held b.sim b.inputs.items b.outputs.items c.args.edge run counted
    c.deref.result.now told (subst (λ n. c.args.edge < n) (sym is.counted) lt) (done told)
    (ap length stalled ∙ c.ask.auto.stalled ∙ ap length c.deref_mut.ensures.value ∙ c.requires.bench.stalled ∙ ap (λ (o : Outer). length o.inputs + length o.outputs + length o.holds) run.is.outer)
    (λ port less. subst (λ (l : List Bool). stalls s.pick c.args.edge port
    (get_or l port false)) (sym stalled) (subst (λ n. stalls n c.args.edge port
    (get_or c.ask.new.stalled port false)) (sym is.picked)
    (c.ask.ensures port (let z = ap length stalled in omega (arith, z, c.ask.auto.stalled)))))
    stop m.1))
    stop.stops in
    ⊎_elim (λ rose. inl rose) by_stop (c.in_err-offer_all.ensures.fault (ap Err error))

pub returns-in_err-offer_all-clause-write_fault : goal.returns-in_err-offer_all-clause-write_fault
returns-in_err-offer_all-clause-write_fault g c = λ q.
    let p = err_from_is_err_and c.from_residual.result c.from_residual.ensures.1 in
    absurd (no_write_stop c.in_err-offer_all.field-0.0 c.in_err-offer_all.ensures.errors (let e = p.1 in let f = p.2 in cc))

pub returns-in_err-offer_all-clause-stopped : goal.returns-in_err-offer_all-clause-stopped
returns-in_err-offer_all-clause-stopped g c =
    let b = c.args.self.now in
    let held = g.F.Files.held c.args.files.now in
    let named = map output_of b.outputs.items in
    let p = err_from_is_err_and c.from_residual.result c.from_residual.ensures.1 in
    rw (p.1) (λ told.
    let words = c.requires.begun told in
    (0, subst (HoldLinesBut 0 named) (sym c.in_err-offer_all.ensures.same) (put_hold held words.0 b.outputs.items named 0 refl words.1)))

pub returns-clause-stopped : goal.returns-clause-stopped
returns-clause-stopped g c =
    let later = g.F.Files.held c.put_all.new.files in
    on_err_under c.put_all.result _ (λ told.
    let now = subst (λ (h : Held). IsSome h) (sym c.in_ok-offer_all.ensures.same) told in
    on_err_weaker c.put_all.result (λ f. subst (λ (l : List Output). (n : ℕ) × HoldLinesBut n (map output_of l) later) c.deref_mut-7.ensures.value (f now)) c.put_all.ensures.stopped)
