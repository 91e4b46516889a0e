-- What callers of a graph may cite.
use Rattle.std.proofs.Common.{◌≡◌, List, [], ◌∷◌, ◌++◌, ap, sym, ◌∙◌, append_assoc}
use Rattle.std.proofs.lemmas.List.{append-nil}
use Rattle.kernel_calls.specs.declared.call.Call.{Call}
use Rattle.kernel_calls.specs.Laws.{Received}
use Rattle.stream_graph.specs.declared.graph.Graph.{Graph}
use Rattle.stream_graph.specs.Received.{received, Receives}

-- calls that were received one after another stand behind those before them
pub all_received : (calls : List Call) (old new : Graph) → Received Receives old calls new → received new ≡ received old ++ calls
all_received [] old new r = ap received (sym r) ∙ sym (append-nil (received old))
all_received (call ∷ calls) old new r =
    all_received calls r.0 new r.2 ∙ ap (λ l. l ++ calls) r.1.calls ∙ append_assoc (received old) (call ∷ []) calls
