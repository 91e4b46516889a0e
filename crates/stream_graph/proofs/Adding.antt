-- What the code that adds a call's node does to the nodes.
use Rattle.std.proofs.Common.{◌≡◌, ℕ, zero, suc, ◌+◌, ◌<◌, ◌^◌, true, List, [], ◌∷◌, ◌++◌, length, refl, ap, sym, arith, subst, get_or}
use Rattle.std.specs.Prelude.{Some, slice_get, slice_set, Result, Ok, Err, OnOk}
use Rattle.counter_chains.specs.declared.digits.CounterDigit.{CounterDigit}
use Rattle.kernel_calls.specs.declared.call.Call.{Call}
use Rattle.kernel_calls.specs.declared.call.Call.TheVariants as C
use Rattle.kernel_calls.specs.Calls.{bits_in}
use Rattle.stream_graph.specs.declared.row.Row.{Row}
use Rattle.stream_graph.specs.declared.row.Row.TheVariants as R
use Rattle.stream_graph.specs.declared.node.Node.{Node}
use Rattle.stream_graph.specs.Graphs.{call_by}
use Rattle.stream_graph.specs.Parts.{bits_of}
use Rattle.stream_graph.specs.Nodes.{IsNode}
use Rattle.stream_graph.specs.Steps.{MayAdd, Adds}
use Rattle.stream_graph.proofs.Steps.{is_plain_call}
use Rattle.stream_graph.proofs.Facts.{made_below, few_digits}
use Rattle.stream_graph.proofs.Growing.{one_of, with_operand, with_digit, IsPart, adds_plain, adds_connection, adds_digit}

pub on_ok : {A E : Type 0} (r : Result A E) (P Q : Type 0) → (P → Q) → OnOk r P → OnOk r Q
on_ok (Ok x) P Q f p = f p
on_ok (Err e) P Q f p = p

pub got_at : (xs : List Node) (n : ℕ) (x : Node) → n < length xs → x ≡ get_or xs n x → slice_get xs n ≡ Some x
got_at [] n x h e = absurd (omega arith)
got_at (y ∷ ys) zero x h e = ap Some (sym e)
got_at (y ∷ ys) (suc n) x h e = got_at ys n x (omega arith) e

pub plain_row : (bytes operands : List ℕ) (row : Row) → ((feed value : ℕ) → row ≡ R.Connect feed value → ⊥) →
    ((chain : ℕ) (d : CounterDigit) → row ≡ R.ChainDigit chain d → ⊥) →
    is_plain_call (call_by bytes operands row) ≡ true
plain_row bytes operands (R.Connect feed value) f g = absurd (f feed value refl)
plain_row bytes operands (R.ChainDigit chain d) f g = absurd (g chain d refl)
plain_row bytes operands _ f g = refl

pub after_plain : (call : Call) (old new : List Node) (node : Node) → is_plain_call call ≡ true →
    IsNode [] 0 call node → new ≡ old ++ node ∷ [] → Adds old call new
after_plain call old new node p i e = subst (λ l. Adds old call l) (sym e) (adds_plain call old node p i)

found_feed : (old : List Node) (feed value : ℕ) (x : Node) → MayAdd old (C.Connect feed value) →
    x ≡ get_or old feed x → slice_get old feed ≡ Some x
found_feed old feed value x m e =
    let b = made_below m.so_far feed (C.Feed m.lawful.0) m.lawful.1 in
    let c = m.nodes_are.count in
    got_at old feed x (omega arith) e

pub after_connect : (bytes operands : List ℕ) (row : Row) (feed value i : ℕ) (old : List Node) (x : Node) →
    row ≡ R.Connect feed value → MayAdd old (call_by bytes operands row) → i ≡ feed → x ≡ get_or old i x →
    Adds old (call_by bytes operands row) (slice_set old i (with_operand x value))
after_connect bytes operands row feed value i old x r m j e =
    subst (λ q. Adds old (call_by bytes operands q) (slice_set old i (with_operand x value))) (sym r)
    (subst (λ n. Adds old (C.Connect feed value) (slice_set old n (with_operand x value))) (sym j)
    (adds_connection feed value old x (found_feed old feed value x
    (subst (λ q. MayAdd old (call_by bytes operands q)) r m) (subst (λ n. x ≡ get_or old n x) j e))))

found_chain : (old : List Node) (chain : ℕ) (d : CounterDigit) (x : Node) → MayAdd old (C.ChainDigit chain d) →
    x ≡ get_or old chain x → slice_get old chain ≡ Some x
found_chain old chain d x m e =
    let b = made_below m.so_far chain C.Chain m.lawful.0 in
    let c = m.nodes_are.count in
    got_at old chain x (omega arith) e

chain_node : (old : List Node) (chain : ℕ) (d : CounterDigit) (x : Node) (m : MayAdd old (C.ChainDigit chain d)) →
    x ≡ get_or old chain x → IsNode m.so_far chain C.Chain x
chain_node old chain d x m e =
    let was = m.nodes_are.each chain C.Chain m.lawful.0 in
    subst (λ z. IsNode m.so_far chain C.Chain z) (one_of old chain chain x was.0 refl
    (found_chain old chain d x m e) was.1) was.2

-- the digits of a chain are few
pub few : (bytes operands : List ℕ) (row : Row) (chain i : ℕ) (d : CounterDigit) (old : List Node) (x : Node) →
    row ≡ R.ChainDigit chain d → MayAdd old (call_by bytes operands row) → i ≡ chain → x ≡ get_or old i x →
    length x.digits < 2 ^ 32
few bytes operands row chain i d old x r m j e =
    let n : MayAdd old (C.ChainDigit chain d) = subst (λ q. MayAdd old (call_by bytes operands q)) r m in
    let node = chain_node old chain d x n (subst (λ k. x ≡ get_or old k x) j e) in
    let l = ap length node.digits in
    let f = few_digits n.so_far chain in
    let c = n.few in
    omega arith

-- and so are their bits
pub narrow : (bytes operands : List ℕ) (row : Row) (chain i : ℕ) (d : CounterDigit) (old : List Node) (x : Node) →
    row ≡ R.ChainDigit chain d → MayAdd old (call_by bytes operands row) → i ≡ chain → x ≡ get_or old i x →
    bits_of x.view.t + d.bits < 2 ^ 8
narrow bytes operands row chain i d old x r m j e =
    let n : MayAdd old (C.ChainDigit chain d) = subst (λ q. MayAdd old (call_by bytes operands q)) r m in
    let node = chain_node old chain d x n (subst (λ k. x ≡ get_or old k x) j e) in
    let b : bits_of x.view.t ≡ bits_in n.so_far chain = ap bits_of node.t in
    let l = n.lawful.2 in
    omega arith

pub after_digit : (bytes operands : List ℕ) (row : Row) (chain i : ℕ) (d : CounterDigit) (old new : List Node)
    (x y part : Node) → row ≡ R.ChainDigit chain d → MayAdd old (call_by bytes operands row) → i ≡ chain →
    x ≡ get_or old i x →
    y ≡ with_digit x d → IsPart x chain d part → new ≡ slice_set old i y ++ part ∷ [] →
    Adds old (call_by bytes operands row) new
after_digit bytes operands row chain i d old new x y part r m j e g p n =
    subst (λ l. Adds old (call_by bytes operands row) l) (sym n)
    (subst (λ q. Adds old (call_by bytes operands q) (slice_set old i y ++ part ∷ [])) (sym r)
    (subst (λ k. Adds old (C.ChainDigit chain d) (slice_set old k y ++ part ∷ [])) (sym j)
    (subst (λ z. Adds old (C.ChainDigit chain d) (slice_set old chain z ++ part ∷ [])) (sym g)
    (adds_digit chain d old x part (found_chain old chain d x
    (subst (λ q. MayAdd old (call_by bytes operands q)) r m) (subst (λ k. x ≡ get_or old k x) j e)) p))))
