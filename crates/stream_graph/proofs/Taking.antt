-- The calls of the first rows, one row after another.
use Rattle.std.proofs.Common.{◌≡◌, ℕ, zero, suc, ◌+◌, ◌≤◌, ◌<◌, ◌^◌, List, [], ◌∷◌, length, take, refl, sym, arith, subst, get_or}
use Rattle.kernel_calls.specs.declared.call.Call.{Call}
use Rattle.kernel_calls.specs.Calls.{count_of}
use Rattle.kernel_calls.specs.Laws.{IsLawful, AreLawful}
use Rattle.stream_graph.specs.declared.row.Row.{Row}
use Rattle.stream_graph.specs.declared.node.Node.{Node}
use Rattle.stream_graph.specs.Graphs.{call_by, calls_by, nodes_in}
use Rattle.stream_graph.specs.Nodes.{later, AreNodes}
use Rattle.stream_graph.specs.Steps.{WereLawful, MayAdd, Adds}
use Rattle.stream_graph.proofs.Rows.{count_same}

-- the calls of so many first rows, the newest first
abbrev pub first_calls : List ℕ → List ℕ → List Row → ℕ → List Call
first_calls bytes operands rows i = later [] (calls_by bytes operands (take i rows))

lawful_row : (bytes operands : List ℕ) (rows : List Row) (i : ℕ) (so_far : List Call) (d : Row) → i < length rows →
    AreLawful so_far (calls_by bytes operands rows) → WereLawful so_far →
    IsLawful (later so_far (calls_by bytes operands (take i rows))) (call_by bytes operands (get_or rows i d)) ×
    WereLawful (later so_far (calls_by bytes operands (take i rows)))
lawful_row bytes operands [] i so_far d h a w = absurd (omega arith)
lawful_row bytes operands (row ∷ rows) zero so_far d h a w = (a.0, w)
lawful_row bytes operands (row ∷ rows) (suc i) so_far d h a w = lawful_row bytes operands rows i
    (call_by bytes operands row ∷ so_far) d (omega arith) a.1 (a.0, w)

pub later_row : (bytes operands : List ℕ) (rows : List Row) (i : ℕ) (so_far : List Call) (d : Row) →
    i < length rows →
    later so_far (calls_by bytes operands (take (suc i) rows)) ≡ call_by bytes operands (get_or rows i d) ∷ later
    so_far (calls_by bytes operands (take i rows))
later_row bytes operands [] i so_far d h = absurd (omega arith)
later_row bytes operands (row ∷ rows) zero so_far d h = refl
later_row bytes operands (row ∷ rows) (suc i) so_far d h = later_row bytes operands rows i
    (call_by bytes operands row ∷ so_far) d (omega arith)

pub count_later : (so_far calls : List Call) → count_of (later so_far calls) ≡ count_of so_far + count_of calls
count_later so_far [] = omega arith
count_later so_far (call ∷ calls) = let e = count_later (call ∷ so_far) calls in omega arith

nodes_first : (rows : List Row) (i : ℕ) → nodes_in (take i rows) ≤ nodes_in rows
nodes_first [] zero = omega arith
nodes_first [] (suc i) = omega arith
nodes_first (row ∷ rows) zero = omega arith
nodes_first (row ∷ rows) (suc i) = let e = nodes_first rows i in omega arith

count_first : (bytes operands : List ℕ) (rows : List Row) (i : ℕ) →
    count_of (first_calls bytes operands rows i) ≤ nodes_in rows
count_first bytes operands rows i =
    let a = count_later [] (calls_by bytes operands (take i rows)) in
    let b = count_same bytes operands (take i rows) in
    let c = nodes_first rows i in
    omega arith

-- the next row's call may be added
pub may_add : (bytes operands : List ℕ) (rows : List Row) (i : ℕ) (d : Row) (nodes : List Node) → i < length rows →
    AreLawful [] (calls_by bytes operands rows) → nodes_in rows < 2 ^ 32 →
    AreNodes (first_calls bytes operands rows i) nodes → MayAdd nodes (call_by bytes operands (get_or rows i d))
may_add bytes operands rows i d nodes h a f n =
    let l = lawful_row bytes operands rows i [] d h a tt in
    let c = count_first bytes operands rows i in
    record {
      so_far = first_calls bytes operands rows i;
      were = l.1;
      lawful = l.0;
      few = omega arith;
      nodes_are = n;
    }

-- and then was
pub added : (bytes operands : List ℕ) (rows : List Row) (i : ℕ) (d : Row) (old new : List Node) → i < length rows →
    AreLawful [] (calls_by bytes operands rows) →
    AreNodes (first_calls bytes operands rows i) old → Adds old (call_by bytes operands (get_or rows i d)) new →
    AreNodes (first_calls bytes operands rows (suc i)) new
added bytes operands rows i d old new h a n add =
    let l = lawful_row bytes operands rows i [] d h a tt in
    subst (λ s. AreNodes s new) (sym (later_row bytes operands rows i [] d h))
    (add (first_calls bytes operands rows i) l.1 l.0 n)

-- the same of a row that is read from a slice of the rows
pub may_add_read : (bytes operands : List ℕ) (rows slice : List Row) (i : ℕ) (row : Row) (nodes : List Node) →
    slice ≡ rows → i < length slice → row ≡ get_or slice i row → AreLawful [] (calls_by bytes operands rows) →
    nodes_in rows < 2 ^ 32 →
    AreNodes (first_calls bytes operands rows i) nodes → MayAdd nodes (call_by bytes operands row)
may_add_read bytes operands rows slice i row nodes e h r a f n =
    let at : row ≡ get_or rows i row = subst (λ l. row ≡ get_or l i row) e r in
    let within : i < length rows = subst (λ l. i < length l) e h in
    subst (λ q. MayAdd nodes (call_by bytes operands q)) (sym at)
    (may_add bytes operands rows i row nodes within a f n)

pub added_read : (bytes operands : List ℕ) (rows slice : List Row) (i : ℕ) (row : Row) (old new : List Node) →
    slice ≡ rows → i < length slice → row ≡ get_or slice i row → AreLawful [] (calls_by bytes operands rows) →
    AreNodes (first_calls bytes operands rows i) old → Adds old (call_by bytes operands row) new →
    AreNodes (first_calls bytes operands rows (i + 1)) new
added_read bytes operands rows slice i row old new e h r a n add =
    let at : row ≡ get_or rows i row = subst (λ l. row ≡ get_or l i row) e r in
    let within : i < length rows = subst (λ l. i < length l) e h in
    subst (λ k. AreNodes (first_calls bytes operands rows k) new) (next i)
    (added bytes operands rows i row old new within a n
    (subst (λ q. Adds old (call_by bytes operands q) new) at add))
  where
    next : (i : ℕ) → suc i ≡ i + 1
    next i = omega arith
