-- What a graph has received after a call.
use Rattle.std.proofs.Common.{◌≡◌, ℕ, ◌+◌, ◌≤◌, List, [], ◌∷◌, ◌++◌, refl, ap, sym, ◌∙◌, arith, length, length-append, subst}
use Rattle.std.proofs.lemmas.List.{append-nil}
use Rattle.kernel_calls.specs.declared.call.Call.{Call}
use Rattle.stream_graph.specs.declared.row.Row.{Row}
use Rattle.stream_graph.specs.Graphs.{call_by, calls_by, AreWithin, nodes_by}
use Rattle.std.specs.Prelude.{Option, Some, None, map}
use Rattle.std.specs.Option.{option_map}
use Rattle.stream_graph.specs.declared.graph.Graph.{Graph}
use Rattle.std.specs.Vec.{vec_capacity}
use Rattle.kernel_calls.specs.Calls.{nodes_of}
use Rattle.stream_graph.specs.Counts.{bytes_of}
use Rattle.stream_graph.specs.Received.{received, args_of, Receives}
use Rattle.stream_graph.proofs.Rows.{calls_more}

-- a row behind the others, where nothing else is added
pub plain : (bytes operands : List ℕ) (rows rows' : List Row) (row : Row) →
    AreWithin (length bytes) (length operands) rows → rows' ≡ rows ++ row ∷ [] →
    calls_by bytes operands rows' ≡ calls_by bytes operands rows ++ call_by bytes operands row ∷ []
plain bytes operands rows rows' row h e =
    ap (calls_by bytes operands) e
    ∙ subst (λ b. calls_by b operands (rows ++ row ∷ []) ≡ calls_by bytes operands rows ++ call_by b operands row ∷
    []) (append-nil bytes)
    (subst (λ o. calls_by (bytes ++ []) o (rows ++ row ∷ []) ≡ calls_by bytes operands rows ++ call_by (bytes ++ [])
    o row ∷ []) (append-nil operands) (calls_more bytes [] operands [] rows row h))

-- a row behind the others, with a name
pub named : (bytes more bytes' operands : List ℕ) (rows rows' : List Row) (row : Row) →
    AreWithin (length bytes) (length operands) rows → bytes' ≡ bytes ++ more → rows' ≡ rows ++ row ∷ [] →
    calls_by bytes' operands rows' ≡ calls_by bytes operands rows ++ call_by bytes' operands row ∷ []
named bytes more bytes' operands rows rows' row h b e =
    subst (λ x. calls_by x operands rows' ≡ calls_by bytes operands rows ++ call_by x operands row ∷ []) (sym b)
    (ap (calls_by (bytes ++ more) operands) e ∙ subst
    (λ o. calls_by (bytes ++ more) o (rows ++ row ∷ []) ≡ calls_by bytes operands rows ++ call_by
    (bytes ++ more) o row ∷ []) (append-nil operands) (calls_more bytes more operands [] rows row h))

-- a row behind the others, with operands
pub args : (bytes operands more operands' : List ℕ) (rows rows' : List Row) (row : Row) →
    AreWithin (length bytes) (length operands) rows → operands' ≡ operands ++ more → rows' ≡ rows ++ row ∷ [] →
    calls_by bytes operands' rows' ≡ calls_by bytes operands rows ++ call_by bytes operands' row ∷ []
args bytes operands more operands' rows rows' row h o e =
    subst (λ x. calls_by bytes x rows' ≡ calls_by bytes operands rows ++ call_by bytes x row ∷ []) (sym o)
    (ap (calls_by bytes (operands ++ more)) e ∙ subst
    (λ b. calls_by b (operands ++ more) (rows ++ row ∷ []) ≡ calls_by bytes operands rows ++ call_by b
    (operands ++ more) row ∷ []) (append-nil bytes) (calls_more bytes [] operands more rows row h))

-- What graphs have received.

-- a row was added behind the others
pub record Adds (old new : Graph) (row : Row) : Type 0 where
  pub rows : new.rows.items.items ≡ old.rows.items.items ++ row ∷ []
  pub space : vec_capacity old.rows.items ≤ vec_capacity new.rows.items
  pub bytes : new.bytes ≡ old.bytes
  pub operands : new.operands ≡ old.operands
  pub made : new.made ≡ old.made + nodes_by row

-- a name was added
pub record AddsName (old new : Graph) (name : List ℕ) : Type 0 where
  pub bytes : new.bytes.items.items ≡ old.bytes.items.items ++ name
  pub space : vec_capacity old.bytes.items ≤ vec_capacity new.bytes.items
  pub rows : new.rows ≡ old.rows
  pub operands : new.operands ≡ old.operands
  pub made : new.made ≡ old.made

-- operands were added
pub record AddsArgs (old new : Graph) (args : List ℕ) : Type 0 where
  pub operands : new.operands.items.items ≡ old.operands.items.items ++ args
  pub space : vec_capacity old.operands.items ≤ vec_capacity new.operands.items
  pub rows : new.rows ≡ old.rows
  pub bytes : new.bytes ≡ old.bytes
  pub made : new.made ≡ old.made

longer : {A : Type 0} (xs zs : List A) (x : A) → zs ≡ xs ++ x ∷ [] → length zs ≡ length xs + 1
longer xs zs x e = ap length e ∙ length-append xs (x ∷ [])

pub after_row : (old new : Graph) (row : Row) (call : Call) →
    call_by old.bytes.items.items old.operands.items.items row ≡ call →
    bytes_of call ≡ 0 → args_of call ≡ 0 → nodes_of call ≡ nodes_by row → Adds old new row → Receives old call new
after_row old new row call e no_bytes no_args nodes a =
    let b = ap (λ x. length x.items.items) a.bytes in
    let o = ap (λ x. length x.items.items) a.operands in
    let cb = ap (λ x. vec_capacity x.items) a.bytes in
    let co = ap (λ x. vec_capacity x.items) a.operands in
    let m = a.made in
    record {
      calls = ap (λ x. calls_by x.items.items new.operands.items.items new.rows.items.items) a.bytes
          ∙ (ap (λ x. calls_by old.bytes.items.items x.items.items new.rows.items.items) a.operands
          ∙ (plain old.bytes.items.items old.operands.items.items old.rows.items.items new.rows.items.items row
          old.within a.rows
          ∙ ap (λ c. received old ++ c ∷ []) e));
      rows = longer old.rows.items.items new.rows.items.items row a.rows;
      bytes = omega arith;
      operands = omega arith;
      made = omega arith;
      room_for_rows = a.space;
      room_for_bytes = omega arith;
      room_for_operands = omega arith;
    }

pub after_name : (old mid new : Graph) (name : List ℕ) (row : Row) (call : Call) →
    call_by (old.bytes.items.items ++ name) old.operands.items.items row ≡ call →
    bytes_of call ≡ length name → args_of call ≡ 0 → nodes_of call ≡ nodes_by row → AddsName old mid name →
    Adds mid new row → Receives old call new
after_name old mid new name row call e some_bytes no_args nodes n a =
    let b = ap (λ x. length x.items.items) a.bytes in
    let nb = ap length n.bytes ∙ length-append old.bytes.items.items name in
    let o = ap (λ x. length x.items.items) (a.operands ∙ n.operands) in
    let cb = ap (λ x. vec_capacity x.items) a.bytes in
    let sb = n.space in
    let co = ap (λ x. vec_capacity x.items) (a.operands ∙ n.operands) in
    let cr = ap (λ x. vec_capacity x.items) n.rows in
    let sr = a.space in
    let m = a.made in
    let nm = n.made in
    let rows = a.rows ∙ ap (λ x. x.items.items ++ row ∷ []) n.rows in
    record {
      calls = ap (λ x. calls_by x.items.items new.operands.items.items new.rows.items.items) a.bytes
          ∙ (ap (λ x. calls_by mid.bytes.items.items x.items.items new.rows.items.items) (a.operands ∙ n.operands)
          ∙ (named old.bytes.items.items name mid.bytes.items.items old.operands.items.items old.rows.items.items
          new.rows.items.items row old.within n.bytes rows
          ∙ (ap (λ x. received old ++ call_by x old.operands.items.items row ∷ []) n.bytes
          ∙ ap (λ c. received old ++ c ∷ []) e)));
      rows = longer old.rows.items.items new.rows.items.items row rows;
      bytes = omega arith;
      operands = omega arith;
      made = omega arith;
      room_for_rows = omega arith;
      room_for_bytes = omega arith;
      room_for_operands = omega arith;
    }

pub after_args : (old mid new : Graph) (more : List ℕ) (row : Row) (call : Call) →
    call_by old.bytes.items.items (old.operands.items.items ++ more) row ≡ call →
    bytes_of call ≡ 0 → args_of call ≡ length more → nodes_of call ≡ nodes_by row → AddsArgs old mid more →
    Adds mid new row → Receives old call new
after_args old mid new more row call e no_bytes some_args nodes n a =
    let b = ap (λ x. length x.items.items) (a.bytes ∙ n.bytes) in
    let o = ap (λ x. length x.items.items) a.operands in
    let no = ap length n.operands ∙ length-append old.operands.items.items more in
    let cb = ap (λ x. vec_capacity x.items) (a.bytes ∙ n.bytes) in
    let co = ap (λ x. vec_capacity x.items) a.operands in
    let so = n.space in
    let cr = ap (λ x. vec_capacity x.items) n.rows in
    let sr = a.space in
    let m = a.made in
    let nm = n.made in
    let rows = a.rows ∙ ap (λ x. x.items.items ++ row ∷ []) n.rows in
    record {
      calls = ap (λ x. calls_by x.items.items new.operands.items.items new.rows.items.items) (a.bytes ∙ n.bytes)
          ∙ (ap (λ x. calls_by old.bytes.items.items x.items.items new.rows.items.items) a.operands
          ∙ (args old.bytes.items.items old.operands.items.items more mid.operands.items.items old.rows.items.items
          new.rows.items.items row old.within n.operands rows
          ∙ (ap (λ x. received old ++ call_by old.bytes.items.items x row ∷ []) n.operands
          ∙ ap (λ c. received old ++ c ∷ []) e)));
      rows = longer old.rows.items.items new.rows.items.items row rows;
      bytes = omega arith;
      operands = omega arith;
      made = omega arith;
      room_for_rows = omega arith;
      room_for_bytes = omega arith;
      room_for_operands = omega arith;
    }

pub same_option : (o : Option ℕ) → o ≡ option_map (λ n. n) o
same_option None = refl
same_option (Some n) = refl

pub same_map : (xs : List ℕ) → xs ≡ map (λ n. n) xs
same_map [] = refl
same_map (x ∷ xs) = ap (λ l. x ∷ l) (same_map xs)
