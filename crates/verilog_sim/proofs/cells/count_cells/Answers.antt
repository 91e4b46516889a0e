use Rattle.std.proofs.Common.{◌≡◌, ℕ, ◌-◌, ◌^◌, ◌<◌, List, [], min, map, length, get_or, ap, ◌∙◌, arith}
use Rattle.std.proofs.lemmas.List.{length-map, get_or-map}
use Rattle.rtl_ir.specs.declared.design.Module.{Module}
use Rattle.verilog_sim.specs.Start.{cells_after}
use Rattle.verilog_sim.proofs.CellNumbers.{cells_length}
use Rattle.verilog_sim.proofs.cells.count_cells.Goals as goal

size_of : (cells : List ℕ) (ms ds : List Module) → cells ≡ map (λ n. min n (2 ^ 64 - 1)) (cells_after [] ms) → ms ≡ ds → length cells ≡ length ds
size_of cells ms ds e f = omega (arith, ap length e, length-map (cells_after [] ms) (λ n. min n (2 ^ 64 - 1)), cells_length [] ms, ap length f)

last_of : (cells : List ℕ) (ms ds : List Module) (k x : ℕ)
    → cells ≡ map (λ n. min n (2 ^ 64 - 1)) (cells_after [] ms) → ms ≡ ds → k ≡ length ds - 1
    → 0 < length ds → x ≡ get_or cells k x
    → x ≡ min (get_or (cells_after [] ds) (length ds - 1) 0) (2 ^ 64 - 1)
last_of cells ms ds k x e f at some is =
    is
    ∙ ap (λ (l : List ℕ). get_or l k x) e
    ∙ get_or-map (λ n. min n (2 ^ 64 - 1)) (cells_after [] ms) k 0 x (omega (arith, at, some, cells_length [] ms, ap length f))
    ∙ ap (λ i. min (get_or (cells_after [] ms) i 0) (2 ^ 64 - 1)) at
    ∙ ap (λ (l : List Module). min (get_or (cells_after [] l) (length ds - 1) 0) (2 ^ 64 - 1)) f

pub overflow_sub-len : goal.overflow_sub-len
overflow_sub-len c = omega (
  arith,
  size_of c.in_ok-cells.cells.items c.as_slice.result.now c.args.design.now.modules
      c.in_ok-cells.ensures c.as_slice.ensures,
  c.requires.some,
  c.len.ensures,
  c.in_ok-cells.cells.ok,
)

pub index-requires : goal.index-requires
index-requires c = omega (
  arith,
  size_of c.in_ok-cells.cells.items c.as_slice.result.now c.args.design.now.modules
      c.in_ok-cells.ensures c.as_slice.ensures,
  c.requires.some,
  c.len.ensures,
  c.in_ok-cells.cells.ok,
)

pub returns : goal.returns
returns c =
    let size = size_of c.in_ok-cells.cells.items c.as_slice.result.now c.args.design.now.modules c.in_ok-cells.ensures c.as_slice.ensures in
    last_of c.in_ok-cells.cells.items c.as_slice.result.now c.args.design.now.modules
    (c.len.result - 1) c.index.result.now c.in_ok-cells.ensures c.as_slice.ensures
    (omega (arith, size, c.len.ensures, c.in_ok-cells.cells.ok)) c.requires.some c.index.ensures
