use Rattle.std.proofs.Common.{ℕ, ◌≡◌, ◌∙◌, ◌+◌, ◌∷◌, ◌++◌, [], ◌<◌, List, length, take, drop, map, get_or, true, false, sym, ap, subst, arith, drop-cons, add-one}
use Rattle.std.proofs.lemmas.List.{map-append, take-append-drop}
use Rattle.std.proofs.Math.Seq.{take-suc}
use Rattle.rtl_text.specs.Tokens.{Token}
use Rattle.verilog_syntax.specs.Parsing.{ReadsAll, StopsAll}
use Rattle.verilog_syntax.specs.Pieces.{piece_part, piece_token, begins_with}
use Rattle.verilog_syntax.specs.Trees.{left}
use Rattle.verilog_syntax.specs.declared.keyword.Piece.{Piece}
use Rattle.verilog_syntax.specs.declared.keyword.Piece.TheVariants.{Word}
use Rattle.verilog_syntax.specs.declared.keyword.Keyword.TheVariants.{Module}
use Rattle.verilog_syntax.proofs.Fronts.{all_none, all_more, all_stop, front_is}
use Rattle.verilog_syntax.proofs.cursor.Parser.expect.Goals as goal

-- one more piece is read
read_more : (pieces : List Piece) (i : ℕ) {xs ys zs : List Token} → i < length pieces
    → ReadsAll (map piece_part (take i pieces)) xs ys
    → begins_with (piece_token (get_or pieces i (Word Module))) ys ≡ true → zs ≡ drop 1 ys
    → ReadsAll (map piece_part (take (i + 1) pieces)) xs zs
read_more pieces i {xs = xs} {zs = zs} h r e f =
    let more : take (i + 1) pieces ≡ take i pieces ++ get_or pieces i (Word Module) ∷ [] = rw add-one (take-suc pieces i (Word Module) h) in
    let parts : map piece_part (take (i + 1) pieces) ≡ map piece_part (take i pieces)
    ++ piece_part (get_or pieces i (Word Module))
    ∷ [] = ap (map piece_part) more ∙ map-append piece_part (take i pieces)
    (get_or pieces i (Word Module) ∷ []) in
    subst (λ l. ReadsAll l xs zs) (sym parts) (all_more (get_or pieces i (Word Module)) r e f)

stops_at : (pieces : List Piece) (i : ℕ) {xs ys : List Token} → i < length pieces
    → ReadsAll (map piece_part (take i pieces)) xs ys
    → begins_with (piece_token (get_or pieces i (Word Module))) ys ≡ false
    → StopsAll (map piece_part pieces) xs ys
stops_at pieces i {xs = xs} {ys = ys} h r e =
    let p = get_or pieces i (Word Module) in
    let rest = drop (i + 1) pieces in
    let whole : pieces ≡ take i pieces ++ (p ∷ rest) = sym (take-append-drop i pieces) ∙ ap (λ l. take i pieces ++ l) (rw add-one (drop-cons pieces i (Word Module) h)) in
    let parts : map piece_part pieces ≡ map piece_part (take i pieces) ++ (piece_part p ∷ map piece_part rest) = ap (map piece_part) whole ∙ map-append piece_part (take i pieces) (p ∷ rest) in
    subst (λ l. StopsAll l xs ys) (sym parts) (all_stop p r (map piece_part rest) e)

pub loop-piece-init : goal.loop-piece-init
loop-piece-init c = record { read = all_none (left c.args.self.now); fewer = omega arith }

pub returns-then-not-begins-clause-exact : goal.returns-then-not-begins-clause-exact
returns-then-not-begins-clause-exact c =
    let e : begins_with (piece_token (get_or c.args.pieces.now c.loop-piece.piece-index (Word Module))) (left c.loop-piece.self) ≡ false = cc in
    record { stops = λ _. stops_at c.args.pieces.now c.loop-piece.piece-index c.loop-piece-test.true c.loop-piece.invariant.read e }

pub loop-piece-preserved : goal.loop-piece-preserved
loop-piece-preserved c =
    let e : begins_with (piece_token (get_or c.args.pieces.now c.loop-piece.piece-index (Word Module))) (left c.loop-piece.self) ≡ true = cc in
    record {
      read = read_more c.args.pieces.now c.loop-piece.piece-index c.loop-piece-test.true c.loop-piece.invariant.read e c.step.ensures;
      fewer =
          let f = ap length (front_is _ (left c.loop-piece.self) e ∙ ap (λ l. piece_token (get_or c.args.pieces.now c.loop-piece.piece-index (Word Module)) ∷ l) (sym c.step.ensures)) in
          let g = c.loop-piece.invariant.fewer in
          omega arith;
    }
