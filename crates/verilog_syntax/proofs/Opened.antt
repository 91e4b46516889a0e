-- The plan that is left of a production, by its first token.
use Rattle.std.proofs.Common.{◌≡◌, ◌∙◌, inl, inr, ℕ, true, false, refl, sym, ap, List, ◌∷◌, is_some}
use Rattle.rtl_text.specs.Tokens.{Token}
use Rattle.rtl_text.specs.Tree.{PlainTree}
use Rattle.verilog_syntax.specs.Parsing.{PortOf, ExprOf, ItemOf, ended}
use Rattle.verilog_syntax.specs.Pieces.{piece_token, begins_with, name_at, operator_at}
use Rattle.verilog_syntax.specs.declared.keyword.Piece.TheVariants.{Word, Sign}
use Rattle.verilog_syntax.specs.declared.keyword.Keyword.TheVariants as words
use Rattle.verilog_syntax.specs.declared.mark.Mark.TheVariants as marks
use Rattle.verilog_syntax.proofs.Fronts.{front_is}
use Rattle.verilog_syntax.proofs.Plans.{Left, Refuses, either, done, begin, take_left, take_right}
use Rattle.verilog_syntax.proofs.Productions.{port_plans, input_plan, output_plan, expr_plans}
use Rattle.verilog_syntax.proofs.Productions.{complement_plan, braces_plan, named_plan}
use Rattle.verilog_syntax.proofs.Productions.{literal_plan, item_plans, wire_plan, storage_plan}
use Rattle.verilog_syntax.proofs.Productions.{assign_plan, always_plan, instance_plan, choose_plan}
use Rattle.verilog_syntax.proofs.Productions.{index_plan}
use Rattle.verilog_syntax.proofs.Refusals.{other, no_piece, neither, not_name, no_sign_at}
use Rattle.verilog_syntax.proofs.Refusals.{name_not_literal, sign_no_name, sign_not_literal}
use Rattle.verilog_syntax.proofs.Refusals.{word_no_name, goes_on, signed, no_other_sign}
use Rattle.verilog_syntax.proofs.Refusals.{not_question, not_bracket}

heads : {t u : Token} {ts us : List Token} → t ∷ ts ≡ u ∷ us → t ≡ u
heads e = cc

module _ (ys : List Token) where
  -- expressions

  pub complement_left : begins_with (piece_token (Sign marks.Tilde)) ys ≡ true → Left ExprOf complement_plan ys ys
  complement_left e =
      let f = front_is (Sign marks.Tilde) ys e in
      take_left (begin expr_plans ys) (neither (no_piece (Sign marks.OpenBrace)
      (other (Sign marks.Tilde) (Sign marks.OpenBrace) ys e refl))
      (neither (not_name (sign_no_name ys _ f)) (sign_not_literal _ f)))

  pub braces_left : begins_with (piece_token (Sign marks.OpenBrace)) ys ≡ true → Left ExprOf braces_plan ys ys
  braces_left e =
      let f = front_is (Sign marks.OpenBrace) ys e in
      take_left (take_right (begin expr_plans ys) (no_piece (Sign marks.Tilde)
      (other (Sign marks.OpenBrace) (Sign marks.Tilde) ys e refl)))
      (neither (not_name (sign_no_name ys _ f)) (sign_not_literal _ f))

  pub named_left : is_some (name_at ys) ≡ true → Left ExprOf named_plan ys ys
  named_left e =
      take_left (take_right (take_right (begin expr_plans ys) (no_piece (Sign marks.Tilde) (no_sign_at ys _ e))) (no_piece (Sign marks.OpenBrace) (no_sign_at ys _ e))) (name_not_literal e)

  pub literal_left : begins_with (piece_token (Sign marks.Tilde)) ys ≡ false
      → begins_with (piece_token (Sign marks.OpenBrace)) ys ≡ false
      → is_some (name_at ys) ≡ false → Left ExprOf literal_plan ys ys
  literal_left e f g = take_right (take_right (take_right (begin expr_plans ys) (no_piece (Sign marks.Tilde) e)) (no_piece (Sign marks.OpenBrace) f)) (not_name g)

  -- ports

  pub input_left : begins_with (piece_token (Word words.Output)) ys ≡ false → Left PortOf input_plan ys ys
  input_left e = take_left (begin port_plans ys) (no_piece (Word words.Output) e)

  pub output_left : begins_with (piece_token (Word words.Output)) ys ≡ true → Left PortOf output_plan ys ys
  output_left e = take_right (begin port_plans ys) (no_piece (Word words.Input) (other (Word words.Output) (Word words.Input) ys e refl))

  -- items

  pub wire_left : begins_with (piece_token (Word words.Wire)) ys ≡ true → Left ItemOf wire_plan ys ys
  wire_left e =
      let f = front_is (Word words.Wire) ys e in
      take_left (begin item_plans ys) (neither (no_piece (Word words.Reg)
      (other (Word words.Wire) (Word words.Reg) ys e refl))
      (neither (no_piece (Word words.Assign) (other (Word words.Wire)
      (Word words.Assign) ys e refl))
      (neither (no_piece (Word words.Always) (other (Word words.Wire) (Word words.Always) ys e refl)) (not_name (word_no_name ys _ f refl)))))

  pub storage_left : begins_with (piece_token (Word words.Reg)) ys ≡ true → Left ItemOf storage_plan ys ys
  storage_left e =
      let f = front_is (Word words.Reg) ys e in
      take_left (take_right (begin item_plans ys) (no_piece (Word words.Wire)
      (other (Word words.Reg) (Word words.Wire) ys e refl)))
      (neither (no_piece (Word words.Assign) (other (Word words.Reg)
      (Word words.Assign) ys e refl))
      (neither (no_piece (Word words.Always) (other (Word words.Reg) (Word words.Always) ys e refl)) (not_name (word_no_name ys _ f refl))))

  pub assign_left : begins_with (piece_token (Word words.Assign)) ys ≡ true → Left ItemOf assign_plan ys ys
  assign_left e =
      let f = front_is (Word words.Assign) ys e in
      take_left (take_right (take_right (begin item_plans ys)
      (no_piece (Word words.Wire) (other (Word words.Assign) (Word words.Wire) ys e refl)))
      (no_piece (Word words.Reg) (other (Word words.Assign) (Word words.Reg) ys e refl)))
      (neither (no_piece (Word words.Always) (other (Word words.Assign) (Word words.Always) ys e refl)) (not_name (word_no_name ys _ f refl)))

  pub always_left : begins_with (piece_token (Word words.Always)) ys ≡ true → Left ItemOf always_plan ys ys
  always_left e =
      let f = front_is (Word words.Always) ys e in
      take_left (take_right (take_right (take_right (begin item_plans ys)
      (no_piece (Word words.Wire) (other (Word words.Always) (Word words.Wire) ys e refl)))
      (no_piece (Word words.Reg) (other (Word words.Always) (Word words.Reg) ys e refl)))
      (no_piece (Word words.Assign) (other (Word words.Always) (Word words.Assign) ys e refl))) (not_name (word_no_name ys _ f refl))

  pub instance_left : begins_with (piece_token (Word words.Wire)) ys ≡ false
      → begins_with (piece_token (Word words.Reg)) ys ≡ false
      → begins_with (piece_token (Word words.Assign)) ys ≡ false
      → begins_with (piece_token (Word words.Always)) ys ≡ false → Left ItemOf instance_plan ys ys
  instance_left e f g h =
      take_right (take_right (take_right (take_right (begin item_plans ys)
      (no_piece (Word words.Wire) e)) (no_piece (Word words.Reg) f))
      (no_piece (Word words.Assign) g)) (no_piece (Word words.Always) h)

  -- what may stand behind the first name of an expression

  pub operator_alone : {a : List ℕ} → is_some (operator_at ys) ≡ true → Refuses ExprOf (either (choose_plan a) (either (index_plan a) (done (PlainTree a)))) ys
  operator_alone e =
      let (o, f) = signed ys e in
      neither (no_piece (Sign marks.Question) (no_other_sign _ not_question ys e)) (neither (no_piece (Sign marks.OpenBracket) (no_other_sign _ not_bracket ys e))
      (goes_on (λ t back g. inr (inr (o, (let h = sym g ∙ ap ended f in cc))))))

  pub question_alone : {a : List ℕ} → begins_with (piece_token (Sign marks.Question)) ys ≡ true → Refuses ExprOf (either (index_plan a) (done (PlainTree a))) ys
  question_alone e =
      neither (no_piece (Sign marks.OpenBracket) (other (Sign marks.Question) (Sign marks.OpenBracket) ys e refl))
      (goes_on (λ t back g. inl (let h = sym g ∙ ap ended (front_is (Sign marks.Question) ys e) in heads h)))

  pub bracket_alone : {a : List ℕ} → begins_with (piece_token (Sign marks.OpenBracket)) ys ≡ true → Refuses ExprOf (done (PlainTree a)) ys
  bracket_alone e = goes_on (λ t back g. inr (inl (let h = sym g ∙ ap ended (front_is (Sign marks.OpenBracket) ys e) in heads h)))
