-- Words and the tokens that they are.
use Rattle.std.proofs.Common.{◌≡◌, refl, true, false}
use Rattle.std.specs.Prelude.{codes, Some, None}
use Rattle.rtl_ir.specs.Names.{is_name}
use Rattle.rtl_text.specs.Tokens.{Token, token_of}

dollar_is : token_of (codes "in$x$data") ≡ Some (Token.Word (codes "in$x$data"))
dollar_is = refl

number_is : token_of (codes "0047") ≡ Some (Token.Number 47)
number_is = refl

literal_is : token_of (codes "8'hfE") ≡ Some (Token.Literal 8 254)
literal_is = refl

no_upper_h : token_of (codes "1'H0") ≡ None
no_upper_h = refl

no_gap : token_of (codes "1 'h0") ≡ None
no_gap = refl

no_digits : token_of (codes "1'h") ≡ None
no_digits = refl

sign_is : token_of (codes "<=") ≡ Some (Token.Sign (codes "<="))
sign_is = refl

clock_is_name : is_name (codes "clk") ≡ true
clock_is_name = refl

reserved_is_none : is_name (codes "endmodule") ≡ false
reserved_is_none = refl
