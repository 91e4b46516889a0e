-- The exits of a function that reads a part.
use Rattle.std.proofs.Common.{◌≡◌, ◌∙◌, List, ◌++◌, Result, Err, ap}
use Rattle.rtl_text.specs.Tokens.{Token}
use Rattle.rtl_text.specs.Productions.{Part}
use Rattle.verilog_syntax.specs.Parsing.{Symbol, TreeOf, GoesOn, Ends, Reads}
use Rattle.verilog_syntax.specs.Trees.{FailsAt, FailsAllAt}
use Rattle.verilog_syntax.specs.declared.cursor.Fault.{Fault}
use Rattle.verilog_syntax.specs.declared.cursor.Fault.TheVariants.{NoMemory}
use Rattle.verilog_syntax.proofs.Plans.{Plan, read, fixed, Path, stack, Left, next, fail, fail_fixed}

pub err_is : {A : Type 0} {r : Result A Fault} {f : Fault} → ((x : Fault) × (r ≡ Err x) × (x ≡ f)) → r ≡ Err f
err_is (x, e, g) = e ∙ ap Err g

module _ {s : Symbol} {xs ys zs : List Token} {f : Fault} where
  pub failed_fixed : {ps : List Part} {k : Plan (TreeOf s)} → Left s (fixed ps k) xs ys → FailsAllAt ps f ys zs → FailsAt s f xs zs
  failed_fixed l h = record { stops = λ e. fail_fixed l (h.stops e) }

  pub failed_read : {q : Symbol} {k : TreeOf q → Plan (TreeOf s)} → ((b : TreeOf q) (x : Path (k b)) (below : List Part) → Ends s below → Ends q (stack (k b) x ++ below))
      → Left s (read q k) xs ys → FailsAt q f ys zs → FailsAt s f xs zs
  failed_read ends l h = record { stops = λ e. fail ends l (h.stops e) }

  pub failed : {q : Symbol} {k : TreeOf q → Plan (TreeOf s)} → ((t : Token) → GoesOn q t → ⊥) → Left s (read q k) xs ys → FailsAt q f ys zs → FailsAt s f xs zs
  failed closed l h = failed_read (λ b x below e t ts g st. closed t g) l h

-- no memory is left
pub no_memory : {s : Symbol} {xs ys : List Token} {f : Fault} → f ≡ NoMemory → FailsAt s f xs ys
no_memory e = record { stops = λ g. absurd (cc) }

-- a part that cannot go on
pub then : {s q : Symbol} {xs ys zs : List Token} {k : TreeOf q → Plan (TreeOf s)} {a : TreeOf q} → ((t : Token) → GoesOn q t → ⊥) → Left s (read q k) xs ys → Reads q ys zs a → Left s (k a) xs zs
then closed l r = next (λ b x below e t ts g st. closed t g) l r
