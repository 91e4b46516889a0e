-- The tree of a small source, by the productions.
use Rattle.std.proofs.Common.{◌≡◌, ℕ, true, false, List, [], ◌∷◌, codes, refl, subst, take, drop}
use Rattle.std.proofs.lemmas.List.{take-append-drop}
use Rattle.mx_base.specs.declared.span.Span.{Span}
use Rattle.maxj_syntax.specs.declared.tree.NodeKind.TheVariants as N
use Rattle.maxj_tokens.specs.Tokens.{Token}
use Rattle.maxj_tokens.specs.Scanning.{PlacedToken, span_of}
use Rattle.maxj_syntax.specs.Tree.{Tree, Node, Nil, one, two}
use Rattle.maxj_syntax.specs.Derivation.{Derives}
use Rattle.maxj_syntax.specs.Productions.{Part, Is, Choice, Above, IsFile, is_name}

kernel_is_name : is_name (codes "Kernel") ≡ true
kernel_is_name = refl

super_is_none : is_name (codes "super") ≡ false
super_is_none = refl

abbrev at : ℕ → Token → PlacedToken
at n t = record { token = t; place = n }

abbrev span : ℕ → ℕ → Span
span from to = record { from = from; to = to }

-- `class K extends Kernel{K(KernelParameters p){super(p);y<==x+1;}}`
abbrev tokens : List PlacedToken
tokens =
    at 0 (Token.Word (codes "class"))
    ∷ at 6 (Token.Word (codes "K"))
    ∷ at 8 (Token.Word (codes "extends"))
    ∷ at 16 (Token.Word (codes "Kernel"))
    ∷ at 22 (Token.Sign (codes "{"))
    ∷ at 23 (Token.Word (codes "K"))
    ∷ at 24 (Token.Sign (codes "("))
    ∷ at 25 (Token.Word (codes "KernelParameters"))
    ∷ at 42 (Token.Word (codes "p"))
    ∷ at 43 (Token.Sign (codes ")"))
    ∷ at 44 (Token.Sign (codes "{"))
    ∷ at 45 (Token.Word (codes "super"))
    ∷ at 50 (Token.Sign (codes "("))
    ∷ at 51 (Token.Word (codes "p"))
    ∷ at 52 (Token.Sign (codes ")"))
    ∷ at 53 (Token.Sign (codes ";"))
    ∷ at 54 (Token.Word (codes "y"))
    ∷ at 55 (Token.Sign (codes "<=="))
    ∷ at 58 (Token.Word (codes "x"))
    ∷ at 59 (Token.Sign (codes "+"))
    ∷ at 60 (Token.Whole (codes "1"))
    ∷ at 61 (Token.Sign (codes ";"))
    ∷ at 62 (Token.Sign (codes "}"))
    ∷ at 63 (Token.Sign (codes "}")) ∷ []

abbrev parameter : Tree
parameter = Node N.Param (codes "p") (span 25 43) (one (Node N.Plain (codes "KernelParameters") (span 25 41) Nil))

abbrev body : Tree
body = Node N.Block [] (span 44 63) (one (Node N.Connect [] (span 54 61)
    (two (Node N.Name (codes "y") (span 54 55) Nil) (Node N.Binary (codes "+") (span 58 61)
    (two (Node N.Name (codes "x") (span 58 59) Nil) (Node N.Whole (codes "1") (span 60 61) Nil))))))

pick : {p : Part} {qs ps : List Part} (count : ℕ) {ts : List PlacedToken}
    → Choice (span_of (take count ts)) p qs → Derives span_of Is Choice qs (take count ts)
    → Derives span_of Is Choice ps (drop count ts) → Derives span_of Is Choice (p ∷ ps) ts
pick {p = p} {ps = ps} count {ts = ts} c d r = subst (λ l. Derives span_of Is Choice (p ∷ ps) l) (take-append-drop count ts) (Derives.choice c d r)

smallest : IsFile tokens (record { name = codes "K"; manager = false; tree = Node N.Class (codes "K") (span 0 64) (one (Node N.Ctor (codes "K") (span 23 63) (two parameter body))) } ∷ [])
smallest = pick 24 (Choice.file) (pick 0 (Choice.no_package) (Derives.none)
    (pick 0 (Choice.no_imports) (Derives.none) (pick 24 (Choice.one_class)
    (pick 0 (Choice.no_mods) (Derives.none) (Derives.token refl (Derives.token (
      refl,
      refl,
    ) (Derives.token refl (Derives.token refl (Derives.token refl
    (pick 18 (Choice.the_ctor) (pick 18 (Choice.ctor {ps = one parameter} {b = body})
    (pick 0 (Choice.no_mods) (Derives.none) (Derives.token (
      refl,
      refl,
    ) (Derives.token refl (pick 2 (Choice.kernel_opening)
    (pick 2 (Choice.handed) (pick 0 (Choice.not_final) (Derives.none)
    (pick 1 (Choice.handed_type) (Derives.token refl (Derives.none)) (Derives.token (
      refl,
      refl,
    ) (Derives.none)))) (pick 0 (Choice.no_more_params) (Derives.none) (Derives.none)))
    (Derives.token refl (pick 13 (Choice.ctor_block) (Derives.token refl
    (Derives.token refl (Derives.token refl (Derives.token (
      refl,
      refl,
    ) (Derives.token refl (Derives.token refl (pick 6 (Choice.stmts)
    (pick 6 (Choice.simple_stmt) (pick 5 (Choice.connect)
    (pick 1 (Choice.no_cond) (pick 1 (Choice.tighter Above.ors)
    (pick 1 (Choice.tighter Above.ands) (pick 1 (Choice.tighter Above.bit_ors)
    (pick 1 (Choice.tighter Above.bit_xors) (pick 1 (Choice.tighter Above.bit_ands)
    (pick 1 (Choice.tighter Above.equalities) (pick 1 (Choice.tighter Above.orders)
    (pick 1 (Choice.tighter Above.shifts) (pick 1 (Choice.tighter Above.sums)
    (pick 1 (Choice.tighter Above.products) (pick 1 (Choice.no_prefix)
    (pick 1 (Choice.open_form) (pick 1 (Choice.name) (Derives.token (
      refl,
      refl,
    ) (Derives.none)) (Derives.none)) (Derives.none)) (Derives.none)) (Derives.none))
    (Derives.none)) (Derives.none)) (Derives.none)) (Derives.none)) (Derives.none))
    (Derives.none)) (Derives.none)) (Derives.none)) (Derives.none))
    (Derives.token refl (pick 3 (Choice.no_cond) (pick 3 (Choice.tighter Above.ors)
    (pick 3 (Choice.tighter Above.ands) (pick 3 (Choice.tighter Above.bit_ors)
    (pick 3 (Choice.tighter Above.bit_xors) (pick 3 (Choice.tighter Above.bit_ands)
    (pick 3 (Choice.tighter Above.equalities) (pick 3 (Choice.tighter Above.orders)
    (pick 3 (Choice.tighter Above.shifts) (pick 3 (Choice.joined Above.sums)
    (pick 1 (Choice.tighter Above.sums) (pick 1 (Choice.tighter Above.products)
    (pick 1 (Choice.no_prefix) (pick 1 (Choice.open_form)
    (pick 1 (Choice.name) (Derives.token (
      refl,
      refl,
    ) (Derives.none)) (Derives.none)) (Derives.none)) (Derives.none)) (Derives.none))
    (Derives.token (refl, refl) (pick 1 (Choice.tighter Above.products)
    (pick 1 (Choice.no_prefix) (pick 1 (Choice.open_form)
    (pick 1 (Choice.literal) (Derives.token refl (Derives.none)) (Derives.none)) (Derives.none))
    (Derives.none)) (Derives.none)))) (Derives.none)) (Derives.none)) (Derives.none))
    (Derives.none)) (Derives.none)) (Derives.none)) (Derives.none)) (Derives.none))
    (Derives.none)) (Derives.none)))) (Derives.token refl (Derives.none)))
    (pick 0 (Choice.no_stmts) (Derives.none) (Derives.none)))
    (Derives.token refl (Derives.none))))))))) (Derives.none)))))))
    (pick 0 (Choice.no_members) (Derives.none) (Derives.none)))
    (Derives.token refl (Derives.none))))))))) (pick 0 (Choice.no_classes) (Derives.none)
    (Derives.none))))) (Derives.none)
