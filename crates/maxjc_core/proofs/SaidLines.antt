-- The lines of kernels and of links, one by one.
use Rattle.std.proofs.Common.{
  ◌≡◌,
  ◌∙◌,
  ◌<◌,
  ◌+◌,
  ℕ,
  suc,
  List,
  [],
  ◌∷◌,
  ◌++◌,
  length,
  take,
  get_or,
  arith,
  append_assoc,
  append-nil,
  ap,
  sym,
}
use Rattle.std.specs.List.{flat_map}
use Rattle.std.proofs.lemmas.List.{take_more, flat_map_more, length-take-le}
use Rattle.manager_links.specs.declared.links.Link.{Link}
use Rattle.maxjc_core.specs.Compiling.{link_line, link_lines}

-- behind some lines, those of one item more
pub lines_more : {A : Type 0} (f : A → List ℕ) (lines : List ℕ) (xs : List A) (i : ℕ) (x : A)
    → i < length xs → x ≡ get_or xs i x
    → (lines ++ flat_map f (take i xs)) ++ f x ≡ lines ++ flat_map f (take (i + 1) xs)
lines_more f lines xs i x lt is =
    flat_map_more f lines (take i xs) x
    ∙ ap (λ ys. lines ++ flat_map f ys)
    (sym (take_more xs i x lt ∙ ap (λ y. take i xs ++ y ∷ []) (sym is)))

-- what reading a link past the end of a list gives
abbrev pub no_link : Link
no_link = record {
  from = record { kernel = 0; node = 0 };
  to = record { kernel = 0; node = 0 };
  depth = 0;
}

-- the lines of links, one link more
links_push : (number : ℕ) (links : List Link) (link : Link)
    → link_lines number (links ++ link ∷ [])
    ≡ link_lines number links ++ link_line (number + length links) link
links_push number [] link =
    append-nil (link_line number link)
    ∙ ap (λ n. link_line n link) (let n : number ≡ number + 0 = omega arith in n)
links_push number (first ∷ links) link =
    ap (λ lines. link_line number first ++ lines) (links_push (number + 1) links link)
    ∙ sym (append_assoc (link_line number first) (link_lines (number + 1) links)
    (link_line (number + 1 + length links) link))
    ∙ ap (λ n. (link_line number first ++ link_lines (number + 1) links) ++ link_line n link)
    (let n : number + 1 + length links ≡ number + suc (length links) = omega arith in n)

pub links_more : (lines : List ℕ) (links : List Link) (i : ℕ) (link : Link) → i < length links
    → link ≡ get_or links i link
    → (lines ++ link_lines 0 (take i links)) ++ link_line i link
    ≡ lines ++ link_lines 0 (take (i + 1) links)
links_more lines links i link lt is =
    let count = length-take-le i links (omega (arith, lt)) in
    let few : 0 + length (take i links) ≡ i = omega (arith, count) in
    append_assoc lines (link_lines 0 (take i links)) (link_line i link)
    ∙ ap (λ n. lines ++ (link_lines 0 (take i links) ++ link_line n link)) (sym few)
    ∙ ap (λ more. lines ++ more) (sym (links_push 0 (take i links) link))
    ∙ ap (λ ls. lines ++ link_lines 0 ls)
    (sym (take_more links i link lt ∙ ap (λ y. take i links ++ y ∷ []) (sym is)))

-- three pieces behind some lines, one by one
pub three_more : (lines one two three first second third : List ℕ) → first ≡ lines ++ one
    → second ≡ first ++ two → third ≡ second ++ three → third ≡ lines ++ (one ++ two ++ three)
three_more lines one two three first second third a b c =
    c ∙ ap (λ l. l ++ three) (b ∙ ap (λ l. l ++ two) a ∙ append_assoc lines one two)
    ∙ append_assoc lines (one ++ two) three
