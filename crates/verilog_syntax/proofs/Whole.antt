-- From what is read to the first bad token.
use Rattle.std.proofs.Common.{◌≡◌, ◌∙◌, ◌+◌, ◌-◌, ◌<◌, List, [], ◌∷◌, ◌++◌, length, take, length-append, refl, sym, ap, subst, append_assoc, arith}
use Rattle.std.proofs.lemmas.List.{append-nil}
use Rattle.std.proofs.Math.Seq.{take-append_seam}
use Rattle.grammar.specs.Grammar.{Derives, Begins, FirstBad}
use Rattle.grammar.specs.Stack.{Starts}
use Rattle.grammar.proofs.Leftmost.{starts_then, starts_front, starts_from_runs, runs_from_derives, begins_from_starts, starts_from_begins}
use Rattle.rtl_text.specs.Tokens.{Token}
use Rattle.rtl_text.specs.Tree.{ModuleTree}
use Rattle.rtl_text.specs.Productions.{Part, File, Sign_, Is, Choice}
use Rattle.verilog_syntax.specs.Parsed.{IsFile}
use Rattle.verilog_syntax.specs.Parsing.{FileOf, Ends, end_token, ended, Reads, Stops}

-- the first token of ys is the first bad one, or there are too few
record IsBad (xs ys : List Token) : Type 0 where
  read : List Token
  split : xs ≡ read ++ ys
  tree : List ModuleTree
  begun : Starts Is Choice (File tree ∷ []) read
  bad : (t : Token) (rest : List Token) → ys ≡ t ∷ rest → (trees : List ModuleTree) → Starts Is Choice (File trees ∷ []) (read ++ t ∷ []) → ⊥
  short : ys ≡ [] → (trees : List ModuleTree) → Derives Is Choice (File trees ∷ []) xs → ⊥

nothing_ends : Ends FileOf []
nothing_ends t ts g st = elim st [ ]

end_ends : Ends FileOf (Sign_ [] ∷ [])
end_ends t ts g (Starts.eat i st) = cc
end_ends t ts g (Starts.pick qs c st) = elim c [ ]

stopped : {xs ys : List Token} → Stops FileOf xs ys → IsBad xs ys
stopped {xs = xs} {ys = ys} r = record {
  read = r.read;
  split = r.split;
  tree = r.tree;
  begun = r.begun [];
  bad = λ t rest e trees st. r.bad t (rest ++ end_token ∷ []) (ap ended e) trees tt [] nothing_ends st;
  short = λ e trees d.
      let same : xs ≡ r.read = r.split ∙ ap (λ l. r.read ++ l) e ∙ append-nil r.read in
      r.bad end_token [] (ap ended e) trees tt (Sign_ [] ∷ []) end_ends
      (subst (λ l. Starts Is Choice (File trees ∷ Sign_ [] ∷ []) (l ++ end_token ∷ [])) same (starts_then Is Choice (Sign_ [] ∷ []) (end_token ∷ []) d (Starts.eat refl Starts.end)));
}

more_left : {xs ys : List Token} {trees : List ModuleTree} → Reads FileOf xs ys trees → (ys ≡ [] → ⊥) → IsBad xs ys
more_left {xs = xs} {ys = ys} {trees = trees} r some = record {
  read = r.read;
  split = r.split;
  tree = trees;
  begun = subst (λ l. Starts Is Choice (File trees ∷ []) l) (append-nil r.read) (starts_then Is Choice [] [] r.derived Starts.end);
  bad = λ t rest e others st. let (_, s) = r.only others tt [] nothing_ends (t ∷ []) (rest ++ end_token ∷ []) (λ g. cc) (ap ended e) st in nothing s;
  short = λ e others d. absurd (some e);
}
  where
    nothing : {t : Token} {ts : List Token} → Starts Is Choice [] (t ∷ ts) → ⊥
    nothing s = elim s [ ]

first_bad : {xs ys : List Token} → IsBad xs ys → FirstBad Is Choice IsFile xs (length xs - length ys)
first_bad {xs = xs} {ys = ys} r =
    let place : length xs - length ys ≡ length r.read = omega (arith, ap length r.split, length-append r.read ys) in
    subst (λ n. FirstBad Is Choice IsFile xs n) (sym place) (record {
      within = omega (arith, ap length r.split, length-append r.read ys);
      start = File r.tree;
      starts = (r.tree, refl);
      begun = subst (λ l. Begins Is Choice (File r.tree) (take (length r.read) l)) (sym r.split)
          (subst (λ l. Begins Is Choice (File r.tree) l) (sym (take-append_seam r.read ys))
          (begins_from_starts Is Choice r.begun));
      bad = λ h p f b. at ys refl h p f b;
      none = λ p f d. over ys refl p f d;
    })
  where
    behind : (t : Token) (rest : List Token) → ys ≡ t ∷ rest → xs ≡ (r.read ++ t ∷ []) ++ rest
    behind t rest e = r.split ∙ ap (λ l. r.read ++ l) e ∙ sym (append_assoc r.read (t ∷ []) rest)

    at : (zs : List Token) → ys ≡ zs → length r.read < length xs → (p : Part) → IsFile p → Begins Is Choice p (take (length r.read + 1) xs) → ⊥
    at [] e h p f b = absurd (omega (arith, ap length r.split, ap length e, length-append r.read ys))
    at (t ∷ rest) e h p (trees, f) b =
        let n : length r.read + 1 ≡ length (r.read ++ t ∷ []) = sym (length-append r.read (t ∷ [])) in
        let front : take (length r.read + 1) xs ≡ r.read ++ t
        ∷ [] = ap (λ k. take k xs) n ∙ ap (λ l. take (length (r.read ++ t
        ∷ [])) l) (behind t rest e) ∙ take-append_seam (r.read ++ t ∷ []) rest in
        r.bad t rest e trees (subst (λ l. Starts Is Choice (File trees ∷ []) l) front (starts_from_begins Is Choice [] (subst (λ q. Begins Is Choice q (take (length r.read + 1) xs)) f b)))

    over : (zs : List Token) → ys ≡ zs → (p : Part) → IsFile p → Derives Is Choice (p ∷ []) xs → ⊥
    over [] e p (trees, f) d = r.short e trees (subst (λ q. Derives Is Choice (q ∷ []) xs) f d)
    over (t ∷ rest) e p (trees, f) d =
        r.bad t rest e trees (starts_front Is Choice (r.read ++ t ∷ []) rest (subst (λ l. Starts Is Choice (File trees ∷ []) l) (behind t rest e)
        (starts_from_runs Is Choice (runs_from_derives Is Choice (subst (λ q. Derives Is Choice (q ∷ []) xs) f d)))))

pub stop_is_bad : {xs ys : List Token} → Stops FileOf xs ys → FirstBad Is Choice IsFile xs (length xs - length ys)
stop_is_bad r = first_bad (stopped r)

pub more_is_bad : {xs ys : List Token} {trees : List ModuleTree} → Reads FileOf xs ys trees → (ys ≡ [] → ⊥) → FirstBad Is Choice IsFile xs (length xs - length ys)
more_is_bad r some = first_bad (more_left r some)

pub whole : {xs ys : List Token} {trees : List ModuleTree} → Reads FileOf xs ys trees → ys ≡ [] → Derives Is Choice (File trees ∷ []) xs
whole {xs = xs} {trees = trees} r e = subst (λ l. Derives Is Choice (File trees ∷ []) l) (sym (r.split ∙ ap (λ l. r.read ++ l) e ∙ append-nil r.read)) r.derived

-- the trees are the only ones
pub whole_only : {xs ys : List Token} {trees : List ModuleTree} → Reads FileOf xs ys trees → ys ≡ [] → (others : List ModuleTree) → Derives Is Choice (File others ∷ []) xs → others ≡ trees
whole_only {xs = xs} {ys = ys} r e others d =
    let same : xs ≡ r.read = r.split ∙ ap (λ l. r.read ++ l) e ∙ append-nil r.read in
    (r.only others tt (Sign_ [] ∷ []) end_ends (end_token ∷ []) [] (λ g. cc) (ap ended e)
    (subst (λ l. Starts Is Choice (File others ∷ Sign_ [] ∷ []) (l ++ end_token ∷ [])) same (starts_then Is Choice (Sign_ [] ∷ []) (end_token ∷ []) d (Starts.eat refl Starts.end)))).0
