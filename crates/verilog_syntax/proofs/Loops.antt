-- Lists of parts: what begins one more, and where they end.
use Rattle.std.proofs.Common.{◌≡◌, ◌∙◌, inl, inr, ℕ, Bool, true, false, ◌||◌, List, [], ◌∷◌, ◌++◌, Option, Some, None, is_some, map, refl, sym, ap, append_assoc, codes}
use Rattle.std.proofs.lemmas.List.{map-append}
use Rattle.std.specs.Str.{bytes_eq}
use Rattle.grammar.specs.Stack.{Starts}
use Rattle.rtl_text.specs.Tokens.{Token}
use Rattle.rtl_ir.specs.Names.{is_reserved}
use Rattle.rtl_text.specs.Tree.{UpdateTree, ItemTree, ModuleTree}
use Rattle.rtl_text.specs.Productions.{Part, Sign_, Reserved, Id, Update, Item, Module, Is, Choice}
use Rattle.verilog_syntax.specs.Parsing.{UpdateOf, UpdatesOf, ItemOf, ItemsOf, ModuleOf, ModulesOf, BeginsItem, ended}
use Rattle.verilog_syntax.specs.Pieces.{piece_token, begins_with, begins_item, name_at}
use Rattle.verilog_syntax.specs.declared.keyword.Piece.TheVariants.{Word, Sign}
use Rattle.verilog_syntax.specs.declared.keyword.Keyword.TheVariants as words
use Rattle.verilog_syntax.specs.declared.mark.Mark.TheVariants as marks
use Rattle.text_scan.proofs.ByteTests.{clash, or_true, bytes_refl}
use Rattle.verilog_syntax.proofs.Fronts.{front_is, front_is_not, no_name}
use Rattle.verilog_syntax.proofs.Plans.{Plan, read, fixed, Refuses}
use Rattle.verilog_syntax.proofs.Refusals.{named}

pub map_more : {A B : Type 0} (v : A → B) (xs ys : List A) (x : A) → ys ≡ xs ++ x ∷ [] → (w : List B) → map v xs ++ (v x ∷ w) ≡ map v ys ++ w
map_more v xs ys x e w = sym (ap (λ l. map v l ++ w) e ∙ ap (λ l. l ++ w) (map-append v xs (x ∷ [])) ∙ append_assoc (map v xs) (v x ∷ []) w)

heads : {t u : Token} {ts us : List Token} → t ∷ ts ≡ u ∷ us → t ≡ u
heads e = cc

same_word : {a b : List ℕ} → Token.Word a ≡ Token.Word b → a ≡ b
same_word k = cc

words_differ : (a b : List ℕ) → bytes_eq a b ≡ false → Token.Word a ≡ Token.Word b → ⊥
words_differ a b f e = let g : a ≡ b = cc in clash (ap (λ x. bytes_eq x b) g ∙ bytes_refl b) f

signs_differ : (a b : List ℕ) → bytes_eq a b ≡ false → Token.Sign a ≡ Token.Sign b → ⊥
signs_differ a b f e = let g : a ≡ b = cc in clash (ap (λ x. bytes_eq x b) g ∙ bytes_refl b) f

is_sign : {b : List ℕ} {below : List Part} {t : Token} {ts : List Token} → Starts Is Choice (Sign_ b ∷ below) (t ∷ ts) → t ≡ Token.Sign b
is_sign (Starts.eat i st) = i
is_sign (Starts.pick qs c st) = elim c [ ]

is_word : {w : List ℕ} {below : List Part} {t : Token} {ts : List Token} → Starts Is Choice (Reserved w ∷ below) (t ∷ ts) → t ≡ Token.Word w
is_word (Starts.eat i st) = i
is_word (Starts.pick qs c st) = elim c [ ]

-- lists with commas end before `)`
pub comma_ends : {below : List Part} → (t : Token) (ts : List Token) → t ≡ Token.Sign (codes ",") → Starts Is Choice (Sign_ (codes ")") ∷ below) (t ∷ ts) → ⊥
comma_ends t ts g st = signs_differ (codes ")") (codes ",") refl (sym (is_sign st) ∙ g)

pub updates_end : {below : List Part} → (t : Token) (ts : List Token) → t ≡ Token.Word (codes "if") → Starts Is Choice (Reserved (codes "end") ∷ below) (t ∷ ts) → ⊥
updates_end t ts g st = words_differ (codes "end") (codes "if") refl (sym (is_word st) ∙ g)

pub items_end : {below : List Part} → (t : Token) (ts : List Token) → BeginsItem t → Starts Is Choice (Reserved (codes "endmodule") ∷ below) (t ∷ ts) → ⊥
items_end t ts g st = by t (is_word st) g
  where
    by : (t : Token) → t ≡ Token.Word (codes "endmodule") → BeginsItem t → ⊥
    by t e (inl h) = words_differ (codes "endmodule") (codes "wire") refl (sym e ∙ h)
    by t e (inr (inl h)) = words_differ (codes "endmodule") (codes "reg") refl (sym e ∙ h)
    by t e (inr (inr (inl h))) = words_differ (codes "endmodule") (codes "assign") refl (sym e ∙ h)
    by t e (inr (inr (inr (inl h)))) = words_differ (codes "endmodule") (codes "always") refl (sym e ∙ h)
    by t e (inr (inr (inr (inr (w, h, f))))) = let g : codes "endmodule" ≡ w = same_word (sym e ∙ h) in clash refl (ap is_reserved g ∙ f)

pub comma_goes : (ys : List Token) → begins_with (piece_token (Sign marks.Comma)) ys ≡ true → (t : Token) (back : List Token) → ended ys ≡ t ∷ back → t ≡ Token.Sign (codes ",")
comma_goes ys e t back g = heads (sym g ∙ ap ended (front_is (Sign marks.Comma) ys e))

pub update_goes : (ys : List Token) → begins_with (piece_token (Word words.If)) ys ≡ true → (t : Token) (back : List Token) → ended ys ≡ t ∷ back → t ≡ Token.Word (codes "if")
update_goes ys e t back g = heads (sym g ∙ ap ended (front_is (Word words.If) ys e))

pub module_goes : (ys : List Token) → begins_with (piece_token (Word words.Module)) ys ≡ true → (t : Token) (back : List Token) → ended ys ≡ t ∷ back → t ≡ Token.Word (codes "module")
module_goes ys e t back g = heads (sym g ∙ ap ended (front_is (Word words.Module) ys e))

pub item_goes : (ys : List Token) → begins_item ys ≡ true → (t : Token) (back : List Token) → ended ys ≡ t ∷ back → BeginsItem t
item_goes ys e t back g =
    elim (or_true (begins_with (piece_token (Word words.Wire)) ys) _ e) [
      | inl h ↦ inl (heads (sym g ∙ ap ended (front_is (Word words.Wire) ys h)))
      | inr e ↦ elim (or_true (begins_with (piece_token (Word words.Reg)) ys) _ e) [
        | inl h ↦ inr (inl (heads (sym g ∙ ap ended (front_is (Word words.Reg) ys h))))
        | inr e ↦ elim (or_true (begins_with (piece_token (Word words.Assign)) ys) _ e) [
          | inl h ↦ inr (inr (inl (heads (sym g ∙ ap ended (front_is (Word words.Assign) ys h)))))
          | inr e ↦ elim (or_true (begins_with (piece_token (Word words.Always)) ys) _ e) [
            | inl h ↦ inr (inr (inr (inl (heads (sym g ∙ ap ended (front_is (Word words.Always) ys h))))))
            | inr h ↦ (let (w, f, r) = named ys h in inr (inr (inr (inr (w, heads (sym g ∙ ap ended f), r)))))
          ]
        ]
      ]
    ]

-- what begins an update, an item, and a module

starts_update : {a : UpdateTree} {below : List Part} {t : Token} {u : List Token} → Starts Is Choice (Update a ∷ below) (t ∷ u) → t ≡ Token.Word (codes "if")
starts_update (Starts.eat i st) = absurd i
starts_update (Starts.pick qs Choice.update_register st) = is_word st
starts_update (Starts.pick qs Choice.update_cell st) = is_word st

starts_module : {a : ModuleTree} {below : List Part} {t : Token} {u : List Token} → Starts Is Choice (Module a ∷ below) (t ∷ u) → t ≡ Token.Word (codes "module")
starts_module (Starts.eat i st) = absurd i
starts_module (Starts.pick qs Choice.module' st) = is_word st

is_name : {a : List ℕ} {below : List Part} {t : Token} {u : List Token} → Starts Is Choice (Id a ∷ below) (t ∷ u) → (t ≡ Token.Word a) × (is_reserved a ≡ false)
is_name (Starts.eat i st) = i
is_name (Starts.pick qs c st) = elim c [ ]

starts_item : {a : ItemTree} {below : List Part} {t : Token} {u : List Token} → Starts Is Choice (Item a ∷ below) (t ∷ u) → BeginsItem t
starts_item (Starts.eat i st) = absurd i
starts_item (Starts.pick qs Choice.wire st) = inl (is_word st)
starts_item (Starts.pick qs Choice.register st) = inr (inl (is_word st))
starts_item (Starts.pick qs (Choice.memory h) st) = inr (inl (is_word st))
starts_item (Starts.pick qs Choice.assign st) = inr (inr (inl (is_word st)))
starts_item (Starts.pick qs Choice.always st) = inr (inr (inr (inl (is_word st))))
starts_item (Starts.pick qs (Choice.instance {of = of}) st) = let (e, f) = is_name st in inr (inr (inr (inr (of, e, f))))

pub no_update : {k : UpdateTree → Plan (List UpdateTree)} (ys : List Token) → begins_with (piece_token (Word words.If)) ys ≡ false → Refuses UpdatesOf (fixed [] (read UpdateOf k)) ys
no_update ys e = record { none = λ x below n t u back f st. front_is_not (Word words.If) ys e t back f (starts_update st) }

pub no_module : {k : ModuleTree → Plan (List ModuleTree)} (ys : List Token) → begins_with (piece_token (Word words.Module)) ys ≡ false → Refuses ModulesOf (fixed [] (read ModuleOf k)) ys
no_module ys e = record { none = λ x below n t u back f st. front_is_not (Word words.Module) ys e t back f (starts_module st) }

or_none : (a b : Bool) → (a || b) ≡ false → (a ≡ false) × (b ≡ false)
or_none true b e = cc
or_none false b e = (refl, e)

none_is : (o : Option (List ℕ)) → is_some o ≡ false → o ≡ None
none_is None e = refl
none_is (Some x) e = cc

pub no_item : {k : ItemTree → Plan (List ItemTree)} (ys : List Token) → begins_item ys ≡ false → Refuses ItemsOf (fixed [] (read ItemOf k)) ys
no_item ys e = record { none = λ x below n t u back f st. by t back f (starts_item st) }
  where
    by : (t : Token) (back : List Token) → ended ys ≡ t ∷ back → BeginsItem t → ⊥
    by t back f g =
        let (wire, e) = or_none (begins_with (piece_token (Word words.Wire)) ys) _ e in
        let (reg, e) = or_none (begins_with (piece_token (Word words.Reg)) ys) _ e in
        let (assign, e) = or_none (begins_with (piece_token (Word words.Assign)) ys) _ e in
        let (always, e) = or_none (begins_with (piece_token (Word words.Always)) ys) _ e in
        elim g [
          | inl h ↦ front_is_not (Word words.Wire) ys wire t back f h
          | inr g ↦ elim g [
            | inl h ↦ front_is_not (Word words.Reg) ys reg t back f h
            | inr g ↦ elim g [
              | inl h ↦ front_is_not (Word words.Assign) ys assign t back f h
              | inr g ↦ elim g [
                | inl h ↦ front_is_not (Word words.Always) ys always t back f h
                | inr h ↦ no_name ys (none_is (name_at ys) e) t back f h.0 h.1 h.2
              ]
            ]
          ]
        ]
