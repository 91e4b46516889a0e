-- What is put on the stack in place of a rule that speaks of a name.
use Rattle.std.proofs.Common.{◌≡◌, ℕ, Bool, true, false, ◌&&◌, List, [], ◌∷◌, ◌++◌, Option, Some, None, refl, sym, ap, ◌∙◌, codes}
use Rattle.std.specs.Str.{bytes_eq}
use Rattle.maxj_tokens.specs.declared.sign.Sign.TheVariants as S
use Rattle.maxj_syntax.specs.declared.kind.Kind.{Kind}
use Rattle.maxj_syntax.specs.declared.kind.Word.TheVariants as W
use Rattle.maxj_syntax.specs.declared.symbol.TokenClass.{TokenClass}
use Rattle.maxj_syntax.specs.declared.symbol.TokenClass.TheVariants as C
use Rattle.maxj_tokens.specs.Scanning.{PlacedToken}
use Rattle.maxj_syntax.specs.Symbols.{Inside, Symbol, Mark, Name, Sub, Call, Act}
use Rattle.maxj_syntax.specs.Symbols as Y
use Rattle.maxj_syntax.specs.Moves.{word, is_own}
use Rattle.maxj_syntax.specs.Choosing.{admits, pick, kind_at, name_next, text_next, choose}
use Rattle.maxj_syntax.specs.Choosing.{named_guards, named_choices, bound, body, begins_member}
use Rattle.maxj_syntax.specs.Choosing.{member_choice, member_choices, member_guards, void_choice}
use Rattle.maxj_syntax.specs.Choosing.{word_choice, name_choice, ctor_choice, memory_choice}
use Rattle.maxj_syntax.specs.Choosing.{type_choice}
use Rattle.maxj_syntax.specs.Building.{IsExpanded}
use Rattle.maxj_syntax.specs.declared.symbol.ClassKind.{ClassKind}

first_picked : (g : List TokenClass) (gs : List (List TokenClass)) (c : List Symbol) (cs : List (List Symbol)) (k : Option Kind) → admits g k ≡ true → pick (g ∷ gs) (c ∷ cs) k ≡ Some c
first_picked g gs c cs k e = rw e refl

not_first : (g : List TokenClass) (gs : List (List TokenClass)) (c : List Symbol) (cs : List (List Symbol)) (k : Option Kind) → admits g k ≡ false → pick (g ∷ gs) (c ∷ cs) k ≡ pick gs cs k
not_first g gs c cs k e = rw e refl

plain : (n : Y.Named) (t : Option PlacedToken) → name_next n t ≡ false → choose (Call n) t ≡ pick (named_guards n) (named_choices n) (kind_at t)
plain n t e = rw e refl

by_name : (n : Y.Named) (t : Option PlacedToken) → name_next n t ≡ true → choose (Call n) t ≡ Some (bound n (text_next t))
by_name n t e = rw e refl

pub name_taken : (n : Y.Named) (t : Option PlacedToken) (w : List ℕ) (old new : List Symbol) → name_next n t ≡ true → w ≡ text_next t → new ≡ bound n w ++ old → IsExpanded (Call n) t old new true
name_taken n t w old new e f g = (bound n (text_next t), by_name n t e, g ∙ ap (λ v. bound n v ++ old) f)

no_parent : (w : List ℕ) (t : Option PlacedToken) → name_next (Y.Parent w) t ≡ false
no_parent w None = refl
no_parent w (Some t) = refl

no_members : (i : Inside) (t : Option PlacedToken) → name_next (Y.Members i) t ≡ false
no_members i None = refl
no_members i (Some t) = refl

no_after : (i : Inside) (o m : Bool) (t : Option PlacedToken) → name_next (Y.After i o m) t ≡ false
no_after i o m None = refl
no_after i o m (Some t) = refl

pub same_name : (i : Inside) (t : Option PlacedToken) → name_next (Y.Head i) t ≡ name_next Y.ClassName t
same_name i None = refl
same_name i (Some t) = refl

pub same_param : (m : ClassKind) (t : Option PlacedToken) → name_next (Y.FirstParam m) t ≡ name_next Y.ClassName t
same_param m None = refl
same_param m (Some t) = refl

abbrev pub kernel_inside : List ℕ → Inside
kernel_inside w = record { kind = ClassKind.Kernel; class = w; unmade = true }

abbrev pub manager_inside : List ℕ → Inside
manager_inside w = record { kind = ClassKind.Manager; class = w; unmade = true }

pub parent_kernel : (w : List ℕ) (t : Option PlacedToken) (old new : List Symbol)
    → admits (C.Word W.Kernel ∷ []) (kind_at t) ≡ true → new ≡ (word W.Kernel
    ∷ body (kernel_inside w)) ++ old → IsExpanded (Call (Y.Parent w)) t old new true
parent_kernel w t old new e f = (
  word W.Kernel ∷ body (kernel_inside w),
  plain (Y.Parent w) t (no_parent w t) ∙ first_picked (C.Word W.Kernel
      ∷ []) ((C.Word W.CustomManager ∷ []) ∷ []) (word W.Kernel
      ∷ body (kernel_inside w)) ((word W.CustomManager ∷ body (manager_inside w))
      ∷ []) (kind_at t) e,
  f,
)

pub parent_manager : (w : List ℕ) (t : Option PlacedToken) (old new : List Symbol)
    → admits (C.Word W.Kernel ∷ []) (kind_at t) ≡ false
    → admits (C.Word W.CustomManager ∷ []) (kind_at t) ≡ true
    → new ≡ (word W.CustomManager ∷ body (manager_inside w)) ++ old
    → IsExpanded (Call (Y.Parent w)) t old new true
parent_manager w t old new n e f = (
  word W.CustomManager ∷ body (manager_inside w),
  plain (Y.Parent w) t (no_parent w t) ∙ not_first (C.Word W.Kernel
      ∷ []) ((C.Word W.CustomManager ∷ []) ∷ []) (word W.Kernel
      ∷ body (kernel_inside w)) ((word W.CustomManager ∷ body (manager_inside w))
      ∷ []) (kind_at t) n ∙ first_picked (C.Word W.CustomManager
      ∷ []) [] (word W.CustomManager ∷ body (manager_inside w)) [] (kind_at t) e,
  f,
)

pub member_taken : (i : Inside) (t : Option PlacedToken) (old new : List Symbol)
    → admits begins_member (kind_at t) ≡ true → new ≡ member_choice i ++ old
    → IsExpanded (Call (Y.Members i)) t old new true
member_taken i t old new e f = (member_choice i, plain (Y.Members i) t (no_members i t) ∙ step i.unmade, f)
  where
    step : (u : Bool) → pick (member_guards u) (member_choices u i) (kind_at t) ≡ Some (member_choice i)
    step true = rw e refl
    step false = rw e refl

pub head_void : (i : Inside) (t : Option PlacedToken) (old new : List Symbol)
    → name_next Y.ClassName t ≡ false → admits (C.Word W.Void ∷ []) (kind_at t) ≡ true
    → new ≡ void_choice i ++ old → IsExpanded (Call (Y.Head i)) t old new true
head_void i t old new n e f = (void_choice i, plain (Y.Head i) t (same_name i t ∙ n) ∙ first_picked (C.Word W.Void ∷ []) ((C.TypeWord ∷ []) ∷ []) (void_choice i) (word_choice i ∷ []) (kind_at t) e, f)

pub head_word : (i : Inside) (t : Option PlacedToken) (old new : List Symbol)
    → name_next Y.ClassName t ≡ false → admits (C.Word W.Void ∷ []) (kind_at t) ≡ false
    → admits (C.TypeWord ∷ []) (kind_at t) ≡ true → new ≡ word_choice i ++ old
    → IsExpanded (Call (Y.Head i)) t old new true
head_word i t old new n m e f = (
  word_choice i,
  plain (Y.Head i) t (same_name i t ∙ n) ∙ not_first (C.Word W.Void
      ∷ []) ((C.TypeWord ∷ []) ∷ []) (void_choice i) (word_choice i
      ∷ []) (kind_at t) m ∙ first_picked (C.TypeWord ∷ []) [] (word_choice i) [] (kind_at t) e,
  f,
)

pub head_none : (i : Inside) (t : Option PlacedToken) → name_next Y.ClassName t ≡ false
    → admits (C.Word W.Void ∷ []) (kind_at t) ≡ false → admits (C.TypeWord
    ∷ []) (kind_at t) ≡ false → choose (Call (Y.Head i)) t ≡ None
head_none i t n m k =
    plain (Y.Head i) t (same_name i t ∙ n) ∙ not_first (C.Word W.Void ∷ []) ((C.TypeWord ∷ [])
    ∷ []) (void_choice i) (word_choice i ∷ []) (kind_at t) m ∙ not_first (C.TypeWord
    ∷ []) [] (word_choice i) [] (kind_at t) k

pub head_name : (i : Inside) (t : Option PlacedToken) (w : List ℕ) (o m : Bool)
    (old new : List Symbol) → name_next Y.ClassName t ≡ true → w ≡ text_next t → o ≡ is_own i w
    → m ≡ bytes_eq w (codes "Memory") → new ≡ name_choice i w o m ++ old
    → IsExpanded (Call (Y.Head i)) t old new true
head_name i t w o m old new e f g h k = name_taken (Y.Head i) t w old new (same_name i t ∙ e) f (k ∙ ap (λ x. name_choice i w x m ++ old) g ∙ ap (λ x. name_choice i w (is_own i w) x ++ old) h)

pub after_ctor : (i : Inside) (o m : Bool) (t : Option PlacedToken) (old new : List Symbol)
    → (o && admits (C.Sign S.Open ∷ []) (kind_at t)) ≡ true → new ≡ ctor_choice i ++ old
    → IsExpanded (Call (Y.After i o m)) t old new true
after_ctor i true true t old new e f = (ctor_choice i, plain (Y.After i true true) t (no_after i true true t) ∙ (rw e refl), f)
after_ctor i true false t old new e f = (ctor_choice i, plain (Y.After i true false) t (no_after i true false t) ∙ (rw e refl), f)
after_ctor i false m t old new e f = absurd (cc)

pub after_memory : (i : Inside) (o m : Bool) (t : Option PlacedToken) (old new : List Symbol)
    → (o && admits (C.Sign S.Open ∷ []) (kind_at t)) ≡ false
    → (m && admits (C.Sign S.Less ∷ []) (kind_at t)) ≡ true → new ≡ memory_choice i ++ old
    → IsExpanded (Call (Y.After i o m)) t old new true
after_memory i true true t old new n e f = (memory_choice i, plain (Y.After i true true) t (no_after i true true t) ∙ (rw (n, e) refl), f)
after_memory i false true t old new n e f = (memory_choice i, plain (Y.After i false true) t (no_after i false true t) ∙ (rw e refl), f)
after_memory i o false t old new n e f = absurd (cc)

pub after_type : (i : Inside) (o m : Bool) (t : Option PlacedToken) (old new : List Symbol)
    → (o && admits (C.Sign S.Open ∷ []) (kind_at t)) ≡ false
    → (m && admits (C.Sign S.Less ∷ []) (kind_at t)) ≡ false → new ≡ type_choice i ++ old
    → IsExpanded (Call (Y.After i o m)) t old new true
after_type i true true t old new n k f = (type_choice i, plain (Y.After i true true) t (no_after i true true t) ∙ (rw (n, k) refl), f)
after_type i true false t old new n k f = (type_choice i, plain (Y.After i true false) t (no_after i true false t) ∙ (rw n refl), f)
after_type i false true t old new n k f = (type_choice i, plain (Y.After i false true) t (no_after i false true t) ∙ (rw k refl), f)
after_type i false false t old new n k f = (type_choice i, plain (Y.After i false false) t (no_after i false false t), f)

-- what was asked of the kind is so of the next token
pub asked : (g : List TokenClass) {k j : Option Kind} {b v : Bool} → b ≡ admits g k → k ≡ j → b ≡ v → admits g j ≡ v
asked g e f h = sym (e ∙ ap (λ x. admits g x) f) ∙ h

pub asked_if : (o : Bool) (g : List TokenClass) {k j : Option Kind} {b v : Bool} → b ≡ (o && admits g k) → k ≡ j → b ≡ v → (o && admits g j) ≡ v
asked_if o g e f h = sym (e ∙ ap (λ x. o && admits g x) f) ∙ h
