-- The choices of the rules that speak of names are those moves, and no others.
use Rattle.std.proofs.Common.{ℕ, Bool, true, false, List, inl, inr, refl, subst}
use Rattle.maxj_syntax.specs.Symbols.{Inside, Symbol, Call}
use Rattle.maxj_syntax.specs.Symbols as Y
use Rattle.maxj_syntax.specs.Moves.{NamedMove}
use Rattle.maxj_syntax.specs.Choosing.{Among, IsBound, Choice, named_choices, member_choice, member_choices, ctor_choice, memory_choice, type_choice, after_choices}
use Rattle.maxj_syntax.specs.declared.symbol.ClassKind.{ClassKind}

member_in : (i : Inside) (u : Bool) → Among (member_choice i) (member_choices u i)
member_in i true = inl refl
member_in i false = inl refl

type_in : (i : Inside) (o m : Bool) → Among (type_choice i) (after_choices i o m)
type_in i true true = inr (inr (inl refl))
type_in i true false = inr (inl refl)
type_in i false true = inr (inl refl)
type_in i false false = inl refl

memory_in : (i : Inside) (o : Bool) → Among (memory_choice i) (after_choices i o true)
memory_in i true = inr (inl refl)
memory_in i false = inl refl

ctor_in : (i : Inside) (m : Bool) → Among (ctor_choice i) (after_choices i true m)
ctor_in i true = inl refl
ctor_in i false = inl refl

pub from_named : {n : Y.Named} {qs : List Symbol} → NamedMove n qs → Choice (Call n) qs
from_named (NamedMove.class_name {w = w} e) = inr (w, e, refl, refl)
from_named NamedMove.kernel = inl (inl refl)
from_named NamedMove.manager = inl (inr (inl refl))
from_named (NamedMove.member {i = i}) = inl (member_in i i.unmade)
from_named NamedMove.no_member = inl (inr (inl refl))
from_named NamedMove.void_method = inl (inl refl)
from_named NamedMove.word_member = inl (inr (inl refl))
from_named (NamedMove.name_member {w = w} e) = inr (w, e, refl, refl)
from_named (NamedMove.after_type {i = i} {o = o} {m = m}) = inl (type_in i o m)
from_named (NamedMove.after_memory {i = i} {o = o}) = inl (memory_in i o)
from_named (NamedMove.after_ctor {i = i} {m = m}) = inl (ctor_in i m)
from_named (NamedMove.first_param {w = w} e) = inr (w, e, refl, refl)

members : (m : ClassKind) (w : List ℕ) (u : Bool) (qs : List Symbol)
    → Among qs (member_choices u (record { kind = m; class = w; unmade = u }))
    → NamedMove (Y.Members (record { kind = m; class = w; unmade = u })) qs
members m w true qs a = elim a [ inl e ↦ subst (λ l. NamedMove (Y.Members (record { kind = m; class = w; unmade = true })) l) e NamedMove.member | inr b ↦ absurd b ]
members m w false qs a = elim a [
  | inl e ↦ subst (λ l. NamedMove (Y.Members (record { kind = m; class = w; unmade = false })) l) e NamedMove.member
  | inr b ↦ elim b [ inl e ↦ subst (λ l. NamedMove (Y.Members (record { kind = m; class = w; unmade = false })) l) e NamedMove.no_member | inr d ↦ absurd d ]
]

afters : (i : Inside) (o m : Bool) (qs : List Symbol) → Among qs (after_choices i o m) → NamedMove (Y.After i o m) qs
afters i true true qs a = elim a [
  | inl e ↦ subst (λ l. NamedMove (Y.After i true true) l) e NamedMove.after_ctor
  | inr b ↦ elim b [
    | inl e ↦ subst (λ l. NamedMove (Y.After i true true) l) e NamedMove.after_memory
    | inr d ↦ elim d [ inl e ↦ subst (λ l. NamedMove (Y.After i true true) l) e NamedMove.after_type | inr f ↦ absurd f ]
  ]
]
afters i true false qs a = elim a [
  | inl e ↦ subst (λ l. NamedMove (Y.After i true false) l) e NamedMove.after_ctor
  | inr b ↦ elim b [ inl e ↦ subst (λ l. NamedMove (Y.After i true false) l) e NamedMove.after_type | inr f ↦ absurd f ]
]
afters i false true qs a = elim a [
  | inl e ↦ subst (λ l. NamedMove (Y.After i false true) l) e NamedMove.after_memory
  | inr b ↦ elim b [ inl e ↦ subst (λ l. NamedMove (Y.After i false true) l) e NamedMove.after_type | inr f ↦ absurd f ]
]
afters i false false qs a = elim a [ inl e ↦ subst (λ l. NamedMove (Y.After i false false) l) e NamedMove.after_type | inr f ↦ absurd f ]

bounds : (n : Y.Named) (qs : List Symbol) → IsBound n qs → NamedMove n qs
bounds Y.ClassName qs b = subst (λ l. NamedMove Y.ClassName l) b.3 (NamedMove.class_name b.1)
bounds (Y.Head i) qs b = subst (λ l. NamedMove (Y.Head i) l) b.3 (NamedMove.name_member b.1)
bounds (Y.FirstParam m) qs b = subst (λ l. NamedMove (Y.FirstParam m) l) b.3 (NamedMove.first_param b.1)
bounds (Y.Parent w) qs b = absurd (let e = b.2 in cc)
bounds (Y.Members i) qs b = absurd (let e = b.2 in cc)
bounds (Y.After i o m) qs b = absurd (let e = b.2 in cc)

plains : (n : Y.Named) (qs : List Symbol) → Among qs (named_choices n) → NamedMove n qs
plains Y.ClassName qs a = absurd a
plains (Y.FirstParam m) qs a = absurd a
plains (Y.Parent w) qs a = elim a [
  | inl e ↦ subst (λ l. NamedMove (Y.Parent w) l) e NamedMove.kernel
  | inr b ↦ elim b [ inl e ↦ subst (λ l. NamedMove (Y.Parent w) l) e NamedMove.manager | inr d ↦ absurd d ]
]
plains (Y.Members i) qs a = members i.kind i.class i.unmade qs a
plains (Y.Head i) qs a = elim a [
  | inl e ↦ subst (λ l. NamedMove (Y.Head i) l) e NamedMove.void_method
  | inr b ↦ elim b [ inl e ↦ subst (λ l. NamedMove (Y.Head i) l) e NamedMove.word_member | inr d ↦ absurd d ]
]
plains (Y.After i o m) qs a = afters i o m qs a

pub to_named : (n : Y.Named) (qs : List Symbol) → Choice (Call n) qs → NamedMove n qs
to_named n qs c = elim c [ inl a ↦ plains n qs a | inr b ↦ bounds n qs b ]
