-- The last delay of a chain.
use Rattle.std.proofs.Common.{◌≡◌, ◌-◌, List, [], ◌∷◌, length, Some, None, refl, sym, ap, ◌∙◌, arith}
use Rattle.std.specs.Prelude.{slice_get}
use Rattle.rtl_delays.specs.declared.elements.Element.{Element}
use Rattle.rtl_delays.specs.Elements.{shown}
use Rattle.kernel_stages.specs.Chains.{last_shown, end_of}

last_at : (e : Element) (es : List Element) (last : Element) → slice_get (e ∷ es) (length es) ≡ Some last → last_shown (shown e) es ≡ shown last
last_at e [] last h = let q : e ≡ last = cc in ap shown q
last_at e (f ∷ es) last h = last_at f es last h

some_at : (e : Element) (es : List Element) → slice_get (e ∷ es) (length es) ≡ None → ⊥
some_at e [] h = cc
some_at e (f ∷ es) h = some_at f es h

place_is : (e : Element) (es : List Element) → length (e ∷ es) - 1 ≡ length es
place_is e es = omega arith

pub end_is : (es : List Element) (last : Element) → slice_get es (length es - 1) ≡ Some last → end_of es ≡ shown last ∷ []
end_is [] last h = absurd (cc)
end_is (e ∷ es) last h = ap (λ s. s ∷ []) (last_at e es last (ap (slice_get (e ∷ es)) (sym (place_is e es)) ∙ h))

pub no_end : (es : List Element) → slice_get es (length es - 1) ≡ None → end_of es ≡ []
no_end [] h = refl
no_end (e ∷ es) h = absurd (some_at e es (ap (slice_get (e ∷ es)) (sym (place_is e es)) ∙ h))
