-- The first undeclared use of several lists of uses.
use Rattle.std.proofs.Common.{◌≡◌, ◌∙◌, Bool, true, false, cond, List, [], ◌∷◌, ◌++◌, Some, None, Result, Ok, Err, refl, ap}
use Rattle.rtl_text.specs.Tree.{Name}
use Rattle.rtl_reading.specs.Uses.{Use, first_undeclared}
use Rattle.verilog_read.specs.Walk.{IsFault, Gives}
use Rattle.verilog_read.specs.declared.fault.Fault.{Fault}
use Rattle.verilog_read.specs.declared.fault.Fault.TheVariants.{Unknown, NoMemory}

pub err_is : {A E : Type 0} {r : Result A E} {f : E} → ((x : E) × (r ≡ Err x) × (x ≡ f)) → r ≡ Err f
err_is (x, e, g) = e ∙ ap Err g

pub later : (us vs : List Use) → first_undeclared us ≡ None → first_undeclared (us ++ vs) ≡ first_undeclared vs
later [] vs e = refl
later (u ∷ us) vs e = by_head u.declared refl e (λ f. later us vs f)
  where
    by_head : (b : Bool) → u.declared ≡ b → cond b (first_undeclared us) (Some u.name) ≡ None
        → (first_undeclared us ≡ None → first_undeclared (us ++ vs) ≡ first_undeclared vs)
        → first_undeclared (u ∷ us ++ vs) ≡ first_undeclared vs
    by_head true h f more = rw (h) (more f)
    by_head false h f more = absurd (cc)

pub sooner : (us vs : List Use) (name : Name) → first_undeclared us ≡ Some name → first_undeclared (us ++ vs) ≡ Some name
sooner [] vs name e = absurd (cc)
sooner (u ∷ us) vs name e = by_head u.declared refl e (λ f. sooner us vs name f)
  where
    by_head : (b : Bool) → u.declared ≡ b
        → cond b (first_undeclared us) (Some u.name) ≡ Some name
        → (first_undeclared us ≡ Some name → first_undeclared (us ++ vs) ≡ Some name)
        → first_undeclared (u ∷ us ++ vs) ≡ Some name
    by_head true h f more = rw (h) (more f)
    by_head false h f more = rw (h) f

pub both : (us vs : List Use) → first_undeclared us ≡ None → first_undeclared vs ≡ None → first_undeclared (us ++ vs) ≡ None
both us vs e f = later us vs e ∙ f

pub fault_later : (us vs : List Use) (f : Fault) → first_undeclared us ≡ None → IsFault vs f → IsFault (us ++ vs) f
fault_later us vs (Unknown name) e h = later us vs e ∙ h
fault_later us vs NoMemory e h = tt

pub fault_sooner : (us vs : List Use) (f : Fault) → IsFault us f → IsFault (us ++ vs) f
fault_sooner us vs (Unknown name) h = sooner us vs name.now h
fault_sooner us vs NoMemory h = tt

-- what is given, said otherwise
pub gives_map : {T : Type 0} (r : Result T Fault) (uses : List Use) (P Q : T → Type 0) → ((x : T) → P x → Q x) → Gives r uses P → Gives r uses Q
gives_map (Ok x) uses P Q f h = record { known = h.known; holds = f x h.holds }
gives_map (Err e) uses P Q f h = h
