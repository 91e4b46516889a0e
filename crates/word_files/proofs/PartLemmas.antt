-- Parts read one after another.
use Rattle.std.proofs.Common.{◌≡◌, List, [], ◌∷◌, ◌++◌, Option, Some, None, option_map, refl, sym, ap, append_assoc}

-- one more item before the rest
pub more_before : {A : Type 0} (done : List A) (a : A) (rest : Option (List A)) → option_map (λ r. done ++ r) (option_map (λ r. a ∷ r) rest) ≡ option_map (λ r. (done ++ a ∷ []) ++ r) rest
more_before done a None = refl
more_before done a (Some r) = ap Some (sym (append_assoc done (a ∷ []) r))
