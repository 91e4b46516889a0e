-- The line that a refusal of joins or links says.
use Rattle.std.specs.Prelude.{ℕ, List, [], ◌∷◌, ◌++◌, Option, Some, None, codes}
use Rattle.std.specs.Fmt.{decimal}
use Rattle.refusal_line.specs.Lines.{refused}
use Rattle.manager_links.specs.declared.error.EndName.{EndName}
use Rattle.manager_links.specs.declared.error.EndName.TheVariants as N
use Rattle.manager_links.specs.declared.error.LinkError.{LinkError}
use Rattle.manager_links.specs.declared.error.LinkError.TheVariants as L

-- a port with its kernel's name and a dot before its own, a stream by its name alone
abbrev pub shown : EndName → List ℕ
shown (N.Port kernel name) = kernel ++ codes "." ++ name
shown (N.Cpu name) = name

-- the line of a refusal; want of memory says none
abbrev pub said : LinkError → Option (List ℕ)
said (L.UnknownPort kernel name) = Some (refused (codes "P1") (kernel ∷ name ∷ []))
said (L.Unlinked end) = Some (refused (codes "P2") (shown end ∷ []))
said (L.LinkedTwice end) = Some (refused (codes "P3") (shown end ∷ []))
said (L.TypeDiffers end) = Some (refused (codes "P4") (shown end ∷ []))
said (L.KernelLoop kernels) = Some (refused (codes "P5") kernels)
said (L.LinkTooDeep link words) =
    Some (refused (codes "P6") (decimal link ∷ decimal words ∷ []))
said (L.SameName name) = Some (refused (codes "P7") (name ∷ []))
said (L.HostToHost name) = Some (refused (codes "P8") (name ∷ []))
said (L.KernelCount count) = Some (refused (codes "P9") (decimal count ∷ []))
said L.NoMemory = None
