-- The widths of the words of streams to the CPU.
use Rattle.std.specs.Prelude.{ℕ, ◌<◌, ◌^◌, List, All, IfSome, Option}
use Rattle.std.specs.List.{AllZip}
use Rattle.fix_arith.specs.Types.{width_of}
use Rattle.manager_links.specs.declared.hosts.HostPort.{HostPort}

-- words of a width, some of which may be undefined
abbrev pub HaveWidth : ℕ → List (Option ℕ) → Type 0
HaveWidth width words = All (λ word. IfSome word (λ bits. bits < 2 ^ width)) words

-- for each of these streams there are words of the width of its type
abbrev pub HaveHostWidths : List HostPort → List (List (Option ℕ)) → Type 0
HaveHostWidths hosts outputs =
    AllZip (λ (host : HostPort) words. HaveWidth (width_of host.t) words) hosts outputs
