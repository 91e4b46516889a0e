-- The frame is made port by port.
use Rattle.std.proofs.Common.{◌≡◌, ℕ, List, Bool, ap, ◌∙◌}
use Rattle.rtl_ir.specs.declared.design.Module.{Module}
use Rattle.rtl_build.specs.Ports.{with_port}
use Rattle.rtl_build.specs.Storage.{with_register, with_memory}

pub ported : (m n : Module) (x y : List ℕ) (w : ℕ) (o : Bool) (before : Module) → n ≡ with_port m x w o → x ≡ y → m ≡ before → n ≡ with_port before y w o
ported m n x y w o before is name from = is ∙ ap (λ k. with_port m k w o) name ∙ ap (λ (k : Module). with_port k y w o) from

pub registered : (m n : Module) (x y : List ℕ) (w : ℕ) (before : Module) → n ≡ with_register m x w → x ≡ y → m ≡ before → n ≡ with_register before y w
registered m n x y w before is name from = is ∙ ap (λ k. with_register m k w) name ∙ ap (λ (k : Module). with_register k y w) from

pub remembered : (m n : Module) (x y : List ℕ) (w d : ℕ) (before : Module) → n ≡ with_memory m x w d → x ≡ y → m ≡ before → n ≡ with_memory before y w d
remembered m n x y w d before is name from = is ∙ ap (λ k. with_memory m k w d) name ∙ ap (λ (k : Module). with_memory k y w d) from
