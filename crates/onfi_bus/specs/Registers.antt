-- The page register.
use Rattle.std.specs.Prelude.{ℕ, List, take}
use Rattle.onfi_bus.specs.declared.register.Register.{Register}

-- the bytes of a page with its spare in the page register
abbrev pub front : ℕ → Register → List ℕ
front raw register = take raw register.bytes
