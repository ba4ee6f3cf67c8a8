-- Numbers and privileges, each from the other. Assumes nothing.
use Rattle.std.specs.Prelude.{◌≡◌, ℕ, ◌≤◌, Some, None, Ok, Err, Result}
use Rattle.region.specs.declared.privilege.Privilege.{Privilege}
use Rattle.region.specs.declared.numbering.NotAtOneHost.{NotAtOneHost}
use Rattle.region.specs.Privileges.{decoded, encoded, Valid}

-- the privilege of a number, whose number it is again; or the number is that of root at any host, or past it
abbrev pub Decodes : ℕ → Result Privilege NotAtOneHost → Type 0
Decodes p (Ok x) = (decoded p ≡ Some x) × (encoded x ≡ p)
Decodes p (Err e) = (decoded p ≡ None) × (1416 ≤ p)

-- the number of a privilege, which gives that privilege again if a host can have it
pub record Encodes (x : Privilege) (p : ℕ) : Type 0 where
  pub value : p ≡ encoded x
  pub back : Valid x → decoded p ≡ Some x
