-- Whom a line of trust lets in, by names alone. Assumes nothing.
use Rattle.std.specs.Prelude.{ℕ, Bool, ◌&&◌, List}
use Rattle.region.specs.Tables.{TrustEntry}
use Rattle.allows.specs.Trust.{word_fits, user_fits}

-- whether a line lets the user of the host into the account with the name own
abbrev pub lets_in : List ℕ → List ℕ → List ℕ → TrustEntry → Bool
lets_in host user own l = word_fits l.host host && user_fits l.user user own
