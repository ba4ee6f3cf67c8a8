-- Whom lines of trust let in, and by which rule. Assumes nothing.
use Rattle.std.specs.Prelude.{ℕ, Bool, true, false, cond, not, ◌&&◌, List, [], is_some, Some, None, codes, Option, ◌==◌, slice_index_or, position}
use Rattle.std.specs.List.{slice_get, list_any}
use Rattle.std.specs.Str.{bytes_eq}
use Rattle.text.specs.Bytes.{and_then}
use Rattle.region.specs.Tables.{AccountEntry, Stat, TrustWord, anyone, named, TrustEntry, HostTables}
use Rattle.allows.specs.Paths.{in_home}

-- a word fits a name if it is a plus or that name
abbrev pub word_fits : TrustWord → List ℕ → Bool
word_fits anyone n = true
word_fits (named m) n = bytes_eq m n

-- without a user word, the user's name must be the account's own
abbrev pub user_fits : Option TrustWord → List ℕ → List ℕ → Bool
user_fits None user own = bytes_eq user own
user_fits (Some w) user own = word_fits w user

-- whether a line of trust lets the user b of the host s into the account a
abbrev pub line_fits : HostTables → AccountEntry → AccountEntry → TrustEntry → Bool
line_fits s b a l = word_fits l.host s.name && user_fits l.user b.name a.name

-- the lines of the .rhosts of account i
abbrev pub rhosts_of : HostTables → ℕ → List TrustEntry
rhosts_of t i = slice_index_or t.rhosts i []

-- the row of a file in a home, if it is present
abbrev pub home_row : HostTables → AccountEntry → List ℕ → Option ℕ
home_row t a file = position (λ x. bytes_eq x.path (in_home a.home file) && is_some x.stat) t.files

-- whether a file is present and has this owner
abbrev pub owned_by : ℕ → Option Stat → Bool
owned_by n None = false
owned_by n (Some s) = s.owner == n

-- whether the .rhosts of an account is there and is owned by the account's number
abbrev pub own_rhosts : HostTables → AccountEntry → Bool
own_rhosts t a = owned_by a.number (and_then (home_row t a (codes "/.rhosts")) (λ r. and_then (slice_get t.files r) (λ x. x.stat)))

-- whether hosts.equiv of the host t lets b of s into a
abbrev pub by_equiv : HostTables → AccountEntry → HostTables → AccountEntry → Bool
by_equiv t a s b = not (a.number == 0) && list_any (line_fits s b a) t.equiv

-- whether the .rhosts of account i, a, does
abbrev pub by_rhosts : HostTables → ℕ → AccountEntry → HostTables → AccountEntry → Bool
by_rhosts t i a s b = list_any (line_fits s b a) (rhosts_of t i) && own_rhosts t a

-- the rule by which b of s is let in: 10 by hosts.equiv, and 11 by the .rhosts only where hosts.equiv does not
abbrev pub trusting_rule : HostTables → ℕ → AccountEntry → HostTables → AccountEntry → Option ℕ
trusting_rule t i a s b = cond (by_equiv t a s b) (Some 10) (cond (by_rhosts t i a s b) (Some 11) None)
