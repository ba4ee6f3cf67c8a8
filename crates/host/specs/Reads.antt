-- When a host's texts may be read, what their reads answer, and what the host holds then. Assumes nothing.
use Rattle.std.specs.Prelude.{ℕ, Bool, false, cond, not, ◌&&◌, List, [], length, is_ok, None, Ok, Err, Result, nat_le, nat_lt, slice_index_or}
use Rattle.reading.specs.declared.fault.Kind.{Kind}
use Rattle.reading.specs.declared.fault.Kind.TheVariants.{Passwd, Group, Mtree, Equiv, Ypconf, Rhosts}
use Rattle.reading.specs.declared.fault.LineFault.{LineFault}
use Rattle.reading.specs.declared.fault.TextFault.{TextFault}
use Rattle.reading.specs.declared.fault.Refusal.TheVariants.{TooLong, OutOfTurn, Unknown}
use Rattle.reading.specs.Faults.{fault, in_text}
use Rattle.reading.specs.Reads.{and_then, value_or, text_told}
use Rattle.region.specs.Tables.{TrustEntry, HostTables}
use Rattle.tables.specs.PasswdText.{accounts_in}
use Rattle.tables.specs.GroupText.{groups_in}
use Rattle.listing.specs.Rows.{absent_rows}
use Rattle.listing.specs.Files.{files_in}
use Rattle.trust.specs.TrustText.{trust_in}
use Rattle.trust.specs.DomainText.{domain_in}
use Rattle.host.specs.Tables.{with_accounts, with_groups, with_files, with_equiv, with_domain, with_rhosts}

-- a text of a kind is read only if it has at most 8,192 bytes, and then only in its turn
abbrev pub in_turn : Kind → List ℕ → Bool → Result (Unit {0}) TextFault
in_turn k bs turn = cond (nat_le (length bs) 8192) (cond turn (Ok tt) (Err (in_text k (fault OutOfTurn 0)))) (Err (in_text k (fault TooLong 0)))

-- whether its lines are read
abbrev pub taken : List ℕ → Bool → Bool
taken bs turn = nat_le (length bs) 8192 && turn

-- what the read answers, where its lines make r
abbrev pub answered : {A : Type 0} → Kind → List ℕ → Bool → Result A LineFault → Result (Unit {0}) TextFault
answered k bs turn r = and_then (in_turn k bs turn) (λ _. text_told k r)

-- passwd: once
abbrev pub passwd_answer : HostTables → List ℕ → Result (Unit {0}) TextFault
passwd_answer t bs = answered Passwd bs (not t.passwd_read) (accounts_in bs)

abbrev pub passwd_after : HostTables → List ℕ → HostTables
passwd_after t bs = cond (taken bs (not t.passwd_read)) (with_accounts (value_or [] (accounts_in bs)) (is_ok (accounts_in bs)) t) t

-- group: once, after passwd
abbrev pub group_turn : HostTables → Bool
group_turn t = t.passwd_read && not t.group_read

abbrev pub group_answer : HostTables → List ℕ → Result (Unit {0}) TextFault
group_answer t bs = answered Group bs (group_turn t) (groups_in t.accounts bs)

abbrev pub group_after : HostTables → List ℕ → HostTables
group_after t bs = cond (taken bs (group_turn t)) (with_groups (value_or [] (groups_in t.accounts bs)) (is_ok (groups_in t.accounts bs)) t) t

-- mtree: once
abbrev pub mtree_answer : HostTables → List ℕ → Result (Unit {0}) TextFault
mtree_answer t bs = answered Mtree bs (not t.mtree_read) (files_in bs)

abbrev pub mtree_after : HostTables → List ℕ → HostTables
mtree_after t bs = cond (taken bs (not t.mtree_read)) (with_files (value_or absent_rows (files_in bs)) (is_ok (files_in bs)) t) t

-- hosts.equiv: once
abbrev pub equiv_answer : HostTables → List ℕ → Result (Unit {0}) TextFault
equiv_answer t bs = answered Equiv bs (not t.equiv_read) (trust_in 16 bs)

abbrev pub equiv_after : HostTables → List ℕ → HostTables
equiv_after t bs = cond (taken bs (not t.equiv_read)) (with_equiv (value_or [] (trust_in 16 bs)) (is_ok (trust_in 16 bs)) t) t

-- yp.conf: once; its server is one of the hosts' names
abbrev pub ypconf_answer : List (List ℕ) → HostTables → List ℕ → Result (Unit {0}) TextFault
ypconf_answer names t bs = answered Ypconf bs (not t.ypconf_read) (domain_in names bs)

abbrev pub ypconf_after : List (List ℕ) → HostTables → List ℕ → HostTables
ypconf_after names t bs = cond (taken bs (not t.ypconf_read)) (with_domain (value_or None (domain_in names bs)) (is_ok (domain_in names bs)) t) t

-- the .rhosts of account i: once, after passwd, and only if there is such an account
abbrev pub rhosts_turn : HostTables → ℕ → Bool
rhosts_turn t i = t.passwd_read && not (slice_index_or t.rhosts_read i false)

abbrev pub has_account : HostTables → ℕ → Bool
has_account t i = nat_lt i (length t.accounts)

abbrev pub rhosts_in : HostTables → ℕ → List ℕ → Result (List TrustEntry) LineFault
rhosts_in t i bs = cond (has_account t i) (trust_in 4 bs) (Err (fault Unknown 0))

abbrev pub rhosts_answer : ℕ → HostTables → List ℕ → Result (Unit {0}) TextFault
rhosts_answer i t bs = answered Rhosts bs (rhosts_turn t i) (rhosts_in t i bs)

abbrev pub rhosts_after : ℕ → HostTables → List ℕ → HostTables
rhosts_after i t bs = cond (taken bs (rhosts_turn t i && has_account t i)) (with_rhosts i (value_or [] (trust_in 4 bs)) (is_ok (trust_in 4 bs)) t) t
