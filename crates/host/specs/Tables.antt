-- The tables of a host, and what its calls make of them. Assumes nothing.
use Rattle.std.specs.Prelude.{ℕ, Bool, false, List, [], map, replicate, None, Option, slice_set}
use Rattle.text.specs.Kept.{name_bytes}
use Rattle.region.specs.Tables.{AccountEntry, GroupEntry, FileEntry, TrustEntry, DomainEntry, HostTables}
use Rattle.tables.specs.PasswdText.{accounts_of}
use Rattle.tables.specs.GroupText.{groups_of}
use Rattle.listing.specs.Rows.{absent_rows}
use Rattle.listing.specs.Files.{files_of}
use Rattle.trust.specs.TrustText.{trust_of}
use Rattle.trust.specs.DomainText.{domain_of}
use Rattle.host.specs.declared.host.Host.{Host}
use Rattle.host.specs.declared.text_table.TextTable.{TextTable}
use Rattle.trust.specs.declared.lines.TrustLines.{TrustLines}

-- the lines of a .rhosts
abbrev pub lines_of : TextTable (TrustLines 4) → List TrustEntry
lines_of r = trust_of r.table

-- what a host holds
abbrev pub host_tables : Host → HostTables
host_tables h = record {
  name = name_bytes h.name;
  accounts = accounts_of h.accounts.table;
  groups = groups_of h.groups.table;
  files = files_of h.files.table;
  equiv = trust_of h.equiv.table;
  domain = domain_of h.domain.table;
  rhosts = map lines_of h.rhosts;
  passwd_read = h.accounts.read;
  group_read = h.groups.read;
  mtree_read = h.files.read;
  equiv_read = h.equiv.read;
  ypconf_read = h.domain.read;
  rhosts_read = map (λ r. r.read) h.rhosts;
}

-- the tables of a host none of whose texts has been read
abbrev pub unread_tables : List ℕ → HostTables
unread_tables name = record {
  name = name;
  accounts = [];
  groups = [];
  files = absent_rows;
  equiv = [];
  domain = None;
  rhosts = replicate 16 [];
  passwd_read = false;
  group_read = false;
  mtree_read = false;
  equiv_read = false;
  ypconf_read = false;
  rhosts_read = replicate 16 false;
}

-- the tables with others in place of those of one text, and whether that text has been read
abbrev pub with_accounts : List AccountEntry → Bool → HostTables → HostTables
with_accounts xs read t = record t { accounts = xs; passwd_read = read }

abbrev pub with_groups : List GroupEntry → Bool → HostTables → HostTables
with_groups xs read t = record t { groups = xs; group_read = read }

abbrev pub with_files : List FileEntry → Bool → HostTables → HostTables
with_files xs read t = record t { files = xs; mtree_read = read }

abbrev pub with_equiv : List TrustEntry → Bool → HostTables → HostTables
with_equiv xs read t = record t { equiv = xs; equiv_read = read }

abbrev pub with_domain : Option DomainEntry → Bool → HostTables → HostTables
with_domain d read t = record t { domain = d; ypconf_read = read }

abbrev pub with_rhosts : ℕ → List TrustEntry → Bool → HostTables → HostTables
with_rhosts i xs read t = record t { rhosts = slice_set t.rhosts i xs; rhosts_read = slice_set t.rhosts_read i read }
