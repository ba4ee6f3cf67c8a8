-- The tables of a host and of an account that stand at their places. Assumes nothing.
use Rattle.std.specs.Prelude.{List, map}
use Rattle.region.specs.Tables.{AccountEntry, HostTables}
use Rattle.tables.specs.Rows.{account_entry}
use Rattle.host.specs.Tables.{host_tables}
use Rattle.grants.specs.declared.places.HostAt.{HostAt}
use Rattle.grants.specs.declared.places.AccountAt.{AccountAt}

-- the tables of all hosts of the site
abbrev pub site_of : HostAt → List HostTables
site_of h = map host_tables h.hosts.now

-- the host's own tables
abbrev pub tables_of : HostAt → HostTables
tables_of h = host_tables h.tables.now

-- what passwd says of the account
abbrev pub entry_of : AccountAt → AccountEntry
entry_of a = account_entry a.account.now
