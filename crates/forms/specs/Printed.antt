-- What the privileges of a site print, by number. Assumes nothing.
use Rattle.std.specs.Prelude.{ℕ, cond, List, [], Option, ◌==◌}
use Rattle.std.specs.List.{slice_get}
use Rattle.std.specs.Option.{option_map_or}
use Rattle.rules.specs.Names.{WellNamed}
use Rattle.region.specs.Privileges.{decoded}
use Rattle.region.specs.Sound.{Sound}
use Rattle.region.specs.Tables.{HostTables}
use Rattle.region.specs.declared.privilege.Right.{Right}
use Rattle.region.specs.declared.privilege.Right.TheVariants.{AnyUser, Name, Number, Group, Write, Replace}
use Rattle.allows.specs.Live.{site_live}
use Rattle.allows.specs.Source.{site_rules}
use Rattle.forms.specs.Forms.{name_form, number_form, group_form, write_form, replace_form, any_form, root_form}

-- what an entry prints that is there
abbrev pub printed : {X : Type 0} → Option X → (X → List ℕ) → List ℕ
printed o form = option_map_or form o []

-- what a right prints at a host
abbrev pub right_form : HostTables → Right → List ℕ
right_form t AnyUser = any_form t.name
right_form t (Name i) = printed (slice_get t.accounts i) (λ a. name_form a.name t.name)
right_form t (Number i) = printed (slice_get t.accounts i) (λ a. number_form a.number a.name t.name)
right_form t (Group j) = printed (slice_get t.groups j) (λ b. group_form b.number b.name t.name)
right_form t (Write r) = printed (slice_get t.files r) (λ x. write_form x.path t.name)
right_form t (Replace r) = printed (slice_get t.files r) (λ x. replace_form x.path t.name)

-- what the privilege of a number prints: one that is not live prints nothing
abbrev pub form_of : List HostTables → ℕ → List ℕ
form_of hs p = cond (site_live hs p) (cond (p == 1416) root_form (printed (decoded p) (λ x. printed (slice_get hs x.host) (λ t. right_form t x.right)))) []

-- In every site whose tables are sound, live privileges print 1 to 128 bytes, dead ones none, and no two live ones print alike.
abbrev pub SiteWellNamed : Type 0
SiteWellNamed = (hs : List HostTables) → Sound hs → WellNamed (site_rules hs) (form_of hs)
