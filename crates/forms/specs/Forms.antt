-- The printed forms of privileges, as bytes. Assumes nothing.
use Rattle.std.specs.Prelude.{ℕ, List, ◌++◌, codes, decimal}

-- what a form names, and the host
abbrev pub text_at_host : List ℕ → List ℕ → List ℕ
text_at_host what host = what ++ (codes " at " ++ host)

-- a number and, in brackets, its name, and the host
abbrev pub numbered_at : ℕ → List ℕ → List ℕ → List ℕ
numbered_at number name host = decimal number ++ (codes " (" ++ (name ++ (codes ") at " ++ host)))

-- to be an account by name
abbrev pub name_form : List ℕ → List ℕ → List ℕ
name_form name host = codes "Become user named " ++ text_at_host name host

-- to have a number, whose first account is named beside it
abbrev pub number_form : ℕ → List ℕ → List ℕ → List ℕ
number_form number name host = codes "Become user number " ++ numbered_at number name host

-- to be a member of a group
abbrev pub group_form : ℕ → List ℕ → List ℕ → List ℕ
group_form number name host = codes "Become member of group " ++ numbered_at number name host

-- to write a file
abbrev pub write_form : List ℕ → List ℕ → List ℕ
write_form path host = codes "Write file " ++ text_at_host path host

-- to replace a file
abbrev pub replace_form : List ℕ → List ℕ → List ℕ
replace_form path host = codes "Replace file " ++ text_at_host path host

-- to be any user: no account is named `any`
abbrev pub any_form : List ℕ → List ℕ
any_form host = name_form (codes "any") host

-- to be root at any host: no host is named `any`
abbrev pub root_form : List ℕ
root_form = name_form (codes "root") (codes "any")
